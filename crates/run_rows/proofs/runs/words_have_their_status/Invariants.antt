use Rattle.run_rows.proofs.runs.words_have_their_status.Given as goal

-- the ledger that the blank counter begins
abbrev pub ghosts-each_form : goal.ghosts-each_form
ghosts-each_form a b = record { name = b.blank.name; parts = b.blank.parts }
