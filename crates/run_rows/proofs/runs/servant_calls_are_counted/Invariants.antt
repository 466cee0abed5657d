use Rattle.run_rows.proofs.runs.servant_calls_are_counted.Given as goal

-- the ledger that the blank counter begins
abbrev pub ghosts-each_count : goal.ghosts-each_count
ghosts-each_count a b = record { name = b.blank.name; parts = b.blank.parts }
