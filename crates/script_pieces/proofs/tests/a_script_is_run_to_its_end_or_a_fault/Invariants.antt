use Rattle.script_pieces.proofs.tests.a_script_is_run_to_its_end_or_a_fault.Given as goal

-- the ledger that the blank counter begins
abbrev pub ghosts-each_script : goal.ghosts-each_script
ghosts-each_script a b = record { name = b.blank.name; parts = b.blank.parts }
