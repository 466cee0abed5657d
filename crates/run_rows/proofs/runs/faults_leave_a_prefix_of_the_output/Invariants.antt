use Rattle.run_rows.proofs.runs.faults_leave_a_prefix_of_the_output.Given as goal

-- the ledger that the blank counter begins
abbrev pub ghosts-each_fault : goal.ghosts-each_fault
ghosts-each_fault a b = record { name = b.blank.name; parts = b.blank.parts }
