use Rattle.group_core.proofs.tests.failing_writes.Given as goal

-- the ledger that the blank counter begins
abbrev pub ghosts-each_write : goal.ghosts-each_write
ghosts-each_write a b = record { name = b.blank.name; parts = b.blank.parts }
