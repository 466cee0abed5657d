use Rattle.disk_group.proofs.main.Given as goal

-- the ledger that the blank counter begins
abbrev pub ghosts-run : goal.ghosts-run
ghosts-run a = record { name = a.blank.name; parts = a.blank.parts }
