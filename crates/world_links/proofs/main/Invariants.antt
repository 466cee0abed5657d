use Rattle.world_links.proofs.main.Given as goal

-- the ledger that the blank counter begins
abbrev pub ghosts-rows : goal.ghosts-rows
ghosts-rows g a = record { name = a.blank.name; parts = a.blank.parts }
