use Rattle.servant_rows.proofs.main.Given as goal

-- the counter is in a ledger of its own
abbrev pub ghosts-run : goal.ghosts-run
ghosts-run a = record { name = a.blank.name; parts = a.blank.parts }
