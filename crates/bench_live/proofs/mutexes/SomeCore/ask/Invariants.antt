use Rattle.bench_live.proofs.mutexes.SomeCore.ask.Given as goal

-- the counter is in a ledger of its own
abbrev pub ghosts-act : goal.ghosts-act
ghosts-act g a = record { name = a.blank.name; parts = a.blank.parts }
