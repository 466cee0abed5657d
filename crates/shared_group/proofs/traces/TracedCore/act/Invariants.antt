use Rattle.shared_group.proofs.traces.TracedCore.act.Given as goal

-- the counter is in a ledger of its own
abbrev pub ghosts-act_counted : goal.ghosts-act_counted
ghosts-act_counted g a = record { name = a.blank.name; parts = a.blank.parts }
