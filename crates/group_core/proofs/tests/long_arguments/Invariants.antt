use Rattle.group_core.proofs.tests.long_arguments.Given as goal

-- the ledger that the blank counter begins
abbrev pub ghosts-get_both : goal.ghosts-get_both
ghosts-get_both a b = record { name = b.blank.name; parts = b.blank.parts }
