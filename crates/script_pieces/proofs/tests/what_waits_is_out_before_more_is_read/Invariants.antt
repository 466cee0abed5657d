use Rattle.script_pieces.proofs.tests.what_waits_is_out_before_more_is_read.Given as goal

-- the ledger that the blank counter begins
abbrev pub ghosts-each_flush : goal.ghosts-each_flush
ghosts-each_flush a b = record { name = b.blank.name; parts = b.blank.parts }
