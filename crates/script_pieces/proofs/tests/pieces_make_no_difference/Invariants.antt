use Rattle.script_pieces.proofs.tests.pieces_make_no_difference.Given as goal

-- the ledger that the blank counter begins
abbrev pub ghosts-each_byte : goal.ghosts-each_byte
ghosts-each_byte a b = record { name = b.blank.name; parts = b.blank.parts }
