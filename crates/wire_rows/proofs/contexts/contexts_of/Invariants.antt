use Rattle.std.specs.List.{All}
use Rattle.ft_contexts.specs.Finding.{IsShort}
use Rattle.wire_rows.proofs.contexts.contexts_of.Given as goal

-- the contexts so far are short
abbrev pub invariant-loop-word : goal.invariant-loop-word
invariant-loop-word l = All IsShort l.contexts.items
