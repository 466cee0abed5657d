-- A list of service contexts. (GIOP chapter, `IOP::ServiceContextList`.)
use Rattle.std.specs.Prelude.{ℕ, List}
use Rattle.cdr_codec.specs.declared.faults.CdrWhy.{CdrWhy}
use Rattle.cdr_codec.specs.Formats.{Format, tagged, all_tagged}
use Rattle.ft_contexts.specs.declared.lists.Context.{Context}

abbrev pub context_with : ℕ × List ℕ → Context
context_with x = record { id = x.0; content = x.1 }

abbrev pub context_parts : Context → ℕ × List ℕ
context_parts c = (c.id, c.content)

-- a context is its id, and its content as octets
abbrev pub context : Format CdrWhy Context
context = tagged context_with context_parts

abbrev pub contexts : Format CdrWhy (List Context)
contexts = all_tagged context_with context_parts
