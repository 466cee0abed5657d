-- Where bytes lie. No public clause cites this module.
use Rattle.std.specs.Prelude.{ℕ, List}
use Rattle.ft_base.specs.declared.stored.Kept.{Kept}
use Rattle.ft_base.specs.declared.stored.Kept.TheVariants.{Here, Apart}

abbrev pub kept_bytes : Kept → List ℕ
kept_bytes (Here s) = s
kept_bytes (Apart v) = v.items
