-- The first subscription by a name.
use Rattle.std.specs.Prelude.{ℕ, ◌&&◌, Bool, if◌then◌else◌, List, [], ◌∷◌, Option, None, is_some}
use Rattle.std.specs.List.{find}
use Rattle.std.specs.Option.{option_and_then}
use Rattle.std.specs.Str.{bytes_eq}
use Rattle.fault_notifier.specs.declared.subscribers.Sub.{Sub}
use Rattle.script_subscribers.specs.declared.named.Named.{Named}

-- it listens, and has this name
abbrev pub has : List ℕ → Named → Bool
has name z = is_some z.sub && bytes_eq z.name name

unfoldable pub first_sub : List ℕ → List Named → Option Sub
first_sub name zs = option_and_then (λ (z : Named). z.sub) (find (has name) zs)

abbrev pub without_sub : Named → Named
without_sub z = record z { sub = None }

-- the first who listens by a name is changed
unfoldable pub change_first : (Named → Named) → List ℕ → List Named → List Named
change_first change name [] = []
change_first change name (z ∷ zs) = if has name z then change z ∷ zs else z ∷ change_first change name zs
