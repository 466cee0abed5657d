-- The members of a group.
use Rattle.std.specs.Prelude.{◌≡◌, ℕ, ◌==◌, Bool, true, false, List, [], ◌∷◌, Option, Some, None}
use Rattle.std.specs.List.{list_any}
use Rattle.ft_base.specs.declared.numbers.HostNo.{HostNo}

abbrev pub is_member : ℕ → List ℕ → Bool
is_member host hosts = list_any (λ other. other == host) hosts

abbrev pub is_empty : List ℕ → Bool
is_empty [] = true
is_empty (host ∷ hosts) = false

-- the first that joined
abbrev pub first_of : List ℕ → Option HostNo
first_of [] = None
first_of (host ∷ hosts) = Some (record { 0 = host })

-- no host stands twice
abbrev pub AreDifferent : List ℕ → Type 0
AreDifferent [] = Unit {0}
AreDifferent (host ∷ hosts) = (is_member host hosts ≡ false) × AreDifferent hosts
