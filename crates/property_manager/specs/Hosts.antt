-- The values that list hosts: `-` for none, or different hosts between commas.
use Rattle.std.specs.Prelude.{ℕ, ◌==◌, ◌<◌, Bool, nat_eq, if◌then◌else◌, List, [], ◌∷◌, ◌++◌, Option, Some, None, codes}
use Rattle.std.specs.List.{AllByRecursion, IsDistinct, slice_split}
use Rattle.std.specs.Option.{option_and_then}
use Rattle.std.specs.Str.{bytes_eq}
use Rattle.ft_base.specs.Members.{is_member}
use Rattle.ft_base.specs.declared.limits.TheConstants.{HOST_LIMIT}
use Rattle.property_manager.specs.Numbers.{host}

abbrev pub is_comma : ℕ → Bool
is_comma byte = byte == 44

-- hosts, and one that isn't among them
abbrev pub joined : List ℕ → Option ℕ → Option (List ℕ)
joined hosts None = None
joined hosts (Some h) = if is_member h hosts then None else Some (hosts ++ h ∷ [])

abbrev pub with_host : List ℕ → List ℕ → Option (List ℕ)
with_host hosts text = joined hosts (host text)

-- hosts, and those that further texts name, each a new one
unfoldable pub hosts_from : List ℕ → List (List ℕ) → Option (List ℕ)
hosts_from hosts [] = Some hosts
hosts_from hosts (text ∷ texts) = option_and_then (λ more. hosts_from more texts) (with_host hosts text)

unfoldable pub factories : List ℕ → Option (List ℕ)
factories text = if bytes_eq text (codes "-") then Some [] else hosts_from [] (slice_split is_comma text)

-- hosts that differ
pub record AreHosts (hosts : List ℕ) : Type 0 where
  pub different : IsDistinct nat_eq hosts
  pub below : AllByRecursion (λ host. host < HOST_LIMIT) hosts
