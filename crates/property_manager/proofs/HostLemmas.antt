-- Hosts of a list, one after another.
use Rattle.std.proofs.Common.{◌≡◌, ◌+◌, ◌<◌, ◌∷◌, [], ◌++◌, ◌||◌, ℕ, Bool, true, false, List, Option, Some, None, take, drop, length, arith, refl, sym, ap, subst, ◌∙◌, eqb-true}
use Rattle.std.specs.Prelude.{nat_eq, position}
use Rattle.std.specs.List.{AllByRecursion, IsDistinct, list_any, slice_split}
use Rattle.std.specs.Option.{option_and_then}
use Rattle.std.proofs.lemmas.Cmp.{nat_eq_equiv}
use Rattle.std.proofs.lemmas.List.{length-append}
use Rattle.std.proofs.lemmas.Map.Keys.{IsDistinct-push}
use Rattle.std.proofs.lemmas.Map.Steps.{length-le_from_distinct_below}
use Rattle.ft_base.specs.Members.{is_member}
use Rattle.ft_base.specs.declared.limits.TheConstants.{HOST_LIMIT}
use Rattle.property_manager.specs.Hosts.{AreHosts, hosts_from, is_comma, with_host}
use Rattle.property_manager.proofs.PartLemmas.{cut, whole}

-- ---- there is room for each

any_flipped : (host : ℕ) (hosts : List ℕ) → is_member host hosts ≡ list_any (nat_eq host) hosts
any_flipped host [] = refl
any_flipped host (h ∷ hosts) = λ i. nat_eq_equiv.symm h host i || any_flipped host hosts i

all_below : (hosts : List ℕ) → AllByRecursion (λ h. h < HOST_LIMIT) hosts → (q : ℕ) → list_any (nat_eq q) hosts ≡ true → q < HOST_LIMIT
all_below [] all q there = absurd cc
all_below (h ∷ hosts) all q there = go (nat_eq q h) refl there (all_below hosts all.1 q)
  where
    go : (b : Bool) → nat_eq q h ≡ b → (b || list_any (nat_eq q) hosts) ≡ true → (list_any (nat_eq q) hosts ≡ true → q < HOST_LIMIT) → q < HOST_LIMIT
    go true same t rest = subst (λ (n : ℕ). n < HOST_LIMIT) (sym (eqb-true q h same)) all.0
    go false other t rest = rest t

below_push : (hosts : List ℕ) (host : ℕ) → AllByRecursion (λ h. h < HOST_LIMIT) hosts → host < HOST_LIMIT → AllByRecursion (λ h. h < HOST_LIMIT) (hosts ++ host ∷ [])
below_push [] host all below = (below, tt)
below_push (h ∷ hosts) host all below = (all.0, below_push hosts host all.1 below)

pub no_hosts : (hosts : List ℕ) → hosts ≡ [] → AreHosts hosts
unfolding IsDistinct
no_hosts hosts none = subst AreHosts (sym none) (record { different = tt; below = tt })

joined : (hosts : List ℕ) (host : ℕ) → AreHosts hosts → host < HOST_LIMIT → is_member host hosts ≡ false → AreHosts (hosts ++ host ∷ [])
joined hosts host are below new = record {
  different = IsDistinct-push nat_eq_equiv hosts host are.different (sym (any_flipped host hosts) ∙ new);
  below = below_push hosts host are.below below;
}

pub one_joins : (hosts more : List ℕ) (host : ℕ) → AreHosts hosts → host < HOST_LIMIT → is_member host hosts ≡ false → more ≡ hosts ++ host ∷ [] → AreHosts more
one_joins hosts more host are below new is = subst AreHosts (sym is) (joined hosts host are below new)

pub room : (hosts : List ℕ) (host : ℕ) → AreHosts hosts → host < HOST_LIMIT → is_member host hosts ≡ false → length hosts < HOST_LIMIT
room hosts host are below new =
    let more = joined hosts host are below new in
    let few = length-le_from_distinct_below (hosts ++ host ∷ []) HOST_LIMIT more.different (all_below (hosts ++ host ∷ []) more.below) in
    omega (arith, few, length-append hosts (host ∷ []))

-- ---- part by part

opened : (hosts text : List ℕ) (rest : List (List ℕ)) → hosts_from hosts (text ∷ rest) ≡ option_and_then (λ more. hosts_from more rest) (with_host hosts text)
unfolding hosts_from
opened hosts text rest = refl

one_part : (hosts text : List ℕ) → hosts_from hosts (text ∷ []) ≡ with_host hosts text
unfolding hosts_from
one_part hosts text = go (with_host hosts text)
  where
    go : (o : Option (List ℕ)) → option_and_then (λ more. Some more) o ≡ o
    go None = refl
    go (Some more) = refl

-- the part before a comma names a new host
pub one_more : (all : Option (List ℕ)) (hosts more text : List ℕ) (place : ℕ) → all ≡ hosts_from hosts (slice_split is_comma text)
    → position is_comma text ≡ Some place → with_host hosts (take place text) ≡ Some more → all ≡ hosts_from more (slice_split is_comma (drop (place + 1) text))
one_more all hosts more text place before at named =
    before ∙ ap (hosts_from hosts) (cut is_comma text place at) ∙ opened hosts (take place text) (slice_split is_comma (drop (place + 1) text))
    ∙ ap (option_and_then (λ more. hosts_from more (slice_split is_comma (drop (place + 1) text)))) named

-- it names none
pub no_more : (all : Option (List ℕ)) (hosts text : List ℕ) (place : ℕ) → all ≡ hosts_from hosts (slice_split is_comma text)
    → position is_comma text ≡ Some place → with_host hosts (take place text) ≡ None → None ≡ all
no_more all hosts text place before at none =
    sym (before ∙ ap (hosts_from hosts) (cut is_comma text place at) ∙ opened hosts (take place text) (slice_split is_comma (drop (place + 1) text))
    ∙ ap (option_and_then (λ more. hosts_from more (slice_split is_comma (drop (place + 1) text)))) none)

-- no comma is left
pub last_part : (all : Option (List ℕ)) (hosts text : List ℕ) → all ≡ hosts_from hosts (slice_split is_comma text)
    → position is_comma text ≡ None → with_host hosts text ≡ all
last_part all hosts text before none = sym (before ∙ ap (hosts_from hosts) (whole is_comma text none) ∙ one_part hosts text)
