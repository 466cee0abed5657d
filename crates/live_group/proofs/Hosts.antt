-- Hosts from 0 on, one after another.
use Rattle.std.proofs.Common.{◌≡◌, ◌∙◌, ℕ, ◌+◌, ◌≤◌, ◌<◌, zero, suc, Bool, false, List, [], ◌∷◌, ◌++◌, length, refl, sym, ap, arith}
use Rattle.std.specs.Prelude.{◌==◌, ◌||◌}
use Rattle.std.specs.List.{AllByRecursion, range_with_len}
use Rattle.std.proofs.lemmas.Bool.Decides.{nat_tests}
use Rattle.std.proofs.lemmas.List.FromFn.{map-range_with_len_more, length-range_with_len}
use mathlib.Core.List.{map-id}
use Rattle.ft_base.specs.Members.{is_member}
use Rattle.live_group.specs.Opening.{first_hosts}

-- one host more
pub one_host_more : (n : ℕ) → first_hosts n ++ n ∷ [] ≡ first_hosts (n + 1)
one_host_more n =
    ap (λ (l : List ℕ). l ++ n ∷ []) (sym (map-id (first_hosts n))) ∙ sym (map-range_with_len_more (λ (k : ℕ). k) 0 n n (omega arith)) ∙ map-id (first_hosts (n + 1))

pub as_many : (n : ℕ) → length (first_hosts n) ≡ n
as_many n = length-range_with_len 0 n

not_there : (low n host : ℕ) → low + n ≤ host → is_member host (range_with_len low n) ≡ false
not_there low zero host le = refl
not_there low (suc n) host le =
    let other : (low == host) ≡ false = grind (arith, nat_tests) in
    ap (λ (b : Bool). b || is_member host (range_with_len (low + 1) n)) other ∙ not_there (low + 1) n host (omega arith)

-- the next host is none of them
pub next_is_new : (n : ℕ) → is_member n (first_hosts n) ≡ false
next_is_new n = not_there 0 n n (omega arith)

below : (low n bound : ℕ) → low + n ≤ bound → AllByRecursion (λ host. host < bound) (range_with_len low n)
below low zero bound le = tt
below low (suc n) bound le = (omega arith, below (low + 1) n bound (omega arith))

-- all are below a number that isn't less than theirs
pub hosts_below : (n bound : ℕ) → n ≤ bound → AllByRecursion (λ host. host < bound) (first_hosts n)
hosts_below n bound le = below 0 n bound (omega arith)
