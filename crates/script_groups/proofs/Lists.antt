-- What holds of each of a list holds at each place.
use Rattle.std.proofs.Common.{◌≡◌, ℕ, zero, suc, ◌<◌, arith, List, [], ◌∷◌, length, slice_index_or, ap, sym, subst, ◌∙◌}
use Rattle.std.specs.Prelude.{map}
use Rattle.std.specs.List.{AllByRecursion, range_with_len}
use Rattle.std.proofs.lemmas.List.FromFn.{length-map-range_with_len}
use Rattle.ft_base.specs.declared.limits.TheConstants.{HOST_LIMIT}
use Rattle.iogr_reference.specs.Choices.{port_of}
use Rattle.host_ports.specs.Ports.{all_ports}

pub all_at : {A : Type 0} (P : A → Type 0) (xs : List A) (k : ℕ) (d : A) → AllByRecursion P xs → k < length xs → P (slice_index_or xs k d)
all_at P [] k d all inside = absurd (omega arith)
all_at P (x ∷ xs) zero d all inside = all.0
all_at P (x ∷ xs) (suc k) d all inside = all_at P xs k d all.1 (omega arith)

ports_are : length all_ports ≡ HOST_LIMIT
unfolding all_ports
ports_are = length-map-range_with_len port_of 0 HOST_LIMIT

-- there is a port for every host
pub ports_reach : (ports hosts : List ℕ) → ports ≡ all_ports → AllByRecursion (λ host. host < HOST_LIMIT) hosts →
    (k d : ℕ) → k < length hosts → slice_index_or hosts k d < length ports
ports_reach ports hosts are all k d inside =
    subst (λ n. slice_index_or hosts k d < n) (sym (ap length are ∙ ports_are)) (all_at (λ host. host < HOST_LIMIT) hosts k d all inside)
