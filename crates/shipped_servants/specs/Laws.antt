-- Every kind keeps the laws of a servant.
use Rattle.std.proofs.Common.{◌≡◌, ℕ, zero, suc, ◌+◌, ◌^◌, ◌<◌, true, List, length, Some}
use Rattle.ft_base.specs.CodingLaws as codings
use Rattle.ft_base.specs.Journal.{Entry, after, AllFit}
use Rattle.ft_base.specs.Machine.{Fits, IsGiven}
use Rattle.ft_base.specs.declared.requests.Request.{Request}
use Rattle.servant_account.specs.Laws as accounts
use Rattle.servant_queue.specs.Laws as queues
use Rattle.servant_store.specs.Laws as stores
use Rattle.shipped_servants.specs.Kinds.{kind_of, machine_of_kind, state_of_shipped}
use Rattle.shipped_servants.specs.declared.shipped.Shipped.{Shipped}
use Rattle.shipped_servants.specs.declared.shipped.Shipped.TheVariants as shipped

pub has_state : (s : Shipped) → (machine_of_kind (kind_of s)).is_state (state_of_shipped s) ≡ true
has_state (shipped.Account servant) = codings.has_state accounts.owes servant
has_state (shipped.Store servant) = codings.has_state stores.owes servant
has_state (shipped.Queue servant) = codings.has_state queues.owes servant

pub stays : (k : ℕ) (s : List ℕ) (q : Request) → (machine_of_kind k).is_state s ≡ true → Fits (machine_of_kind k) q
    → (machine_of_kind k).is_state ((machine_of_kind k).step s q).0 ≡ true
stays zero = codings.stays accounts.owes
stays (suc zero) = codings.stays stores.owes
stays (suc (suc k)) = codings.stays queues.owes

pub gives : (k : ℕ) (s : List ℕ) (q : Request) → (machine_of_kind k).is_state s ≡ true → Fits (machine_of_kind k) q
    → IsGiven (machine_of_kind k) q ((machine_of_kind k).step s q).1
gives zero = codings.gives accounts.owes
gives (suc zero) = codings.gives stores.owes
gives (suc (suc k)) = codings.gives queues.owes

pub sized : (k : ℕ) (s : List ℕ) → (machine_of_kind k).is_state s ≡ true → length s + 8 < 2 ^ 32
sized zero = codings.sized accounts.owes
sized (suc zero) = codings.sized stores.owes
sized (suc (suc k)) = codings.sized queues.owes

pub update_sized : (k : ℕ) (s t : List ℕ) → (machine_of_kind k).is_state s ≡ true → (machine_of_kind k).is_state t ≡ true
    → length ((machine_of_kind k).delta s t) + 8 < 2 ^ 32
update_sized zero = codings.update_sized accounts.owes
update_sized (suc zero) = codings.update_sized stores.owes
update_sized (suc (suc k)) = codings.update_sized queues.owes

pub update_stays : (k : ℕ) (s u t : List ℕ) → (machine_of_kind k).is_state s ≡ true → (machine_of_kind k).applied s u ≡ Some t
    → (machine_of_kind k).is_state t ≡ true
update_stays zero = codings.update_stays accounts.owes
update_stays (suc zero) = codings.update_stays stores.owes
update_stays (suc (suc k)) = codings.update_stays queues.owes

pub updates : (k : ℕ) (s : List ℕ) (es : List Entry) → (machine_of_kind k).is_state s ≡ true → AllFit (machine_of_kind k) es
    → (machine_of_kind k).applied s ((machine_of_kind k).delta s (after (machine_of_kind k) s es)) ≡ Some (after (machine_of_kind k) s es)
updates zero = codings.updates accounts.owes
updates (suc zero) = codings.updates stores.owes
updates (suc (suc k)) = codings.updates queues.owes
