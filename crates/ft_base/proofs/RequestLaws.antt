-- Two keys, and two requests, are equal exactly where all their fields are.
use Rattle.std.proofs.Common.{◌≡◌, ◌&&◌, Bool, eqb, ap}
use Rattle.std.specs.Bool.{Decides}
use Rattle.std.specs.Ordering.{int_eq}
use Rattle.std.specs.Str.{bytes_eq}
use Rattle.std.proofs.lemmas.Bool.Decides.{Decides-and, Decides-eqb, Decides-int_eq, Decides-like}
use Rattle.std.proofs.lemmas.Slice.Eq.{bytes_eq-Decides}
use Rattle.ft_base.specs.declared.requests.Key.{Key}
use Rattle.ft_base.specs.declared.requests.Request.{Request}

pub keys : (one other : Key)
    → Decides ((bytes_eq one.client other.client && int_eq one.retention.0 other.retention.0) && eqb one.expiration.0 other.expiration.0) (one ≡ other)
keys one other =
    Decides-like _ (λ p. λ i. record { client = p.0.0 i; retention = record { 0 = p.0.1 i }; expiration = record { 0 = p.1 i } })
    (λ e. ((ap (λ k. k.client) e, ap (λ k. k.retention.0) e), ap (λ k. k.expiration.0) e))
    (Decides-and _ _
    (Decides-and _ _ (bytes_eq-Decides one.client other.client) (Decides-int_eq one.retention.0 other.retention.0))
    (Decides-eqb one.expiration.0 other.expiration.0))

pub requests : (one other : Request) (k : Bool) → Decides k (one.key ≡ other.key)
    → Decides ((bytes_eq one.op other.op && bytes_eq one.args other.args) && k) (one ≡ other)
requests one other k same =
    Decides-like _ (λ p. λ i. record { key = p.1 i; op = p.0.0 i; args = p.0.1 i })
    (λ e. ((ap (λ q. q.op) e, ap (λ q. q.args) e), ap (λ q. q.key) e))
    (Decides-and _ _ (Decides-and _ _ (bytes_eq-Decides one.op other.op) (bytes_eq-Decides one.args other.args)) same)
