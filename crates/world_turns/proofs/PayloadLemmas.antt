-- Bytes that are counted up to one more than there can be, one message after another.
use Rattle.std.proofs.Common.{◌≡◌, ℕ, zero, suc, ◌+◌, ◌<◌, ◌≤◌, arith, Bool, true, false, cond, List, [], ◌∷◌, length, drop, refl, sym, ap, ◌∙◌}
use Rattle.std.specs.Prelude.{nat_le, slice_get, Some}
use Rattle.std.proofs.lemmas.Bool.Decides.{nat_tests}
use Rattle.group_model.specs.declared.events.Out.{Out}
use Rattle.script_world.specs.World.{World, at_most_one_past, counted}
use Rattle.script_world.specs.declared.limits.TheConstants.{BYTE_LIMIT}
use Rattle.world_turns.specs.Sending.{payload, payloads}

-- what is counted so far may be cut off before the rest is added
pub cut_before : (bytes rest : ℕ) → at_most_one_past (at_most_one_past bytes + rest) ≡ at_most_one_past (bytes + rest)
cut_before bytes rest = go (nat_le bytes BYTE_LIMIT) (nat_le (bytes + rest) BYTE_LIMIT) refl refl
  where
    go : (b c : Bool) → nat_le bytes BYTE_LIMIT ≡ b → nat_le (bytes + rest) BYTE_LIMIT ≡ c →
        at_most_one_past (at_most_one_past bytes + rest) ≡ at_most_one_past (bytes + rest)
    go true c e f = ap (λ (d : Bool). at_most_one_past (cond d bytes (BYTE_LIMIT + 1) + rest)) e
    go false true e f = absurd (grind (arith, nat_tests))
    go false false e f =
        let past : nat_le ((BYTE_LIMIT + 1) + rest) BYTE_LIMIT ≡ false = grind (arith, nat_tests) in
        ap (λ (d : Bool). at_most_one_past (cond d bytes (BYTE_LIMIT + 1) + rest)) e
        ∙ ap (λ (d : Bool). cond d ((BYTE_LIMIT + 1) + rest) (BYTE_LIMIT + 1)) past
        ∙ sym (ap (λ (d : Bool). cond d (bytes + rest) (BYTE_LIMIT + 1)) f)

pub small_is : (bytes : ℕ) → at_most_one_past bytes ≤ BYTE_LIMIT + 1
small_is bytes = go (nat_le bytes BYTE_LIMIT) refl
  where
    go : (b : Bool) → nat_le bytes BYTE_LIMIT ≡ b → cond b bytes (BYTE_LIMIT + 1) ≤ BYTE_LIMIT + 1
    go true e = grind (arith, nat_tests)
    go false e = omega arith

pub small_stays : (bytes : ℕ) → bytes ≤ BYTE_LIMIT + 1 → at_most_one_past bytes ≡ bytes
small_stays bytes small = go (nat_le bytes BYTE_LIMIT) refl
  where
    go : (b : Bool) → nat_le bytes BYTE_LIMIT ≡ b → cond b bytes (BYTE_LIMIT + 1) ≡ bytes
    go true e = refl
    go false e = (let past : BYTE_LIMIT < bytes = grind (arith, nat_tests) in let same : BYTE_LIMIT + 1 ≡ bytes = omega arith in same)

drop_at : (outs : List Out) (i : ℕ) (out : Out) → slice_get outs i ≡ Some out → payloads (drop i outs) ≡ payload out.carried + payloads (drop (suc i) outs)
drop_at [] i out e = absurd cc
drop_at (o ∷ outs) zero out e = (let same : o ≡ out = cc in ap (λ (x : Out). payload x.carried + payloads outs) same)
drop_at (o ∷ outs) (suc i) out e = drop_at outs i out e

-- one more is counted
pub counts_on : (outs : List Out) (i bytes : ℕ) (out : Out) → slice_get outs i ≡ Some out → at_most_one_past (bytes + payloads (drop i outs)) ≡ at_most_one_past (payloads outs)
    → at_most_one_past (at_most_one_past (bytes + payload out.carried) + payloads (drop (i + 1) outs)) ≡ at_most_one_past (payloads outs)
counts_on outs i bytes out at so =
    cut_before (bytes + payload out.carried) (payloads (drop (i + 1) outs))
    ∙ ap at_most_one_past (let there = drop_at outs i out at in let next : suc i ≡ i + 1 = omega arith in let left = ap (λ (k : ℕ). payloads (drop k outs)) next in let same : (bytes + payload out.carried) + payloads (drop (i + 1) outs) ≡ bytes + payloads (drop i outs) = omega (arith, there, left) in same)
    ∙ so

all_dropped : (outs : List Out) (i : ℕ) → length outs ≤ i → payloads (drop i outs) ≡ 0
all_dropped [] zero h = refl
all_dropped [] (suc i) h = refl
all_dropped (o ∷ outs) zero h = absurd (omega arith)
all_dropped (o ∷ outs) (suc i) h = all_dropped outs i (omega arith)

pub counts_all : (outs : List Out) (i bytes : ℕ) → length outs ≤ i → bytes ≤ BYTE_LIMIT + 1 → at_most_one_past (bytes + payloads (drop i outs)) ≡ at_most_one_past (payloads outs)
    → bytes ≡ at_most_one_past (payloads outs)
counts_all outs i bytes past small so =
    sym (small_stays bytes small) ∙ ap at_most_one_past (let none = all_dropped outs i past in let same : bytes ≡ bytes + payloads (drop i outs) = omega (arith, none) in same) ∙ so

-- the count of a world takes what is cut off as well
pub counted_so : (w : World) (bytes : ℕ) → counted w (at_most_one_past bytes) ≡ counted w bytes
counted_so w bytes =
    ap (λ (n : ℕ). record w { bytes = n })
    (ap at_most_one_past (let turned : w.bytes + at_most_one_past bytes ≡ at_most_one_past bytes + w.bytes = omega arith in turned)
    ∙ cut_before bytes w.bytes
    ∙ ap at_most_one_past (let turned : bytes + w.bytes ≡ w.bytes + bytes = omega arith in turned))
