-- What a write leaves of the bytes before it, and of those behind it.
use Rattle.std.proofs.Common.{◌≡◌, ℕ, ◌+◌, ◌-◌, ◌≤◌, List, [], ◌∷◌, ◌++◌, length, take, drop, refl, sym, ◌∙◌, ap, arith, append_assoc, length-append}
use Rattle.std.proofs.lemmas.List.{drop_at, take_at}
use Rattle.std.proofs.Math.Seq.{take-append-add}
use Rattle.disk_log.specs.Disk.{Each, Torn, Follows, IsWritten}
use Rattle.disk_log.specs.Standing.{Begins, Gated}

take_front : (front tail : List ℕ) (at : ℕ) → length front ≤ at → take at (front ++ tail) ≡ front ++ take (at - length front) tail
take_front front tail at le =
    let same : at ≡ length front + (at - length front) = omega (arith, le) in
    ap (λ (n : ℕ). take n (front ++ tail)) same ∙ take-append-add front tail (at - length front)

pub torn_begins : (front : List ℕ) (at n : ℕ) (d c : List ℕ) → length front ≤ at → Begins front d → Torn at n d c → Begins front c
torn_begins front at n d c le b torn =
    let head : take at d ≡ front ++ take (at - length front) b.0 = ap (λ (l : List ℕ). take at l) b.1 ∙ take_front front b.0 at le in (
      take (at - length front) b.0 ++ torn.between ++ drop (at + n) d,
      torn.is ∙ ap (λ (l : List ℕ). l ++ torn.between ++ drop (at + n) d) head
          ∙ ap (λ (l : List ℕ). l ++ drop (at + n) d) (append_assoc front (take (at - length front) b.0) torn.between)
          ∙ append_assoc front (take (at - length front) b.0 ++ torn.between) (drop (at + n) d),
    )

pub written_begins : (front : List ℕ) (at : ℕ) (piece d c : List ℕ) → length front ≡ at → Begins front d → IsWritten at piece d c → Begins (front ++ piece) c
written_begins front at piece d c e b written =
    let head : take at d ≡ front = ap (λ (l : List ℕ). take at l) b.1 ∙ take_at front b.0 at e in
    (drop (at + length piece) d, written ∙ ap (λ (l : List ℕ). l ++ piece ++ drop (at + length piece) d) head)

-- ---- a mark

one : (l : List ℕ) → length l ≡ 1 → (x : ℕ) × (l ≡ x ∷ [])
one [] e = absurd (omega (arith, e))
one (x ∷ []) e = (x, refl)
one (x ∷ y ∷ l) e = absurd (omega (arith, e))

-- what is behind a mark
behind_mark : (front behind tail : List ℕ) (gate at : ℕ) → length front ≡ at → drop (at + 1) (front ++ (gate ∷ (behind ++ tail))) ≡ behind ++ tail
behind_mark front behind tail gate at e =
    ap (λ (l : List ℕ). drop (at + 1) l) (sym (append_assoc front (gate ∷ []) (behind ++ tail)))
    ∙ drop_at (front ++ gate ∷ []) (behind ++ tail) (at + 1) (omega (arith, length-append front (gate ∷ []), e))

gated_is : (front behind d : List ℕ) (gate : ℕ) (b : Begins (front ++ gate ∷ behind) d) → d ≡ front ++ (gate ∷ (behind ++ b.0))
gated_is front behind d gate b = b.1 ∙ append_assoc front (gate ∷ behind) b.0

pub written_mark : (front behind : List ℕ) (at mark : ℕ) (d c : List ℕ) → length front ≡ at → Gated front behind d → IsWritten at (mark ∷ []) d c → Begins (front ++ mark ∷ behind) c
written_mark front behind at mark d c e g written =
    let is = gated_is front behind d g.0 g.1 in
    let tail = g.1.0 in
    let head : take at d ≡ front = ap (λ (l : List ℕ). take at l) is ∙ take_at front (g.0 ∷ (behind ++ tail)) at e in
    let back : drop (at + 1) d ≡ behind ++ tail = ap (λ (l : List ℕ). drop (at + 1) l) is ∙ behind_mark front behind tail g.0 at e in (
      tail,
      written ∙ ap (λ (l : List ℕ). l ++ (mark ∷ []) ++ drop (at + 1) d) head ∙ ap (λ (l : List ℕ). front ++ (mark ∷ []) ++ l) back
          ∙ append_assoc front (mark ∷ []) (behind ++ tail) ∙ sym (append_assoc front (mark ∷ behind) tail),
    )

pub torn_mark : (front behind : List ℕ) (at : ℕ) (d c : List ℕ) → length front ≡ at → Gated front behind d → Torn at 1 d c → Gated front behind c
torn_mark front behind at d c e g torn =
    let is = gated_is front behind d g.0 g.1 in
    let tail = g.1.0 in
    let head : take at d ≡ front = ap (λ (l : List ℕ). take at l) is ∙ take_at front (g.0 ∷ (behind ++ tail)) at e in
    let back : drop (at + 1) d ≡ behind ++ tail = ap (λ (l : List ℕ). drop (at + 1) l) is ∙ behind_mark front behind tail g.0 at e in
    let whole : c ≡ front ++ torn.between ++ (behind ++ tail) =
    torn.is ∙ ap (λ (l : List ℕ). l ++ torn.between ++ drop (at + 1) d) head ∙ ap (λ (l : List ℕ). front ++ torn.between ++ l) back in
    let long : length torn.between ≡ 1 =
    omega (arith, torn.no_longer, torn.no_shorter, ap length whole, ap length is, length-append (front ++ torn.between) (behind ++ tail), length-append front torn.between, length-append front (g.0 ∷ (behind ++ tail)), length-append behind tail) in
    let byte = one torn.between long in (
      byte.0,
      (
        tail,
        whole ∙ ap (λ (l : List ℕ). front ++ l ++ (behind ++ tail)) byte.1 ∙ append_assoc front (byte.0 ∷ []) (behind ++ tail)
            ∙ sym (append_assoc front (byte.0 ∷ behind) tail),
      ),
    )

-- ---- all images at once

pub each_torn : (P old new : List ℕ → Type 0) (at n : ℕ) → Follows (Torn at n) old new → ((d c : List ℕ) → P d → Torn at n d c → P c) → Each old P → Each new P
each_torn P old new at n follows closed before c now =
    let from = follows c now in
    closed from.0 c (before from.0 from.1) from.2
