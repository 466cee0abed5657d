-- Steps of reading: what a step that did not fail gave, and a piece of the rest.
use Rattle.std.proofs.Common.{◌≡◌, ℕ, ◌+◌, ◌≤◌, ◌⊎◌, true, false, ltb, List, ◌++◌, length, take, drop, Result, Ok, Err, refl, sym, ap, subst, ◌∙◌, append_assoc, length-append, length-drop, length-take-le, take-append-drop, drop-drop, arith, inl, inr, le-ltb, lt-ltb}
use Rattle.std.proofs.lemmas.List.{take_at, drop_at}
use Rattle.std.proofs.lemmas.Bool.{cases_lt}
use Rattle.cdr_codec.specs.declared.orders.Order.{Order}
use Rattle.cdr_codec.specs.declared.faults.CdrWhy.{CdrWhy}
use Rattle.cdr_codec.specs.declared.faults.CdrWhy.TheVariants.{Short}
use Rattle.cdr_codec.specs.Reading.{Reader, reader_at, longer, Fault, fault_at, ◌>>=◌, taken}
use Rattle.cdr_codec.specs.Laws.{Moved}

-- a result, a value with the reader behind it, with their types
abbrev pub done : {A E : Type 0} → A → Result A E
done x = Ok x

abbrev pub failed : {A E : Type 0} → E → Result A E
failed e = Err e

abbrev pub with_reader : {X : Type 0} → X → Reader → X × Reader
with_reader x r = (x, r)

-- the value of a step that did not fail
pub bind_ok : {A B E : Type 0} (r : Result A E) (f : A → Result B E) (y : B) → (r >>= f) ≡ Ok y → (x : A) × (r ≡ Ok x) × (f x ≡ Ok y)
bind_ok (Ok x) f y e = (x, refl, e)
bind_ok (Err d) f y e = absurd cc

-- the fault is the first step's, or the second's
pub bind_err : {A B E : Type 0} (r : Result A E) (f : A → Result B E) (d : E) → (r >>= f) ≡ Err d → (r ≡ Err d) ⊎ ((x : A) × (r ≡ Ok x) × (f x ≡ Err d))
bind_err (Ok x) f d e = inr (x, refl, e)
bind_err (Err b) f d e = inl cc

-- a step after one that did not fail
pub bind_goes : {A B E : Type 0} (r : Result A E) (f : A → Result B E) (x : A) (z : Result B E) → r ≡ Ok x → f x ≡ z → (r >>= f) ≡ z
bind_goes r f x z e d = rw e d

-- a step after one that failed
pub bind_stops : {A B E : Type 0} (r : Result A E) (f : A → Result B E) (d : E) → r ≡ Err d → (r >>= f) ≡ Err d
bind_stops r f d e = rw e refl

pub ok_is : {A E : Type 0} (x y : A) → done {A = A} {E = E} x ≡ done y → x ≡ y
ok_is x y e = cc

pub ok_err : {A E : Type 0} (x : A) (d : E) → done {A = A} {E = E} x ≡ failed d → ⊥
ok_err x d e = cc

pub err_ok : {A E : Type 0} (x : A) (d : E) → failed {A = A} {E = E} d ≡ done x → ⊥
err_ok x d e = cc

pub err_is : {A E : Type 0} (x y : E) → failed {A = A} {E = E} x ≡ failed y → x ≡ y
err_is x y e = cc

-- one move behind another
pub moves : (r s t : Reader) (front back : List ℕ) → Moved r front s → Moved s back t → Moved r (front ++ back) t
moves r s t front back p q = record {
  is = p.is ∙ ap (λ (l : List ℕ). front ++ l) q.is ∙ sym (append_assoc front back t.rest);
  at_end =
      let order-is : s.order ≡ r.order = ap (λ (x : Reader). x.order) p.at_end in
      let place-is : s.place ≡ r.place + length front = ap (λ (x : Reader). x.place) p.at_end in
      let e : s.place + length back ≡ r.place + length (front ++ back) = omega (arith, length-append front back) in
      q.at_end ∙ rw (order-is, e) refl;
}

-- the reader behind what it went over, where the text goes on
pub longer-after : (r s : Reader) (bytes more : List ℕ) → Moved r bytes s → longer s more ≡ reader_at r.order (r.place + length bytes) (s.rest ++ more)
longer-after r s bytes more m =
    let order-is : s.order ≡ r.order = ap (λ (x : Reader). x.order) m.at_end in
    let place-is : s.place ≡ r.place + length bytes = ap (λ (x : Reader). x.place) m.at_end in
    rw (order-is, place-is) refl

pub longer-front : (r s : Reader) (bytes more : List ℕ) → Moved r bytes s → longer r more ≡ reader_at r.order r.place (bytes ++ (s.rest ++ more))
longer-front r s bytes more m = ap (λ (l : List ℕ). reader_at r.order r.place l) (ap (λ (l : List ℕ). l ++ more) m.is ∙ append_assoc bytes s.rest more)

-- ---- a piece of the rest

-- what was taken behind what was skipped
pub record Takes (skip count : ℕ) (r : Reader) (y : List ℕ × Reader) : Type 0 where
  pub pad : List ℕ
  pub skipped : length pad ≡ skip
  pub counted : length y.0 ≡ count
  pub moved : Moved r (pad ++ y.0) y.1

takes : (skip count : ℕ) (r : Reader) → skip + count ≤ length r.rest
    → Takes skip count r (take count (drop skip r.rest), reader_at r.order (r.place + (skip + count)) (drop (skip + count) r.rest))
takes skip count r h =
    let pad = take skip r.rest in
    let piece = take count (drop skip r.rest) in
    let a : length pad ≡ skip = length-take-le skip r.rest (omega arith) in
    let b : length piece ≡ count = length-take-le count (drop skip r.rest) (omega (arith, length-drop skip r.rest)) in
    record {
      pad = pad;
      skipped = a;
      counted = b;
      moved = record {
        is = sym (take-append-drop skip r.rest)
            ∙ ap (λ (l : List ℕ). pad ++ l) (sym (take-append-drop count (drop skip r.rest)) ∙ ap (λ (l : List ℕ). piece ++ l) (drop-drop count skip r.rest))
            ∙ sym (append_assoc pad piece (drop (skip + count) r.rest));
        at_end = ap (λ (n : ℕ). reader_at r.order n (drop (skip + count) r.rest)) (omega (arith, length-append pad piece));
      };
    }

-- too few bytes, or the piece
pub taken_cases : (skip count place : ℕ) (r : Reader)
    → (taken skip count place r ≡ Err (fault_at Short place))
    ⊎ ((y : List ℕ × Reader) × (taken skip count place r ≡ Ok y) × Takes skip count r y)
taken_cases skip count place r = elim (cases_lt (length r.rest) (skip + count)) [
  | inl less ↦ inl (let e : ltb (length r.rest) (skip + count) ≡ true = lt-ltb _ _ less in rw e refl)
  | inr enough ↦ inr (let e : ltb (length r.rest) (skip + count) ≡ false = le-ltb _ _ enough in
      (with_reader (take count (drop skip r.rest)) (reader_at r.order (r.place + (skip + count)) (drop (skip + count) r.rest)), rw e refl, takes skip count r enough))
]

-- what was taken
pub taken_found : (skip count place : ℕ) (r : Reader) (y : List ℕ × Reader) → taken skip count place r ≡ Ok y → Takes skip count r y
taken_found skip count place r y e = elim (taken_cases skip count place r) [
  | inl short ↦ absurd (err_ok y (fault_at Short place) (sym short ∙ e))
  | inr found ↦ subst (Takes skip count r) (ok_is found.0 y (sym found.1 ∙ e)) found.2
]

-- too few bytes are the one fault
pub taken_err : (skip count place : ℕ) (r : Reader) (d : Fault CdrWhy) → taken skip count place r ≡ Err d → d.why ≡ Short
taken_err skip count place r d e = elim (taken_cases skip count place r) [
  | inl short ↦ ap (λ (x : Fault CdrWhy). x.why) (err_is d (fault_at Short place) (sym e ∙ short))
  | inr found ↦ absurd (ok_err found.0 d (sym found.1 ∙ e))
]

-- what stands there is taken
pub taken_again : (skip count place : ℕ) (order : Order) (from : ℕ) (pad piece rest : List ℕ) → length pad ≡ skip → length piece ≡ count
    → taken skip count place (reader_at order from ((pad ++ piece) ++ rest)) ≡ Ok (piece, reader_at order (from + length (pad ++ piece)) rest)
taken_again skip count place order from pad piece rest a b =
    let all = (pad ++ piece) ++ rest in
    let len : length (pad ++ piece) ≡ skip + count = omega (arith, length-append pad piece) in
    let enough : ltb (length all) (skip + count) ≡ false = le-ltb _ _ (omega (arith, length-append (pad ++ piece) rest)) in
    let dropped : drop skip all ≡ piece ++ rest = ap (drop skip) (append_assoc pad piece rest) ∙ drop_at pad (piece ++ rest) skip a in
    let got : take count (drop skip all) ≡ piece = ap (take count) dropped ∙ take_at piece rest count b in
    let left : drop (skip + count) all ≡ rest = drop_at (pad ++ piece) rest (skip + count) len in
    let place-is : from + (skip + count) ≡ from + length (pad ++ piece) = ap (λ (n : ℕ). from + n) (sym len) in
    rw (enough, got, left, place-is) refl
