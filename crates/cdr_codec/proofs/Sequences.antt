-- The laws of a sequence, and of a format where more can be wrong.
use Rattle.std.proofs.Common.{◌≡◌, ℕ, zero, suc, ◌+◌, List, [], ◌∷◌, ◌++◌, length, Ok, Err, refl, sym, ap, subst, ◌∙◌, append_assoc, length-append, arith, inl, inr}
use Rattle.std.specs.List.{AllByRecursion}
use Rattle.cdr_codec.specs.declared.orders.Order.{Order}
use Rattle.cdr_codec.specs.declared.faults.CdrWhy.{CdrWhy}
use Rattle.cdr_codec.specs.declared.faults.CdrWhy.TheVariants.{Short}
use Rattle.cdr_codec.specs.Reading.{Reader, reader_at, longer, Fault, fault_at, Read, ◌>>=◌}
use Rattle.cdr_codec.specs.Formats.{Format, SpellsNumber, written_number, number, SpellsEach, written_each, read_each, sequence, lift, lifted}
use Rattle.cdr_codec.specs.Laws.{Took, IsCodec}
use Rattle.cdr_codec.proofs.Steps.{done, failed, with_reader, bind_ok, bind_err, bind_goes, bind_stops, ok_is, ok_err, moves}
use Rattle.cdr_codec.proofs.Codecs.{goes_longer, number_codec, at_rest}

-- the second step of reading the elements
abbrev others : {W X : Type 0} → (Reader → Read W X) → ℕ → X × Reader → Read W (List X)
others read n x = read_each read n x.1 >>= λ xs. Ok (x.0 ∷ xs.0, xs.1)

abbrev front_of : {X : Type 0} → X → List X × Reader → List X × Reader
front_of x xs = (x ∷ xs.0, xs.1)

pub read_each-zero : {W X : Type 0} (read : Reader → Read W X) (r : Reader) → read_each read zero r ≡ Ok ([], r)
unfolding read_each
read_each-zero read r = refl

pub read_each-suc : {W X : Type 0} (read : Reader → Read W X) (n : ℕ) (r : Reader) → read_each read (suc n) r ≡ (read r >>= others read n)
unfolding read_each
read_each-suc read n r = refl

-- ---- the elements

each_joined : {W X : Type 0} (f : Format W X) (r : Reader) (x : X × Reader) (xs : List X × Reader) → Took f.Spelled r x → Took (SpellsEach f.Spelled) x.1 xs
    → Took (SpellsEach f.Spelled) r (front_of x.0 xs)
each_joined f r x xs t u =
    let order-is : x.1.order ≡ r.order = ap (λ (s : Reader). s.order) t.moved.at_end in
    let place-is : x.1.place ≡ r.place + length t.bytes = ap (λ (s : Reader). s.place) t.moved.at_end in
    let back = subst (λ (o : Order). SpellsEach f.Spelled o (r.place + length t.bytes) xs.0 u.bytes) order-is
    (subst (λ (n : ℕ). SpellsEach f.Spelled x.1.order n xs.0 u.bytes) place-is u.spelled) in
    record {
      bytes = t.bytes ++ u.bytes;
      moved = moves r x.1 xs.1 t.bytes u.bytes t.moved u.moved;
      spelled = (t.bytes, u.bytes, refl, t.spelled, back);
    }

each_found : {W X : Type 0} (short : W) (f : Format W X) → IsCodec short f → (n : ℕ) (r : Reader) (y : List X × Reader) → read_each f.read n r ≡ Ok y
    → (length y.0 ≡ n) × Took (SpellsEach f.Spelled) r y
each_found {X = X} short f law zero r y e =
    let y-is : with_reader [] r ≡ y = ok_is (with_reader [] r) y (sym (read_each-zero f.read r) ∙ e) in
    let got : Took (SpellsEach f.Spelled) r (with_reader [] r) = record { bytes = []; moved = at_rest r; spelled = refl } in
    (ap (λ (p : List X × Reader). length p.0) (sym y-is), subst (Took (SpellsEach f.Spelled) r) y-is got)
each_found {X = X} short f law (suc n) r y e =
    let x = bind_ok (f.read r) (others f.read n) y (sym (read_each-suc f.read n r) ∙ e) in
    let xs = bind_ok (read_each f.read n x.0.1) (λ xs. Ok (x.0.0 ∷ xs.0, xs.1)) y x.2 in
    let rest = each_found short f law n x.0.1 xs.0 xs.1 in
    let y-is : front_of x.0.0 xs.0 ≡ y = ok_is (front_of x.0.0 xs.0) y xs.2 in
    (ap (λ (p : List X × Reader). length p.0) (sym y-is) ∙ ap suc rest.0, subst (Took (SpellsEach f.Spelled) r) y-is (each_joined f r x.0 xs.0 (law.found r x.0 x.1) rest.1))

each_again : {W X : Type 0} (short : W) (f : Format W X) → IsCodec short f → (order : Order) (place : ℕ) (xs : List X) (bytes rest : List ℕ)
    → SpellsEach f.Spelled order place xs bytes
    → read_each f.read (length xs) (reader_at order place (bytes ++ rest)) ≡ Ok (xs, reader_at order (place + length bytes) rest)
each_again short f law order place [] bytes rest s =
    let there : bytes ++ rest ≡ rest = ap (λ (l : List ℕ). l ++ rest) s in
    let end : place ≡ place + length bytes = omega (arith, ap length s) in
    read_each-zero f.read (reader_at order place (bytes ++ rest)) ∙ rw (there, ← end) refl
each_again short f law order place (x ∷ xs) bytes rest s =
    let front = s.0 in
    let back = s.1 in
    let there : bytes ++ rest ≡ front ++ (back ++ rest) = ap (λ (l : List ℕ). l ++ rest) s.2 ∙ append_assoc front back rest in
    let end : place + length front + length back ≡ place + length bytes = omega (arith, length-append front back, ap length s.2) in
    let one = law.again order place x front (back ++ rest) s.3 in
    let two = each_again short f law order (place + length front) xs back rest s.4 in
    read_each-suc f.read (length xs) (reader_at order place (bytes ++ rest))
    ∙ ap (λ (l : List ℕ). f.read (reader_at order place l) >>= others f.read (length xs)) there
    ∙ bind_goes (f.read (reader_at order place (front ++ (back ++ rest)))) (others f.read (length xs)) _ _ one
    (bind_goes (read_each f.read (length xs) (reader_at order (place + length front) (back ++ rest))) (λ ys. Ok (x ∷ ys.0, ys.1)) _ _ two refl)
    ∙ ap (λ (k : ℕ). done (with_reader (x ∷ xs) (reader_at order k rest))) end

each_spells : {W X : Type 0} (short : W) (f : Format W X) → IsCodec short f → (order : Order) (place : ℕ) (xs : List X) → AllByRecursion f.Valid xs
    → SpellsEach f.Spelled order place xs (written_each f.written order place xs)
each_spells short f law order place [] h = refl
each_spells short f law order place (x ∷ xs) h = (
  f.written order place x,
  written_each f.written order (place + length (f.written order place x)) xs,
  refl,
  law.spells order place x h.0,
  each_spells short f law order (place + length (f.written order place x)) xs h.1,
)

each_stands : {W X : Type 0} (short : W) (f : Format W X) → IsCodec short f → (n : ℕ) (r : Reader) (e : Fault W) (more : List ℕ)
    → read_each f.read n r ≡ Err e → (e.why ≡ short → ⊥) → read_each f.read n (longer r more) ≡ Err e
each_stands short f law zero r e more wrong other = absurd (ok_err (with_reader [] r) e (sym (read_each-zero f.read r) ∙ wrong))
each_stands short f law (suc n) r e more wrong other =
    read_each-suc f.read n (longer r more)
    ∙ elim (bind_err (f.read r) (others f.read n) e (sym (read_each-suc f.read n r) ∙ wrong)) [
      | inl first ↦ bind_stops (f.read (longer r more)) (others f.read n) e (law.stands r e more first other)
      | inr went ↦
          let x = went.0 in
          let ahead = goes_longer short f law r x more went.1 in
          elim (bind_err (read_each f.read n x.1) (λ xs. Ok (x.0 ∷ xs.0, xs.1)) e went.2) [
            | inl second ↦ bind_goes (f.read (longer r more)) (others f.read n) _ _ ahead
                (bind_stops (read_each f.read n (longer x.1 more)) (λ xs. Ok (x.0 ∷ xs.0, xs.1)) e (each_stands short f law n x.1 e more second other))
            | inr both ↦ absurd (ok_err (front_of x.0 both.0) e both.2)
          ]
    ]

-- ---- the sequence

pub sequence_codec : {X : Type 0} (f : Format CdrWhy X) → IsCodec Short f → IsCodec Short (sequence f)
sequence_codec {X = X} f law =
    let count = number_codec 4 in
    let next : ℕ × Reader → Read CdrWhy (List X) = λ n. read_each f.read n.0 n.1 in
    record {
      found = λ r y e.
          let n = bind_ok ((number 4).read r) next y e in
          let t = count.found r n.0 n.1 in
          let u = each_found Short f law n.0.0 n.0.1 y n.2 in
          let order-is : n.0.1.order ≡ r.order = ap (λ (s : Reader). s.order) t.moved.at_end in
          let place-is : n.0.1.place ≡ r.place + length t.bytes = ap (λ (s : Reader). s.place) t.moved.at_end in
          record {
            bytes = t.bytes ++ u.1.bytes;
            moved = moves r n.0.1 y.1 t.bytes u.1.bytes t.moved u.1.moved;
            spelled = record {
              front = t.bytes;
              back = u.1.bytes;
              is = refl;
              counted = subst (λ (k : ℕ). SpellsNumber 4 r.order r.place k t.bytes) (sym u.0) t.spelled;
              each = subst (λ (o : Order). SpellsEach f.Spelled o (r.place + length t.bytes) y.0 u.1.bytes) order-is
                  (subst (λ (k : ℕ). SpellsEach f.Spelled n.0.1.order k y.0 u.1.bytes) place-is u.1.spelled);
            };
          };
      again = λ order place xs bytes rest s.
          let there : bytes ++ rest ≡ s.front ++ (s.back ++ rest) = ap (λ (l : List ℕ). l ++ rest) s.is ∙ append_assoc s.front s.back rest in
          let end : place + length s.front + length s.back ≡ place + length bytes = omega (arith, length-append s.front s.back, ap length s.is) in
          ap (sequence f).read (ap (reader_at order place) there)
          ∙ bind_goes ((number 4).read (reader_at order place (s.front ++ (s.back ++ rest)))) next _ _ (count.again order place (length xs) s.front (s.back ++ rest) s.counted)
          (each_again Short f law order (place + length s.front) xs s.back rest s.each)
          ∙ ap (λ (k : ℕ). done (with_reader xs (reader_at order k rest))) end;
      spells = λ order place xs h. record {
        front = written_number 4 order place (length xs);
        back = written_each f.written order (place + length (written_number 4 order place (length xs))) xs;
        is = refl;
        counted = count.spells order place (length xs) h.0;
        each = each_spells Short f law order (place + length (written_number 4 order place (length xs))) xs h.1;
      };
      stands = λ r e more wrong other. elim (bind_err ((number 4).read r) next e wrong) [
        | inl first ↦ bind_stops ((number 4).read (longer r more)) next e (count.stands r e more first other)
        | inr went ↦ bind_goes ((number 4).read (longer r more)) next _ _ (goes_longer Short (number 4) count r went.0 more went.1)
            (each_stands Short f law went.0.0 went.0.1 e more went.2 other)
      ];
    }

-- ---- more that can be wrong

lift_ok : {V W X : Type 0} (up : V → W) (read : Read V X) (y : X × Reader) → lift up read ≡ Ok y → read ≡ Ok y
lift_ok up (Ok x) y e = cc
lift_ok up (Err d) y e = absurd cc

lift_err : {V W X : Type 0} (up : V → W) (read : Read V X) (e : Fault W) → lift up read ≡ Err e → (d : Fault V) × (read ≡ Err d) × (fault_at (up d.why) d.place ≡ e)
lift_err up (Ok x) e wrong = absurd cc
lift_err up (Err d) e wrong = (d, refl, cc)

pub lifted_codec : {V W X : Type 0} (short : V) (up : V → W) (f : Format V X) → IsCodec short f → IsCodec (up short) (lifted up f)
lifted_codec {V = V} {W = W} {X = X} short up f law = record {
  found = λ r y e. law.found r y (lift_ok up (f.read r) y e);
  again = λ order place x bytes rest s. ap (lift up) (law.again order place x bytes rest s);
  spells = law.spells;
  stands = λ r e more wrong other.
      let d = lift_err up (f.read r) e wrong in
      let why-is : up d.0.why ≡ e.why = ap (λ (x : Fault W). x.why) d.2 in
      ap (lift up) (law.stands r d.0 more d.1 (λ same. other (sym why-is ∙ ap up same))) ∙ ap failed d.2;
}
