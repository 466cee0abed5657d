-- The laws of each combinator: what it makes of codecs is a codec.
use Rattle.std.proofs.Common.{◌≡◌, ℕ, ◌+◌, ◌^◌, ◌<◌, List, [], ◌++◌, length, replicate, Option, Some, None, Ok, Err, refl, sym, ap, subst, ◌∙◌, append_assoc, append-nil, length-append, arith, inl, inr}
use Rattle.std.proofs.lemmas.List.{length-replicate, nil_from_length}
use Rattle.byteorder.specs.Numbers.{length-bytes_high_first, length-bytes_low_first, big_number-reads_back, little_number-reads_back}
use Rattle.ft_base.specs.Canonical.{padding}
use Rattle.cdr_codec.specs.declared.orders.Order.{Order}
use Rattle.cdr_codec.specs.declared.orders.Order.TheVariants.{Big, Little}
use Rattle.cdr_codec.specs.declared.faults.CdrWhy.TheVariants.{Short}
use Rattle.cdr_codec.specs.Reading.{Reader, reader_at, longer, Fault, fault_at, Read, ◌>>=◌, start, taken, number_in, digits_in, digits_at}
use Rattle.cdr_codec.specs.Formats.{Format, SpellsNumber, written_number, number, SpellsOctets, octets, nothing, followed, judge, judged_at, judged, shaped, in_order}
use Rattle.cdr_codec.specs.Laws.{Moved, Took, IsCodec}
use Rattle.cdr_codec.proofs.Steps.{done, failed, with_reader, bind_ok, bind_err, bind_goes, bind_stops, ok_is, ok_err, err_ok, err_is, moves, longer-after, longer-front, taken_found, taken_err, taken_again}

-- what was read is read of a longer text too, with more behind it
pub goes_longer : {W X : Type 0} (short : W) (f : Format W X) → IsCodec short f → (r : Reader) (y : X × Reader) (more : List ℕ) → f.read r ≡ Ok y
    → f.read (longer r more) ≡ Ok (y.0, longer y.1 more)
goes_longer short f law r y more e =
    let t = law.found r y e in
    ap f.read (longer-front r y.1 t.bytes more t.moved)
    ∙ law.again r.order r.place y.0 t.bytes (y.1.rest ++ more) t.spelled
    ∙ ap (λ (s : Reader). done (with_reader y.0 s)) (sym (longer-after r y.1 t.bytes more t.moved))

-- ---- numbers

length-digits : (order : Order) (size n : ℕ) → length (digits_in order size n) ≡ size
length-digits Big size n = length-bytes_high_first size n
length-digits Little size n = length-bytes_low_first 0 size n

number-digits : (order : Order) (size n : ℕ) → n < 256 ^ size → number_in order size (digits_in order size n) ≡ n
number-digits Big size n h = ap (number_in Big size) (sym (append-nil (digits_in Big size n))) ∙ big_number-reads_back size n [] h
number-digits Little size n h = ap (number_in Little size) (sym (append-nil (digits_in Little size n))) ∙ little_number-reads_back size n [] h

number_found : (size : ℕ) (r : Reader) (y : ℕ × Reader) → (number size).read r ≡ Ok y → Took (SpellsNumber size) r y
number_found size r y e =
    let b = bind_ok (digits_at size r) (λ d. Ok (number_in r.order size d.0, d.1)) y e in
    let t = taken_found (padding r.place size) size (start size r.place) r b.0 b.1 in
    let spelled : SpellsNumber size r.order r.place (number_in r.order size b.0.0) (t.pad ++ b.0.0) = record {
      pad = t.pad;
      digits = b.0.0;
      is = refl;
      aligned = t.skipped;
      sized = t.counted;
      value = refl;
    } in
    let got : Took (SpellsNumber size) r (number_in r.order size b.0.0, b.0.1) = record { bytes = t.pad ++ b.0.0; moved = t.moved; spelled = spelled } in
    subst (Took (SpellsNumber size) r) (ok_is (with_reader (number_in r.order size b.0.0) b.0.1) y b.2) got

number_again : (size : ℕ) (order : Order) (place n : ℕ) (bytes rest : List ℕ) → SpellsNumber size order place n bytes
    → (number size).read (reader_at order place (bytes ++ rest)) ≡ Ok (n, reader_at order (place + length bytes) rest)
number_again size order place n bytes rest s =
    let t = taken_again (padding place size) size (start size place) order place s.pad s.digits rest s.aligned s.sized in
    let goes : (number size).read (reader_at order place ((s.pad ++ s.digits) ++ rest)) ≡ Ok (number_in order size s.digits, reader_at order (place + length (s.pad ++ s.digits)) rest) =
    bind_goes (digits_at size (reader_at order place ((s.pad ++ s.digits) ++ rest))) (λ d. Ok (number_in order size d.0, d.1)) _ _ t refl in
    rw (s.is, s.value) goes

pub number_codec : (size : ℕ) → IsCodec Short (number size)
number_codec size = record {
  found = number_found size;
  again = number_again size;
  spells = λ order place n h. record {
    pad = replicate (padding place size) 0;
    digits = digits_in order size n;
    is = refl;
    aligned = length-replicate (padding place size) 0;
    sized = length-digits order size n;
    value = sym (number-digits order size n h);
  };
  stands = λ r e more wrong other. elim (bind_err (digits_at size r) (λ d. Ok (number_in r.order size d.0, d.1)) e wrong) [
    | inl short ↦ absurd (other (taken_err (padding r.place size) size (start size r.place) r e short))
    | inr went ↦ absurd (ok_err (with_reader (number_in r.order size went.0.0) went.0.1) e went.2)
  ];
}

-- ---- octets

octets_found : (r : Reader) (y : List ℕ × Reader) → octets.read r ≡ Ok y → Took SpellsOctets r y
octets_found r y e =
    let b = bind_ok ((number 4).read r) (λ n. taken 0 n.0 (start 4 r.place) n.1) y e in
    let n = number_found 4 r b.0 b.1 in
    let t = taken_found 0 b.0.0 (start 4 r.place) b.0.1 y b.2 in
    let none : t.pad ++ y.0 ≡ y.0 = ap (λ (l : List ℕ). l ++ y.0) (nil_from_length t.pad t.skipped) in
    record {
      bytes = n.bytes ++ y.0;
      moved = moves r b.0.1 y.1 n.bytes y.0 n.moved (subst (λ (l : List ℕ). Moved b.0.1 l y.1) none t.moved);
      spelled = record { front = n.bytes; is = refl; counted = rw t.counted n.spelled };
    }

octets_again : (order : Order) (place : ℕ) (xs bytes rest : List ℕ) → SpellsOctets order place xs bytes
    → octets.read (reader_at order place (bytes ++ rest)) ≡ Ok (xs, reader_at order (place + length bytes) rest)
octets_again order place xs bytes rest s =
    let n = number_again 4 order place (length xs) s.front (xs ++ rest) s.counted in
    let t = taken_again 0 (length xs) (start 4 place) order (place + length s.front) [] xs rest refl refl in
    let there : bytes ++ rest ≡ s.front ++ (xs ++ rest) = ap (λ (l : List ℕ). l ++ rest) s.is ∙ append_assoc s.front xs rest in
    let end : place + length s.front + length xs ≡ place + length bytes = omega (arith, length-append s.front xs, ap length s.is) in
    ap octets.read (ap (reader_at order place) there)
    ∙ bind_goes ((number 4).read (reader_at order place (s.front ++ (xs ++ rest)))) (λ n. taken 0 n.0 (start 4 place) n.1) _ _ n t
    ∙ ap (λ (k : ℕ). done (with_reader xs (reader_at order k rest))) end

pub octets_codec : IsCodec Short octets
octets_codec = record {
  found = octets_found;
  again = octets_again;
  spells = λ order place xs h. record {
    front = written_number 4 order place (length xs);
    is = refl;
    counted = (number_codec 4).spells order place (length xs) h;
  };
  stands = λ r e more wrong other. elim (bind_err ((number 4).read r) (λ n. taken 0 n.0 (start 4 r.place) n.1) e wrong) [
    | inl short ↦ bind_stops _ _ e ((number_codec 4).stands r e more short other)
    | inr went ↦ absurd (other (taken_err 0 went.0.0 (start 4 r.place) went.0.1 e went.2))
  ];
}

-- ---- nothing

pub at_rest : (r : Reader) → Moved r [] r
at_rest r = record { is = refl; at_end = ap (λ (n : ℕ). reader_at r.order n r.rest) (omega arith) }

pub nothing_codec : {W X : Type 0} (short : W) (x : X) → IsCodec short (nothing {W = W} x)
nothing_codec {W = W} {X = X} short x = record {
  found = λ r y e.
      let y-is : with_reader x r ≡ y = ok_is (with_reader x r) y e in
      let got : Took (nothing {W = W} x).Spelled r (with_reader x r) = record { bytes = []; moved = at_rest r; spelled = (refl, refl) } in
      subst (Took (nothing {W = W} x).Spelled r) y-is got;
  again = λ order place y bytes rest s.
      let there : bytes ++ rest ≡ rest = ap (λ (l : List ℕ). l ++ rest) s.1 in
      let end : place ≡ place + length bytes = omega (arith, ap length s.1) in
      rw (there, ← end, s.0) refl;
  spells = λ order place y h. (h, refl);
  stands = λ r e more wrong other. absurd (ok_err (with_reader x r) e wrong);
}

-- ---- pairs

pair_found : {W X Y : Type 0} (short : W) (f : Format W X) (g : X → Format W Y) → IsCodec short f → ((a : X) → IsCodec short (g a))
    → (r : Reader) (a : X × Reader) (b : Y × Reader) → f.read r ≡ Ok a → (g a.0).read a.1 ≡ Ok b → Took (followed f g).Spelled r ((a.0, b.0), b.1)
pair_found short f g law laws r a b first second =
    let t = law.found r a first in
    let u = (laws a.0).found a.1 b second in
    let order-is : a.1.order ≡ r.order = ap (λ (x : Reader). x.order) t.moved.at_end in
    let place-is : a.1.place ≡ r.place + length t.bytes = ap (λ (x : Reader). x.place) t.moved.at_end in
    record {
      bytes = t.bytes ++ u.bytes;
      moved = moves r a.1 b.1 t.bytes u.bytes t.moved u.moved;
      spelled = record {
        front = t.bytes;
        back = u.bytes;
        is = refl;
        first = t.spelled;
        second = subst (λ (o : Order). (g a.0).Spelled o (r.place + length t.bytes) b.0 u.bytes) order-is
            (subst (λ (n : ℕ). (g a.0).Spelled a.1.order n b.0 u.bytes) place-is u.spelled);
      };
    }

-- the second step of reading a pair
abbrev pub behind : {W X Y : Type 0} → (X → Format W Y) → X × Reader → Read W (X × Y)
behind g a = (g a.0).read a.1 >>= λ b. Ok ((a.0, b.0), b.1)

abbrev pub pair : {X Y : Type 0} → X → Y → X × Y
pair x y = (x, y)

pub followed_codec : {W X Y : Type 0} (short : W) (f : Format W X) (g : X → Format W Y) → IsCodec short f → ((a : X) → IsCodec short (g a)) → IsCodec short (followed f g)
followed_codec {W = W} {X = X} {Y = Y} short f g law laws = record {
  found = λ r y e.
      let a = bind_ok (f.read r) (behind g) y e in
      let b = bind_ok ((g a.0.0).read a.0.1) (λ b. Ok ((a.0.0, b.0), b.1)) y a.2 in
      subst (Took (followed f g).Spelled r) (ok_is (with_reader (pair a.0.0 b.0.0) b.0.1) y b.2) (pair_found short f g law laws r a.0 b.0 a.1 b.1);
  again = λ order place x bytes rest s.
      let there : bytes ++ rest ≡ s.front ++ (s.back ++ rest) = ap (λ (l : List ℕ). l ++ rest) s.is ∙ append_assoc s.front s.back rest in
      let end : place + length s.front + length s.back ≡ place + length bytes = omega (arith, length-append s.front s.back, ap length s.is) in
      let one = law.again order place x.0 s.front (s.back ++ rest) s.first in
      let two = (laws x.0).again order (place + length s.front) x.1 s.back rest s.second in
      ap (followed f g).read (ap (reader_at order place) there)
      ∙ bind_goes (f.read (reader_at order place (s.front ++ (s.back ++ rest)))) (behind g) _ _ one
      (bind_goes ((g x.0).read (reader_at order (place + length s.front) (s.back ++ rest))) (λ b. Ok ((x.0, b.0), b.1)) _ _ two refl)
      ∙ ap (λ (k : ℕ). done (with_reader x (reader_at order k rest))) end;
  spells = λ order place x h. record {
    front = f.written order place x.0;
    back = (g x.0).written order (place + length (f.written order place x.0)) x.1;
    is = refl;
    first = law.spells order place x.0 h.0;
    second = (laws x.0).spells order (place + length (f.written order place x.0)) x.1 h.1;
  };
  stands = λ r e more wrong other. elim (bind_err (f.read r) (behind g) e wrong) [
    | inl first ↦ bind_stops (f.read (longer r more)) (behind g) e (law.stands r e more first other)
    | inr went ↦
        let a = went.0 in
        let ahead = goes_longer short f law r a more went.1 in
        elim (bind_err ((g a.0).read a.1) (λ b. Ok ((a.0, b.0), b.1)) e went.2) [
          | inl second ↦ bind_goes (f.read (longer r more)) (behind g) _ _ ahead
              (bind_stops ((g a.0).read (longer a.1 more)) (λ b. Ok ((a.0, b.0), b.1)) e ((laws a.0).stands a.1 e more second other))
          | inr both ↦ absurd (ok_err (with_reader (pair a.0 both.0.0) both.0.1) e both.2)
        ]
  ];
}

-- ---- judged values

judge_ok : {W Y : Type 0} (o : Option Y) (after : Reader) (wrong : Fault W) (y : Y × Reader) → judge o after wrong ≡ Ok y → (o ≡ Some y.0) × (after ≡ y.1)
judge_ok None after wrong y e = absurd (err_ok y wrong e)
judge_ok (Some x) after wrong y e =
    let y-is = ok_is (with_reader x after) y e in (ap (λ (p : _ × Reader). Some p.0) y-is, ap (λ (p : _ × Reader). p.1) y-is)

pub judge_err : {W Y : Type 0} (o : Option Y) (after : Reader) (wrong e : Fault W) → judge o after wrong ≡ Err e → (o ≡ None) × (wrong ≡ e)
judge_err None after wrong e same = (refl, err_is wrong e same)
judge_err (Some x) after wrong e same = absurd (ok_err (with_reader x after) e same)

pub judged_at_codec : {W X Y : Type 0} (short : W) (f : Format W X) (place_of : ℕ → ℕ) (why : W) (meaning : X → Option Y) (sign : Y → X)
    → IsCodec short f → IsCodec short (judged_at f place_of why meaning sign)
judged_at_codec {W = W} {X = X} {Y = Y} short f place_of why meaning sign law =
    let next : Reader → X × Reader → Read W Y = λ r x. judge (meaning x.0) x.1 (fault_at why (place_of r.place)) in
    record {
      found = λ r y e.
          let a = bind_ok (f.read r) (next r) y e in
          let t = law.found r a.0 a.1 in
          let j = judge_ok (meaning a.0.0) a.0.1 (fault_at why (place_of r.place)) y a.2 in
          record {
            bytes = t.bytes;
            moved = subst (Moved r t.bytes) j.1 t.moved;
            spelled = record { sign = a.0.0; spelled = t.spelled; means = j.0 };
          };
      again = λ order place y bytes rest s.
          let r = reader_at order place (bytes ++ rest) in
          bind_goes (f.read r) (next r) _ _ (law.again order place s.sign bytes rest s.spelled)
          (ap (λ (o : Option Y). judge o (reader_at order (place + length bytes) rest) (fault_at why (place_of place))) s.means);
      spells = λ order place y h. record { sign = sign y; spelled = law.spells order place (sign y) h.0; means = h.1 };
      stands = λ r e more wrong other. elim (bind_err (f.read r) (next r) e wrong) [
        | inl first ↦ bind_stops (f.read (longer r more)) (next r) e (law.stands r e more first other)
        | inr went ↦
            let j = judge_err (meaning went.0.0) went.0.1 (fault_at why (place_of r.place)) e went.2 in
            bind_goes (f.read (longer r more)) (next r) _ _ (goes_longer short f law r went.0 more went.1)
            (ap (λ (o : Option Y). judge o (longer went.0.1 more) (fault_at why (place_of r.place))) j.0 ∙ ap failed j.1)
      ];
    }

pub judged_codec : {W X Y : Type 0} (short : W) (f : Format W X) (size : ℕ) (why : W) (meaning : X → Option Y) (sign : Y → X)
    → IsCodec short f → IsCodec short (judged f size why meaning sign)
judged_codec short f size why meaning sign law = judged_at_codec short f (start size) why meaning sign law

-- ---- other forms

pub shaped_codec : {W X Y : Type 0} (short : W) (f : Format W X) (to : X → Y) (from : Y → X) → ((x : X) → from (to x) ≡ x) → ((y : Y) → to (from y) ≡ y)
    → IsCodec short f → IsCodec short (shaped f to from)
shaped_codec {W = W} {X = X} {Y = Y} short f to from back forth law =
    let next : X × Reader → Read W Y = λ x. Ok (to x.0, x.1) in
    record {
      found = λ r y e.
          let a = bind_ok (f.read r) next y e in
          let t = law.found r a.0 a.1 in
          let got : Took (shaped f to from).Spelled r (with_reader (to a.0.0) a.0.1) = record {
            bytes = t.bytes;
            moved = t.moved;
            spelled = subst (λ (x : X). f.Spelled r.order r.place x t.bytes) (sym (back a.0.0)) t.spelled;
          } in
          subst (Took (shaped f to from).Spelled r) (ok_is (with_reader (to a.0.0) a.0.1) y a.2) got;
      again = λ order place y bytes rest s.
          bind_goes (f.read (reader_at order place (bytes ++ rest))) next _ _ (law.again order place (from y) bytes rest s)
          (ap (λ (z : Y). done (with_reader z (reader_at order (place + length bytes) rest))) (forth y));
      spells = λ order place y h. law.spells order place (from y) h;
      stands = λ r e more wrong other. elim (bind_err (f.read r) next e wrong) [
        | inl first ↦ bind_stops (f.read (longer r more)) next e (law.stands r e more first other)
        | inr went ↦ absurd (ok_err (with_reader (to went.0.0) went.0.1) e went.2)
      ];
    }

-- ---- the same values, always in one byte order

pub in_order_codec : {W X : Type 0} (short : W) (order : Order) (f : Format W X) → IsCodec short f → IsCodec short (in_order order f)
in_order_codec {W = W} {X = X} short order f law =
    let there : Reader → Reader = λ r. reader_at order r.place r.rest in
    let next : Reader → X × Reader → Read W X = λ r x. Ok (x.0, reader_at r.order x.1.place x.1.rest) in
    record {
      found = λ r y e.
          let a = bind_ok (f.read (there r)) (next r) y e in
          let t = law.found (there r) a.0 a.1 in
          let place-is : a.0.1.place ≡ r.place + length t.bytes = ap (λ (s : Reader). s.place) t.moved.at_end in
          let got : Took (in_order order f).Spelled r (with_reader a.0.0 (reader_at r.order a.0.1.place a.0.1.rest)) = record {
            bytes = t.bytes;
            moved = record { is = t.moved.is; at_end = ap (λ (n : ℕ). reader_at r.order n a.0.1.rest) place-is };
            spelled = t.spelled;
          } in
          subst (Took (in_order order f).Spelled r) (ok_is (with_reader a.0.0 (reader_at r.order a.0.1.place a.0.1.rest)) y a.2) got;
      again = λ other place x bytes rest s.
          bind_goes (f.read (reader_at order place (bytes ++ rest))) (next (reader_at other place (bytes ++ rest))) _ _ (law.again order place x bytes rest s) refl;
      spells = λ other place x h. law.spells order place x h;
      stands = λ r e more wrong other. elim (bind_err (f.read (there r)) (next r) e wrong) [
        | inl first ↦ bind_stops (f.read (longer (there r) more)) (next (longer r more)) e (law.stands (there r) e more first other)
        | inr went ↦ absurd (ok_err (with_reader went.0.0 (reader_at r.order went.0.1.place went.0.1.rest)) e went.2)
      ];
    }
