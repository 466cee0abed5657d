-- A struct is a codec if its fields are.
use Rattle.std.proofs.Common.{◌≡◌, ℕ, ◌+◌, List, ◌++◌, length, refl, sym, ap, subst, ◌∙◌, append_assoc, length-append, arith, inl, inr}
use Rattle.cdr_codec.specs.declared.orders.Order.{Order}
use Rattle.cdr_codec.specs.Reading.{Reader, reader_at, longer, Read}
use Rattle.cdr_codec.specs.Formats.{Format}
use Rattle.cdr_codec.specs.Laws.{IsCodec}
use Rattle.cdr_codec.specs.Calls.{Writer, appended}
use Rattle.cdr_codec.specs.Structs.{Fields, field, whole, struct, appended_fields}
use Rattle.cdr_codec.proofs.Steps.{done, with_reader, bind_ok, bind_err, bind_goes, bind_stops, moves}
use Rattle.cdr_codec.proofs.Codecs.{goes_longer, nothing_codec}
use Rattle.cdr_codec.proofs.Writing.{nothing_written}

-- each field is a codec
abbrev pub AreCodecs : {W S : Type 0} → W → Fields W S → Type 0
AreCodecs short (whole x) = Unit {0}
AreCodecs {W} {S} short (field {A} f name rest) = IsCodec short f × ((a : A) → AreCodecs short (rest a))

field_codec : {W A S : Type 0} (short : W) (f : Format W A) (name : S → A) (rest : A → Fields W S)
    → IsCodec short f → ((a : A) → IsCodec short (struct (rest a))) → IsCodec short (struct (field f name rest))
field_codec {W = W} {A = A} {S = S} short f name rest law others =
    let next : A × Reader → Read W S = λ a. (struct (rest a.0)).read a.1 in
    record {
      found = λ r y e.
          let a = bind_ok (f.read r) next y e in
          let t = law.found r a.0 a.1 in
          let u = (others a.0.0).found a.0.1 y a.2 in
          let order-is : a.0.1.order ≡ r.order = ap (λ (s : Reader). s.order) t.moved.at_end in
          let place-is : a.0.1.place ≡ r.place + length t.bytes = ap (λ (s : Reader). s.place) t.moved.at_end in
          record {
            bytes = t.bytes ++ u.bytes;
            moved = moves r a.0.1 y.1 t.bytes u.bytes t.moved u.moved;
            spelled = record {
              value = a.0.0;
              front = t.bytes;
              back = u.bytes;
              is = refl;
              first = t.spelled;
              others = subst (λ (o : Order). (struct (rest a.0.0)).Spelled o (r.place + length t.bytes) y.0 u.bytes) order-is
                  (subst (λ (k : ℕ). (struct (rest a.0.0)).Spelled a.0.1.order k y.0 u.bytes) place-is u.spelled);
            };
          };
      again = λ order place x bytes more s.
          let there : bytes ++ more ≡ s.front ++ (s.back ++ more) = ap (λ (l : List ℕ). l ++ more) s.is ∙ append_assoc s.front s.back more in
          let end : place + length s.front + length s.back ≡ place + length bytes = omega (arith, length-append s.front s.back, ap length s.is) in
          ap (struct (field f name rest)).read (ap (reader_at order place) there)
          ∙ bind_goes (f.read (reader_at order place (s.front ++ (s.back ++ more)))) next _ _ (law.again order place s.value s.front (s.back ++ more) s.first)
          ((others s.value).again order (place + length s.front) x s.back more s.others)
          ∙ ap (λ (k : ℕ). done (with_reader x (reader_at order k more))) end;
      spells = λ order place x h. record {
        value = name x;
        front = f.written order place (name x);
        back = (struct (rest (name x))).written order (place + length (f.written order place (name x))) x;
        is = refl;
        first = law.spells order place (name x) h.0;
        others = (others (name x)).spells order (place + length (f.written order place (name x))) x h.1;
      };
      stands = λ r e more wrong other. elim (bind_err (f.read r) next e wrong) [
        | inl first ↦ bind_stops (f.read (longer r more)) next e (law.stands r e more first other)
        | inr went ↦ bind_goes (f.read (longer r more)) next _ _ (goes_longer short f law r went.0 more went.1)
            ((others went.0.0).stands went.0.1 e more went.2 other)
      ];
    }

pub struct_codec : {W S : Type 0} (short : W) (fields : Fields W S) → AreCodecs short fields → IsCodec short (struct fields)
struct_codec short (whole x) h = nothing_codec short x
struct_codec short (field f name rest) h = field_codec short f name rest h.0 (λ a. struct_codec short (rest a) (h.1 a))

-- the fields are written one by one
pub struct_written : {W S : Type 0} (fields : Fields W S) (s : S) (w : Writer) → appended (struct fields).written s w ≡ appended_fields fields s w
struct_written (whole x) s w = nothing_written w
struct_written (field f name rest) s w =
    let first = f.written w.order (w.place + length w.text) (name s) in
    let later = (struct (rest (name s))).written in
    let place-is : w.place + length w.text + length first ≡ w.place + length (w.text ++ first) = omega (arith, length-append w.text first) in
    let two : appended (struct (field f name rest)).written s w ≡ appended later s (appended f.written (name s) w) =
    ap (λ (l : List ℕ). record w { text = l })
    (ap (λ (n : ℕ). w.text ++ (first ++ later w.order n s)) place-is
    ∙ sym (append_assoc w.text first (later w.order (w.place + length (w.text ++ first)) s))) in
    two ∙ struct_written (rest (name s)) s (appended f.written (name s) w)
