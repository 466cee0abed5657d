-- The text of a reference is read again, and what is read from a text it spells.
use Rattle.std.proofs.Common.{◌≡◌, ◌∙◌, ◌<◌, ◌+◌, ◌^◌, ◌/◌, ℕ, zero, suc, Bool, true, false, cond, List, [], ◌∷◌, ◌++◌, length, drop, replicate, Result, Ok, Err, IfOk, refl, sym, ap, subst, lit<}
use Rattle.std.specs.List.{All, AllByRecursion}
use Rattle.std.specs.Int.{byte_at, bytes_high_first}
use Rattle.std.proofs.Math.Nat.{mod-lt}
use Rattle.std.proofs.lemmas.List.Elements.{All-nil, All-cons, All-head, All-tail, All-append, All-replicate}
use Rattle.ft_base.specs.Canonical.{padding}
use Rattle.hex.proofs.HexLemmas.{decode_of-encode_lower}
use Rattle.hex.specs.Hex.{IsBytes, decode_of}
use Rattle.hex.specs.declared.error.FromHexError.{FromHexError}
use Rattle.cdr_codec.specs.declared.orders.Order.TheVariants.{Big}
use Rattle.cdr_codec.specs.declared.faults.CdrWhy.{CdrWhy}
use Rattle.cdr_codec.specs.Reading.{Fault, ◌>>=◌}
use Rattle.cdr_codec.specs.Calls.{Tells, Refuses}
use Rattle.cdr_codec.specs.Formats.{written_number, written_each, octets}
use Rattle.cdr_codec.specs.Values.{text}
use Rattle.cdr_codec.specs.Tagged.{IsCounted, IsNumbered}
use Rattle.cdr_codec.specs.Encapsulations.{encapsulated, held}
use Rattle.cdr_codec.proofs.Steps.{bind_ok, ok_is, err_ok}
use Rattle.cdr_codec.proofs.CodecLaws.{told_found, told_refused}
use Rattle.cdr_codec.proofs.ValueLaws.{text_valid}
use Rattle.cdr_codec.proofs.EncapsulationLaws.{held_found, held_again, inside_written}
use Rattle.iogr_reference.specs.declared.references.Ior.{Ior}
use Rattle.iogr_reference.specs.declared.references.Profile.{Profile}
use Rattle.iogr_reference.specs.declared.faults.TextFault.{TextFault}
use Rattle.iogr_reference.specs.declared.faults.TextFault.TheVariants as texts
use Rattle.iogr_reference.specs.Octets.{AreBytes}
use Rattle.iogr_reference.specs.Faults.{text_refusal}
use Rattle.iogr_reference.specs.Formats.{profile, profile_parts, profiles, ior, IsWritable, AreCounted, AreNumbered}
use Rattle.iogr_reference.specs.Texts.{text_of, has_prefix, octets_or_place, octets_in, ior_or_bad, ior_in_digits, ior_in_text}
use Rattle.iogr_reference.specs.Naming.{SpellsReference}
use Rattle.iogr_reference.specs.Laws.{ProfileFits, ReferenceFits, TextsAreSpelled, TextsAreRead}
use Rattle.iogr_reference.proofs.OctetLaws.{at_each}
use Rattle.iogr_reference.proofs.Codecs.{ior_codec}

-- ---- what is written is bytes

abbrev IsByte : ℕ → Type 0
IsByte x = x < 256

byte_fits : (i n : ℕ) → byte_at i n < 256
byte_fits zero n = mod-lt n (lit< tt)
byte_fits (suc i) n = mod-lt (n / 256 ^ suc i) (lit< tt)

digits_are_bytes : (size n : ℕ) → AreBytes (bytes_high_first size n)
digits_are_bytes zero n = All-nil IsByte
digits_are_bytes (suc i) n = All-cons IsByte (byte_at i n) (bytes_high_first i n) (byte_fits i n) (digits_are_bytes i n)

number_is_bytes : (size place n : ℕ) → AreBytes (written_number size Big place n)
number_is_bytes size place n =
    All-append IsByte (replicate (padding place size) 0) (bytes_high_first size n)
    (All-replicate IsByte (padding place size) 0 (lit< tt)) (digits_are_bytes size n)

octets_are_bytes : (place : ℕ) (xs : List ℕ) → AreBytes xs → AreBytes (octets.written Big place xs)
octets_are_bytes place xs h = All-append IsByte (written_number 4 Big place (length xs)) xs (number_is_bytes 4 place (length xs)) h

text_is_bytes : (place : ℕ) (xs : List ℕ) → AreBytes xs → AreBytes (text.written Big place xs)
text_is_bytes place xs h =
    octets_are_bytes place (xs ++ 0 ∷ []) (All-append IsByte xs (0 ∷ []) h (All-cons IsByte 0 [] (lit< tt) (All-nil IsByte)))

profile_is_bytes : (place : ℕ) (p : Profile) → ProfileFits p → AreBytes (profile.written Big place p)
profile_is_bytes place p h =
    let tag = written_number 4 Big place p.tag in
    All-append IsByte tag (octets.written Big (place + length tag) p.content) (number_is_bytes 4 place p.tag)
    (octets_are_bytes (place + length tag) p.content h.content)

each_is_bytes : (place : ℕ) (ps : List Profile) → All ProfileFits ps → AreBytes (written_each profile.written Big place ps)
each_is_bytes place [] h = All-nil IsByte
each_is_bytes place (p ∷ ps) h =
    let first = profile.written Big place p in
    All-append IsByte first (written_each profile.written Big (place + length first) ps)
    (profile_is_bytes place p (All-head ProfileFits p ps h)) (each_is_bytes (place + length first) ps (All-tail ProfileFits p ps h))

profiles_are_bytes : (place : ℕ) (ps : List Profile) → All ProfileFits ps → AreBytes (profiles.written Big place ps)
profiles_are_bytes place ps h =
    let count = written_number 4 Big place (length ps) in
    All-append IsByte count (written_each profile.written Big (place + length count) ps) (number_is_bytes 4 place (length ps))
    (each_is_bytes (place + length count) ps h)

reference_is_bytes : (place : ℕ) (r : Ior) → ReferenceFits r → AreBytes (ior.written Big place r)
reference_is_bytes place r h =
    let type_id = text.written Big place r.type_id in
    All-append IsByte type_id (profiles.written Big (place + length type_id) r.profiles ++ []) (text_is_bytes place r.type_id h.type_id)
    (All-append IsByte (profiles.written Big (place + length type_id) r.profiles) [] (profiles_are_bytes (place + length type_id) r.profiles h.profiles) (All-nil IsByte))

-- ---- a reference has a spelling

profiles_valid : (ps : List Profile) → AreCounted ps → AreNumbered ps → AllByRecursion profile.Valid ps
profiles_valid [] counted numbered = tt
profiles_valid (p ∷ ps) counted numbered = (
  (All-head (IsNumbered profile_parts) p ps numbered, All-head (IsCounted profile_parts) p ps counted),
  profiles_valid ps (All-tail (IsCounted profile_parts) p ps counted) (All-tail (IsNumbered profile_parts) p ps numbered),
)

pub reference_valid : (r : Ior) → IsWritable r → AreNumbered r.profiles → ior.Valid r
reference_valid r w numbered = (text_valid r.type_id w.no_zero w.short, ((w.counted, profiles_valid r.profiles w.contents numbered), refl))

are_numbered : (ps : List Profile) → All ProfileFits ps → AreNumbered ps
are_numbered [] fits = All-nil (IsNumbered profile_parts)
are_numbered (p ∷ ps) fits = All-cons (IsNumbered profile_parts) p ps (All-head ProfileFits p ps fits).tag (are_numbered ps (All-tail ProfileFits p ps fits))

-- ---- what a text spells

abbrev spelled_in : List ℕ → Result (List ℕ) FromHexError → Result Ior TextFault
spelled_in digits decoded = octets_or_place digits decoded >>= λ octets. ior_or_bad (held ior octets)

text_again : (text : List ℕ) (r : Ior) → SpellsReference text r → ior_in_text text ≡ Ok r
text_again text r s =
    ap (λ (b : Bool). cond b (ior_in_digits (drop 4 text)) (Err texts.NoPrefix)) s.prefix
    ∙ ap (spelled_in (drop 4 text)) s.digits
    ∙ ap ior_or_bad (held_again ior ior_codec s.octets r s.content)

if_begun : (b : Bool) (q : Result Ior TextFault) (r : Ior) → cond b q (Err texts.NoPrefix) ≡ Ok r → (b ≡ true) × (q ≡ Ok r)
if_begun true q r e = (refl, e)
if_begun false q r e = absurd cc

are_decoded : (digits : List ℕ) (q : Result (List ℕ) FromHexError) (octets : List ℕ) → octets_or_place digits q ≡ Ok octets → q ≡ Ok octets
are_decoded digits (Ok xs) octets e = ap (λ (l : List ℕ). Ok l) (ok_is xs octets e)
are_decoded digits (Err wrong) octets e = absurd cc

is_held : (q : Result Ior (Fault CdrWhy)) (r : Ior) → ior_or_bad q ≡ Ok r → q ≡ Ok r
is_held (Ok x) r e = ap (λ (y : Ior). Ok y) (ok_is x r e)
is_held (Err wrong) r e = absurd cc

text_found : (text : List ℕ) (r : Ior) → ior_in_text text ≡ Ok r → SpellsReference text r
text_found text r e =
    let begun = if_begun (has_prefix text) (ior_in_digits (drop 4 text)) r e in
    let b = bind_ok (octets_in (drop 4 text)) (λ octets. ior_or_bad (held ior octets)) r begun.1 in
    record {
      octets = b.0;
      prefix = begun.0;
      digits = are_decoded (drop 4 text) (decode_of (drop 4 text)) b.0 b.1;
      content = held_found ior ior_codec b.0 r (is_held (held ior b.0) r b.2);
    }

abbrev TellsReference : List ℕ → Result Ior TextFault → Type 0
TellsReference text result = Tells (λ i. i) text_refusal result (ior_in_text text)

pub is_spelled : (text : List ℕ) (result : Result Ior TextFault) → TellsReference text result → IfOk result (SpellsReference text)
is_spelled bytes result t = told_found (λ i. i) text_refusal result (ior_in_text bytes) (SpellsReference bytes) (text_found bytes) t

pub is_unspelled : (text : List ℕ) (result : Result Ior TextFault) → TellsReference text result → Refuses text_refusal result ((r : Ior) → SpellsReference text r → ⊥)
is_unspelled bytes result t =
    told_refused (λ i. i) text_refusal result (ior_in_text bytes) ((r : Ior) → SpellsReference bytes r → ⊥)
    (λ wrong e r s. err_ok r wrong (sym e ∙ text_again bytes r s)) t

-- the text that is written spells the reference
pub text_spells : (r : Ior) → ior.Valid r → IsBytes (encapsulated Big ior r) → SpellsReference (text_of r) r
text_spells r valid bytes = record {
  octets = encapsulated Big ior r;
  prefix = refl;
  digits = decode_of-encode_lower (encapsulated Big ior r) bytes;
  content = inside_written ior ior_codec Big r valid;
}

pub texts_are_spelled : TextsAreSpelled
texts_are_spelled r w h =
    text_spells r (reference_valid r w (are_numbered r.profiles h.profiles)) (at_each (encapsulated Big ior r) (All-cons IsByte 0 (ior.written Big 1 r) (lit< tt) (reference_is_bytes 1 r h)))

pub texts_are_read : TextsAreRead
texts_are_read r w h = text_again (text_of r) r (texts_are_spelled r w h)

-- ---- what the call that writes a text answers

pub is_text_of : {E : Type 0} (r : Ior) (result : Result (List ℕ) E) → IfOk result (λ t. t ≡ text_of r) → IfOk result (λ t. ior.Valid r)
    → IfOk result (λ t. IsBytes (encapsulated Big ior r)) → IfOk result (λ t. SpellsReference t r)
is_text_of r (Ok t) is valid bytes = subst (λ (x : List ℕ). SpellsReference x r) (sym is) (text_spells r valid bytes)
is_text_of r (Err e) is valid bytes = tt
