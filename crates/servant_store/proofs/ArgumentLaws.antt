-- The value whose canonical form stands behind a key in arguments.
use Rattle.std.proofs.Common.{◌≡◌, ℕ, ◌+◌, ◌^◌, ◌<◌, List, [], ◌∷◌, ◌++◌, length, drop, replicate, refl, ap, subst, sym, ◌∙◌, arith}
use Rattle.std.proofs.lemmas.List.{append-nil, append_assoc, drop_at, length-append, length-replicate}
use Rattle.byteorder.specs.Endian.{big_bytes, big_number}
use Rattle.byteorder.specs.Numbers.{big_number-reads_back}
use Rattle.ft_base.specs.Canonical.{AreOf, HasSpelling, octets_at, padding, text_at, values_at}
use Rattle.ft_base.specs.declared.requests.Par.TheVariants.{Text, Octets}
use Rattle.ft_base.specs.declared.values.Value.{Value}
use Rattle.ft_base.specs.declared.values.Value.TheVariants as values
use Rattle.servant_store.specs.Store.{value_of}

text_front : (text more : List ℕ) → text_at 0 text ++ more ≡ big_bytes 4 (length text + 1) ++ (text ++ 0 ∷ more)
text_front text more = append_assoc (big_bytes 4 (length text + 1) ++ text) (0 ∷ []) more ∙ append_assoc (big_bytes 4 (length text + 1)) text (0 ∷ more)

count_said : (text more : List ℕ) → length text + 1 < 2 ^ 32 → big_number 4 (text_at 0 text ++ more) ≡ length text + 1
count_said text more h = ap (big_number 4) (text_front text more) ∙ big_number-reads_back 4 (length text + 1) (text ++ 0 ∷ more) h

value_said : (text value : List ℕ) → length text + 1 < 2 ^ 32
    → value_of (text_at 0 text ++ octets_at (length text + 5) value) ≡ value
value_said text value h =
    let count = count_said text (octets_at (length text + 5) value) h in
    let place : 4 + big_number 4 (text_at 0 text ++ octets_at (length text + 5) value) ≡ length text + 5 = omega (arith, count) in
    let front : List ℕ = text_at 0 text ++ (replicate (padding (length text + 5) 4) 0 ++ big_bytes 4 (length value)) in
    let regrouped : text_at 0 text ++ octets_at (length text + 5) value ≡ front ++ value =
    sym (append_assoc (text_at 0 text) (replicate (padding (length text + 5) 4) 0 ++ big_bytes 4 (length value)) value) in
    let long : length front ≡ length text + 5 + padding (length text + 5) 4 + 4 =
    (let all = length-append (text_at 0 text) (replicate (padding (length text + 5) 4) 0 ++ big_bytes 4 (length value)) in
    let said = length-append (big_bytes 4 (length text + 1) ++ text) (0 ∷ []) in
    let gap = length-append (replicate (padding (length text + 5) 4) 0) (big_bytes 4 (length value)) in
    let zeros = length-replicate {A = ℕ} (padding (length text + 5) 4) 0 in
    omega (arith, all, said, gap, zeros)) in
    ap (λ p. drop (p + padding p 4 + 4) (text_at 0 text ++ octets_at (length text + 5) value)) place
    ∙ ap (λ n. drop n (text_at 0 text ++ octets_at (length text + 5) value)) (sym long)
    ∙ ap (drop (length front)) regrouped
    ∙ drop_at front value (length front) refl

pair_at : (args : List ℕ) (first second : Value) (key value : List ℕ) → args ≡ values_at 0 (first ∷ second ∷ []) → first ≡ values.Text key → second ≡ values.Octets value
    → args ≡ text_at 0 key ++ octets_at (length key + 5) value
pair_at args first second key value said is also =
    let long : 0 + length (text_at 0 key) ≡ length key + 5 =
    (let all = length-append (big_bytes 4 (length key + 1) ++ key) (0 ∷ []) in omega (arith, all)) in
    said ∙ ap (λ (v : Value). values_at 0 (v ∷ second ∷ [])) is ∙ ap (λ (v : Value). values_at 0 (values.Text key ∷ v ∷ [])) also
    ∙ ap (λ (place : ℕ). text_at 0 key ++ (octets_at place value ++ [])) long
    ∙ ap (λ (l : List ℕ). text_at 0 key ++ l) (append-nil (octets_at (length key + 5) value))

-- what is read of arguments is what they say
pub second_read : (args : List ℕ) (first second : Value) (key value : List ℕ) → AreOf (Text ∷ Octets ∷ []) (first ∷ second ∷ []) → args ≡ values_at 0 (first ∷ second ∷ [])
    → first ≡ values.Text key → second ≡ values.Octets value → value ≡ value_of args
second_read args first second key value typed said is also =
    let short = (subst HasSpelling is typed.1).1 in
    sym (ap value_of (pair_at args first second key value said is also) ∙ value_said key value short)
