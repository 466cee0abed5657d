-- Where an image is no log.
use Rattle.std.proofs.Common.{◌≡◌, ◌≢◌, inl, inr, ℕ, ◌+◌, ◌<◌, ◌≤◌, ◌^◌, List, [], ◌∷◌, ◌++◌, length, get_or, take, drop, refl, sym, ◌∙◌, ap, subst, arith, append_assoc, length-append, length-take, take-append-drop}
use Rattle.std.specs.Int.{to_be_bytes, from_be_bytes, w32, w64}
use Rattle.std.proofs.lemmas.Nat.{from_be_bytes-to_be_bytes_4}
use Rattle.std.proofs.lemmas.List.{drop_more, take_at}
use Rattle.disk_log.specs.Image.{Step, Add, Cut, rest, marked, magic, stepped, MayStep, Leads, Holds}
use Rattle.disk_log.specs.Standing.{NoneStands, IsNoLogAt, CannotStep}
use Rattle.disk_log.proofs.Images.{front_is}
use Rattle.disk_log.proofs.Once.{fronts, head_same, tail_same, size_same, number_same, step_same}

-- the bytes are too few for the size that they say
pub no_size : (records : List (List ℕ)) (after : List ℕ) → length after < 5 + from_be_bytes w32 (take 4 (drop 1 after))
    → (step : Step) (behind : List ℕ) → MayStep records step → after ≡ rest step ++ behind → ⊥
no_size records after short (Add c) behind may e =
    let head = 0 ∷ to_be_bytes w32 (length c) in
    let four : take 4 (drop 1 after) ≡ to_be_bytes w32 (length c) = ap (λ (l : List ℕ). take 4 (drop 1 l)) e in
    let size : from_be_bytes w32 (take 4 (drop 1 after)) ≡ length c = ap (λ (l : List ℕ). from_be_bytes w32 l) four ∙ from_be_bytes-to_be_bytes_4 (length c) may in
    let five : length head ≡ 5 = refl in
    absurd (omega (arith, short, size, five, ap length e, length-append (head ++ c) behind, length-append head c))
no_size records after short (Cut n) behind may e =
    let head = 1 ∷ to_be_bytes w32 8 in
    let four : take 4 (drop 1 after) ≡ to_be_bytes w32 8 = ap (λ (l : List ℕ). take 4 (drop 1 l)) e in
    let size : from_be_bytes w32 (take 4 (drop 1 after)) ≡ 8 = ap (λ (l : List ℕ). from_be_bytes w32 l) four ∙ from_be_bytes-to_be_bytes_4 8 (omega arith) in
    let five : length head ≡ 5 = refl in
    let eight : length (to_be_bytes w64 n) ≡ 8 = refl in
    absurd (omega (arith, short, size, five, eight, ap length e, length-append (head ++ to_be_bytes w64 n) behind, length-append head (to_be_bytes w64 n)))

-- ---- a whole record that may not stand there

abbrev head_of : ℕ → List ℕ → List ℕ
head_of kind content = kind ∷ to_be_bytes w32 (length content)

pub of_no_kind : (kind : ℕ) (content : List ℕ) (records : List (List ℕ)) → kind ≢ 0 → kind ≢ 1 → CannotStep kind content records
of_no_kind kind content records zero one (Add c) may e = zero (head_same kind 0 (to_be_bytes w32 (length content) ++ content) (to_be_bytes w32 (length c) ++ c) e)
of_no_kind kind content records zero one (Cut n) may e = one (head_same kind 1 (to_be_bytes w32 (length content) ++ content) (to_be_bytes w32 8 ++ to_be_bytes w64 n) e)

cut_parts : (kind : ℕ) (content : List ℕ) (n : ℕ) → length content < 2 ^ 32 → (kind ∷ to_be_bytes w32 (length content)) ++ content ≡ rest (Cut n) → (length content ≡ 8) × (content ≡ to_be_bytes w64 n)
cut_parts kind content n short e =
    let parts = fronts (kind ∷ to_be_bytes w32 (length content)) (1 ∷ to_be_bytes w32 8) content (to_be_bytes w64 n) refl e in
    (size_same (length content) 8 short (omega arith) (tail_same kind 1 (to_be_bytes w32 (length content)) (to_be_bytes w32 8) parts.0), parts.1)

pub of_wrong_length : (kind : ℕ) (content : List ℕ) (records : List (List ℕ)) → kind ≢ 0 → length content < 2 ^ 32 → length content ≢ 8 → CannotStep kind content records
of_wrong_length kind content records zero short long (Add c) may e = zero (head_same kind 0 (to_be_bytes w32 (length content) ++ content) (to_be_bytes w32 (length c) ++ c) e)
of_wrong_length kind content records zero short long (Cut n) may e = long (cut_parts kind content n short e).0

pub of_too_many : (kind number : ℕ) (content : List ℕ) (records : List (List ℕ)) → kind ≢ 0 → length content < 2 ^ 32 → number < 2 ^ 64 → to_be_bytes w64 number ≡ content → length records < number
    → CannotStep kind content records
of_too_many kind number content records zero short fits is more (Add c) may e = zero (head_same kind 0 (to_be_bytes w32 (length content) ++ content) (to_be_bytes w32 (length c) ++ c) e)
of_too_many kind number content records zero short fits is more (Cut n) may e =
    let same : number ≡ n = number_same number n fits may.1 (is ∙ (cut_parts kind content n short e).1) in
    absurd (omega (arith, same, more, may.0))

-- such a record, and whatever stands behind it
pub no_step : (records : List (List ℕ)) (after : List ℕ) (kind : ℕ) (content more : List ℕ) → length content < 2 ^ 32 → after ≡ (kind ∷ to_be_bytes w32 (length content)) ++ content ++ more → CannotStep kind content records
    → (step : Step) (behind : List ℕ) → MayStep records step → after ≡ rest step ++ behind → ⊥
no_step records after kind content more short is cannot (Add c) behind may e =
    let head = kind ∷ to_be_bytes w32 (length content) in
    let other = 0 ∷ to_be_bytes w32 (length c) in
    let same : head ++ (content ++ more) ≡ other ++ (c ++ behind) = sym (append_assoc head content more) ∙ sym is ∙ e ∙ append_assoc other c behind in
    let heads = fronts head other (content ++ more) (c ++ behind) refl same in
    let long = size_same (length content) (length c) short may (tail_same kind 0 (to_be_bytes w32 (length content)) (to_be_bytes w32 (length c)) heads.0) in
    let contents = fronts content c more behind long heads.1 in
    cannot (Add c) may (ap (λ (l : List ℕ). l ++ content) heads.0 ∙ ap (λ (l : List ℕ). other ++ l) contents.0)
no_step records after kind content more short is cannot (Cut n) behind may e =
    let head = kind ∷ to_be_bytes w32 (length content) in
    let other = 1 ∷ to_be_bytes w32 8 in
    let same : head ++ (content ++ more) ≡ other ++ (to_be_bytes w64 n ++ behind) = sym (append_assoc head content more) ∙ sym is ∙ e ∙ append_assoc other (to_be_bytes w64 n) behind in
    let heads = fronts head other (content ++ more) (to_be_bytes w64 n ++ behind) refl same in
    let long : length content ≡ 8 = size_same (length content) 8 short (omega arith) (tail_same kind 1 (to_be_bytes w32 (length content)) (to_be_bytes w32 8) heads.0) in
    let contents = fronts content (to_be_bytes w64 n) more behind long heads.1 in
    cannot (Cut n) may (ap (λ (l : List ℕ). l ++ content) heads.0 ∙ ap (λ (l : List ℕ). other ++ l) contents.0)

pub none_at : (records : List (List ℕ)) (bytes : List ℕ) (place : ℕ) → place < length bytes → get_or bytes place 0 ≡ 1
    → ((step : Step) (behind : List ℕ) → MayStep records step → drop (place + 1) bytes ≡ rest step ++ behind → ⊥) → NoneStands records (drop place bytes)
none_at records bytes place within one none = subst (λ (l : List ℕ). NoneStands records l) (sym (drop_more bytes place 0 within)) (one, none)

-- ---- such an image holds nothing

none_leads : (old middle last : List (List ℕ)) (ss ts : List Step) (end : List ℕ) (h : ℕ) (y : List ℕ) → Leads old ss middle → Leads old ts last → h ≢ 1 → NoneStands middle end
    → marked ss ++ end ≡ marked ts ++ h ∷ y → ⊥
none_leads old middle last [] [] [] h y s t hh none e = absurd (cc e)
none_leads old middle last [] [] (g ∷ after) h y s t hh none e = hh (sym (head_same g h after y e) ∙ none.0)
none_leads old middle last [] (k ∷ ts) [] h y s t hh none e = absurd (cc e)
none_leads old middle last [] (k ∷ ts) (g ∷ after) h y s t hh none e =
    none.1 k (marked ts ++ h ∷ y) (subst (λ (r : List (List ℕ)). MayStep r k) (sym s) t.0) (tail_same g 1 after (rest k ++ marked ts ++ h ∷ y) e ∙ append_assoc (rest k) (marked ts) (h ∷ y))
none_leads old middle last (k ∷ ss) [] end h y s t hh none e = hh (sym (head_same 1 h (rest k ++ marked ss ++ end) y e))
none_leads old middle last (k ∷ ss) (j ∷ ts) end h y s t hh none e =
    let behind : rest k ++ marked ss ++ end ≡ rest j ++ marked ts ++ h ∷ y = tail_same 1 1 (rest k ++ marked ss ++ end) (rest j ++ marked ts ++ h ∷ y) e in
    let split : rest k ++ (marked ss ++ end) ≡ rest j ++ (marked ts ++ h ∷ y) = sym (append_assoc (rest k) (marked ss) end) ∙ behind ∙ append_assoc (rest j) (marked ts) (h ∷ y) in
    let same = step_same old k j (marked ss ++ end) (marked ts ++ h ∷ y) s.0 t.0 split in
    let t' : Leads (stepped old k) ts last = subst (λ (i : Step). Leads (stepped old i) ts last) (sym same.0) t.1 in
    none_leads (stepped old k) middle last ss ts end h y s.1 t' hh none same.1

pub holds_none : (image : List ℕ) (place : ℕ) (records : List (List ℕ)) → IsNoLogAt image place → Holds image records → ⊥
holds_none image place records (inl unnamed) held =
    unnamed.1 (ap (λ (l : List ℕ). take 8 l) (held.is ∙ append_assoc magic (marked held.steps) (held.gate ∷ held.behind)) ∙ take_at magic (marked held.steps ++ held.gate ∷ held.behind) 8 refl)
holds_none image place records (inr (middle, to, none)) held =
    let split : image ≡ magic ++ (marked to.steps ++ drop place image) = sym (take-append-drop place image) ∙ ap (λ (l : List ℕ). l ++ drop place image) to.is ∙ append_assoc magic (marked to.steps) (drop place image) in
    let e : magic ++ (marked to.steps ++ drop place image) ≡ magic ++ (marked held.steps ++ held.gate ∷ held.behind) = sym split ∙ held.is ∙ append_assoc magic (marked held.steps) (held.gate ∷ held.behind) in
    none_leads [] middle records to.steps held.steps (drop place image) held.gate held.behind to.leads held.leads held.shut none
    (fronts magic magic (marked to.steps ++ drop place image) (marked held.steps ++ held.gate ∷ held.behind) refl e).1

-- a record that is there whole, and may not stand there
pub refused_at : (records : List (List ℕ)) (after : List ℕ) (size : ℕ) → 5 + size ≤ length after → size < 2 ^ 32 → to_be_bytes w32 size ≡ take 4 (drop 1 after)
    → CannotStep (get_or after 0 0) (take size (drop 5 after)) records
    → (step : Step) (behind : List ℕ) → MayStep records step → after ≡ rest step ++ behind → ⊥
refused_at records after size fits small be cannot =
    let content = take size (drop 5 after) in
    let short : length content < 2 ^ 32 = omega (arith, small, length-take size (drop 5 after)) in
    let is : after ≡ (get_or after 0 0 ∷ to_be_bytes w32 (length content)) ++ content ++ drop (5 + size) after =
    sym (take-append-drop (5 + size) after) ∙ ap (λ (l : List ℕ). l ++ drop (5 + size) after) (front_is after size fits be) in
    no_step records after (get_or after 0 0) content (drop (5 + size) after) short is cannot
