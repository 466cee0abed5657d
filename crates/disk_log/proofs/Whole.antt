-- An image that is written whole.
use Rattle.std.proofs.Common.{◌≡◌, ℕ, zero, suc, ◌+◌, ◌<◌, ◌^◌, Bool, true, false, List, [], ◌∷◌, ◌++◌, length, map, take, drop, refl, sym, ◌∙◌, ap, subst, arith, append_assoc, length-append}
use Rattle.std.specs.Prelude.{Some, slice_get}
use Rattle.std.proofs.lemmas.List.{append-nil, take_more}
use Rattle.std.proofs.lemmas.Option.{slice_get_within, get_or_from_slice_get}
use Rattle.disk_log.specs.Disk.{Each}
use Rattle.disk_log.specs.Image.{Step, Add, Cut, rest, Leads}
use Rattle.disk_log.specs.Standing.{Begins, front_of, Calm, Stands, AreShort, IsLaid}
use Rattle.disk_log.proofs.Holding.{front_push, zero_shut}

abbrev Records : Type 0
Records = List (List ℕ)

-- ---- records are short

short_push : (records : Records) (content : List ℕ) → AreShort records → length content < 2 ^ 32 → AreShort (records ++ content ∷ [])
short_push [] content short may = (may, tt)
short_push (r ∷ records) content short may = (short.0, short_push records content short.1 may)

short_drop : (n : ℕ) (records : Records) → AreShort records → AreShort (drop n records)
short_drop zero records short = short
short_drop (suc n) [] short = tt
short_drop (suc n) (r ∷ records) short = short_drop n records short.1

leads_short : (old last : Records) (steps : List Step) → Leads old steps last → AreShort old → AreShort last
leads_short old last [] is short = subst (λ (l : Records). AreShort l) (sym is) short
leads_short old last (Add content ∷ steps) leads short = leads_short (old ++ content ∷ []) last steps leads.1 (short_push old content short leads.0)
leads_short old last (Cut n ∷ steps) leads short = leads_short (drop n old) last steps leads.1 (short_drop n old short)

-- those of a log that stands
pub stands_short : (doubt : Bool) (images : List ℕ → Type 0) (end : ℕ) (records : Records) (failed : List Records) → Stands doubt images end records failed → AreShort records
stands_short false images end records failed calm = leads_short [] records calm.steps calm.leads tt
stands_short true images end records failed d = leads_short [] records d.steps d.leads tt

pub short_at : (records : Records) (i : ℕ) (content : List ℕ) → AreShort records → slice_get records i ≡ Some content → length content < 2 ^ 32
short_at [] i content short at = absurd (cc at)
short_at (r ∷ records) zero content short at = subst (λ (l : List ℕ). length l < 2 ^ 32) (cc at) short.0
short_at (r ∷ records) (suc i) content short at = short_at records i content short.1 at

-- ---- one record after another

leads_adds : (old records : Records) → AreShort records → Leads old (map Add records) (old ++ records)
leads_adds old [] short = append-nil old
leads_adds old (r ∷ records) short =
    (short.0, subst (λ (l : Records). Leads (old ++ r ∷ []) (map Add records) l) (append_assoc old (r ∷ []) records) (leads_adds (old ++ r ∷ []) records short.1))

adds_push : (records : Records) (content : List ℕ) → map Add (records ++ content ∷ []) ≡ map Add records ++ Add content ∷ []
adds_push [] content = refl
adds_push (r ∷ records) content = ap (λ (l : List Step). Add r ∷ l) (adds_push records content)

-- one record more
pub taken : (xs : Records) (x : List ℕ) (i : ℕ) → slice_get xs i ≡ Some x → take (i + 1) xs ≡ take i xs ++ x ∷ []
taken xs x i at =
    let here = get_or_from_slice_get xs i x [] at in
    take_more xs i [] (slice_get_within xs i x at) ∙ ap (λ (r : List ℕ). take i xs ++ r ∷ []) here

pub laid_first : (gives : List ℕ → Type 0) → Each gives (Begins (front_of [])) → IsLaid gives [] 8
laid_first gives each = (refl, each)

pub laid_more : (old new : List ℕ → Type 0) (records : Records) (i : ℕ) (content : List ℕ) (end : ℕ) → slice_get records i ≡ Some content → IsLaid old (take i records) end
    → Each new (Begins (front_of (map Add (take i records)) ++ (1 ∷ rest (Add content)))) → IsLaid new (take (i + 1) records) (end + (6 + length content))
laid_more old new records i content end at laid each =
    let more : front_of (map Add (take (i + 1) records)) ≡ front_of (map Add (take i records)) ++ (1 ∷ rest (Add content)) =
    ap (λ (l : Records). front_of (map Add l)) (taken records content i at) ∙ ap (λ (l : List Step). front_of l) (adds_push (take i records) content) ∙ front_push (map Add (take i records)) (Add content) in (
      omega (arith, laid.0, ap length more, length-append (front_of (map Add (take i records))) (1 ∷ rest (Add content))),
      λ c given. subst (λ (l : List ℕ). Begins l c) (sym more) (each c given),
    )

pub laid_calm : (gives images : List ℕ → Type 0) (records : Records) (end : ℕ) → AreShort records → IsLaid gives records end
    → Each images (Begins (front_of (map Add records) ++ 0 ∷ [])) → Calm images end records
laid_calm gives images records end short laid each =
    record { steps = map Add records; gate = 0; shut = zero_shut; leads = leads_adds [] records short; ends = laid.0; each = each }
