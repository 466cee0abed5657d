-- An image holds one list of records at most.
use Rattle.std.proofs.Common.{◌≡◌, ◌≢◌, ℕ, ◌<◌, ◌^◌, List, [], ◌∷◌, ◌++◌, length, take, drop, refl, sym, ◌∙◌, ap, subst, append_assoc}
use Rattle.std.specs.Int.{to_be_bytes, from_be_bytes, w32, w64}
use Rattle.std.proofs.lemmas.Nat.{from_be_bytes-to_be_bytes_4, from_be_bytes-to_be_bytes_8}
use Rattle.std.proofs.lemmas.List.{take_at, drop_at}
use Rattle.disk_log.specs.Image.{Step, Add, Cut, rest, marked, magic, stepped, MayStep, Leads, Holds}

-- fronts of one length
pub fronts : (a b x y : List ℕ) → length a ≡ length b → a ++ x ≡ b ++ y → (a ≡ b) × (x ≡ y)
fronts a b x y long same = (
  sym (take_at a x (length a) refl) ∙ ap (λ (l : List ℕ). take (length a) l) same ∙ take_at b y (length a) (sym long),
  sym (drop_at a x (length a) refl) ∙ ap (λ (l : List ℕ). drop (length a) l) same ∙ drop_at b y (length a) (sym long),
)

pub head_same : (a b : ℕ) (x y : List ℕ) → a ∷ x ≡ b ∷ y → a ≡ b
head_same a b x y e = cc

pub tail_same : (a b : ℕ) (x y : List ℕ) → a ∷ x ≡ b ∷ y → x ≡ y
tail_same a b x y e = cc

pub size_same : (m n : ℕ) → m < 2 ^ 32 → n < 2 ^ 32 → to_be_bytes w32 m ≡ to_be_bytes w32 n → m ≡ n
size_same m n mm nn e = sym (from_be_bytes-to_be_bytes_4 m mm) ∙ ap (λ (l : List ℕ). from_be_bytes w32 l) e ∙ from_be_bytes-to_be_bytes_4 n nn

pub number_same : (m n : ℕ) → m < 2 ^ 64 → n < 2 ^ 64 → to_be_bytes w64 m ≡ to_be_bytes w64 n → m ≡ n
number_same m n mm nn e = sym (from_be_bytes-to_be_bytes_8 m mm) ∙ ap (λ (l : List ℕ). from_be_bytes w64 l) e ∙ from_be_bytes-to_be_bytes_8 n nn

-- a record's bytes say which it is, and where it ends
pub step_same : (old : List (List ℕ)) (s t : Step) (x y : List ℕ) → MayStep old s → MayStep old t → rest s ++ x ≡ rest t ++ y → (s ≡ t) × (x ≡ y)
step_same old (Add a) (Add b) x y s t e =
    let e' : (0 ∷ to_be_bytes w32 (length a)) ++ (a ++ x) ≡ (0 ∷ to_be_bytes w32 (length b)) ++ (b ++ y) =
    sym (append_assoc (0 ∷ to_be_bytes w32 (length a)) a x) ∙ e ∙ append_assoc (0 ∷ to_be_bytes w32 (length b)) b y in
    let heads = fronts (0 ∷ to_be_bytes w32 (length a)) (0 ∷ to_be_bytes w32 (length b)) (a ++ x) (b ++ y) refl e' in
    let long = size_same (length a) (length b) s t (tail_same 0 0 (to_be_bytes w32 (length a)) (to_be_bytes w32 (length b)) heads.0) in
    let contents = fronts a b x y long heads.1 in
    (ap Add contents.0, contents.1)
step_same old (Cut m) (Cut n) x y s t e =
    let e' : (1 ∷ to_be_bytes w32 8) ++ (to_be_bytes w64 m ++ x) ≡ (1 ∷ to_be_bytes w32 8) ++ (to_be_bytes w64 n ++ y) =
    sym (append_assoc (1 ∷ to_be_bytes w32 8) (to_be_bytes w64 m) x) ∙ e ∙ append_assoc (1 ∷ to_be_bytes w32 8) (to_be_bytes w64 n) y in
    let heads = fronts (1 ∷ to_be_bytes w32 8) (1 ∷ to_be_bytes w32 8) (to_be_bytes w64 m ++ x) (to_be_bytes w64 n ++ y) refl e' in
    let numbers = fronts (to_be_bytes w64 m) (to_be_bytes w64 n) x y refl heads.1 in
    (ap Cut (number_same m n s.1 t.1 numbers.0), numbers.1)
step_same old (Add a) (Cut n) x y s t e = absurd (cc (head_same 0 1 _ _ e))
step_same old (Cut m) (Add b) x y s t e = absurd (cc (head_same 1 0 _ _ e))

-- the steps before a closed mark are determined
leads_same : (old first last : List (List ℕ)) (ss ts : List Step) (g h : ℕ) (x y : List ℕ) → Leads old ss first → Leads old ts last → g ≢ 1 → h ≢ 1
    → marked ss ++ g ∷ x ≡ marked ts ++ h ∷ y → first ≡ last
leads_same old first last [] [] g h x y s t gg hh e = s ∙ sym t
leads_same old first last [] (k ∷ ts) g h x y s t gg hh e = absurd (gg (head_same g 1 x (rest k ++ marked ts ++ h ∷ y) e))
leads_same old first last (k ∷ ss) [] g h x y s t gg hh e = absurd (hh (sym (head_same 1 h (rest k ++ marked ss ++ g ∷ x) y e)))
leads_same old first last (k ∷ ss) (j ∷ ts) g h x y s t gg hh e =
    let behind : rest k ++ marked ss ++ g ∷ x ≡ rest j ++ marked ts ++ h ∷ y = tail_same 1 1 (rest k ++ marked ss ++ g ∷ x) (rest j ++ marked ts ++ h ∷ y) e in
    let split : rest k ++ (marked ss ++ g ∷ x) ≡ rest j ++ (marked ts ++ h ∷ y) = sym (append_assoc (rest k) (marked ss) (g ∷ x)) ∙ behind ∙ append_assoc (rest j) (marked ts) (h ∷ y) in
    let same = step_same old k j (marked ss ++ g ∷ x) (marked ts ++ h ∷ y) s.0 t.0 split in
    let t' : Leads (stepped old k) ts last = subst (λ (i : Step). Leads (stepped old i) ts last) (sym same.0) t.1 in
    leads_same (stepped old k) first last ss ts g h x y s.1 t' gg hh same.1

pub holds_once : (c : List ℕ) (first last : List (List ℕ)) → Holds c first → Holds c last → first ≡ last
holds_once c first last a b =
    let e : magic ++ (marked a.steps ++ a.gate ∷ a.behind) ≡ magic ++ (marked b.steps ++ b.gate ∷ b.behind) =
    sym (append_assoc magic (marked a.steps) (a.gate ∷ a.behind)) ∙ sym a.is ∙ b.is ∙ append_assoc magic (marked b.steps) (b.gate ∷ b.behind) in
    leads_same [] first last a.steps b.steps a.gate b.gate a.behind b.behind a.leads b.leads a.shut b.shut
    (fronts magic magic (marked a.steps ++ a.gate ∷ a.behind) (marked b.steps ++ b.gate ∷ b.behind) refl e).1
