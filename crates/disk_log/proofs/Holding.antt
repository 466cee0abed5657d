-- What the images of a log hold, by how it stands.
use Rattle.std.proofs.Common.{◌≡◌, ◌≢◌, ◌⊎◌, inl, inr, ⊎_elim, ℕ, ◌+◌, Bool, true, false, List, [], ◌∷◌, ◌++◌, length, refl, sym, ◌∙◌, ap, subst, arith, append_assoc, length-append}
use Rattle.std.proofs.lemmas.List.{append-nil}
use Rattle.std.proofs.lemmas.Bool.{cases_eq}
use Rattle.disk_log.specs.Disk.{Each}
use Rattle.disk_log.specs.Image.{Step, rest, marked, magic, stepped, MayStep, Leads, Holds, HoldsOneOf}
use Rattle.disk_log.specs.Standing.{Begins, Gated, front_of, Calm, OneOf, Doubtful, Stands}

abbrev Records : Type 0
Records = List (List ℕ)

-- ---- one step more

pub marked_push : (steps : List Step) (step : Step) → marked (steps ++ step ∷ []) ≡ marked steps ++ (1 ∷ rest step)
marked_push [] step = append-nil (1 ∷ rest step)
marked_push (s ∷ steps) step =
    ap (λ (l : List ℕ). (1 ∷ rest s) ++ l) (marked_push steps step) ∙ sym (append_assoc (1 ∷ rest s) (marked steps) (1 ∷ rest step))

pub front_push : (steps : List Step) (step : Step) → front_of (steps ++ step ∷ []) ≡ front_of steps ++ (1 ∷ rest step)
front_push steps step = ap (λ (l : List ℕ). magic ++ l) (marked_push steps step) ∙ sym (append_assoc magic (marked steps) (1 ∷ rest step))

pub leads_push : (first last : Records) (steps : List Step) (step : Step) → Leads first steps last → MayStep last step → Leads first (steps ++ step ∷ []) (stepped last step)
leads_push first last [] step is may = (subst (λ (r : Records). MayStep r step) is may, ap (λ (r : Records). stepped r step) is)
leads_push first last (s ∷ steps) step leads may = (leads.0, leads_push (stepped first s) last steps step leads.1 may)

-- ---- what images hold

pub holds_begun : (records : Records) (steps : List Step) (gate : ℕ) (c : List ℕ) → Leads [] steps records → gate ≢ 1 → Begins (front_of steps ++ gate ∷ []) c → Holds c records
holds_begun records steps gate c leads shut b =
    record { steps = steps; gate = gate; behind = b.0; is = b.1 ∙ append_assoc (front_of steps) (gate ∷ []) b.0; shut = shut; leads = leads }

-- the record behind an open mark counts
pub opened : (steps : List Step) (step : Step) (c : List ℕ) → Begins (front_of steps ++ 1 ∷ (rest step ++ 0 ∷ [])) c → Begins (front_of (steps ++ step ∷ []) ++ 0 ∷ []) c
opened steps step c b = (
  b.0,
  b.1 ∙ ap (λ (l : List ℕ). l ++ b.0) (sym (append_assoc (front_of steps) (1 ∷ rest step) (0 ∷ [])) ∙ ap (λ (l : List ℕ). l ++ 0 ∷ []) (sym (front_push steps step))),
)

pub zero_shut : ◌≢◌ {A = ℕ} 0 1
zero_shut e = omega (arith, e)

pub holds_gated : (records : Records) (steps : List Step) (step : Step) (c : List ℕ) → Leads [] steps records → MayStep records step
    → Gated (front_of steps) (rest step ++ 0 ∷ []) c → Holds c records ⊎ Holds c (stepped records step)
holds_gated records steps step c leads may (gate, b) = elim (cases_eq gate 1) [
  | inl is_open ↦
      let at_one : Begins (front_of steps ++ 1 ∷ (rest step ++ 0 ∷ [])) c = (b.0, b.1 ∙ ap (λ (g : ℕ). front_of steps ++ g ∷ (rest step ++ 0 ∷ []) ++ b.0) is_open) in
      inr (holds_begun (stepped records step) (steps ++ step ∷ []) 0 c (leads_push [] records steps step leads may) zero_shut (opened steps step c at_one))
  | inr shut ↦
      inl (record { steps = steps; gate = gate; behind = rest step ++ 0 ∷ [] ++ b.0; is = b.1 ∙ append_assoc (front_of steps) (gate ∷ (rest step ++ 0 ∷ [])) b.0; shut = shut; leads = leads })
]

pub holds_among : (records : Records) (lists : List Records) (c : List ℕ) → OneOf records lists → Holds c records → HoldsOneOf lists c
holds_among records [] c one held = absurd one
holds_among records (list ∷ lists) c (inl same) held = inl (subst (λ (r : Records). Holds c r) same held)
holds_among records (list ∷ lists) c (inr one) held = inr (holds_among records lists c one held)

-- ---- a log that stands

pub calm_holds : (images : List ℕ → Type 0) (end : ℕ) (records : Records) → Calm images end records → Each images (λ c. Holds c records)
calm_holds images end records calm = λ c now. holds_begun records calm.steps calm.gate c calm.leads calm.shut (calm.each c now)

pub stands_holds : (doubt : Bool) (images : List ℕ → Type 0) (end : ℕ) (records : Records) (failed : List Records) → Stands doubt images end records failed → Each images (HoldsOneOf (records ∷ failed))
stands_holds false images end records failed calm = λ c now. inl (calm_holds images end records calm c now)
stands_holds true images end records failed d = λ c now.
    ⊎_elim (λ held. inl held) (λ held. inr (holds_among (stepped records d.step) failed c d.among held)) (holds_gated records d.steps d.step c d.leads d.may (d.each c now))

-- ---- how it goes on

pub gated_among : (records : Records) (failed : List Records) (steps : List Step) (step : Step) → Leads [] steps records → MayStep records step → OneOf (stepped records step) failed
    → (c : List ℕ) → Gated (front_of steps) (rest step ++ 0 ∷ []) c → HoldsOneOf (records ∷ failed) c
gated_among records failed steps step leads may among c gated =
    ⊎_elim (λ held. inl held) (λ held. inr (holds_among (stepped records step) failed c among held)) (holds_gated records steps step c leads may gated)

pub begins_gate : (front behind : List ℕ) (gate : ℕ) (c : List ℕ) → Begins (front ++ gate ∷ behind) c → Begins (front ++ gate ∷ []) c
begins_gate front behind gate c b = (behind ++ b.0, b.1 ∙ ap (λ (l : List ℕ). l ++ b.0) (sym (append_assoc front (gate ∷ []) behind)) ∙ append_assoc (front ++ gate ∷ []) behind b.0)

pub still : (old new : List ℕ → Type 0) (end : ℕ) (records : Records) (failed : List Records) (d : Doubtful old end records failed)
    → Each new (Gated (front_of d.steps) (rest d.step ++ 0 ∷ [])) → Doubtful new end records failed
still old new end records failed d each =
    record { steps = d.steps; step = d.step; leads = d.leads; may = d.may; among = d.among; ends = d.ends; each = each }

pub closed_again : (old new : List ℕ → Type 0) (end : ℕ) (records : Records) (failed : List Records) (d : Doubtful old end records failed)
    → Each new (Begins (front_of d.steps ++ 0 ∷ (rest d.step ++ 0 ∷ []))) → Calm new end records
closed_again old new end records failed d each = record {
  steps = d.steps;
  gate = 0;
  shut = zero_shut;
  leads = d.leads;
  ends = d.ends;
  each = λ c now. begins_gate (front_of d.steps) (rest d.step ++ 0 ∷ []) 0 c (each c now);
}

pub calm_still : (old new : List ℕ → Type 0) (end : ℕ) (records : Records) (calm : Calm old end records) → Each new (Begins (front_of calm.steps ++ calm.gate ∷ [])) → Calm new end records
calm_still old new end records calm each =
    record { steps = calm.steps; gate = calm.gate; shut = calm.shut; leads = calm.leads; ends = calm.ends; each = each }

pub more_lists : (records new : Records) (failed : List Records) (c : List ℕ) → HoldsOneOf (records ∷ failed) c → HoldsOneOf (records ∷ new ∷ failed) c
more_lists records new failed c (inl held) = inl held
more_lists records new failed c (inr among) = inr (inr among)

pub stands_more : (doubt : Bool) (images : List ℕ → Type 0) (end : ℕ) (records new : Records) (failed : List Records) → Stands doubt images end records failed → Stands doubt images end records (new ∷ failed)
stands_more false images end records new failed calm = calm
stands_more true images end records new failed d =
    record { steps = d.steps; step = d.step; leads = d.leads; may = d.may; among = inr d.among; ends = d.ends; each = d.each }

-- a whole record behind the closed mark
pub staged_gated : (steps : List Step) (step : Step) (gate : ℕ) (head content c : List ℕ) → rest step ≡ head ++ content
    → Begins (front_of steps ++ gate ∷ [] ++ head ++ content ++ 0 ∷ []) c → Gated (front_of steps) (rest step ++ 0 ∷ []) c
staged_gated steps step gate head content c is b = (
  gate,
  (
    b.0,
    b.1 ∙ ap (λ (l : List ℕ). l ++ b.0)
        (ap (λ (l : List ℕ). l ++ 0 ∷ []) (append_assoc (front_of steps ++ gate ∷ []) head content)
        ∙ ap (λ (l : List ℕ). front_of steps ++ gate ∷ [] ++ l ++ 0 ∷ []) (sym is)
        ∙ append_assoc (front_of steps ++ gate ∷ []) (rest step) (0 ∷ [])
        ∙ append_assoc (front_of steps) (gate ∷ []) (rest step ++ 0 ∷ [])),
  ),
)

-- the mark of a whole record may stand open
pub doubted : (new : List ℕ → Type 0) (end : ℕ) (records : Records) (failed : List Records) (steps : List Step) (step : Step) → Leads [] steps records → MayStep records step
    → end ≡ length (front_of steps) → Each new (Gated (front_of steps) (rest step ++ 0 ∷ [])) → Doubtful new end records (stepped records step ∷ failed)
doubted new end records failed steps step leads may ends each =
    record { steps = steps; step = step; leads = leads; may = may; among = inl refl; ends = ends; each = each }

-- it stands open in each image
pub marked_calm : (new : List ℕ → Type 0) (end : ℕ) (records : Records) (steps : List Step) (step : Step) (head content : List ℕ) → Leads [] steps records → MayStep records step
    → rest step ≡ head ++ content → end ≡ length (front_of steps) → Each new (Begins (front_of steps ++ 1 ∷ (rest step ++ 0 ∷ [])))
    → Calm new (end + 1 + length head + length content) (stepped records step)
marked_calm new end records steps step head content leads may is ends each = record {
  steps = steps ++ step ∷ [];
  gate = 0;
  shut = zero_shut;
  leads = leads_push [] records steps step leads may;
  ends = omega (arith, ends, ap length (front_push steps step), length-append (front_of steps) (1 ∷ rest step), ap length is, length-append head content);
  each = λ c now. opened steps step c (each c now);
}

-- after a call that was done, whatever name the records have
pub rest_done : (doubt : Bool) (images : List ℕ → Type 0) (end : ℕ) (records named : Records) (failed : List Records) → Stands doubt images end records [] → named ≡ records → Each images (HoldsOneOf (named ∷ failed))
rest_done doubt images end records named failed stands same = λ c now.
    ⊎_elim (λ held. inl (subst (λ (r : Records). Holds c r) (sym same) held)) (λ none. absurd none) (stands_holds doubt images end records [] stands c now)
