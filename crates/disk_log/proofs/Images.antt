-- An image is read one marked record after another.
use Rattle.std.proofs.Common.{◌≡◌, ◌≢◌, ℕ, ◌+◌, ◌<◌, ◌≤◌, List, [], ◌∷◌, ◌++◌, length, get_or, take, drop, sym, ◌∙◌, ap, subst, arith, append_assoc, length-take, length-drop, take-append-drop}
use Rattle.std.specs.Int.{to_be_bytes, w32}
use Rattle.std.proofs.lemmas.List.{drop_more, take_more}
use Rattle.std.proofs.Math.Seq.{take-add}
use Rattle.disk_log.specs.Disk.{Each}
use Rattle.disk_log.specs.Image.{rest, Leads, Holds}
use Rattle.disk_log.specs.Standing.{Begins, front_of, IsStep, IsReadTo, IsRead, Calm}
use Rattle.disk_log.proofs.Holding.{front_push, leads_push, holds_begun}

-- the bytes of one record behind its mark
pub front_is : (after : List ℕ) (size : ℕ) → 5 + size ≤ length after → to_be_bytes w32 size ≡ take 4 (drop 1 after)
    → take (5 + size) after ≡ (get_or after 0 0 ∷ to_be_bytes w32 (length (take size (drop 5 after)))) ++ take size (drop 5 after)
front_is after size fits be =
    let content = take size (drop 5 after) in
    let long : length content ≡ size = omega (arith, fits, length-take size (drop 5 after), length-drop 5 after) in
    let first : take 1 after ≡ get_or after 0 0 ∷ [] = take_more after 0 0 (omega (arith, fits)) in
    let five : take 5 after ≡ get_or after 0 0 ∷ to_be_bytes w32 size =
    take-add 1 4 after ∙ ap (λ (l : List ℕ). l ++ take 4 (drop 1 after)) first ∙ ap (λ (l : List ℕ). (get_or after 0 0 ∷ []) ++ l) (sym be) in
    take-add 5 size after ∙ ap (λ (l : List ℕ). l ++ content) five ∙ ap (λ (n : ℕ). (get_or after 0 0 ∷ to_be_bytes w32 n) ++ content) (sym long)

-- and of that record with its mark, behind a place
marked_is : (bytes after : List ℕ) (place size : ℕ) → place < length bytes → get_or bytes place 0 ≡ 1 → after ≡ drop (place + 1) bytes
    → take (place + (6 + size)) bytes ≡ take place bytes ++ (1 ∷ take (5 + size) after)
marked_is bytes after place size within one is =
    let six : 6 + size ≡ 1 + (5 + size) = omega arith in
    let behind : drop place bytes ≡ 1 ∷ after = drop_more bytes place 0 within ∙ ap (λ (n : ℕ). n ∷ drop (place + 1) bytes) one ∙ ap (λ (l : List ℕ). 1 ∷ l) (sym is) in
    let front : take (6 + size) (drop place bytes) ≡ 1 ∷ take (5 + size) after =
    ap (λ (n : ℕ). take n (drop place bytes)) six ∙ ap (λ (l : List ℕ). take (1 + (5 + size)) l) behind ∙ take-add 1 (5 + size) (1 ∷ after) in
    take-add place (6 + size) bytes ∙ ap (λ (l : List ℕ). take place bytes ++ l) front

pub reads_on : (bytes after : List ℕ) (records new : List (List ℕ)) (place size : ℕ) → IsReadTo bytes records place → place < length bytes → get_or bytes place 0 ≡ 1
    → after ≡ drop (place + 1) bytes → 5 + size ≤ length after → to_be_bytes w32 size ≡ take 4 (drop 1 after)
    → IsStep (get_or after 0 0) (take size (drop 5 after)) records new → IsReadTo bytes new (place + (6 + size))
reads_on bytes after records new place size to within one is fits be st =
    let record_is : take (5 + size) after ≡ rest st.step = front_is after size fits be ∙ st.is in
    let whole : take (place + (6 + size)) bytes ≡ front_of (to.steps ++ st.step ∷ []) =
    marked_is bytes after place size within one is ∙ ap (λ (l : List ℕ). l ++ (1 ∷ take (5 + size) after)) to.is ∙ ap (λ (l : List ℕ). front_of to.steps ++ (1 ∷ l)) record_is ∙ sym (front_push to.steps st.step) in
    let room : place + (6 + size) ≤ length bytes = omega (arith, fits, ap length is, length-drop (place + 1) bytes) in
    record {
      steps = to.steps ++ st.step ∷ [];
      is = whole;
      ends = omega (arith, ap length whole, length-take (place + (6 + size)) bytes, room);
      within = room;
      leads = subst (λ (r : List (List ℕ)). Leads [] (to.steps ++ st.step ∷ []) r) (sym st.leads) (leads_push [] records to.steps st.step to.leads st.may);
    }

pub reads_last : (bytes : List ℕ) (records : List (List ℕ)) (end : ℕ) → IsReadTo bytes records end → end < length bytes → get_or bytes end 0 ≢ 1 → IsRead bytes records end
reads_last bytes records end to within shut = record { to = to; gate = get_or bytes end 0; shut = shut; behind = drop (end + 1) bytes; closed = drop_more bytes end 0 within }

-- ---- what was read

pub begins_read : (bytes : List ℕ) (records : List (List ℕ)) (end : ℕ) (r : IsRead bytes records end) → Begins (front_of r.to.steps ++ r.gate ∷ []) bytes
begins_read bytes records end r = (
  r.behind,
  sym (take-append-drop end bytes) ∙ ap (λ (l : List ℕ). l ++ drop end bytes) r.to.is ∙ ap (λ (l : List ℕ). front_of r.to.steps ++ l) r.closed ∙ sym (append_assoc (front_of r.to.steps) (r.gate ∷ []) r.behind),
)

pub read_holds : (bytes : List ℕ) (records : List (List ℕ)) (end : ℕ) → IsRead bytes records end → Holds bytes records
read_holds bytes records end r = holds_begun records r.to.steps r.gate bytes r.to.leads r.shut (begins_read bytes records end r)

pub read_calm : (images : List ℕ → Type 0) (bytes : List ℕ) (records : List (List ℕ)) (end : ℕ) → IsRead bytes records end → Each images (λ c. c ≡ bytes) → Calm images end records
read_calm images bytes records end r only = record {
  steps = r.to.steps;
  gate = r.gate;
  shut = r.shut;
  leads = r.to.leads;
  ends = r.to.ends;
  each = λ c now. subst (λ (l : List ℕ). Begins (front_of r.to.steps ++ r.gate ∷ []) l) (sym (only c now)) (begins_read bytes records end r);
}
