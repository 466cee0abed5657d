-- Tables: entries that are filed again give the table back, and a table stays told by the records.
use Rattle.std.proofs.Common.{◌≡◌, ℕ, ◌+◌, ◌<◌, ◌≤◌, Bool, true, false, true≢false, cond, not, eqb, List, [], ◌∷◌, ◌++◌, Option, Some, None, refl, sym, ap, subst, ◌∙◌, append_assoc, arith}
use Rattle.std.specs.Prelude.{is_some, unwrap_or, nat_le, nat_lt}
use Rattle.std.specs.List.{AllByRecursion, filter}
use Rattle.std.proofs.lemmas.Bool.{eq-eqb, eqb-true, ne_eqb}
use Rattle.std.proofs.lemmas.Bool.Decides.{nat_tests}
use Rattle.ft_base.specs.declared.requests.Key.{Key}
use Rattle.ft_base.specs.declared.requests.Outcome.{Outcome}
use Rattle.ft_base.specs.Journal.{is_call}
use Rattle.reply_table.specs.Entries.{unanswered, without, joined, replied, answered, with_reply}
use Rattle.reply_table.specs.declared.entries.Retained.{Retained}
use Rattle.log_records.specs.Records.{are_rising, IsVersion, AreOfVersions}
use Rattle.message_log.specs.Opening.{with_its_reply, with_retained, filed}
use Rattle.message_log.specs.Retaining.{IsOtherCall, IsBehind, AreRetained, recorded_one, recorded}

-- ---- elements of lists

module _ {X : Type 0} where
  pub all_filter : (P : X → Type 0) (p : X → Bool) (xs : List X) → AllByRecursion P xs → AllByRecursion P (filter p xs)
  all_filter P p [] h = tt
  all_filter P p (x ∷ xs) h = go (all_filter P p xs h.1) (p x)
    where
      go : AllByRecursion P (filter p xs) → (b : Bool) → AllByRecursion P (cond b (x ∷ filter p xs) (filter p xs))
      go rest true = (h.0, rest)
      go rest false = rest

  pub all_push : (P : X → Type 0) (xs : List X) (x : X) → AllByRecursion P xs → P x → AllByRecursion P (xs ++ x ∷ [])
  all_push P [] x h p = (p, tt)
  all_push P (y ∷ xs) x h p = (h.0, all_push P xs x h.1 p)

  pub all_map : (P Q : X → Type 0) (f : (x : X) → P x → Q x) (xs : List X) → AllByRecursion P xs → AllByRecursion Q xs
  all_map P Q f [] h = tt
  all_map P Q f (x ∷ xs) h = (f x h.0, all_map P Q f xs h.1)

  all_of : (P : X → Type 0) (f : (x : X) → P x) (xs : List X) → AllByRecursion P xs
  all_of P f [] = tt
  all_of P f (x ∷ xs) = (f x, all_of P f xs)

-- ---- facts of each retained entry

pub all_joined : (P : Retained → Type 0) (table : List Retained) (e : Retained) (key : Option Key) → AllByRecursion P table → P e → AllByRecursion P (joined table e key)
all_joined P table e None h p = h
all_joined P table e (Some key) h p = all_push P (without key table) e (all_filter P (λ d. not (is_call key d.request.key)) table h) p

pub all_answered : (P : Retained → Type 0) (position : ℕ) (outcome : Outcome) → ((r : Retained) → P r → P (replied outcome r)) → (table : List Retained) → AllByRecursion P table
    → AllByRecursion P (with_reply table position outcome)
all_answered P position outcome f [] h = tt
all_answered P position outcome f (r ∷ table) h = (go (eqb r.position position), all_answered P position outcome f table h.1)
  where
    go : (b : Bool) → P (cond b (replied outcome r) r)
    go true = f r h.0
    go false = h.0

-- ---- two tables whose requests are the same

abbrev AreAlike : List Retained → List Retained → Type 0
AreAlike [] [] = Unit {0}
AreAlike [] (y ∷ ys) = ⊥
AreAlike (x ∷ xs) [] = ⊥
AreAlike (x ∷ xs) (y ∷ ys) = (x.position ≡ y.position) × (x.request.key ≡ y.request.key) × AreAlike xs ys

behind_alike : (x y : Retained) (xs ys : List Retained) → x.position ≡ y.position → x.request.key ≡ y.request.key → AreAlike xs ys
    → AllByRecursion (λ later. IsBehind later y) ys → AllByRecursion (λ later. IsBehind later x) xs
behind_alike x y [] [] p k a h = tt
behind_alike x y [] (d ∷ ys) p k a h = absurd a
behind_alike x y (c ∷ xs) [] p k a h = absurd a
behind_alike x y (c ∷ xs) (d ∷ ys) p k a h = (
  record {
    position = omega (arith, p, a.0, h.0.position);
    other = subst (λ (o : Option Key). IsOtherCall o x.request.key) (sym a.1) (subst (λ (o : Option Key). IsOtherCall d.request.key o) (sym k) h.0.other);
  },
  behind_alike x y xs ys p k a.2 h.1,
)

retained_alike : (end : ℕ) (xs ys : List Retained) → AreAlike xs ys → AreRetained end ys → AreRetained end xs
retained_alike end [] [] a h = tt
retained_alike end [] (y ∷ ys) a h = absurd a
retained_alike end (x ∷ xs) [] a h = absurd a
retained_alike end (x ∷ xs) (y ∷ ys) a h =
    (ap is_some a.1 ∙ h.0, omega (arith, a.0, h.1), behind_alike x y xs ys a.0 a.1 a.2 h.2, retained_alike end xs ys a.2 h.3)

-- ---- what is retained stays so

pub retained_filter : (end : ℕ) (p : Retained → Bool) (table : List Retained) → AreRetained end table → AreRetained end (filter p table)
retained_filter end p [] h = tt
retained_filter end p (r ∷ table) h = go (retained_filter end p table h.3) (p r)
  where
    go : AreRetained end (filter p table) → (b : Bool) → AreRetained end (cond b (r ∷ filter p table) (filter p table))
    go rest true = (h.0, h.1, all_filter (λ (later : Retained). IsBehind later r) p table h.2, rest)
    go rest false = rest

retained_push : (end : ℕ) (table : List Retained) (e : Retained) → AreRetained end table → is_some e.request.key ≡ true → e.position ≡ end
    → AllByRecursion (λ r. IsOtherCall e.request.key r.request.key) table → AreRetained (end + 1) (table ++ e ∷ [])
retained_push end [] e h keyed is other = (keyed, omega (arith, is), tt, tt)
retained_push end (r ∷ table) e h keyed is other = (
  h.0,
  omega (arith, h.1),
  all_push (λ (later : Retained). IsBehind later r) table e h.2 (record { position = omega (arith, h.1, is); other = other.0 }),
  retained_push end table e h.3 keyed is other.1,
)

pub retained_further : (end later : ℕ) (table : List Retained) → end ≤ later → AreRetained end table → AreRetained later table
retained_further end later [] le h = tt
retained_further end later (r ∷ table) le h = (h.0, omega (arith, h.1, le), h.2, retained_further end later table le h.3)

not_true : (b : Bool) → not b ≡ true → b ≡ false
not_true true h = absurd (true≢false (sym h))
not_true false h = refl

others_left : (key : Key) (table : List Retained) → AllByRecursion (λ r. IsOtherCall (Some key) r.request.key) (without key table)
others_left key [] = tt
others_left key (r ∷ table) = go (others_left key table) (not (is_call key r.request.key)) refl
  where
    go : AllByRecursion (λ d. IsOtherCall (Some key) d.request.key) (without key table) → (b : Bool) → not (is_call key r.request.key) ≡ b
        → AllByRecursion (λ d. IsOtherCall (Some key) d.request.key) (cond b (r ∷ without key table) (without key table))
    go rest true t = (not_true (is_call key r.request.key) t, rest)
    go rest false t = rest

retained_keyed : (end : ℕ) (table : List Retained) (e : Retained) (o : Option Key) → e.request.key ≡ o → AreRetained end table → e.position ≡ end
    → AreRetained (end + 1) (joined table e o)
retained_keyed end table e None k h is = retained_further end (end + 1) table (omega arith) h
retained_keyed end table e (Some key) k h is =
    retained_push end (without key table) e (retained_filter end (λ r. not (is_call key r.request.key)) table h) (ap is_some k) is
    (subst (λ (o : Option Key). AllByRecursion (λ r. IsOtherCall o r.request.key) (without key table)) (sym k) (others_left key table))

pub retained_joined : (end : ℕ) (table : List Retained) (e : Retained) → AreRetained end table → e.position ≡ end → AreRetained (end + 1) (joined table e e.request.key)
retained_joined end table e h is = retained_keyed end table e e.request.key refl h is

answered_alike : (position : ℕ) (outcome : Outcome) (r : Retained) → ((answered position outcome r).position ≡ r.position) × ((answered position outcome r).request.key ≡ r.request.key)
answered_alike position outcome r = go (eqb r.position position)
  where
    go : (b : Bool) → ((cond b (replied outcome r) r).position ≡ r.position) × ((cond b (replied outcome r) r).request.key ≡ r.request.key)
    go true = (refl, refl)
    go false = (refl, refl)

all_answered_alike : (position : ℕ) (outcome : Outcome) (table : List Retained) → AreAlike (with_reply table position outcome) table
all_answered_alike position outcome [] = tt
all_answered_alike position outcome (r ∷ table) =
    let same = answered_alike position outcome r in (same.0, same.1, all_answered_alike position outcome table)

pub retained_answered : (end position : ℕ) (outcome : Outcome) (table : List Retained) → AreRetained end table → AreRetained end (with_reply table position outcome)
retained_answered end position outcome table h = retained_alike end (with_reply table position outcome) table (all_answered_alike position outcome table) h

-- ---- what is retained is filed again as it was

itself : (r : Retained) (reply : Option Outcome) → r.reply ≡ reply → record (unanswered r.position r.version r.at r.request) { reply = reply } ≡ r
itself r reply h = ap (λ (o : Option Outcome). record r { reply = o }) (sym h)

nothing_dropped : (key : Key) (table : List Retained) → AllByRecursion (λ r. IsOtherCall (Some key) r.request.key) table → without key table ≡ table
nothing_dropped key [] h = refl
nothing_dropped key (r ∷ table) h =
    ap (λ (b : Bool). cond (not b) (r ∷ without key table) (without key table)) h.0 ∙ ap (λ (l : List Retained). r ∷ l) (nothing_dropped key table h.1)

joins_last : (table : List Retained) (e : Retained) (o : Option Key) → is_some o ≡ true → AllByRecursion (λ r. IsOtherCall o r.request.key) table
    → joined table e o ≡ table ++ e ∷ []
joins_last table e None keyed h = absurd (true≢false (sym keyed))
joins_last table e (Some key) keyed h = ap (λ (l : List Retained). l ++ e ∷ []) (nothing_dropped key table h)

answered_last : (table : List Retained) (e : Retained) (position : ℕ) (outcome : Outcome) → AllByRecursion (λ (r : Retained). r.position < position) table → e.position ≡ position → e.reply ≡ None
    → with_reply (table ++ e ∷ []) position outcome ≡ table ++ record e { reply = Some outcome } ∷ []
answered_last [] e position outcome h is none =
    ap (λ (b : Bool). cond b (replied outcome e) e ∷ []) (eq-eqb e.position position is)
    ∙ ap (λ (o : Option Outcome). record e { reply = Some (unwrap_or o outcome) } ∷ []) none
answered_last (r ∷ table) e position outcome h is none =
    ap (λ (b : Bool). cond b (replied outcome r) r ∷ with_reply (table ++ e ∷ []) position outcome) (ne_eqb r.position position (λ same. omega (arith, same, h.0)))
    ∙ ap (λ (l : List Retained). r ∷ l) (answered_last table e position outcome h.1 is none)

replied_last : (table : List Retained) (r : Retained) (reply : Option Outcome) → r.reply ≡ reply → AllByRecursion (λ (d : Retained). d.position < r.position) table
    → with_its_reply (table ++ unanswered r.position r.version r.at r.request ∷ []) r.position reply ≡ table ++ r ∷ []
replied_last table r None is h = ap (λ (e : Retained). table ++ e ∷ []) (itself r None is)
replied_last table r (Some outcome) is h =
    answered_last table (unanswered r.position r.version r.at r.request) r.position outcome h refl refl ∙ ap (λ (e : Retained). table ++ e ∷ []) (itself r (Some outcome) is)

added : (table : List Retained) (r : Retained) → is_some r.request.key ≡ true → AllByRecursion (λ d. IsBehind r d) table → with_retained table r ≡ table ++ r ∷ []
added table r keyed h =
    let row = unanswered r.position r.version r.at r.request in
    let others = all_map (λ d. IsBehind r d) (λ d. IsOtherCall r.request.key d.request.key) (λ d b. b.other) table h in
    let before = all_map (λ d. IsBehind r d) (λ d. d.position < r.position) (λ d b. b.position) table h in
    ap (λ (l : List Retained). with_its_reply l r.position r.reply) (joins_last table row r.request.key keyed others) ∙ replied_last table r r.reply refl before

-- each of some is behind all of a table
abbrev AllBehind : List Retained → List Retained → Type 0
AllBehind table rows = AllByRecursion (λ r. AllByRecursion (λ d. IsBehind r d) table) rows

behind_push : (table : List Retained) (r : Retained) (rows : List Retained) → AllBehind table rows → AllByRecursion (λ later. IsBehind later r) rows
    → AllBehind (table ++ r ∷ []) rows
behind_push table r [] h g = tt
behind_push table r (d ∷ rows) h g = (all_push (λ e. IsBehind d e) table r h.0 g.0, behind_push table r rows h.1 g.1)

filed_behind : (end : ℕ) (table rows : List Retained) → AllBehind table rows → AreRetained end rows → filed table rows ≡ table ++ rows
filed_behind end table [] h g = sym (append-end table)
  where
    append-end : (l : List Retained) → l ++ [] ≡ l
    append-end [] = refl
    append-end (x ∷ l) = ap (λ (k : List Retained). x ∷ k) (append-end l)
filed_behind end table (r ∷ rows) h g =
    ap (λ (l : List Retained). filed l rows) (added table r g.0 h.0)
    ∙ filed_behind end (table ++ r ∷ []) rows (behind_push table r rows h.1 g.2) g.3
    ∙ append_assoc table (r ∷ []) rows

pub filed_again : (end : ℕ) (rows : List Retained) → AreRetained end rows → filed [] rows ≡ rows
filed_again end rows h = filed_behind end [] rows (all_of (λ r. AllByRecursion (λ d. IsBehind r d) []) (λ r. tt) rows) h

-- ---- an entry that is filed, behind all others

pub retained_filed : (from : ℕ) (table : List Retained) (e : Retained) → from ≤ e.position → AreRetained from table → AreRetained (e.position + 1) (with_retained table e)
retained_filed from table e le h =
    let row = unanswered e.position e.version e.at e.request in
    go e.reply (retained_joined e.position table row (retained_further from e.position table le h) refl)
  where
    go : (reply : Option Outcome) → AreRetained (e.position + 1) (joined table (unanswered e.position e.version e.at e.request) e.request.key)
        → AreRetained (e.position + 1) (with_its_reply (joined table (unanswered e.position e.version e.at e.request) e.request.key) e.position reply)
    go None h = h
    go (Some outcome) h = retained_answered (e.position + 1) e.position outcome _ h

pub versions_filed : (table : List Retained) (e : Retained) → AreOfVersions table → IsVersion e.version → AreOfVersions (with_retained table e)
versions_filed table e h its =
    go e.reply (all_joined (λ (d : Retained). IsVersion d.version) table (unanswered e.position e.version e.at e.request) e.request.key h its)
  where
    go : (reply : Option Outcome) → AreOfVersions (joined table (unanswered e.position e.version e.at e.request) e.request.key)
        → AreOfVersions (with_its_reply (joined table (unanswered e.position e.version e.at e.request) e.request.key) e.position reply)
    go None h = h
    go (Some outcome) h = all_answered (λ (d : Retained). IsVersion d.version) e.position outcome (λ d p. p) _ h

-- ---- positions rise

pub rising : (from end : ℕ) (table : List Retained) → AreRetained end table → AllByRecursion (λ r. from ≤ r.position) table → are_rising from end table ≡ true
rising from end [] h low = refl
rising from end (r ∷ table) h low =
    let first : nat_le from r.position ≡ true = let le = low.0 in grind (arith, nat_tests) in
    let second : nat_lt r.position end ≡ true = let lt = h.1 in grind (arith, nat_tests) in
    let rest = rising (r.position + 1) end table h.3 (all_map (λ later. IsBehind later r) (λ later. r.position + 1 ≤ later.position) (λ later b. omega (arith, b.position)) table h.2) in
    rw (first, second) rest

pub rising_from_0 : (end : ℕ) (table : List Retained) → AreRetained end table → are_rising 0 end table ≡ true
rising_from_0 end table h = rising 0 end table h (all_of (λ r. 0 ≤ r.position) (λ r. omega arith) table)

-- ---- what the records tell of a table

-- one without a reply is told whole
told_unanswered : (mark : ℕ) (r : Retained) → r.reply ≡ None → recorded_one mark r ≡ r
told_unanswered mark r none = ap (λ (o : Option Outcome). record r { reply = o }) (go (nat_lt r.position mark) ∙ sym none)
  where
    go : (b : Bool) → cond b r.reply None ≡ None
    go true = none
    go false = refl

told_without : (mark : ℕ) (key : Key) (table : List Retained) → without key (recorded mark table) ≡ recorded mark (without key table)
told_without mark key [] = refl
told_without mark key (r ∷ table) = go (not (is_call key r.request.key)) (told_without mark key table)
  where
    go : (b : Bool) → without key (recorded mark table) ≡ recorded mark (without key table)
        → cond b (recorded_one mark r ∷ without key (recorded mark table)) (without key (recorded mark table)) ≡ recorded mark (cond b (r ∷ without key table) (without key table))
    go true rest = ap (λ (l : List Retained). recorded_one mark r ∷ l) rest
    go false rest = rest

told_push : (mark : ℕ) (table : List Retained) (e : Retained) → recorded mark (table ++ e ∷ []) ≡ recorded mark table ++ recorded_one mark e ∷ []
told_push mark [] e = refl
told_push mark (r ∷ table) e = ap (λ (l : List Retained). recorded_one mark r ∷ l) (told_push mark table e)

pub recorded_joined : (mark : ℕ) (table : List Retained) (e : Retained) (key : Option Key) → e.reply ≡ None → joined (recorded mark table) e key ≡ recorded mark (joined table e key)
recorded_joined mark table e None none = refl
recorded_joined mark table e (Some key) none =
    ap (λ (l : List Retained). l ++ e ∷ []) (told_without mark key table)
    ∙ ap (λ (x : Retained). recorded mark (without key table) ++ x ∷ []) (sym (told_unanswered mark e none))
    ∙ sym (told_push mark (without key table) e)

-- all that stands at a checkpoint is told
pub recorded_whole : (end : ℕ) (table : List Retained) → AreRetained end table → table ≡ recorded end table
recorded_whole end [] h = refl
recorded_whole end (r ∷ table) h =
    let below : nat_lt r.position end ≡ true = let lt = h.1 in grind (arith, nat_tests) in
    (λ i. record r { reply = cond (sym below i) r.reply None } ∷ recorded_whole end table h.3 i)

-- a reply that is given behind the mark isn't told
told_answered : (mark position : ℕ) (outcome : Outcome) (r : Retained) → mark ≤ position → recorded_one mark (answered position outcome r) ≡ recorded_one mark r
told_answered mark position outcome r le = go (eqb r.position position) refl
  where
    go : (b : Bool) → eqb r.position position ≡ b → recorded_one mark (cond b (replied outcome r) r) ≡ recorded_one mark r
    go true t =
        let same = eqb-true r.position position t in
        let behind : nat_lt r.position mark ≡ false = grind (arith, nat_tests) in
        ap (λ (b : Bool). record r { reply = cond b (Some (unwrap_or r.reply outcome)) None }) behind
        ∙ sym (ap (λ (b : Bool). record r { reply = cond b r.reply None }) behind)
    go false t = refl

pub recorded_answered : (mark position : ℕ) (outcome : Outcome) (table : List Retained) → mark ≤ position → recorded mark (with_reply table position outcome) ≡ recorded mark table
recorded_answered mark position outcome [] le = refl
recorded_answered mark position outcome (r ∷ table) le = (λ i. told_answered mark position outcome r le i ∷ recorded_answered mark position outcome table le i)
