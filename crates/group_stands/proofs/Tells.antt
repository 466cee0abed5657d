-- What a log that stands for a group tells of it.
use Rattle.std.proofs.Common.{◌≡◌, ℕ, ◌+◌, ◌<◌, ◌≤◌, Bool, true, false, cond, List, [], ◌∷◌, ◌++◌, length, length-append, length-drop, append_assoc, drop, take, Option, Some, None, refl, sym, ap, subst, ◌∙◌, ltb-false, arith}
use Rattle.std.specs.Prelude.{◌-◌, nat_lt, slice_get, slice_index_or, option_map}
use Rattle.std.proofs.lemmas.List.{take-append-drop}
use Rattle.std.proofs.lemmas.Option.{slice_get_within}
use Rattle.ft_base.specs.Machine.{Machine, Fits}
use Rattle.ft_base.specs.Journal.{Entry}
use Rattle.ft_base.specs.declared.limits.TheConstants.{ARGUMENTS_LIMIT}
use Rattle.ft_base.specs.declared.requests.Request.{Request}
use Rattle.ft_base.specs.declared.views.View.{View}
use Rattle.message_log.specs.Laws.{LendsJournal}
use Rattle.message_log.specs.Picture.{Picture as LogPicture, length_of, request_at, views_of}
use Rattle.group_model.specs.Agreeing.{AreViews}
use Rattle.group_model.specs.Plain.{Common}
use Rattle.group_model.specs.Views.{kept_views, newest, no_view}
use Rattle.group_stands.specs.Stands.{LogStands}
use Rattle.group_stands.specs.Telling.{Tells, IsLent}
use Rattle.group_stands.proofs.Places.{get_within, all_get, push_last, last_or}

-- ---- its length

length_drop : (n : ℕ) (xs : List Entry) → n ≤ length xs → n + length (drop n xs) ≡ length xs
length_drop n xs le = omega (arith, length-drop n xs, le)

pub end_is : (machines : ℕ → Machine) (c : Common) (log : LogPicture) → LogStands machines c log → length_of log ≡ length c.journal
end_is machines c log s = ap (λ (es : List Entry). log.mark + length es) s.journal.entries ∙ length_drop log.mark c.journal s.journal.marked

-- ---- its newest view

-- the views before the newest, with those that the log has lost
abbrev pub before : Common → LogPicture → List View
before c log = take (c.first_kept - 1) c.views ++ log.earlier

pub views_whole : (c : Common) (log : LogPicture) → views_of log ≡ kept_views c → before c log ++ log.newest ∷ [] ≡ c.views
views_whole c log is =
    let lost = take (c.first_kept - 1) c.views in
    append_assoc lost log.earlier (log.newest ∷ []) ∙ ap (λ (vs : List View). lost ++ vs) is ∙ take-append-drop (c.first_kept - 1) c.views

newest_is : (views earlier : List View) (v : View) → earlier ++ v ∷ [] ≡ views → slice_index_or views (length views - 1) no_view ≡ v
newest_is views earlier v is =
    let last : length (earlier ++ v ∷ []) - 1 ≡ length earlier = omega (arith, length-append earlier (v ∷ [])) in
    ap (λ (vs : List View). slice_index_or vs (length vs - 1) no_view) (sym is)
    ∙ ap (λ (n : ℕ). slice_index_or (earlier ++ v ∷ []) n no_view) last
    ∙ last_or earlier v no_view

version_is : (c : Common) (earlier : List View) (v : View) → earlier ++ v ∷ [] ≡ c.views → AreViews c.style c.views → v.version.0 ≡ newest c
version_is c earlier v is views =
    let at : slice_get c.views (length earlier) ≡ Some v = subst (λ (vs : List View). slice_get vs (length earlier) ≡ Some v) is (push_last earlier v) in
    let count : length c.views ≡ length earlier + 1 = ap length (sym is) ∙ length-append earlier (v ∷ []) in
    (views.each (length earlier) v at).numbered ∙ sym count

pub version_told : (machines : ℕ → Machine) (c : Common) (log : LogPicture) → LogStands machines c log → log.newest.version.0 ≡ newest c
version_told machines c log s = version_is c (before c log) log.newest (views_whole c log s.views) s.sound.views

pub tells : (machines : ℕ → Machine) (c : Common) (log : LogPicture) → LogStands machines c log → Tells c log
tells machines c log s = record {
  end = end_is machines c log s;
  view = sym (newest_is c.views (before c log) log.newest (views_whole c log s.views));
  version = version_told machines c log s;
}

-- ---- its entries

none_some : (q : Request) → None ≡ Some q → ⊥
none_some q h = cc

pub lends : LendsJournal → (machines : ℕ → Machine) (c : Common) (log : LogPicture) → LogStands machines c log →
    (i : ℕ) (q : Request) → request_at log i ≡ Some q → IsLent (machines c.kind) c i q
lends law machines c log s i q lent = go (nat_lt i log.mark) refl lent
  where
    from : log.mark ≤ i → (o : Option Entry) → slice_get c.journal i ≡ o → option_map (λ (e : Entry). e.request) o ≡ Some q → IsLent (machines c.kind) c i q
    from le None at h = absurd cc
    from le (Some e) at h =
        let same : e.request ≡ q = cc in
        record {
          entry = e;
          there = at;
          same = same;
          marked = omega (arith, s.mark, le);
          inside = slice_get_within c.journal i e at;
          fits = subst (Fits (machines c.kind)) same (all_get (λ (x : Entry). Fits (machines c.kind) x.request) c.journal i e s.sound.journal.fit at);
          short = subst (λ (x : Request). length x.args ≤ ARGUMENTS_LIMIT) same (all_get (λ (x : Entry). length x.request.args ≤ ARGUMENTS_LIMIT) c.journal i e s.sound.journal.short at);
        }

    go : (b : Bool) → nat_lt i log.mark ≡ b → cond b None (option_map (λ (e : Entry). e.request) (slice_get log.entries (i - log.mark))) ≡ Some q → IsLent (machines c.kind) c i q
    go true t h = absurd (none_some q h)
    go false t h = let le = ltb-false i log.mark t in from le (slice_get c.journal i) refl (sym (law c.journal log s.journal i le) ∙ lent)

pub has_entries : LendsJournal → (machines : ℕ → Machine) (c : Common) (log : LogPicture) → LogStands machines c log →
    (i : ℕ) → c.mark ≤ i → i < length c.journal → (q : Request) × (request_at log i ≡ Some q)
has_entries law machines c log s i le lt =
    let there = get_within c.journal i lt in
    (there.0.request, law c.journal log s.journal i (omega (arith, s.mark, le)) ∙ ap (option_map (λ (e : Entry). e.request)) there.1)
