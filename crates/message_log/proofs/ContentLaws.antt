-- Records are read one by one.
use Rattle.std.proofs.Common.{◌≡◌, Bool, true, false, true≢false, ◌<◌, ℕ, zero, suc, ◌+◌, ◌≤◌, List, [], ◌∷◌, length, Option, Some, None, Ok, Err, refl, sym, ap, ◌∙◌, add-one, arith}
use Rattle.std.specs.Prelude.{drop, slice_get, is_some}
use Rattle.message_log.specs.Opening.{Content, content_from, after_piece, and_then, with_view_or}
use Rattle.log_records.specs.Records.{record_in}
use Rattle.std.specs.Prelude.{◌&&◌, nat_le, nat_lt}
use Rattle.std.specs.List.{AllByRecursion}
use Rattle.std.proofs.lemmas.Bool.{ltb-true, leb-true}
use Rattle.ft_base.specs.declared.requests.Outcome.{Outcome}
use Rattle.ft_base.specs.declared.views.View.{View}
use Rattle.reply_table.specs.Entries.{unanswered, joined}
use Rattle.reply_table.specs.declared.entries.Retained.{Retained}
use Rattle.message_log.specs.Opening.{with_its_reply, with_retained}
use Rattle.log_records.specs.Records.{are_rising}
use Rattle.message_log.proofs.PictureLaws.{below_joined, below_answered}

drop_at : (pieces : List (List ℕ)) (i : ℕ) (piece : List ℕ) → slice_get pieces i ≡ Some piece → drop i pieces ≡ piece ∷ drop (suc i) pieces
drop_at [] i piece h = absurd cc
drop_at (p ∷ pieces) zero piece h = ap (λ q. q ∷ pieces) (let e : p ≡ piece = cc in e)
drop_at (p ∷ pieces) (suc i) piece h = drop_at pieces i piece h

pub content_goes : (pieces : List (List ℕ)) (i : ℕ) (piece : List ℕ) (c d : Content) → slice_get pieces i ≡ Some piece → after_piece c (record_in piece) ≡ Some d
    → content_from i c (drop i pieces) ≡ content_from (i + 1) d (drop (i + 1) pieces)
unfolding content_from
content_goes pieces i piece c d at told =
    ap (content_from i c) (drop_at pieces i piece at)
    ∙ ap (λ (o : Option Content). and_then i o (λ e. content_from (i + 1) e (drop (suc i) pieces))) told
    ∙ ap (λ (k : ℕ). content_from (i + 1) d (drop k pieces)) (sym (add-one i))

pub content_stops : (pieces : List (List ℕ)) (i : ℕ) (piece : List ℕ) (c : Content) → slice_get pieces i ≡ Some piece → after_piece c (record_in piece) ≡ None
    → content_from i c (drop i pieces) ≡ Err i
unfolding content_from
content_stops pieces i piece c at told =
    ap (content_from i c) (drop_at pieces i piece at) ∙ ap (λ (o : Option Content). and_then i o (λ e. content_from (i + 1) e (drop (suc i) pieces))) told

drop_end : (pieces : List (List ℕ)) (i : ℕ) → length pieces ≤ i → drop i pieces ≡ []
drop_end [] zero h = refl
drop_end [] (suc i) h = refl
drop_end (p ∷ pieces) zero h = absurd (omega (arith, h))
drop_end (p ∷ pieces) (suc i) h = drop_end pieces i (omega (arith, h))

pub content_ends : (pieces : List (List ℕ)) (i : ℕ) (c : Content) → length pieces ≤ i → content_from i c (drop i pieces) ≡ with_view_or i c c.newest
unfolding content_from
content_ends pieces i c h = ap (content_from i c) (drop_end pieces i h)

pub view_there : (i : ℕ) (c : Content) → is_some c.newest ≡ true → with_view_or i c c.newest ≡ Ok c
view_there i c h = go c.newest h
  where
    go : (o : Option View) → is_some o ≡ true → with_view_or i c o ≡ Ok c
    go None t = absurd (true≢false (sym t))
    go (Some v) t = refl

pub no_view : (i : ℕ) (c : Content) → is_some c.newest ≡ false → with_view_or i c c.newest ≡ Err i
no_view i c h = go c.newest h
  where
    go : (o : Option View) → is_some o ≡ false → with_view_or i c o ≡ Err i
    go None t = refl
    go (Some v) t = absurd (true≢false t)

-- ---- entries whose positions rise

both_true : (a b : Bool) → (a && b) ≡ true → (a ≡ true) × (b ≡ true)
both_true true b h = (refl, h)
both_true false b h = absurd (true≢false (sym h))

pub record Rises (from end : ℕ) (e : Retained) (entries : List Retained) : Type 0 where
  pub low : from ≤ e.position
  pub high : e.position < end
  pub others : are_rising (e.position + 1) end entries ≡ true

pub rises : (from end : ℕ) (e : Retained) (entries : List Retained) → are_rising from end (e ∷ entries) ≡ true → Rises from end e entries
rises from end e entries h =
    let parts = both_true (nat_le from e.position && nat_lt e.position end) (are_rising (e.position + 1) end entries) h in
    let two = both_true (nat_le from e.position) (nat_lt e.position end) parts.0 in
    record { low = leb-true from e.position two.0; high = ltb-true e.position end two.1; others = parts.1 }

below_replied : (n : ℕ) (table : List Retained) (position : ℕ) (reply : Option Outcome) → AllByRecursion (λ (d : Retained). d.position < n) table
    → AllByRecursion (λ (d : Retained). d.position < n) (with_its_reply table position reply)
below_replied n table position None h = h
below_replied n table position (Some outcome) h = below_answered n position outcome table h

pub below_retained : (n : ℕ) (table : List Retained) (e : Retained) → AllByRecursion (λ (d : Retained). d.position < n) table → e.position < n
    → AllByRecursion (λ (d : Retained). d.position < n) (with_retained table e)
below_retained n table e h p =
    let row = unanswered e.position e.version e.at e.request in
    below_replied n (joined table row e.request.key) e.position e.reply (below_joined n table row e.request.key h p)
