-- The rows on views of a log are those of its group.
use Rattle.std.proofs.Common.{◌≡◌, ℕ, ◌≤◌, Bool, true, false, List, [], ◌∷◌, length, refl, sym, ap, subst, ◌∙◌, ltb-false, arith}
use Rattle.std.specs.Prelude.{Option, Some, None, IsSome, Result, Ok, Err, IfOk, if◌then◌else◌}
use Rattle.ft_base.specs.Machine.{Machine, Fits}
use Rattle.ft_base.specs.declared.limits.TheConstants.{ARGUMENTS_LIMIT}
use Rattle.ft_base.specs.declared.requests.Request.{Request}
use Rattle.ft_base.specs.declared.views.Style.{Style}
use Rattle.ft_base.specs.declared.views.View.{View}
use Rattle.message_log.specs.Picture.{Picture as LogPicture}
use Rattle.message_log.specs.Picture as pictures
use Rattle.group_model.specs.Asking.{asked_version, signature_asked}
use Rattle.group_model.specs.Decisions.{Row, first_row, view_rows, refused_by_view}
use Rattle.group_model.specs.Plain.{Common}
use Rattle.group_model.specs.Views.{newest, newest_view, view_at}
use Rattle.group_model.specs.declared.asking.Asked.{Asked}
use Rattle.group_model.specs.declared.refusals.Refusal.{Refusal}
use Rattle.group_stands.specs.Telling.{LogsTell}
use Rattle.group_stands.specs.Viewing.{LogsShowViews}
use Rattle.decision_table.specs.Passing.{told_of, IsAsked, IfNoMemory, IfRequest, IfUnread, MayBeServed, TakesMemory}
use Rattle.decision_table.specs.declared.arguments.Unpassed.{Unpassed}
use Rattle.decision_table.specs.declared.arguments.Unpassed.TheVariants as unpassed

-- ---- no row stands

abbrev AllOpen : List Row → Type 0
AllOpen [] = Unit {0}
AllOpen (r ∷ rows) = (r.stands ≡ false) × AllOpen rows

open_first : (b : Bool) (x : Refusal) (o : Option Refusal) → (if b then Some x else o) ≡ None → (b ≡ false) × (o ≡ None)
open_first true x o e = absurd cc
open_first false x o e = (refl, e)

none_stands : (rows : List Row) → first_row rows ≡ None → AllOpen rows
none_stands [] e = tt
none_stands (r ∷ rows) e =
    let both = open_first r.stands r.refused (first_row rows) e in
    (both.0, none_stands rows both.1)

-- ---- what is told

told_request : (P : Request → Type 0) (r : Result Request Unpassed) → IfOk r P → IfRequest (told_of r) P
told_request P (Ok request) is = is
told_request P (Err (unpassed.Refused refusal)) is = tt
told_request P (Err unpassed.NoMemory) is = tt

told_unread : (P Q : Type 0) (r : Result Request Unpassed) → (P → Q) → IfUnread r P → IfNoMemory (told_of r) Q
told_unread P Q (Ok request) so is = tt
told_unread P Q (Err (unpassed.Refused refusal)) so is = tt
told_unread P Q (Err unpassed.NoMemory) so is = so is

all_of : (m : Machine) (c : Common) (known : ℕ) (r : Result Request Unpassed) → known ≡ newest c → IfOk r (Fits m) →
    IfOk r (λ request. length request.args ≤ ARGUMENTS_LIMIT) → IfOk r (MayBeServed m c known)
all_of m c known (Ok request) newest fits short = record { newest = newest; fits = fits; short = short }
all_of m c known (Err why) newest fits short = tt

-- ---- at a log that stands for a group

module _ (shown : LogsShowViews) (tell : LogsTell) (machines : ℕ → Machine) (c : Common) (log : LogPicture) (style : Style) (kind known host : ℕ)
    (is : IsAsked machines c log style kind known) (view : View) (there : pictures.view_at log known ≡ Some view) (asked : Asked) where
  view_is : view ≡ view_at c.views known
  view_is = let told = shown machines c log is.log known is.has in cc

  rows_are : first_row (view_rows style host (asked_version known asked.version) known view log.newest.version.0 log.newest)
      ≡ refused_by_view c host (asked_version known asked.version) known
  rows_are =
      let tells = tell machines c log is.log in
      ap (λ (s : Style). first_row (view_rows s host (asked_version known asked.version) known view log.newest.version.0 log.newest)) is.style
      ∙ ap (λ (v : View). first_row (view_rows c.style host (asked_version known asked.version) known v log.newest.version.0 log.newest)) view_is
      ∙ ap (λ (n : ℕ). first_row (view_rows c.style host (asked_version known asked.version) known (view_at c.views known) n log.newest)) tells.version
      ∙ ap (λ (v : View). first_row (view_rows c.style host (asked_version known asked.version) known (view_at c.views known) (newest c) v)) tells.view

  module _ (o : Option Refusal) (rows : o ≡ first_row (view_rows style host (asked_version known asked.version) known view log.newest.version.0 log.newest)) where
    -- no row stands, so there is no newer view
    knows : o ≡ None → known ≡ newest c
    knows none =
        let none_of = none_stands (view_rows c.style host (asked_version known asked.version) known (view_at c.views known) (newest c) (newest_view c))
        (sym rows_are ∙ sym rows ∙ none) in
        let last = ltb-false known (newest c) none_of.1.1.1.1.1.1.0 in
        omega (arith, last, is.has.1)

    pub may_be_served : (r : Result Request Unpassed) → o ≡ None → IfOk r (Fits (machines kind)) → IfOk r (λ request. length request.args ≤ ARGUMENTS_LIMIT) →
        IfRequest (told_of r) (MayBeServed (machines c.kind) c known)
    may_be_served r none fits short =
        told_request (MayBeServed (machines c.kind) c known) r
        (all_of (machines c.kind) c known r (knows none) (subst (λ (k : ℕ). IfOk r (Fits (machines k))) is.kind fits) short)

    pub takes_memory : (r : Result Request Unpassed) → o ≡ None → IfUnread r (IsSome (signature_asked (machines kind) asked.op)) →
        IfNoMemory (told_of r) (TakesMemory (machines c.kind) c host known asked)
    takes_memory r none unread =
        told_unread (IsSome (signature_asked (machines kind) asked.op)) (TakesMemory (machines c.kind) c host known asked) r
        (λ named. record { no_row = sym rows_are ∙ sym rows ∙ none; named = subst (λ (k : ℕ). IsSome (signature_asked (machines k) asked.op)) is.kind named }) unread
