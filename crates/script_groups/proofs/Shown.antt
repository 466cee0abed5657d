-- The views that a group still has.
use Rattle.std.proofs.Common.{◌≡◌, ℕ, ◌-◌, ◌<◌, arith, Bool, true, false, cond, length, Some, None, refl, subst}
use Rattle.std.specs.Prelude.{nat_le, ◌&&◌}
use Rattle.std.proofs.lemmas.Bool.{leb-true}
use Rattle.ft_base.specs.declared.views.Style.{Style}
use Rattle.ft_base.specs.declared.views.View.{View}
use Rattle.group_core.specs.Telling.{shown_view}
use Rattle.group_model.specs.Plain.{Common}
use Rattle.group_model.specs.Views.{view_at, newest, no_view}
use Rattle.group_model.specs.Agreeing.{AreViews, IsViewAt}
use Rattle.script_groups.specs.Laws.{IsShownView, ShownAreViews}
use Rattle.script_groups.specs.Groups.{common_of}
use Rattle.script_groups.specs.Lists.{got}

fits : (style : Style) (view : View) (k : ℕ) → IsViewAt style k view → IsShownView view
fits style view k is = record { hosts = is.hosts; few = is.is.few; different = is.is.different }

is_shown : (c : Common) (version : ℕ) (view : View) → AreViews c.style c.views → 0 < c.first_kept → shown_view c version ≡ Some view → IsShownView view
is_shown c version view views some = go (nat_le c.first_kept version) (nat_le version (newest c)) refl refl
  where
    go : (kept last : Bool) → nat_le c.first_kept version ≡ kept → nat_le version (newest c) ≡ last →
        cond (kept && last) (Some (view_at c.views version)) None ≡ Some view → IsShownView view
    go false last e f is = absurd cc
    go true false e f is = absurd cc
    go true true e f is =
        let inside : version - 1 < length c.views = omega (arith, some, leb-true c.first_kept version e, leb-true version (newest c) f) in
        let same : view_at c.views version ≡ view = cc in
        subst IsShownView same (fits c.style (view_at c.views version) (version - 1) (views.each (version - 1) (view_at c.views version) (got c.views (version - 1) no_view inside)))

pub shown_is : ShownAreViews
shown_is g version view sound is = is_shown (common_of g) version view sound.common.views sound.common.kept.some is
