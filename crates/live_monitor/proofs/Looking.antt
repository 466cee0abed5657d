-- A look at a group's figures.
use Rattle.std.proofs.Common.{◌≡◌, ℕ, zero, suc, ◌-◌, ◌<◌, Bool, true, false, List, [], ◌∷◌, length, get_or, Ok, Err, IfOk, refl, sym, ap, ◌∙◌, subst, arith, eqb-true, ◌==◌, ◌||◌, inl, inr}
use Rattle.std.proofs.lemmas.Option.{slice_get-get_or}
use Rattle.std.specs.List.{AllByRecursion}
use Rattle.ft_base.specs.Machine.{Machine}
use Rattle.ft_base.specs.Members.{is_member}
use Rattle.ft_base.specs.declared.limits.TheConstants.{HOST_LIMIT}
use Rattle.ft_base.specs.declared.views.View.{View}
use Rattle.group_looks.specs.Looks.{AreFigures}
use Rattle.group_looks.specs.declared.figures.Figure.{Figure}
use Rattle.group_looks.specs.declared.figures.Figures.{Figures}
use Rattle.group_model.specs.Agreeing.{IsSound}
use Rattle.group_model.specs.Plain.{Group}
use Rattle.group_model.specs.Views.{newest_view, no_view}
use Rattle.shared_group.specs.declared.calls.Call.TheVariants as calls
use Rattle.shared_group.specs.declared.calls.CallAnswer.TheVariants as told
use Rattle.shared_group.specs.Looks.{ShowsFigures}
use Rattle.shared_group.specs.Shared.{Shared}
use Rattle.shared_group.specs.Turns.{GroupLock, GroupPass, IsTaken}
use Rattle.live_monitor.specs.Monitored.{GroupTurn, HasDown, ShowsDown, Showed, WasDown}
use Rattle.live_monitor.proofs.Turning.{some_as}

abbrev pub AreHosts : List ℕ → Type 0
AreHosts hosts = AllByRecursion (λ host. host < HOST_LIMIT) hosts

-- ---- members are hosts that there can be

newest_are_hosts : (m : Machine) (g : Group) → IsSound m g → AreHosts (newest_view g.common).members
newest_are_hosts m g sound =
    let views = sound.common.views in
    let all = g.common.views in
    (views.each (length all - 1) (newest_view g.common) (slice_get-get_or all (length all - 1) no_view (omega (arith, views.some)))).hosts

shown : (m : Machine) (g : Group) (figures : Figures) → IsSound m g → ShowsFigures m g (told.Figures (Ok figures)) → AreHosts figures.view.members
shown m g figures sound shows = go shows.of shows.is shows.are
  where
    go : (of : _) → told.Figures (Ok figures) ≡ told.Figures of → IfOk of (AreFigures m g) → AreHosts figures.view.members
    go (Ok other) is are =
        let same : figures ≡ other = cc in
        let view = ap (λ (f : Figures). f.view) same ∙ are.view in
        subst (λ (v : View). AreHosts v.members) (sym view) (newest_are_hosts m g sound)
    go (Err fault) is are = absurd cc

pub members_are_hosts : (machines : ℕ → Machine) (lock : GroupLock) (p q : GroupPass) (figures : Figures) → IsTaken machines lock p calls.Figures (told.Figures (Ok figures)) q → AreHosts figures.view.members
members_are_hosts machines lock p q figures taken =
    let opened = taken.legal.1.opened in
    let m = machines opened.0.common.kind in
    let given = taken.given opened.0 opened.1 in
    let sound = subst (λ (s : Shared). IsSound m s.group) given.step.1 given.sound in
    shown m given.before.group figures sound given.step.0

-- a member is one of them
pub host_of : (hosts : List ℕ) (host : ℕ) → AreHosts hosts → is_member host hosts ≡ true → host < HOST_LIMIT
host_of [] host all is = absurd cc
host_of (h ∷ hosts) host all is = go (λ others. host_of hosts host all.1 others) (h == host) refl is
  where
    go : (is_member host hosts ≡ true → host < HOST_LIMIT) → (b : Bool) → (h == host) ≡ b → (b || is_member host hosts) ≡ true → host < HOST_LIMIT
    go others true same _ = subst (λ (n : ℕ). n < HOST_LIMIT) (eqb-true h host same) all.0
    go others false other there = others there

-- ---- a host that is down

pub has_down : (figures : List Figure) (i : ℕ) (figure : Figure) → i < length figures → figure ≡ get_or figures i figure → figure.up ≡ false → HasDown figure.host.0 figures
unfolding HasDown
has_down [] i figure inside at down = absurd (omega (arith, inside))
has_down (f ∷ figures) zero figure inside at down = inl (ap (λ (x : Figure). x.host.0) (sym at), ap (λ (x : Figure). x.up) (sym at) ∙ down)
has_down (f ∷ figures) (suc i) figure inside at down = inr (has_down figures i figure (omega (arith, inside)) at down)

pub was_down : (figures : Figures) (host : ℕ) (turns : List GroupTurn) → Showed figures turns → HasDown host figures.hosts.items → WasDown host turns
was_down figures host turns showed down =
    some_as (λ turn. turn.answer ≡ told.Figures (Ok figures)) (λ turn. ShowsDown host turn.answer) turns (λ t is. subst (ShowsDown host) (sym is) down) showed
