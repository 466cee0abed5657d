use Rattle.std.proofs.Common.{◌<◌, ◌++◌, ◌∙◌, List, ℕ, ap, arith, subst, sym, take}
use Rattle.std.specs.Prelude.{map, slice_index_or}
use Rattle.std.specs.List.{AllByRecursion}
use Rattle.std.proofs.lemmas.List.Elements.{All-from_recursion}
use Rattle.ft_base.specs.declared.limits.TheConstants.{HOST_LIMIT}
use Rattle.ft_base.specs.declared.views.View.{View}
use Rattle.group_looks.specs.Looks.{figure_of}
use Rattle.group_looks.proofs.Looking.{members_inside, one_more_is, take_all, take_more}
use Rattle.group_looks.proofs.figures.push_members.Goals as goal

pub figure_of-requires-clause-host : goal.figure_of-requires-clause-host
figure_of-requires-clause-host g c =
    let group = c.requires.0 in
    let members = c.hosts-host-items.ensures ∙ ap (λ (v : View). v.members) (c.newest.ensures group c.requires.1) in
    All-from_recursion (λ (host : ℕ). host < HOST_LIMIT) c.hosts-host-items.result.now
    (subst (λ (hosts : List ℕ). AllByRecursion (λ (host : ℕ). host < HOST_LIMIT) hosts) (sym members) (members_inside (g.S.Servant.machine group.common.kind) group c.requires.1.sound))
    c.loop-host.host-index 0 c.loop-host-test.true

pub loop-host-preserved : goal.loop-host-preserved
loop-host-preserved g c = λ group stands.
    let f = figure_of (g.S.Servant.machine group.common.kind) group in
    let hosts = c.hosts-host-items.result.now in
    let i = c.loop-host.host-index in
    one_more_is f c.args.figures.now.items c.loop-host.figures.items c.push.new.self.items (take i hosts) (slice_index_or hosts i 0) c.in_ok-figure.figure
    (c.loop-host.invariant group stands) (c.in_ok-figure.ensures group stands) c.in_ok-push.ensures.items
    ∙ ap (λ (l : List ℕ). c.args.figures.now.items ++ map f l) (sym (take_more hosts i c.loop-host-test.true))

pub returns : goal.returns
returns g c = λ group stands.
    let f = figure_of (g.S.Servant.machine group.common.kind) group in
    let hosts = c.hosts-host-items.result.now in
    c.loop-host.invariant group stands
    ∙ ap (λ (l : List ℕ). c.args.figures.now.items ++ map f l)
    (take_all hosts c.loop-host.host-index (omega (arith, c.loop-host-test.false))
    ∙ c.hosts-host-items.ensures ∙ ap (λ (v : View). v.members) (c.newest.ensures group stands))
