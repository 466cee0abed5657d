use Rattle.std.proofs.Common.{◌≡◌, ℕ, ap, refl, subst}
use Rattle.std.specs.Prelude.{Ok, Err}
use Rattle.ft_base.specs.declared.views.View.{View}
use Rattle.decision_table.specs.Passing.{MayBeServed}
use Rattle.group_model.specs.Decisions.{known_then, request_in}
use Rattle.group_model.specs.Views.{newest}
use Rattle.group_hosts.specs.Asking.{parts}
use Rattle.group_hosts.proofs.Asks.{knows, is_asked, refused_taken, can_enter, entered_taken}
use Rattle.group_hosts.proofs.Refuses.{refused_unwritten}
use Rattle.group_hosts.proofs.hosts.GroupHost.ask.Goals as goal

pub enter-entered-requires : goal.enter-entered-requires
enter-entered-requires g c =
    let machines = g.S.Servant.machine in
    let r = c.requires in
    let here' = rw (← c.self.view_is) at r.1 in
    let up = c.if-not-self.false in
    let newest_is = ap (λ (v : View). v.version) c.newest.ensures.value in
    let same = knows machines r.0 _ c.args.arrival.host _ here' c.args.arrival.clock c.args.asked c.args.arrival.stop up c.logs_tell.ensures.tell c.newest.result.now.version c.known_then-known.result newest_is c.known_then-known.ensures.value in
    let asked = is_asked machines r.0 _ c.args.arrival.host _ here' c.args.arrival.clock c.args.asked c.args.arrival.stop up c.logs_tell.ensures.tell c.newest.result.now.version c.known_then-known.result newest_is c.known_then-known.ensures.value c.known_then-known.ensures.some in
    let may = subst (λ (k : ℕ). MayBeServed (machines r.0.common.kind) r.0.common k c.in-Request.request) same (c.in-Request.ensures.served r.0.common asked) in (
      r.0.common,
      record (r.0.hosts c.args.arrival.host.0) { known = known_then (newest r.0.common) (r.0.hosts c.args.arrival.host.0).known c.args.asked.version },
      can_enter machines r.0 _ c.args.arrival.host _ here' c.args.arrival.clock c.args.asked c.args.arrival.stop up c.in-Request.request c.args.steps.now may,
    )

pub returns-in-Refused-clause-wrote : goal.returns-in-Refused-clause-wrote
returns-in-Refused-clause-wrote g c =
    let machines = g.S.Servant.machine in
    let r = c.requires in
    let here' = rw (← c.self.view_is) at r.1 in
    let up = c.if-not-self.false in
    let newest_is = ap (λ (v : View). v.version) c.newest.ensures.value in
    let asked = is_asked machines r.0 _ c.args.arrival.host _ here' c.args.arrival.clock c.args.asked c.args.arrival.stop up c.logs_tell.ensures.tell c.newest.result.now.version c.known_then-known.result newest_is c.known_then-known.ensures.value c.known_then-known.ensures.some in
    rw c.told.ensures (refused_unwritten c.args.log.now (machines r.0.common.kind) r.0.common c.args.arrival.host.0 c.known_then-known.result.0 c.args.asked c.in-Refused.refusal (c.in-Refused.ensures.passed r.0.common asked))

pub returns-in-Refused-clause-turn : goal.returns-in-Refused-clause-turn
returns-in-Refused-clause-turn g c = λ group here short.
    let machines = g.S.Servant.machine in
    let here' = rw (← c.self.view_is) at here in
    let up = c.if-not-self.false in
    let newest_is = ap (λ (v : View). v.version) c.newest.ensures.value in
    let same = knows machines group _ c.args.arrival.host _ here' c.args.arrival.clock c.args.asked c.args.arrival.stop up c.logs_tell.ensures.tell c.newest.result.now.version c.known_then-known.result newest_is c.known_then-known.ensures.value in
    let asked = is_asked machines group _ c.args.arrival.host _ here' c.args.arrival.clock c.args.asked c.args.arrival.stop up c.logs_tell.ensures.tell c.newest.result.now.version c.known_then-known.result newest_is c.known_then-known.ensures.value c.known_then-known.ensures.some in
    let refuses = subst (λ (k : ℕ). request_in (machines group.common.kind) group.common c.args.arrival.host.0 k c.args.asked ≡ Err c.in-Refused.refusal) same (c.in-Refused.ensures.passed group.common asked) in
    rw c.told.ensures (refused_taken machines group _ c.args.arrival.host _ here' c.args.arrival.clock c.args.asked c.args.arrival.stop up c.in-Refused.refusal c.args.steps.now c.in_default.is refuses)

pub returns-in-Request-clause-turn : goal.returns-in-Request-clause-turn
returns-in-Request-clause-turn g c = λ group here short.
    let machines = g.S.Servant.machine in
    let here' = rw (← c.self.view_is) at here in
    let up = c.if-not-self.false in
    let newest_is = ap (λ (v : View). v.version) c.newest.ensures.value in
    let same = knows machines group _ c.args.arrival.host _ here' c.args.arrival.clock c.args.asked c.args.arrival.stop up c.logs_tell.ensures.tell c.newest.result.now.version c.known_then-known.result newest_is c.known_then-known.ensures.value in
    let asked = is_asked machines group _ c.args.arrival.host _ here' c.args.arrival.clock c.args.asked c.args.arrival.stop up c.logs_tell.ensures.tell c.newest.result.now.version c.known_then-known.result newest_is c.known_then-known.ensures.value c.known_then-known.ensures.some in
    let may = subst (λ (k : ℕ). MayBeServed (machines group.common.kind) group.common k c.in-Request.request) same (c.in-Request.ensures.served group.common asked) in
    let passes = subst (λ (k : ℕ). request_in (machines group.common.kind) group.common c.args.arrival.host.0 k c.args.asked ≡ Ok c.in-Request.request) same (c.in-Request.ensures.passed group.common asked) in
    let can = can_enter machines group _ c.args.arrival.host _ here' c.args.arrival.clock c.args.asked c.args.arrival.stop up c.in-Request.request c.args.steps.now may in
    let before = parts c.args.log.now c.self.inside.progress.replica c.self.inside.progress.holdback c.args.steps.now in
    let now = parts c.enter-entered.new.log c.enter-entered.new.progress.replica c.enter-entered.new.progress.holdback c.enter-entered.new.steps in
    let taken = entered_taken machines group _ c.args.arrival.host _ here' c.args.arrival.clock c.args.asked c.args.arrival.stop up c.in-Request.request c.in_default.is passes
    c.replicas_go_on.ensures.blank c.holdbacks_go_on.ensures.empty c.enter-entered.result before now refl
    (c.enter-entered.ensures.entered group.common (record (group.hosts c.args.arrival.host.0) { known = known_then (newest group.common) (group.hosts c.args.arrival.host.0).known c.args.asked.version }) can) in
    rw (c.settle.ensures.told, c.settle.ensures.host, same) taken
