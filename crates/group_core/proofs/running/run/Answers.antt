use Rattle.std.proofs.Common.{◌≡◌, ◌++◌, ◌∷◌, List, [], true, false, sym, ap, ◌∙◌, subst}
use Rattle.group_model.specs.declared.events.Event.{Event}
use Rattle.group_model.specs.declared.events.GroupAnswer.{GroupAnswer}
use Rattle.group_core.specs.Running.{AlwaysAgree, HasStopped, is_short}
use Rattle.group_core.proofs.Runs.{goes_on, none_run, here, agrees_here, one_run, stopped_between, stopped_within, event_between}
use Rattle.group_core.proofs.running.run.Goals as goal

pub loop-event-init : goal.loop-event-init
loop-event-init g c =
    let whole : c.into_iter-event-iterator.result.rest.items ≡ c.args.events.items = search in
    (whole, λ group stands agree. rw c.new-answers.ensures.items (none_run g.S.Servant.machine group c.args.core.now c.args.steps.now stands))

pub returns-then-is_err-clause-stopped : goal.returns-then-is_err-clause-stopped
returns-then-is_err-clause-stopped g c = λ group stands agree.
    let machines = g.S.Servant.machine in
    let done = c.loop-event.yielded in
    let e = c.in-Some.event in
    let rest = c.next.new.self.rest.items in
    let are : done ++ e ∷ rest ≡ c.args.events.items = ap (λ (es : List Event). done ++ es) (sym c.in-Some.ensures.steps.0) ∙ c.loop-event.invariant.0 in
    let these = subst (λ (es : List Event). AlwaysAgree (machines group.common.kind) group es) (sym are) agree in
    let ran = c.loop-event.invariant.1 group stands agree in
    subst (λ (es : List Event). HasStopped machines group es c.loop-event.core c.args.steps.now c.loop-event.steps) are
    (stopped_between c.groups_grow.ensures.grow machines g.met.S.Servant.stays group c.args.core.now stands done rest e these c.loop-event.answers.items c.loop-event.core c.args.steps.now c.loop-event.steps ran)

pub act-answer-requires : goal.act-answer-requires
act-answer-requires g c =
    let machines = g.S.Servant.machine in
    let group = c.requires.0 in
    let stands = c.requires.1 in
    let done = c.loop-event.yielded in
    let e = c.in-Some.event in
    let rest = c.next.new.self.rest.items in
    let are : done ++ e ∷ rest ≡ c.args.events.items = ap (λ (es : List Event). done ++ es) (sym c.in-Some.ensures.steps.0) ∙ c.loop-event.invariant.0 in
    let these = subst (λ (es : List Event). AlwaysAgree (machines group.common.kind) group es) (sym are) c.requires.2 in
    let ran = c.loop-event.invariant.1 group stands c.requires.2 in (
      here c.groups_grow.ensures.grow machines g.met.S.Servant.stays group c.args.core.now stands done rest e these c.loop-event.answers.items c.loop-event.core c.args.steps.now c.loop-event.steps ran,
      ran.stands,
      agrees_here c.groups_grow.ensures.grow machines g.met.S.Servant.stays group c.args.core.now stands done rest e these c.loop-event.answers.items c.loop-event.core c.args.steps.now c.loop-event.steps ran,
    )

pub returns-then-is_short-clause-stopped : goal.returns-then-is_short-clause-stopped
returns-then-is_short-clause-stopped g c = λ group stands agree.
    let machines = g.S.Servant.machine in
    let grow = c.groups_grow.ensures.grow in
    let stays = g.met.S.Servant.stays in
    let done = c.loop-event.yielded in
    let e = c.in-Some.event in
    let rest = c.next.new.self.rest.items in
    let answers = c.loop-event.answers.items in
    let are : done ++ e ∷ rest ≡ c.args.events.items = ap (λ (es : List Event). done ++ es) (sym c.in-Some.ensures.steps.0) ∙ c.loop-event.invariant.0 in
    let these = subst (λ (es : List Event). AlwaysAgree (machines group.common.kind) group es) (sym are) agree in
    let ran = c.loop-event.invariant.1 group stands agree in
    let it = here grow machines stays group c.args.core.now stands done rest e these answers c.loop-event.core c.args.steps.now c.loop-event.steps ran in
    let agrees = agrees_here grow machines stays group c.args.core.now stands done rest e these answers c.loop-event.core c.args.steps.now c.loop-event.steps ran in
    let acted = c.act-answer.ensures.acted it ran.stands agrees in
    let short : is_short c.act-answer.result ≡ true = sym c.is_short.ensures ∙ c.if-is_short.true in
    subst (λ (es : List Event). HasStopped machines group es c.act-answer.new.self c.args.steps.now c.act-answer.new.steps) are
    (stopped_within grow machines stays group c.args.core.now stands done rest e these answers c.loop-event.core c.args.steps.now c.loop-event.steps ran c.act-answer.result c.act-answer.new.self c.act-answer.new.steps short acted)

pub loop-event-preserved : goal.loop-event-preserved
loop-event-preserved g c =
    let machines = g.S.Servant.machine in
    let grow = c.groups_grow.ensures.grow in
    let stays = g.met.S.Servant.stays in
    let done = c.loop-event.yielded in
    let e = c.in-Some.event in
    let rest = c.next.new.self.rest.items in
    let answers = c.loop-event.answers.items in
    let are : done ++ e ∷ rest ≡ c.args.events.items = ap (λ (es : List Event). done ++ es) (sym c.in-Some.ensures.steps.0) ∙ c.loop-event.invariant.0 in
    let told : c.push_within.new.items.items ≡ answers ++ c.act-answer.result ∷ [] = ◌∙◌ {A = List GroupAnswer} c.push_within.ensures.items (ap (λ (before : List GroupAnswer). before ++ c.act-answer.result ∷ []) c.reserve.ensures.items) in (
      event_between done e rest ∙ are,
      λ group stands agree.
          let these = subst (λ (es : List Event). AlwaysAgree (machines group.common.kind) group es) (sym are) agree in
          let ran = c.loop-event.invariant.1 group stands agree in
          let it = here grow machines stays group c.args.core.now stands done rest e these answers c.loop-event.core c.args.steps.now c.loop-event.steps ran in
          let agrees = agrees_here grow machines stays group c.args.core.now stands done rest e these answers c.loop-event.core c.args.steps.now c.loop-event.steps ran in
          let acted = c.act-answer.ensures.acted it ran.stands agrees in
          let no_short : is_short c.act-answer.result ≡ false = sym c.is_short.ensures ∙ c.if-is_short.false in
          rw told (one_run grow machines stays group c.args.core.now stands done rest e these answers c.loop-event.core c.args.steps.now c.loop-event.steps ran c.act-answer.result c.act-answer.new.self c.act-answer.new.steps no_short acted),
    )

pub returns-clause-goes_on : goal.returns-clause-goes_on
returns-clause-goes_on g c = λ group stands agree.
    goes_on c.groups_stay_sound.ensures c.groups_grow.ensures.grow c.groups_grow.ensures.replies c.calls_are_counted.ensures (g.S.Servant.machine group.common.kind) (g.met.S.Servant.stays group.common.kind)
    group c.args.events.items c.loop-event.answers.items stands.sound agree
