use Rattle.std.proofs.Common.{◌≡◌, ◌∷◌, [], ◌++◌, ap, sym, subst, ◌∙◌}
use Rattle.group_model.specs.declared.events.Event.{Event}
use Rattle.script_groups.specs.declared.happenings.Happening.{Happening}
use Rattle.script_groups.specs.declared.happenings.Happening.TheVariants as happenings
use Rattle.script_groups.specs.Acting.{IsActed, MayCome}
use Rattle.script_groups.specs.Groups.{ScriptGroup, group_of}
use Rattle.script_groups.specs.Standing.{IsStanding}
use Rattle.script_groups.specs.Viewing.{seen}
use Rattle.script_groups.proofs.Acts.{agrees_as, stands_on, turn_acts}
use Rattle.script_groups.proofs.groups.ScriptGroup.act.Goals as goal

pub invariant_of-self-2 : goal.invariant_of-self-2
invariant_of-self-2 g c = λ kept.
    let before = seen c.self.inside in
    let stands = c.self.invariant kept in
    let core = c.self.inside.core in
    let now = c.act-answer.new.self in
    let e = c.happening_of-past.result.1 in
    let same : e ≡ c.args.event = c.happening_of-past.ensures.event in
    let may = subst (λ (x : Event). MayCome before x) (sym same) (subst (λ s. MayCome s c.args.event) (sym c.self.view_is) c.requires.may) in
    let answer = c.act-answer.result in
    let wrote = c.act-answer.ensures.wrote in
    let acts = c.act-answer.ensures.acted (group_of before) stands.core_stands (agrees_as before e core stands answer now c.args.steps.now c.act-answer.new.steps wrote may) in
    let grown = c.push.ensures ∙ ap (λ (h : Happening). before.happenings ++ h ∷ []) (c.happening_of-past.ensures.happening ∙ ap happenings.Event (sym same)) in
    subst (λ hs. IsStanding now (record before { happenings = hs })) (sym grown)
    (stands_on before e core stands answer now c.args.steps.now c.act-answer.new.steps wrote c.turns_are_as_foretold.ensures.turn acts (sym c.is_short.ensures ∙ c.if-is_short.false) c.groups_grow.ensures.grow)

pub returns : goal.returns
returns g c =
    let before = seen c.self.inside in
    let stands = c.self.invariant (ap (λ (s : ScriptGroup). s.poisoned) c.self.view_is ∙ c.requires.kept) in
    let core = c.self.inside.core in
    let now = c.act-answer.new.self in
    let e = c.happening_of-past.result.1 in
    let same : e ≡ c.args.event = c.happening_of-past.ensures.event in
    let may = subst (λ (x : Event). MayCome before x) (sym same) (subst (λ s. MayCome s c.args.event) (sym c.self.view_is) c.requires.may) in
    let answer = c.act-answer.result in
    let wrote = c.act-answer.ensures.wrote in
    let acts = c.act-answer.ensures.acted (group_of before) stands.core_stands (agrees_as before e core stands answer now c.args.steps.now c.act-answer.new.steps wrote may) in
    let grown = c.push.ensures ∙ ap (λ (h : Happening). before.happenings ++ h ∷ []) (c.happening_of-past.ensures.happening ∙ ap happenings.Event (sym same)) in
    let it = turn_acts before e core stands answer now c.args.steps.now c.act-answer.new.steps wrote c.turns_are_as_foretold.ensures.turn acts (sym c.is_short.ensures ∙ c.if-is_short.false) in
    subst (λ s. IsActed s c.args.event answer (record before { happenings = c.push.new.self }) c.args.steps.now c.act-answer.new.steps) c.self.view_is
    (subst (λ (x : Event). IsActed before x answer (record before { happenings = c.push.new.self }) c.args.steps.now c.act-answer.new.steps) same
    (subst (λ hs. IsActed before e answer (record before { happenings = hs }) c.args.steps.now c.act-answer.new.steps) (sym grown) it))
