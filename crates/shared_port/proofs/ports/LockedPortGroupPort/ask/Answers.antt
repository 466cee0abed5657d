use Rattle.std.proofs.Common.{◌∙◌, Bool, subst, sym}
use Rattle.shared_group.specs.Turns.{SharedValue}
use Rattle.shared_port.specs.Turns.{Asks, IsAsked}
use Rattle.shared_port.proofs.Forms.{ask_in_form}
use Rattle.shared_port.proofs.Turning.{is_asked}
use Rattle.shared_port.proofs.ports.LockedPortGroupPort.ask.Goals as goal

pub port_answer-requires : goal.port_answer-requires
port_answer-requires g c =
    ask_in_form g.S.Servant.machine g.met.S.Servant.stays g.met.S.Servant.gives c.answers_are_given.ensures.given
    c.self.inside.group.now.lock c.args.pass.now c.ask-ask.new.pass c.args.host c.args.asked c.ask-ask.result c.ask-ask.ensures

pub returns-clause-asks : goal.returns-clause-asks
returns-clause-asks g c =
    let machines = g.S.Servant.machine in
    subst (λ (named : Bool). Asks machines c.args.self.now named c.args.host.0 c.args.asked c.port_answer.result c.args.pass.now c.ask-ask.new.pass)
    (sym (sym c.names_group.ensures ∙ c.if-not-names_group.false))
    (subst (λ (v : SharedValue). IsAsked machines v c.args.host.0 c.args.asked c.port_answer.result c.args.pass.now c.ask-ask.new.pass) c.self.view_is
    (is_asked machines c.self.inside.group.now c.args.host c.args.asked c.port_answer.result c.args.pass.now c.ask-ask.new.pass c.ask-ask.result c.ask-ask.ensures c.port_answer.ensures.says))
