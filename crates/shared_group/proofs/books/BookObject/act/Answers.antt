use Rattle.std.proofs.Common.{subst, sym}
use Rattle.shared_group.specs.declared.calls.Call.{Call}
use Rattle.shared_group.specs.Books.{DoesFor, IsReady}
use Rattle.shared_group.specs.Shared.{Shared}
use Rattle.shared_group.proofs.Longer.{book_more, ready}
use Rattle.shared_group.proofs.books.BookObject.act.Goals as goal

pub event-requires : goal.event-requires
event-requires g c =
    subst (λ (call : Call). (s : Shared) × IsReady g.S.Servant.machine call c.args.self.now s) c.in-Act.is
    (ready g.S.Servant.machine c.steps_go_on.ensures.agree c.requires.0 c.requires.1 c.args.event c.args.self.now c.requires.2 c.requires.3)

pub returns-in-Act : goal.returns-in-Act
returns-in-Act g c = λ opening past is may.
    book_more g.S.Servant.machine c.steps_go_on.ensures.agree c.steps_go_on.ensures.grow c.what_is_sent_agrees.ensures opening past c.args.event c.event.result c.args.self.now c.event.new.self is may
    (subst (λ (call : Call). DoesFor g.S.Servant.machine call c.event.result c.args.self.now c.event.new.self) (sym c.in-Act.is) c.event.ensures.done) c.event.ensures.counts

pub ask-requires : goal.ask-requires
ask-requires g c =
    subst (λ (call : Call). (s : Shared) × IsReady g.S.Servant.machine call c.args.self.now s) c.in-Ask.is
    (ready g.S.Servant.machine c.steps_go_on.ensures.agree c.requires.0 c.requires.1 c.args.event c.args.self.now c.requires.2 c.requires.3)

pub returns-in-Ask : goal.returns-in-Ask
returns-in-Ask g c = λ opening past is may.
    book_more g.S.Servant.machine c.steps_go_on.ensures.agree c.steps_go_on.ensures.grow c.what_is_sent_agrees.ensures opening past c.args.event c.ask.result c.args.self.now c.ask.new.self is may
    (subst (λ (call : Call). DoesFor g.S.Servant.machine call c.ask.result c.args.self.now c.ask.new.self) (sym c.in-Ask.is) c.ask.ensures.done) c.ask.ensures.counts

pub carry-requires : goal.carry-requires
carry-requires g c =
    subst (λ (call : Call). (s : Shared) × IsReady g.S.Servant.machine call c.args.self.now s) c.in-Carry.is
    (ready g.S.Servant.machine c.steps_go_on.ensures.agree c.requires.0 c.requires.1 c.args.event c.args.self.now c.requires.2 c.requires.3)

pub returns-in-Carry : goal.returns-in-Carry
returns-in-Carry g c = λ opening past is may.
    book_more g.S.Servant.machine c.steps_go_on.ensures.agree c.steps_go_on.ensures.grow c.what_is_sent_agrees.ensures opening past c.args.event c.carry.result c.args.self.now c.carry.new.self is may
    (subst (λ (call : Call). DoesFor g.S.Servant.machine call c.carry.result c.args.self.now c.carry.new.self) (sym c.in-Carry.is) c.carry.ensures.done) c.carry.ensures.counts

pub checkpoint-requires : goal.checkpoint-requires
checkpoint-requires g c =
    subst (λ (call : Call). (s : Shared) × IsReady g.S.Servant.machine call c.args.self.now s) c.in-Checkpoint.is
    (ready g.S.Servant.machine c.steps_go_on.ensures.agree c.requires.0 c.requires.1 c.args.event c.args.self.now c.requires.2 c.requires.3)

pub returns-in-Checkpoint : goal.returns-in-Checkpoint
returns-in-Checkpoint g c = λ opening past is may.
    book_more g.S.Servant.machine c.steps_go_on.ensures.agree c.steps_go_on.ensures.grow c.what_is_sent_agrees.ensures opening past c.args.event c.checkpoint.result c.args.self.now c.checkpoint.new.self is may
    (subst (λ (call : Call). DoesFor g.S.Servant.machine call c.checkpoint.result c.args.self.now c.checkpoint.new.self) (sym c.in-Checkpoint.is) c.checkpoint.ensures.done) c.checkpoint.ensures.counts

pub here-requires : goal.here-requires
here-requires g c =
    subst (λ (call : Call). (s : Shared) × IsReady g.S.Servant.machine call c.args.self.now s) c.in-Here.is
    (ready g.S.Servant.machine c.steps_go_on.ensures.agree c.requires.0 c.requires.1 c.args.event c.args.self.now c.requires.2 c.requires.3)

pub returns-in-Here : goal.returns-in-Here
returns-in-Here g c = λ opening past is may.
    book_more g.S.Servant.machine c.steps_go_on.ensures.agree c.steps_go_on.ensures.grow c.what_is_sent_agrees.ensures opening past c.args.event c.here.result c.args.self.now c.here.new.self is may
    (subst (λ (call : Call). DoesFor g.S.Servant.machine call c.here.result c.args.self.now c.here.new.self) (sym c.in-Here.is) c.here.ensures.done) c.here.ensures.counts

pub figures-requires : goal.figures-requires
figures-requires g c =
    subst (λ (call : Call). (s : Shared) × IsReady g.S.Servant.machine call c.args.self.now s) c.in-Figures.is
    (ready g.S.Servant.machine c.steps_go_on.ensures.agree c.requires.0 c.requires.1 c.args.event c.args.self.now c.requires.2 c.requires.3)

pub returns-in-Figures : goal.returns-in-Figures
returns-in-Figures g c = λ opening past is may.
    book_more g.S.Servant.machine c.steps_go_on.ensures.agree c.steps_go_on.ensures.grow c.what_is_sent_agrees.ensures opening past c.args.event c.figures.result c.args.self.now c.figures.new.self is may
    (subst (λ (call : Call). DoesFor g.S.Servant.machine call c.figures.result c.args.self.now c.figures.new.self) (sym c.in-Figures.is) c.figures.ensures.done) c.figures.ensures.counts

pub reply-requires : goal.reply-requires
reply-requires g c =
    subst (λ (call : Call). (s : Shared) × IsReady g.S.Servant.machine call c.args.self.now s) c.in-Reply.is
    (ready g.S.Servant.machine c.steps_go_on.ensures.agree c.requires.0 c.requires.1 c.args.event c.args.self.now c.requires.2 c.requires.3)

pub returns-in-Reply : goal.returns-in-Reply
returns-in-Reply g c = λ opening past is may.
    book_more g.S.Servant.machine c.steps_go_on.ensures.agree c.steps_go_on.ensures.grow c.what_is_sent_agrees.ensures opening past c.args.event c.reply.result c.args.self.now c.reply.new.self is may
    (subst (λ (call : Call). DoesFor g.S.Servant.machine call c.reply.result c.args.self.now c.reply.new.self) (sym c.in-Reply.is) c.reply.ensures.done) c.reply.ensures.counts
