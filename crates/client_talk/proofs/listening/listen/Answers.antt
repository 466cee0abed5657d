use Rattle.std.proofs.Common.{[], ◌∷◌, ◌++◌, Ok, ap, refl, subst, sym, ◌∙◌}
use Rattle.ft_outside.specs.Outside.{next_count}
use Rattle.giop_stream.specs.declared.replies.ReplyStep.{ReplyStep}
use Rattle.giop_stream.specs.Sessions.{Serving}
use Rattle.giop_stream.specs.Replies.{IsSpelledReply, Listens, OnReply, Reads}
use Rattle.client_talk.proofs.Heard.{all_at_end, all_of, first_of, more_read, readable, still_read}
use Rattle.client_talk.proofs.listening.listen.Goals as goal

pub loop-init : goal.loop-init
loop-init g c = record { on = λ whole given at. at; calm = refl; holds = refl }

pub returns-in-Ok-Reply-clause-heard : goal.returns-in-Ok-Reply-clause-heard
returns-in-Ok-Reply-clause-heard g c = λ whole given at.
    let o = c.loop.invariant.on whole given at in
    let listens = subst (λ (x : ReplyStep). Reads (Ok x) o.0 given c.next-in-loop.new.self) c.in-Ok-Reply.field-0-is (c.in-Ok-Reply.ensures.next o.0 given o.2) in
    ((o.0, o.1, listens), first_of whole (g.L.Source.left c.loop.link) o.0 (given ++ c.in-Ok-Reply.reply ∷ []) c.next-in-loop.new.self o.1 listens)

pub returns-in-Ok-Reply-clause-readable : goal.returns-in-Ok-Reply-clause-readable
returns-in-Ok-Reply-clause-readable g c =
    readable c.messages_are_within.ensures c.in-Ok-Reply.reply (subst (λ (x : ReplyStep). OnReply (Ok x) IsSpelledReply) c.in-Ok-Reply.field-0-is c.in-Ok-Reply.ensures.spelled)

pub returns-in-Ok-Reply-clause-holds : goal.returns-in-Ok-Reply-clause-holds
returns-in-Ok-Reply-clause-holds g c = c.loop.invariant.holds

pub returns-in-Ok-Reply-clause-faults : goal.returns-in-Ok-Reply-clause-faults
returns-in-Ok-Reply-clause-faults g c = c.loop.invariant.calm

pub loop-preserved : goal.loop-preserved
loop-preserved g c = record {
  on = λ whole given at.
      let o = c.loop.invariant.on whole given at in
      let waits = subst (λ (x : ReplyStep). Reads (Ok x) o.0 given c.next-in-loop.new.self) c.in-Ok-Wait.field-0-is (c.in-Ok-Wait.ensures.next o.0 given o.2) in
      let came = c.in-Some-receive.ensures.came in
      more_read whole given (g.L.Source.left c.loop.link) (g.L.Source.left c.receive.new.link) c.next-in-loop.new.self c.receive.new.session came.0 came.1 came.2 (o.0, o.1, waits.0);
  calm = c.in-Some-receive.ensures.came.3 ∙ c.loop.invariant.calm;
  holds = c.receive.ensures.holds ∙ c.loop.invariant.holds;
}

pub returns-in-End-clause-heard : goal.returns-in-End-clause-heard
returns-in-End-clause-heard g c = λ whole given at.
    let o = c.loop.invariant.on whole given at in
    let waits = subst (λ (x : ReplyStep). Reads (Ok x) o.0 given c.next-in-loop.new.self) c.in-Ok-Wait.field-0-is (c.in-Ok-Wait.ensures.next o.0 given o.2) in
    let came = c.in-End.ensures.came in (
      still_read whole given (g.L.Source.left c.loop.link) (g.L.Source.left c.receive.new.link) c.next-in-loop.new.self c.receive.new.session came.0 came.1 (o.0, o.1, waits.0),
      all_at_end whole (g.L.Source.left c.loop.link) o.0 given c.at_end-end.result o.1 came.2
          (c.at_end-end.ensures o.0 given (subst (λ (x : Serving). Listens x o.0 given) (sym came.0) waits.0) waits.1),
    )

pub returns-in-Failed-clause-heard : goal.returns-in-Failed-clause-heard
returns-in-Failed-clause-heard g c = λ whole given at.
    let o = c.loop.invariant.on whole given at in
    let waits = subst (λ (x : ReplyStep). Reads (Ok x) o.0 given c.next-in-loop.new.self) c.in-Ok-Wait.field-0-is (c.in-Ok-Wait.ensures.next o.0 given o.2) in
    let came = c.in-Failed.ensures.came in
    still_read whole given (g.L.Source.left c.loop.link) (g.L.Source.left c.receive.new.link) c.next-in-loop.new.self c.receive.new.session came.0 came.1 (o.0, o.1, waits.0)

pub returns-in-Failed-clause-faults : goal.returns-in-Failed-clause-faults
returns-in-Failed-clause-faults g c = c.in-Failed.ensures.came.2 ∙ ap next_count c.loop.invariant.calm

pub returns-in-Ok-End-clause-heard : goal.returns-in-Ok-End-clause-heard
returns-in-Ok-End-clause-heard g c = λ whole given at.
    let o = c.loop.invariant.on whole given at in
    let over = subst (λ (x : ReplyStep). Reads (Ok x) o.0 given c.next-in-loop.new.self) c.in-Ok-End.field-0-is (c.in-Ok-End.ensures.next o.0 given o.2) in
    ((o.0, o.1, over.0), all_of whole (g.L.Source.left c.loop.link) o.0 given c.in-Ok-End.field-0-0 o.1 over.1)
