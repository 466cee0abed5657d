use Rattle.std.proofs.Common.{ℕ, List, ◌++◌, sym}
use Rattle.giop_messages.specs.declared.messages.ReplyMsg.{ReplyMsg}
use Rattle.giop_stream.specs.Parts.{Received}
use Rattle.giop_stream.specs.Frames.{Stands}
use Rattle.giop_stream.specs.Replies.{Listens}
use Rattle.giop_stream.proofs.ReplyLaws.{listens_fed}
use Rattle.giop_stream.proofs.SessionLaws.{on_ok}
use Rattle.giop_stream.proofs.replies.ReplySession.feed.Goals as goal

pub returns-in-None-clause-ok : goal.returns-in-None-clause-ok
returns-in-None-clause-ok c =
    let s = c.args.self.now in
    let t = c.append.new.self in
    let piece = c.args.piece.now in
    let P : Type 0 = (fed : List ℕ) (ms : List Received) → Stands s.frames fed ms → Stands t.frames (fed ++ piece) ms in
    let Q : Type 0 = (fed : List ℕ) (given : List ReplyMsg) → Listens s fed given → Listens t (fed ++ piece) given in
    let f : P → Q = λ on fed given h. listens_fed s t fed piece given (sym c.in-None.ensures) c.append.ensures.ended (on fed) h in
    on_ok c.append.result P Q f c.append.ensures.ok
