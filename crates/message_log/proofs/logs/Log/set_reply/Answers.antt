use Rattle.std.proofs.Common.{List, Some, Bool, true, ap, subst, sym, arith}
use Rattle.std.specs.Prelude.{vec_len, vec_capacity}
use Rattle.reply_table.specs.Entries.{Table}
use Rattle.reply_table.specs.declared.entries.Retained.{Retained}
use Rattle.message_log.specs.Calls.{IsReady}
use Rattle.message_log.specs.Opening.{Content}
use Rattle.message_log.specs.Picture.{IsSound}
use Rattle.message_log.specs.Written.{IsOnRecord}
use Rattle.message_log.proofs.PictureLaws.{sound_answered}
use Rattle.message_log.proofs.WritingLaws.{reply_on_record}
use Rattle.message_log.proofs.logs.Log.set_reply.Goals as goal

pub invariant_of-self : goal.invariant_of-self
invariant_of-self g c =
    let l = c.self.inside in
    let held : Content = record { newest = Some l.newest; begun = true; mark = l.mark; entries = l.entries.items; time = l.time.0; state = l.state; table = l.table.entries } in
    let entries = ap (λ (t : Table). t.entries) c.set_reply.ensures in
    let room = ap (λ (t : Table). t.room) c.set_reply.ensures in (
      subst (λ (rs : List Retained). IsSound l.newest l.earlier.items l.mark (vec_len l.entries) rs) (sym entries)
          (sound_answered l.newest l.earlier.items l.mark (vec_len l.entries) c.args.position c.args.outcome l.table.entries c.self.invariant.0),
      subst (λ (b : Bool). IsReady l.reserved l.retained (g.K.Keeper.spare l.keeper) (vec_len l.entries) (vec_capacity l.entries) b) (sym room)
          c.self.invariant.1,
      subst (λ (rs : List Retained). IsOnRecord (g.K.Keeper.records l.keeper) (record held { table = rs })) (sym entries)
          (reply_on_record (g.K.Keeper.records l.keeper) held c.args.position c.args.outcome (omega (arith, c.if-position-self.true)) c.self.invariant.2),
    )
