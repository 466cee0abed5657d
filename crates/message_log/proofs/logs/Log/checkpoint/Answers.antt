use Rattle.std.proofs.Common.{◌≡◌, ℕ, ◌+◌, List, [], Option, Some, None, Bool, true, false, refl, ap, subst, sym, ◌∙◌, max, arith}
use Rattle.std.specs.Prelude.{vec_len, length}
use Rattle.ft_outside.specs.Keeping.{IsForetold, plan_after}
use Rattle.ft_base.specs.Journal.{is_unexpired}
use Rattle.reply_table.specs.Entries.{Table, unexpired}
use Rattle.reply_table.specs.declared.entries.Retained.{Retained}
use Rattle.message_log.specs.Picture.{KeeperPicture, IsSound, length_of}
use Rattle.log_records.specs.Records.{checkpoint_record, view_record, IsVersion}
use Rattle.log_records.specs.Writable.{CanStand}
use Rattle.log_records.specs.declared.records.Checkpoint.{Checkpoint}
use Rattle.message_log.specs.Opening.{Content}
use Rattle.message_log.specs.Retaining.{AreRetained}
use Rattle.message_log.specs.Written.{IsOnRecord}
use Rattle.message_log.proofs.TableLaws.{all_filter, retained_filter, rising_from_0}
use Rattle.message_log.proofs.WritingLaws.{cut_on_record}
use Rattle.message_log.proofs.PictureLaws.{sound_checkpointed, newest_version}
use Rattle.message_log.proofs.logs.Log.checkpoint.Goals as goal

pub invariant_of-self-2 : goal.invariant_of-self-2
invariant_of-self-2 g c =
    let l = c.self.inside in
    let len : vec_len l.entries ≡ length l.entries.items = l.entries.ok.0 in
    let end : c.length-mark.result ≡ l.mark + vec_len l.entries =
    c.length-mark.ensures.value ∙ ap length_of (sym c.self.view_is) ∙ ap (λ (n : ℕ). l.mark + n) (sym len)
    in
    let entries : c.purge.new.self.entries ≡ unexpired c.max.result l.table.entries = ap (λ (t : Table). t.entries) c.purge.ensures in
    let held : Content = record { newest = Some l.newest; begun = true; mark = l.mark; entries = l.entries.items; time = l.time.0; state = l.state; table = l.table.entries } in
    let keeper : KeeperPicture = record { records = g.K.Keeper.records l.keeper; plan = g.K.Keeper.plan l.keeper; faults = g.K.Keeper.faults l.keeper } in
    let k : Checkpoint = record { mark = c.length-mark.result; time = record { 0 = c.max.result }; state = c.args.state.now; retained = unexpired c.max.result l.table.entries } in
    let is : k.mark ≡ l.mark + length l.entries.items = omega (arith, end, len) in
    let left : AreRetained k.mark k.retained =
    subst (λ (n : ℕ). AreRetained n k.retained) (sym is)
    (retained_filter (l.mark + length l.entries.items) (λ (r : Retained). is_unexpired c.max.result r.request.key) l.table.entries c.self.invariant.2.retained)
    in
    let stands : CanStand k.mark k.retained = record {
      fits = omega (arith, is, len, c.self.invariant.0.fits);
      rising = rising_from_0 k.mark k.retained left;
      versions = all_filter (λ (r : Retained). IsVersion r.version) (λ (r : Retained). is_unexpired c.max.result r.request.key) l.table.entries c.self.invariant.0.versions;
    } in
    let known = newest_version l.newest l.earlier.items l.mark (vec_len l.entries) l.table.entries c.self.invariant.0 in
    let here : g.K.Keeper.records c.reserve.new.self ≡ g.K.Keeper.records l.keeper = c.reserve.ensures.records in
    let old : KeeperPicture = record { records = g.K.Keeper.records c.reserve.new.self; plan = g.K.Keeper.plan c.reserve.new.self; faults = g.K.Keeper.faults c.reserve.new.self } in
    let new : KeeperPicture = record { records = g.K.Keeper.records c.tidy.new.keeper; plan = g.K.Keeper.plan c.tidy.new.keeper; faults = g.K.Keeper.faults c.tidy.new.keeper } in
    let tidied = rw (c.in-Ok.ensures.written, c.in-Ok-view_record.ensures.written) at c.in-Some.ensures.1 in
    let cut =
    cut_on_record c.records_are_read_again.ensures old held l.newest k (subst (λ (rs : List (List ℕ)). IsOnRecord rs held) (sym here) c.self.invariant.2) refl is left
    (c.in-Ok.ensures.writable stands) (c.in-Ok-view_record.ensures.writable known c.self.invariant.0.logged) c.in-Some._how (plan_after (g.K.Keeper.plan c.reserve.new.self)) new tidied
    in (
      subst (λ (rs : List Retained). IsSound l.newest l.earlier.items c.length-mark.result (vec_len c.clear.new.self) rs) (sym entries)
          (sound_checkpointed l.newest l.earlier.items l.mark (vec_len l.entries) c.max.result c.length-mark.result (vec_len c.clear.new.self) l.table.entries c.self.invariant.0
          end c.clear.ensures.len),
      tt,
      subst (λ (x : Content). IsOnRecord new.records x)
          (λ i. record {
            newest = Some l.newest;
            begun = true;
            mark = c.length-mark.result;
            entries = sym c.clear.ensures.items i;
            time = c.max.result;
            state = Some (sym c.in-Ok-copy.ensures i);
            table = sym entries i;
          }) cut,
    )

pub returns : goal.returns
returns g c =
    let l = c.self.inside in
    let end : c.length-mark.result ≡ l.mark + length l.entries.items = c.length-mark.ensures.value ∙ ap length_of (sym c.self.view_is) in
    let time : c.max.result ≡ max c.args.clock.0 l.time.0 = c.max.ensures in
    let written : c.in-Ok.record ≡ checkpoint_record (record { mark = l.mark + length l.entries.items; time = record { 0 = max c.args.clock.0 l.time.0 }; state = c.args.state.now; retained = unexpired (max c.args.clock.0 l.time.0) l.table.entries }) =
    c.in-Ok.ensures.written ∙ (λ i. checkpoint_record (record { mark = end i; time = record { 0 = time i }; state = c.args.state.now; retained = unexpired (time i) l.table.entries }))
    in
    let viewed : c.in-Ok-view_record.view ≡ view_record l.newest = c.in-Ok-view_record.ensures.written in
    let records : g.K.Keeper.records c.reserve.new.self ≡ g.K.Keeper.records l.keeper = c.reserve.ensures.records in
    let plan : g.K.Keeper.plan c.reserve.new.self ≡ g.K.Keeper.plan l.keeper = c.reserve.ensures.plan in
    let faults : g.K.Keeper.faults c.reserve.new.self ≡ g.K.Keeper.faults l.keeper = c.reserve.ensures.faults in
    let tidied = c.in-Some.ensures in
    let state : c.in-Ok-copy.state ≡ c.args.state.now = c.in-Ok-copy.ensures in
    let entries : c.clear.new.self.items ≡ [] = c.clear.ensures.items in
    let table : c.purge.new.self.entries ≡ unexpired (max c.args.clock.0 l.time.0) l.table.entries =
    ap (λ (t : Table). t.entries) c.purge.ensures ∙ ap (λ (n : ℕ). unexpired n l.table.entries) time
    in
    rw (← c.self.view_is) (
      subst (λ (p : Option (List Bool)). IsForetold p false) plan tidied.0,
      (c.in-Some._how, rw (records, written, viewed, plan, faults) at tidied.1),
      λ i. record {
        newest = l.newest;
        earlier = l.earlier.items;
        mark = end i;
        entries = entries i;
        time = time i;
        state = Some (state i);
        table = table i;
        reserved = None;
        records = g.K.Keeper.records c.tidy.new.keeper;
        plan = g.K.Keeper.plan c.tidy.new.keeper;
        faults = g.K.Keeper.faults c.tidy.new.keeper;
      },
    )
