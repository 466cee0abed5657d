use Rattle.std.proofs.Common.{◌≡◌, ℕ, ◌+◌, ◌<◌, List, [], ◌∷◌, ◌++◌, Option, Some, None, Bool, true, false, refl, sym, ap, subst, ◌∙◌, arith}
use Rattle.std.specs.Prelude.{vec_len}
use Rattle.ft_base.specs.declared.limits.TheConstants.{VIEW_LIMIT}
use Rattle.ft_base.specs.declared.views.View.{View}
use Rattle.log_records.specs.Records.{IsVersion}
use Rattle.message_log.specs.Opening.{Content}
use Rattle.message_log.specs.Picture.{Picture, IsSound}
use Rattle.message_log.specs.Written.{IsOnRecord}
use Rattle.message_log.proofs.PictureLaws.{sound_viewed, subst2}
use Rattle.message_log.proofs.WritingLaws.{view_on_record}
use Rattle.ft_outside.specs.Keeping.{IsForetold, plan_after}
use Rattle.log_records.specs.Records.{view_record}
use Rattle.message_log.proofs.logs.Log.new_view.Goals as goal

pub returns-in-Done : goal.returns-in-Done
returns-in-Done g c =
    let l = c.self.inside in
    let newest : c.replace.new.dest ≡ c.args.view = c.replace.ensures.after in
    let old : c.replace.result ≡ l.newest = c.replace.ensures.value in
    let earlier : c.push_within.new.items.items ≡ l.earlier.items ++ l.newest ∷ [] =
    c.push_within.ensures.items ∙ (λ i. (c.reserve-else-is_err.ensures.items i) ++ old i ∷ [])
    in
    let records : g.K.Keeper.records c.append.new.self ≡ g.K.Keeper.records l.keeper ++ view_record c.args.view ∷ [] =
    c.in-Done.ensures.records ∙ (λ i. (c.reserve.ensures.records i) ++ (c.in-Ok.ensures.written i) ∷ [])
    in
    let plan : g.K.Keeper.plan c.append.new.self ≡ plan_after (g.K.Keeper.plan l.keeper) = c.in-Done.ensures.plan ∙ ap plan_after c.reserve.ensures.plan in
    let faults : g.K.Keeper.faults c.append.new.self ≡ g.K.Keeper.faults l.keeper = c.in-Done.ensures.faults ∙ c.reserve.ensures.faults in
    rw (← c.self.view_is) (
      omega (arith, c.if-self-ge-VIEW_LIMIT.false),
      subst (λ (p : Option (List Bool)). IsForetold p false) c.reserve.ensures.plan c.in-Done.ensures.foretold,
      λ i. record {
        newest = newest i;
        earlier = earlier i;
        mark = l.mark;
        entries = l.entries.items;
        time = l.time.0;
        state = l.state;
        table = l.table.entries;
        reserved = None;
        records = records i;
        plan = plan i;
        faults = faults i;
      },
    )

pub invariant_of-self-in-Done : goal.invariant_of-self-in-Done
invariant_of-self-in-Done g c =
    let l = c.self.inside in
    let newest : l.newest.version.0 < VIEW_LIMIT = omega (arith, c.if-self-ge-VIEW_LIMIT.false) in
    let next : c.args.view.version.0 ≡ l.newest.version.0 + 1 = c.requires.next ∙ ap (λ (p : Picture). p.newest.version.0 + 1) (sym c.self.view_is) in
    let earlier : c.push_within.new.items.items ≡ l.earlier.items ++ l.newest ∷ [] =
    c.push_within.ensures.items ∙ (λ i. (c.reserve-else-is_err.ensures.items i) ++ (c.replace.ensures.value i) ∷ [])
    in
    let after : c.replace.new.dest ≡ c.args.view = c.replace.ensures.after in
    let records : g.K.Keeper.records c.append.new.self ≡ g.K.Keeper.records l.keeper ++ view_record c.args.view ∷ [] =
    c.in-Done.ensures.records ∙ (λ i. (c.reserve.ensures.records i) ++ (c.in-Ok.ensures.written i) ∷ [])
    in
    let known : IsVersion c.args.view.version = (omega (arith, next), omega (arith, next, newest)) in
    let held : Content = record { newest = Some l.newest; begun = true; mark = l.mark; entries = l.entries.items; time = l.time.0; state = l.state; table = l.table.entries } in (
      subst2 (λ (v : View) (vs : List View). IsSound v vs l.mark (vec_len l.entries) l.table.entries) (sym after) (sym earlier)
          (sound_viewed l.newest c.args.view l.earlier.items l.mark (vec_len l.entries) l.table.entries c.self.invariant.0 next newest c.requires.logged),
      tt,
      subst2 (λ (rs : List (List ℕ)) (v : View). IsOnRecord rs (record held { newest = Some v })) (sym records) (sym after)
          (view_on_record c.records_are_read_again.ensures (g.K.Keeper.records l.keeper) held l.newest c.args.view c.self.invariant.2 refl next (c.in-Ok.ensures.writable known c.requires.logged)),
    )
