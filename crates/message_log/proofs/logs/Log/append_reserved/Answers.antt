use Rattle.std.proofs.Common.{◌≡◌, ℕ, ◌+◌, ◌<◌, true, Some, refl, subst, List, [], ◌∷◌, ◌++◌, ap, sym, ◌∙◌, arith, max, Option}
use Rattle.std.specs.Prelude.{vec_len, vec_capacity, length}
use Rattle.ft_base.specs.Journal.{Entry}
use Rattle.ft_base.specs.declared.limits.TheConstants.{JOURNAL_LIMIT}
use Rattle.reply_table.specs.Entries.{joined, unanswered}
use Rattle.message_log.specs.Picture.{Picture, Reserved, length_of}
use Rattle.log_records.specs.Records.{entry_record}
use Rattle.message_log.specs.Calls.{accepted_by, reserved_of, reserved_for}
use Rattle.log_records.specs.Writable.{IsWritable}
use Rattle.log_records.specs.declared.records.Accepted.{Accepted}
use Rattle.log_records.specs.declared.records.Record.TheVariants as records
use Rattle.message_log.specs.Opening.{Content, with_accepted}
use Rattle.message_log.specs.Written.{IsOnRecord}
use Rattle.message_log.proofs.PictureLaws.{sound_appended, ready_none, taken_is, new_has_room, subst2}
use Rattle.message_log.proofs.WritingLaws.{entry_on_record}
use Rattle.message_log.proofs.logs.Log.append_reserved.Goals as goal

pub invariant_of-self-in-Done : goal.invariant_of-self-in-Done
invariant_of-self-in-Done g c =
    let l = c.self.inside in
    let len : vec_len l.entries ≡ length l.entries.items = l.entries.ok.0 in
    let here : length_of c.args.self.now ≡ l.mark + length l.entries.items = ap length_of (sym c.self.view_is) in
    let position : c.length-position.result ≡ l.mark + length l.entries.items = c.length-position.ensures.value ∙ here in
    let time : c.max.result ≡ max c.args.clock.0 l.time.0 = c.max.ensures in
    let new = new_has_room c.args.self.now c.args.version.0 c.args.clock.0 c.args.request c.requires.new in
    let first : 0 < c.args.version.0 = omega (arith, new.0, c.self.invariant.0.first, ap (λ (p : Picture). p.newest.version.0) c.self.view_is) in
    let room : l.mark + vec_len l.entries < JOURNAL_LIMIT = omega (arith, new.1, here, len) in
    let asked = taken_is l.reserved l.retained c.in-Some.record (reserved_for c.args.self.now c.args.version c.args.clock c.args.request) (sym c.take.ensures.value ∙ c.in-Some.is)
    (ap (λ (p : Picture). p.reserved) c.self.view_is ∙ c.requires.reserved)
    in
    let put = c.put_retained.ensures c.args.request (ap (λ (r : Reserved). r.retained) asked) in
    let row = unanswered c.length-position.result c.args.version (record { 0 = c.max.result }) c.args.request in
    let held : Content = record { newest = Some l.newest; begun = true; mark = l.mark; entries = l.entries.items; time = l.time.0; state = l.state; table = l.table.entries } in
    let e : Accepted = record { position = c.length-position.result; version = c.args.version; at = record { 0 = c.max.result }; request = c.args.request } in
    let is : accepted_by c.args.self.now c.args.version c.args.clock c.args.request ≡ e = (λ i. record {
      position = sym c.length-position.ensures.value i;
      version = c.args.version;
      at = record { 0 = (ap (λ (p : Picture). max c.args.clock.0 p.time) (sym c.self.view_is) ∙ sym time) i };
      request = c.args.request;
    }) in
    let writable : IsWritable (records.Entry e) = subst (λ (x : Accepted). IsWritable (records.Entry x)) is (c.requires.writable.1 new.1 first) in
    let kept : g.K.Keeper.records c.append.new.self ≡ g.K.Keeper.records l.keeper ++ c.in-Some.record ∷ [] = c.in-Done.ensures.records in
    let written : g.K.Keeper.records c.append.new.self ≡ g.K.Keeper.records l.keeper ++ entry_record e ∷ [] =
    kept ∙ ap (λ (r : List ℕ). g.K.Keeper.records l.keeper ++ r ∷ []) (ap (λ (r : Reserved). r.entry) asked ∙ ap entry_record is)
    in
    let entry : c.push_within.new.items.items ≡ l.entries.items ++ record { at = c.max.result; request = c.args.request } ∷ [] =
    c.push_within.ensures.items ∙ ap (λ (x : Entry). l.entries.items ++ x ∷ []) c.new.ensures
    in
    let later : c.max.result ≡ max c.max.result l.time.0 = omega (arith, time) in
    let content : record held { entries = c.push_within.new.items.items; time = c.max.result; table = c.put_retained.new.table.entries } ≡ with_accepted held e =
    (λ i. record held { entries = entry i; time = later i; table = put i })
    in (
      sound_appended l.newest l.earlier.items l.mark (vec_len l.entries) (vec_len c.push_within.new.items) l.table.entries c.put_retained.new.table.entries
          row c.args.request.key c.self.invariant.0 room (omega (arith, position, len)) (first, c.requires.writable.0) c.push_within.ensures.len put,
      ready_none c.take.new.self c.put_retained.new.retained (g.K.Keeper.spare c.append.new.self) (vec_len c.push_within.new.items) (vec_capacity c.push_within.new.items) c.put_retained.new.table.room
          c.take.ensures.after,
      subst2 IsOnRecord (sym written) (sym content)
          (entry_on_record c.records_are_read_again.ensures (g.K.Keeper.records l.keeper) held e c.self.invariant.2 refl position writable),
    )

pub returns-in-Done : goal.returns-in-Done
returns-in-Done g c =
    let l = c.self.inside in
    let asked = taken_is l.reserved l.retained c.in-Some.record (reserved_for c.args.self.now c.args.version c.args.clock c.args.request) (sym c.take.ensures.value ∙ c.in-Some.is)
    (ap (λ (p : Picture). p.reserved) c.self.view_is ∙ c.requires.reserved)
    in
    let position : c.length-position.result ≡ l.mark + length l.entries.items = c.length-position.ensures.value ∙ ap length_of (sym c.self.view_is) in
    let time : c.max.result ≡ max c.args.clock.0 l.time.0 = c.max.ensures in
    let entry : c.new.result ≡ record { at = c.max.result; request = c.args.request } = c.new.ensures in
    let entries : c.push_within.new.items.items ≡ l.entries.items ++ record { at = max c.args.clock.0 l.time.0; request = c.args.request } ∷ [] =
    c.push_within.ensures.items ∙ ap (λ (e : Entry). l.entries.items ++ e ∷ []) (entry ∙ ap (λ (n : ℕ). record { at = n; request = c.args.request }) time)
    in
    let put : c.put_retained.new.table.entries
    ≡ joined l.table.entries (unanswered c.length-position.result c.args.version (record { 0 = c.max.result }) c.args.request) c.args.request.key =
    c.put_retained.ensures c.args.request (ap (λ (r : Reserved). r.retained) asked)
    in
    let table = put ∙ (λ i. joined l.table.entries (unanswered (position i) c.args.version (record { 0 = time i }) c.args.request) c.args.request.key) in
    let written = ap (λ (r : Reserved). r.entry) asked
    ∙ ap (λ (p : Picture). entry_record (accepted_by p c.args.version c.args.clock c.args.request)) (sym c.self.view_is)
    in
    let kept : g.K.Keeper.records c.append.new.self ≡ g.K.Keeper.records l.keeper ++ c.in-Some.record ∷ [] = c.in-Done.ensures.records in
    let pieces = kept ∙ ap (λ (r : List ℕ). g.K.Keeper.records l.keeper ++ r ∷ []) written in
    let reserved = ap (λ (o : Option (List ℕ)). reserved_of o c.put_retained.new.retained) c.take.ensures.after in
    let plan = c.in-Done.ensures.plan in
    let faults = c.in-Done.ensures.faults in
    rw (← c.self.view_is) (
      position,
      c.in-Done.ensures.foretold,
      λ i. record {
        newest = l.newest;
        earlier = l.earlier.items;
        mark = l.mark;
        entries = entries i;
        time = time i;
        state = l.state;
        table = table i;
        reserved = reserved i;
        records = pieces i;
        plan = plan i;
        faults = faults i;
      },
    )
