use Rattle.std.proofs.Common.{◌≡◌, ℕ, List, [], ◌∷◌, ◌++◌, Some, None, true, sym, ap, subst, ◌∙◌, arith}
use Rattle.std.specs.Prelude.{vec_len}
use Rattle.reply_table.specs.Entries.{Table}
use Rattle.reply_table.specs.declared.entries.Retained.{Retained}
use Rattle.log_records.specs.Records.{view_record, IsVersion}
use Rattle.ft_base.specs.declared.views.View.{View}
use Rattle.message_log.specs.Picture.{IsSound}
use Rattle.message_log.specs.Written.{IsOnRecord}
use Rattle.message_log.proofs.PictureLaws.{subst2}
use Rattle.message_log.proofs.WritingLaws.{fresh_on_record}
use Rattle.message_log.proofs.logs.Log.new.Goals as goal

pub invariant_of-result : goal.invariant_of-result
invariant_of-result g c =
    let view = c.args.view in
    let table : c.new-3.result.entries ≡ [] = ap (λ (t : Table). t.entries) c.new-3.ensures in
    let records : g.K.Keeper.records c.start.new.keeper ≡ view_record view ∷ [] =
    c.in_default.ensures.started.1 ∙ ap (λ (rs : List (List ℕ)). rs ++ view_record view ∷ []) c.requires.empty
    in
    let known : IsVersion view.version = (omega (arith, c.requires.first), omega (arith, c.requires.first)) in
    let sound : IsSound view [] 0 0 [] = record {
      numbered = tt;
      first = omega (arith, c.requires.first);
      last = known.1;
      fits = omega arith;
      positions = tt;
      logged = c.requires.logged;
      versions = tt;
    } in (
      subst (λ (es : List Retained). IsSound view c.new.result.items 0 (vec_len c.new-2.result) es) (sym table)
          (subst2 (λ (vs : List View) (n : ℕ). IsSound view vs 0 n []) (sym c.new.ensures.items) (sym c.new-2.ensures.len) sound),
      tt,
      subst2 IsOnRecord (sym records)
          (λ i. record { newest = Some view; begun = true; mark = 0; entries = sym c.new-2.ensures.items i; time = 0; state = None; table = sym table i })
          (fresh_on_record c.records_are_read_again.ensures view (c.in_default.ensures.writable known c.requires.logged)),
    )
