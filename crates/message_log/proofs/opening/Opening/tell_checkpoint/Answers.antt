use Rattle.std.proofs.Common.{◌≡◌, ℕ, ◌+◌, ◌<◌, refl, subst, arith}
use Rattle.std.specs.Prelude.{vec_len}
use Rattle.std.specs.List.{AllByRecursion}
use Rattle.reply_table.specs.declared.entries.Retained.{Retained}
use Rattle.message_log.specs.Retaining.{AreRetained}
use Rattle.message_log.proofs.TableLaws.{recorded_whole}
use Rattle.message_log.proofs.opening.Opening.tell_checkpoint.Goals as goal

pub invariant_of-self : goal.invariant_of-self
invariant_of-self c =
    let mark = c.args.checkpoint.mark in
    let rows = c.in_ok-table.table.entries in
    let made = c.in_ok-table.ensures in
    let end : mark ≡ mark + vec_len c.clear.new.self = omega (arith, c.clear.ensures.len) in
    record {
      view = c.self.invariant.view;
      started = λ there. refl;
      fits = omega (arith, c.requires.mark, c.clear.ensures.len);
      positions = subst (λ (n : ℕ). AllByRecursion (λ (e : Retained). e.position < n) rows) end made.positions;
      versions = made.versions;
      retained = subst (λ (n : ℕ). AreRetained n rows) end made.retained;
      whole = recorded_whole mark rows made.retained;
    }
