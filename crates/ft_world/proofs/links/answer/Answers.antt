use Rattle.std.proofs.Common.{ℕ, None, Some, ap}
use Rattle.ft_world.specs.Passes.{lines_at, pass_at}
use Rattle.ft_world.proofs.PortLemmas.{step_same, step_short_same, step_taken, step_within, taken_kept}
use Rattle.ft_world.proofs.links.answer.Goals as goal

pub returns-in-Ok-Write : goal.returns-in-Ok-Write
returns-in-Ok-Write g c =
    let p = c.args.pass.now in
    let q = c.step.new.pass in
    let same = step_same {N = ℕ × ℕ} p q (λ x. pass_at x.world.now x.steps.now x.short) (λ x. lines_at x.printed.now.lines x.printed.now.orders) (λ x. (x.world.ghost_name, x.steps.ghost_name)) (λ x. x.printed.ghost_name)
    c.args.host.0 c.args.received c.in-Ok-Write.field-0 c.in-Ok-Write.ensures.stepped in
    let taken = step_taken {N = ℕ × ℕ} p q (λ x. pass_at x.world.now x.steps.now x.short) (λ x. lines_at x.printed.now.lines x.printed.now.orders) (λ x. (x.world.ghost_name, x.steps.ghost_name)) (λ x. x.printed.ghost_name)
    c.args.host.0 c.args.received c.in-Ok-Write.field-0 (Some c.in-Ok-Write.bytes) c.in-Ok-Write.field-0-is c.requires.ready.whole c.requires.ready.up c.in-Ok-Write.ensures.stepped in
    record {
      same_world = ap (λ (n : ℕ × ℕ). n.0) same.0;
      same_steps = ap (λ (n : ℕ × ℕ). n.1) same.0;
      same_printed = same.1;
      kept = taken_kept c.args.host.0 c.args.received (pass_at p.world.now p.steps.now p.short) (pass_at q.world.now q.steps.now q.short)
          (lines_at p.printed.now.lines p.printed.now.orders) (lines_at q.printed.now.lines q.printed.now.orders) (Some c.in-Ok-Write.bytes) taken c.step.ensures.fits;
      taken = taken;
      short = tt;
    }

pub returns-in-Ok-Silent : goal.returns-in-Ok-Silent
returns-in-Ok-Silent g c =
    let p = c.args.pass.now in
    let q = c.step.new.pass in
    let same = step_same {N = ℕ × ℕ} p q (λ x. pass_at x.world.now x.steps.now x.short) (λ x. lines_at x.printed.now.lines x.printed.now.orders) (λ x. (x.world.ghost_name, x.steps.ghost_name)) (λ x. x.printed.ghost_name)
    c.args.host.0 c.args.received c.in-Ok-Silent.field-0 c.in-Ok-Silent.ensures.stepped in
    let taken = step_taken {N = ℕ × ℕ} p q (λ x. pass_at x.world.now x.steps.now x.short) (λ x. lines_at x.printed.now.lines x.printed.now.orders) (λ x. (x.world.ghost_name, x.steps.ghost_name)) (λ x. x.printed.ghost_name)
    c.args.host.0 c.args.received c.in-Ok-Silent.field-0 None c.in-Ok-Silent.field-0-is c.requires.ready.whole c.requires.ready.up c.in-Ok-Silent.ensures.stepped in
    record {
      same_world = ap (λ (n : ℕ × ℕ). n.0) same.0;
      same_steps = ap (λ (n : ℕ × ℕ). n.1) same.0;
      same_printed = same.1;
      kept = taken_kept c.args.host.0 c.args.received (pass_at p.world.now p.steps.now p.short) (pass_at q.world.now q.steps.now q.short)
          (lines_at p.printed.now.lines p.printed.now.orders) (lines_at q.printed.now.lines q.printed.now.orders) None taken c.step.ensures.fits;
      taken = taken;
      short = tt;
    }

pub returns : goal.returns
returns g c =
    let p = c.args.pass.now in
    let q = c.step.new.pass in
    let same = step_short_same {N = ℕ × ℕ} p q (λ x. pass_at x.world.now x.steps.now x.short) (λ x. lines_at x.printed.now.lines x.printed.now.orders) (λ x. (x.world.ghost_name, x.steps.ghost_name)) (λ x. x.printed.ghost_name)
    c.args.host.0 c.args.received c.in-Err.ensures.short in
    record {
      same_world = ap (λ (n : ℕ × ℕ). n.0) same.0;
      same_steps = ap (λ (n : ℕ × ℕ). n.1) same.0;
      same_printed = same.1;
      kept = tt;
      taken = tt;
      short = step_within {N = ℕ × ℕ} p q (λ x. pass_at x.world.now x.steps.now x.short) (λ x. lines_at x.printed.now.lines x.printed.now.orders) (λ x. (x.world.ghost_name, x.steps.ghost_name)) (λ x. x.printed.ghost_name)
          c.args.host.0 c.args.received p.printed.now.lines c.in-Err.ensures.short;
    }
