use Rattle.std.proofs.Common.{rules, ◌≡◌, true, false, [], ◌∷◌, ◌++◌, refl, sym, subst}
use Rattle.disk_log.specs.Image.{rest, HoldsOneOf}
use Rattle.disk_log.specs.Standing.{Gated, front_of, Doubtful, Stands}
use Rattle.disk_log.proofs.Moments.{stays, weakens}
use Rattle.disk_log.proofs.Holding.{stands_holds, gated_among, still, closed_again}
use Rattle.disk_log.proofs.writing.close_again.Goals as goal

pub returns-then-not-doubt-clause-closed : goal.returns-then-not-doubt-clause-closed
returns-then-not-doubt-clause-closed g c = λ records failed stands.
    let old = c.args.disk.now in
    let e : c.args.doubt.now ≡ false = search rules in (
      stays g.D.Disk.moment g.D.Disk.since old (HoldsOneOf (records ∷ failed)) (g.D.Disk.images old) (λ d since. g.met.D.Disk.only_now old d since) (stands_holds c.args.doubt.now (g.D.Disk.images old) c.args.end records failed stands),
      (e, subst (λ b. Stands b (g.D.Disk.images old) c.args.end records failed) e stands),
    )

pub returns-in-Failed-clause-closed : goal.returns-in-Failed-clause-closed
returns-in-Failed-clause-closed g c = λ records failed stands.
    let old = c.args.disk.now in
    let new = c.set_mark.new.disk in
    let e : c.args.doubt.now ≡ true = search rules in
    let d : Doubtful (g.D.Disk.images old) c.args.end records failed = subst (λ b. Stands b (g.D.Disk.images old) c.args.end records failed) e stands in
    let kept = c.set_mark.ensures.keeps (front_of d.steps) (rest d.step ++ 0 ∷ []) (sym d.ends) d.each in (
      weakens g.D.Disk.moment g.D.Disk.since old new (Gated (front_of d.steps) (rest d.step ++ 0 ∷ [])) (HoldsOneOf (records ∷ failed)) (gated_among records failed d.steps d.step d.leads d.may d.among) kept.1,
      subst (λ b. Stands b (g.D.Disk.images new) c.args.end records failed) (sym e) (still (g.D.Disk.images old) (g.D.Disk.images new) c.args.end records failed d kept.0),
    )

pub returns-in-Done-clause-closed : goal.returns-in-Done-clause-closed
returns-in-Done-clause-closed g c = λ records failed stands.
    let old = c.args.disk.now in
    let new = c.set_mark.new.disk in
    let e : c.args.doubt.now ≡ true = search rules in
    let d : Doubtful (g.D.Disk.images old) c.args.end records failed = subst (λ b. Stands b (g.D.Disk.images old) c.args.end records failed) e stands in
    let kept = c.set_mark.ensures.keeps (front_of d.steps) (rest d.step ++ 0 ∷ []) (sym d.ends) d.each in
    let shut = c.in-Done.ensures.written (front_of d.steps) (rest d.step ++ 0 ∷ []) (sym d.ends) d.each in (
      weakens g.D.Disk.moment g.D.Disk.since old new (Gated (front_of d.steps) (rest d.step ++ 0 ∷ [])) (HoldsOneOf (records ∷ failed)) (gated_among records failed d.steps d.step d.leads d.may d.among) kept.1,
      (refl, closed_again (g.D.Disk.images old) (g.D.Disk.images new) c.args.end records failed d shut),
    )
