use Rattle.std.proofs.Common.{◌≡◌, ◌+◌, inl, List, ℕ, [], ◌∷◌, ◌++◌, length, refl, sym, subst, arith, length-append}
use Rattle.disk_log.specs.Image.{rest, stepped, HoldsOneOf}
use Rattle.disk_log.specs.Standing.{Begins, Gated, front_of, Calm, Stands}
use Rattle.disk_log.specs.Disk.{Each}
use Rattle.disk_log.proofs.Moments.{joins, weakens}
use Rattle.disk_log.proofs.Holding.{holds_begun, gated_among, calm_still, more_lists, stands_more, staged_gated, doubted, marked_calm}
use Rattle.disk_log.proofs.writing.mark_record.Goals as goal

-- the mark's place, as the front's length
length_front : (front : List ℕ) (gate end : ℕ) → end ≡ length front → length (front ++ gate ∷ []) ≡ end + 1
length_front front gate end e = omega (arith, e, length-append front (gate ∷ []))

pub returns-in-Failed-clause-marked : goal.returns-in-Failed-clause-marked
returns-in-Failed-clause-marked g c = λ records failed step stands may is.
    let new = stepped records step in
    let run = c.in-Failed.ensures.closed records failed stands in (
      weakens g.D.Disk.moment g.D.Disk.since c.args.disk.now c.close_again.new.disk (HoldsOneOf (records ∷ failed)) (HoldsOneOf (records ∷ new ∷ failed)) (more_lists records new failed) run.0,
      stands_more c.close_again.new.doubt (g.D.Disk.images c.close_again.new.disk) c.args.end records new failed run.1,
    )

pub returns-in-Failed-write_rest-clause-marked : goal.returns-in-Failed-write_rest-clause-marked
returns-in-Failed-write_rest-clause-marked g c = λ records failed step stands may is.
    let new = stepped records step in
    let first = c.in-Done.ensures.closed records failed stands in
    let calm : Calm (g.D.Disk.images c.close_again.new.disk) c.args.end records = first.1.1 in
    let front = front_of calm.steps ++ calm.gate ∷ [] in
    let second = c.write_rest.ensures.keeps front (length_front (front_of calm.steps) calm.gate c.args.end calm.ends) calm.each in
    let after = calm_still (g.D.Disk.images c.close_again.new.disk) (g.D.Disk.images c.write_rest.new.disk) c.args.end records calm second.0 in (
      joins g.D.Disk.moment g.D.Disk.since c.args.disk.now c.close_again.new.disk c.write_rest.new.disk (HoldsOneOf (records ∷ new ∷ failed))
          (weakens g.D.Disk.moment g.D.Disk.since c.args.disk.now c.close_again.new.disk (HoldsOneOf (records ∷ failed)) (HoldsOneOf (records ∷ new ∷ failed)) (more_lists records new failed) first.0)
          (weakens g.D.Disk.moment g.D.Disk.since c.close_again.new.disk c.write_rest.new.disk (Begins front) (HoldsOneOf (records ∷ new ∷ failed)) (λ d b. inl (holds_begun records calm.steps calm.gate d calm.leads calm.shut b)) second.1),
      subst (λ b. Stands b (g.D.Disk.images c.write_rest.new.disk) c.args.end records (new ∷ failed)) (sym first.1.0) after,
    )

pub returns-in-Failed-set_mark-clause-marked : goal.returns-in-Failed-set_mark-clause-marked
returns-in-Failed-set_mark-clause-marked g c = λ records failed step stands may is.
    let new = stepped records step in
    let first = c.in-Done.ensures.closed records failed stands in
    let calm : Calm (g.D.Disk.images c.close_again.new.disk) c.args.end records = first.1.1 in
    let front = front_of calm.steps ++ calm.gate ∷ [] in
    let e = length_front (front_of calm.steps) calm.gate c.args.end calm.ends in
    let second = c.write_rest.ensures.keeps front e calm.each in
    let staged : Each (g.D.Disk.images c.write_rest.new.disk) (Gated (front_of calm.steps) (rest step ++ 0 ∷ [])) = λ d now.
    staged_gated calm.steps step calm.gate c.args.head.now c.args.content.now d is (c.in-Done-write_rest.ensures.written front e (λ r given. calm.each r (g.met.D.Disk.gives_now c.close_again.new.disk r given)) d now) in
    let third = c.set_mark.ensures.keeps (front_of calm.steps) (rest step ++ 0 ∷ []) (sym calm.ends) staged in (
      joins g.D.Disk.moment g.D.Disk.since c.args.disk.now c.close_again.new.disk c.set_mark.new.disk (HoldsOneOf (records ∷ new ∷ failed))
          (weakens g.D.Disk.moment g.D.Disk.since c.args.disk.now c.close_again.new.disk (HoldsOneOf (records ∷ failed)) (HoldsOneOf (records ∷ new ∷ failed)) (more_lists records new failed) first.0)
          (joins g.D.Disk.moment g.D.Disk.since c.close_again.new.disk c.write_rest.new.disk c.set_mark.new.disk (HoldsOneOf (records ∷ new ∷ failed))
          (weakens g.D.Disk.moment g.D.Disk.since c.close_again.new.disk c.write_rest.new.disk (Begins front) (HoldsOneOf (records ∷ new ∷ failed)) (λ d b. inl (holds_begun records calm.steps calm.gate d calm.leads calm.shut b)) second.1)
          (weakens g.D.Disk.moment g.D.Disk.since c.write_rest.new.disk c.set_mark.new.disk (Gated (front_of calm.steps) (rest step ++ 0 ∷ [])) (HoldsOneOf (records ∷ new ∷ failed)) (gated_among records (new ∷ failed) calm.steps step calm.leads may (inl refl)) third.1)),
      doubted (g.D.Disk.images c.set_mark.new.disk) c.args.end records failed calm.steps step calm.leads may calm.ends third.0,
    )

pub returns-in-Done-set_mark-clause-marked : goal.returns-in-Done-set_mark-clause-marked
returns-in-Done-set_mark-clause-marked g c = λ records failed step stands may is.
    let new = stepped records step in
    let first = c.in-Done.ensures.closed records failed stands in
    let calm : Calm (g.D.Disk.images c.close_again.new.disk) c.args.end records = first.1.1 in
    let front = front_of calm.steps ++ calm.gate ∷ [] in
    let e = length_front (front_of calm.steps) calm.gate c.args.end calm.ends in
    let second = c.write_rest.ensures.keeps front e calm.each in
    let staged : Each (g.D.Disk.images c.write_rest.new.disk) (Gated (front_of calm.steps) (rest step ++ 0 ∷ [])) = λ d now.
    staged_gated calm.steps step calm.gate c.args.head.now c.args.content.now d is (c.in-Done-write_rest.ensures.written front e (λ r given. calm.each r (g.met.D.Disk.gives_now c.close_again.new.disk r given)) d now) in
    let third = c.set_mark.ensures.keeps (front_of calm.steps) (rest step ++ 0 ∷ []) (sym calm.ends) staged in
    let marked = c.in-Done-set_mark.ensures.written (front_of calm.steps) (rest step ++ 0 ∷ []) (sym calm.ends) staged in
    let end = c.args.end + 1 + length c.args.head.now + length c.args.content.now in (
      joins g.D.Disk.moment g.D.Disk.since c.args.disk.now c.close_again.new.disk c.set_mark.new.disk (HoldsOneOf (records ∷ new ∷ failed))
          (weakens g.D.Disk.moment g.D.Disk.since c.args.disk.now c.close_again.new.disk (HoldsOneOf (records ∷ failed)) (HoldsOneOf (records ∷ new ∷ failed)) (more_lists records new failed) first.0)
          (joins g.D.Disk.moment g.D.Disk.since c.close_again.new.disk c.write_rest.new.disk c.set_mark.new.disk (HoldsOneOf (records ∷ new ∷ failed))
          (weakens g.D.Disk.moment g.D.Disk.since c.close_again.new.disk c.write_rest.new.disk (Begins front) (HoldsOneOf (records ∷ new ∷ failed)) (λ d b. inl (holds_begun records calm.steps calm.gate d calm.leads calm.shut b)) second.1)
          (weakens g.D.Disk.moment g.D.Disk.since c.write_rest.new.disk c.set_mark.new.disk (Gated (front_of calm.steps) (rest step ++ 0 ∷ [])) (HoldsOneOf (records ∷ new ∷ failed)) (gated_among records (new ∷ failed) calm.steps step calm.leads may (inl refl)) third.1)),
      subst (λ b. Stands b (g.D.Disk.images c.set_mark.new.disk) end new []) (sym first.1.0)
          (marked_calm (g.D.Disk.images c.set_mark.new.disk) c.args.end records calm.steps step c.args.head.now c.args.content.now calm.leads may is calm.ends marked),
    )
