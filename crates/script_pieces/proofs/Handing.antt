-- What was fed, with its output handed on behind it.
use Rattle.std.proofs.Common.{◌≡◌, ℕ, List, [], Option, sym, ap, ◌∙◌, subst, inl, inr, arith}
use Rattle.ft_outside.specs.Outside.{next_count}
use Rattle.script_pieces.specs.Runs.{Rules, RunEffect}
use Rattle.script_pieces.specs.Feeds.{Point, PartEffect, Trace, trace, part_of, run_from, Leads, Refuses, Begins, IsFed, IsDone, IfOn, IsUnbroken, IsHandedOn}
use Rattle.script_pieces.specs.declared.feeding.FeedResult.{FeedResult}
use Rattle.script_pieces.specs.declared.feeding.FeedResult.TheVariants as feds
use Rattle.script_pieces.proofs.Resumes.{append_none}

begins_led : {World Why : Type 0} (rules : Rules World Why) (from to : Point World) (a : PartEffect) → Leads rules from a to → Begins rules from a
begins_led {World} {Why} rules from to a l = record {
  on = λ more. (
    ((run_from rules to more).out, ap (λ (r : RunEffect Why). r.out) (l.on more)),
    omega (arith, ap (λ (r : RunEffect Why). r.calls) (l.on more)),
  );
}

begins_refused : {World Why : Type 0} (rules : Rules World Why) (from : Point World) (a : PartEffect) (number : ℕ) (why : Why)
    → Refuses rules from a number why → Begins rules from a
begins_refused {World} {Why} rules from a number why l = record {
  on = λ more. (
    ([], ap (λ (r : RunEffect Why). r.out) (l.on more) ∙ sym (append_none a.out)),
    omega (arith, ap (λ (r : RunEffect Why). r.calls) (l.on more)),
  );
}

same_trace : (h h' : Option (List ℕ)) (f f' s : ℕ) → h' ≡ h → f' ≡ f → trace h' f' s ≡ trace h f s
same_trace h h' f f' s e k = ap (λ (o : Option (List ℕ)). trace o f' s) e ∙ ap (λ (n : ℕ). trace h n s) k

-- a flush that failed behind what was fed
fed_unflushed : {World Why : Type 0} (rules : Rules World Why) (from to : Point World) (before : Trace) (h h' : Option (List ℕ)) (f f' s : ℕ) (fed : FeedResult Why)
    → IsFed rules from before to (trace h f s) fed → IsUnbroken fed → h' ≡ h → f' ≡ next_count f
    → IsFed rules from before to (trace h' f' s) feds.WriteFailed
fed_unflushed rules from to before h h' f f' s feds.On a u e k =
    (a.0, begins_led rules from to a.0 a.1, (e ∙ a.2.0, k ∙ ap next_count a.2.1, a.2.2))
fed_unflushed rules from to before h h' f f' s (feds.Refused number why) a u e k =
    (a.0, begins_refused rules from a.0 number why a.1, (e ∙ a.2.0, k ∙ ap next_count a.2.1, a.2.2))
fed_unflushed rules from to before h h' f f' s feds.WriteFailed a u e k = absurd u
fed_unflushed rules from to before h h' f f' s feds.NoMemory a u e k = absurd u

pub fed_handed : {World Why : Type 0} (rules : Rules World Why) (from to : Point World) (before : Trace) (h h' : Option (List ℕ)) (f f' s : ℕ) (fed result : FeedResult Why)
    → IsFed rules from before to (trace h f s) fed → IsHandedOn fed h h' f f' result
    → IsFed rules from before to (trace h' f' s) result
fed_handed {World} {Why} rules from to before h h' f f' s fed result a (inl x) =
    subst (λ (r : FeedResult Why). IsFed rules from before to (trace h' f' s) r) (sym x.0)
    (subst (λ (t : Trace). IsFed rules from before to t fed) (sym (same_trace h h' f f' s x.1 x.2)) a)
fed_handed {World} {Why} rules from to before h h' f f' s fed result a (inr x) =
    subst (λ (r : FeedResult Why). IsFed rules from before to (trace h' f' s) r) (sym x.1)
    (fed_unflushed rules from to before h h' f f' s fed a x.0 x.2 x.3)

-- a fact where it went on
pub on_handed : {Why : Type 0} (P : Type 0) (h h' : Option (List ℕ)) (f f' : ℕ) (fed result : FeedResult Why)
    → IfOn fed P → IsHandedOn fed h h' f f' result → IfOn result P
on_handed {Why} P h h' f f' fed result a (inl x) = subst (λ (r : FeedResult Why). IfOn r P) (sym x.0) a
on_handed {Why} P h h' f f' fed result a (inr x) = subst (λ (r : FeedResult Why). IfOn r P) (sym x.1) tt

-- a flush that failed at the end
done_unflushed : {Why : Type 0} (run : RunEffect Why) (before : Trace) (h h' : Option (List ℕ)) (f f' s : ℕ) (fed : FeedResult Why)
    → IsDone run before (trace h f s) fed → IsUnbroken fed → h' ≡ h → f' ≡ next_count f
    → IsDone run before (trace h' f' s) feds.WriteFailed
done_unflushed run before h h' f f' s feds.On a u e k =
    (part_of run, (([], sym (append_none run.out)), omega arith), (e ∙ a.1.0, k ∙ ap next_count a.1.1, a.1.2))
done_unflushed run before h h' f f' s (feds.Refused number why) a u e k =
    (part_of run, (([], sym (append_none run.out)), omega arith), (e ∙ a.1.0, k ∙ ap next_count a.1.1, a.1.2))
done_unflushed run before h h' f f' s feds.WriteFailed a u e k = absurd u
done_unflushed run before h h' f f' s feds.NoMemory a u e k = absurd u

pub done_handed : {Why : Type 0} (run : RunEffect Why) (before : Trace) (h h' : Option (List ℕ)) (f f' s : ℕ) (fed result : FeedResult Why)
    → IsDone run before (trace h f s) fed → IsHandedOn fed h h' f f' result
    → IsDone run before (trace h' f' s) result
done_handed {Why} run before h h' f f' s fed result a (inl x) =
    subst (λ (r : FeedResult Why). IsDone run before (trace h' f' s) r) (sym x.0)
    (subst (λ (t : Trace). IsDone run before t fed) (sym (same_trace h h' f f' s x.1 x.2)) a)
done_handed {Why} run before h h' f f' s fed result a (inr x) =
    subst (λ (r : FeedResult Why). IsDone run before (trace h' f' s) r) (sym x.1)
    (done_unflushed run before h h' f f' s fed a x.0 x.2 x.3)
