-- The end of a run of a script, from what its pieces did.
use Rattle.std.proofs.Common.{◌≡◌, ℕ, ◌-◌, ◌≤◌, List, [], ◌++◌, length, take, Option, Some, None, option_map, refl, sym, ap, ◌∙◌, subst, inl, inr, arith, append_assoc, length-append}
use Rattle.std.specs.Prelude.{IfSome}
use Rattle.std.proofs.Math.Seq.{take-append_seam}
use Rattle.ft_outside.specs.Outside.{next_count, IsRead}
use Rattle.ft_outside.specs.declared.sources.Got.TheVariants as gots
use Rattle.script_pieces.specs.Runs.{Rules, RunEffect, script_limit, lines_of, behind, run, whole_run}
use Rattle.script_pieces.specs.Feeds.{Place, Point, PartEffect, Trace, start, point, part, part_of, resume, run_from, Leads, IsFront, IsFed, IsDone}
use Rattle.script_pieces.specs.Scripts.{WasRead, Outside, outside, IsAtEnd, IsSettled, IsEnded, IsOver, bytes_read}
use Rattle.script_pieces.specs.declared.feeding.FeedResult.{FeedResult}
use Rattle.script_pieces.specs.declared.feeding.FeedResult.TheVariants as feds
use Rattle.script_pieces.specs.declared.running.RunEnd.{RunEnd}
use Rattle.script_pieces.specs.declared.running.RunEnd.TheVariants as ends
use Rattle.script_pieces.proofs.Counts.{ends_more}
use Rattle.script_pieces.proofs.Wholes.{settled}
use Rattle.script_pieces.proofs.Resumes.{resume_fresh, append_none}
use Rattle.script_pieces.proofs.Feedings.{joined, fed_on, fed_none, added_more, within_more, faulted_more, gained_none, added_as, front_behind}

-- a piece after what went on so far
pub fed_next : {World Why : Type 0} (rules : Rules World Why) (w0 w w' : World) (p p' : Place) (bytes piece : List ℕ)
    (before mid after : Trace) (fed : FeedResult Why)
    → IsFed rules (point w0 start bytes) before (point w p []) mid feds.On → IsFed rules (point w p piece) mid (point w' p' []) after fed
    → IsFed rules (point w0 start (bytes ++ piece)) before (point w' p' []) after fed
fed_next {World} {Why} rules w0 w w' p p' bytes piece before mid after fed a b =
    let longer : IsFed rules (point w0 start (bytes ++ piece)) before (point w p piece) mid feds.On = (
      a.0,
      record { on = λ more. ap (λ (xs : List ℕ). resume rules w0 start (lines_of xs)) (append_assoc bytes piece more) ∙ a.1.on (piece ++ more) },
      a.2,
      (omega (arith, a.3.0, length-append bytes piece), omega (arith, a.3.1, ends_more bytes piece)),
    ) in
    fed_on rules (point w0 start (bytes ++ piece)) w w' p p' piece piece [] before mid after fed longer (sym (append_none piece)) b

-- the whole run of the bytes, as what comes from the start
run_is : {World Why : Type 0} (rules : Rules World Why) (w : World) (bytes : List ℕ)
    → run rules w bytes ≡ run_from rules (point w start bytes) []
run_is rules w bytes = sym (resume_fresh rules w 1 0 (lines_of bytes)) ∙ ap (λ (xs : List ℕ). resume rules w start (lines_of xs)) (sym (append_none bytes))

pub run_more : {World Why : Type 0} (rules : Rules World Why) (w : World) (q : Point World) (bytes : List ℕ) (a : PartEffect) (more : List ℕ)
    → Leads rules (point w start bytes) a q
    → run rules w (bytes ++ more) ≡ behind a.out a.calls (run_from rules q more)
run_more rules w q bytes a more l = sym (resume_fresh rules w 1 0 (lines_of (bytes ++ more))) ∙ l.on more

-- a run that stopped in a piece
pub done_refused : {World Why : Type 0} (rules : Rules World Why) (w : World) (q : Point World) (bytes : List ℕ) (before after : Trace) (number : ℕ) (why : Why)
    → IsFed rules (point w start bytes) before q after (feds.Refused number why)
    → IsDone (run rules w bytes) before after (feds.Refused number why)
done_refused {World} {Why} rules w q bytes before after number why a =
    let e = run_is rules w bytes ∙ a.1.on [] in (
      ap (λ (r : RunEffect Why). r.refused) e,
      added_as before after a.0 (part_of (run rules w bytes))
          (sym (ap (λ (r : RunEffect Why). r.out) e)) (sym (ap (λ (r : RunEffect Why). r.calls) e)) a.2,
    )

pub done_unwritten : {World Why : Type 0} (rules : Rules World Why) (w : World) (q : Point World) (bytes : List ℕ) (before after : Trace)
    → IsFed rules (point w start bytes) before q after feds.WriteFailed
    → IsDone (run rules w bytes) before after feds.WriteFailed
done_unwritten {World} {Why} rules w q bytes before after a =
    (a.0, subst (λ (r : RunEffect Why). IsFront a.0 r) (sym (run_is rules w bytes)) (a.1.on []), a.2)

pub done_starved : {World Why : Type 0} (rules : Rules World Why) (w : World) (q : Point World) (bytes : List ℕ) (before after : Trace)
    → IsFed rules (point w start bytes) before q after feds.NoMemory
    → IsDone (run rules w bytes) before after feds.NoMemory
done_starved {World} {Why} rules w q bytes before after a =
    (a.0, subst (λ (r : RunEffect Why). IsFront a.0 r) (sym (run_is rules w bytes)) (a.1.on []), a.2)

-- the last line after the pieces
pub done_finish : {World Why : Type 0} (rules : Rules World Why) (w w' : World) (q : Place) (bytes : List ℕ) (before mid after : Trace) (fed : FeedResult Why)
    → IsFed rules (point w start bytes) before (point w' q []) mid feds.On → IsDone (resume rules w' q []) mid after fed
    → IsDone (run rules w bytes) before after fed
done_finish {World} {Why} rules w w' q bytes before mid after feds.On a b =
    let last : RunEffect Why = resume rules w' q [] in
    let e : run rules w bytes ≡ behind a.0.out a.0.calls last = run_is rules w bytes ∙ a.1.on [] in (
      ap (λ (r : RunEffect Why). r.refused) e ∙ b.0,
      added_as before after (joined a.0 (part_of last)) (part_of (run rules w bytes))
          (sym (ap (λ (r : RunEffect Why). r.out) e)) (sym (ap (λ (r : RunEffect Why). r.calls) e))
          (added_more before mid after a.0 (part_of last) a.2 b.1),
    )
done_finish {World} {Why} rules w w' q bytes before mid after (feds.Refused number why) a b =
    let last : RunEffect Why = resume rules w' q [] in
    let e : run rules w bytes ≡ behind a.0.out a.0.calls last = run_is rules w bytes ∙ a.1.on [] in (
      ap (λ (r : RunEffect Why). r.refused) e ∙ b.0,
      added_as before after (joined a.0 (part_of last)) (part_of (run rules w bytes))
          (sym (ap (λ (r : RunEffect Why). r.out) e)) (sym (ap (λ (r : RunEffect Why). r.calls) e))
          (added_more before mid after a.0 (part_of last) a.2 b.1),
    )
done_finish {World} {Why} rules w w' q bytes before mid after feds.WriteFailed a b = (
  joined a.0 b.0,
  front_behind a.0 b.0 (resume rules w' q []) (run rules w bytes) (run_is rules w bytes ∙ a.1.on []) b.1,
  faulted_more before mid after a.0 b.0 a.2 b.2,
)
done_finish {World} {Why} rules w w' q bytes before mid after feds.NoMemory a b = (
  joined a.0 b.0,
  front_behind a.0 b.0 (resume rules w' q []) (run rules w bytes) (run_is rules w bytes ∙ a.1.on []) b.1,
  within_more before mid after a.0 b.0 a.2 b.2,
)

read_twice : (left : Option (List ℕ)) (bytes piece : List ℕ)
    → option_map (λ rest. bytes ++ rest) (option_map (λ rest. piece ++ rest) left) ≡ option_map (λ rest. (bytes ++ piece) ++ rest) left
read_twice None bytes piece = refl
read_twice (Some rest) bytes piece = ap (λ (xs : List ℕ). Some xs) (sym (append_assoc bytes piece rest))

pub read_more : (a b c : Option (List ℕ)) (bytes piece : List ℕ) → WasRead a b bytes → WasRead b c piece → WasRead a c (bytes ++ piece)
read_more a b c bytes piece x y = x ∙ ap (λ (o : Option (List ℕ)). option_map (λ rest. bytes ++ rest) o) y ∙ read_twice c bytes piece

pub read_none : (a : Option (List ℕ)) → WasRead a a []
read_none None = refl
read_none (Some xs) = refl

-- what a run did so far
abbrev pub SoFar : {World Why : Type 0} → Rules World Why → World → Outside → World → Place → Outside → Type 0
SoFar rules w0 old w p now =
    (bytes : List ℕ) × WasRead old.left now.left bytes × IsFed rules (point w0 start bytes) old.trace (point w p []) now.trace feds.On
    × (now.faults ≡ old.faults)

pub so_none : {World Why : Type 0} (rules : Rules World Why) (w : World) (p : Place) (now : Outside) → p ≡ start → SoFar rules w now w p now
so_none rules w p now e =
    let P : Place → Type 0 = λ x. SoFar rules w now w x now in
    subst P (sym e) ([], read_none now.left, fed_none rules (point w start []) now.trace, refl)

pub so_more : {World Why : Type 0} (rules : Rules World Why) (w0 w w' : World) (p p' : Place) (old now : Outside) (left : Option (List ℕ)) (faults n : ℕ) (after : Trace) (into piece : List ℕ)
    → SoFar rules w0 old w p now → IsRead now.left left now.faults faults into (gots.Bytes n) → piece ≡ take n into
    → IsFed rules (point w p piece) now.trace (point w' p' []) after feds.On
    → SoFar rules w0 old w' p' (outside left faults after)
so_more rules w0 w w' p p' old now left faults n after into piece a read same fed = (
  a.0 ++ piece,
  read_more old.left now.left left a.0 piece a.1 (subst (λ (xs : List ℕ). WasRead now.left left xs) (sym same) read.2),
  fed_next rules w0 w w' p p' a.0 piece old.trace now.trace after feds.On a.2 fed,
  read.3 ∙ a.3,
)

pub over_failed : {World Why : Type 0} (rules : Rules World Why) (w0 w : World) (p : Place) (old now : Outside) (left : Option (List ℕ)) (faults : ℕ) (into : List ℕ)
    → SoFar rules w0 old w p now → IsRead now.left left now.faults faults into gots.Failed → p.read ≤ script_limit
    → IsOver rules w0 old (outside left faults now.trace) ends.ReadFailed
over_failed rules w0 w p old now left faults into a read fits =
    let whole = settled rules w0 (point w p []) a.0 a.2.0 a.2.1 refl a.2.3 fits in
    let run_on = λ (more : List ℕ). run_more rules w0 (point w p []) a.0 a.2.0 more a.2.1 in (
      a.0,
      subst (λ (x : Option (List ℕ)). WasRead old.left x a.0) (sym read.0) a.1,
      (
        record {
          added = added_as old.trace now.trace a.2.0 (part_of (whole_run rules w0 a.0)) whole.out whole.calls a.2.2;
          unrefused = whole.unrefused;
          next = point w p [];
          goes_on = λ more. run_on more
              ∙ ap (λ (xs : List ℕ). behind xs a.2.0.calls (run_from rules (point w p []) more)) whole.out
              ∙ ap (λ (n : ℕ). behind (whole_run rules w0 a.0).out n (run_from rules (point w p []) more)) whole.calls;
        },
        read.1 ∙ ap next_count a.3,
      ),
    )

-- the answer of the last call, as the run's
abbrev pub ended_of : {Why : Type 0} → FeedResult Why → RunEnd Why
ended_of feds.On = ends.Done
ended_of (feds.Refused number why) = ends.Refused number why
ended_of feds.WriteFailed = ends.WriteFailed
ended_of feds.NoMemory = ends.NoMemory

pub over_end : {World Why : Type 0} (rules : Rules World Why) (w0 w : World) (p : Place) (old now : Outside) (left : Option (List ℕ)) (faults : ℕ) (after : Trace) (into : List ℕ) (fed : FeedResult Why)
    → SoFar rules w0 old w p now → IsRead now.left left now.faults faults into gots.End
    → IsDone (resume rules w p []) now.trace after fed
    → IsOver rules w0 old (outside left faults after) (ended_of fed)
over_end rules w0 w p old now left faults after into feds.On a read done = (
  a.0,
  subst (λ (x : Option (List ℕ)). WasRead old.left x a.0) (sym read.0) a.1,
  (
    done_finish rules w0 w p a.0 old.trace now.trace after feds.On a.2 done,
    read.2 ∙ a.3,
    subst (λ (x : Option (List ℕ)). IsAtEnd x) (sym read.0) read.1,
  ),
)
over_end rules w0 w p old now left faults after into (feds.Refused number why) a read done = (
  a.0,
  subst (λ (x : Option (List ℕ)). WasRead old.left x a.0) (sym read.0) a.1,
  (
    done_finish rules w0 w p a.0 old.trace now.trace after (feds.Refused number why) a.2 done,
    read.2 ∙ a.3,
    inr (subst (λ (x : Option (List ℕ)). IsAtEnd x) (sym read.0) read.1),
  ),
)
over_end rules w0 w p old now left faults after into feds.WriteFailed a read done = (
  a.0,
  subst (λ (x : Option (List ℕ)). WasRead old.left x a.0) (sym read.0) a.1,
  (done_finish rules w0 w p a.0 old.trace now.trace after feds.WriteFailed a.2 done, read.2 ∙ a.3),
)
over_end rules w0 w p old now left faults after into feds.NoMemory a read done = (
  a.0,
  subst (λ (x : Option (List ℕ)). WasRead old.left x a.0) (sym read.0) a.1,
  (done_finish rules w0 w p a.0 old.trace now.trace after feds.NoMemory a.2 done, read.2 ∙ a.3),
)

-- a refusal, whatever follows
stays_refused : {World Why : Type 0} (rules : Rules World Why) (w : World) (q : Point World) (bytes : List ℕ) (before after : Trace) (number : ℕ) (why : Why)
    → IsFed rules (point w start bytes) before q after (feds.Refused number why) → IsSettled rules w bytes
stays_refused rules w q bytes before after number why a more =
    sym (resume_fresh rules w 1 0 (lines_of (bytes ++ more))) ∙ a.1.on more ∙ sym (run_is rules w bytes ∙ a.1.on [])

-- a fact where feeding stopped
abbrev pub IfStopped : {Why : Type 0} → FeedResult Why → Type 0 → Type 0
IfStopped feds.On P = Unit {0}
IfStopped (feds.Refused number why) P = P
IfStopped feds.WriteFailed P = P
IfStopped feds.NoMemory P = P

pub over_fed : {World Why : Type 0} (rules : Rules World Why) (w0 w w' : World) (p p' : Place) (old now : Outside) (left : Option (List ℕ)) (faults n : ℕ) (after : Trace) (into piece : List ℕ) (fed : FeedResult Why)
    → SoFar rules w0 old w p now → IsRead now.left left now.faults faults into (gots.Bytes n) → piece ≡ take n into
    → IsFed rules (point w p piece) now.trace (point w' p' []) after fed
    → IfStopped fed (IsOver rules w0 old (outside left faults after) (ended_of fed))
over_fed rules w0 w w' p p' old now left faults n after into piece feds.On a read same fed = tt
over_fed rules w0 w w' p p' old now left faults n after into piece (feds.Refused number why) a read same fed =
    let next = fed_next rules w0 w w' p p' a.0 piece old.trace now.trace after (feds.Refused number why) a.2 fed in (
      a.0 ++ piece,
      read_more old.left now.left left a.0 piece a.1 (subst (λ (xs : List ℕ). WasRead now.left left xs) (sym same) read.2),
      (
        done_refused rules w0 (point w' p' []) (a.0 ++ piece) old.trace after number why next,
        read.3 ∙ a.3,
        inl (stays_refused rules w0 (point w' p' []) (a.0 ++ piece) old.trace after number why next),
      ),
    )
over_fed rules w0 w w' p p' old now left faults n after into piece feds.WriteFailed a read same fed = (
  a.0 ++ piece,
  read_more old.left now.left left a.0 piece a.1 (subst (λ (xs : List ℕ). WasRead now.left left xs) (sym same) read.2),
  (
    done_unwritten rules w0 (point w' p' []) (a.0 ++ piece) old.trace after
        (fed_next rules w0 w w' p p' a.0 piece old.trace now.trace after feds.WriteFailed a.2 fed),
    read.3 ∙ a.3,
  ),
)
over_fed rules w0 w w' p p' old now left faults n after into piece feds.NoMemory a read same fed = (
  a.0 ++ piece,
  read_more old.left now.left left a.0 piece a.1 (subst (λ (xs : List ℕ). WasRead now.left left xs) (sym same) read.2),
  (
    done_starved rules w0 (point w' p' []) (a.0 ++ piece) old.trace after
        (fed_next rules w0 w w' p p' a.0 piece old.trace now.trace after feds.NoMemory a.2 fed),
    read.3 ∙ a.3,
  ),
)

-- no memory before the first read
pub over_starved : {World Why : Type 0} (rules : Rules World Why) (w : World) (now : Outside) → IsOver rules w now now ends.NoMemory
over_starved rules w now =
    ([], read_none now.left, ((part [] 0, (((run rules w []).out, refl), omega arith), (gained_none now.trace.holds, refl, omega arith)), refl))

not_none : (xs : List ℕ) → Some xs ≡ None → ⊥
not_none xs e = cc

same_some : (xs ys : List ℕ) → Some xs ≡ Some ys → xs ≡ ys
same_some xs ys e = cc

front_is : (xs ys zs : List ℕ) → xs ≡ ys ++ zs → ys ≡ take (length xs - length zs) xs
front_is xs ys zs e =
    let n : length ys ≡ length xs - length zs = omega (arith, ap length e, length-append ys zs) in
    sym (ap (λ (k : ℕ). take k xs) (sym n) ∙ ap (λ (l : List ℕ). take (length ys) l) e ∙ take-append_seam ys zs)

read_is : (told left : Option (List ℕ)) (bytes : List ℕ) → WasRead told left bytes → IfSome told (λ _. bytes ≡ bytes_read told left)
read_is None left bytes e = tt
read_is (Some xs) None bytes e = absurd (not_none xs e)
read_is (Some xs) (Some zs) bytes e = front_is xs bytes zs (same_some xs (bytes ++ zs) e)

told : {World Why : Type 0} (rules : Rules World Why) (w0 : World) (left : Option (List ℕ)) (old new : Outside) (ended : RunEnd Why)
    → old.left ≡ left → IsOver rules w0 old new ended
    → IfSome left (λ _. IsEnded rules w0 (bytes_read left new.left) old new ended)
told rules w0 None old new ended e o = tt
told rules w0 (Some xs) old new ended e o =
    subst (λ (bytes : List ℕ). IsEnded rules w0 bytes old new ended) (read_is (Some xs) new.left o.0 (sym e ∙ o.1)) o.2

-- of a source that tells what it has left, the bytes that were read
pub over_told : {World Why : Type 0} (rules : Rules World Why) (w0 : World) (old new : Outside) (ended : RunEnd Why)
    → IsOver rules w0 old new ended
    → IfSome old.left (λ _. IsEnded rules w0 (bytes_read old.left new.left) old new ended)
over_told rules w0 old new ended o = told rules w0 old.left old new ended refl o
