-- The run of a script that is there whole.
use Rattle.std.proofs.Common.{◌≡◌, ℕ, List, [], refl, subst, arith}
use Rattle.script_pieces.specs.Runs.{Rules, run}
use Rattle.script_pieces.specs.Feeds.{Place, Trace, start, point, part, resume, IsFed, IsDone}
use Rattle.script_pieces.specs.declared.feeding.FeedResult.{FeedResult}
use Rattle.script_pieces.specs.declared.feeding.FeedResult.TheVariants as feds
use Rattle.script_pieces.proofs.Endings.{IfStopped, done_finish, done_refused, done_starved, done_unwritten}
use Rattle.script_pieces.proofs.Feedings.{gained_none}

-- no memory before the first line
pub text_starved : {World Why : Type 0} (rules : Rules World Why) (w : World) (text : List ℕ) (now : Trace)
    → IsDone (run rules w text) now now feds.NoMemory
text_starved rules w text now =
    (part [] 0, (((run rules w text).out, refl), omega arith), (gained_none now.holds, refl, omega arith))

stopped : {World Why : Type 0} (rules : Rules World Why) (w w' : World) (p' : Place) (text : List ℕ) (before after : Trace) (fed : FeedResult Why)
    → IsFed rules (point w start text) before (point w' p' []) after fed → IfStopped fed (IsDone (run rules w text) before after fed)
stopped rules w w' p' text before after feds.On is = tt
stopped rules w w' p' text before after (feds.Refused number why) is =
    done_refused rules w (point w' p' []) text before after number why is
stopped rules w w' p' text before after feds.WriteFailed is = done_unwritten rules w (point w' p' []) text before after is
stopped rules w w' p' text before after feds.NoMemory is = done_starved rules w (point w' p' []) text before after is

-- it stopped before its last line
pub text_stopped : {World Why : Type 0} (rules : Rules World Why) (w w' : World) (p p' : Place) (text : List ℕ) (before after : Trace) (fed : FeedResult Why)
    → p ≡ start → IsFed rules (point w p text) before (point w' p' []) after fed → IfStopped fed (IsDone (run rules w text) before after fed)
text_stopped rules w w' p p' text before after fed e is =
    stopped rules w w' p' text before after fed
    (subst (λ (x : Place). IsFed rules (point w x text) before (point w' p' []) after fed) e is)

-- and its last line
pub text_ended : {World Why : Type 0} (rules : Rules World Why) (w w' : World) (p p' : Place) (text : List ℕ) (before mid after : Trace) (fed : FeedResult Why)
    → p ≡ start → IsFed rules (point w p text) before (point w' p' []) mid feds.On → IsDone (resume rules w' p' []) mid after fed
    → IsDone (run rules w text) before after fed
text_ended rules w w' p p' text before mid after fed e is last =
    done_finish rules w w' p' text before mid after fed
    (subst (λ (x : Place). IsFed rules (point w x text) before (point w' p' []) mid feds.On) e is) last
