-- A line as it is acted, from what its parts answer.
use Rattle.std.proofs.Common.{◌≡◌, ℕ, ◌+◌, ◌≤◌, ◌⊎◌, ⊎_elim, List, [], ◌∷◌, Option, Result, Err, refl, subst, sym, ap, arith}
use Rattle.std.specs.List.{AllByRecursion}
use Rattle.fault_script.specs.declared.lines.Line.{Line}
use Rattle.fault_script.specs.declared.lines.LineFault.{LineFault}
use Rattle.fault_script.specs.declared.lines.LineFault.TheVariants.{Syntax, Unknown, Again, Limit, NoMemory}
use Rattle.world_turns.specs.Answers as world_answers
use Rattle.world_turns.specs.Answers.{DidNot}
use Rattle.world_turns.specs.Turns as world
use Rattle.script_pieces.specs.Feeds.{IsActed}
use Rattle.script_pieces.specs.Runs.{calls_of}
use Rattle.script_clients.specs.Clients.{Client}
use Rattle.script_world.specs.World.{World}
use Rattle.run_top.specs.Playing.{MayAct, effect_of, printed_effect, refusal}

printed_calls : (t : world.Turn) → world_answers.calls_of t ≡ calls_of (printed_effect t)
printed_calls (world.Goes next report calls) = refl
printed_calls (world.Refused why calls) = refl

-- a line that no memory was found to print made no more calls than the turn has
pub not_printed : (t : world.Turn) (before later : ℕ) → later ≤ before + world_answers.calls_of t →
    later ≤ before + calls_of (printed_effect t)
not_printed t before later within = subst (λ (calls : ℕ). later ≤ before + calls) (printed_calls t) within

-- a refusal of the world is the line's
pub not_acted : (t : world.Turn) (why : LineFault) (new : World) (before later : ℕ) → DidNot t why before later →
    IsActed (printed_effect t) new before later (refusal why)
not_acted t NoMemory new before later within = not_printed t before later within
not_acted t Syntax new before later did = (world_answers.calls_of t, ap printed_effect did.0, did.1)
not_acted t Unknown new before later did = (world_answers.calls_of t, ap printed_effect did.0, did.1)
not_acted t Again new before later did = (world_answers.calls_of t, ap printed_effect did.0, did.1)
not_acted t (Limit name) new before later did = (world_answers.calls_of t, ap printed_effect did.0, did.1)

refused_read : (w : World) (read : Result (Option Line) LineFault) (why : LineFault) (steps : ℕ) → read ≡ Err why →
    IsActed (effect_of w read) w steps steps (refusal why)
refused_read w read NoMemory steps is = omega arith
refused_read w read Syntax steps is = (0, ap (effect_of w) is, omega arith)
refused_read w read Unknown steps is = (0, ap (effect_of w) is, omega arith)
refused_read w read Again steps is = (0, ap (effect_of w) is, omega arith)
refused_read w read (Limit name) steps is = (0, ap (effect_of w) is, omega arith)

-- and so is a refusal of what was read
pub not_read : (w : World) (read : Result (Option Line) LineFault) (why : LineFault) (steps : ℕ) → (why ≡ NoMemory) ⊎ (read ≡ Err why) →
    IsActed (effect_of w read) w steps steps (refusal why)
not_read w read why steps is =
    ⊎_elim
    (λ (e : why ≡ NoMemory). subst (λ (f : LineFault). IsActed (effect_of w read) w steps steps (refusal f)) (sym e) (omega arith))
    (λ (e : read ≡ Err why). refused_read w read why steps e)
    is

-- a world that may act a line may act the next one, where the line did nothing
abbrev begun_in : ℕ → Client → Type 0
begun_in number c = (c.started ≤ number) × (c.numbered ≤ number)

begun_in_more : (cs : List Client) (number : ℕ) → AllByRecursion (begun_in number) cs → AllByRecursion (begun_in (number + 1)) cs
begun_in_more [] number all = tt
begun_in_more (c ∷ cs) number all = ((omega (arith, all.0.0), omega (arith, all.0.1)), begun_in_more cs number all.1)

pub may_act_next : (w : World) (number : ℕ) → MayAct w number → MayAct w (number + 1)
may_act_next w number may = record {
  kept = may.kept;
  acted = record { clock = omega (arith, may.acted.clock); started = begun_in_more w.clients number may.acted.started };
}
