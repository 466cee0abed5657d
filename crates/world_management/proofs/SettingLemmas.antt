-- Properties that are set and read, as lines.
use Rattle.std.proofs.Common.{◌≡◌, ℕ, arith, List, [], ◌∷◌, Option, Some, None, Result, Ok, Err, refl, sym, ap, subst, ◌∙◌, ◌⊎◌, inl, inr, true}
use Rattle.fault_script.specs.declared.lines.LineFault.{LineFault}
use Rattle.fault_script.specs.declared.lines.LineFault.TheVariants as line_faults
use Rattle.ft_base.specs.declared.numbers.GroupId.{GroupId}
use Rattle.ft_report.specs.declared.reports.ReportLine.{ReportLine}
use Rattle.property_manager.specs.declared.effective.Levels.{Levels}
use Rattle.property_manager.specs.declared.faults.PropertyFault.{PropertyFault}
use Rattle.property_manager.specs.declared.faults.PropertyFault.TheVariants as faults
use Rattle.property_manager.specs.declared.settings.Property.{Property}
use Rattle.property_manager.specs.Groups.{IsGot, Settings}
use Rattle.property_manager.specs.Judging.{refusal}
use Rattle.script_groups.specs.Groups.{ScriptGroup}
use Rattle.script_world.specs.Settings.{Settles, SettlesFor, group_settings}
use Rattle.script_world.specs.World.{World}
use Rattle.world_management.specs.Properties.{IsRefused, IsTold, got_of, property_called, property_refused, set_in, set_unless}
use Rattle.world_turns.specs.Answers.{Acts, HasRefused}
use Rattle.world_turns.specs.Doing.{acts_by}
use Rattle.world_turns.specs.Turns.{Turn, goes, says}

-- a refusal for want of memory, by whatever turn
short : (turn : Turn) (why : LineFault) (old new : World) (calls : ℕ) → why ≡ line_faults.NoMemory → Acts turn (Err why) old new calls calls
short turn why old new calls is =
    subst (λ (f : LineFault). HasRefused turn f old new calls calls) (sym is) (omega arith)

said : (turn : Turn) (old new : World) (lines report : List ReportLine) (calls : ℕ) → turn ≡ goes (says new lines) → report ≡ lines → Acts turn (Ok report) old new calls calls
said turn old new lines report calls is printed =
    acts_by turn (says new lines) report new calls calls is (record { world = refl; lines = printed; calls = omega arith })

refused_as : (why : PropertyFault) (report : List ReportLine) → IsRefused why report → report ≡ property_refused why
refused_as (faults.InvalidProperty place) report is = is
refused_as (faults.UnsupportedProperty place) report is = is
refused_as (faults.ObjectGroupNotFound group) report is = is
refused_as faults.NoMemory report is = absurd is

pub set_acts : (why : Option PropertyFault) (w new : World) (after : Settings) (set : Result (Unit {0}) PropertyFault) (result : Result (List ReportLine) LineFault) (calls : ℕ) →
    Settles why w after set new → IsTold set result → Acts (goes (set_unless why w after)) result w new calls calls
set_acts why w new after set (Err fault) calls settles told = short (goes (set_unless why w after)) fault w new calls told
set_acts why w new after (Ok done) (Ok report) calls settles told =
    said (goes (set_unless why w after)) w new [] report calls
    (ap (λ (o : Option PropertyFault). goes (set_unless o w after)) settles.0 ∙ ap (λ (v : World). goes (says v [])) (sym settles.1)) told
set_acts why w new after (Err fault) (Ok report) calls settles told = go settles.0
  where
    none : (f : PropertyFault) → f ≡ faults.NoMemory → IsRefused f report → ⊥
    none f e is = subst (λ (g : PropertyFault). IsRefused g report) e is

    go : ((fault ≡ faults.NoMemory) ⊎ (why ≡ Some fault)) → Acts (goes (set_unless why w after)) (Ok report) w new calls calls
    go (inl e) = absurd (none fault e told)
    go (inr e) =
        said (goes (set_unless why w after)) w new (property_refused fault) report calls
        (ap (λ (o : Option PropertyFault). goes (set_unless o w after)) e ∙ ap (λ (v : World). goes (says v (property_refused fault))) (sym settles.1))
        (refused_as fault report told)

pub set_in_acts : (w new : World) (g : ScriptGroup) (p : Property) (o : Option Levels) (set : Result (Unit {0}) PropertyFault) (result : Result (List ReportLine) LineFault) (calls : ℕ) →
    SettlesFor g.id (p ∷ []) o w set new → IsTold set result → Acts (goes (set_in w g p o)) result w new calls calls
set_in_acts w new g p (Some levels) set result calls settles told =
    set_acts (refusal true (p ∷ [])) w new (group_settings w.settings g.id levels (p ∷ [])) set result calls settles told
set_in_acts w new g p None set (Err fault) calls settles told = short (goes (set_in w g p None)) fault w new calls told
set_in_acts w new g p None set (Ok report) calls settles told =
    said (goes (set_in w g p None)) w new (property_refused (faults.ObjectGroupNotFound g.id)) report calls
    (ap (λ (v : World). goes (says v (property_refused (faults.ObjectGroupNotFound g.id)))) (sym settles.1))
    (subst (λ s. IsTold s (Ok report)) settles.0 told)

-- ---- what is read of a group

pub got_values : (id : GroupId) (name : List ℕ) (o : Option Levels) (ps : List Property) (line : ReportLine) → IsGot id o (Ok ps) → line ≡ property_called name ps → line ≡ got_of name o
got_values id name None ps line is told = absurd cc
got_values id name (Some levels) ps line is told = told ∙ ap (property_called name) is

pub got_none : (id gone : GroupId) (name : List ℕ) (o : Option Levels) → IsGot id o (Err (faults.ObjectGroupNotFound gone)) → got_of name None ≡ got_of name o
got_none id gone name None is = refl
got_none id gone name (Some levels) is = absurd cc
