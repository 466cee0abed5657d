-- A client that is to be bound, as a line.
use Rattle.std.proofs.Common.{◌≡◌, ℕ, ◌+◌, arith, true, false, List, [], ◌∷◌, Option, Some, None, refl, ap}
use Rattle.std.specs.Prelude.{is_some}
use Rattle.ft_report.specs.declared.reports.ReportLine.{ReportLine}
use Rattle.ft_report.specs.declared.reports.ReportLine.TheVariants as reports
use Rattle.script_clients.specs.Clients.{Client}
use Rattle.script_clients.specs.declared.answers.Call.{Call}
use Rattle.script_groups.specs.Groups.{ScriptGroup, placed}
use Rattle.script_world.specs.World.{World}
use Rattle.ft_world.specs.Retrying.{bind_to, bound, bound_by}
use Rattle.world_turns.specs.Answers.{HasDone, calls_of}
use Rattle.world_turns.specs.Doing.{acts_by}
use Rattle.world_turns.specs.Naming.{There}
use Rattle.world_turns.specs.Turns.{Goes, goes, says}

module _ (w : World) (client : ℕ) (c : Client) (group : ℕ) (g : ScriptGroup) where
  busy_is : (o : Option Call) → is_some o ≡ true → bound_by w (placed client c) g o ≡ says w (reports.Busy c.name ∷ [])
  busy_is None h = absurd cc
  busy_is (Some call) h = refl

  idle_is : (o : Option Call) → is_some o ≡ false → bound_by w (placed client c) g o ≡ bound w (placed client c) g
  idle_is None h = refl
  idle_is (Some call) h = absurd cc

  -- the client has an open invocation
  pub busy_goes : (report : List ReportLine) (calls : ℕ) → is_some c.call ≡ true → report ≡ reports.Busy c.name ∷ [] →
      (bind_to w (placed client c) (There (placed group g)) ≡ Goes w report (calls_of (bind_to w (placed client c) (There (placed group g)))))
      × (calls ≡ calls + calls_of (bind_to w (placed client c) (There (placed group g))))
  busy_goes report calls busy are =
      acts_by (bind_to w (placed client c) (There (placed group g))) (says w (reports.Busy c.name ∷ [])) report w calls calls
      (ap goes (busy_is c.call busy)) (record { world = refl; lines = are; calls = omega arith })

  -- it has none, and goes by another reference
  pub bound_goes : (report : List ReportLine) (new : World) (calls : ℕ) → is_some c.call ≡ false → HasDone (bound w (placed client c) g) report new calls calls →
      (bind_to w (placed client c) (There (placed group g)) ≡ Goes new report (calls_of (bind_to w (placed client c) (There (placed group g)))))
      × (calls ≡ calls + calls_of (bind_to w (placed client c) (There (placed group g))))
  bound_goes report new calls idle done =
      acts_by (bind_to w (placed client c) (There (placed group g))) (bound w (placed client c) g) report new calls calls (ap goes (idle_is c.call idle)) done
