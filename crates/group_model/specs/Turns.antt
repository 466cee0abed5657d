-- A turn of a host: what an event leaves in common and at its host, its answer, and its servant calls.
use Rattle.std.specs.Prelude.{ℕ, ◌+◌}
use Rattle.group_model.specs.declared.events.GroupAnswer.{GroupAnswer}
use Rattle.group_model.specs.Plain.{Common, Host}

pub record Turn : Type 0 where
  pub common : Common
  pub host : Host
  pub answer : GroupAnswer
  pub calls : ℕ

-- nothing has changed
abbrev pub unchanged : Common → Host → GroupAnswer → Turn
unchanged c h answer = record { common = c; host = h; answer = answer; calls = 0 }

-- so many servant calls were made before
abbrev pub costing : ℕ → Turn → Turn
costing n t = record t { calls = n + t.calls }
