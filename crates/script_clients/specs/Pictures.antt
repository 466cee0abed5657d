-- What a client of a script keeps of the plain client that it stands for.
use Rattle.std.specs.Prelude.{◌≡◌, ℕ, ◌≤◌, is_some, List, Option}
use Rattle.iogr_reference.specs.declared.references.GroupRef.{GroupRef}
use Rattle.client_retry.specs.Counters as cores
use Rattle.script_clients.specs.declared.answers.Call.{Call}
use Rattle.script_clients.specs.Clients.{Client}

pub record Picture : Type 0 where
  pub name : List ℕ
  pub started : ℕ
  pub numbered : ℕ
  pub others : List GroupRef
  -- of its last invocation
  pub core : cores.Picture
  pub call : Option Call

-- the picture of a plain client
abbrev pub pictured : Client → Picture
pictured c = record { name = c.name; started = c.started; numbered = c.numbered; others = c.others; core = cores.kept c.retry; call = c.call }

-- what is true of every client: its fields are those of the plain client
pub record IsKept (fields : Picture) (client : Client) : Type 0 where
  pub kept : fields ≡ pictured client
  pub open_together : is_some fields.core.progress ≡ is_some fields.call
  pub few : fields.numbered ≤ fields.started
