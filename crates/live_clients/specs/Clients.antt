-- The clients of a live run: what each is given, which of them were started, and what all were told.
use Rattle.std.specs.Prelude.{◌≡◌, ℕ, pos, ◌+◌, ◌<◌, Bool, if◌then◌else◌, All, List, [], ◌∷◌, ◌++◌, length, codes, decimal, Option, Result, MatchResult}
use Rattle.ft_base.specs.declared.memory.NoMemory.{NoMemory}
use Rattle.ft_base.specs.declared.requests.Key.{Key}
use Rattle.ft_outside.specs.Outside.{added, next_count}
use Rattle.ft_outside.specs.Schedules.{Schedule}
use Rattle.outside_links.specs.Lending.{Target}
use Rattle.iogr_reference.specs.declared.references.GroupRef.{GroupRef}
use Rattle.iogr_reference.specs.Views.{group_of_view}
use Rattle.client_talk.specs.Talking.{Dialing, dialing}
use Rattle.client_calls.specs.declared.answers.Told.{Told}
use Rattle.client_calls.specs.declared.requests.TheConstants.{NEVER}
use Rattle.client_calls.specs.Calls.{IsTold, faults_of}
use Rattle.live_clients.specs.declared.jobs.ClientJob.{ClientJob}
use Rattle.live_clients.specs.declared.settings.ClientSetting.{ClientSetting}

-- a client's name: `c`, and its number directly behind it
abbrev pub client_name : ℕ → List ℕ
client_name number = codes "c" ++ decimal number

-- the key of a client's call, which is its deposit's
abbrev pub live_key : ℕ → ℕ → Key
live_key client call = record { client = client_name client; retention = record { 0 = pos call }; expiration = NEVER }

-- the reference of the group's first view, and that each of its members has a port
abbrev pub reference_of : ClientSetting → GroupRef
reference_of s = group_of_view s.group s.type_id.now s.view.now s.ports.now

abbrev pub HasPorts : ClientSetting → Type 0
HasPorts s = All (λ host. host < length s.ports.now) s.view.now.members

-- what a client is given: its name, the reference over which its first call goes, how many calls it makes, and its caller
pub record Task (D : Type 0) : Type 0 where
  pub name : List ℕ
  pub reference : GroupRef
  pub calls : ℕ
  pub caller : D

module _ {D : Type 0} where
  abbrev pub task : List ℕ → GroupRef → ℕ → D → Task D
  task name reference calls caller = record { name = name; reference = reference; calls = calls; caller = caller }

  abbrev pub task_of : {R L : Type 0} → ClientJob R L D → Task D
  task_of job = task job.name job.reference job.calls job.caller

  -- the task of the client with this number
  abbrev pub client_task : ClientSetting → ℕ → D → Task D
  client_task setting number caller = task (client_name number) (reference_of setting) setting.calls caller

  -- the clients of these callers, of whom the first has this number; each makes so many calls, over this reference first
  abbrev pub tasks_from : GroupRef → ℕ → ℕ → List D → List (Task D)
  tasks_from reference calls number [] = []
  tasks_from reference calls number (caller ∷ callers) = task (client_name number) reference calls caller ∷ tasks_from reference calls (number + 1) callers

  -- all clients of these callers, in their order
  abbrev pub tasks_of : ClientSetting → List D → List (Task D)
  tasks_of setting callers = tasks_from (reference_of setting) setting.calls 0 callers

  -- Clients were started in the order of their callers, as far as it went.
  pub record AreStarted (setting : ClientSetting) (callers : List D) (tasks : List (Task D)) : Type 0 where
    pub started : List D
    pub left : List D
    pub whole : callers ≡ started ++ left
    pub tasks_are : tasks ≡ tasks_of setting started

-- A refused start is one fault of the crew, and the last start.
abbrev pub CountsStart : Result Bool NoMemory → Schedule → Schedule → Type 0
CountsStart all before now =
    MatchResult all (λ all. now.faults ≡ (if all then before.faults else next_count before.faults)) (λ _. now.faults ≡ before.faults)

-- ---- what clients were told

module _ {D : Type 0} (links : D → Option (List (List ℕ))) (targets : D → Option (List Target)) (sent : D → Option (List (List ℕ))) (count : D → ℕ) where
  abbrev pub dialing_of : D → Dialing
  dialing_of caller = dialing (links caller) (targets caller) (sent caller) (count caller)

  -- what a client was told, whose caller came back with this count of faults
  pub record IsToldBy (t : Task D) (told : Told) (faults : ℕ) : Type 0 where
    pub after : Dialing
    pub told_so : IsTold t.name t.reference t.calls (dialing_of t.caller) after told.calls.items
    pub counted : faults ≡ after.faults

  -- Each client was told its own, and the network counted the faults of its caller.
  abbrev pub AreTold : List (Task D) → List Told → ℕ → ℕ → Type 0
  AreTold [] [] before now = now ≡ before
  AreTold [] (told ∷ more) before now = ⊥
  AreTold (t ∷ ts) [] before now = ⊥
  AreTold (t ∷ ts) (told ∷ more) before now = (faults : ℕ) × IsToldBy t told faults × AreTold ts more (added before faults) now

-- the faults of which all clients were told
abbrev pub all_faults : List Told → ℕ
all_faults [] = 0
all_faults (told ∷ more) = faults_of told.calls.items + all_faults more

-- no caller has counted a fault yet
abbrev pub AreNewCallers : {D : Type 0} → (D → ℕ) → List (Task D) → Type 0
AreNewCallers count [] = Unit {0}
AreNewCallers count (t ∷ ts) = (count t.caller ≡ 0) × AreNewCallers count ts
