-- A client: it has one invocation after another, and the ids of its attempts go on through all of them.
use Rattle.std.specs.Prelude.{ℕ, ◌+◌, [], Option, Some, None}
use Rattle.ft_base.specs.declared.numbers.Tick.{Tick}
use Rattle.iogr_reference.specs.declared.references.GroupRef.{GroupRef}
use Rattle.client_retry.specs.declared.answers.Act.{Act}
use Rattle.client_retry.specs.declared.answers.Act.TheVariants.{Send, Adopted, Done, Nothing}
use Rattle.client_retry.specs.Attempts.{at_first}
use Rattle.client_retry.specs.Invocations.{News, Invocation, reference_of, last_id_of, with_news, sent, answer}

-- between its invocations it has its last id, and its last reference, if it began one yet
pub data Client : Type 0 where
  Idle : ℕ → Option GroupRef → Client
  Busy : Invocation → Client

abbrev pub new_client : Client
new_client = Idle 0 None

abbrev pub last_of : Client → ℕ
last_of (Idle last reference) = last
last_of (Busy i) = last_id_of i

pub record Turn : Type 0 where
  pub client : Client
  pub act : Act

-- where this is done of an invocation that has heard this, by its last id before
abbrev pub after : Invocation → ℕ → Act → Client
after i last (Send place id) = Busy i
after i last (Adopted version place id) = Busy i
after i last (Done end) = Idle last (Some (reference_of i))
after i last Nothing = Busy i

-- ---- an invocation begins

abbrev pub begun : ℕ → GroupRef → Tick → Invocation
begun last reference expiration = record { reference = reference; expiration = expiration; first = last + 1; heard = [] }

abbrev pub starting : Client → GroupRef → Tick → Turn
starting client reference expiration =
    let act = sent (last_of client) (at_first reference (last_of client)) in
    record { client = after (begun (last_of client) reference expiration) (last_of client) act; act = act }

-- ---- between two invocations it gives its reference away

-- an open invocation goes on over its reference
abbrev pub setting_down : Client → Client
setting_down (Idle last reference) = Idle last None
setting_down (Busy i) = Busy i

-- ---- news come

abbrev pub hearing : Client → News → Turn
hearing (Idle last reference) news = record { client = Idle last reference; act = Nothing }
hearing (Busy i) news =
    let act = answer i news in
    record { client = after (with_news i news) (last_id_of i) act; act = act }
