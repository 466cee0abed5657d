-- The reply that a group holds for a key, and that its log tells. (Chapter 23, FTRequestServiceContext.)
use Rattle.std.specs.Prelude.{◌≡◌, ℕ, Option}
use Rattle.std.specs.Option.{option_and_then}
use Rattle.ft_base.specs.Machine.{Machine}
use Rattle.ft_base.specs.Journal.{held}
use Rattle.ft_base.specs.declared.requests.Key.{Key}
use Rattle.ft_base.specs.declared.requests.Outcome.{Outcome}
use Rattle.reply_table.specs.Entries.{holder}
use Rattle.reply_table.specs.declared.entries.Retained.{Retained}
use Rattle.message_log.specs.Picture.{Picture as LogPicture}
use Rattle.group_model.specs.Plain.{Common}
use Rattle.group_stands.specs.Stands.{LogStands, reply_once_run}

-- the reply of the entry that holds a key's retention id at the group's time, once some host has run it
abbrev pub held_reply : Machine → Common → Key → Option Outcome
held_reply m c key = option_and_then (reply_once_run m c.opening c.journal c.ran) (held c.journal key c.time)

-- the reply that is retained for a key whose expiration is still to come at the log's time
abbrev pub retained_reply : LogPicture → Key → Option Outcome
retained_reply log key = option_and_then (λ (r : Retained). r.reply) (holder log.table key log.time)

-- they are the same
abbrev pub LogsReply : Type 0
LogsReply = (machines : ℕ → Machine) (c : Common) (log : LogPicture) → LogStands machines c log →
    (key : Key) → retained_reply log key ≡ held_reply (machines c.kind) c key
