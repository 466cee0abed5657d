-- Clients, computed: what they hear, with what they do.
use Rattle.std.specs.Prelude.{◌≡◌, ℕ, List, [], ◌∷◌, Option, Some, None}
use Rattle.std.proofs.Common.{refl}
use Rattle.ft_base.specs.declared.numbers.Tick.{Tick}
use Rattle.ft_base.specs.declared.requests.Outcome.TheVariants.{Value}
use Rattle.iogr_reference.specs.declared.references.GroupRef.{GroupRef}
use Rattle.iogr_reference.specs.declared.references.Iiop.{Iiop}
use Rattle.sys_faults.specs.declared.faults.Completed.TheVariants.{Maybe}
use Rattle.sys_faults.specs.declared.faults.SysFault.{SysFault}
use Rattle.sys_faults.specs.declared.faults.SysKind.{SysKind}
use Rattle.sys_faults.specs.declared.faults.SysKind.TheVariants as kinds
use Rattle.client_retry.specs.declared.answers.Act.{Act}
use Rattle.client_retry.specs.declared.answers.Act.TheVariants.{Send, Adopted, Done, Nothing}
use Rattle.client_retry.specs.declared.answers.End.TheVariants as ends
use Rattle.client_retry.specs.declared.answers.Heard.TheVariants.{Outcome, System, Forward, Unreadable}
use Rattle.client_retry.specs.Invocations.{News, Reply, Silence}
use Rattle.client_retry.specs.Clients.{Client, Idle, new_client, starting, hearing}

abbrev profile : Iiop
profile = record { minor = 2; host = []; port = 2000; key = []; components = [] }

-- a group's reference of this version, with its primary's place
abbrev group : ℕ → List Iiop → Option ℕ → GroupRef
group version profiles primary =
    record { domain = []; group = record { 0 = 1 }; version = record { 0 = version }; type_id = []; profiles = profiles; primary = primary }

abbrev two : List Iiop
two = profile ∷ profile ∷ []

abbrev tick : ℕ → Tick
tick n = record { 0 = n }

abbrev exception : SysKind → SysFault
exception kind = record { kind = kind; minor = 1; completed = Maybe }

-- what is done at each of these news, the first of which comes first
abbrev done_at : Client → List News → List Act
done_at client [] = []
done_at client (news ∷ later) = let turn = hearing client news in turn.act ∷ done_at turn.client later

-- after a client's first invocation has begun over a reference
abbrev done_over : GroupRef → ℕ → List News → List Act
done_over reference expiration news =
    let turn = starting new_client reference (tick expiration) in turn.act ∷ done_at turn.client news

-- all members of two are tried three times
six_timeouts : done_over (group 1 two (Some 0)) 100 (Silence (tick 0) ∷ Silence (tick 0) ∷ Silence (tick 0) ∷ Silence (tick 0) ∷ Silence (tick 0) ∷ Silence (tick 0) ∷ Silence (tick 0) ∷ [])
    ≡ Send 0 1 ∷ Send 1 2 ∷ Send 0 3 ∷ Send 1 4 ∷ Send 0 5 ∷ Send 1 6 ∷ Done (ends.Transient 6 2) ∷ Nothing ∷ []
six_timeouts = refl

-- at its expiration it isn't sent again
too_late : done_over (group 1 two (Some 0)) 10 (Silence (tick 10) ∷ []) ≡ Send 0 1 ∷ Done (ends.NoResponse (tick 10) (tick 10)) ∷ []
too_late = refl

-- the expiration is looked at first
late_and_tried : done_over (group 1 (profile ∷ []) None) 10 (Silence (tick 0) ∷ Silence (tick 0) ∷ Silence (tick 10) ∷ [])
    ≡ Send 0 1 ∷ Send 0 2 ∷ Send 0 3 ∷ Done (ends.NoResponse (tick 10) (tick 10)) ∷ []
late_and_tried = refl

-- a newer reference begins the faults anew, whatever the moment is; an equal one is a fault
redirected : done_over (group 1 two (Some 1)) 10 (Reply 1 (Forward (group 1 two (Some 0))) (tick 0) ∷ Reply 2 (Forward (group 2 two (Some 0))) (tick 10) ∷ Silence (tick 9) ∷ [])
    ≡ Send 1 1 ∷ Send 0 2 ∷ Adopted (record { 0 = 2 }) 0 3 ∷ Send 1 4 ∷ []
redirected = refl

-- of an earlier attempt a fault doesn't count, but a newer reference and an end do
late_replies : done_over (group 1 two (Some 0)) 10 (Silence (tick 0) ∷ Reply 1 (System (exception kinds.Transient)) (tick 0) ∷ Reply 1 (Forward (group 1 two None)) (tick 0) ∷ Reply 1 (Forward (group 3 two (Some 1))) (tick 0) ∷ Reply 4 Unreadable (tick 0) ∷ Reply 2 (Outcome (Value [])) (tick 0) ∷ [])
    ≡ Send 0 1 ∷ Send 1 2 ∷ Nothing ∷ Nothing ∷ Adopted (record { 0 = 3 }) 1 3 ∷ Nothing ∷ Done (ends.Outcome (Value [])) ∷ []
late_replies = refl

-- a reference without profiles, and a client that has used its last id
no_profiles : (starting (Idle 7 None) (group 1 [] None) (tick 0)).act ≡ Done (ends.Transient 0 0)
no_profiles = refl

ids_spent : (starting (Idle 4294967295 None) (group 1 two None) (tick 0)).act ≡ Done ends.IdsSpent
ids_spent = refl

last_id_used : done_at (starting (Idle 4294967294 None) (group 1 two None) (tick 5)).client (Silence (tick 0) ∷ []) ≡ Done ends.IdsSpent ∷ []
last_id_used = refl
