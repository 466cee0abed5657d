use Rattle.std.proofs.Common.{ℕ, ap, sym, subst, ◌∙◌}
use Rattle.std.specs.List.{AllByRecursion}
use Rattle.group_model.specs.Sending.{sent_by}
use Rattle.group_model.specs.declared.events.Event.TheVariants as events
use Rattle.script_groups.specs.Acting.{IsSoundGroup}
use Rattle.script_groups.specs.Groups.{ScriptGroup, acted}
use Rattle.script_world.specs.Sound.{IsOnItsWay}
use Rattle.script_world.specs.World.{carried}
use Rattle.world_transfers.specs.Transfers.{checkpoint_event, checkpointed}
use Rattle.world_transfers.proofs.TransferLemmas.{done_behind, short_behind, stands}
use Rattle.script_groups.specs.Lists.{same_some, some_at}
use Rattle.script_world.specs.Made.{has_turn, is_made}
use Rattle.std.proofs.lemmas.Option.{slice_get_within}
use Rattle.world_transfers.proofs.checkpoints.checkpoint_at.Goals as goal

pub event_at-requires-clause-may : goal.event_at-requires-clause-may
event_at-requires-clause-may l c = λ g at.
    c.takers_may_take.ensures.checkpoint g c.args.host c.host_clock.result (subst IsSoundGroup (same_some c.group.result.now g (sym c.group.ensures ∙ at)) c.is_sound.ensures) (c.requires.takes g at)

pub checkpointed-requires : goal.checkpointed-requires
checkpointed-requires l c =
    let w = c.args.world.now in
    let at = some_at w.groups c.args.place c.requires.within in
    let event = events.Checkpoint c.args.host c.host_clock.result in
    let it = has_turn w c.args.place event c.event_at.result c.event_at.new.self c.args.steps.now c.event_at.new.steps c.in_default.not-NoMemory c.event_at.ensures.turn in
    let later = stands w c.args.place at.0 at.1 event (checkpoint_event c.args.world.now c.args.host) (ap (λ (n : ℕ). events.Checkpoint c.args.host (record { 0 = n })) c.host_clock.ensures) c.event_at.result c.event_at.new.self c.args.steps.now c.event_at.new.steps it in
    record {
      within = slice_get_within c.event_at.new.self.groups c.args.place (acted at.0 (checkpoint_event c.args.world.now c.args.host)) later;
      kept = is_made c.event_at.result c.in_default.not-NoMemory c.event_at.ensures.kept;
      sent = λ g there.
          subst (λ (x : ScriptGroup). AllByRecursion (λ o. IsOnItsWay c.event_at.new.self.groups (carried x.id o)) (sent_by c.event_at.result)) (same_some (acted at.0 (checkpoint_event c.args.world.now c.args.host)) g (sym later ∙ there))
          (c.event_at.ensures.sent at.0 at.1);
    }

pub returns-in-NoMemory : goal.returns-in-NoMemory
returns-in-NoMemory l c = λ g there.
    short_behind c.args.world.now c.args.place g there (events.Checkpoint c.args.host c.host_clock.result) (checkpoint_event c.args.world.now c.args.host) (ap (λ (n : ℕ). events.Checkpoint c.args.host (record { 0 = n })) c.host_clock.ensures) checkpointed c.args.host c.args.steps.now c.event_at.new.steps c.in-NoMemory.ensures.turn

pub returns-in_default : goal.returns-in_default
returns-in_default l c = λ g there.
    let w = c.args.world.now in
    let event = events.Checkpoint c.args.host c.host_clock.result in
    let it = has_turn w c.args.place event c.event_at.result c.event_at.new.self c.args.steps.now c.event_at.new.steps c.in_default.not-NoMemory c.event_at.ensures.turn in
    let later = stands w c.args.place g there event (checkpoint_event c.args.world.now c.args.host) (ap (λ (n : ℕ). events.Checkpoint c.args.host (record { 0 = n })) c.host_clock.ensures) c.event_at.result c.event_at.new.self c.args.steps.now c.event_at.new.steps it in
    done_behind w c.args.place g there event (checkpoint_event c.args.world.now c.args.host) (ap (λ (n : ℕ). events.Checkpoint c.args.host (record { 0 = n })) c.host_clock.ensures) c.event_at.result c.event_at.new.self c.args.steps.now c.event_at.new.steps it
    checkpointed c.args.host c.checkpointed.result c.checkpointed.new.world c.event_at.new.steps
    (c.checkpointed.ensures (acted g (checkpoint_event c.args.world.now c.args.host)) c.event_at.new.steps later)
