-- Over a keeper of which it is told that no write fails, no answer shows a failed log.
use Rattle.std.proofs.Common.{◌≡◌, inl, inr, Bool, true, false, List, [], ℕ, Option, Some, refl, subst, ap, ◌∙◌}
use Rattle.ft_base.specs.declared.decisions.Decision.{Decision}
use Rattle.ft_base.specs.declared.decisions.Decision.TheVariants as decisions
use Rattle.ft_outside.specs.Keeping.{plan_after, IsForetold}
use Rattle.sys_faults.specs.declared.answers.Answer.{Answer}
use Rattle.message_log.specs.Calls.{IsTidied}
use Rattle.message_log.specs.Picture.{Picture as LogPicture, KeeperPicture, keeper_of}
use Rattle.message_log.specs.declared.tidying.Tidied.{Tidied}
use Rattle.message_log.specs.declared.tidying.Tidied.TheVariants.{Cut, Uncut, Unwritten}
use Rattle.group_model.specs.declared.changes.ManageFault.{ManageFault}
use Rattle.group_model.specs.declared.changes.ManageFault.TheVariants as manage_faults
use Rattle.group_model.specs.declared.events.Event.{Event}
use Rattle.group_model.specs.declared.events.Event.TheVariants as events
use Rattle.group_model.specs.declared.events.GroupAnswer.{GroupAnswer}
use Rattle.group_model.specs.declared.events.GroupAnswer.TheVariants as answers
use Rattle.group_model.specs.declared.events.Out.{Out}
use Rattle.group_model.specs.Events.{shows_fault}
use Rattle.group_hosts.specs.Keeping.{WroteNothing, Wrote, FailedToWrite, WroteCheckpoint, WroteBy, WroteRefused, WroteTaken, WroteFor}
use Rattle.group_core.specs.Telling.{LogFaultsAreCounted}
use Rattle.shared_group.specs.Books.{CountsFaults}

-- the answer shows no failed write, and none is told to come
abbrev IsCalm : GroupAnswer → LogPicture → Type 0
IsCalm answer now = (shows_fault answer ≡ false) × (now.plan ≡ Some [])

module _ (old new : LogPicture) (plan : old.plan ≡ Some []) where
  unmoved : (answer : GroupAnswer) → shows_fault answer ≡ false → WroteNothing old new → IsCalm answer new
  unmoved answer shown wrote = (shown, wrote.0 ∙ plan)

  one : (answer : GroupAnswer) → shows_fault answer ≡ false → Wrote old new → IsCalm answer new
  one answer shown wrote = (shown, wrote.plan ∙ ap plan_after plan)

  none_fails : FailedToWrite old new → ⊥
  none_fails failed = let no : IsForetold (Some []) true = subst (λ (p : Option (List Bool)). IsForetold p true) plan failed.foretold in absurd cc

  decided : (decision : Decision) (answer : Option Answer) (out : List Out) → WroteBy decision old new → IsCalm (answers.Reply decision answer out) new
  decided (decisions.Append i) answer out wrote = one (answers.Reply (decisions.Append i) answer out) refl wrote
  decided decisions.LogFault answer out wrote = absurd (none_fails wrote)
  decided decision answer out wrote = unmoved (answers.Reply decision answer out) refl wrote

  refused : (fault : ManageFault) → WroteRefused fault old new → IsCalm (answers.Refused fault) new
  refused manage_faults.LogFault wrote = absurd (none_fails wrote)
  refused fault wrote = unmoved (answers.Refused fault) refl wrote

  -- a checkpoint is written, and whatever is tidied behind it
  tidied : (how : Tidied) (before : KeeperPicture) (written viewed : List ℕ) (later : KeeperPicture) →
      before.plan ≡ Some [] → IsTidied how before written viewed later → later.plan ≡ Some []
  tidied Cut before written viewed later is was = was.3 ∙ ap (λ (p : Option (List Bool)). plan_after (plan_after p)) is
  tidied Uncut before written viewed later is was = was.3 ∙ ap (λ (p : Option (List Bool)). plan_after (plan_after p)) is
  tidied Unwritten before written viewed later is was = was.2 ∙ ap plan_after is

  checkpointed : (answer : GroupAnswer) → shows_fault answer ≡ false → WroteCheckpoint old new → IsCalm answer new
  checkpointed answer shown wrote =
      (shown, tidied wrote.how (record (keeper_of old) { plan = plan_after old.plan }) wrote.checkpoint wrote.view (keeper_of new) (ap plan_after plan) wrote.tidied)

  taken : (e : Event) (answer : GroupAnswer) → shows_fault answer ≡ false → WroteTaken e old new → IsCalm answer new
  taken (events.Checkpoint host clock) answer shown wrote = checkpointed answer shown wrote
  taken e answer shown wrote = unmoved answer shown wrote

  calm : (e : Event) (answer : GroupAnswer) → WroteFor e answer old new → IsCalm answer new
  calm e (answers.Reply decision answer out) wrote = decided decision answer out wrote
  calm e (answers.Changed view out) wrote = one (answers.Changed view out) refl wrote
  calm e (answers.Refused fault) wrote = refused fault wrote
  calm e (answers.Taken from position out) wrote = taken e (answers.Taken from position out) refl wrote
  calm e answers.LogFault wrote = absurd (none_fails wrote)
  calm e answers.NoMemory (inl wrote) = unmoved answers.NoMemory refl wrote.0
  calm e answers.NoMemory (inr wrote) = one answers.NoMemory refl wrote.0
  calm e answer wrote = unmoved answer refl wrote

-- so its faults are counted
pub counts : LogFaultsAreCounted → (e : Event) (answer : GroupAnswer) (old new : LogPicture) → WroteFor e answer old new → CountsFaults (shows_fault answer) old new
counts law e answer old new wrote = record { counted = law e answer old new wrote; calm = λ plan. calm old new plan e answer wrote }
