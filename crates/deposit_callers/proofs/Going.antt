-- What callers rest on.
use Rattle.std.proofs.Common.{◌≡◌, ℕ, ◌<◌, List, [], ◌∷◌, refl, sym, subst, arith}
use Rattle.std.specs.List.{AllByRecursion}
use Rattle.ft_base.specs.Machine.{Machine}
use Rattle.ft_base.specs.Members.{AreDifferent}
use Rattle.ft_base.specs.declared.limits.TheConstants.{HOST_LIMIT}
use Rattle.hist_lock.specs.Histories.{calls}
use Rattle.group_model.specs.declared.events.Event.{Event}
use Rattle.group_model.specs.declared.events.GroupAnswer.{GroupAnswer}
use Rattle.group_model.specs.declared.events.GroupAnswer.TheVariants as answers
use Rattle.group_model.specs.declared.events.Out.{Out}
use Rattle.group_model.specs.Sending.{brought, sent_by}
use Rattle.ft_base.specs.declared.views.View.{View}
use Rattle.shared_group.specs.declared.calls.Call.{Call}
use Rattle.shared_group.specs.declared.calls.Call.TheVariants.{Act}
use Rattle.shared_group.specs.declared.calls.CallAnswer.{CallAnswer}
use Rattle.shared_group.specs.declared.calls.CallAnswer.TheVariants as told
use Rattle.shared_group.specs.Books.{MayCall}
use Rattle.shared_group.specs.Laws.{CallsStayPossible, SentMayBeBrought}
use Rattle.shared_group.specs.Turns.{GroupLock, GroupPass, IsTaken}

pub three_there : (members : List ℕ) → members ≡ 0 ∷ 1 ∷ 2 ∷ [] → AllByRecursion (λ host. host < HOST_LIMIT) members × AreDifferent members
three_there members is = rw is ((omega arith, (omega arith, (omega arith, tt))), (refl, (refl, (refl, tt))))

module _ (machines : ℕ → Machine) (lock : GroupLock) where
  -- all of this may be brought behind what a pass has seen
  abbrev pub MayBring : GroupPass → List Out → Type 0
  MayBring pass outs = AllByRecursion (λ out. MayCall machines lock.opening (calls pass.seen) (Act (brought out))) outs

  -- also behind a further turn
  pub bring_on : CallsStayPossible machines → (pass later : GroupPass) (made : Call) (answer : CallAnswer) → IsTaken machines lock pass made answer later
      → (outs : List Out) → MayBring pass outs → MayBring later outs
  bring_on law pass later made answer taken [] may = tt
  bring_on law pass later made answer taken (out ∷ outs) may =
      (law lock pass later made (Act (brought out)) answer taken may.0, bring_on law pass later made answer taken outs may.1)

  -- what a change of members sends
  pub bring_changed : SentMayBeBrought machines → (pass later : GroupPass) (e : Event) (answer : GroupAnswer) (view : View) (outs : List Out)
      → IsTaken machines lock pass (Act e) (told.Event answer) later → answer ≡ answers.Changed view outs → MayBring later outs
  bring_changed law pass later e answer view outs taken is =
      subst (λ (a : GroupAnswer). MayBring later (sent_by a)) is (law lock pass later e answer taken)
