-- An answer that wanted no memory: laws.
use Rattle.std.proofs.Common.{◌≡◌, ℕ, refl}
use Rattle.group_model.specs.declared.events.Event.{Event}
use Rattle.group_model.specs.declared.events.GroupAnswer.{GroupAnswer}
use Rattle.group_model.specs.declared.events.GroupAnswer.TheVariants as answers
use Rattle.script_world.specs.World.{World}
use Rattle.script_world.specs.Worlds.{EventAt, HasTurnAt, IsMade}

-- what is said where no memory was wanted
pub is_made : {P : Type 0} (a : GroupAnswer) → (a ≡ answers.NoMemory → ⊥) → IsMade a P → P
is_made answers.NoMemory not it = absurd (not refl)
is_made (answers.Reply decision answer out) not it = it
is_made (answers.Known version) not it = it
is_made (answers.Applied n) not it = it
is_made (answers.Held n) not it = it
is_made (answers.Ignored cause) not it = it
is_made (answers.Taken from position out) not it = it
is_made (answers.Changed view out) not it = it
is_made (answers.Refused fault) not it = it
is_made answers.LogFault not it = it
is_made answers.Down not it = it
is_made answers.Up not it = it

-- the group at the place has had the event
pub has_turn : (w : World) (place : ℕ) (e : Event) (a : GroupAnswer) (later : World) (before now : ℕ) → (a ≡ answers.NoMemory → ⊥) → EventAt w place e a later before now → HasTurnAt w place e a later before now
has_turn w place e answers.NoMemory later before now not it = absurd (not refl)
has_turn w place e (answers.Reply decision answer out) later before now not it = it
has_turn w place e (answers.Known version) later before now not it = it
has_turn w place e (answers.Applied n) later before now not it = it
has_turn w place e (answers.Held n) later before now not it = it
has_turn w place e (answers.Ignored cause) later before now not it = it
has_turn w place e (answers.Taken from position out) later before now not it = it
has_turn w place e (answers.Changed view out) later before now not it = it
has_turn w place e (answers.Refused fault) later before now not it = it
has_turn w place e answers.LogFault later before now not it = it
has_turn w place e answers.Down later before now not it = it
has_turn w place e answers.Up later before now not it = it
