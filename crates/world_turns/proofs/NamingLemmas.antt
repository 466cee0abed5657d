-- What a group's name or number stands for, by what is found.
use Rattle.std.proofs.Common.{◌≡◌, ℕ, Bool, true, false, cond, Option, Some, None, refl, ap}
use Rattle.std.specs.Prelude.{slice_get}
use Rattle.script_groups.specs.Groups.{ScriptGroup, Placed, placed}
use Rattle.script_world.specs.World.{World, is_deleted}
use Rattle.world_turns.specs.declared.naming.Named.TheVariants as names
use Rattle.world_turns.specs.Naming.{IsNamed, NeverMade, Deleted, There, naming_of}

pub never_made : (w : World) (o : Option (Placed ScriptGroup)) → o ≡ None → naming_of w o ≡ NeverMade
unfolding naming_of
never_made w None is = refl
never_made w (Some p) is = absurd cc

module _ (w : World) (place : ℕ) (g : ScriptGroup) (at : slice_get w.groups place ≡ Some g) where
  pub was_deleted : is_deleted w g ≡ true → IsNamed (naming_of w (Some (placed place g))) w.groups (names.Deleted place)
  unfolding naming_of
  was_deleted is = (g, ap (λ (b : Bool). cond b (Deleted (placed place g)) (There (placed place g))) is, at)

  pub is_there : is_deleted w g ≡ false → IsNamed (naming_of w (Some (placed place g))) w.groups (names.There place)
  unfolding naming_of
  is_there is = (g, ap (λ (b : Bool). cond b (Deleted (placed place g)) (There (placed place g))) is, at)
