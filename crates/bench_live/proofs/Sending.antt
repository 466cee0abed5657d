-- What threads that share a core behind a mutex share.
use denote.RattleType.{RattleType}
use denote.Struct.Field.{shr_ref_field, u32-field}
use denote.Struct.Tuple.{TupleAt, type_at}
use denote.Struct.Declared.{shape}
use denote.Struct.Struct.{Struct}
use denote.Ref.{NamedLft}
use denote.Builtin.{One}
use mir.Syntax.{Sym}
use denote.Param.Send.{IsSend, IsSync, sendable, recorded_sync, struct_sync, shr_sync}
use Rattle.std.proofs.Common.{List, [], ◌∷◌}
use Rattle.std.proofs.Crossing.{crosses}
use Rattle.ft_base.specs.declared.servants.Servant.{Ghosts as ServantGhosts}
use Rattle.ft_outside.specs.declared.keepers.Keeper.{Ghosts as KeeperGhosts}
use Rattle.std.specs.contracts.sync.Mutex as mutexes
use Rattle.shared_group.specs.Sending.{core_send}
use Rattle.bench_live.specs.contracts.mutexes.SomeCore as held

some_send : (S K : RattleType) (s : ServantGhosts S.Denot) (k : KeeperGhosts K.Denot) → IsSend S → IsSend K → IsSend (held.the_field S K s k).row
some_send S K s k a b = search (sendable, crosses, core_send) depth 20

pub mutex_sync : (S K : RattleType) (s : ServantGhosts S.Denot) (k : KeeperGhosts K.Denot) → IsSend S → IsSend K → IsSync (mutexes.the_row (held.the_row S K s k))
mutex_sync S K s k a b = search (sendable, crosses, some_send) depth 20

-- a closure over two references and two values
pub closure_sync : (ν : Sym) (ℓ ℓ' : NamedLft) (R S P Q : RattleType) (one : One R.mir) (one' : One S.mir) → IsSync R → IsSync S → IsSync P → IsSync Q
    → IsSync (TupleAt ν ((shr_ref_field ℓ R one).row ∷ P ∷ (shr_ref_field ℓ' S one').row ∷ Q ∷ []))
closure_sync ν ℓ ℓ' R S P Q one one' r s p q =
    let Ts : List RattleType = (shr_ref_field ℓ R one).row ∷ P ∷ (shr_ref_field ℓ' S one').row ∷ Q ∷ [] in let T = type_at ν Ts in
    recorded_sync (Struct (shape T)) T.D T.to T.to_one (struct_sync (shape T) (shr_sync ℓ.mir ℓ.lft R r, (p, (shr_sync ℓ'.mir ℓ'.lft S s, (q, tt)))))

pub number_sync : IsSync u32-field.row
number_sync = search sendable
