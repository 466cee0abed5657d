-- What threads that share a group share and hand over.
use denote.RattleType.{RattleType}
use denote.Struct.Field.{shr_ref_field}
use denote.Struct.Tuple.{TupleAt, type_at}
use denote.Struct.Declared.{shape}
use denote.Struct.Struct.{Struct}
use denote.Ref.{NamedLft}
use denote.Builtin.{One}
use mir.Syntax.{Sym}
use denote.Param.Send.{IsSend, IsSync, sendable, recorded_sync, struct_sync, shr_sync}
use Rattle.std.proofs.Common.{List, [], ◌∷◌}
use Rattle.std.proofs.Crossing.{crosses}
use Rattle.ft_base.specs.declared.servants.Servant.{Ghosts as ServantGhosts}
use Rattle.ft_outside.specs.declared.keepers.Keeper.{Ghosts as KeeperGhosts}
use Rattle.hist_lock.specs.contracts.passes.Pass as passes
use Rattle.shared_group.specs.contracts.books.Book as books
use Rattle.shared_group.specs.contracts.books.BookObject.TheImpl as objects
use Rattle.shared_group.specs.contracts.calls.Call as calls
use Rattle.shared_group.specs.contracts.calls.CallAnswer as told
use Rattle.shared_group.specs.Sending.{pass_crosses}
use Rattle.deposit_callers.specs.contracts.workers.Worker as workers

-- a worker with its pass
module _ (S K : RattleType) (s : ServantGhosts S.Denot) (k : KeeperGhosts K.Denot) (a : IsSend S) (b : IsSend K) where
  pass_send : IsSend (passes.the_field (books.the_row S K s k) calls.the_row told.the_row (objects.ghosts S K s objects.no_dict k objects.no_dict objects.no_dict)).row
  pass_send = pass_crosses S K s k a b

  pub worker_send : IsSend (workers.the_row S K s k)
  worker_send = search (sendable, crosses, pass_send) depth 20

-- a closure over two references and a value
pub closure_sync : (ν : Sym) (ℓ ℓ' : NamedLft) (R S P : RattleType) (one : One R.mir) (one' : One S.mir) → IsSync R → IsSync S → IsSync P
    → IsSync (TupleAt ν ((shr_ref_field ℓ R one).row ∷ P ∷ (shr_ref_field ℓ' S one').row ∷ []))
closure_sync ν ℓ ℓ' R S P one one' r s p =
    let Ts : List RattleType = (shr_ref_field ℓ R one).row ∷ P ∷ (shr_ref_field ℓ' S one').row ∷ [] in let T = type_at ν Ts in
    recorded_sync (Struct (shape T)) T.D T.to T.to_one (struct_sync (shape T) (shr_sync ℓ.mir ℓ.lft R r, (p, (shr_sync ℓ'.mir ℓ'.lft S s, tt))))
