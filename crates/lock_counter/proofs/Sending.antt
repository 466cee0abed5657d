-- What threads that count share and hand over.
use denote.RattleType.{RattleType}
use denote.Struct.Field.{u64-field, shr_ref_field}
use denote.Struct.Tuple.{TupleAt, type_at}
use denote.Struct.Declared.{shape}
use denote.Struct.Struct.{Struct}
use denote.Ref.{NamedLft}
use denote.Builtin.{One}
use mir.Syntax.{Sym}
use Rattle.std.proofs.Common.{List, [], ◌∷◌}
use denote.Param.Send.{IsSend, IsSync, sendable, recorded_send, recorded_sync, struct_send, struct_sync, shr_send, shr_sync}
use Rattle.std.proofs.Crossing.{crosses}
use Rattle.hist_lock.specs.contracts.locks.HistLock as locks
use Rattle.hist_lock.specs.contracts.passes.Pass as passes
use Rattle.hist_lock.specs.Sending.{lock_sync, pass_send}
use Rattle.lock_counter.specs.contracts.counters.Counter as counters
use Rattle.lock_counter.specs.contracts.counters.CounterObject.TheImpl.{ghosts}

counter_send : IsSend counters.the_row
counter_send = search (sendable, crosses) depth 20

pub counter_lock : IsSync (locks.the_row counters.the_row u64-field.row u64-field.row ghosts)
counter_lock = lock_sync counters.the_row u64-field.row u64-field.row ghosts counter_send

pub counter_pass : IsSend (passes.the_row counters.the_row u64-field.row u64-field.row ghosts)
counter_pass = pass_send counters.the_row u64-field.row u64-field.row ghosts counter_send

-- a closure over two references and a value
pub closure_send : (ν : Sym) (ℓ ℓ' : NamedLft) (R S P : RattleType) (one : One R.mir) (one' : One S.mir) → IsSync R → IsSync S → IsSend P
    → IsSend (TupleAt ν ((shr_ref_field ℓ R one).row ∷ (shr_ref_field ℓ' S one').row ∷ P ∷ []))
closure_send ν ℓ ℓ' R S P one one' r s p =
    let Ts : List RattleType = (shr_ref_field ℓ R one).row ∷ (shr_ref_field ℓ' S one').row ∷ P ∷ [] in let T = type_at ν Ts in
    recorded_send (Struct (shape T)) T.D T.to T.to_one (struct_send (shape T) (shr_send ℓ.mir ℓ.lft R r, (shr_send ℓ'.mir ℓ'.lft S s, (p, tt))))

pub closure_sync : (ν : Sym) (ℓ ℓ' : NamedLft) (R S P : RattleType) (one : One R.mir) (one' : One S.mir) → IsSync R → IsSync S → IsSync P
    → IsSync (TupleAt ν ((shr_ref_field ℓ R one).row ∷ (shr_ref_field ℓ' S one').row ∷ P ∷ []))
closure_sync ν ℓ ℓ' R S P one one' r s p =
    let Ts : List RattleType = (shr_ref_field ℓ R one).row ∷ (shr_ref_field ℓ' S one').row ∷ P ∷ [] in let T = type_at ν Ts in
    recorded_sync (Struct (shape T)) T.D T.to T.to_one (struct_sync (shape T) (shr_sync ℓ.mir ℓ.lft R r, (shr_sync ℓ'.mir ℓ'.lft S s, (p, tt))))

pub number_sync : IsSync u64-field.row
number_sync = search sendable
