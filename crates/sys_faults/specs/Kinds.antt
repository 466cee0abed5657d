-- The names of the standard exceptions, as IDL writes them.
use Rattle.std.specs.Prelude.{ℕ, List, Option, Some, None, codes}
use Rattle.sys_faults.specs.declared.faults.SysKind.{SysKind}
use Rattle.sys_faults.specs.declared.faults.SysKind.TheVariants.{ObjectNotExist, BadContext, InvObjref, Transient, BadOperation, Marshal, ImpLimit, NoResources, PersistStore, CommFailure, NoResponse, ObjAdapter, NoMemory, Unknown}

-- an exception's name; none for one that is known by its repository id alone
abbrev pub kind_name : SysKind → Option (List ℕ)
kind_name ObjectNotExist = Some (codes "OBJECT_NOT_EXIST")
kind_name BadContext = Some (codes "BAD_CONTEXT")
kind_name InvObjref = Some (codes "INV_OBJREF")
kind_name Transient = Some (codes "TRANSIENT")
kind_name BadOperation = Some (codes "BAD_OPERATION")
kind_name Marshal = Some (codes "MARSHAL")
kind_name ImpLimit = Some (codes "IMP_LIMIT")
kind_name NoResources = Some (codes "NO_RESOURCES")
kind_name PersistStore = Some (codes "PERSIST_STORE")
kind_name CommFailure = Some (codes "COMM_FAILURE")
kind_name NoResponse = Some (codes "NO_RESPONSE")
kind_name ObjAdapter = Some (codes "OBJ_ADAPTER")
kind_name NoMemory = Some (codes "NO_MEMORY")
kind_name (Unknown id) = None
