-- The kinds of servant that are shipped, by their type ids, and what each is as a servant.
use Rattle.std.specs.Prelude.{ℕ, zero, suc, List, [], ◌∷◌, Option, codes}
use Rattle.std.specs.List.{find}
use Rattle.std.specs.Str.{bytes_eq}
use Rattle.ft_base.specs.Coding.{state_of}
use Rattle.ft_base.specs.Machine.{Machine}
use Rattle.servant_account.specs.Account.{account, account_machine}
use Rattle.servant_queue.specs.Queue.{queue, queue_machine}
use Rattle.servant_store.specs.Store.{store, store_machine}
use Rattle.shipped_servants.specs.declared.kinds.Kind.{Kind}
use Rattle.shipped_servants.specs.declared.kinds.Kind.TheVariants as kinds
use Rattle.shipped_servants.specs.declared.shipped.Shipped.{Shipped}
use Rattle.shipped_servants.specs.declared.shipped.Shipped.TheVariants as shipped

-- all kinds
abbrev pub all : List Kind
all = kinds.Account ∷ kinds.Store ∷ kinds.Queue ∷ []

abbrev pub type_id : Kind → List ℕ
type_id kinds.Account = codes "IDL:ftc/Account:1.0"
type_id kinds.Store = codes "IDL:ftc/Store:1.0"
type_id kinds.Queue = codes "IDL:ftc/Queue:1.0"

-- the kind with a type id
abbrev pub kind_with : List ℕ → Option Kind
kind_with id = find (λ kind. bytes_eq id (type_id kind)) all

-- a kind as a number
abbrev pub number_of : Kind → ℕ
number_of kinds.Account = 0
number_of kinds.Store = 1
number_of kinds.Queue = 2

-- the function of the kind with a number
abbrev pub machine_of_kind : ℕ → Machine
machine_of_kind zero = account_machine
machine_of_kind (suc zero) = store_machine
machine_of_kind (suc (suc k)) = queue_machine

-- the state of a servant that opens
abbrev pub opening_of : Kind → List ℕ
opening_of kinds.Account = state_of account 0
opening_of kinds.Store = state_of store []
opening_of kinds.Queue = state_of queue (record { popped = 0; items = [] })

-- ---- a servant that is shipped

abbrev pub kind_of : Shipped → ℕ
kind_of (shipped.Account servant) = number_of kinds.Account
kind_of (shipped.Store servant) = number_of kinds.Store
kind_of (shipped.Queue servant) = number_of kinds.Queue

abbrev pub state_of_shipped : Shipped → List ℕ
state_of_shipped (shipped.Account servant) = state_of account servant
state_of_shipped (shipped.Store servant) = state_of store servant
state_of_shipped (shipped.Queue servant) = state_of queue servant
