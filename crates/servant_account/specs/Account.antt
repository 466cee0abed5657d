-- The account: a balance from 0 to 9,223,372,036,854,775,807, and what the operations make of it.
use Rattle.std.specs.Prelude.{ℕ, ◌+◌, ◌-◌, ◌^◌, Bool, nat_lt, if◌then◌else◌, ℤ, pos, negsuc, List, [], Option, Some, None, option_map, codes, replicate}
use Rattle.std.specs.Int.{cast_signed, w64}
use Rattle.byteorder.specs.Endian.{big_bytes, big_number}
use Rattle.ft_base.specs.Canonical.{number_at}
use Rattle.ft_base.specs.Coding as codings
use Rattle.ft_base.specs.Coding.{Coding, machine_of, said}
use Rattle.ft_base.specs.Machine.{Machine}
use Rattle.ft_base.specs.declared.requests.Request.{Request}
use Rattle.ft_base.specs.declared.requests.Outcome.{Outcome}
use Rattle.ft_base.specs.declared.requests.Outcome.TheVariants.{Value, User}
use Rattle.servant_account.specs.Operations.{operation_of, signature_of}
use Rattle.servant_account.specs.declared.operations.Operation.{Operation}
use Rattle.servant_account.specs.declared.operations.Operation.TheVariants.{Deposit, Withdraw, Balance}

-- a balance is below 2^63
abbrev pub is_balance : ℕ → Bool
is_balance balance = nat_lt balance (2 ^ 63)

-- a balance's state bytes
abbrev pub spelled : ℕ → List ℕ
spelled balance = big_bytes 8 balance

abbrev pub read : List ℕ → Option ℕ
read bytes = Some (big_number 8 bytes)

-- the balance whose state bytes these are
unfoldable pub balance_in : List ℕ → Option ℕ
balance_in bytes = said is_balance spelled read bytes

-- the state of an account that opens: 8 bytes of 0
abbrev pub opening_state : List ℕ
opening_state = replicate 8 0

-- the signed number that an operation's arguments say
abbrev pub amount_of : List ℕ → ℤ
amount_of args = cast_signed w64 (big_number 8 args)

-- a balance as an operation gives it
abbrev pub told : ℕ → Outcome
told balance = Value (number_at 8 0 balance)

-- a deposit: refused where the amount is negative, and where the sum is above the largest balance
abbrev pub deposited : ℕ → ℤ → ℕ × Outcome
deposited balance (negsuc _) = (balance, User (codes "BadAmount"))
deposited balance (pos amount) =
    if nat_lt (balance + amount) (2 ^ 63) then (balance + amount, told (balance + amount))
    else (balance, User (codes "Overflow"))

-- a withdrawal: refused where the amount is negative, and where it is above the balance
abbrev pub withdrawn : ℕ → ℤ → ℕ × Outcome
withdrawn balance (negsuc _) = (balance, User (codes "BadAmount"))
withdrawn balance (pos amount) =
    if nat_lt balance amount then (balance, User (codes "Insufficient"))
    else (balance - amount, told (balance - amount))

-- the balance after an operation, and its outcome; an operation that there is not gives nothing
abbrev pub ran : Option Operation → ℕ → List ℕ → ℕ × Outcome
ran None balance args = (balance, Value [])
ran (Some Deposit) balance args = deposited balance (amount_of args)
ran (Some Withdraw) balance args = withdrawn balance (amount_of args)
ran (Some Balance) balance args = (balance, told balance)

-- the balance after a request, and its outcome
abbrev pub step_of : ℕ → Request → ℕ × Outcome
step_of balance request = ran (operation_of request.op) balance request.args

-- the account as a servant; an update is the later state itself, so that to take it twice is to take it once
unfoldable pub account : Coding ℕ
account = record {
  signature = λ op. option_map signature_of (operation_of op);
  opening = 0;
  valid = is_balance;
  spelled = spelled;
  read = read;
  step = step_of;
  delta = λ base later. spelled later;
  applied = λ balance update. balance_in update;
}

-- the same over state bytes
abbrev pub account_machine : Machine
account_machine = machine_of account

-- the state bytes of an account with this balance
abbrev pub state_of : ℕ → List ℕ
state_of balance = codings.state_of account balance
