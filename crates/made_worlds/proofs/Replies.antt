-- The replies of an account, and their sizes.
use Rattle.std.proofs.Common.{◌≡◌, ℕ, zero, suc, ◌+◌, ◌-◌, ◌≤◌, ◌^◌, nat_lt, Bool, true, false, if◌then◌else◌, List, [], ◌∷◌, length, Option, Some, None, refl, lit≤, ℤ, pos, negsuc, codes}
use Rattle.ft_base.specs.Coding as words
use Rattle.ft_base.specs.Journal.{Entry, after, reply_at}
use Rattle.ft_base.specs.declared.requests.Outcome.{Outcome}
use Rattle.ft_base.specs.declared.requests.Outcome.TheVariants.{Value, User}
use Rattle.ft_base.specs.declared.requests.Par.TheVariants.{I64}
use Rattle.ft_base.specs.declared.requests.Request.{Request}
use Rattle.host_server.specs.declared.answers.PortAnswer.TheVariants as port_answers
use Rattle.message_sizes.specs.Sizes.{answer_size, reply_size}
use Rattle.servant_account.specs.Account.{account, account_machine, deposited, ran, told, withdrawn}
use Rattle.servant_account.specs.Operations.{operation_of}
use Rattle.servant_account.specs.declared.operations.Operation.{Operation}
use Rattle.servant_account.specs.declared.operations.Operation.TheVariants.{Deposit, Withdraw, Balance}

-- a message isn't longer
abbrev pub MOST : ℕ
MOST = 4096

-- a reply that gives it isn't too long
abbrev pub IsBrief : Outcome → Type 0
IsBrief outcome = answer_size (port_answers.Done outcome (Some I64)) ≤ MOST

told_brief : (balance : ℕ) → IsBrief (told balance)
unfolding answer_size reply_size
told_brief balance = lit≤ tt

nothing_brief : IsBrief (Value [])
unfolding answer_size reply_size
nothing_brief = lit≤ tt

amount_brief : IsBrief (User (codes "BadAmount"))
unfolding answer_size reply_size
amount_brief = lit≤ tt

overflow_brief : IsBrief (User (codes "Overflow"))
unfolding answer_size reply_size
overflow_brief = lit≤ tt

insufficient_brief : IsBrief (User (codes "Insufficient"))
unfolding answer_size reply_size
insufficient_brief = lit≤ tt

either_brief : (b : Bool) (x y : ℕ × Outcome) → IsBrief x.1 → IsBrief y.1 → IsBrief (if b then x else y).1
either_brief true x y p q = p
either_brief false x y p q = q

deposited_brief : (b : ℕ) (amount : ℤ) → IsBrief (deposited b amount).1
deposited_brief b (negsuc n) = amount_brief
deposited_brief b (pos n) =
    either_brief (nat_lt (b + n) (2 ^ 63)) (b + n, told (b + n)) (b, User (codes "Overflow")) (told_brief (b + n)) overflow_brief

withdrawn_brief : (b : ℕ) (amount : ℤ) → IsBrief (withdrawn b amount).1
withdrawn_brief b (negsuc n) = amount_brief
withdrawn_brief b (pos n) =
    either_brief (nat_lt b n) (b, User (codes "Insufficient")) (b - n, told (b - n)) insufficient_brief (told_brief (b - n))

ran_brief : (o : Option Operation) (b : ℕ) (args : List ℕ) → IsBrief (ran o b args).1
ran_brief None b args = nothing_brief
ran_brief (Some Deposit) b args = deposited_brief b _
ran_brief (Some Withdraw) b args = withdrawn_brief b _
ran_brief (Some Balance) b args = told_brief b

step_brief : (s : List ℕ) (q : Request) → IsBrief (account_machine.step s q).1
unfolding words.machine_of account
step_brief s q = ran_brief (operation_of q.op) (words.value_of account s) q.args

-- every reply of an account is brief
pub reply_brief : (s : List ℕ) (es : List Entry) (i : ℕ) → IsBrief (reply_at account_machine s es i)
unfolding reply_at
reply_brief s [] i = nothing_brief
reply_brief s (e ∷ es) zero = step_brief s e.request
reply_brief s (e ∷ es) (suc i) = reply_brief (account_machine.step s e.request).0 es i

-- every state of it has eight bytes
step_short : (s : List ℕ) (q : Request) → length (account_machine.step s q).0 ≡ 8
unfolding words.machine_of account
step_short s q = refl

pub state_short : (s : List ℕ) (es : List Entry) → length s ≡ 8 → length (after account_machine s es) ≡ 8
unfolding after
state_short s [] e = e
state_short s (entry ∷ es) e = state_short (account_machine.step s entry.request).0 es (step_short s entry.request)
