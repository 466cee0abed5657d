-- The account keeps the laws of a servant: what it owes over balances.
use Rattle.std.proofs.Common.{◌≡◌, ℕ, ◌+◌, ◌-◌, ◌^◌, ◌<◌, Bool, true, false, nat_lt, if◌then◌else◌, ℤ, pos, negsuc, List, [], Option, Some, None, option_map, codes, length, refl, ap, lit<, lit≤}
use Rattle.std.proofs.Math.Nat.{lt_of_lt_of_le, lt_of_le_of_lt, sub-le}
use Rattle.std.proofs.lemmas.Bool.{ltb-true, lt-ltb}
use Rattle.byteorder.specs.Numbers.{big_number-reads_back}
use Rattle.ft_base.specs.Canonical.{number_at}
use Rattle.ft_base.specs.Coding as words
use Rattle.ft_base.specs.Coding.{IsCoding, value_in}
use Rattle.ft_base.specs.CodingLaws as codings
use Rattle.ft_base.specs.Machine.{FitsAs, IsGivenAs}
use Rattle.ft_base.specs.Text.{IsName}
use Rattle.ft_base.specs.declared.requests.Outcome.{Outcome}
use Rattle.ft_base.specs.declared.requests.Outcome.TheVariants.{User}
use Rattle.servant_account.specs.Operations.{operation_of, signature_of}
use Rattle.servant_account.specs.Account.{account, balance_in, deposited, is_balance, opening_state, ran, read, spelled, state_of, told, withdrawn}
use Rattle.servant_account.specs.declared.operations.Operation.{Operation}
use Rattle.servant_account.specs.declared.operations.Operation.TheVariants.{Deposit, Withdraw, Balance}

-- an account of nothing has the opening state
pub opens : state_of 0 ≡ opening_state
unfolding account words.state_of
opens = refl

-- state bytes say the balance that they were made of
read_back : (n : ℕ) → is_balance n ≡ true → read (spelled n) ≡ Some n
read_back n h = ap (λ (m : ℕ). Some m) (big_number-reads_back 8 n [] (lt_of_lt_of_le (ltb-true n (2 ^ 63) h) (lit≤ tt)))

eight : (n : ℕ) → length (spelled n) + 8 < 2 ^ 32
eight n = lit< tt

bad_amount : IsName (codes "BadAmount")
bad_amount = record { filled = lit< tt; short = lit≤ tt; no_zero = refl }

overflow : IsName (codes "Overflow")
overflow = record { filled = lit< tt; short = lit≤ tt; no_zero = refl }

insufficient : IsName (codes "Insufficient")
insufficient = record { filled = lit< tt; short = lit≤ tt; no_zero = refl }

-- a balance that is told is in canonical form
told_gives : (n : ℕ) → n < 2 ^ 63 → IsGivenAs (Some (signature_of Balance)) (told n)
told_gives n h = ((number_at 8 0 n, [], refl, (pos n, record { sfits = h }, refl), refl), lit≤ tt)

deposited_gives : (b : ℕ) (amount : ℤ) → IsGivenAs (Some (signature_of Deposit)) (deposited b amount).1
deposited_gives b (negsuc n) = bad_amount
deposited_gives b (pos n) =
    let next : Bool → ℕ × Outcome = λ t. if t then (b + n, told (b + n)) else (b, User (codes "Overflow")) in
    let go : (t : Bool) → nat_lt (b + n) (2 ^ 63) ≡ t → IsGivenAs (Some (signature_of Deposit)) (next t).1 =
    elim [ true ↦ λ e. told_gives (b + n) (ltb-true (b + n) (2 ^ 63) e) | false ↦ λ e. overflow ] in
    go (nat_lt (b + n) (2 ^ 63)) refl

withdrawn_gives : (b : ℕ) (amount : ℤ) → b < 2 ^ 63 → IsGivenAs (Some (signature_of Withdraw)) (withdrawn b amount).1
withdrawn_gives b (negsuc n) h = bad_amount
withdrawn_gives b (pos n) h =
    let next : Bool → ℕ × Outcome = λ t. if t then (b, User (codes "Insufficient")) else (b - n, told (b - n)) in
    let go : (t : Bool) → IsGivenAs (Some (signature_of Withdraw)) (next t).1 =
    elim [ true ↦ insufficient | false ↦ told_gives (b - n) (lt_of_le_of_lt (sub-le b n) h) ] in
    go (nat_lt b n)

ran_gives : (o : Option Operation) (b : ℕ) (args : List ℕ) → b < 2 ^ 63 → FitsAs (option_map signature_of o) args
    → IsGivenAs (option_map signature_of o) (ran o b args).1
ran_gives None b args h fits = fits
ran_gives (Some Deposit) b args h fits = deposited_gives b _
ran_gives (Some Withdraw) b args h fits = withdrawn_gives b _ h
ran_gives (Some Balance) b args h fits = told_gives b h

-- every operation leaves a balance
deposited_stays : (b : ℕ) (amount : ℤ) → is_balance b ≡ true → is_balance (deposited b amount).0 ≡ true
deposited_stays b (negsuc n) h = h
deposited_stays b (pos n) h =
    let next : Bool → ℕ × Outcome = λ t. if t then (b + n, told (b + n)) else (b, User (codes "Overflow")) in
    let go : (t : Bool) → nat_lt (b + n) (2 ^ 63) ≡ t → is_balance (next t).0 ≡ true = elim [ true ↦ λ e. e | false ↦ λ e. h ] in
    go (nat_lt (b + n) (2 ^ 63)) refl

withdrawn_stays : (b : ℕ) (amount : ℤ) → is_balance b ≡ true → is_balance (withdrawn b amount).0 ≡ true
withdrawn_stays b (negsuc n) h = h
withdrawn_stays b (pos n) h =
    let next : Bool → ℕ × Outcome = λ t. if t then (b, User (codes "Insufficient")) else (b - n, told (b - n)) in
    let go : (t : Bool) → is_balance (next t).0 ≡ true =
    elim [ true ↦ h | false ↦ lt-ltb (b - n) (2 ^ 63) (lt_of_le_of_lt (sub-le b n) (ltb-true b (2 ^ 63) h)) ] in
    go (nat_lt b n)

ran_stays : (o : Option Operation) (b : ℕ) (args : List ℕ) → is_balance b ≡ true → is_balance (ran o b args).0 ≡ true
ran_stays None b args h = h
ran_stays (Some Deposit) b args h = deposited_stays b _ h
ran_stays (Some Withdraw) b args h = withdrawn_stays b _ h
ran_stays (Some Balance) b args h = h

pub owes : IsCoding account (λ n m. Unit {0})
unfolding account balance_in value_in
owes = record {
  opens = refl;
  reads_back = read_back;
  short = λ n h. eight n;
  stays = λ n q h fits. ran_stays (operation_of q.op) n q.args h;
  gives = λ n q h fits. ran_gives (operation_of q.op) n q.args (ltb-true n (2 ^ 63) h) fits;
  update_short = λ n m h k. eight m;
  update_stays = λ n m u h is. (codings.says account u m is).valid;
  leads_itself = λ n h. tt;
  leads_on = λ n m q h k fits leads. tt;
  updates = λ n m h k leads. codings.said_where account m k (read_back m k);
}
