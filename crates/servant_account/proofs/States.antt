-- Eight bytes as a number, and as a state.
use Rattle.std.proofs.Common.{◌≡◌, ◌≢◌, ℕ, ◌^◌, ◌<◌, ◌≤◌, true, ◌&&◌, if◌then◌else◌, List, [], Option, Some, None, Result, Ok, Err, length, take, drop, get_or, refl, ap, sym, ◌∙◌, arith, lit≤}
use Rattle.std.proofs.Math.Nat.{lt_of_lt_of_le}
use Rattle.std.proofs.lemmas.Bool.{lt-ltb, ltb-true}
use Rattle.std.proofs.lemmas.Nat.{be_bytes_8}
use Rattle.std.proofs.lemmas.Slice.Eq.{bytes_eq-Decides}
use Rattle.std.specs.Str.{bytes_eq}
use Rattle.byteorder.specs.Endian.{big_number}
use Rattle.byteorder.specs.Numbers.{big_from-take, big_number-reads_back}
use Rattle.cdr_codec.specs.declared.orders.Order.TheVariants.{Big}
use Rattle.cdr_codec.specs.Formats.{number}
use Rattle.cdr_codec.specs.Reading.{Reader, Fault, reader_at}
use Rattle.cdr_codec.specs.declared.faults.CdrWhy.{CdrWhy}
use Rattle.ft_base.specs.Coding.{value_in}
use Rattle.ft_base.specs.CodingLaws.{Says, says}
use Rattle.servant_account.specs.Account.{account, balance_in, is_balance, spelled}

one_value : {X Y E : Type 0} (x z : X) (y w : Y) (r : Result (X × Y) E) → r ≡ Ok (x, y) → r ≡ Ok (z, w) → z ≡ x
one_value {X} {Y} x z y w r h e = let same : (z, w) ≡ (x, y) = cc in ap (λ (p : X × Y). p.0) same

-- eight bytes are read as one number
reads : (digits : List ℕ) → length digits ≡ 8
    → (number 8).read (reader_at Big 0 digits) ≡ Ok (big_number 8 (take 8 digits), reader_at Big 8 (drop 8 digits))
reads digits h = rw h refl

pub number_read : (digits : List ℕ) (n : ℕ) (next : Reader) → length digits ≡ 8
    → (number 8).read (reader_at Big 0 digits) ≡ Ok (n, next) → n ≡ big_number 8 digits
number_read digits n next h e =
    one_value (big_number 8 (take 8 digits)) n (reader_at Big 8 (drop 8 digits)) next ((number 8).read (reader_at Big 0 digits)) (reads digits h) e
    ∙ big_from-take 0 8 8 digits (lit≤ tt)

pub number_is_there : (digits : List ℕ) (wrong : Fault CdrWhy) → length digits ≡ 8
    → (number 8).read (reader_at Big 0 digits) ≡ Err wrong → ⊥
number_is_there digits wrong h e = cc (reads digits h, e)

-- bytes that are some balance's state bytes: eight of them, whose number is a balance
say : (s : List ℕ) (n : ℕ) → balance_in s ≡ Some n → Says account s n
unfolding account balance_in value_in
say s n is = says account s n is

unsaid : (s : List ℕ) → ((n : ℕ) → balance_in s ≡ Some n → ⊥) → balance_in s ≡ None
unsaid s h =
    let go : (o : Option ℕ) → balance_in s ≡ o → balance_in s ≡ None = elim [ None ↦ λ e. e | Some n ↦ λ e. absurd (h n e) ] in
    go (balance_in s) refl

pub unsaid_by_length : (s : List ℕ) → length s ≢ 8 → balance_in s ≡ None
unfolding account
unsaid_by_length s h = unsaid s (λ n e. let is = (say s n e).spelled in h (ap length is))

said_is : (s : List ℕ) (n : ℕ) → balance_in s ≡ Some n → n ≡ big_number 8 s
unfolding account
said_is s n e =
    let there = say s n e in
    sym (big_number-reads_back 8 n [] (lt_of_lt_of_le (ltb-true n (2 ^ 63) there.valid) (lit≤ tt))) ∙ sym (ap (big_number 8) there.spelled)

pub unsaid_by_sign : (s : List ℕ) → 2 ^ 63 ≤ big_number 8 s → balance_in s ≡ None
unfolding account
unsaid_by_sign s h = unsaid s (λ n e.
    let small = ltb-true n (2 ^ 63) (say s n e).valid in let is = said_is s n e in omega arith)

-- eight bytes whose number is in range are its state bytes
pub balance_said : (s : List ℕ) → length s ≡ 8 → ((i : ℕ) → get_or s i 0 < 256) → big_number 8 s < 2 ^ 63
    → balance_in s ≡ Some (big_number 8 s)
unfolding balance_in
balance_said s h small below =
    let digits : spelled (big_number 8 s) ≡ s = be_bytes_8 s (big_number 8 s) h small (omega arith) in
    let fine : is_balance (big_number 8 s) ≡ true = lt-ltb (big_number 8 s) (2 ^ 63) below in
    let same : bytes_eq s (spelled (big_number 8 s)) ≡ true = (bytes_eq-Decides s (spelled (big_number 8 s))).1 (sym digits) in
    ap (λ b. if b && bytes_eq s (spelled (big_number 8 s)) then Some (big_number 8 s) else None) fine
    ∙ ap (λ b. if b then Some (big_number 8 s) else None) same

-- ---- an account in range, as a servant

pub good : (n : ℕ) → n < 2 ^ 63 → account.valid n ≡ true
unfolding account
good n h = lt-ltb n (2 ^ 63) h

pub value_is : (s : List ℕ) → value_in account s ≡ balance_in s
unfolding account value_in balance_in
value_is s = refl
