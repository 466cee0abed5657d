-- A client's name is one, and the hosts of a view's reference can be called.
use Rattle.std.proofs.Common.{◌≡◌, ◌∙◌, ◌<◌, ◌≤◌, ◌+◌, ◌%◌, ◌^◌, ℕ, Bool, true, false, not, zero, suc, refl, sym, arith, List, [], ◌∷◌, length, map, decimal, None}
use Rattle.std.specs.Prelude.{◌==◌, nat_lt}
use Rattle.std.specs.List.{list_all, prefix_len}
use Rattle.std.proofs.lemmas.Bool.{and_from, and_parts, le-ltb, lt-ltb, ne_eqb, true≢false}
use Rattle.std.proofs.lemmas.List.Folds.{list_all-append}
use Rattle.std.proofs.lemmas.Fmt.{decimal_by_steps, length-decimal-le}
use Rattle.ft_base.specs.Text.{name_refusal, zero_place}
use Rattle.ft_base.specs.declared.numbers.GroupId.{GroupId}
use Rattle.ft_base.specs.declared.views.View.{View}
use Rattle.iogr_reference.specs.Views.{group_of_view, iiop_of_host}
use Rattle.client_replies.specs.Heards.{is_host}
use Rattle.client_calls.specs.Requests.{HasHosts}
use Rattle.live_clients.specs.Clients.{client_name}

are_hosts : (group : GroupId) (view : View) (ports : List ℕ) (hosts : List ℕ) → list_all is_host (map (iiop_of_host group view ports) hosts) ≡ true
are_hosts group view ports [] = refl
are_hosts group view ports (host ∷ hosts) = are_hosts group view ports hosts

pub view_hosts : (group : GroupId) (type_id : List ℕ) (view : View) (ports : List ℕ) → HasHosts (group_of_view group type_id view ports)
view_hosts group type_id view ports = are_hosts group view ports view.members

abbrev no_zero : List ℕ → Bool
no_zero = list_all (λ b. nat_lt 0 b)

above_zero : (n : ℕ) → nat_lt 0 (48 + n) ≡ true
above_zero n = lt-ltb 0 (48 + n) (omega arith)

decimal_no_zero : (n : ℕ) → n < 2 ^ 64 → no_zero (decimal n) ≡ true
decimal_no_zero n fits = decimal_by_steps (λ m ds. no_zero ds ≡ true) (λ m small. and_from _ _ (above_zero m) refl)
    (λ m ds large so_far. list_all-append (λ b. nat_lt 0 b) ds ((48 + m % 10) ∷ []) ∙ and_from _ _ so_far (and_from _ _ (above_zero (m % 10)) refl)) n fits

no_place : (text : List ℕ) → no_zero text ≡ true → prefix_len (λ x. not (x == 0)) text ≡ length text
no_place [] is = refl
no_place (zero ∷ xs) is = absurd (true≢false (sym is))
no_place (suc x ∷ xs) is =
    let more = no_place xs (and_parts (nat_lt 0 (suc x)) (no_zero xs) is).1 in
    let differs : (suc x == 0) ≡ false = ne_eqb (suc x) 0 (λ e. absurd (omega (arith, e))) in
    rw differs (omega (arith, more))

none_zero : (text : List ℕ) → no_zero text ≡ true → zero_place text ≡ None
none_zero text is =
    let at = no_place text is in
    let past : nat_lt (prefix_len (λ x. not (x == 0)) text) (length text) ≡ false = le-ltb (prefix_len (λ x. not (x == 0)) text) (length text) (omega (arith, at)) in
    rw past refl

pub name_short : (n : ℕ) → n < 2 ^ 64 → length (client_name n) ≤ 21
name_short n fits = let few = length-decimal-le 20 n (omega arith) (omega arith) fits in omega (arith, few)

pub is_a_name : (n : ℕ) → n < 2 ^ 64 → name_refusal (client_name n) ≡ None
is_a_name n fits =
    let few = name_short n fits in
    let short : nat_lt 255 (length (client_name n)) ≡ false = le-ltb 255 (length (client_name n)) (omega (arith, few)) in
    let none : zero_place (client_name n) ≡ None = none_zero (client_name n) (decimal_no_zero n fits) in
    let filled : (length (client_name n) == 0) ≡ false = ne_eqb (length (client_name n)) 0 (λ e. absurd (omega (arith, e))) in
    rw (filled, short, none) refl
