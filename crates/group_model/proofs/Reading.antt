-- A request that goes on to the journal may be run, and its arguments aren't too long.
use Rattle.std.proofs.Common.{◌≡◌, ℕ, zero, suc, ◌<◌, ◌≤◌, List, [], ◌∷◌, ◌++◌, length, Option, Some, None, Result, Ok, Err, refl, subst, ltb-false, arith}
use Rattle.std.specs.Prelude.{nat_lt, ◌↔◌}
use Rattle.std.specs.List.{AllByRecursion}
use Rattle.ft_base.specs.Machine.{Machine, Fits, FitsAs}
use Rattle.ft_base.specs.Canonical.{AreOf, AreValuesAt, AreSpelledAs, IsCanonical, values_at}
use Rattle.ft_base.specs.declared.limits.TheConstants.{ARGUMENTS_LIMIT}
use Rattle.ft_base.specs.declared.requests.Par.{Par}
use Rattle.ft_base.specs.declared.requests.Request.{Request}
use Rattle.ft_base.specs.declared.requests.Signature.{Signature}
use Rattle.ft_base.specs.declared.values.Value.{Value}
use Rattle.cdr_codec.specs.declared.bodies.Raw.{Raw}
use Rattle.cdr_codec.specs.declared.faults.CdrWhy.{CdrWhy}
use Rattle.cdr_codec.specs.Reading.{Reader, Read}
use Rattle.cdr_codec.specs.Arguments.{body_reader, params, pars_of, values_read, whole, whole_read}
use Rattle.cdr_codec.proofs.ArgumentLaws.{AreBytes, are_of, params_codec}
use Rattle.group_model.specs.declared.asking.Asked.{Asked}
use Rattle.group_model.specs.declared.refusals.Refusal.{Refusal}
use Rattle.group_model.specs.Plain.{Common}
use Rattle.group_model.specs.Asking.{asked_version, args_by, args_read}
use Rattle.group_model.specs.Decisions.{refused_by_view, unless_refused, request_named, request_with, args_for, args_within, request_in}
use Rattle.group_model.proofs.Choosing.{either_so}

-- ---- octets

all_front : (xs ys : List ℕ) → AllByRecursion (λ b. b < 256) (xs ++ ys) → AllByRecursion (λ b. b < 256) xs
all_front [] ys all = tt
all_front (x ∷ xs) ys all = (all.0, all_front xs ys all.1)

are_bytes : (xs : List ℕ) → AllByRecursion (λ b. b < 256) xs → AreBytes xs
are_bytes [] all i = omega arith
are_bytes (x ∷ xs) all zero = all.0
are_bytes (x ∷ xs) all (suc i) = are_bytes xs all.1 i

-- ---- what is read

-- a law of canonical forms, by which a list of values' canonical form is one of their types
abbrev pub CanonicalForms : Type 0
CanonicalForms = (pars : List Par) (place : ℕ) (bytes : List ℕ) → AreValuesAt pars place bytes ↔ AreSpelledAs pars place bytes

-- of what goes well
abbrev pub OkIs : {A E : Type 0} → (A → Type 0) → Result A E → Type 0
OkIs P (Ok a) = P a
OkIs P (Err e) = Unit {0}

whole_values : (r : Reader) (pars : List Par) (rest : List ℕ) (x : List Value × Reader) → AreOf pars x.0 → OkIs (AreOf pars) (whole rest x)
whole_values r pars [] x of = of
whole_values r pars (b ∷ rest) x of = tt

values_of : (r : Reader) (pars : List Par) (read : Read CdrWhy (List Value)) → AllByRecursion (λ b. b < 256) r.rest → (params pars).read r ≡ read →
    OkIs (AreOf pars) (whole_read read)
values_of r pars (Err e) octets is = tt
values_of r pars (Ok x) octets is =
    let took = (params_codec pars).found r x is in
    let front = all_front took.bytes x.1.rest (subst (AllByRecursion (λ b. b < 256)) took.moved.is octets) in
    whole_values r pars x.1.rest x (are_of pars r.order r.place x.0 took.bytes (are_bytes took.bytes front) took.spelled)

by_canonical : (forms : CanonicalForms) (body : Raw) (pars : List Par) (read : Result (List Value) ℕ) → OkIs (AreOf pars) read →
    OkIs (IsCanonical pars) (args_by body read)
by_canonical forms body pars (Err at) of = tt
by_canonical forms body pars (Ok values) of = (forms pars 0 (values_at 0 values)).1 (record { values = values; typed = of; is = refl })

read_canonical : (forms : CanonicalForms) (body : Raw) (signature : Signature) → AllByRecursion (λ b. b < 256) body.bytes →
    OkIs (IsCanonical (pars_of signature)) (args_read body signature)
unfolding args_read
read_canonical forms body signature octets =
    let pars = pars_of signature in
    by_canonical forms body pars (values_read (body_reader body) pars)
    (values_of (body_reader body) pars ((params pars).read (body_reader body)) octets refl)

-- ---- the rows on the request

-- arguments of an operation, not too long
abbrev MayRun : Option Signature → List ℕ → Type 0
MayRun o args = FitsAs o args × (length args ≤ ARGUMENTS_LIMIT)

within_run : (k : ℕ) (s : Signature) (args : Result (List ℕ) ℕ) → OkIs (IsCanonical (pars_of s)) args → OkIs (MayRun (Some s)) (args_within k args)
within_run k s (Err place) so = tt
within_run k s (Ok args) so =
    either_so (OkIs {E = Refusal} (MayRun (Some s))) (nat_lt ARGUMENTS_LIMIT (length args)) (Err _) (Ok args)
    (λ long. tt) (λ short. (so, ltb-false ARGUMENTS_LIMIT (length args) short))

args_run : (forms : CanonicalForms) (k : ℕ) (o : Option Signature) (body : Raw) → AllByRecursion (λ b. b < 256) body.bytes → OkIs (MayRun o) (args_for k o body)
args_run forms k None body octets = tt
args_run forms k (Some s) body octets = within_run k s (args_read body s) (read_canonical forms body s octets)

-- a request that may be run
abbrev pub Runs : Machine → Request → Type 0
Runs m q = Fits m q × (length q.args ≤ ARGUMENTS_LIMIT)

with_run : (m : Machine) (asked : Asked) (op : List ℕ) (r : Result (List ℕ) Refusal) → OkIs (MayRun (m.signature op)) r → OkIs (Runs m) (request_with asked op r)
with_run m asked op (Err refused) so = tt
with_run m asked op (Ok args) so = so

named_run : (forms : CanonicalForms) (m : Machine) (k : ℕ) (asked : Asked) (op : Option (List ℕ)) → AllByRecursion (λ b. b < 256) asked.body.bytes →
    OkIs (Runs m) (request_named m k asked op)
named_run forms m k asked None octets = tt
named_run forms m k asked (Some op) octets = with_run m asked op (args_for k (m.signature op) asked.body) (args_run forms k (m.signature op) asked.body octets)

pub unless_ok : (P : Request → Type 0) (o : Option Refusal) (r : Result Request Refusal) → OkIs P r → OkIs P (unless_refused o r)
unless_ok P None r so = so
unless_ok P (Some refused) r so = tt

pub ok_so : {E : Type 0} (P : Request → Type 0) (r : Result Request E) (q : Request) → r ≡ Ok q → OkIs P r → P q
ok_so P r q is so = subst (OkIs P) is so

pub requests_run : (forms : CanonicalForms) (m : Machine) (c : Common) (host known : ℕ) (asked : Asked) (q : Request) →
    AllByRecursion (λ b. b < 256) asked.body.bytes → request_in m c host known asked ≡ Ok q → Runs m q
requests_run forms m c host known asked q octets is =
    ok_so (Runs m) (request_in m c host known asked) q is
    (unless_ok (Runs m) (refused_by_view c host (asked_version known asked.version) known) (request_named m known asked asked.op) (named_run forms m known asked asked.op octets))
