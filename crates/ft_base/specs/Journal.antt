-- The journal of a group: the accepted requests in order, each with the tick of its acceptance.
use Rattle.std.specs.Prelude.{◌≡◌, ℕ, zero, suc, ◌<◌, ◌≤◌, ◌&&◌, Bool, false, nat_lt, if◌then◌else◌, List, [], ◌∷◌, slice_get, Option, Some, None}
use Rattle.std.specs.Ordering.{int_eq}
use Rattle.std.specs.List.{AllByRecursion}
use Rattle.std.specs.Str.{bytes_eq}
use Rattle.ft_base.specs.Machine.{Machine, Fits}
use Rattle.ft_base.specs.declared.requests.Key.{Key}
use Rattle.ft_base.specs.declared.requests.Request.{Request}
use Rattle.ft_base.specs.declared.requests.Outcome.{Outcome}
use Rattle.ft_base.specs.declared.requests.Outcome.TheVariants.{Value}

-- an accepted request, and when it was accepted
pub record Entry : Type 0 where
  pub at : ℕ
  pub request : Request

-- the state after these requests in order
unfoldable pub after : Machine → List ℕ → List Entry → List ℕ
after machine state [] = state
after machine state (entry ∷ entries) = after machine (machine.step state entry.request).0 entries

-- the one reply of the request at a place: its outcome in the state after all requests before it
-- (past the journal's end, an empty value)
unfoldable pub reply_at : Machine → List ℕ → List Entry → ℕ → Outcome
reply_at machine state [] i = Value []
reply_at machine state (entry ∷ entries) zero = (machine.step state entry.request).1
reply_at machine state (entry ∷ entries) (suc i) = reply_at machine (machine.step state entry.request).0 entries i

-- the replies of all requests, in order
unfoldable pub replies : Machine → List ℕ → List Entry → List Outcome
replies machine state [] = []
replies machine state (entry ∷ entries) =
    (machine.step state entry.request).1 ∷ replies machine (machine.step state entry.request).0 entries

-- every request of the journal may be run
abbrev pub AllFit : Machine → List Entry → Type 0
AllFit machine journal = AllByRecursion (λ entry. Fits machine entry.request) journal

-- a key of this client and retention id
abbrev pub is_call : Key → Option Key → Bool
is_call key None = false
is_call key (Some other) = bytes_eq key.client other.client && int_eq key.retention.0 other.retention.0

-- one whose expiration is still to come
abbrev pub is_unexpired : ℕ → Option Key → Bool
is_unexpired now None = false
is_unexpired now (Some key) = nat_lt now key.expiration.0

-- both
abbrev pub is_held_by : ℕ → Key → Option Key → Bool
is_held_by now key None = false
is_held_by now key (Some other) = is_call key (Some other) && is_unexpired now (Some other)

abbrev pub is_held : ℕ → Key → Entry → Bool
is_held now key entry = is_held_by now key entry.request.key

-- the greatest place of a list at which a test holds
abbrev pub later_or : Option ℕ → Bool → Option ℕ
later_or None holds = if holds then Some 0 else None
later_or (Some i) holds = Some (suc i)

unfoldable pub last_place : {A : Type 0} → (A → Bool) → List A → Option ℕ
last_place test [] = None
last_place test (x ∷ xs) = later_or (last_place test xs) (test x)

-- the place of the newest entry that holds a key's retention id, where one does
abbrev pub held : List Entry → Key → ℕ → Option ℕ
held journal key now = last_place (is_held now key) journal

-- the ticks of acceptance never fall along the journal
abbrev pub NeverFalls : List Entry → Type 0
NeverFalls journal = (i j : ℕ) (early late : Entry) → i ≤ j → slice_get journal i ≡ Some early
    → slice_get journal j ≡ Some late → early.at ≤ late.at

-- two keys name one logical invocation
pub record IsOneCall (one other : Key) : Type 0 where
  pub client : one.client ≡ other.client
  pub retention : one.retention ≡ other.retention

-- Each request with a key was accepted before its expiration; and a client's retention id was accepted
-- again only once the expiration of the earlier acceptance had come.
pub record AtMostOnce (journal : List Entry) : Type 0 where
  pub in_time : (i : ℕ) (entry : Entry) (key : Key) → slice_get journal i ≡ Some entry → entry.request.key ≡ Some key
      → entry.at < key.expiration.0
  pub apart : (i j : ℕ) (early late : Entry) (first second : Key) → i < j
      → slice_get journal i ≡ Some early → slice_get journal j ≡ Some late
      → early.request.key ≡ Some first → late.request.key ≡ Some second → IsOneCall first second
      → first.expiration.0 ≤ late.at

-- a journal up to this moment: no acceptance is later, their ticks never fall, and each request is in it at
-- most once before its expiration
pub record IsJournal (time : ℕ) (journal : List Entry) : Type 0 where
  pub before : (i : ℕ) (entry : Entry) → slice_get journal i ≡ Some entry → entry.at ≤ time
  pub ticks : NeverFalls journal
  pub once : AtMostOnce journal

-- what the admission asks of an entry with a key: its expiration is still to come, and no entry holds its
-- retention id
pub record CanJoin (journal : List Entry) (entry : Entry) : Type 0 where
  pub in_time : (key : Key) → entry.request.key ≡ Some key → entry.at < key.expiration.0
  pub free : (key : Key) → entry.request.key ≡ Some key → held journal key entry.at ≡ None
