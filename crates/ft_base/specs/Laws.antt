-- The laws of a journal to which requests join at the end, and of how far a servant's state has come.
use Rattle.std.specs.Prelude.{◌≡◌, ℕ, ◌<◌, ◌≤◌, Bool, true, List, [], ◌∷◌, ◌++◌, length, if◌then◌else◌, Some, slice_get}
use Rattle.ft_base.specs.Machine.{Machine, Fits, IsGiven}
use Rattle.ft_base.specs.Journal.{Entry, after, AllFit, replies, reply_at, last_place, AtMostOnce, IsJournal, CanJoin}
use Rattle.ft_base.specs.Servants.{IsReached}
use Rattle.ft_base.specs.declared.requests.Request.{Request}
use Rattle.ft_base.specs.declared.requests.Outcome.{Outcome}

-- a kind of servant of which a state stays a state
abbrev pub Stays : Machine → Type 0
Stays m = (s : List ℕ) (q : Request) → m.is_state s ≡ true → Fits m q → m.is_state (m.step s q).0 ≡ true

-- one of which every outcome is in the form that its operation gives
abbrev pub Gives : Machine → Type 0
Gives m = (s : List ℕ) (q : Request) → m.is_state s ≡ true → Fits m q → IsGiven m q (m.step s q).1

-- ---- one more request

-- it is run in the state after those before it
abbrev pub StateGoesOn : Type 0
StateGoesOn = (m : Machine) (s : List ℕ) (es : List Entry) (e : Entry) →
    after m s (es ++ e ∷ []) ≡ (m.step (after m s es) e.request).0

-- its reply is its outcome there
abbrev pub ReplyIsNew : Type 0
ReplyIsNew = (m : Machine) (s : List ℕ) (es : List Entry) (e : Entry) →
    reply_at m s (es ++ e ∷ []) (length es) ≡ (m.step (after m s es) e.request).1

-- those before it keep their replies
abbrev pub RepliesStay : Type 0
RepliesStay = (m : Machine) (s : List ℕ) (es : List Entry) (e : Entry) (i : ℕ) → i < length es →
    reply_at m s (es ++ e ∷ []) i ≡ reply_at m s es i

abbrev pub RepliesGoOn : Type 0
RepliesGoOn = (m : Machine) (s : List ℕ) (es : List Entry) (e : Entry) →
    replies m s (es ++ e ∷ []) ≡ replies m s es ++ (m.step (after m s es) e.request).1 ∷ []

abbrev pub AllGoOnFitting : Type 0
AllGoOnFitting = (m : Machine) (es : List Entry) (e : Entry) → AllFit m es → Fits m e.request → AllFit m (es ++ e ∷ [])

-- where a test holds of it, it is the last of which the test holds
abbrev pub LastPlaceGoesOn : Type 0
LastPlaceGoesOn = (test : Entry → Bool) (es : List Entry) (e : Entry) →
    last_place test (es ++ e ∷ []) ≡ (if test e then Some (length es) else last_place test es)

abbrev pub OnceGoesOn : Type 0
OnceGoesOn = (journal : List Entry) (entry : Entry) → AtMostOnce journal → CanJoin journal entry → AtMostOnce (journal ++ entry ∷ [])

abbrev pub JournalGoesOn : Type 0
JournalGoesOn = (time : ℕ) (journal : List Entry) (entry : Entry) → IsJournal time journal → time ≤ entry.at → CanJoin journal entry →
    IsJournal entry.at (journal ++ entry ∷ [])

-- ---- replies

-- the reply of a place is the one in the list of all replies
abbrev pub RepliesAreListed : Type 0
RepliesAreListed = (m : Machine) (s : List ℕ) (es : List Entry) (i : ℕ) (o : Outcome) → slice_get (replies m s es) i ≡ Some o → reply_at m s es i ≡ o

-- every reply is in the form that its operation gives
abbrev pub RepliesAreGiven : Type 0
RepliesAreGiven = (m : Machine) → Stays m → Gives m → (s : List ℕ) (es : List Entry) (i : ℕ) (e : Entry) →
    m.is_state s ≡ true → AllFit m es → slice_get es i ≡ Some e → IsGiven m e.request (reply_at m s es i)

-- ---- states

abbrev pub StatesStay : Type 0
StatesStay = (m : Machine) → Stays m → (s : List ℕ) (es : List Entry) → m.is_state s ≡ true → AllFit m es → m.is_state (after m s es) ≡ true

-- one request leads from a state to the next
abbrev pub IsReachedByOne : Type 0
IsReachedByOne = (m : Machine) (s t : List ℕ) (q : Request) (o : Outcome) → Fits m q → m.step s q ≡ (t, o) → IsReached m s t

-- one more request leads on
abbrev pub IsReachedByMore : Type 0
IsReachedByMore = (m : Machine) (s t u : List ℕ) (q : Request) (o : Outcome) → IsReached m s t → Fits m q → m.step t q ≡ (u, o) → IsReached m s u
