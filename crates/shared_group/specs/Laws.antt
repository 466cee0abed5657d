-- What may be asked behind a group's lock.
use Rattle.std.specs.Prelude.{◌≡◌, ◌<◌, ◌≤◌, ℕ, List, [], ◌∷◌, ◌++◌, Ok}
use Rattle.std.specs.List.{AllByRecursion}
use Rattle.ft_base.specs.Machine.{Machine}
use Rattle.ft_base.specs.declared.limits.TheConstants.{HOST_LIMIT}
use Rattle.group_model.specs.declared.events.Event.{Event}
use Rattle.group_model.specs.declared.events.Event.TheVariants as events
use Rattle.group_model.specs.declared.events.GroupAnswer.{GroupAnswer}
use Rattle.group_model.specs.Agreeing.{IsShortAsked}
use Rattle.group_model.specs.Changes.{NamesHosts}
use Rattle.group_model.specs.Sending.{brought, sent_by}
use Rattle.group_looks.specs.declared.figures.Figures.{Figures}
use Rattle.message_log.specs.Picture.{length_of}
use Rattle.shared_group.specs.declared.calls.Call.{Call}
use Rattle.shared_group.specs.declared.calls.Call.TheVariants as calls
use Rattle.shared_group.specs.declared.calls.CallAnswer.{CallAnswer}
use Rattle.shared_group.specs.declared.calls.CallAnswer.TheVariants as told
use Rattle.hist_lock.specs.Histories.{calls as turns}
use Rattle.shared_group.specs.Books.{BookPicture, IsBook, MayCall}
use Rattle.shared_group.specs.Turns.{AreFiguresOf, GroupLock, GroupPass, IsTaken}

-- what no member sent: a client's request, with a body of octets that isn't too long; a stop, a start or a change of members
abbrev pub ComesFromOutside : Event → Type 0
ComesFromOutside (events.Request host clock asked stop) = (host.0 < HOST_LIMIT) × IsShortAsked asked
ComesFromOutside (events.View host version) = ⊥
ComesFromOutside (events.State host position state) = ⊥
ComesFromOutside (events.Update host from to update) = ⊥
ComesFromOutside (events.Order host index request) = ⊥
ComesFromOutside (events.Crash host) = host.0 < HOST_LIMIT
ComesFromOutside (events.Restart host) = host.0 < HOST_LIMIT
ComesFromOutside (events.Checkpoint host clock) = ⊥
ComesFromOutside (events.SendUpdate host) = ⊥
ComesFromOutside (events.Manage change) = NamesHosts change

-- a call that may be made whatever was seen
abbrev pub IsFree : Call → Type 0
IsFree (calls.Act e) = ComesFromOutside e
IsFree (calls.Ask host asked) = (host.0 < HOST_LIMIT) × IsShortAsked asked
IsFree calls.Carry = Unit {0}
IsFree (calls.Checkpoint clock) = Unit {0}
IsFree (calls.Here host) = host.0 < HOST_LIMIT
IsFree calls.Figures = Unit {0}
IsFree (calls.Reply key) = Unit {0}

abbrev pub FreeCallsMayBeMade : (ℕ → Machine) → Type 0
FreeCallsMayBeMade machines = (first : BookPicture) (past : List (Call × CallAnswer)) (call : Call) → IsFree call → MayCall machines first past call

-- ---- along the turns of a pass

-- what may be asked may be asked after a further turn
abbrev pub CallsStayPossible : (ℕ → Machine) → Type 0
CallsStayPossible machines = (lock : GroupLock) (pass later : GroupPass) (made call : Call) (answer : CallAnswer) → IsTaken machines lock pass made answer later
    → MayCall machines lock.opening (turns pass.seen) call → MayCall machines lock.opening (turns later.seen) call

-- what an event sent may be brought
abbrev pub SentMayBeBrought : (ℕ → Machine) → Type 0
SentMayBeBrought machines = (lock : GroupLock) (pass later : GroupPass) (e : Event) (answer : GroupAnswer) → IsTaken machines lock pass (calls.Act e) (told.Event answer) later
    → AllByRecursion (λ out. MayCall machines lock.opening (turns later.seen) (calls.Act (brought out))) (sent_by answer)

-- ---- looks at the figures

-- a look is answered by figures, or by want of memory for them
abbrev pub LooksAreAnswered : (ℕ → Machine) → Type 0
LooksAreAnswered machines = (first : BookPicture) (past : List (Call × CallAnswer)) (answer : CallAnswer) (book : BookPicture)
    → IsBook machines first (past ++ (calls.Figures, answer) ∷ []) book → AreFiguresOf answer

-- the book's journal has all entries that a look found
abbrev pub EntriesFoundStay : (ℕ → Machine) → Type 0
EntriesFoundStay machines = (first : BookPicture) (past later : List (Call × CallAnswer)) (call : Call) (figures : Figures) (book : BookPicture)
    → IsBook machines first (past ++ (call, told.Figures (Ok figures)) ∷ later) book → figures.entries ≤ length_of book.core.log

-- and no more, where nothing was asked since
abbrev pub LastEntriesFoundAreAll : (ℕ → Machine) → Type 0
LastEntriesFoundAreAll machines = (first : BookPicture) (past : List (Call × CallAnswer)) (call : Call) (figures : Figures) (book : BookPicture)
    → IsBook machines first (past ++ (call, told.Figures (Ok figures)) ∷ []) book → figures.entries ≡ length_of book.core.log
