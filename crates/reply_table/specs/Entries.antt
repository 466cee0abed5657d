-- The retained entries of a journal, as a list in order of position, and what the table's calls make of it.
-- (Chapter 23, FTRequestServiceContext: a repeated request is given the reply of its first acceptance.)
use Rattle.std.specs.Prelude.{ℕ, ◌<◌, ◌==◌, ◌&&◌, Bool, false, not, nat_lt, if◌then◌else◌, List, [], ◌∷◌, ◌++◌, map, Option, Some, None, unwrap_or}
use Rattle.std.specs.Option.{option_and_then}
use Rattle.std.specs.Ordering.{int_eq}
use Rattle.std.specs.List.{AllByRecursion, filter, find}
use Rattle.std.specs.Str.{bytes_eq}
use Rattle.ft_base.specs.Admissions.{says_same}
use Rattle.ft_base.specs.Journal.{is_call, is_held_by, is_unexpired}
use Rattle.ft_base.specs.declared.numbers.Version.{Version}
use Rattle.ft_base.specs.declared.numbers.Tick.{Tick}
use Rattle.ft_base.specs.declared.requests.Key.{Key}
use Rattle.ft_base.specs.declared.requests.Request.{Request}
use Rattle.ft_base.specs.declared.requests.Outcome.{Outcome}
use Rattle.reply_table.specs.declared.entries.Retained.{Retained}
use Rattle.reply_table.specs.declared.entries.Found.{Found}
use Rattle.reply_table.specs.declared.entries.Found.TheVariants.{Fresh, Same, Other}

-- what a contract sees of a table
pub record Table : Type 0 where
  pub entries : List Retained
  -- whether there is room for one more
  pub room : Bool

-- ---- what a request is to the entries

-- the entry that holds a key's retention id: of the same client, with an expiration still to come
abbrev pub holder : List Retained → Key → ℕ → Option Retained
holder entries key now = find (λ e. is_held_by now key e.request.key) entries

abbrev pub against : Request → Key → Option Retained → Found
against request key None = Fresh
against request key (Some entry) = if says_same request key entry.request then Same entry.position else Other entry.position

-- a request without a key repeats nothing
abbrev pub found : List Retained → Request → Option Key → ℕ → Found
found entries request None now = Fresh
found entries request (Some key) now = against request key (holder entries key now)

-- ---- how entries come and go

abbrev pub unanswered : ℕ → Version → Tick → Request → Retained
unanswered position version at request = record { position = position; version = version; at = at; request = request; reply = None }

-- without the entry of a client's retention id
abbrev pub without : Key → List Retained → List Retained
without key entries = filter (λ e. not (is_call key e.request.key)) entries

-- a request with a key comes last, in place of an earlier one of the same retention id
abbrev pub joined : List Retained → Retained → Option Key → List Retained
joined entries entry None = entries
joined entries entry (Some key) = without key entries ++ entry ∷ []

-- those whose expiration is still to come
abbrev pub unexpired : ℕ → List Retained → List Retained
unexpired time entries = filter (λ e. is_unexpired time e.request.key) entries

-- ---- replies

abbrev pub entry_at : List Retained → ℕ → Option Retained
entry_at entries position = find (λ e. e.position == position) entries

-- the reply of the entry at a position, once it has run
abbrev pub reply_of : List Retained → ℕ → Option Outcome
reply_of entries position = option_and_then (λ (e : Retained). e.reply) (entry_at entries position)

-- the first reply of an entry stays
abbrev pub replied : Outcome → Retained → Retained
replied outcome e = record e { reply = Some (unwrap_or e.reply outcome) }

abbrev pub answered : ℕ → Outcome → Retained → Retained
answered position outcome e = if e.position == position then replied outcome e else e

-- the entry at a position has run, with this outcome
abbrev pub with_reply : List Retained → ℕ → Outcome → List Retained
with_reply entries position outcome = map (answered position outcome) entries

-- ---- the order of entries

abbrev pub IsAfter : ℕ → List Retained → Type 0
IsAfter position entries = AllByRecursion (λ e. e.position < position) entries

abbrev pub AreInOrder : List Retained → Type 0
AreInOrder [] = Unit {0}
AreInOrder (e ∷ entries) = AllByRecursion (λ other. e.position < other.position) entries × AreInOrder entries
