-- What the records of a keeper say, one behind the other. They begin with a view, or with a checkpoint and a
-- view. The last checkpoint counts. Views rise by one or repeat the last; positions have no gap.
use Rattle.std.specs.Prelude.{◌≡◌, ℕ, ◌+◌, ◌<◌, ◌≤◌, ◌==◌, ◌&&◌, ◌||◌, Bool, true, false, not, max, if◌then◌else◌, List, [], ◌∷◌, ◌++◌, length, is_some, Option, Some, None, Result, Ok, Err}
use Rattle.std.specs.List.{AllByRecursion}
use Rattle.std.specs.Str.{bytes_eq}
use Rattle.ft_base.specs.Journal.{Entry}
use Rattle.ft_base.specs.declared.limits.TheConstants.{JOURNAL_LIMIT}
use Rattle.ft_base.specs.declared.requests.Outcome.{Outcome}
use Rattle.ft_base.specs.declared.views.View.{View}
use Rattle.reply_table.specs.Entries.{unanswered, joined, with_reply}
use Rattle.reply_table.specs.declared.entries.Retained.{Retained}
use Rattle.log_records.specs.Records.{primary_sign, record_in, AreOfVersions, IsVersion, IsLogged}
use Rattle.log_records.specs.declared.records.Accepted.{Accepted}
use Rattle.log_records.specs.declared.records.Checkpoint.{Checkpoint}
use Rattle.log_records.specs.declared.records.Record.{Record}
use Rattle.log_records.specs.declared.records.Record.TheVariants as records
use Rattle.message_log.specs.Picture.{Picture}
use Rattle.message_log.specs.Retaining.{AreRetained, recorded}
use Rattle.message_log.specs.declared.answers.ReopenFault.{ReopenFault}
use Rattle.message_log.specs.declared.answers.ReopenFault.TheVariants.{Bad, NoMemory}

pub record Content : Type 0 where
  pub newest : Option View
  -- whether a record was read
  pub begun : Bool
  pub mark : ℕ
  pub entries : List Entry
  pub time : ℕ
  pub state : Option (List ℕ)
  pub table : List Retained

abbrev pub nothing_yet : Content
nothing_yet = record { newest = None; begun = false; mark = 0; entries = []; time = 0; state = None; table = [] }

-- ---- a view

abbrev pub repeats : View → View → Bool
repeats last v =
    ((last.version.0 == v.version.0) && bytes_eq last.members v.members) && (primary_sign last.primary == primary_sign v.primary)

abbrev pub may_follow : Option View → View → Bool
may_follow None v = true
may_follow (Some last) v = (v.version.0 == last.version.0 + 1) || repeats last v

abbrev pub after_view : Content → View → Option Content
after_view c v = if may_follow c.newest v then Some (record c { newest = Some v; begun = true }) else None

-- ---- an entry

abbrev pub with_accepted : Content → Accepted → Content
with_accepted c e = record c {
  entries = c.entries ++ record { at = e.at.0; request = e.request } ∷ [];
  time = max e.at.0 c.time;
  table = joined c.table (unanswered e.position e.version e.at e.request) e.request.key;
}

abbrev pub after_entry : Content → Accepted → Option Content
after_entry c e = if is_some c.newest && (e.position == c.mark + length c.entries) then Some (with_accepted c e) else None

-- ---- a checkpoint

abbrev pub with_its_reply : List Retained → ℕ → Option Outcome → List Retained
with_its_reply table position None = table
with_its_reply table position (Some outcome) = with_reply table position outcome

-- a table to which these entries are added
abbrev pub with_retained : List Retained → Retained → List Retained
with_retained table e = with_its_reply (joined table (unanswered e.position e.version e.at e.request) e.request.key) e.position e.reply

abbrev pub filed : List Retained → List Retained → List Retained
filed table [] = table
filed table (e ∷ entries) = filed (with_retained table e) entries

-- it comes first, or its mark is the number of entries before it
abbrev pub may_mark : Content → ℕ → Bool
may_mark c mark = not c.begun || (is_some c.newest && (mark == c.mark + length c.entries))

abbrev pub after_checkpoint : Content → Checkpoint → Option Content
after_checkpoint c k =
    if may_mark c k.mark then Some (record {
      newest = c.newest;
      begun = true;
      mark = k.mark;
      entries = [];
      time = k.time.0;
      state = Some k.state;
      table = filed [] k.retained;
    }) else None

-- ---- all records

abbrev pub after_record : Content → Record → Option Content
after_record c (records.Entry e) = after_entry c e
after_record c (records.View v) = after_view c v
after_record c (records.Checkpoint k) = after_checkpoint c k

abbrev pub after_piece : Content → Option Record → Option Content
after_piece c None = None
after_piece c (Some r) = after_record c r

-- a log needs a view
abbrev pub with_view_or : ℕ → Content → Option View → Result Content ℕ
with_view_or end c None = Err end
with_view_or end c (Some v) = Ok c

abbrev pub and_then : ℕ → Option Content → (Content → Result Content ℕ) → Result Content ℕ
and_then n None next = Err n
and_then n (Some d) next = next d

-- The content of these records, counted from a number; or the number of the first that may not stand there.
unfoldable pub content_from : ℕ → Content → List (List ℕ) → Result Content ℕ
content_from n c [] = with_view_or n c c.newest
content_from n c (piece ∷ pieces) = and_then n (after_piece c (record_in piece)) (λ d. content_from (n + 1) d pieces)

abbrev pub content_of : List (List ℕ) → Result Content ℕ
content_of pieces = content_from 0 nothing_yet pieces

-- ---- what is true on the way

abbrev pub HasView : Option View → Type 0
HasView None = Unit {0}
HasView (Some v) = IsVersion v.version × IsLogged v

pub record IsOpening (newest : Option View) (begun : Bool) (mark entries : ℕ) (table : List Retained) : Type 0 where
  pub view : HasView newest
  pub started : is_some newest ≡ true → begun ≡ true
  pub fits : mark + entries ≤ JOURNAL_LIMIT
  pub positions : AllByRecursion (λ e. e.position < mark + entries) table
  pub versions : AreOfVersions table
  pub retained : AreRetained (mark + entries) table
  pub whole : table ≡ recorded mark table

-- a call told a record's content: that it may stand there, or not; of want of memory nothing is said
abbrev pub IsTold : {E : Type 0} → Option Content → Result Bool E → Content → Content → Type 0
IsTold next (Ok true) old new = next ≡ Some new
IsTold next (Ok false) old new = next ≡ None
IsTold next (Err e) old new = Unit {0}

-- ---- reading all records

abbrev pub IsFound : Result Content ℕ → Result (Unit {0}) ReopenFault → Content → Type 0
IsFound content (Ok done) new = (content ≡ Ok new) × (is_some new.newest ≡ true)
IsFound content (Err (Bad number)) new = content ≡ Err number
IsFound content (Err NoMemory) new = Unit {0}

-- the log with this content and this newest view, over a keeper with these records, plan and faults
abbrev pub log_of : Content → View → List (List ℕ) → Option (List Bool) → ℕ → Picture
log_of c v pieces plan faults = record {
  newest = v;
  earlier = [];
  mark = c.mark;
  entries = c.entries;
  time = c.time;
  state = c.state;
  table = c.table;
  reserved = None;
  records = pieces;
  plan = plan;
  faults = faults;
}

pub record IsReopened (pieces : List (List ℕ)) (plan : Option (List Bool)) (faults : ℕ) (log : Picture) : Type 0 where
  pub content : Content
  pub says : content_of pieces ≡ Ok content
  pub view : content.newest ≡ Some log.newest
  pub is : log ≡ log_of content log.newest pieces plan faults

-- the number is that of the first record that may not stand there
abbrev pub IsBad : Result Content ℕ → ReopenFault → Type 0
IsBad content (Bad number) = content ≡ Err number
IsBad content NoMemory = Unit {0}
