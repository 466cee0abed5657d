-- What a contract sees of a log.
use Rattle.std.specs.Prelude.{◌≡◌, ℕ, ◌+◌, ◌-◌, ◌<◌, ◌≤◌, ◌==◌, Bool, true, nat_lt, if◌then◌else◌, List, [], ◌∷◌, ◌++◌, length, slice_get, Option, Some, None, option_map}
use Rattle.std.specs.List.{AllByRecursion, find}
use Rattle.ft_base.specs.Journal.{Entry}
use Rattle.ft_base.specs.declared.limits.TheConstants.{VIEW_LIMIT, JOURNAL_LIMIT}
use Rattle.ft_base.specs.declared.requests.Request.{Request}
use Rattle.ft_base.specs.declared.views.View.{View}
use Rattle.reply_table.specs.declared.entries.Retained.{Retained}
use Rattle.log_records.specs.Records.{AreOfVersions}
pub use Rattle.log_records.specs.Records.{IsPrimaryOf, IsLogged}

-- what memory was taken for: the record of an entry, and its request where it is to be retained
pub record Reserved : Type 0 where
  pub entry : List ℕ
  pub retained : Option Request

-- what a keeper tells
pub record KeeperPicture : Type 0 where
  pub records : List (List ℕ)
  pub plan : Option (List Bool)
  pub faults : ℕ

pub record Picture : Type 0 where
  -- the newest view, and those before it in order of version
  pub newest : View
  pub earlier : List View
  -- how many entries the last checkpoint made needless, and the entries behind them
  pub mark : ℕ
  pub entries : List Entry
  -- the greatest tick of an acceptance or a checkpoint
  pub time : ℕ
  -- the state of the last checkpoint
  pub state : Option (List ℕ)
  -- the retained entries, in order of position
  pub table : List Retained
  pub reserved : Option Reserved
  -- of the keeper
  pub records : List (List ℕ)
  pub plan : Option (List Bool)
  pub faults : ℕ

abbrev pub keeper_of : Picture → KeeperPicture
keeper_of log = record { records = log.records; plan = log.plan; faults = log.faults }

-- how many entries the journal has
abbrev pub length_of : Picture → ℕ
length_of log = log.mark + length log.entries

-- the request of a position, where the log has it still
abbrev pub request_at : Picture → ℕ → Option Request
request_at log position =
    if nat_lt position log.mark then None else option_map (λ (e : Entry). e.request) (slice_get log.entries (position - log.mark))

abbrev pub views_of : Picture → List View
views_of log = log.earlier ++ log.newest ∷ []

-- the view of a version, where the log has it
abbrev pub view_at : Picture → ℕ → Option View
view_at log version = find (λ v. v.version.0 == version) (views_of log)

-- each view has the version one above that of the view before it, and the last one the version below this
abbrev pub AreNumbered : List View → ℕ → Type 0
AreNumbered [] next = Unit {0}
AreNumbered (v ∷ views) next = (v.version.0 + length (v ∷ views) ≡ next) × AreNumbered views next

-- ---- what is true of every log

-- Views are numbered up to the newest; positions fit, and the newest version does; retained entries are the
-- journal's. The newest view can be written again, and so can what is retained.
pub record IsSound (newest : View) (earlier : List View) (mark entries : ℕ) (table : List Retained) : Type 0 where
  pub numbered : AreNumbered earlier newest.version.0
  pub first : length earlier < newest.version.0
  pub last : newest.version.0 ≤ VIEW_LIMIT
  pub fits : mark + entries ≤ JOURNAL_LIMIT
  pub positions : AllByRecursion (λ e. e.position < mark + entries) table
  pub logged : IsLogged newest
  pub versions : AreOfVersions table

-- a table has room for what is to be retained
abbrev pub HasRow : Option Request → Bool → Type 0
HasRow None table_room = Unit {0}
HasRow (Some request) table_room = table_room ≡ true

-- There is room for one more record and one more entry, and for what is to be retained.
pub record HasRoom (retained : Option Request) (spare entries entries_room : ℕ) (table_room : Bool) : Type 0 where
  pub record_room : 0 < spare
  pub entry_room : entries < entries_room
  pub row_room : HasRow retained table_room
