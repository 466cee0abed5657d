-- Tables of retained requests, and what a log's records say of one.
use Rattle.std.specs.Prelude.{◌≡◌, ℕ, ◌<◌, nat_lt, true, false, if◌then◌else◌, List, [], ◌∷◌, map, is_some, Option, Some, None}
use Rattle.std.specs.List.{AllByRecursion}
use Rattle.ft_base.specs.Journal.{is_call}
use Rattle.ft_base.specs.declared.requests.Key.{Key}
use Rattle.reply_table.specs.declared.entries.Retained.{Retained}

abbrev pub IsOtherCall : Option Key → Option Key → Type 0
IsOtherCall None earlier = ⊥
IsOtherCall (Some key) earlier = is_call key earlier ≡ false

-- of a later position, and of another call
pub record IsBehind (later earlier : Retained) : Type 0 where
  pub position : earlier.position < later.position
  pub other : IsOtherCall later.request.key earlier.request.key

-- Each retained request has a key and a position below the end; positions rise, and no two are of one call.
abbrev pub AreRetained : ℕ → List Retained → Type 0
AreRetained end [] = Unit {0}
AreRetained end (r ∷ table) =
    (is_some r.request.key ≡ true) × (r.position < end) × AllByRecursion (λ later. IsBehind later r) table × AreRetained end table

-- The same request at the same position. Below the mark it has the reply that it has in the log; what has run
-- since the checkpoint is without a reply until it is run again.
abbrev pub recorded_one : ℕ → Retained → Retained
recorded_one mark r = record r { reply = if nat_lt r.position mark then r.reply else None }

abbrev pub recorded : ℕ → List Retained → List Retained
recorded mark table = map (recorded_one mark) table
