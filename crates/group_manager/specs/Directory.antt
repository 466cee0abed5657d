-- The directory of groups: all that were ever made, of which some were deleted. (Chapter 23,
-- `ObjectGroupManager`.)
use Rattle.std.specs.Prelude.{ℕ, zero, suc, List, slice_get, Option, Some, None}
use Rattle.group_manager.specs.declared.directory.GroupInfo.{GroupInfo}

-- the place of a group's number
abbrev pub place_of : ℕ → Option ℕ
place_of zero = None
place_of (suc n) = Some n

abbrev pub still_there : Option (Option GroupInfo) → Option GroupInfo
still_there None = None
still_there (Some info) = info

abbrev pub info_at : List (Option GroupInfo) → Option ℕ → Option GroupInfo
info_at groups None = None
info_at groups (Some n) = still_there (slice_get groups n)

-- what there is of the group of a number; none where it was never made, or was deleted
abbrev pub info_of : List (Option GroupInfo) → ℕ → Option GroupInfo
info_of groups number = info_at groups (place_of number)
