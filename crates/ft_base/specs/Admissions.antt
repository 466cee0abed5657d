-- Whether a request joins the journal. (Chapter 23, `FTRequestServiceContext`: retention and expiration.)
use Rattle.std.specs.Prelude.{ℕ, ◌==◌, ◌&&◌, Bool, false, nat_le, if◌then◌else◌, List, length, slice_get, Option, Some, None}
use Rattle.std.specs.Str.{bytes_eq}
use Rattle.ft_base.specs.Journal.{Entry, held}
use Rattle.ft_base.specs.declared.admissions.Admission.{Admission}
use Rattle.ft_base.specs.declared.admissions.Admission.TheVariants.{Expired, Same, Other, Full, New}
use Rattle.ft_base.specs.declared.limits.TheConstants.{JOURNAL_LIMIT}
use Rattle.ft_base.specs.declared.requests.Key.{Key}
use Rattle.ft_base.specs.declared.requests.Request.{Request}

abbrev pub expires_at : ℕ → Option Key → Bool
expires_at expiration None = false
expires_at expiration (Some key) = key.expiration.0 == expiration

-- a request says the same as another: operation, arguments and expiration
abbrev pub says_same : Request → Key → Request → Bool
says_same request key other =
    (bytes_eq request.op other.op && bytes_eq request.args other.args) && expires_at key.expiration.0 other.key

-- by how many entries the journal has
abbrev pub by_room : ℕ → Admission
by_room count = if nat_le JOURNAL_LIMIT count then Full else New

abbrev pub against_entry : ℕ → Request → Key → Option Entry → Admission
against_entry i request key None = Other i
against_entry i request key (Some entry) = if says_same request key entry.request then Same i else Other i

-- by the place of the entry that holds its retention id
abbrev pub against_held : List Entry → Request → Key → Option ℕ → Admission
against_held journal request key None = by_room (length journal)
against_held journal request key (Some i) = against_entry i request key (slice_get journal i)

abbrev pub by_key : List Entry → ℕ → Request → Option Key → Admission
by_key journal now request None = by_room (length journal)
by_key journal now request (Some key) =
    if nat_le key.expiration.0 now then Expired key.expiration
    else against_held journal request key (held journal key now)

-- the first that applies; without a key only the last two are left
abbrev pub admission : List Entry → ℕ → Request → Admission
admission journal now request = by_key journal now request request.key
