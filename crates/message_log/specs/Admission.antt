-- Whether a request joins a log's journal: its writer was deposed by a newer view, or what the journal says.
use Rattle.std.specs.Prelude.{ℕ, max, nat_le, nat_lt, if◌then◌else◌, List, Option, Some, None}
use Rattle.ft_base.specs.Admissions.{admission, by_room}
use Rattle.ft_base.specs.Journal.{Entry}
use Rattle.ft_base.specs.declared.admissions.Admission.{Admission}
use Rattle.ft_base.specs.declared.admissions.Admission.TheVariants.{Expired, Same, Other}
use Rattle.ft_base.specs.declared.requests.Key.{Key}
use Rattle.ft_base.specs.declared.requests.Request.{Request}
use Rattle.reply_table.specs.Entries.{found}
use Rattle.reply_table.specs.declared.entries.Found.{Found}
use Rattle.reply_table.specs.declared.entries.Found.TheVariants as founds
use Rattle.message_log.specs.Picture.{Picture, length_of}
use Rattle.message_log.specs.declared.answers.Admit.{Admit}
use Rattle.message_log.specs.declared.answers.Admit.TheVariants as admits

abbrev pub unless_deposed : ℕ → ℕ → Admission → Admit
unless_deposed newest version says =
    if nat_lt version newest then admits.Deposed (record { 0 = newest }) else admits.Admission says

-- by the newest version, the whole journal and its time; of the version that is asked for, a clock and a request
abbrev pub admitted_by : ℕ → List Entry → ℕ → ℕ → ℕ → Request → Admit
admitted_by newest journal time version clock request = unless_deposed newest version (admission journal (max clock time) request)

-- ---- the same by a log, which has cut its entries and has retained those that count

abbrev pub by_found : ℕ → Found → Admission
by_found count founds.Fresh = by_room count
by_found count (founds.Same i) = Same i
by_found count (founds.Other i) = Other i

-- what the table found counts until the expiration comes; without a key it found nothing
abbrev pub by_table : Option Key → ℕ → ℕ → Found → Admission
by_table None now count what = by_room count
by_table (Some key) now count what = if nat_le key.expiration.0 now then Expired key.expiration else by_found count what

abbrev pub admitted : Picture → ℕ → ℕ → Request → Admit
admitted log version clock request =
    let now = max clock log.time in
    unless_deposed log.newest.version.0 version (by_table request.key now (length_of log) (found log.table request request.key now))
