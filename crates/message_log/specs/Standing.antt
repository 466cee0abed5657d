-- The journal for which a log stands, though it has cut the entries before its mark and has dropped the
-- replies that expired.
use Rattle.std.specs.Prelude.{◌≡◌, ℕ, ◌<◌, ◌≤◌, List, drop, length, slice_get, Some}
use Rattle.ft_base.specs.Journal.{Entry, IsJournal}
use Rattle.ft_base.specs.declared.requests.Key.{Key}
use Rattle.reply_table.specs.declared.entries.Retained.{Retained}
use Rattle.message_log.specs.Picture.{Picture}

-- the entry of a position is retained
pub record IsRetained (table : List Retained) (position : ℕ) : Type 0 where
  pub index : ℕ
  pub entry : Retained
  pub at : slice_get table index ≡ Some entry
  pub is : entry.position ≡ position

-- every retained entry is the journal's at its position, and each of the journal's with a key whose
-- expiration is still to come is retained
pub record Retains (journal : List Entry) (time : ℕ) (table : List Retained) : Type 0 where
  pub are : (n : ℕ) (r : Retained) → slice_get table n ≡ Some r → slice_get journal r.position ≡ Some (record { at = r.at.0; request = r.request })
  pub kept : (i : ℕ) (e : Entry) (key : Key) → slice_get journal i ≡ Some e → e.request.key ≡ Some key → time < key.expiration.0 → IsRetained table i

pub record StandsFor (journal : List Entry) (log : Picture) : Type 0 where
  pub is_journal : IsJournal log.time journal
  pub marked : log.mark ≤ length journal
  pub entries : log.entries ≡ drop log.mark journal
  pub table : Retains journal log.time log.table
