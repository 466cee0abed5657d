-- What a writing call leaves, or would have left, is written down.
use Rattle.std.proofs.Common.{◌≡◌, ℕ, max, true, List, [], ◌∷◌, ◌++◌, Some, None, refl, subst, arith}
use Rattle.ft_base.specs.Journal.{is_unexpired}
use Rattle.reply_table.specs.declared.entries.Retained.{Retained}
use Rattle.ft_outside.specs.Outside.{next_count}
use Rattle.log_records.specs.Records.{entry_record, view_record, checkpoint_record}
use Rattle.message_log.specs.Calls.{accepted_by, checkpoint_of, IsTidied}
use Rattle.message_log.specs.Opening.{with_accepted}
use Rattle.message_log.specs.Picture.{KeeperPicture, keeper_of}
use Rattle.message_log.specs.Recording.{EntriesAreWrittenDown, ViewsAreWrittenDown, CheckpointsAreWrittenDown, records_when}
use Rattle.message_log.specs.Retaining.{AreRetained}
use Rattle.message_log.specs.Written.{RecordsAreRead, IsOnRecord, held_by}
use Rattle.message_log.specs.declared.tidying.Tidied.{Tidied}
use Rattle.message_log.specs.declared.tidying.Tidied.TheVariants.{Cut, Uncut, Unwritten}
use Rattle.message_log.proofs.TableLaws.{retained_filter}
use Rattle.message_log.proofs.WritingLaws.{entry_on_record, view_on_record, cut_on_record}

same_time : (clock time : ℕ) → max (max clock time) time ≡ max clock time
same_time clock time = omega arith

pub entries_written : RecordsAreRead → EntriesAreWrittenDown
entries_written read log w version clock request h plan faults =
    let e = accepted_by log version clock request in
    subst (λ (t : ℕ). IsOnRecord (log.records ++ entry_record e ∷ []) (record (with_accepted (held_by log) e) { time = t })) (same_time clock.0 log.time)
    (entry_on_record read log.records (held_by log) e w refl refl h)

pub views_written : RecordsAreRead → ViewsAreWrittenDown
views_written read log w view next h plan faults = view_on_record read log.records (held_by log) log.newest view w refl next h

-- a keeper without a plan, in each step of a checkpoint
tidied : (how : Tidied) (old : KeeperPicture) (written viewed : List ℕ) → old.plan ≡ None → (faults : ℕ) →
    (new : KeeperPicture) × (new.records ≡ records_when how old.records written viewed) × IsTidied how (record old { plan = None }) written viewed new
tidied Cut old written viewed none faults =
    (record { records = written ∷ viewed ∷ []; plan = None; faults = old.faults }, refl, (tt, tt, refl, refl, refl))
tidied Uncut old written viewed none faults =
    (record { records = old.records ++ written ∷ viewed ∷ []; plan = None; faults = next_count old.faults }, refl, (tt, tt, refl, refl, refl))
tidied Unwritten old written viewed none faults =
    (record { records = old.records ++ written ∷ []; plan = None; faults = next_count old.faults }, refl, (tt, refl, refl, refl))

pub checkpoints_written : RecordsAreRead → CheckpointsAreWrittenDown
checkpoints_written read log w clock state h g how plan faults =
    let k = checkpoint_of log clock state in
    let old : KeeperPicture = record (keeper_of log) { plan = None } in
    let left : AreRetained k.mark k.retained =
    retained_filter k.mark (λ (r : Retained). is_unexpired (max clock.0 log.time) r.request.key) log.table w.retained in
    let new = tidied how old (checkpoint_record k) (view_record log.newest) refl faults in
    let cut = cut_on_record read old (held_by log) log.newest k w refl refl left h g how None new.0 new.2 in
    subst (λ (rs : List (List ℕ)). IsOnRecord rs (record { newest = Some log.newest; begun = true; mark = k.mark; entries = []; time = k.time.0; state = Some k.state; table = k.retained })) new.1 cut
