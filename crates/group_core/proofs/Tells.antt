-- What a core and its log's keeper tell.
use Rattle.std.proofs.Common.{◌≡◌, ℕ, ◌<◌, ◌≤◌, inl, inr, max, Bool, true, false, List, [], ◌∷◌, length-append, Option, Some, None, refl, sym, ap, ◌∙◌, arith}
use Rattle.std.specs.Prelude.{◌&&◌, ◌+◌, ◌==◌, length, nat_le, if◌then◌else◌}
use Rattle.std.proofs.lemmas.Bool.Decides.{nat_tests}
use Rattle.ft_base.specs.Machine.{Machine}
use Rattle.ft_base.specs.declared.decisions.Decision.{Decision}
use Rattle.ft_base.specs.declared.decisions.Decision.TheVariants as decisions
use Rattle.ft_outside.specs.Keeping.{plan_after}
use Rattle.ft_outside.specs.Outside.{next_count}
use Rattle.sys_faults.specs.declared.answers.Answer.{Answer}
use Rattle.message_log.specs.Calls.{IsTidied}
use Rattle.message_log.specs.Picture.{Picture as LogPicture, KeeperPicture, keeper_of, length_of}
use Rattle.message_log.specs.Picture as pictures
use Rattle.message_log.specs.declared.tidying.Tidied.{Tidied}
use Rattle.message_log.specs.declared.tidying.Tidied.TheVariants.{Cut, Uncut, Unwritten}
use Rattle.group_model.specs.declared.changes.ManageFault.{ManageFault}
use Rattle.group_model.specs.declared.changes.ManageFault.TheVariants as manage_faults
use Rattle.group_model.specs.declared.events.Event.{Event}
use Rattle.group_model.specs.declared.events.Event.TheVariants as events
use Rattle.group_model.specs.declared.events.GroupAnswer.{GroupAnswer}
use Rattle.group_model.specs.declared.events.GroupAnswer.TheVariants as answers
use Rattle.group_model.specs.declared.events.Out.{Out}
use Rattle.group_model.specs.Events.{shows_fault}
use Rattle.group_model.specs.Lean.{IsLean, IsUnrun, nothing, partly, unrun}
use Rattle.group_model.specs.Plain.{Common, Host, Group}
use Rattle.group_model.specs.Views.{newest, view_at}
use Rattle.group_stands.specs.Stands.{LogStands}
use Rattle.group_stands.specs.Replying.{LogsReply}
use Rattle.group_stands.specs.Telling.{LogsTell}
use Rattle.group_stands.specs.Viewing.{LogsShowViews, LogsShowNoOthers}
use Rattle.group_hosts.specs.Hosts.{HostPicture, HostStands}
use Rattle.group_hosts.specs.Keeping.{HasSameEntries, HasOneMore, WroteNothing, Wrote, WroteBy, WroteRefused, WroteTaken, WroteFor}
use Rattle.group_core.specs.Cores.{CorePicture, Stands}
use Rattle.group_core.specs.Telling.{shown_view, HostTells, CoresTell, IsCounted, LogFaultsAreCounted, WantOfMemoryIsTold, WroteLeft}

-- ---- a core

shows : LogsShowViews → LogsShowNoOthers → (machines : ℕ → Machine) (c : Common) (log : LogPicture) → LogStands machines c log →
    (version : ℕ) → pictures.view_at log version ≡ shown_view c version
shows shown others machines c log stands version = go (nat_le c.first_kept version) (nat_le version (newest c)) refl refl where
  go : (kept few : Bool) → nat_le c.first_kept version ≡ kept → nat_le version (newest c) ≡ few →
      pictures.view_at log version ≡ (if kept && few then Some (view_at c.views version) else None)
  go true true above below =
      let low : c.first_kept ≤ version = grind (arith, nat_tests) in
      let high : version ≤ newest c = grind (arith, nat_tests) in
      shown machines c log stands version (low, high)
  go true false above below = let high : newest c < version = grind (arith, nat_tests) in others machines c log stands version (inr high)
  go false few above below = let low : version < c.first_kept = grind (arith, nat_tests) in others machines c log stands version (inl low)

host_tells : (machines : ℕ → Machine) (c : Common) (host : HostPicture) (h : Host) → HostStands machines c host h → HostTells (machines c.kind) c host h
host_tells machines c host h stands = record {
  up = stands.up;
  known = stands.known;
  loaded = stands.replica.loaded;
  position = stands.replica.position;
  state = λ loaded. stands.replica.state (sym stands.replica.loaded ∙ loaded);
}

pub cores : LogsTell → LogsReply → LogsShowViews → LogsShowNoOthers → CoresTell
cores tell replies shown others machines core g stands =
    let tells = tell machines g.common core.log stands.log in
    record {
      id = stands.id;
      style = stands.style;
      kind = stands.opening.kind;
      end = tells.end;
      mark = stands.log.mark;
      time = stands.log.time;
      newest = tells.view;
      first_kept = stands.first_kept;
      views = shows shown others machines g.common core.log stands.log;
      replies = replies machines g.common core.log stands.log;
      hosts = λ i host there. host_tells machines g.common host (g.hosts i) (stands.hosts i host there);
    }

-- ---- the count of failed writes

more : (n : ℕ) → n ≤ next_count n
more n = go (n == 18446744073709551615) where
  go : (b : Bool) → n ≤ (if b then n else n + 1)
  go true = omega arith
  go false = omega arith

module _ (old new : LogPicture) where
  as_before : WroteNothing old new → old.faults ≤ new.faults
  as_before wrote = omega (arith, wrote.1)

  written : Wrote old new → old.faults ≤ new.faults
  written wrote = omega (arith, wrote.faults)

  count_decided : (decision : Decision) (answer : Option Answer) (out : List Out) → WroteBy decision old new → IsCounted (shows_fault (answers.Reply decision answer out)) old.faults new.faults
  count_decided (decisions.Append i) answer out wrote = written wrote
  count_decided decisions.LogFault answer out wrote = wrote.faults
  count_decided decision answer out wrote = as_before wrote

  count_refused : (fault : ManageFault) → WroteRefused fault old new → IsCounted (shows_fault (answers.Refused fault)) old.faults new.faults
  count_refused manage_faults.LogFault wrote = wrote.faults
  count_refused fault wrote = as_before wrote

  -- what is tidied behind a checkpoint may fail
  count_tidied : (how : Tidied) (before : KeeperPicture) (checkpoint viewed : List ℕ) (later : KeeperPicture) → IsTidied how before checkpoint viewed later → before.faults ≤ later.faults
  count_tidied Cut before checkpoint viewed later was = omega (arith, was.4)
  count_tidied Uncut before checkpoint viewed later was = omega (arith, was.4, more before.faults)
  count_tidied Unwritten before checkpoint viewed later was = omega (arith, was.3, more before.faults)

  count_taken : (e : Event) → WroteTaken e old new → old.faults ≤ new.faults
  count_taken (events.Checkpoint host clock) wrote = count_tidied wrote.how (record (keeper_of old) { plan = plan_after old.plan }) wrote.checkpoint wrote.view (keeper_of new) wrote.tidied
  count_taken e wrote = as_before wrote

  counted : (e : Event) (answer : GroupAnswer) → WroteFor e answer old new → IsCounted (shows_fault answer) old.faults new.faults
  counted e (answers.Reply decision answer out) wrote = count_decided decision answer out wrote
  counted e (answers.Changed view out) wrote = written wrote
  counted e (answers.Refused fault) wrote = count_refused fault wrote
  counted e (answers.Taken from position out) wrote = count_taken e wrote
  counted e answers.LogFault wrote = wrote.faults
  counted e answers.NoMemory (inl wrote) = as_before wrote.0
  counted e answers.NoMemory (inr wrote) = written wrote.0
  counted e answer wrote = as_before wrote

pub faults_counted : LogFaultsAreCounted
faults_counted e answer old new wrote = counted old new e answer wrote

-- ---- what was written where memory was wanted

same_length : (old new : LogPicture) → HasSameEntries old new → length_of new ≡ length_of old
same_length old new is = rw (is.0, is.1) refl

one_longer : (old new : LogPicture) → HasOneMore old new → length_of new ≡ length_of old + 1
one_longer old new is =
    let sum = length-append old.entries (is.0 ∷ []) in
    let all : length new.entries ≡ length old.entries + 1 = ap length is.2 ∙ sum in
    omega (arith, is.1, all)

-- what want of memory left has the journal of before, or one entry more
module _ (tell : LogsTell) (machines : ℕ → Machine) (core later : CorePicture) (g left : Group) (e : Event) (stands : Stands machines core g) (stood : Stands machines later left) where
  was : length_of core.log ≡ length g.common.journal
  was = (tell machines g.common core.log stands.log).end

  is_now : length_of later.log ≡ length left.common.journal
  is_now = (tell machines left.common later.log stood.log).end

  kept : left.common.journal ≡ g.common.journal → WroteFor e answers.NoMemory core.log later.log → WroteLeft machines g e left core.log later.log
  kept same (inl wrote) = inl (wrote.0, same)
  kept same (inr wrote) =
      let longer = one_longer core.log later.log wrote.1 in
      let both : length left.common.journal ≡ length g.common.journal = ap length same in
      absurd (omega (arith, was, is_now, longer, both))

  joined_one : IsUnrun (machines g.common.kind) g e left → WroteFor e answers.NoMemory core.log later.log → WroteLeft machines g e left core.log later.log
  joined_one is (inl wrote) =
      let equal = same_length core.log later.log wrote.1 in
      let more_there : length left.common.journal ≡ length g.common.journal + 1 =
      ap (λ (x : Group). length x.common.journal) is.is ∙ length-append g.common.journal (record { at = max is.clock g.common.time; request = is.request } ∷ []) in
      absurd (omega (arith, was, is_now, equal, more_there))
  joined_one is (inr wrote) = inr (wrote.0, is)

  told_left : IsLean (machines g.common.kind) g e left → WroteFor e answers.NoMemory core.log later.log → WroteLeft machines g e left core.log later.log
  told_left (nothing same) wrote = kept (ap (λ (x : Group). x.common.journal) same) wrote
  told_left (partly is) wrote = kept (ap (λ (x : Group). x.common.journal) is.is) wrote
  told_left (unrun is) wrote = joined_one is wrote

pub memory_told : LogsTell → WantOfMemoryIsTold
memory_told tell machines core later g left e stands stood lean wrote = told_left tell machines core later g left e stands stood lean wrote
