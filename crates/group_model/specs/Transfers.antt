-- Checkpoints, states, updates, orders and views between hosts. (Chapter 23, "Checkpointable" and
-- "Updateable".)
use Rattle.std.specs.Prelude.{ℕ, ◌-◌, max, Bool, true, not, nat_eq, nat_lt, if◌then◌else◌, List, [], length}
use Rattle.ft_base.specs.Machine.{Machine}
use Rattle.ft_base.specs.declared.decisions.Ignored.{Ignored as Cause}
use Rattle.ft_base.specs.declared.decisions.Ignored.TheVariants as causes
use Rattle.group_model.specs.declared.events.GroupAnswer.TheVariants.{Known, Applied, Held, Ignored, Taken, LogFault}
use Rattle.group_model.specs.declared.events.Inner.TheVariants as inners
use Rattle.group_model.specs.declared.events.Out.{Out}
use Rattle.group_model.specs.Plain.{Common, Host, loaded_at, state_at, delta_at, with_number, reach, caught_up, moved_to, with_ran}
use Rattle.group_model.specs.Turns.{Turn, unchanged, costing}
use Rattle.group_model.specs.Views.{version, newest, is_warm, to_others}
use Rattle.group_model.specs.Serving.{calls_behind}

-- ---- what a host takes

-- a host that takes what it sends knows the newest view, and has caught up
abbrev pub taking : Common → Host → Host
taking c h = caught_up c (record h { known = newest c })

-- a host whose next update leads on from here
abbrev pub rebased : Host → Host
rebased h = record h { place = record h.place { base = h.place.position } }

-- in a warm group the others are sent it
abbrev pub if_warm : Common → List Out → List Out
if_warm c out = if is_warm c.style then out else []

-- a checkpoint covers the whole journal, and keeps the host's clock for all
abbrev pub marked : Common → ℕ → Common
marked c clock = record c { mark = length c.journal; time = max c.time clock; taken = true }

abbrev pub checkpoint_taken : Machine → Common → Host → ℕ → ℕ → Turn
checkpoint_taken m c h host clock =
    let n = h.place.position in
    record {
      common = marked c clock;
      host = rebased h;
      answer = Taken h.place.base n (if_warm c (to_others c host (inners.State n (state_at m c n))));
      calls = 0;
    }

-- unless the log's write fails: then the mark, the time and the base stay
abbrev pub checkpoint_written : Machine → Common → Host → ℕ → ℕ → Bool → Turn
checkpoint_written m c h host clock fails =
    if fails then unchanged c h LogFault else checkpoint_taken m c h host clock

abbrev pub on_checkpoint : Machine → Common → Host → ℕ → ℕ → Bool → Turn
on_checkpoint m c h host clock fails =
    costing (calls_behind c h) (checkpoint_written m (with_ran (length c.journal) c) (taking c h) host clock fails)

-- the update from the base to the position
abbrev pub update_taken : Machine → Common → Host → ℕ → Turn
update_taken m c h host =
    let base = h.place.base in
    let n = h.place.position in
    record {
      common = c;
      host = rebased h;
      answer = Taken base n (to_others c host (inners.Update base n (delta_at m c base n)));
      calls = 0;
    }

abbrev pub on_send_update : Machine → Common → Host → ℕ → Turn
on_send_update m c h host = costing (calls_behind c h) (update_taken m (with_ran (length c.journal) c) (taking c h) host)

-- ---- what a host is given

abbrev pub ignoring : Common → Host → Cause → Turn
ignoring c h cause = unchanged c h (Ignored cause)

-- a host whose servant was brought to a position
abbrev pub brought_to : ℕ → Common → Host → Turn
brought_to n c h = unchanged c (record h { place = loaded_at n }) (Applied n)

-- a state takes a host on, and never back
abbrev pub on_state : Common → Host → ℕ → Turn
on_state c h n =
    if not h.place.loaded then brought_to n c h
    else (if nat_lt h.place.position n then brought_to n c h else ignoring c h (causes.Position n h.place.position))

-- an update is taken exactly at the position from which it leads
abbrev pub on_update : Common → Host → ℕ → ℕ → Turn
on_update c h n to =
    if not h.place.loaded then ignoring c h causes.NotLoaded
    else (if nat_eq h.place.position n then brought_to to c h else ignoring c h (causes.From n h.place.position))

-- a host holds an order back, and goes on over all that it holds one behind the other
abbrev pub holding : Host → ℕ → Host
holding h i = record h { holdback = with_number i h.holdback }

abbrev pub ordered : Common → Host → ℕ → Turn
ordered c h n = record {
  common = c;
  host = moved_to n h;
  answer = if nat_lt h.place.position n then Applied n else Held h.place.position;
  calls = n - h.place.position;
}

abbrev pub on_order : Common → Host → ℕ → Turn
on_order c h i =
    if not h.place.loaded then ignoring c h causes.NotLoaded
    else (if nat_lt i h.place.position then ignoring c h (causes.Order i h.place.position)
    else ordered c (holding h i) (reach (holding h i).holdback h.place.position))

-- a newer view is known from then on
abbrev pub on_view : Common → Host → ℕ → Turn
on_view c h sent =
    if nat_lt h.known sent then unchanged c (record h { known = sent }) (Known (version sent))
    else ignoring c h (causes.Known (version sent) (version h.known))
