-- The plain group: what its hosts share, and a few numbers for each host. It has no states, no replies and
-- no bytes; those are computed from the journal. (Chapter 23, "Logging & Recovery Management".)
use Rattle.std.specs.Prelude.{ℕ, ◌+◌, ◌&&◌, max, zero, suc, Bool, true, false, nat_eq, nat_le, if◌then◌else◌, List, [], ◌∷◌, ◌++◌, length, take}
use Rattle.std.specs.List.{filter, list_any}
use Rattle.ft_base.specs.Machine.{Machine}
use Rattle.ft_base.specs.Journal.{Entry, after}
use Rattle.ft_base.specs.declared.views.Style.{Style}
use Rattle.ft_base.specs.declared.views.View.{View}

-- what the hosts of a group share
pub record Common : Type 0 where
  -- the group's number
  pub id : ℕ
  pub style : Style
  -- the kind of its servant, and the state in which that opens
  pub kind : ℕ
  pub opening : List ℕ
  -- its views, of which the k-th has version k
  pub views : List View
  -- the version of the first view that it still has
  pub first_kept : ℕ
  -- the accepted requests
  pub journal : List Entry
  -- the greatest tick of an acceptance or a checkpoint
  pub time : ℕ
  -- how many entries the newest checkpoint covers, and whether one was taken
  pub mark : ℕ
  pub taken : Bool
  -- how many entries some host has run
  pub ran : ℕ

-- where a host's servant stands: whether there is one, how many entries its state is behind, and the position
-- from which its next update leads
pub record Place : Type 0 where
  pub loaded : Bool
  pub position : ℕ
  pub base : ℕ

pub record Host : Type 0 where
  pub up : Bool
  -- the version of the newest view of which it heard, or 0
  pub known : ℕ
  pub place : Place
  -- the numbers of the orders that it holds back
  pub holdback : List ℕ

pub record Group : Type 0 where
  pub common : Common
  pub hosts : ℕ → Host

-- ---- hosts

abbrev pub nowhere : Place
nowhere = record { loaded = false; position = 0; base = 0 }

-- a servant whose state is that after so many entries, and from which the next update leads
abbrev pub loaded_at : ℕ → Place
loaded_at n = record { loaded = true; position = n; base = n }

-- a host that knows nothing
abbrev pub blank : Bool → Host
blank up = record { up = up; known = 0; place = nowhere; holdback = [] }

-- one host in place of another
abbrev pub put : (ℕ → Host) → ℕ → Host → ℕ → Host
put hosts at host i = if nat_eq i at then host else hosts i

-- ---- states

-- the state after the first n entries
abbrev pub state_at : Machine → Common → ℕ → List ℕ
state_at m c n = after m c.opening (take n c.journal)

-- the update bytes between the states after n and after k entries
abbrev pub delta_at : Machine → Common → ℕ → ℕ → List ℕ
delta_at m c n k = m.delta (state_at m c n) (state_at m c k)

-- ---- orders that are held back

abbrev pub is_held : ℕ → List ℕ → Bool
is_held i holdback = list_any (λ j. nat_eq j i) holdback

-- the numbers from a position on
abbrev pub from : ℕ → List ℕ → List ℕ
from position holdback = filter (λ i. nat_le position i) holdback

abbrev pub with_number : ℕ → List ℕ → List ℕ
with_number i holdback = if is_held i holdback then holdback else holdback ++ i ∷ []

-- past the numbers that are held one behind the other from a position on, at most so many
unfoldable pub past_held : List ℕ → ℕ → ℕ → ℕ
past_held holdback position zero = position
past_held holdback position (suc most) = if is_held position holdback then past_held holdback (position + 1) most else position

-- the first number from a position on that isn't held
abbrev pub reach : List ℕ → ℕ → ℕ
reach holdback position = past_held holdback position (length holdback)

-- ---- catching up

-- a host goes on from where it is, unless entries that it lacks are behind the checkpoint
abbrev pub goes_on : Common → Place → Bool
goes_on c place = place.loaded && nat_le c.mark place.position

-- where a host's catch-up begins: at its position, or at the checkpoint
abbrev pub start_of : Common → Place → Place
start_of c place = if goes_on c place then place else loaded_at c.mark

-- a host that has run on to a position, and holds back no order below it
abbrev pub moved_to : ℕ → Host → Host
moved_to n h = record h { place = record h.place { position = n }; holdback = from n h.holdback }

-- a host on its way from the start of its catch-up to a position
abbrev pub caught_up_to : Common → Host → ℕ → Host
caught_up_to c h n = moved_to n (record h { place = start_of c h.place })

-- a host that has run the whole journal
abbrev pub caught_up : Common → Host → Host
caught_up c h = caught_up_to c h (length c.journal)

-- entries below a position have run
abbrev pub with_ran : ℕ → Common → Common
with_ran n c = record c { ran = max c.ran n }
