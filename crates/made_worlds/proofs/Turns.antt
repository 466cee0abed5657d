-- What the events of a made script make of its group.
use Rattle.std.proofs.Common.{◌≡◌, ℕ, Bool, true, false, if◌then◌else◌, List, [], ◌∷◌, ◌++◌, length, take, Option, Some, None, Result, Ok, refl, ap, sym, subst, ◌∙◌, codes, pos}
use Rattle.std.specs.Prelude.{nat_lt, nat_eq, not}
use Rattle.cdr_codec.specs.Formats.{read_each}
use Rattle.cdr_codec.specs.declared.orders.Order.TheVariants.{Big}
use Rattle.ft_base.specs.Canonical.{values_at}
use Rattle.ft_base.specs.Coding as words
use Rattle.ft_base.specs.declared.values.Value.TheVariants as values
use Rattle.ft_base.specs.declared.decisions.Ignored.TheVariants as causes
use Rattle.ft_base.specs.declared.numbers.HostNo.{HostNo}
use Rattle.ft_base.specs.declared.numbers.Tick.{Tick}
use Rattle.ft_base.specs.declared.numbers.Version.{Version}
use Rattle.ft_base.specs.declared.requests.Key.{Key}
use Rattle.ft_base.specs.declared.requests.Request.{Request}
use Rattle.ft_base.specs.declared.views.Style.{Style}
use Rattle.ft_base.specs.declared.views.Style.TheVariants.{Warm}
use Rattle.ft_base.specs.declared.views.View.{View}
use Rattle.group_model.specs.Asking.{args_read, asked_version}
use Rattle.group_model.specs.Changes.{change_rows, changed_or, first_fault, next_view, view_sent}
use Rattle.group_model.specs.declared.changes.Change.{Change}
use Rattle.group_model.specs.declared.changes.ManageFault.{ManageFault}
use Rattle.group_model.specs.Decisions.{first_row, request_in, request_named, unless_refused, view_rows}
use Rattle.group_model.specs.declared.refusals.Refusal.{Refusal}
use Rattle.group_model.specs.Events.{turn}
use Rattle.group_model.specs.Openings.{first_view}
use Rattle.group_model.specs.Plain.{Common, Host, Place, loaded_at, state_at, delta_at, with_ran}
use Rattle.group_model.specs.Transfers.{brought_to, ignoring, on_checkpoint, on_send_update, on_state, on_update, on_view, taking}
use Rattle.group_model.specs.Sending.{brought_to_host}
use Rattle.group_model.specs.Turns.{Turn, unchanged}
use Rattle.group_model.specs.Views.{host_no, is_warm, newest_view, sent_to, version, view_at, without}
use Rattle.group_model.specs.declared.asking.Asked.{Asked}
use Rattle.group_model.specs.declared.changes.Change.TheVariants.{Report}
use Rattle.group_model.specs.declared.events.Event.TheVariants as events
use Rattle.group_model.specs.declared.events.GroupAnswer.{GroupAnswer}
use Rattle.group_model.specs.declared.events.GroupAnswer.TheVariants as answers
use Rattle.group_model.specs.declared.events.Inner.{Inner}
use Rattle.group_model.specs.declared.events.Inner.TheVariants as inners
use Rattle.servant_account.specs.Account.{account, account_machine}
use Rattle.shipped_servants.specs.Kinds.{opening_of}
use Rattle.shipped_servants.specs.declared.kinds.Kind.TheVariants.{Account}
use Rattle.made_worlds.proofs.Bank.{IsAwake, IsBank}
use Rattle.made_worlds.proofs.Replies.{state_short}

-- ---- views

-- of the script's group at its opening, and after its primary was reported
abbrev pub view_1 : View
view_1 = first_view Warm (0 ∷ 1 ∷ 2 ∷ [])

abbrev pub view_2 : View
view_2 = record { version = version 2; members = 1 ∷ 2 ∷ []; primary = Some (host_no 1) }

-- ---- requests

-- a request whose arguments are in canonical form, over a version of the group's reference
abbrev pub asked_of : ℕ → Request → Asked
asked_of n q = record { version = Some (version n); key = q.key; bad_context = None; op = Some q.op; body = record { order = Big; align = 0; bytes = q.args } }

abbrev pub deposit_of : Option Key → ℕ → Request
deposit_of key amount = record { key = key; op = codes "deposit"; args = values_at 0 (values.I64 (pos amount) ∷ []) }

abbrev pub balance_of : Option Key → Request
balance_of key = record { key = key; op = codes "balance"; args = [] }

-- what is asked of a host is a request: no row refuses it
abbrev pub Passes : Common → ℕ → ℕ → Asked → Type 0
Passes c host known asked = (q : Request) × (request_in account_machine c host known asked ≡ Ok q)

-- none of the rows on views does
passes : (c : Common) (vs : List View) (host known : ℕ) (asked : Asked) (q : Request) → c.style ≡ Warm → c.views ≡ vs →
    first_row (view_rows Warm host known known (view_at vs known) (length vs) (view_at vs (length vs))) ≡ None → asked.version ≡ Some (version known) → request_named account_machine known asked asked.op ≡ Ok q →
    Passes c host known asked
passes c vs host known asked q warm views none versioned reads =
    let by : Style → List View → Option Version → Result Request Refusal =
    λ style all asks. unless_refused (first_row (view_rows style host (asked_version known asks) known (view_at all known) (length all) (view_at all (length all)))) (request_named account_machine known asked asked.op) in
    (q, (λ i. by (warm i) (views i) (versioned i)) ∙ ap (λ (o : Option Refusal). unless_refused o (request_named account_machine known asked asked.op)) none ∙ reads)

deposit_read : (key : Option Key) (amount : ℕ) →
    (q : Request) × (request_named account_machine 1 (asked_of 1 (deposit_of key amount)) (Some (codes "deposit")) ≡ Ok q)
unfolding args_read read_each words.machine_of account
deposit_read key amount = (record { key = key; op = codes "deposit"; args = _ }, refl)

balance_read : (key : Option Key) →
    (q : Request) × (request_named account_machine 2 (asked_of 2 (balance_of key)) (Some (codes "balance")) ≡ Ok q)
unfolding args_read read_each words.machine_of account
balance_read key = (record { key = key; op = codes "balance"; args = _ }, refl)

pub deposit_passes : (c : Common) (key : Option Key) (amount : ℕ) → c.style ≡ Warm → c.views ≡ view_1 ∷ [] → Passes c 0 1 (asked_of 1 (deposit_of key amount))
deposit_passes c key amount warm views =
    let read = deposit_read key amount in passes c (view_1 ∷ []) 0 1 (asked_of 1 (deposit_of key amount)) read.0 warm views refl refl read.1

pub balance_passes : (c : Common) (key : Option Key) → c.style ≡ Warm → c.views ≡ view_1 ∷ view_2 ∷ [] → Passes c 1 2 (asked_of 2 (balance_of key))
balance_passes c key warm views =
    let read = balance_read key in passes c (view_1 ∷ view_2 ∷ []) 1 2 (asked_of 2 (balance_of key)) read.0 warm views refl refl read.1

-- ---- states and updates

-- what is sent of a state
abbrev pub IsLight : Inner → Type 0
IsLight (inners.View sent) = ⊥
IsLight (inners.State n state) = length state ≡ 8
IsLight (inners.Update n k update) = length update ≡ 8
IsLight (inners.Order i q) = ⊥

-- nothing that hosts share is changed, and the host is up, and knows what it knew, as before
pub record IsStill (c : Common) (h : Host) (t : Turn) : Type 0 where
  pub common : t.common ≡ c
  pub up : t.host.up ≡ h.up
  pub known : t.host.known ≡ h.known

either_still : (b : Bool) (c : Common) (h : Host) (x y : Turn) → IsStill c h x → IsStill c h y → IsStill c h (if b then x else y)
either_still true c h x y p q = p
either_still false c h x y p q = q

-- a host is given a state, or an update
pub given : (c : Common) (h : Host) (carried : Inner) (to : HostNo) → IsLight carried → IsStill c h (turn account_machine c h (brought_to_host to carried) false)
given c h carried to light = go carried light
  where
    still : (place : Place) (a : GroupAnswer) → IsStill c h (unchanged c (record h { place = place }) a)
    still place a = record { common = refl; up = refl; known = refl }

    either : (b : Bool) (x y : Turn) → IsStill c h x → IsStill c h y → IsStill c h (if b then x else y)
    either b x y p q = either_still b c h x y p q

    go : (carried : Inner) → IsLight carried → IsStill c h (turn account_machine c h (brought_to_host to carried) false)
    go (inners.View sent) light = absurd light
    go (inners.Order i q) light = absurd light
    go (inners.State n state) light =
        let behind = causes.Position n h.place.position in
        let later = if nat_lt h.place.position n then brought_to n c h else ignoring c h behind in
        let brought = still (loaded_at n) (answers.Applied n) in
        either h.up (on_state c h n) (unchanged c h answers.Down)
        (either (not h.place.loaded) (brought_to n c h) later brought
        (either (nat_lt h.place.position n) (brought_to n c h) (ignoring c h behind) brought (still h.place (answers.Ignored behind))))
        (still h.place answers.Down)
    go (inners.Update n k update) light =
        let apart = causes.From n h.place.position in
        let there = if nat_eq h.place.position n then brought_to k c h else ignoring c h apart in
        either h.up (on_update c h n k) (unchanged c h answers.Down)
        (either (not h.place.loaded) (ignoring c h causes.NotLoaded) there (still h.place (answers.Ignored causes.NotLoaded))
        (either (nat_eq h.place.position n) (brought_to k c h) (ignoring c h apart) (still (loaded_at k) (answers.Applied k)) (still h.place (answers.Ignored apart))))
        (still h.place answers.Down)

-- ---- what a primary sends

-- a message to each of the other two members
pub record IsTaken (answer : GroupAnswer) : Type 0 where
  pub base : ℕ
  pub position : ℕ
  pub carried : Inner
  pub light : IsLight carried
  pub is : answer ≡ answers.Taken base position (sent_to (1 ∷ 2 ∷ []) carried)

pub record HasTaken (most : ℕ) (t : Turn) : Type 0 where
  pub answer : IsTaken t.answer
  pub group : IsBank (view_1 ∷ []) most t.common
  pub host : IsAwake 1 t.host

eight : length (opening_of Account) ≡ 8
unfolding words.state_of account
eight = refl

light_at : (c : Common) (n : ℕ) → c.opening ≡ opening_of Account → length (state_at account_machine c n) ≡ 8
light_at c n opening = state_short c.opening (take n c.journal) (ap (λ (s : List ℕ). length s) opening ∙ eight)

light_from : (c : Common) (n k : ℕ) → length (delta_at account_machine c n k) ≡ 8
unfolding words.machine_of account
light_from c n k = refl

-- the primary takes a checkpoint
pub checkpoint_taken : (most : ℕ) (c : Common) (h : Host) (clock : Tick) → IsBank (view_1 ∷ []) most c → IsAwake 1 h →
    HasTaken most (turn account_machine c h (events.Checkpoint (host_no 0) clock) false)
checkpoint_taken most c h clock is up =
    subst (HasTaken most) (sym (λ i. if up.up i then on_checkpoint account_machine c h 0 clock.0 false else unchanged c h answers.Down)) there
  where
    c' : Common
    c' = with_ran (length c.journal) c

    h' : Host
    h' = taking c' h

    n : ℕ
    n = h'.place.position

    carried : Inner
    carried = inners.State n (state_at account_machine c' n)

    there : HasTaken most (on_checkpoint account_machine c h 0 clock.0 false)
    there = record {
      answer = record {
        base = h'.place.base;
        position = n;
        carried = carried;
        light = light_at c' n is.opening;
        is = λ i. answers.Taken h'.place.base n (if is_warm (is.style i) then sent_to (without 0 (view_at (is.views_are i) (length (is.views_are i))).members) carried else []);
      };
      group = record { style = is.style; views_are = is.views_are; opening = is.opening; few = is.few };
      host = record { up = up.up; knows = ap (λ (vs : List View). length vs) is.views_are };
    }

pub update_sent : (most : ℕ) (c : Common) (h : Host) → IsBank (view_1 ∷ []) most c → IsAwake 1 h →
    HasTaken most (turn account_machine c h (events.SendUpdate (host_no 0)) false)
update_sent most c h is up =
    subst (HasTaken most) (sym (λ i. if up.up i then on_send_update account_machine c h 0 else unchanged c h answers.Down)) there
  where
    c' : Common
    c' = with_ran (length c.journal) c

    h' : Host
    h' = taking c' h

    n : ℕ
    n = h'.place.position

    carried : Inner
    carried = inners.Update h'.place.base n (delta_at account_machine c' h'.place.base n)

    there : HasTaken most (on_send_update account_machine c h 0)
    there = record {
      answer = record {
        base = h'.place.base;
        position = n;
        carried = carried;
        light = light_from c' h'.place.base n;
        is = λ i. answers.Taken h'.place.base n (sent_to (without 0 (view_at (is.views_are i) (length (is.views_are i))).members) carried);
      };
      group = record { style = is.style; views_are = is.views_are; opening = is.opening; few = is.few };
      host = record { up = up.up; knows = ap (λ (vs : List View). length vs) is.views_are };
    }

-- ---- the ending

-- its primary is reported: the new view goes to all three
pub record IsReported (most : ℕ) (t : Turn) : Type 0 where
  pub answer : t.answer ≡ answers.Changed view_2 (sent_to (0 ∷ 1 ∷ 2 ∷ []) (inners.View (version 2)))
  pub group : IsBank (view_1 ∷ view_2 ∷ []) most t.common

pub reported : (most : ℕ) (c : Common) (h : Host) → IsBank (view_1 ∷ []) most c →
    IsReported most (turn account_machine c h (events.Manage (Report (host_no 0))) false)
reported most c h is = subst (IsReported most) (sym (ap by none)) there
  where
    change : Change
    change = Report (host_no 0)

    by : Option ManageFault → Turn
    by fault = changed_or c h change false fault

    newest_is : newest_view c ≡ view_1
    newest_is = λ i. view_at (is.views_are i) (length (is.views_are i))

    none : first_fault (change_rows c.style (newest_view c) change) ≡ None
    none = λ i. first_fault (change_rows (is.style i) (newest_is i) change)

    there : IsReported most (by None)
    there = record {
      answer = λ i. answers.Changed (next_view (is.style i) (newest_is i) change) (view_sent (newest_is i) (next_view (is.style i) (newest_is i) change));
      group = record {
        style = is.style;
        views_are = λ i. is.views_are i ++ next_view (is.style i) (newest_is i) change ∷ [];
        opening = is.opening;
        few = is.few;
      };
    }

-- a host hears of it
pub view_known : (c : Common) (h : Host) (host : HostNo) → IsAwake 1 h → IsAwake 2 (turn account_machine c h (events.View host (version 2)) false).host
view_known c h host up =
    let later = unchanged c (record h { known = 2 }) (answers.Known (version 2)) in
    let all : turn account_machine c h (events.View host (version 2)) false ≡ later =
    λ i. if up.up i then (if nat_lt (up.knows i) 2 then later else ignoring c h (causes.Known (version 2) (version h.known))) else unchanged c h answers.Down in
    subst (λ (t : Turn). IsAwake 2 t.host) (sym all) (record { up = up.up; knows = refl })

-- it changes nothing that hosts share
pub view_common : (c : Common) (h : Host) (host : HostNo) (sent : Version) → (turn account_machine c h (events.View host sent) false).common ≡ c
view_common c h host sent =
    either h.up (on_view c h sent.0) (unchanged c h answers.Down)
    (either (nat_lt h.known sent.0) (unchanged c (record h { known = sent.0 }) (answers.Known (version sent.0)))
    (ignoring c h (causes.Known (version sent.0) (version h.known))) refl refl) refl
  where
    either : (b : Bool) (x y : Turn) → x.common ≡ c → y.common ≡ c → (if b then x else y).common ≡ c
    either true x y p q = p
    either false x y p q = q
