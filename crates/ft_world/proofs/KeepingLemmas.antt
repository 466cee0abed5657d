-- Two worlds, the second behind the first by so many servant calls, with no time between them.
use Rattle.std.proofs.Common.{◌≡◌, ℕ, ◌+◌, ◌<◌, arith, Bool, true, false, List, [], ◌∷◌, length, Some, refl, sym, ap, subst, ◌∙◌}
use Rattle.std.proofs.lemmas.List.{length-map}
use Rattle.std.proofs.lemmas.Option.{slice_get_within}
use Rattle.std.specs.Prelude.{if◌then◌else◌, slice_get, slice_set}
use Rattle.std.specs.List.{AllByRecursion}
use Rattle.ft_base.specs.declared.numbers.GroupId.{GroupId}
use Rattle.ft_base.specs.declared.numbers.HostNo.{HostNo}
use Rattle.group_model.specs.declared.events.Event.{Event}
use Rattle.group_model.specs.declared.events.Event.TheVariants as events
use Rattle.group_model.specs.declared.events.Out.{Out}
use Rattle.group_model.specs.Plain.{Common}
use Rattle.group_model.specs.Sending.{brought, sent_by}
use Rattle.group_model.specs.Versions.{IsHad}
use Rattle.script_clients.specs.Clients.{Client}
use Rattle.script_clients.specs.declared.answers.Told.{Told}
use Rattle.script_groups.specs.Acting.{IsKept}
use Rattle.script_groups.specs.Groups.{ScriptGroup, Placed, acted, all_acted, common_of, failing, turn}
use Rattle.script_groups.specs.declared.happenings.Happening.TheVariants as happenings
use Rattle.script_world.specs.Sound.{AreInOrder}
use Rattle.script_world.specs.World.{World, fresh_host, with_client, with_event, with_failing, with_host, with_messages}
use Rattle.script_world.specs.declared.hosts.HostState.{HostState}
use Rattle.script_world.specs.declared.messages.Message.{Message}
use Rattle.world_management.specs.Hosts.{down_host, started_again, stopped}
use Rattle.world_turns.specs.Sending.{all_carried, all_sent}
use Rattle.world_turns.specs.Turns.{Effect}
use Rattle.ft_world.specs.Laws.{AllLater, HasMore, calls_of_groups}
use Rattle.ft_world.specs.Leading.{HadViews, KnowsViews}
use Rattle.ft_world.proofs.LaterLemmas.{AreFew, KnownCalls, Few, all_next, all_stay, as_often, each_later, none_called, one_called, one_later}
use Rattle.ft_world.proofs.MadeLemmas.{AllMade, AreMade, GoesBy, IsNumber, Names, Tells, at_its_number, more_clients, more_groups, more_messages, order_stays, set_long}
use Rattle.ft_world.proofs.PlaceLemmas.{IsOneOf}
use Rattle.ft_world.proofs.TruthLemmas.{AllTrue, AreTrue, IsTrue, KnownGroups, acted_knows, all_know, carried_true, failing_knows, later_true, more_true, sends_had}
use Rattle.script_groups.specs.Lists.{all_get, all_set, get_set}

-- no time goes by, and no client begins an invocation
pub record Keeps (w new : World) (calls : ℕ) : Type 0 where
  pub groups : AllByRecursion IsKept w.groups → AllByRecursion IsKept new.groups
  pub later : AllLater HasMore w.groups new.groups
  pub called : KnownCalls → calls_of_groups new.groups ≡ calls_of_groups w.groups + calls
  pub clock : new.clock ≡ w.clock
  pub few : (lines : ℕ) → AreFew lines w.clients → AreFew lines new.clients
  pub made : AllMade w → AllMade new
  pub told : KnownGroups → AllMade w → AllTrue w → AllTrue new

abbrev pub Makes : World → Effect → Type 0
Makes w e = Keeps w e.world e.calls

pub same : (w : World) → Keeps w w 0
same w = record {
  groups = λ all. all;
  later = all_stay w.groups;
  called = λ known. omega arith;
  clock = refl;
  few = λ lines f. f;
  made = λ m. m;
  told = λ known m t. t;
}

pub behind : (w v new : World) (m n : ℕ) → Keeps w v m → Keeps v new n → Keeps w new (m + n)
behind w v new m n a b = record {
  groups = λ all. b.groups (a.groups all);
  later = all_next w.groups v.groups new.groups a.later b.later;
  called = λ known. let first = a.called known in let second = b.called known in omega (arith, first, second);
  clock = b.clock ∙ a.clock;
  few = λ lines f. b.few lines (a.few lines f);
  made = λ m. b.made (a.made m);
  told = λ known m t. b.told known (a.made m) (a.told known m t);
}

pub as_many : (w new : World) (m n : ℕ) → m ≡ n → Keeps w new m → Keeps w new n
as_many w new m n e keeps = subst (Keeps w new) e keeps

pub none_more : (w new : World) (calls : ℕ) → Keeps w new calls → Keeps w new (calls + 0)
none_more w new calls keeps = as_many w new calls (calls + 0) (omega arith) keeps

-- a world with the same groups, clients, messages and clock
pub alike : (w v new : World) (calls : ℕ) → new.groups ≡ v.groups → new.clients ≡ v.clients → new.messages ≡ v.messages → new.clock ≡ v.clock →
    Keeps w v calls → Keeps w new calls
alike w v new calls groups clients messages clock keeps = record {
  groups = λ all. subst (AllByRecursion IsKept) (sym groups) (keeps.groups all);
  later = subst (AllLater HasMore w.groups) (sym groups) keeps.later;
  called = λ known. ap calls_of_groups groups ∙ keeps.called known;
  clock = clock ∙ keeps.clock;
  few = λ lines f. subst (AreFew lines) (sym clients) (keeps.few lines f);
  made = λ m.
      subst (λ (gs : List ScriptGroup). AreMade gs new.clients new.messages) (sym groups)
      (subst (λ (cs : List Client). AreMade v.groups cs new.messages) (sym clients)
      (subst (λ (ms : List Message). AreMade v.groups v.clients ms) (sym messages) (keeps.made m)));
  told = λ known m t.
      subst (λ (gs : List ScriptGroup). AreTrue gs new.messages) (sym groups)
      (subst (λ (ms : List Message). AreTrue v.groups ms) (sym messages) (keeps.told known m t));
}

pub elsewhere : (w new : World) → new.groups ≡ w.groups → new.clients ≡ w.clients → new.messages ≡ w.messages → new.clock ≡ w.clock → Keeps w new 0
elsewhere w new groups clients messages clock = alike w w new 0 groups clients messages clock (same w)

-- ---- messages

-- these messages may be sent in a world, by what held of one before it
pub record MayBeSent (w v : World) (ms : List Message) : Type 0 where
  pub names : AllMade v → AllByRecursion (Names (length v.groups) (length v.clients)) ms
  pub told : KnownGroups → AllMade w → AllTrue w → AllByRecursion (IsTrue v.groups v.messages) ms

pub sends : (w v : World) (ms : List Message) (calls : ℕ) → MayBeSent w v ms → Keeps w v calls → Keeps w (with_messages v ms) calls
sends w v ms calls may keeps = record {
  groups = keeps.groups;
  later = keeps.later;
  called = keeps.called;
  clock = keeps.clock;
  few = keeps.few;
  made = λ m. let now = keeps.made m in more_messages v.groups v.clients v.messages ms (may.names now) now;
  told = λ known m t. more_true known v.groups (all_stay v.groups) v.messages ms (may.told known m t) (keeps.told known m t);
}

pub sends_only : (w : World) (ms : List Message) → MayBeSent w w ms → Keeps w (with_messages w ms) 0
sends_only w ms may = sends w w ms 0 may (same w)

-- so may these of a group
pub record MaySend (w v : World) (group : GroupId) (outs : List Out) : Type 0 where
  pub number : AreInOrder v.groups → IsNumber (length v.groups) group
  pub had : KnownGroups → AllMade w → AllTrue w → AllByRecursion (λ (out : Out). HadViews v.groups group (brought out)) outs

all_numbered : (n m : ℕ) (group : GroupId) (outs : List Out) → IsNumber n group → AllByRecursion (Names n m) (all_carried group outs)
all_numbered n m group [] is = tt
all_numbered n m group (out ∷ outs) is = (is, all_numbered n m group outs is)

-- among whatever messages
pub outs_may : (w v : World) (group : GroupId) (outs : List Out) (ms : List Message) → MaySend w v group outs → MayBeSent w (record v { messages = ms }) (all_carried group outs)
outs_may w v group outs ms may = record {
  names = λ m. all_numbered (length v.groups) (length v.clients) group outs (may.number m.ordered);
  told = λ known m t. carried_true v.groups ms group outs (may.had known m t);
}

-- their bytes are counted too
pub group_sends : (w v : World) (group : GroupId) (outs : List Out) (calls : ℕ) → MaySend w v group outs → Keeps w v calls → Keeps w (all_sent v group outs) calls
group_sends w v group outs calls may keeps =
    let ms : List Message = all_carried group outs in
    alike w (with_messages v ms) (all_sent v group outs) calls refl refl refl refl (sends w v ms calls (outs_may w v group outs v.messages may) keeps)

-- ---- groups

pub one_made : (w : World) (p : Placed ScriptGroup) → IsOneOf w.groups (Some p) → AllMade w → IsNumber (length w.groups) p.value.id
one_made w p is m = at_its_number w.groups p.place p.value m.ordered is

-- more happened to groups, and each stands where it stood
more_happened : (w : World) (hs : List ScriptGroup) → AllLater HasMore w.groups hs → length hs ≡ length w.groups → AllMade w → AreMade hs w.clients w.messages
more_happened w hs later long a = more_groups w.groups hs w.clients w.messages (omega (arith, long)) (order_stays w.groups hs later long a.ordered) a

-- an event that tells of no view that the group hasn't had
abbrev pub TellsHad : World → Placed ScriptGroup → Event → Type 0
TellsHad w p e = AllMade w → AllTrue w → IsHad (common_of p.value) e

pub group_acts : (w : World) (p : Placed ScriptGroup) (e : Event) → IsOneOf w.groups (Some p) → TellsHad w p e →
    Keeps w (with_event w p.place p.value e) (turn p.value e).calls
group_acts w p e is had =
    let new : List ScriptGroup = slice_set w.groups p.place (acted p.value e) in
    let later : AllLater HasMore w.groups new = one_later w.groups p.place p.value (happenings.Event e) is in
    record {
      groups = λ all. all_set IsKept w.groups p.place (acted p.value e) all (all_get IsKept w.groups p.place p.value all is);
      later = later;
      called = λ known. one_called known.go_on w.groups p.place p.value e is;
      clock = refl;
      few = λ lines f. f;
      made = more_happened w new later (set_long w.groups p.place (acted p.value e));
      told = λ known m t.
          let knows = acted_knows known p.value e (all_get KnowsViews w.groups p.place p.value t.groups is) (had m t) in
          later_true known w.groups new later w.messages (all_set KnowsViews w.groups p.place (acted p.value e) t.groups knows) t;
    }

-- what it sends then
pub sends_then : (w : World) (p : Placed ScriptGroup) (e : Event) → IsOneOf w.groups (Some p) → TellsHad w p e →
    MaySend w (with_event w p.place p.value e) p.value.id (sent_by (turn p.value e).answer)
sends_then w p e is had = record {
  number = λ ordered. at_its_number (slice_set w.groups p.place (acted p.value e)) p.place (acted p.value e) ordered (get_set w.groups p.place (acted p.value e) p.value is);
  had = λ known m t. sends_had known w.groups p.place p.value e m.ordered is (all_get KnowsViews w.groups p.place p.value t.groups is) (had m t);
}

-- the next write of its log is to fail
pub log_fails : (w : World) (p : Placed ScriptGroup) → IsOneOf w.groups (Some p) → Keeps w (with_failing w p.place p.value) 0
log_fails w p is =
    let new : List ScriptGroup = slice_set w.groups p.place (failing p.value) in
    let later : AllLater HasMore w.groups new = one_later w.groups p.place p.value happenings.FailNext is in
    record {
      groups = λ all. all_set IsKept w.groups p.place (failing p.value) all (all_get IsKept w.groups p.place p.value all is);
      later = later;
      called = λ known. let same = as_often w.groups p.place p.value (failing p.value) is (known.failing p.value).1 in omega (arith, same);
      clock = refl;
      few = λ lines f. f;
      made = more_happened w new later (set_long w.groups p.place (failing p.value));
      told = λ known m t.
          let knows = failing_knows known p.value (all_get KnowsViews w.groups p.place p.value t.groups is) in
          later_true known w.groups new later w.messages (all_set KnowsViews w.groups p.place (failing p.value) t.groups knows) t;
    }

all_hear : (e : Event) (gs : List ScriptGroup) → AllByRecursion IsKept gs → AllByRecursion IsKept (all_acted e gs)
all_hear e [] all = tt
all_hear e (g ∷ gs) all = (all.0, all_hear e gs all.1)

-- every group hears of a host
host_is : (w : World) (host : HostNo) (state : HostState) (e : Event) → ((g : ScriptGroup) → (turn g e).calls ≡ 0) → ((c : Common) → IsHad c e) →
    Keeps w (with_host w host.0 state e) 0
host_is w host state e none had =
    let later : AllLater HasMore w.groups (all_acted e w.groups) = each_later e w.groups in
    record {
      groups = λ all. all_hear e w.groups all;
      later = later;
      called = λ known. let same = none_called known.go_on e none w.groups in omega (arith, same);
      clock = refl;
      few = λ lines f. f;
      made = more_happened w (all_acted e w.groups) later (length-map w.groups (λ g. acted g e));
      told = λ known m t. later_true known w.groups (all_acted e w.groups) later w.messages (all_know known e had w.groups t.groups) t;
    }

pub host_stops : (w : World) (host : HostNo) → Keeps w (stopped w host) 0
host_stops w host = host_is w host down_host (events.Crash host) (λ g. refl) (λ c. tt)

pub host_starts : (w : World) (host : HostNo) → Keeps w (started_again w host) 0
host_starts w host = host_is w host fresh_host (events.Restart host) (λ g. refl) (λ c. tt)

-- ---- clients

-- another in the place of one
pub client_made : (w : World) (i : ℕ) (c d : Client) → slice_get w.clients i ≡ Some c →
    (AllMade w → GoesBy (length w.groups) c → GoesBy (length w.groups) d) → AllMade w → AllMade (with_client w i d)
client_made w i c d at goes a =
    let long = set_long w.clients i d in
    more_clients w.groups w.clients (slice_set w.clients i d) w.messages (omega (arith, long))
    (all_set (GoesBy (length w.groups)) w.clients i d a.clients (goes a (all_get (GoesBy (length w.groups)) w.clients i c a.clients at))) a

-- the clients alone
pub clients_change : (w : World) (cs : List Client) → ((lines : ℕ) → AreFew lines w.clients → AreFew lines cs) →
    (AllMade w → AreMade w.groups cs w.messages) → Keeps w (record w { clients = cs }) 0
clients_change w cs few made = record {
  groups = λ all. all;
  later = all_stay w.groups;
  called = λ known. omega arith;
  clock = refl;
  few = few;
  made = made;
  told = λ known m t. t;
}

pub client_hears : (w : World) (i : ℕ) (c d : Client) → slice_get w.clients i ≡ Some c → ((lines : ℕ) → Few lines c → Few lines d) →
    (AllMade w → GoesBy (length w.groups) c → GoesBy (length w.groups) d) → Keeps w (with_client w i d) 0
client_hears w i c d at hears goes =
    clients_change w (slice_set w.clients i d) (λ lines f. all_set (Few lines) w.clients i d f (hears lines (all_get (Few lines) w.clients i c f at)))
    (client_made w i c d at goes)

-- what it does then, by the references that it goes by then
pub client_tells : (w : World) (i : ℕ) (c d : Client) (told : Told) → slice_get w.clients i ≡ Some c → ((n : ℕ) → GoesBy n d → Tells n told) →
    AllMade (with_client w i d) → Tells (length w.groups) told
client_tells w i c d told at tells a =
    tells (length w.groups) (all_get (GoesBy (length w.groups)) (slice_set w.clients i d) i d a.clients (get_set w.clients i d c at))

pub client_within : (w : World) (i : ℕ) (c d : Client) → slice_get w.clients i ≡ Some c → i < length (slice_set w.clients i d)
client_within w i c d at = slice_get_within (slice_set w.clients i d) i d (get_set w.clients i d c at)

pub if_keeps : (w : World) (b : Bool) (e f : Effect) → Makes w e → Makes w f → Makes w (if b then e else f)
if_keeps w true e f a b = a
if_keeps w false e f a b = b
