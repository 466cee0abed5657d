-- What every world keeps, through each small change of it.
use Rattle.std.proofs.Common.{◌≡◌, ℕ, zero, suc, ◌+◌, ◌<◌, ◌≤◌, arith, Bool, true, false, cond, List, [], ◌∷◌, ◌++◌, length, Option, Some, None, refl, sym, ap, subst, ◌∙◌, inl, inr}
use Rattle.std.specs.Prelude.{slice_get, slice_set, map, option_map, OnErr, OnOk, Result, Ok, Err}
use Rattle.std.specs.List.{AllByRecursion}
use Rattle.ft_base.specs.declared.limits.TheConstants.{HOST_LIMIT}
use Rattle.group_model.specs.declared.events.Event.{Event}
use Rattle.group_model.specs.declared.events.GroupAnswer.{GroupAnswer}
use Rattle.group_model.specs.declared.events.GroupAnswer.TheVariants as answers
use Rattle.group_model.specs.declared.events.Inner.{Inner}
use Rattle.group_model.specs.declared.events.Inner.TheVariants as inners
use Rattle.group_model.specs.declared.events.Out.{Out}
use Rattle.ft_base.specs.declared.numbers.HostNo.{HostNo}
use Rattle.group_model.specs.Laws.{Lasts}
use Rattle.group_model.specs.Sending.{brought, brought_to_host, sent_by}
use Rattle.property_manager.specs.declared.effective.Levels.{Levels}
use Rattle.property_manager.specs.declared.faults.PropertyFault.{PropertyFault}
use Rattle.property_manager.specs.declared.settings.Property.{Property}
use Rattle.property_manager.specs.Groups.{IsSetFor, Settings, dropped, put_group, taken, with_dynamic, group_of as levels_for}
use Rattle.script_groups.specs.Acting.{HasTurn, IsActed, IsSoundGroup, MayCome, poisoned}
use Rattle.script_groups.specs.Groups.{ScriptGroup, Placed, acted, all_acted, failing, group_numbered, group_of, placed, steps_of}
use Rattle.script_groups.specs.Laws.{EventsLast, FailingLetsCome, FailingStaysSound, GroupsStaySound, SentMayCome}
use Rattle.script_groups.specs.Lists.{all_get, all_push, all_set, get_set}
use Rattle.script_world.specs.declared.messages.Message.{Message}
use Rattle.script_world.specs.declared.messages.Message.TheVariants as messages
use Rattle.script_world.specs.Sound.{AreInOrder, IsOnItsWay, IsSound, MayComeTo}
use Rattle.script_world.specs.declared.limits.TheConstants.{GROUP_LIMIT}
use Rattle.script_world.specs.World.{World, carried, ticked, with_group, with_settings}
use Rattle.script_world.specs.Worlds.{AreOrHave, EventAt, HasTurnAt, IsOrHas, power_event}
use Rattle.script_world.specs.declared.hosts.HostState.{HostState}
use Rattle.script_world.proofs.Loops.{same_count}
use Rattle.script_world.proofs.Places.{numbered_at}
use Rattle.script_world.proofs.SettingsLemmas.{none_dropped, once_dropped, once_put, other_put}
use Rattle.shipped_servants.specs.Kinds.{type_id}

-- ---- lists

all_mapped : {A : Type 0} (P Q : A → Type 0) (xs : List A) → ((x : A) → P x → Q x) → AllByRecursion P xs → AllByRecursion Q xs
all_mapped P Q [] step all = tt
all_mapped P Q (x ∷ xs) step all = (step x all.0, all_mapped P Q xs step all.1)

-- ---- a group that comes of another

pub record Follows (g h : ScriptGroup) : Type 0 where
  pub id : h.id ≡ g.id
  pub sound : IsSoundGroup h
  pub may : (out : Out) → MayCome g (brought out) → MayCome h (brought out)

abbrev pub AllFollow : List ScriptGroup → List ScriptGroup → Type 0
AllFollow [] [] = Unit {0}
AllFollow [] (h ∷ hs) = ⊥
AllFollow (g ∷ gs) [] = ⊥
AllFollow (g ∷ gs) (h ∷ hs) = Follows g h × AllFollow gs hs

pub follows_same : (g : ScriptGroup) → IsSoundGroup g → Follows g g
follows_same g sound = record { id = refl; sound = sound; may = λ out may. may }

same_group : (g : ScriptGroup) → group_of (poisoned g) ≡ group_of g
unfolding group_of steps_of
same_group g = refl

pub follows_poisoned : (g : ScriptGroup) → IsSoundGroup g → Follows g (poisoned g)
follows_poisoned g sound = record {
  id = refl;
  sound = rw (same_group g) sound;
  may = λ out may. rw (same_group g) may;
}

carried_lasts : (to : HostNo) (i : Inner) → Lasts (brought_to_host to i)
carried_lasts to (inners.View version) = tt
carried_lasts to (inners.State position state) = tt
carried_lasts to (inners.Update base position update) = tt
carried_lasts to (inners.Order index request) = tt

pub follows_acted : GroupsStaySound → EventsLast → (g : ScriptGroup) (e : Event) → IsSoundGroup g → MayCome g e → Follows g (acted g e)
follows_acted stay last g e sound may = record {
  id = refl;
  sound = stay g e sound may;
  may = λ out comes. last g e (brought out) sound may (carried_lasts out.to out.carried) comes;
}

-- ---- lists of groups that come of others

pub all_follow_set : (gs : List ScriptGroup) (i : ℕ) (g h : ScriptGroup) → AllByRecursion IsSoundGroup gs → slice_get gs i ≡ Some g → Follows g h → AllFollow gs (slice_set gs i h)
all_follow_set [] i g h all at follows = tt
all_follow_set (x ∷ gs) zero g h all at follows = (subst (λ (y : ScriptGroup). Follows y h) (let e : g ≡ x = cc in e) follows, all_follow_same gs all.1)
  where
    all_follow_same : (xs : List ScriptGroup) → AllByRecursion IsSoundGroup xs → AllFollow xs xs
    all_follow_same [] sound = tt
    all_follow_same (y ∷ ys) sound = (follows_same y sound.0, all_follow_same ys sound.1)
all_follow_set (x ∷ gs) (suc i) g h all at follows = (follows_same x all.0, all_follow_set gs i g h all.1 at follows)

pub all_follow_acted : GroupsStaySound → EventsLast → (gs : List ScriptGroup) (e : Event) → AllByRecursion IsSoundGroup gs → ((g : ScriptGroup) → MayCome g e) → AllFollow gs (all_acted e gs)
all_follow_acted stay last [] e all may = tt
all_follow_acted stay last (g ∷ gs) e all may = (follows_acted stay last g e all.0 (may g), all_follow_acted stay last gs e all.1 may)

one_follows : GroupsStaySound → EventsLast → (g h : ScriptGroup) (e : Event) → IsSoundGroup g → MayCome g e → IsOrHas g e h → Follows g h
one_follows stay last g h e sound may (inl is) = subst (Follows g) (sym is) (follows_same g sound)
one_follows stay last g h e sound may (inr (inl is)) = subst (Follows g) (sym is) (follows_acted stay last g e sound may)
one_follows stay last g h e sound may (inr (inr is)) = subst (Follows g) (sym is) (follows_poisoned g sound)

pub all_follow_partly : GroupsStaySound → EventsLast → (gs hs : List ScriptGroup) (e : Event) → AllByRecursion IsSoundGroup gs → ((g : ScriptGroup) → MayCome g e) → AreOrHave gs e hs → AllFollow gs hs
all_follow_partly stay last [] [] e all may are = tt
all_follow_partly stay last [] (h ∷ hs) e all may are = are
all_follow_partly stay last (g ∷ gs) [] e all may are = are
all_follow_partly stay last (g ∷ gs) (h ∷ hs) e all may are = (one_follows stay last g h e all.0 (may g) are.0, all_follow_partly stay last gs hs e all.1 may are.1)

-- ---- what follows of them

follow_count : (gs hs : List ScriptGroup) → AllFollow gs hs → length hs ≡ length gs
follow_count [] [] all = refl
follow_count [] (h ∷ hs) all = absurd all
follow_count (g ∷ gs) [] all = absurd all
follow_count (g ∷ gs) (h ∷ hs) all = ap suc (follow_count gs hs all.1)

follow_sound : (gs hs : List ScriptGroup) → AllFollow gs hs → AllByRecursion IsSoundGroup hs
follow_sound [] [] all = tt
follow_sound [] (h ∷ hs) all = absurd all
follow_sound (g ∷ gs) [] all = absurd all
follow_sound (g ∷ gs) (h ∷ hs) all = (all.0.sound, follow_sound gs hs all.1)

-- the group behind another
pub record IsBehind (gs : List ScriptGroup) (i : ℕ) (h : ScriptGroup) : Type 0 where
  pub group : ScriptGroup
  pub there : slice_get gs i ≡ Some group
  pub follows : Follows group h

behind : (gs hs : List ScriptGroup) (i : ℕ) (h : ScriptGroup) → AllFollow gs hs → slice_get hs i ≡ Some h → IsBehind gs i h
behind [] [] i h all at = absurd cc
behind [] (x ∷ hs) i h all at = absurd all
behind (g ∷ gs) [] i h all at = absurd all
behind (g ∷ gs) (x ∷ hs) zero h all at = record { group = g; there = refl; follows = subst (Follows g) (let e : x ≡ h = cc in e) all.0 }
behind (g ∷ gs) (x ∷ hs) (suc i) h all at = (let b = behind gs hs i h all.1 at in record { group = b.group; there = b.there; follows = b.follows })

ahead : (gs hs : List ScriptGroup) (i : ℕ) (out : Out) → AllFollow gs hs →
    MayComeTo (option_map (placed i) (slice_get gs i)) out → MayComeTo (option_map (placed i) (slice_get hs i)) out
ahead gs hs i out = go i gs hs i
  where
    go : (place : ℕ) (xs ys : List ScriptGroup) (k : ℕ) → AllFollow xs ys → MayComeTo (option_map (placed place) (slice_get xs k)) out → MayComeTo (option_map (placed place) (slice_get ys k)) out
    go place [] [] k all comes = comes
    go place [] (y ∷ ys) k all comes = absurd all
    go place (x ∷ xs) [] k all comes = absurd all
    go place (x ∷ xs) (y ∷ ys) zero all comes = all.0.may out comes
    go place (x ∷ xs) (y ∷ ys) (suc k) all comes = go place xs ys k all.1 comes

numbered_follows : (gs hs : List ScriptGroup) (number : ℕ) (out : Out) → AllFollow gs hs → MayComeTo (group_numbered gs number) out → MayComeTo (group_numbered hs number) out
numbered_follows gs hs zero out all comes = absurd comes
numbered_follows gs hs (suc i) out all comes =
    let was : group_numbered gs (suc i) ≡ option_map (placed i) (slice_get gs i) = numbered_at gs (suc i) i (slice_get gs i) (omega arith) refl in
    let is : group_numbered hs (suc i) ≡ option_map (placed i) (slice_get hs i) = numbered_at hs (suc i) i (slice_get hs i) (omega arith) refl in
    subst (λ (o : Option (Placed ScriptGroup)). MayComeTo o out) (sym is) (ahead gs hs i out all (subst (λ (o : Option (Placed ScriptGroup)). MayComeTo o out) was comes))

message_follows : (gs hs : List ScriptGroup) → AllFollow gs hs → (m : Message) → IsOnItsWay gs m → IsOnItsWay hs m
message_follows gs hs all (messages.Request client host attempt) comes = comes
message_follows gs hs all (messages.Reply reply) comes = comes
message_follows gs hs all (messages.Carried group out) comes = numbered_follows gs hs group.0 out all comes
message_follows gs hs all (messages.Ping group host) comes = comes
message_follows gs hs all (messages.Pong group host) comes = comes

-- a world with other groups that come of its own
pub sound_groups : (w : World) (hs : List ScriptGroup) → IsSound w → AllFollow w.groups hs → IsSound (record w { groups = hs })
sound_groups w hs sound all = record {
  few_hosts = sound.few_hosts;
  few_groups = omega (arith, sound.few_groups, follow_count w.groups hs all);
  behind = sound.behind;
  groups = follow_sound w.groups hs all;
  ordered = λ i h at. (let b = behind w.groups hs i h all at in ap (λ id. id.0) b.follows.id ∙ sound.ordered i b.group b.there);
  on_their_way = all_mapped (IsOnItsWay w.groups) (IsOnItsWay hs) w.messages (message_follows w.groups hs all) sound.on_their_way;
  fresh = λ n past. sound.fresh n (omega (arith, past, follow_count w.groups hs all));
  once = sound.once;
  few_bytes = sound.few_bytes;
}

-- ---- one event at one group

acted_follows : GroupsStaySound → EventsLast → (g h : ScriptGroup) (e : Event) (answer : GroupAnswer) (before now : ℕ) → IsSoundGroup g → MayCome g e →
    IsActed g e answer h before now → Follows g h
acted_follows stay last g h e answer before now sound may = go answer
  where
    turned : h ≡ acted g e → Follows g h
    turned is = subst (Follows g) (sym is) (follows_acted stay last g e sound may)

    go : (a : GroupAnswer) → IsActed g e a h before now → Follows g h
    go answers.NoMemory it = subst (Follows g) (sym it.is) (follows_poisoned g sound)
    go (answers.Reply decision answer out) it = turned it.is
    go (answers.Known version) it = turned it.is
    go (answers.Applied n) it = turned it.is
    go (answers.Held n) it = turned it.is
    go (answers.Ignored cause) it = turned it.is
    go (answers.Taken from position out) it = turned it.is
    go (answers.Changed view out) it = turned it.is
    go (answers.Refused fault) it = turned it.is
    go answers.LogFault it = turned it.is
    go answers.Down it = turned it.is
    go answers.Up it = turned it.is

abbrev pub with_at : World → ℕ → ScriptGroup → World
with_at w place h = record w { groups = slice_set w.groups place h }

module _ (w : World) (place : ℕ) (e : Event) (g h : ScriptGroup) (answer : GroupAnswer) (before now : ℕ) (there : slice_get w.groups place ≡ Some g) where
  -- the world stays sound
  pub event_sound : GroupsStaySound → EventsLast → IsSound w → MayCome g e → IsActed g e answer h before now → IsSound (with_at w place h)
  event_sound stay last sound may it =
      let its_own = all_get IsSoundGroup w.groups place g sound.groups there in
      sound_groups w (slice_set w.groups place h) sound
      (all_follow_set w.groups place g h sound.groups there (acted_follows stay last g h e answer before now its_own may it))

  -- it has had the event
  pub event_turn : IsActed g e answer h before now → EventAt w place e answer (with_at w place h) before now
  event_turn = go answer
    where
      turned : (a : GroupAnswer) → HasTurn g e a h before now → HasTurnAt w place e a (with_at w place h) before now
      turned a it = record { group = g; there = there; is = ap (with_at w place) it.is; told = it.told; calls = it.calls }

      go : (a : GroupAnswer) → IsActed g e a h before now → EventAt w place e a (with_at w place h) before now
      go answers.NoMemory it = record { group = g; there = there; calls = it.calls }
      go (answers.Reply decision answer out) it = turned (answers.Reply decision answer out) it
      go (answers.Known version) it = turned (answers.Known version) it
      go (answers.Applied n) it = turned (answers.Applied n) it
      go (answers.Held n) it = turned (answers.Held n) it
      go (answers.Ignored cause) it = turned (answers.Ignored cause) it
      go (answers.Taken from position out) it = turned (answers.Taken from position out) it
      go (answers.Changed view out) it = turned (answers.Changed view out) it
      go (answers.Refused fault) it = turned (answers.Refused fault) it
      go answers.LogFault it = turned answers.LogFault it
      go answers.Down it = turned answers.Down it
      go answers.Up it = turned answers.Up it

  -- what it sent may come to it
  on_its_way : IsSound w → (outs : List Out) → AllByRecursion (λ (out : Out). MayCome h (brought out)) outs →
      AllByRecursion (λ out. IsOnItsWay (slice_set w.groups place h) (carried g.id out)) outs
  on_its_way sound outs = all_mapped (λ (out : Out). MayCome h (brought out)) (λ out. IsOnItsWay (slice_set w.groups place h) (carried g.id out)) outs
      (λ out may. subst (λ (o : Option (Placed ScriptGroup)). MayComeTo o out)
      (sym (numbered_at (slice_set w.groups place h) g.id.0 place (Some h) (sound.ordered place g there) (get_set w.groups place h g there))) may)

  pub event_sent : SentMayCome → IsSound w → MayCome g e → IsActed g e answer h before now →
      AllByRecursion (λ out. IsOnItsWay (slice_set w.groups place h) (carried g.id out)) (sent_by answer)
  event_sent law sound may = go answer
    where
      turned : (a : GroupAnswer) → HasTurn g e a h before now → AllByRecursion (λ out. IsOnItsWay (slice_set w.groups place h) (carried g.id out)) (sent_by a)
      turned a it = on_its_way sound (sent_by a)
          (subst (λ (s : ScriptGroup). AllByRecursion (λ (out : Out). MayCome s (brought out)) (sent_by a)) (sym it.is)
          (subst (λ (b : GroupAnswer). AllByRecursion (λ (out : Out). MayCome (acted g e) (brought out)) (sent_by b)) it.told
          (law g e (all_get IsSoundGroup w.groups place g sound.groups there) may)))

      go : (a : GroupAnswer) → IsActed g e a h before now → AllByRecursion (λ out. IsOnItsWay (slice_set w.groups place h) (carried g.id out)) (sent_by a)
      go answers.NoMemory it = tt
      go (answers.Reply decision answer out) it = turned (answers.Reply decision answer out) it
      go (answers.Known version) it = turned (answers.Known version) it
      go (answers.Applied n) it = turned (answers.Applied n) it
      go (answers.Held n) it = turned (answers.Held n) it
      go (answers.Ignored cause) it = turned (answers.Ignored cause) it
      go (answers.Taken from position out) it = turned (answers.Taken from position out) it
      go (answers.Changed view out) it = turned (answers.Changed view out) it
      go (answers.Refused fault) it = turned (answers.Refused fault) it
      go answers.LogFault it = turned answers.LogFault it
      go answers.Down it = turned answers.Down it
      go answers.Up it = turned answers.Up it

-- ---- a log whose next write is to fail, or a group that was left

pub failing_sound : {E : Type 0} → FailingStaysSound → FailingLetsCome → (w : World) (place : ℕ) (g : ScriptGroup) (hs : List ScriptGroup) (r : Result (Unit {0}) E) →
    slice_get w.groups place ≡ Some g → OnOk r (hs ≡ slice_set w.groups place (failing g)) → OnErr r (hs ≡ w.groups) → IsSound w → IsSound (record w { groups = hs })
failing_sound stay come w place g hs (Ok done) there is left sound =
    let its_own = all_get IsSoundGroup w.groups place g sound.groups there in
    subst (λ gs. IsSound (record w { groups = gs })) (sym is)
    (sound_groups w (slice_set w.groups place (failing g)) sound
    (all_follow_set w.groups place g (failing g) sound.groups there
    (record { id = refl; sound = stay g its_own; may = λ out may. come g (brought out) may })))
failing_sound stay come w place g hs (Err why) there is left sound = subst (λ gs. IsSound (record w { groups = gs })) (sym left) sound

-- ---- one more group

-- whose messages there are none yet
added_follows : (gs : List ScriptGroup) (g : ScriptGroup) (number : ℕ) (out : Out) → MayComeTo (group_numbered gs number) out → MayComeTo (group_numbered (gs ++ g ∷ []) number) out
added_follows gs g zero out comes = absurd comes
added_follows gs g (suc i) out comes =
    let was : group_numbered gs (suc i) ≡ option_map (placed i) (slice_get gs i) = numbered_at gs (suc i) i (slice_get gs i) (omega arith) refl in
    let is : group_numbered (gs ++ g ∷ []) (suc i) ≡ option_map (placed i) (slice_get (gs ++ g ∷ []) i) = numbered_at (gs ++ g ∷ []) (suc i) i (slice_get (gs ++ g ∷ []) i) (omega arith) refl in
    subst (λ (o : Option (Placed ScriptGroup)). MayComeTo o out) (sym is) (go i gs i (subst (λ (o : Option (Placed ScriptGroup)). MayComeTo o out) was comes))
  where
    go : (place : ℕ) (xs : List ScriptGroup) (k : ℕ) → MayComeTo (option_map (placed place) (slice_get xs k)) out → MayComeTo (option_map (placed place) (slice_get (xs ++ g ∷ []) k)) out
    go place [] k comes = absurd comes
    go place (x ∷ xs) zero comes = comes
    go place (x ∷ xs) (suc k) comes = go place xs k comes

message_stays : (gs : List ScriptGroup) (g : ScriptGroup) (m : Message) → IsOnItsWay gs m → IsOnItsWay (gs ++ g ∷ []) m
message_stays gs g (messages.Request client host attempt) comes = comes
message_stays gs g (messages.Reply reply) comes = comes
message_stays gs g (messages.Ping group host) comes = comes
message_stays gs g (messages.Pong group host) comes = comes
message_stays gs g (messages.Carried group out) comes = added_follows gs g group.0 out comes

last_in_order : (gs : List ScriptGroup) (g : ScriptGroup) (base : ℕ) → ((i : ℕ) (x : ScriptGroup) → slice_get gs i ≡ Some x → x.id.0 ≡ base + i + 1) → g.id.0 ≡ base + length gs + 1 →
    (i : ℕ) (x : ScriptGroup) → slice_get (gs ++ g ∷ []) i ≡ Some x → x.id.0 ≡ base + i + 1
last_in_order [] g base so last zero x at = ap (λ (y : ScriptGroup). y.id.0) (let e : x ≡ g = cc in e) ∙ last
last_in_order [] g base so last (suc i) x at = absurd cc
last_in_order (y ∷ gs) g base so last zero x at = so zero x at
last_in_order (y ∷ gs) g base so last (suc i) x at =
    omega (arith, last_in_order gs g (base + 1) (λ k z there. (omega (arith, so (suc k) z there))) (omega (arith, last)) i x at)

count_added : (gs : List ScriptGroup) (g : ScriptGroup) → length (gs ++ g ∷ []) ≡ length gs + 1
count_added [] g = refl
count_added (x ∷ gs) g = omega (arith, count_added gs g)

pub sound_added : (w : World) (g : ScriptGroup) (criteria : List Property) → IsSound w → length w.groups < GROUP_LIMIT → IsSoundGroup g → g.id.0 ≡ length w.groups + 1 →
    IsSound (with_group w g criteria)
sound_added w g criteria sound room its_own numbered = record {
  few_hosts = sound.few_hosts;
  few_groups = omega (arith, room, count_added w.groups g);
  behind = sound.behind;
  groups = all_push IsSoundGroup w.groups g sound.groups its_own;
  ordered = λ i x at. (omega (arith, last_in_order w.groups g 0 (λ k z there. (omega (arith, sound.ordered k z there))) (omega (arith, numbered)) i x at));
  on_their_way = all_mapped (IsOnItsWay w.groups) (IsOnItsWay (w.groups ++ g ∷ [])) w.messages (message_stays w.groups g) sound.on_their_way;
  fresh = λ n past. (
      other_put w.settings.groups g.id.0 n (taken w.settings (type_id g.kind) criteria) (λ same. omega (arith, past, count_added w.groups g, numbered))
      ∙ sound.fresh n (omega (arith, past, count_added w.groups g))
      );
  once = once_put w.settings.groups g.id.0 (taken w.settings (type_id g.kind) criteria) sound.once;
  few_bytes = sound.few_bytes;
}

-- ---- what is set

-- no number of a group is past their count
number_within : (gs : List ScriptGroup) (i : ℕ) (g : ScriptGroup) → AreInOrder gs → slice_get gs i ≡ Some g → g.id.0 ≤ length gs
number_within gs i g ordered at = omega (arith, ordered i g at, inside gs i g at)
  where
    inside : (xs : List ScriptGroup) (k : ℕ) (x : ScriptGroup) → slice_get xs k ≡ Some x → k < length xs
    inside [] k x there = absurd cc
    inside (y ∷ xs) zero x there = omega arith
    inside (y ∷ xs) (suc k) x there = omega (arith, inside xs k x there)

sound_put : (w : World) (place : ℕ) (g : ScriptGroup) (levels : Levels) → slice_get w.groups place ≡ Some g → IsSound w →
    IsSound (with_settings w (record w.settings { groups = put_group w.settings.groups g.id.0 levels }))
sound_put w place g levels at sound = record {
  few_hosts = sound.few_hosts;
  few_groups = sound.few_groups;
  behind = sound.behind;
  groups = sound.groups;
  ordered = sound.ordered;
  on_their_way = sound.on_their_way;
  fresh = λ n past. (
      other_put w.settings.groups g.id.0 n levels (λ same. omega (arith, past, number_within w.groups place g sound.ordered at)) ∙ sound.fresh n past
      );
  once = once_put w.settings.groups g.id.0 levels sound.once;
  few_bytes = sound.few_bytes;
}

-- whatever came of setting properties of a group that runs
pub sound_set_for : (w : World) (place : ℕ) (g : ScriptGroup) (ps : List Property) (result : Result (Unit {0}) PropertyFault) (s : Settings) → slice_get w.groups place ≡ Some g →
    IsSetFor g.id ps (levels_for w.settings.groups g.id.0) w.settings result s → IsSound w → IsSound (with_settings w s)
sound_set_for w place g ps result s at it sound = go (levels_for w.settings.groups g.id.0) result it
  where
    same : s ≡ w.settings → IsSound (with_settings w s)
    same is = subst (λ t. IsSound (with_settings w t)) (sym is) sound

    go : (levels : Option Levels) (r : Result (Unit {0}) PropertyFault) → IsSetFor g.id ps levels w.settings r s → IsSound (with_settings w s)
    go None r set = same set.1
    go (Some levels) (Ok done) set = subst (λ t. IsSound (with_settings w t)) (sym set.1) (sound_put w place g (with_dynamic levels ps) at sound)
    go (Some levels) (Err fault) set = same set.1

pub sound_dropped : (w : World) (number : ℕ) → IsSound w → IsSound (with_settings w (record w.settings { groups = dropped w.settings.groups number }))
sound_dropped w number sound = record {
  few_hosts = sound.few_hosts;
  few_groups = sound.few_groups;
  behind = sound.behind;
  groups = sound.groups;
  ordered = sound.ordered;
  on_their_way = sound.on_their_way;
  fresh = λ n past. none_dropped w.settings.groups sound.once number n (sound.fresh n past);
  once = once_dropped w.settings.groups number sound.once;
  few_bytes = sound.few_bytes;
}

-- ---- time, and hosts that stop and start

ticked_behind : (clock ticks : ℕ) (hosts : List HostState) → AllByRecursion (λ (h : HostState). h.clock ≤ clock) hosts →
    AllByRecursion (λ (h : HostState). h.clock ≤ clock + ticks) (map (ticked ticks) hosts)
ticked_behind clock ticks [] all = tt
ticked_behind clock ticks (h ∷ hosts) all = (one h.up refl, ticked_behind clock ticks hosts all.1)
  where
    one : (b : Bool) → h.up ≡ b → (ticked ticks h).clock ≤ clock + ticks
    one true e = subst (λ (x : HostState). x.clock ≤ clock + ticks) (sym (ap (λ (b : Bool). cond b (record h { clock = h.clock + ticks }) h) e)) (let more : h.clock + ticks ≤ clock + ticks = omega (arith, all.0) in more)
    one false e = subst (λ (x : HostState). x.clock ≤ clock + ticks) (sym (ap (λ (b : Bool). cond b (record h { clock = h.clock + ticks }) h) e)) (let more : h.clock ≤ clock + ticks = omega (arith, all.0) in more)

count_mapped : {A B : Type 0} (f : A → B) (xs : List A) → length (map f xs) ≡ length xs
count_mapped f [] = refl
count_mapped f (x ∷ xs) = ap suc (count_mapped f xs)

pub sound_passed : (w : World) (ticks clock : ℕ) (hosts : List HostState) → clock ≡ w.clock + ticks → hosts ≡ map (ticked ticks) w.hosts → IsSound w →
    IsSound (record w { clock = clock; hosts = hosts })
sound_passed w ticks clock hosts is are sound = record {
  few_hosts = omega (arith, sound.few_hosts, ap length are, count_mapped (ticked ticks) w.hosts);
  few_groups = sound.few_groups;
  behind = subst (λ n. AllByRecursion (λ (h : HostState). h.clock ≤ n) hosts) (sym is)
      (subst (AllByRecursion (λ (h : HostState). h.clock ≤ w.clock + ticks)) (sym are) (ticked_behind w.clock ticks w.hosts sound.behind));
  groups = sound.groups;
  ordered = sound.ordered;
  on_their_way = sound.on_their_way;
  fresh = sound.fresh;
  once = sound.once;
  few_bytes = sound.few_bytes;
}

power_may : (up : Bool) (host : HostNo) → host.0 < HOST_LIMIT → (g : ScriptGroup) → MayCome g (power_event up host)
power_may true host inside g = record { host = inside; brought = tt }
power_may false host inside g = record { host = inside; brought = tt }

pub sound_partly : (w : World) (up : Bool) (host : HostNo) (groups : List ScriptGroup) → GroupsStaySound → EventsLast → host.0 < HOST_LIMIT →
    AreOrHave w.groups (power_event up host) groups → IsSound w → IsSound (record w { groups = groups })
sound_partly w up host groups stay last inside are sound =
    sound_groups w groups sound (all_follow_partly stay last w.groups groups (power_event up host) sound.groups (power_may up host inside) are)

pub sound_powered : (w : World) (up : Bool) (host : HostNo) (hosts : List HostState) (groups : List ScriptGroup) (place : ℕ) → GroupsStaySound → EventsLast → host.0 < HOST_LIMIT →
    hosts ≡ slice_set w.hosts place (record { up = up; clock = 0 }) → groups ≡ all_acted (power_event up host) w.groups → IsSound w →
    IsSound (record w { hosts = hosts; groups = groups })
sound_powered w up host hosts groups place stay last inside hosts_are groups_are sound =
    let follow = subst (AllFollow w.groups) (sym groups_are) (all_follow_acted stay last w.groups (power_event up host) sound.groups (power_may up host inside)) in
    let after = sound_groups w groups sound follow in
    record {
      few_hosts = omega (arith, sound.few_hosts, ap length hosts_are, same_count w.hosts place (record { up = up; clock = 0 }));
      few_groups = after.few_groups;
      behind = subst (AllByRecursion (λ (h : HostState). h.clock ≤ w.clock)) (sym hosts_are)
          (all_set (λ (h : HostState). h.clock ≤ w.clock) w.hosts place (record { up = up; clock = 0 }) sound.behind (omega arith));
      groups = after.groups;
      ordered = after.ordered;
      on_their_way = after.on_their_way;
      fresh = after.fresh;
      once = after.once;
      few_bytes = after.few_bytes;
    }
