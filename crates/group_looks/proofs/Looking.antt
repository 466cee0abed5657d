-- What a core tells of its group's hosts, and of the reply that is held for a key.
use Rattle.std.proofs.Common.{◌≡◌, ℕ, zero, suc, ◌+◌, ◌-◌, ◌<◌, ◌≤◌, take, append-nil, append_assoc, arith, Bool, true, false, cond, List, [], ◌∷◌, ◌++◌, length, Option, Some, None, refl, sym, ap, subst, ◌∙◌, Bor}
use Rattle.std.specs.Prelude.{slice_get, not, ◌&&◌, ◌==◌, is_some, slice_index_or, map, option_copied, option_map}
use Rattle.std.specs.Option.{option_and_then}
use Rattle.std.specs.List.{AllByRecursion, filter, find, range_with_len}
use Rattle.std.proofs.lemmas.List.Elements.{filter-append}
use Rattle.ft_base.specs.Machine.{Machine}
use Rattle.ft_base.specs.Members.{is_member}
use Rattle.ft_base.specs.declared.limits.TheConstants.{HOST_LIMIT}
use Rattle.ft_base.specs.declared.numbers.Version.{Version}
use Rattle.ft_base.specs.declared.requests.Outcome.{Outcome}
use Rattle.ft_base.specs.declared.views.View.{View}
use Rattle.ft_replica.specs.Picture.{Picture as ReplicaPicture}
use Rattle.group_hosts.specs.Hosts.{HostPicture}
use Rattle.group_model.specs.Plain.{Group, Host, state_at}
use Rattle.group_model.specs.Agreeing.{IsSound}
use Rattle.group_model.specs.Views.{host_no, newest_view, no_view, version}
use Rattle.ft_base.specs.Journal.{is_held_by}
use Rattle.ft_base.specs.Journal.{Entry as JournalEntry}
use Rattle.ft_base.specs.declared.requests.Key.{Key}
use Rattle.group_stands.specs.Replying.{held_reply}
use Rattle.group_stands.specs.Stands.{AreAnswered, reply_once_run}
use Rattle.message_log.specs.Picture.{Picture as LogPicture}
use Rattle.reply_table.specs.Entries.{holder, reply_of}
use Rattle.reply_table.specs.declared.entries.Retained.{Retained}
use Rattle.std.proofs.lemmas.Bool.Decides.{nat_tests}
use Rattle.group_core.specs.Cores.{CorePicture, Stands}
use Rattle.group_core.specs.Opening.{loaded_replica}
use Rattle.group_core.specs.Telling.{CoresTell, HostTells}
use Rattle.group_looks.specs.declared.figures.Figure.{Figure}
use Rattle.group_looks.specs.Looks.{figure_of, formers, is_former, standing}

there : {X : Type 0} (xs : List X) (i : ℕ) → i < length xs → (x : X) × (slice_get xs i ≡ Some x)
there [] i lt = absurd (omega (arith, lt))
there (x ∷ xs) zero lt = (x, refl)
there (x ∷ xs) (suc i) lt = there xs i (omega (arith, lt))

-- an option, and what it lends
pub some_copied : {A : Type 0} (o : Option (Bor A)) → is_some (option_copied o) ≡ is_some o
some_copied None = refl
some_copied (Some b) = refl

module _ (machines : ℕ → Machine) (tell : CoresTell) (core : CorePicture) (g : Group) (stands : Stands machines core g) (i : ℕ) (inside : i < HOST_LIMIT) where
  abbrev m : Machine
  m = machines g.common.kind

  abbrev its_host : Host
  its_host = g.hosts i

  pub within : i < length core.hosts
  within = omega (arith, inside, stands.count)

  -- what is told of one of its hosts
  record IsSlot : Type 0 where
    pub at : HostPicture
    pub is : slice_get core.hosts i ≡ Some at
    pub tells : HostTells m g.common at its_host

  slot : IsSlot
  slot = let it = there core.hosts i within in record { at = it.0; is = it.1; tells = (tell machines core g stands).hosts i it.0 it.1 }

  abbrev Lends : Option ReplicaPicture → Type 0
  Lends lent = (at : HostPicture) → slice_get core.hosts i ≡ Some at → lent ≡ loaded_replica at

  loaded_is : (lent : Option ReplicaPicture) → Lends lent → is_some lent ≡ its_host.place.loaded
  loaded_is lent lends = ap is_some (lends slot.at slot.is) ∙ go slot.at.replica.loaded refl
    where
      go : (b : Bool) → slot.at.replica.loaded ≡ b → is_some (cond b (Some slot.at.replica) None) ≡ its_host.place.loaded
      go true e = sym e ∙ slot.tells.loaded
      go false e = sym e ∙ slot.tells.loaded

  replica_is : (lent : Option ReplicaPicture) (replica : ReplicaPicture) → Lends lent → lent ≡ Some replica → (slot.at.replica.loaded ≡ true) × (replica ≡ slot.at.replica)
  replica_is lent replica lends e = go slot.at.replica.loaded refl (sym (lends slot.at slot.is) ∙ e)
    where
      go : (b : Bool) → slot.at.replica.loaded ≡ b → cond b (Some slot.at.replica) None ≡ Some replica → (slot.at.replica.loaded ≡ true) × (replica ≡ slot.at.replica)
      go true f is = (f, cc)
      go false f is = absurd cc

  abbrev stood : Bool → Option (ℕ × List ℕ)
  stood b = cond b (Some (its_host.place.position, state_at m g.common its_host.place.position)) None

  -- a host without a servant
  pub none_stands : (lent : Option ReplicaPicture) → Lends lent → lent ≡ None → None ≡ standing m g.common its_host.place
  none_stands lent lends none =
      let loaded : its_host.place.loaded ≡ false = sym (loaded_is lent lends) ∙ ap is_some none in
      sym (ap stood loaded)

  -- and with one
  pub some_stands : (lent : Option ReplicaPicture) (replica : ReplicaPicture) (position : ℕ) (state : List ℕ) → Lends lent → lent ≡ Some replica → position ≡ replica.position → state ≡ replica.state
      → Some (position, state) ≡ standing m g.common its_host.place
  some_stands lent replica position state lends some at_position in_state =
      let s = slot in
      let r = replica_is lent replica lends some in
      let loaded : its_host.place.loaded ≡ true = sym s.tells.loaded ∙ r.0 in
      let here : position ≡ its_host.place.position = at_position ∙ ap (λ (x : ReplicaPicture). x.position) r.1 ∙ s.tells.position in
      let its_state : state ≡ state_at m g.common its_host.place.position = in_state ∙ ap (λ (x : ReplicaPicture). x.state) r.1 ∙ s.tells.state r.0 in
      let both : ◌≡◌ {A = ℕ × List ℕ} (position, state) (its_host.place.position, state_at m g.common its_host.place.position) = λ j. (here j, its_state j) in
      ap (λ (p : ℕ × List ℕ). Some p) both ∙ sym (ap stood loaded)

  pub up_is : (down : Bool) → ((at : HostPicture) → slice_get core.hosts i ≡ Some at → down ≡ not at.up) → not down ≡ its_host.up
  up_is down is = go slot.at.up its_host.up down slot.tells.up (is slot.at slot.is) where
    go : (p u d : Bool) → p ≡ u → d ≡ not p → not d ≡ u
    go true u d same told = ap not told ∙ same
    go false u d same told = ap not told ∙ same

  pub known_is : (known : Version) → ((at : HostPicture) → slice_get core.hosts i ≡ Some at → known.0 ≡ at.known) → known ≡ version its_host.known
  known_is known told = ap version (told slot.at slot.is ∙ slot.tells.known)

  pub figure_is : (down : Bool) (known : Version) (at : Option (ℕ × List ℕ)) → ((at : HostPicture) → slice_get core.hosts i ≡ Some at → down ≡ not at.up)
      → ((at : HostPicture) → slice_get core.hosts i ≡ Some at → known.0 ≡ at.known) → at ≡ standing m g.common its_host.place
      → ◌≡◌ {A = Figure} (record { host = host_no i; up = not down; known = known; at = at }) (figure_of m g i)
  figure_is down known at downs knows stood = λ j. record { host = host_no i; up = up_is down downs j; known = known_is known knows j; at = stood j }

  -- whether it was a member and has its servant still
  pub former_is : (view : View) (has : Bool) (lent : Option ReplicaPicture) (some : Bool) → view ≡ newest_view g.common → has ≡ is_member i view.members → has ≡ false →
      Lends lent → some ≡ is_some lent → some ≡ is_former g i
  former_is view has lent some newest member out lends is =
      let outside : is_member i (newest_view g.common).members ≡ false = ap (λ (v : View). is_member i v.members) (sym newest) ∙ sym member ∙ out in
      is ∙ loaded_is lent lends ∙ sym (ap (λ (b : Bool). not b && its_host.place.loaded) outside)

-- ---- lists of figures

pub map_append : {A B : Type 0} (f : A → B) (xs ys : List A) → map f (xs ++ ys) ≡ map f xs ++ map f ys
map_append f [] ys = refl
map_append {B = B} f (x ∷ xs) ys = ap (λ (bs : List B). f x ∷ bs) (map_append f xs ys)

-- one more at its end
pub one_more_is : (f : ℕ → Figure) (first before after : List Figure) (so_far : List ℕ) (host : ℕ) (figure : Figure) → before ≡ first ++ map f so_far → figure ≡ f host → after ≡ before ++ figure ∷ []
    → after ≡ first ++ map f (so_far ++ host ∷ [])
one_more_is f first before after so_far host figure so is pushed =
    pushed ∙ ap (λ (x : Figure). before ++ x ∷ []) is ∙ ap (λ (l : List Figure). l ++ f host ∷ []) so
    ∙ append_assoc first (map f so_far) (f host ∷ []) ∙ ap (λ (l : List Figure). first ++ l) (sym (map_append f so_far (host ∷ [])))

-- the first of a list, and one more of them
take_suc : (xs : List ℕ) (k : ℕ) → k < length xs → take (suc k) xs ≡ take k xs ++ slice_index_or xs k 0 ∷ []
take_suc [] k inside = absurd (omega (arith, inside))
take_suc (x ∷ xs) zero inside = refl
take_suc (x ∷ xs) (suc k) inside = ap (λ (l : List ℕ). x ∷ l) (take_suc xs k (omega (arith, inside)))

pub take_more : (xs : List ℕ) (k : ℕ) → k < length xs → take (k + 1) xs ≡ take k xs ++ slice_index_or xs k 0 ∷ []
take_more xs k inside = ap (λ (n : ℕ). take n xs) (let same : k + 1 ≡ suc k = omega arith in same) ∙ take_suc xs k inside

pub take_all : (xs : List ℕ) (k : ℕ) → length xs ≤ k → take k xs ≡ xs
take_all [] zero all = refl
take_all [] (suc k) all = refl
take_all (x ∷ xs) zero all = absurd (omega (arith, all))
take_all (x ∷ xs) (suc k) all = ap (λ (l : List ℕ). x ∷ l) (take_all xs k (omega (arith, all)))

got : {A : Type 0} (xs : List A) (i : ℕ) (d : A) → i < length xs → slice_get xs i ≡ Some (slice_index_or xs i d)
got [] i d inside = absurd (omega (arith, inside))
got (x ∷ xs) zero d inside = refl
got (x ∷ xs) (suc i) d inside = got xs i d (omega (arith, inside))

-- the members of the newest view are hosts that there can be
pub members_inside : (m : Machine) (g : Group) → IsSound m g → AllByRecursion (λ host. host < HOST_LIMIT) (newest_view g.common).members
members_inside m g sound =
    let views = sound.common.views in
    let last = length g.common.views - 1 in
    (views.each last (newest_view g.common) (got g.common.views last no_view (omega (arith, views.some)))).hosts

-- ---- the reply that is held

-- an entry that a scan finds stands in the list, and passes
found_there : (p : Retained → Bool) (xs : List Retained) (r : Retained) → find p xs ≡ Some r → (n : ℕ) × (slice_get xs n ≡ Some r) × (p r ≡ true)
found_there p [] r is = absurd cc
found_there p (x ∷ xs) r is = go (p x) refl is (λ found. found_there p xs r found) where
  go : (b : Bool) → p x ≡ b → cond b (Some x) (find p xs) ≡ Some r → (find p xs ≡ Some r → (n : ℕ) × (slice_get xs n ≡ Some r) × (p r ≡ true))
      → (n : ℕ) × (slice_get (x ∷ xs) n ≡ Some r) × (p r ≡ true)
  go true e is behind = let same : x ≡ r = cc in (0, is, subst (λ (y : Retained). p y ≡ true) same e)
  go false e is behind = let f = behind is in (suc f.0, f.1, f.2)

-- and a scan finds one where one stands that passes
scan_finds : (p : Retained → Bool) (xs : List Retained) (n : ℕ) (r : Retained) → slice_get xs n ≡ Some r → p r ≡ true → (s : Retained) × (find p xs ≡ Some s)
scan_finds p [] n r is passes = absurd cc
scan_finds p (x ∷ xs) n r is passes = go (p x) refl n is (λ k at. scan_finds p xs k r at passes) where
  go : (b : Bool) → p x ≡ b → (k : ℕ) → slice_get (x ∷ xs) k ≡ Some r → ((k : ℕ) → slice_get xs k ≡ Some r → (s : Retained) × (find p xs ≡ Some s))
      → (s : Retained) × (cond b (Some x) (find p xs) ≡ Some s)
  go true e k at behind = (x, refl)
  go false e zero at behind = absurd (let same : x ≡ r = cc in let passed : p x ≡ true = subst (λ (y : Retained). p y ≡ true) (sym same) passes in cc)
  go false e (suc k) at behind = behind k at

module _ (m : Machine) (opening : List ℕ) (journal : List JournalEntry) (ran : ℕ) (table : List Retained) (answered : AreAnswered m opening journal ran table) where
  -- all entries of one position have one reply
  reply_at_is : (n p : ℕ) (r : Retained) → slice_get table n ≡ Some r → r.position ≡ p → reply_of table p ≡ r.reply
  reply_at_is n p r at is =
      let here : (r.position == p) ≡ true = grind (arith, nat_tests) in
      let s = scan_finds (λ (e : Retained). e.position == p) table n r at here in
      let f = found_there (λ (e : Retained). e.position == p) table s.0 s.1 in
      let same : s.0.position ≡ p = let b = f.2 in grind (arith, nat_tests) in
      ap (option_and_then (λ (e : Retained). e.reply)) s.1 ∙ answered f.0 s.0 f.1 ∙ ap (reply_once_run m opening journal ran) (same ∙ sym is) ∙ sym (answered n r at)

  -- the reply of the position at which a key is held is the one that is retained for the key
  pub held_at_is : (key : Key) (time : ℕ) (position : Option ℕ) (p : ℕ) → position ≡ option_map (λ (r : Retained). r.position) (holder table key time) → position ≡ Some p
      → reply_of table p ≡ option_and_then (λ (r : Retained). r.reply) (holder table key time)
  held_at_is key time position p is some = go (holder table key time) refl (sym is ∙ some) where
    go : (o : Option Retained) → holder table key time ≡ o → option_map (λ (r : Retained). r.position) o ≡ Some p → reply_of table p ≡ option_and_then (λ (r : Retained). r.reply) (holder table key time)
    go None e at = absurd cc
    go (Some r) e at =
        let same : r.position ≡ p = cc in
        let f = found_there (λ (x : Retained). is_held_by time key x.request.key) table r e in
        reply_at_is f.0 p r f.1 same ∙ sym (ap (option_and_then (λ (x : Retained). x.reply)) e)

  pub not_held : (key : Key) (time : ℕ) (position : Option ℕ) → position ≡ option_map (λ (r : Retained). r.position) (holder table key time) → position ≡ None
      → None ≡ option_and_then (λ (r : Retained). r.reply) (holder table key time)
  not_held key time position is none = go (holder table key time) (sym is ∙ none) where
    go : (o : Option Retained) → option_map (λ (r : Retained). r.position) o ≡ None → None ≡ option_and_then (λ (r : Retained). r.reply) o
    go None e = refl
    go (Some r) e = absurd cc

module _ (machines : ℕ → Machine) (tell : CoresTell) (core : CorePicture) (g : Group) (stands : Stands machines core g) where
  -- what the log's table says of the position at which a key is held is what the group holds for it
  pub reply_found : (log : LogPicture) → log ≡ core.log → (key : Key) (position : Option ℕ) (p : ℕ) → position ≡ option_map (λ (r : Retained). r.position) (holder log.table key log.time)
      → position ≡ Some p → (table : List Retained) → table ≡ log.table → (reply : Option Outcome) → reply ≡ reply_of table p → reply ≡ held_reply (machines g.common.kind) g.common key
  reply_found log same key position p is some table its reply told =
      let m = machines g.common.kind in
      let held : position ≡ option_map (λ (r : Retained). r.position) (holder core.log.table key core.log.time) = is ∙ ap (λ (l : LogPicture). option_map (λ (r : Retained). r.position) (holder l.table key l.time)) same in
      told ∙ ap (λ (t : List Retained). reply_of t p) (its ∙ ap (λ (l : LogPicture). l.table) same)
      ∙ held_at_is m g.common.opening g.common.journal g.common.ran core.log.table stands.log.replies key core.log.time position p held some
      ∙ (tell machines core g stands).replies key

-- ---- those that were members, one host after another

-- numbers in a row, and one more
range_more : (a n j : ℕ) → a + n ≡ j → range_with_len a (suc n) ≡ range_with_len a n ++ j ∷ []
range_more a zero j e = ap (λ (k : ℕ). k ∷ []) (let same : a ≡ j = omega arith in same)
range_more a (suc n) j e = ap (λ (ks : List ℕ). a ∷ ks) (range_more (a + 1) n j (omega arith))

next_of : (p : ℕ → Bool) (h : ℕ) (b : Bool) → p h ≡ b → filter p (range_with_len 0 (h + 1)) ≡ filter p (range_with_len 0 h) ++ cond b (h ∷ []) []
next_of p h b e =
    ap (λ (n : ℕ). filter p (range_with_len 0 n)) (let more : h + 1 ≡ suc h = omega arith in more)
    ∙ ap (filter p) (range_more 0 h h (omega arith))
    ∙ filter-append p (range_with_len 0 h) (h ∷ [])
    ∙ ap (λ (c : Bool). filter p (range_with_len 0 h) ++ cond c (h ∷ []) []) e

pub formers_more : (p : ℕ → Bool) (h : ℕ) → p h ≡ true → filter p (range_with_len 0 (h + 1)) ≡ filter p (range_with_len 0 h) ++ h ∷ []
formers_more p h e = next_of p h true e

pub formers_same : (p : ℕ → Bool) (h : ℕ) → p h ≡ false → filter p (range_with_len 0 (h + 1)) ≡ filter p (range_with_len 0 h)
formers_same p h e = next_of p h false e ∙ append-nil (filter p (range_with_len 0 h))

-- all of them
pub formers_are : (g : Group) (h : ℕ) → h ≡ HOST_LIMIT → filter (is_former g) (range_with_len 0 h) ≡ formers g
unfolding formers
formers_are g h e = ap (λ (n : ℕ). filter (is_former g) (range_with_len 0 n)) e
