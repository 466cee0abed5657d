-- What a client's call leaves of a world.
use Rattle.std.proofs.Common.{◌≡◌, ℕ, zero, suc, ◌<◌, arith, Bool, true, false, List, [], ◌∷◌, length, Option, Some, None, refl, sym, ap, subst, ◌∙◌}
use Rattle.std.specs.Prelude.{Ok, if◌then◌else◌, is_some, not, slice_get, slice_set, unwrap_or}
use Rattle.std.specs.List.{All}
use Rattle.std.specs.Str.{bytes_eq}
use Rattle.std.proofs.lemmas.List.Elements.{All-get_or}
use Rattle.std.proofs.lemmas.Option.{get_or_from_slice_get, slice_get_within}
use Rattle.std.proofs.lemmas.Slice.Eq.{bytes_eq-Decides}
use Rattle.ft_base.specs.declared.numbers.Retention.{Retention}
use Rattle.ft_base.specs.declared.numbers.Tick.{Tick}
use Rattle.ft_base.specs.declared.requests.Key.{Key}
use Rattle.ft_report.specs.declared.reports.ReportLine.{ReportLine}
use Rattle.ft_report.specs.declared.reports.ReportLine.TheVariants as reports
use Rattle.fault_script.specs.declared.arguments.CallWords.{CallWords}
use Rattle.iogr_reference.specs.declared.references.GroupRef.{GroupRef}
use Rattle.script_clients.specs.Clients.{Client, taking}
use Rattle.script_clients.specs.declared.answers.Call.{Call}
use Rattle.script_clients.specs.declared.answers.Told.{Told}
use Rattle.script_groups.specs.Groups.{ScriptGroup, Placed, found, placed}
use Rattle.script_groups.specs.Lists.{get_set, same_some}
use Rattle.script_groups.specs.References.{newest_reference}
use Rattle.script_world.specs.World.{World, client_named, with_client}
use Rattle.script_world.specs.Worlds.{begin}
use Rattle.script_world.specs.declared.worlds.Begun.{Begun}
use Rattle.world_turns.specs.Answers.{Acts, HasDone}
use Rattle.ft_world.specs.Clients.{begun, call_by, call_from, does, expiration_of, is_numbered, key_of, started}
use Rattle.world_turns.specs.Turns.{Effect, goes, says}

-- ---- lists

pub each_get : {A : Type 0} (P : A → Type 0) (xs : List A) (i : ℕ) (x : A) → All P xs → slice_get xs i ≡ Some x → P x
each_get P xs i x all at = subst P (get_or_from_slice_get xs i x x at) (All-get_or P xs i x (slice_get_within xs i x at) all)

set_set : {A : Type 0} (xs : List A) (i : ℕ) (x y : A) → slice_set (slice_set xs i x) i y ≡ slice_set xs i y
set_set [] i x y = refl
set_set (z ∷ xs) zero x y = refl
set_set (z ∷ xs) (suc i) x y = ap (λ zs. z ∷ zs) (set_set xs i x y)

set_length : {A : Type 0} (xs : List A) (i : ℕ) (x : A) → length (slice_set xs i x) ≡ length xs
set_length [] i x = refl
set_length (z ∷ xs) zero x = refl
set_length (z ∷ xs) (suc i) x = ap suc (set_length xs i x)

pub none_of : {A : Type 0} (o : Option A) → is_some o ≡ false → o ≡ None
none_of None e = refl
none_of (Some x) e = absurd cc

-- ---- a client in a world

pub client_within : (w v : World) (i : ℕ) (d : Client) → v ≡ with_client w i d → i < length w.clients → i < length v.clients
client_within w v i d e h =
    subst (λ (u : World). i < length u.clients) (sym e) (subst (λ n. i < n) (sym (set_length w.clients i d)) h)

pub client_there : (w v : World) (i : ℕ) (c d : Client) → v ≡ with_client w i d → slice_get w.clients i ≡ Some c → slice_get v.clients i ≡ Some d
client_there w v i c d e at = subst (λ (u : World). slice_get u.clients i ≡ Some d) (sym e) (get_set w.clients i d c at)

twice : (w v u : World) (i : ℕ) (d e : Client) → v ≡ with_client w i d → u ≡ with_client v i e → u ≡ with_client w i e
twice w v u i d e first second =
    second ∙ ap (λ (x : World). with_client x i e) first ∙ ap (λ cs. record w { clients = cs }) (set_set w.clients i d e)

-- ---- an invocation begins

numbered_is : (o : Option Retention) (b : Bool) → is_some o ≡ not b → b ≡ is_numbered o
numbered_is None true e = refl
numbered_is None false e = absurd cc
numbered_is (Some r) true e = absurd cc
numbered_is (Some r) false e = refl

-- of what the words say and the client finds
abbrev pub made : List ℕ → CallWords → GroupRef → Tick → Bool → Key → Begun
made op said reference expiration numbers key = record {
  reference = reference;
  expiration = expiration;
  numbers = numbers;
  versioned = said.versioned;
  request = record { key = Some key; op = op; args = said.args };
}

pub begun_is : (w : World) (c : Client) (g : ScriptGroup) (op : List ℕ) (said : CallWords) (o : Option GroupRef)
    (reference : GroupRef) (expiration : Tick) (numbers : Bool) (key : Key) →
    reference ≡ unwrap_or o (newest_reference g) → expiration ≡ expiration_of w said.expiration → is_some said.retention ≡ not numbers → key ≡ key_of w c said →
    made op said reference expiration numbers key ≡ begun w c g op said o
begun_is w c g op said o reference expiration numbers key r e n k =
    ap (λ (a : GroupRef). made op said a expiration numbers key) r
    ∙ ap (λ (b : Tick). made op said (unwrap_or o (newest_reference g)) b numbers key) e
    ∙ ap (λ (d : Bool). made op said (unwrap_or o (newest_reference g)) (expiration_of w said.expiration) d key) (numbered_is said.retention numbers n)
    ∙ ap (made op said (unwrap_or o (newest_reference g)) (expiration_of w said.expiration) (is_numbered said.retention)) k

does_same : (w v : World) (i : ℕ) (name n : List ℕ) (idle : List ReportLine) (told t : Told) → w ≡ v → name ≡ n → idle ≡ [] → told ≡ t →
    does w i name None idle told ≡ does v i n None [] t
does_same w v i name n idle told t same named empty tells =
    ap (λ (x : World). does x i name None idle told) same ∙ ap (λ (x : List ℕ). does v i x None idle told) named
    ∙ ap (λ (x : List ReportLine). does v i n None x told) empty ∙ ap (λ (x : Told). does v i n None [] x) tells

-- what a client does that begins over what was taken from it
pub started_is : (w v u : World) (i : ℕ) (c : Client) (g : ScriptGroup) (op : List ℕ) (said : CallWords) (b : Begun) (told : Told) (name : List ℕ) (idle : List ReportLine) →
    v ≡ with_client w i (taking c g.id).client → b ≡ begun w c g op said (taking c g.id).reference →
    (told ≡ (begin (taking c g.id).client b).told) × (u ≡ with_client v i (begin (taking c g.id).client b).client) → name ≡ c.name → idle ≡ [] →
    does u i name None idle told ≡ started w (placed i c) g op said
started_is w v u i c g op said b told name idle took begins tells named empty =
    let d = (taking c g.id).client in
    let with_it = begun w c g op said (taking c g.id).reference in
    does_same u (with_client w i (begin d with_it).client) i name c.name idle told (begin d with_it).told
    (twice w v u i d (begin d b).client took tells.1 ∙ ap (λ (x : Begun). with_client w i (begin d x).client) begins) named empty
    (tells.0 ∙ ap (λ (x : Begun). (begin d x).told) begins)

-- ---- a line

found_passes : {A : Type 0} (test : A → Bool) (k : ℕ) (xs : List A) (p : Placed A) → found test k xs ≡ Some p → test p.value ≡ true
found_passes test k [] p e = absurd cc
found_passes {A = A} test k (x ∷ xs) p e = go (test x) refl (found_passes test (suc k) xs p)
  where
    go : (b : Bool) → test x ≡ b → (found test (suc k) xs ≡ Some p → test p.value ≡ true) → test p.value ≡ true
    go true h behind =
        let same : Some (placed k x) ≡ Some p = sym (ap (λ (y : Bool). if y then Some (placed k x) else found test (suc k) xs) h) ∙ e in
        subst (λ (q : Placed A). test q.value ≡ true) (same_some (placed k x) p same) h
    go false h behind = behind (sym (ap (λ (y : Bool). if y then Some (placed k x) else found test (suc k) xs) h) ∙ e)

named_is : (w : World) (name : List ℕ) (i : ℕ) (c : Client) → client_named w name ≡ Some (placed i c) → c.name ≡ name
named_is w name i c e = (bytes_eq-Decides c.name name).0 (found_passes (λ (x : Client). bytes_eq x.name name) 0 w.clients (placed i c) e)

acts_of : (e : Effect) (report : List ReportLine) (old new : World) (before now : ℕ) → HasDone e report new before now → Acts (goes e) (Ok report) old new before now
acts_of e report old new before now h = (
  ap (λ (w : World). goes (record { world = w; lines = e.lines; calls = e.calls })) (sym h.world)
      ∙ ap (λ (l : List ReportLine). goes (record { world = new; lines = l; calls = e.calls })) (sym h.lines),
  h.calls,
)

-- the client has an open invocation
pub busy_acts : (w : World) (name : List ℕ) (i : ℕ) (c : Client) (g : ScriptGroup) (op : List ℕ) (said : CallWords) (report : List ReportLine) (calls : ℕ) →
    client_named w name ≡ Some (placed i c) → is_some c.call ≡ true → report ≡ reports.Busy name ∷ [] →
    Acts (call_from w (client_named w name) g op said) (Ok report) w w calls calls
busy_acts w name i c g op said report calls named busy are =
    subst (λ (o : Option (Placed Client)). Acts (call_from w o g op said) (Ok report) w w calls calls) (sym named)
    (subst (λ (e : Effect). Acts (goes e) (Ok report) w w calls calls) (sym (go c.call busy))
    (acts_of (says w (reports.Busy c.name ∷ [])) report w w calls calls (record {
      world = refl;
      lines = are ∙ ap (λ (n : List ℕ). reports.Busy n ∷ []) (sym (named_is w name i c named));
      calls = omega arith;
    })))
  where
    go : (o : Option Call) → is_some o ≡ true → call_by w (placed i c) g op said o ≡ says w (reports.Busy c.name ∷ [])
    go None h = absurd cc
    go (Some call) h = refl

-- it has none, and begins one
pub started_acts : (w new : World) (name : List ℕ) (i : ℕ) (c : Client) (g : ScriptGroup) (op : List ℕ) (said : CallWords) (report : List ReportLine) (calls : ℕ) →
    client_named w name ≡ Some (placed i c) → is_some c.call ≡ false → HasDone (started w (placed i c) g op said) report new calls calls →
    Acts (call_from w (client_named w name) g op said) (Ok report) w new calls calls
started_acts w new name i c g op said report calls named idle done =
    subst (λ (o : Option (Placed Client)). Acts (call_from w o g op said) (Ok report) w new calls calls) (sym named)
    (subst (λ (o : Option Call). Acts (goes (call_by w (placed i c) g op said o)) (Ok report) w new calls calls) (sym (none_of c.call idle))
    (acts_of (started w (placed i c) g op said) report w new calls calls done))
