-- What is written can be read again: the fields of a record are in their ranges.
use Rattle.std.proofs.Common.{◌≡◌, ℕ, ◌+◌, ◌<◌, ◌≤◌, ◌^◌, Bool, true, false, true≢false, cond, not, eqb, ltb, List, [], ◌∷◌, ◌++◌, length, Option, Some, None, Result, Ok, Err, IfOk, refl, sym, ap, ◌∙◌, subst, arith, append-nil, append_assoc, length-append, le-ltb, lt-ltb, lit<, SFits}
use Rattle.std.specs.Prelude.{◌&&◌, ◌||◌, nat_le, nat_lt, option_map}
use Rattle.std.specs.Int.{w32}
use Rattle.std.specs.List.{AllByRecursion}
use Rattle.std.proofs.lemmas.Bool.{ne_eqb, ltb-true}
use Rattle.std.proofs.lemmas.Bool.Decides.{nat_tests}
use Rattle.std.proofs.Math.Facts.{Fits-of_z, Fits-lt-pow}
use Rattle.cdr_codec.specs.declared.faults.CdrWhy.{CdrWhy}
use Rattle.cdr_codec.specs.declared.orders.Order.TheVariants.{Big}
use Rattle.cdr_codec.specs.Calls.{Writer, appended}
use Rattle.cdr_codec.specs.Encapsulations.{encapsulated}
use Rattle.cdr_codec.specs.Formats.{Format, octets}
use Rattle.cdr_codec.proofs.ValueLaws.{boolean_valid, text_valid, signed_valid}
use Rattle.ft_base.specs.Members.{is_member, AreDifferent}
use Rattle.ft_base.specs.Text.{IsName}
use Rattle.ft_base.specs.declared.limits.TheConstants.{HOST_LIMIT, JOURNAL_LIMIT}
use Rattle.ft_base.specs.declared.memory.NoMemory.{NoMemory}
use Rattle.ft_base.specs.declared.numbers.HostNo.{HostNo}
use Rattle.ft_base.specs.declared.numbers.Tick.{Tick}
use Rattle.ft_base.specs.declared.numbers.Version.{Version}
use Rattle.ft_base.specs.declared.requests.Key.{Key}
use Rattle.ft_base.specs.declared.requests.Outcome.TheVariants.{Value, User}
use Rattle.ft_base.specs.declared.requests.Request.{Request}
use Rattle.ft_base.specs.declared.text.NameFault.{NameFault}
use Rattle.ft_base.specs.declared.text.NameFault.TheVariants.{Zero}
use Rattle.ft_base.specs.declared.views.View.{View}
use Rattle.reply_table.specs.declared.entries.Retained.{Retained}
use Rattle.log_records.specs.Records.{within, position, version, name_of, name, unless_refused, optional, key, request, entry, members_from, members, primary, view, outcome, retained, are_rising, retained_of, checkpoint, formed, begun, IsVersion, AreOfVersions, IsPrimaryOf, IsLogged, entry_record, view_record, checkpoint_record}
use Rattle.log_records.specs.Writable.{IsShort, IsWritable, CanStand, IsHeld}
use Rattle.log_records.specs.declared.records.Accepted.{Accepted}
use Rattle.log_records.specs.declared.records.Checkpoint.{Checkpoint}
use Rattle.log_records.specs.declared.records.Record.TheVariants as records
use Rattle.log_records.proofs.WritingLaws.{formed_written}

-- ---- names, keys, requests, outcomes

unrefused : (b c : Bool) (x y : Option NameFault) (o : Option NameFault) → b ≡ false → c ≡ false → o ≡ None → cond b x (cond c y o) ≡ None
unrefused b c x y o e d h = rw (e, d) h

name_is : (t : List ℕ) → IsName t → name_of t ≡ Some t
name_is t h =
    ap (unless_refused t)
    (unrefused (eqb (length t) 0) (ltb 255 (length t)) _ _ _ (ne_eqb (length t) 0 (λ e. omega (arith, e, h.filled))) (le-ltb _ _ (omega (arith, h.short))) (ap (option_map Zero) h.no_zero))

name_valid : (t : List ℕ) → IsName t → name.Valid t
name_valid t h = (text_valid t h.no_zero (omega (arith, h.short)), name_is t h)

pub key_valid : (k : Key) → IsName k.client → SFits w32 k.retention.0 → k.expiration.0 < 2 ^ 64 → key.Valid k
key_valid k named fits small = (name_valid k.client named, (signed_valid w32 k.retention.0 fits (Fits-lt-pow (Fits-of_z fits)), (small, refl)))

pub none_valid : {X : Type 0} (f : Format CdrWhy X) → (optional f).Valid None
none_valid f = (boolean_valid false, refl)

pub some_valid : {X : Type 0} (f : Format CdrWhy X) (x : X) → f.Valid x → (optional f).Valid (Some x)
some_valid f x h = (boolean_valid true, (h, refl))

pub request_valid : (q : Request) → (optional key).Valid q.key → IsName q.op → octets.Valid q.args → request.Valid q
request_valid q k op args = (k, (name_valid q.op op, (args, refl)))

pub value_valid : (value : List ℕ) → octets.Valid value → outcome.Valid (Value value)
value_valid value h = (boolean_valid true, (h, refl))

pub user_valid : (user : List ℕ) → IsName user → octets.Valid user → outcome.Valid (User user)
user_valid user h short = (boolean_valid false, ((short, name_is user h), refl))

-- ---- ranges

within_is : (low high n : ℕ) → low ≤ n → n ≤ high → within low high n ≡ Some n
within_is low high n a b =
    let first : nat_le low n ≡ true = grind (arith, nat_tests) in
    let second : nat_le n high ≡ true = grind (arith, nat_tests) in
    ap (λ (t : Bool). cond (t && nat_le n high) (Some n) None) first ∙ ap (λ (t : Bool). cond t (Some n) None) second

position_valid : (n : ℕ) → n < JOURNAL_LIMIT → position.Valid n
position_valid n h = (omega (arith, h), within_is 0 262143 n (omega arith) (omega (arith, h)))

version_valid : (v : Version) → IsVersion v → version.Valid v
version_valid v h = (omega (arith, h.1), within_is 1 65536 v.0 (omega (arith, h.0)) (omega (arith, h.1)))

-- ---- an entry

pub entry_writable : (p : ℕ) (v : Version) (at : Tick) (q : Request) → at.0 < 2 ^ 64 → request.Valid q
    → IsShort (entry_record (record { position = p; version = v; at = at; request = q })) → p < JOURNAL_LIMIT → IsVersion v
    → IsWritable (records.Entry (record { position = p; version = v; at = at; request = q }))
entry_writable p v at q tick valid short place known = record {
  valid = (position_valid p place, (version_valid v known, (tick, (valid, refl))));
  short = short;
}

-- ---- a view

-- hosts that differ join one by one
abbrev AreNew : List ℕ → List ℕ → Type 0
AreNew joined hosts = AllByRecursion (λ host. is_member host joined ≡ false) hosts

member_push : (host last : ℕ) (hosts : List ℕ) → is_member host hosts ≡ false → eqb last host ≡ false → is_member host (hosts ++ last ∷ []) ≡ false
member_push host last [] h other = ap (λ (b : Bool). b || false) other
member_push host last (first ∷ hosts) h other = go (λ k. member_push host last hosts k other) (eqb first host) h
  where
    go : (is_member host hosts ≡ false → is_member host (hosts ++ last ∷ []) ≡ false) → (b : Bool) → (b || is_member host hosts) ≡ false
        → (b || is_member host (hosts ++ last ∷ [])) ≡ false
    go rest true k = absurd (true≢false k)
    go rest false k = rest k

-- no host of these is that one
not_among : (host : ℕ) (hosts : List ℕ) → is_member host hosts ≡ false → AllByRecursion (λ other. eqb host other ≡ false) hosts
not_among host [] h = tt
not_among host (first ∷ hosts) h = go (not_among host hosts) (eqb first host) refl h
  where
    go : (is_member host hosts ≡ false → AllByRecursion (λ other. eqb host other ≡ false) hosts) → (b : Bool) → eqb first host ≡ b → (b || is_member host hosts) ≡ false
        → AllByRecursion (λ other. eqb host other ≡ false) (first ∷ hosts)
    go rest true t k = absurd (true≢false k)
    go rest false t k = (grind (arith, t), rest k)

new_behind : (last : ℕ) (joined hosts : List ℕ) → AreNew joined hosts → AllByRecursion (λ other. eqb last other ≡ false) hosts → AreNew (joined ++ last ∷ []) hosts
new_behind last joined [] h other = tt
new_behind last joined (host ∷ hosts) h other = (member_push host last joined h.0 other.0, new_behind last joined hosts h.1 other.1)

joins_if : (a b c : Bool) (x y : Option (List ℕ)) → a ≡ true → b ≡ false → c ≡ true → cond ((a && not b) && c) x y ≡ x
joins_if a b c x y e f g = rw (e, f, g) refl

all_join : (joined hosts : List ℕ) → AllByRecursion (λ host. host < HOST_LIMIT) hosts → AreDifferent hosts → AreNew joined hosts → length joined + length hosts ≤ 16
    → members_from joined hosts ≡ Some (joined ++ hosts)
all_join joined [] low different new few = ap Some (sym (append-nil joined))
all_join joined (host ∷ hosts) low different new few =
    joins_if (nat_lt host 64) (is_member host joined) (nat_lt (length joined) 16) _ _ (lt-ltb host 64 low.0) new.0 (lt-ltb (length joined) 16 (omega (arith, few)))
    ∙ all_join (joined ++ host ∷ []) hosts low.1 different.1 (new_behind host joined hosts new.1 (not_among host hosts different.0)) (omega (arith, few, length-append joined (host ∷ [])))
    ∙ ap Some (append_assoc joined (host ∷ []) hosts)

new_to_none : (hosts : List ℕ) → AreNew [] hosts
new_to_none [] = tt
new_to_none (host ∷ hosts) = (refl, new_to_none hosts)

members_valid : (hosts : List ℕ) → AllByRecursion (λ host. host < HOST_LIMIT) hosts → AreDifferent hosts → length hosts ≤ 16 → members.Valid hosts
members_valid hosts low different few = (omega (arith, few), all_join [] hosts low different (new_to_none hosts) (omega (arith, few)))

-- a member is a host
member_low : (host : ℕ) (hosts : List ℕ) → AllByRecursion (λ other. other < HOST_LIMIT) hosts → is_member host hosts ≡ true → host < HOST_LIMIT
member_low host [] low h = absurd (true≢false (sym h))
member_low host (first ∷ hosts) low h = go (member_low host hosts low.1) (eqb first host) refl h
  where
    go : (is_member host hosts ≡ true → host < HOST_LIMIT) → (b : Bool) → eqb first host ≡ b → (b || is_member host hosts) ≡ true → host < HOST_LIMIT
    go rest true t k = let same : first ≡ host = grind (arith, t) in subst (λ (n : ℕ). n < HOST_LIMIT) same low.0
    go rest false t k = rest k

primary_valid : (hosts : List ℕ) (p : Option HostNo) → AllByRecursion (λ host. host < HOST_LIMIT) hosts → IsPrimaryOf hosts p → (primary hosts).Valid p
primary_valid hosts None low h = (lit< tt, refl)
primary_valid hosts (Some host) low h =
    let small = member_low host.0 hosts low h in
    let other : eqb host.0 255 ≡ false = grind (arith, small) in (
      omega (arith, small),
      ap (λ (b : Bool). cond b (Some None) (cond (is_member host.0 hosts) (Some (Some host)) None)) other
          ∙ ap (λ (b : Bool). cond b (Some (Some host)) None) h,
    )

pub view_writable : (v : View) → length v.members ≤ 16 → AreDifferent v.members → IsShort (view_record v) → IsVersion v.version → IsLogged v → IsWritable (records.View v)
view_writable v few different short known logged = record {
  valid = (version_valid v.version known, (members_valid v.members logged.hosts different few, (primary_valid v.members v.primary logged.hosts logged.primary, refl)));
  short = short;
}

-- ---- lists

pub all_push : {X : Type 0} (P : X → Type 0) (xs : List X) (x : X) → AllByRecursion P xs → P x → AllByRecursion P (xs ++ x ∷ [])
all_push P [] x h p = (p, tt)
all_push P (y ∷ xs) x h p = (h.0, all_push P xs x h.1 p)

-- ---- a checkpoint

both_true : (a b : Bool) → (a && b) ≡ true → (a ≡ true) × (b ≡ true)
both_true true b h = (refl, h)
both_true false b h = absurd (true≢false (sym h))

retained_valid : (from end : ℕ) (entries : List Retained) → end ≤ JOURNAL_LIMIT → are_rising from end entries ≡ true → AreOfVersions entries → AllByRecursion IsHeld entries
    → AllByRecursion retained.Valid entries
retained_valid from end [] limit rising known held = tt
retained_valid from end (e ∷ entries) limit rising known held =
    let parts = both_true (nat_le from e.position && nat_lt e.position end) (are_rising (e.position + 1) end entries) rising in
    let two = both_true (nat_le from e.position) (nat_lt e.position end) parts.0 in
    let below = ltb-true e.position end two.1 in (
      (position_valid e.position (omega (arith, below, limit)), (version_valid e.version known.0, (held.0.at, (held.0.request, (held.0.reply, refl))))),
      retained_valid (e.position + 1) end entries limit parts.1 known.1 held.1,
    )

pub checkpoint_writable : (m : ℕ) (time : Tick) (state : List ℕ) (entries : List Retained) → time.0 < 2 ^ 64 → octets.Valid state → length entries < 2 ^ 32 → AllByRecursion IsHeld entries
    → IsShort (checkpoint_record (record { mark = m; time = time; state = state; retained = entries })) → CanStand m entries
    → IsWritable (records.Checkpoint (record { mark = m; time = time; state = state; retained = entries }))
checkpoint_writable m time state entries small valid few held short can =
    let rising : retained_of m entries ≡ Some entries = ap (λ (b : Bool). cond b (Some entries) None) can.rising in
    record {
      valid = (
        (omega (arith, can.fits), within_is 0 262144 m (omega arith) (omega (arith, can.fits))),
        (small, (valid, (((few, retained_valid 0 m entries can.fits can.rising can.versions held), rising), refl))),
      );
      short = short;
    }

-- ---- a record that was finished

-- the text behind a form's fields
text_is : {X : Type 0} (form : ℕ) (f : Format CdrWhy X) (x : X) (first after : Writer) → first ≡ begun form → after ≡ appended f.written x first
    → after.text ≡ encapsulated Big (formed form f) x
text_is form f x first after began wrote =
    ap (λ (w : Writer). w.text) (wrote ∙ ap (λ (w : Writer). appended f.written x w) began) ∙ formed_written form f x

-- what holds of a short piece holds of what is given
on_short : (r : Result (List ℕ) NoMemory) (made piece : List ℕ) (W : Type 0) → made ≡ piece → IfOk r (λ bytes. bytes ≡ made) → IfOk r (λ bytes. IsShort bytes) → (IsShort piece → W)
    → IfOk r (λ bytes. W)
on_short (Ok bytes) made piece W same is short f = f (subst IsShort (is ∙ same) short)
on_short (Err e) made piece W same is short f = tt

pub entry_text : (r : Result (List ℕ) NoMemory) (first after : Writer) (e : Accepted) → first ≡ begun 1 → after ≡ appended entry.written e first
    → IfOk r (λ bytes. bytes ≡ after.text) → IfOk r (λ bytes. bytes ≡ entry_record e)
unfolding entry_record
entry_text (Ok bytes) first after e began wrote is = is ∙ text_is 1 entry e first after began wrote
entry_text (Err wrong) first after e began wrote is = tt

pub entry_finished : (r : Result (List ℕ) NoMemory) (first after : Writer) (p : ℕ) (v : Version) (at : Tick) (q : Request) → first ≡ begun 1
    → after ≡ appended entry.written (record { position = p; version = v; at = at; request = q }) first → at.0 < 2 ^ 64 → request.Valid q
    → IfOk r (λ bytes. bytes ≡ after.text) → IfOk r (λ bytes. IsShort bytes)
    → IfOk r (λ bytes. p < JOURNAL_LIMIT → IsVersion v → IsWritable (records.Entry (record { position = p; version = v; at = at; request = q })))
unfolding entry_record
entry_finished r first after p v at q began wrote tick valid is short =
    let e : Accepted = record { position = p; version = v; at = at; request = q } in
    on_short r after.text (entry_record e) (p < JOURNAL_LIMIT → IsVersion v → IsWritable (records.Entry e)) (text_is 1 entry e first after began wrote) is short
    (λ fits place known. entry_writable p v at q tick valid fits place known)

pub view_finished : (r : Result (List ℕ) NoMemory) (first after : Writer) (v : View) → first ≡ begun 2 → after ≡ appended view.written v first → length v.members ≤ 16 → AreDifferent v.members
    → IfOk r (λ bytes. bytes ≡ after.text) → IfOk r (λ bytes. IsShort bytes) → IfOk r (λ bytes. IsVersion v.version → IsLogged v → IsWritable (records.View v))
unfolding view_record
view_finished r first after v began wrote few different is short =
    on_short r after.text (view_record v) (IsVersion v.version → IsLogged v → IsWritable (records.View v)) (text_is 2 view v first after began wrote) is short
    (λ fits known logged. view_writable v few different fits known logged)

pub checkpoint_finished : (r : Result (List ℕ) NoMemory) (first after : Writer) (m : ℕ) (time : Tick) (state : List ℕ) (entries : List Retained) → first ≡ begun 3
    → after ≡ appended checkpoint.written (record { mark = m; time = time; state = state; retained = entries }) first
    → time.0 < 2 ^ 64 → octets.Valid state → length entries < 2 ^ 32 → AllByRecursion IsHeld entries
    → IfOk r (λ bytes. bytes ≡ after.text) → IfOk r (λ bytes. IsShort bytes)
    → IfOk r (λ bytes. CanStand m entries → IsWritable (records.Checkpoint (record { mark = m; time = time; state = state; retained = entries })))
unfolding checkpoint_record
checkpoint_finished r first after m time state entries began wrote small valid few held is short =
    let k : Checkpoint = record { mark = m; time = time; state = state; retained = entries } in
    on_short r after.text (checkpoint_record k) (CanStand m entries → IsWritable (records.Checkpoint k)) (text_is 3 checkpoint k first after began wrote) is short
    (λ fits can. checkpoint_writable m time state entries small valid few held fits can)
