-- The records of a log: an entry, a view, a checkpoint. Each is an encapsulation in big endian order whose
-- first octet gives its form. A value out of its range isn't read.
use Rattle.std.specs.Prelude.{◌≡◌, ℕ, ◌+◌, ◌<◌, ◌≤◌, ◌==◌, ◌&&◌, Bool, true, false, not, nat_le, nat_lt, if◌then◌else◌, List, [], ◌∷◌, ◌++◌, length, Result, Err, is_some, Option, Some, None, Ok}
use Rattle.std.specs.Int.{w32}
use Rattle.std.specs.List.{AllByRecursion}
use Rattle.ft_base.specs.Members.{is_member}
use Rattle.ft_base.specs.Text.{name_refusal}
use Rattle.ft_base.specs.declared.limits.TheConstants.{HOST_LIMIT, VIEW_LIMIT, JOURNAL_LIMIT}
use Rattle.ft_base.specs.declared.numbers.HostNo.{HostNo}
use Rattle.ft_base.specs.declared.numbers.Tick.{Tick}
use Rattle.ft_base.specs.declared.numbers.Version.{Version}
use Rattle.ft_base.specs.declared.requests.Key.{Key}
use Rattle.ft_base.specs.declared.requests.Outcome.{Outcome}
use Rattle.ft_base.specs.declared.requests.Outcome.TheVariants.{Value, User}
use Rattle.ft_base.specs.declared.requests.Request.{Request}
use Rattle.ft_base.specs.declared.text.NameFault.{NameFault}
use Rattle.ft_base.specs.declared.views.View.{View}
use Rattle.cdr_codec.specs.declared.faults.CdrWhy.{CdrWhy}
use Rattle.cdr_codec.specs.declared.faults.CdrWhy.TheVariants.{BadBool, BadString}
use Rattle.cdr_codec.specs.declared.orders.Order.{Order}
use Rattle.cdr_codec.specs.declared.orders.Order.TheVariants.{Big, Little}
use Rattle.cdr_codec.specs.Reading.{Reader, Fault, fault_at, Read, ◌>>=◌}
use Rattle.cdr_codec.specs.Calls.{Writer, appended}
use Rattle.cdr_codec.specs.Encapsulations.{opened, encapsulated}
use Rattle.cdr_codec.specs.Formats.{Format, number, octets, sequence, judged, shaped}
use Rattle.cdr_codec.specs.Structs.{Fields, field, whole, struct}
use Rattle.cdr_codec.specs.Values.{boolean, text, signed}
use Rattle.reply_table.specs.declared.entries.Retained.{Retained}
use Rattle.log_records.specs.declared.records.Accepted.{Accepted}
use Rattle.log_records.specs.declared.records.Checkpoint.{Checkpoint}
use Rattle.log_records.specs.declared.records.Record.{Record}
use Rattle.log_records.specs.declared.records.Record.TheVariants as records

-- ---- ranges

-- a record that can't be read is told by its number alone, so that this cause is never seen
abbrev pub out_of_range : CdrWhy
out_of_range = BadBool

abbrev pub within : ℕ → ℕ → ℕ → Option ℕ
within low high n = if nat_le low n && nat_le n high then Some n else None

abbrev pub number_within : ℕ → ℕ → Format CdrWhy ℕ
number_within low high = judged (number 4) 4 out_of_range (within low high) (λ n. n)

-- a position of a journal of at most 262,144 entries
abbrev pub position : Format CdrWhy ℕ
position = number_within 0 262143

abbrev pub mark : Format CdrWhy ℕ
mark = number_within 0 262144

abbrev pub version : Format CdrWhy Version
version = shaped (number_within 1 65536) (λ n. record { 0 = n }) (λ v. v.0)

abbrev pub tick : Format CdrWhy Tick
tick = shaped (number 8) (λ n. record { 0 = n }) (λ t. t.0)

-- a text of 1 to 255 bytes, none 0
abbrev pub unless_refused : List ℕ → Option NameFault → Option (List ℕ)
unless_refused t None = Some t
unless_refused t (Some wrong) = None

abbrev pub name_of : List ℕ → Option (List ℕ)
name_of t = unless_refused t (name_refusal t)

abbrev pub name : Format CdrWhy (List ℕ)
name = judged text 4 BadString name_of (λ n. n)

-- ---- a value that may be absent: a boolean whether it follows

abbrev pub IsJust : {X : Type 0} → (X → Type 0) → Option X → Type 0
IsJust P None = ⊥
IsJust P (Some x) = P x

abbrev pub written_just : {X : Type 0} → (X → List ℕ) → Option X → List ℕ
written_just write None = []
written_just write (Some x) = write x

abbrev pub just : {X : Type 0} → Format CdrWhy X → Format CdrWhy (Option X)
just f = record {
  Valid = λ o. IsJust f.Valid o;
  Spelled = λ order place o bytes. IsJust (λ x. f.Spelled order place x bytes) o;
  written = λ order place o. written_just (λ x. f.written order place x) o;
  read = λ r. f.read r >>= λ x. Ok (Some x.0, x.1);
}

abbrev pub behind : {X : Type 0} → Format CdrWhy X → Bool → Fields CdrWhy (Option X)
behind f true = field (just f) (λ o. o) (λ o. whole o)
behind f false = whole None

abbrev pub optional_fields : {X : Type 0} → Format CdrWhy X → Fields CdrWhy (Option X)
optional_fields f = field boolean (λ o. is_some o) (λ there. behind f there)

abbrev pub optional : {X : Type 0} → Format CdrWhy X → Format CdrWhy (Option X)
optional f = struct (optional_fields f)

-- ---- a request

-- the client's id, the retention id and the expiration, as in FT_REQUEST
abbrev pub key_fields : Fields CdrWhy Key
key_fields =
    field name (λ key. key.client) (λ client.
    field (signed w32) (λ key. key.retention.0) (λ retention.
    field tick (λ key. key.expiration) (λ expiration.
    whole (record { client = client; retention = record { 0 = retention }; expiration = expiration }))))

abbrev pub key : Format CdrWhy Key
key = struct key_fields

-- its key if it has one, its operation, and its arguments as octets
abbrev pub request_fields : Fields CdrWhy Request
request_fields =
    field (optional key) (λ q. q.key) (λ k.
    field name (λ q. q.op) (λ op.
    field octets (λ q. q.args) (λ args.
    whole (record { key = k; op = op; args = args }))))

abbrev pub request : Format CdrWhy Request
request = struct request_fields

-- ---- form 1: an entry

-- its position, the version that its writer knew, the tick of its acceptance, and the request
abbrev pub entry_fields : Fields CdrWhy Accepted
entry_fields =
    field position (λ e. e.position) (λ p.
    field version (λ e. e.version) (λ v.
    field tick (λ e. e.at) (λ at.
    field request (λ e. e.request) (λ q.
    whole (record { position = p; version = v; at = at; request = q })))))

abbrev pub entry : Format CdrWhy Accepted
entry = struct entry_fields

-- ---- form 2: a view

-- hosts join one by one: each is below 64 and no member yet, and there are at most 16
abbrev pub members_from : List ℕ → List ℕ → Option (List ℕ)
members_from joined [] = Some joined
members_from joined (host ∷ hosts) =
    if (nat_lt host 64 && not (is_member host joined)) && nat_lt (length joined) 16 then members_from (joined ++ host ∷ []) hosts else None

abbrev pub members_of : List ℕ → Option (List ℕ)
members_of hosts = members_from [] hosts

abbrev pub members : Format CdrWhy (List ℕ)
members = judged octets 4 out_of_range members_of (λ hosts. hosts)

-- one of the members, or 255 for none
abbrev pub primary_of : List ℕ → ℕ → Option (Option HostNo)
primary_of hosts n =
    if n == 255 then Some None else (if is_member n hosts then Some (Some (record { 0 = n })) else None)

abbrev pub primary_sign : Option HostNo → ℕ
primary_sign None = 255
primary_sign (Some host) = host.0

abbrev pub primary : List ℕ → Format CdrWhy (Option HostNo)
primary hosts = judged (number 1) 1 out_of_range (primary_of hosts) primary_sign

abbrev pub view_fields : Fields CdrWhy View
view_fields =
    field version (λ view. view.version) (λ v.
    field members (λ view. view.members) (λ hosts.
    field (primary hosts) (λ view. view.primary) (λ p.
    whole (record { version = v; members = hosts; primary = p }))))

abbrev pub view : Format CdrWhy View
view = struct view_fields

-- ---- form 3: a checkpoint

-- a boolean, true for a value, and the value or the exception's name as octets
abbrev pub is_value : Outcome → Bool
is_value (Value value) = true
is_value (User user) = false

abbrev pub outcome_octets : Outcome → List ℕ
outcome_octets (Value value) = value
outcome_octets (User user) = user

abbrev pub user_name : Format CdrWhy (List ℕ)
user_name = judged octets 4 BadString name_of (λ n. n)

abbrev pub outcome_by : Bool → Fields CdrWhy Outcome
outcome_by true = field octets outcome_octets (λ value. whole (Value value))
outcome_by false = field user_name outcome_octets (λ user. whole (User user))

abbrev pub outcome_fields : Fields CdrWhy Outcome
outcome_fields = field boolean is_value outcome_by

abbrev pub outcome : Format CdrWhy Outcome
outcome = struct outcome_fields

-- the fields of an entry, and its outcome if it has run
abbrev pub retained_fields : Fields CdrWhy Retained
retained_fields =
    field position (λ e. e.position) (λ p.
    field version (λ e. e.version) (λ v.
    field tick (λ e. e.at) (λ at.
    field request (λ e. e.request) (λ q.
    field (optional outcome) (λ e. e.reply) (λ reply.
    whole (record { position = p; version = v; at = at; request = q; reply = reply }))))))

abbrev pub retained : Format CdrWhy Retained
retained = struct retained_fields

-- positions rise, and are below the mark
abbrev pub are_rising : ℕ → ℕ → List Retained → Bool
are_rising from end [] = true
are_rising from end (e ∷ entries) =
    (nat_le from e.position && nat_lt e.position end) && are_rising (e.position + 1) end entries

abbrev pub retained_of : ℕ → List Retained → Option (List Retained)
retained_of end entries = if are_rising 0 end entries then Some entries else None

abbrev pub retained_below : ℕ → Format CdrWhy (List Retained)
retained_below end = judged (sequence retained) 4 out_of_range (retained_of end) (λ entries. entries)

-- the mark, the time, the state, and the retained entries
abbrev pub checkpoint_fields : Fields CdrWhy Checkpoint
checkpoint_fields =
    field mark (λ c. c.mark) (λ m.
    field tick (λ c. c.time) (λ time.
    field octets (λ c. c.state) (λ state.
    field (retained_below m) (λ c. c.retained) (λ entries.
    whole (record { mark = m; time = time; state = state; retained = entries })))))

abbrev pub checkpoint : Format CdrWhy Checkpoint
checkpoint = struct checkpoint_fields

-- ---- the form's octet comes first

abbrev pub is_form : ℕ → ℕ → Option (Unit {0})
is_form form n = if n == form then Some tt else None

abbrev pub form_octet : ℕ → Format CdrWhy (Unit {0})
form_octet form = judged (number 1) 1 out_of_range (is_form form) (λ _. form)

abbrev pub formed_fields : {X : Type 0} → ℕ → Format CdrWhy X → Fields CdrWhy X
formed_fields form f = field (form_octet form) (λ _. tt) (λ _. field f (λ x. x) (λ x. whole x))

abbrev pub formed : {X : Type 0} → ℕ → Format CdrWhy X → Format CdrWhy X
formed form f = struct (formed_fields form f)

-- ---- a record is read whole

-- nothing is left behind a value
abbrev pub ended_by : {X : Type 0} → X → List ℕ → Option X
ended_by x [] = Some x
ended_by x (more ∷ rest) = None

abbrev pub ended : {X : Type 0} → Read CdrWhy X → Option X
ended (Ok x) = ended_by x.0 x.1.rest
ended (Err wrong) = None

abbrev pub in_order : {X : Type 0} → (Reader → Read CdrWhy X) → Reader → Order → Option X
in_order read r Big = ended (read r)
in_order read r Little = None

abbrev pub in_big : {X : Type 0} → (Reader → Read CdrWhy X) → Result Reader (Fault CdrWhy) → Option X
in_big read (Ok r) = in_order read r r.order
in_big read (Err wrong) = None

-- the fields behind the octet of their form
abbrev pub record_by : ℕ → ℕ → Reader → Read CdrWhy Record
record_by form place r =
    if form == 1 then (entry.read r >>= λ x. Ok (records.Entry x.0, x.1))
    else (if form == 2 then (view.read r >>= λ x. Ok (records.View x.0, x.1))
    else (if form == 3 then (checkpoint.read r >>= λ x. Ok (records.Checkpoint x.0, x.1)) else Err (fault_at out_of_range place)))

abbrev pub record_read : Reader → Read CdrWhy Record
record_read r = (number 1).read r >>= λ form. record_by form.0 r.place form.1

-- the record that a piece is, with the octets of its order and its form, and nothing behind it
unfoldable pub record_in : List ℕ → Option Record
record_in piece = if nat_lt (length piece + 8) 4294967296 then in_big record_read (opened piece) else None

-- a version that a view can have
abbrev pub IsVersion : Version → Type 0
IsVersion version = (0 < version.0) × (version.0 ≤ VIEW_LIMIT)

abbrev pub AreOfVersions : List Retained → Type 0
AreOfVersions entries = AllByRecursion (λ e. IsVersion e.version) entries

-- a primary is one of the members
abbrev pub IsPrimaryOf : List ℕ → Option HostNo → Type 0
IsPrimaryOf hosts None = Unit {0}
IsPrimaryOf hosts (Some host) = is_member host.0 hosts ≡ true

-- a view that a log can write: its members are hosts that there can be, and a primary is one of them
pub record IsLogged (view : View) : Type 0 where
  pub hosts : AllByRecursion (λ host. host < HOST_LIMIT) view.members
  pub primary : IsPrimaryOf view.members view.primary

-- what a record's reading gives is in its ranges
abbrev pub IsInRange : Record → Type 0
IsInRange (records.Entry e) = (e.position < JOURNAL_LIMIT) × IsVersion e.version
IsInRange (records.View v) = IsVersion v.version × IsLogged v
IsInRange (records.Checkpoint k) = (k.mark ≤ JOURNAL_LIMIT) × (are_rising 0 k.mark k.retained ≡ true) × AreOfVersions k.retained

-- ---- records, written

-- the writer behind the octets of the order and of the form
abbrev pub begun : ℕ → Writer
begun form = appended (number 1).written form (record { order = Big; place = 0; text = 0 ∷ [] })

unfoldable pub entry_record : Accepted → List ℕ
entry_record accepted = encapsulated Big (formed 1 entry) accepted

unfoldable pub view_record : View → List ℕ
view_record v = encapsulated Big (formed 2 view) v

unfoldable pub checkpoint_record : Checkpoint → List ℕ
checkpoint_record c = encapsulated Big (formed 3 checkpoint) c
