-- A record is written field by field.
use Rattle.std.proofs.Common.{◌≡◌, ℕ, zero, suc, ◌+◌, true, false, List, [], ◌∷◌, length, Some, None, refl, sym, ap, ◌∙◌, append-nil, add-one, cond}
use Rattle.std.specs.Prelude.{◌%◌, drop, slice_get}
use Rattle.std.specs.Int.{w32}
use Rattle.cdr_codec.specs.declared.faults.CdrWhy.{CdrWhy}
use Rattle.cdr_codec.specs.declared.orders.Order.TheVariants.{Big}
use Rattle.cdr_codec.specs.Calls.{Writer, appended, appended_each}
use Rattle.cdr_codec.specs.Encapsulations.{encapsulated}
use Rattle.cdr_codec.specs.Formats.{Format, number, octets}
use Rattle.cdr_codec.specs.Values.{boolean, text, signed}
use Rattle.cdr_codec.proofs.StructLaws.{struct_written}
use Rattle.cdr_codec.proofs.Writing.{sequence_written}
use Rattle.ft_base.specs.declared.numbers.Tick.{Tick}
use Rattle.ft_base.specs.declared.numbers.Version.{Version}
use Rattle.ft_base.specs.declared.requests.Key.{Key}
use Rattle.ft_base.specs.declared.requests.Outcome.TheVariants.{Value, User}
use Rattle.ft_base.specs.declared.requests.Request.{Request}
use Rattle.ft_base.specs.declared.views.View.{View}
use Rattle.ft_base.specs.Journal.{is_unexpired}
use Rattle.reply_table.specs.Entries.{unexpired}
use Rattle.reply_table.specs.declared.entries.Retained.{Retained}
use Rattle.log_records.specs.Records.{optional, optional_fields, key, key_fields, request, request_fields, entry, entry_fields, view, view_fields, primary_sign, outcome, outcome_fields, retained, retained_fields, checkpoint, checkpoint_fields, formed, begun}

pub key_written : (k : Key) (w : Writer) → appended key.written k w
    ≡ appended (number 8).written k.expiration.0 (appended (signed w32).written k.retention.0 (appended text.written k.client w))
key_written k w = struct_written key_fields k w

pub none_written : {X : Type 0} (f : Format CdrWhy X) (w : Writer) → appended (optional f).written None w ≡ appended boolean.written false w
none_written f w = struct_written (optional_fields f) None w

pub some_written : {X : Type 0} (f : Format CdrWhy X) (x : X) (w : Writer)
    → appended (optional f).written (Some x) w ≡ appended f.written x (appended boolean.written true w)
some_written f x w = struct_written (optional_fields f) (Some x) w

pub request_written : (q : Request) (w : Writer) → appended request.written q w
    ≡ appended octets.written q.args (appended text.written q.op (appended (optional key).written q.key w))
request_written q w = struct_written request_fields q w

pub entry_written : (p : ℕ) (v : Version) (at : Tick) (q : Request) (w : Writer)
    → appended entry.written (record { position = p; version = v; at = at; request = q }) w
    ≡ appended request.written q (appended (number 8).written at.0 (appended (number 4).written v.0 (appended (number 4).written p w)))
entry_written p v at q w = struct_written entry_fields (record { position = p; version = v; at = at; request = q }) w

pub view_written : (v : View) (w : Writer) → appended view.written v w
    ≡ appended (number 1).written (primary_sign v.primary) (appended octets.written v.members (appended (number 4).written v.version.0 w))
view_written v w = struct_written view_fields v w

-- a record is the octet of the order, the octet of the form, and the fields
pub formed_written : {X : Type 0} (form : ℕ) (f : Format CdrWhy X) (x : X) → (appended f.written x (begun form)).text ≡ encapsulated Big (formed form f) x
formed_written form f x = ap (λ (l : List ℕ). 0 ∷ (form % 256) ∷ l) (sym (append-nil (f.written Big 2 x)))

pub value_written : (value : List ℕ) (w : Writer) → appended outcome.written (Value value) w ≡ appended octets.written value (appended boolean.written true w)
value_written value w = struct_written outcome_fields (Value value) w

pub user_written : (user : List ℕ) (w : Writer) → appended outcome.written (User user) w ≡ appended octets.written user (appended boolean.written false w)
user_written user w = struct_written outcome_fields (User user) w

pub retained_written : (e : Retained) (w : Writer) → appended retained.written e w
    ≡ appended (optional outcome).written e.reply (appended request.written e.request (appended (number 8).written e.at.0 (appended (number 4).written e.version.0 (appended (number 4).written e.position w))))
retained_written e w = struct_written retained_fields e w

pub checkpoint_written : (m : ℕ) (time : Tick) (state : List ℕ) (entries : List Retained) (w : Writer)
    → appended checkpoint.written (record { mark = m; time = time; state = state; retained = entries }) w
    ≡ appended_each retained.written entries (appended (number 4).written (length entries) (appended octets.written state (appended (number 8).written time.0 (appended (number 4).written m w))))
checkpoint_written m time state entries w =
    struct_written checkpoint_fields (record { mark = m; time = time; state = state; retained = entries }) w
    ∙ sequence_written retained.written entries (appended octets.written state (appended (number 8).written time.0 (appended (number 4).written m w)))

-- ---- the entries of a list, by index

pub drop_at : {X : Type 0} (xs : List X) (i : ℕ) (x : X) → slice_get xs i ≡ Some x → drop i xs ≡ x ∷ drop (suc i) xs
drop_at [] i x h = absurd cc
drop_at (y ∷ xs) zero x h = ap (λ z. z ∷ xs) (let e : y ≡ x = cc in e)
drop_at (y ∷ xs) (suc i) x h = drop_at xs i x h

drop_past : {X : Type 0} (xs : List X) (i : ℕ) → slice_get xs i ≡ None → (drop i xs ≡ []) × (drop (suc i) xs ≡ [])
drop_past [] zero h = (refl, refl)
drop_past [] (suc i) h = (refl, refl)
drop_past (y ∷ xs) zero h = absurd cc
drop_past (y ∷ xs) (suc i) h = drop_past xs i h

module _ (time : ℕ) (entries : List Retained) where
  -- an entry that has not expired comes first of those that are left
  pub unexpired_here : (i : ℕ) (e : Retained) → slice_get entries i ≡ Some e → is_unexpired time e.request.key ≡ true
      → unexpired time (drop i entries) ≡ e ∷ unexpired time (drop (i + 1) entries)
  unexpired_here i e at t =
      rw (add-one i)
      (ap (λ xs. unexpired time xs) (drop_at entries i e at) ∙ ap (λ b. cond b (e ∷ unexpired time (drop (suc i) entries)) (unexpired time (drop (suc i) entries))) t)

  -- another isn't one of them
  pub expired_here : (i : ℕ) (e : Retained) → slice_get entries i ≡ Some e → is_unexpired time e.request.key ≡ false
      → unexpired time (drop i entries) ≡ unexpired time (drop (i + 1) entries)
  expired_here i e at t =
      rw (add-one i)
      (ap (λ xs. unexpired time xs) (drop_at entries i e at) ∙ ap (λ b. cond b (e ∷ unexpired time (drop (suc i) entries)) (unexpired time (drop (suc i) entries))) t)

  pub none_here : (i : ℕ) → slice_get entries i ≡ None → unexpired time (drop i entries) ≡ unexpired time (drop (i + 1) entries)
  none_here i at =
      rw (add-one i) (ap (λ xs. unexpired time xs) ((drop_past entries i at).0 ∙ sym (drop_past entries i at).1))
