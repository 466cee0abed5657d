-- What is read of bytes is a message that they spell, and each message that they spell is read.
use Rattle.std.proofs.Common.{◌≡◌, ℕ, ◌+◌, ◌≤◌, Bool, true, false, cond, ltb, List, ◌++◌, length, take, drop, Result, Ok, Err, refl, sym, ap, subst, ◌∙◌, append_assoc, length-append, length-take-le, length-drop, take-append-drop, ltb-false, le-ltb, arith, Option, Some, None, IfOk}
use Rattle.std.proofs.Math.Seq.{take-length}
use Rattle.std.proofs.lemmas.List.{take_at, drop_at}
use Rattle.cdr_codec.specs.declared.orders.Order.{Order}
use Rattle.cdr_codec.specs.declared.orders.Order.TheVariants.{Big}
use Rattle.cdr_codec.specs.declared.bodies.Raw.{Raw}
use Rattle.cdr_codec.specs.Reading.{Reader, reader_at, Fault, fault_at, ◌>>=◌}
use Rattle.cdr_codec.specs.Formats.{Format, judge}
use Rattle.cdr_codec.specs.Orders.{order_of}
use Rattle.cdr_codec.specs.Calls.{FailsIn, Tells, OnFault, Refuses}
use Rattle.cdr_codec.specs.Laws.{IsCodec}
use Rattle.cdr_codec.proofs.Steps.{done, with_reader, bind_ok, bind_goes, ok_is, err_ok}
use Rattle.giop_messages.specs.declared.heads.TheConstants.{HEAD_LENGTH}
use Rattle.giop_messages.specs.declared.faults.Why.{Why}
use Rattle.giop_messages.specs.declared.faults.Why.TheVariants as causes
use Rattle.giop_messages.specs.declared.forms.Form.{Form}
use Rattle.giop_messages.specs.declared.heads.Kind.{Kind}
use Rattle.giop_messages.specs.declared.heads.Kind.TheVariants as kinds
use Rattle.giop_messages.specs.declared.heads.Head.{Head}
use Rattle.giop_messages.specs.declared.messages.Message.{Message}
use Rattle.giop_messages.specs.declared.messages.Message.TheVariants as messages
use Rattle.giop_messages.specs.declared.faults.ReadFault.{ReadFault}
use Rattle.giop_messages.specs.Faults.{read_fault}
use Rattle.giop_messages.specs.Heads.{flags_fit, if_flags_fit, has_kind, head, header, head_in}
use Rattle.giop_messages.specs.Fields.{request_id, request_head, reply_head, locate_request, locate_reply}
use Rattle.giop_messages.specs.Messages.{kind_in, head_of_request, head_of_reply, SpellsBody, SpellsWithBody, SpellsFields, SpellsPayload, Spells, body_at, request_from, reply_from, payload_at, giop, form_of, no_kind, fields_in_form, fields_in, cut, behind, message_in}
use Rattle.giop_messages.specs.Laws.{SpellsHead}
use Rattle.giop_messages.proofs.Codecs.{ReferenceCodecs, head_codec, header_codec, request_id_codec, request_head_codec, reply_head_codec, locate_request_codec, locate_reply_codec}
use Rattle.giop_messages.proofs.Lengths.{header_long}
use Rattle.giop_messages.proofs.BodyLaws.{body_found, body_again}

-- ---- the fields behind a header

-- the message is of this type, and its fields are spelled
record IsIn (kind : Kind) (form : Form) (m : Message) (payload : List ℕ) : Type 0 where
  pub kind_is : kind ≡ kind_in m
  pub fields_spelled : SpellsPayload form m payload

with_body_found : {X : Type 0} (f : Format Why X) → IsCodec causes.Short f → (form : Form) (payload : List ℕ) (x : X × Reader)
    → f.read (reader_at form.order HEAD_LENGTH payload) ≡ Ok x → SpellsWithBody f.Spelled form x.0 (body_at form.minor x.1) payload
with_body_found f law form payload x e =
    let t = law.found (reader_at form.order HEAD_LENGTH payload) x e in
    let order-is : x.1.order ≡ form.order = ap (λ (s : Reader). s.order) t.moved.at_end in
    let place-is : x.1.place ≡ HEAD_LENGTH + length t.bytes = ap (λ (s : Reader). s.place) t.moved.at_end in
    record {
      front = t.bytes;
      back = x.1.rest;
      is = t.moved.is;
      fields_spelled = t.spelled;
      body_spelled = subst (λ (o : Order). SpellsBody (giop form.minor o) (HEAD_LENGTH + length t.bytes) (body_at form.minor x.1) x.1.rest) order-is
          (subst (λ (n : ℕ). SpellsBody (giop form.minor x.1.order) n (body_at form.minor x.1) x.1.rest) place-is (body_found form.minor x.1));
    }

fields_found : {X : Type 0} (f : Format Why X) → IsCodec causes.Short f → (order : Order) (payload : List ℕ) (x : X × Reader)
    → f.read (reader_at order HEAD_LENGTH payload) ≡ Ok x → SpellsFields f.Spelled order x.0 payload
fields_found f law order payload x e =
    let t = law.found (reader_at order HEAD_LENGTH payload) x e in
    record { front = t.bytes; more = x.1.rest; is = t.moved.is; fields_spelled = t.spelled }

payload_found : ReferenceCodecs → (kind : Kind) (form : Form) (payload : List ℕ) (m : Message)
    → payload_at form.minor kind (reader_at form.order HEAD_LENGTH payload) ≡ Ok m → IsIn kind form m payload
payload_found laws kinds.Request form payload m e =
    let b = bind_ok ((request_head form.minor).read (reader_at form.order HEAD_LENGTH payload)) _ m e in
    subst (λ (m : Message). IsIn kinds.Request form m payload) (ok_is (messages.Request (request_from b.0.0 (body_at form.minor b.0.1))) m b.2)
    (record { kind_is = refl; fields_spelled = with_body_found (request_head form.minor) (request_head_codec laws form.minor) form payload b.0 b.1 })
payload_found laws kinds.Reply form payload m e =
    let b = bind_ok ((reply_head form.minor).read (reader_at form.order HEAD_LENGTH payload)) _ m e in
    subst (λ (m : Message). IsIn kinds.Reply form m payload) (ok_is (messages.Reply (reply_from b.0.0 (body_at form.minor b.0.1))) m b.2)
    (record { kind_is = refl; fields_spelled = with_body_found (reply_head form.minor) (reply_head_codec form.minor) form payload b.0 b.1 })
payload_found laws kinds.CancelRequest form payload m e =
    let b = bind_ok (request_id.read (reader_at form.order HEAD_LENGTH payload)) _ m e in
    subst (λ (m : Message). IsIn kinds.CancelRequest form m payload) (ok_is (messages.Cancel b.0.0) m b.2)
    (record { kind_is = refl; fields_spelled = fields_found request_id request_id_codec form.order payload b.0 b.1 })
payload_found laws kinds.LocateRequest form payload m e =
    let b = bind_ok ((locate_request form.minor).read (reader_at form.order HEAD_LENGTH payload)) _ m e in
    subst (λ (m : Message). IsIn kinds.LocateRequest form m payload) (ok_is (messages.LocateRequest b.0.0.0 b.0.0.1) m b.2)
    (record { kind_is = refl; fields_spelled = fields_found (locate_request form.minor) (locate_request_codec laws form.minor) form.order payload b.0 b.1 })
payload_found laws kinds.LocateReply form payload m e =
    let b = bind_ok (locate_reply.read (reader_at form.order HEAD_LENGTH payload)) _ m e in
    subst (λ (m : Message). IsIn kinds.LocateReply form m payload) (ok_is (messages.LocateReply b.0.0.0 b.0.0.1) m b.2)
    (record { kind_is = refl; fields_spelled = fields_found locate_reply locate_reply_codec form.order payload b.0 b.1 })
payload_found laws kinds.CloseConnection form payload m e =
    subst (λ (m : Message). IsIn kinds.CloseConnection form m payload) (ok_is messages.CloseConnection m e) (record { kind_is = refl; fields_spelled = tt })
payload_found laws kinds.MessageError form payload m e =
    subst (λ (m : Message). IsIn kinds.MessageError form m payload) (ok_is messages.MessageError m e) (record { kind_is = refl; fields_spelled = tt })
payload_found laws kinds.Fragment form payload m e =
    let b = bind_ok (request_id.read (reader_at form.order HEAD_LENGTH payload)) _ m e in
    let t = request_id_codec.found (reader_at form.order HEAD_LENGTH payload) b.0 b.1 in
    subst (λ (m : Message). IsIn kinds.Fragment form m payload) (ok_is (messages.Fragment b.0.0 b.0.1.rest) m b.2)
    (record { kind_is = refl; fields_spelled = record { front = t.bytes; is = t.moved.is; id_spelled = t.spelled } })

fields_again : {X Y : Type 0} (f : Format Why X) → IsCodec causes.Short f → (order : Order) (x : X) (front more payload : List ℕ) (next : X × Reader → Result Y (Fault Why)) (y : Result Y (Fault Why))
    → payload ≡ front ++ more → f.Spelled order HEAD_LENGTH x front → next (x, reader_at order (HEAD_LENGTH + length front) more) ≡ y
    → (f.read (reader_at order HEAD_LENGTH payload) >>= next) ≡ y
fields_again f law order x front more payload next y is spelled goes =
    bind_goes (f.read (reader_at order HEAD_LENGTH payload)) next _ _ (ap (λ (l : List ℕ). f.read (reader_at order HEAD_LENGTH l)) is ∙ law.again order HEAD_LENGTH x front more spelled) goes

payload_again : ReferenceCodecs → (m : Message) (form : Form) (payload : List ℕ) → SpellsPayload form m payload
    → payload_at form.minor (kind_in m) (reader_at form.order HEAD_LENGTH payload) ≡ Ok m
payload_again laws (messages.Request r) form payload s =
    fields_again (request_head form.minor) (request_head_codec laws form.minor) form.order (head_of_request r) s.front s.back payload _ _ s.is s.fields_spelled
    (ap (λ (body : Raw). done (messages.Request (request_from (head_of_request r) body))) (body_again form (HEAD_LENGTH + length s.front) r.body s.back s.body_spelled))
payload_again laws (messages.Reply r) form payload s =
    fields_again (reply_head form.minor) (reply_head_codec form.minor) form.order (head_of_reply r) s.front s.back payload _ _ s.is s.fields_spelled
    (ap (λ (body : Raw). done (messages.Reply (reply_from (head_of_reply r) body))) (body_again form (HEAD_LENGTH + length s.front) r.body s.back s.body_spelled))
payload_again laws (messages.Cancel id) form payload s = fields_again request_id request_id_codec form.order id s.front s.more payload _ _ s.is s.fields_spelled refl
payload_again laws (messages.LocateRequest id key) form payload s =
    fields_again (locate_request form.minor) (locate_request_codec laws form.minor) form.order (id, key) s.front s.more payload _ _ s.is s.fields_spelled refl
payload_again laws (messages.LocateReply id status) form payload s = fields_again locate_reply locate_reply_codec form.order (id, status) s.front s.more payload _ _ s.is s.fields_spelled refl
payload_again laws messages.CloseConnection form payload s = refl
payload_again laws messages.MessageError form payload s = refl
payload_again laws (messages.Fragment id rest) form payload s = fields_again request_id request_id_codec form.order id s.front rest payload _ _ s.is s.id_spelled refl

-- ---- the whole message

unless_cut : {X : Type 0} (b : Bool) (wrong : Fault Why) (read : Result X (Fault Why)) (x : X) → cond b (Err wrong) read ≡ Ok x → (b ≡ false) × (read ≡ Ok x)
unless_cut true wrong read x e = absurd (err_ok x wrong e)
unless_cut false wrong read x e = (refl, e)

goes_on : {X : Type 0} (b : Bool) (wrong : Fault Why) (read x : Result X (Fault Why)) → b ≡ false → read ≡ x → cond b (Err wrong) read ≡ x
goes_on b wrong read x whole e = rw whole e

abbrev with_form : Message → Form → Message × Form
with_form m form = (m, form)

abbrev head_with : Form → ℕ → Kind → ℕ → Head
head_with form flags kind size = record { minor = form.minor; flags = flags; kind = kind; size = size }

-- what stands behind the header
abbrev payload_in : Head → List ℕ → List ℕ
payload_in h bytes = take h.size (drop HEAD_LENGTH bytes)

-- fields are read of a type that there is
if_possible : {X : Type 0} (b : Bool) (wrong : Fault Why) (read : Result X (Fault Why)) (x : X) → cond b read (Err wrong) ≡ Ok x → (b ≡ true) × (read ≡ Ok x)
if_possible true wrong read x e = (refl, e)
if_possible false wrong read x e = absurd (err_ok x wrong e)

possibly : {X : Type 0} (b : Bool) (wrong : Fault Why) (read x : Result X (Fault Why)) → b ≡ true → read ≡ x → cond b read (Err wrong) ≡ x
possibly b wrong read x there e = rw there e

found_behind : ReferenceCodecs → (bytes front rest : List ℕ) (h : Head) (m : Message) (form : Form) → bytes ≡ front ++ rest → header.Spelled Big 0 h front
    → behind bytes h ≡ Ok (with_form m form) → Spells bytes form m
found_behind laws bytes front rest h m form is spelled e =
    let twelve = header_long.long Big h front spelled in
    let whole = unless_cut (ltb (length bytes) (HEAD_LENGTH + h.size)) (cut bytes) _ (with_form m form) e in
    let enough : HEAD_LENGTH + h.size ≤ length bytes = ltb-false _ _ whole.0 in
    let payload = payload_in h bytes in
    let there = if_possible (has_kind h.minor h.kind) no_kind _ (with_form m form) whole.1 in
    let b = bind_ok (payload_at h.minor h.kind (reader_at (order_of h.flags) HEAD_LENGTH payload)) (λ m. done (with_form m (form_of h))) (with_form m form) there.1 in
    let same = ok_is (with_form b.0 (form_of h)) (with_form m form) b.2 in
    let i = subst (λ (m : Message). IsIn h.kind (form_of h) m payload) (ap (λ (p : Message × Form). p.0) same) (payload_found laws h.kind (form_of h) payload b.0 b.1) in
    let form-is : form_of h ≡ form = ap (λ (p : Message × Form). p.1) same in
    let sized : length payload ≡ h.size = length-take-le h.size (drop HEAD_LENGTH bytes) (omega (arith, length-drop HEAD_LENGTH bytes)) in
    let left : drop HEAD_LENGTH bytes ≡ rest = ap (drop HEAD_LENGTH) is ∙ drop_at front rest HEAD_LENGTH twelve in
    subst (λ (f : Form). Spells bytes f m) form-is (record {
      flags = h.flags;
      front = front;
      payload = payload;
      more = drop h.size (drop HEAD_LENGTH bytes);
      is = is ∙ ap (λ (l : List ℕ). front ++ l) (sym left ∙ sym (take-append-drop h.size (drop HEAD_LENGTH bytes)))
          ∙ sym (append_assoc front payload (drop h.size (drop HEAD_LENGTH bytes)));
      ordered = refl;
      possible = subst (λ (k : Kind). has_kind h.minor k ≡ true) i.kind_is there.0;
      head_spelled = subst (λ (k : Kind). header.Spelled Big 0 (head_with (form_of h) h.flags k (length payload)) front) i.kind_is
          (subst (λ (n : ℕ). header.Spelled Big 0 (head_with (form_of h) h.flags h.kind n) front) (sym sized) spelled);
      fields_spelled = i.fields_spelled;
    })

-- what is read is spelled
pub message_found : ReferenceCodecs → (bytes : List ℕ) (m : Message) (form : Form) → message_in bytes ≡ Ok (m, form) → Spells bytes form m
message_found laws bytes m form e =
    let whole = unless_cut (ltb (length bytes) HEAD_LENGTH) (cut bytes) _ (with_form m form) e in
    let b = bind_ok (header.read (reader_at Big 0 bytes)) (λ h. behind bytes h.0) (with_form m form) whole.1 in
    let t = header_codec.found (reader_at Big 0 bytes) b.0 b.1 in
    found_behind laws bytes t.bytes b.0.1.rest b.0.0 m form t.moved.is t.spelled b.2

-- what is spelled is read
pub message_again : ReferenceCodecs → (bytes : List ℕ) (m : Message) (form : Form) → Spells bytes form m → message_in bytes ≡ Ok (m, form)
message_again laws bytes m form s =
    let h = head_with form s.flags (kind_in m) (length s.payload) in
    let twelve = header_long.long Big h s.front s.head_spelled in
    let is : bytes ≡ s.front ++ (s.payload ++ s.more) = s.is ∙ append_assoc s.front s.payload s.more in
    let len : length bytes ≡ HEAD_LENGTH + length s.payload + length s.more = omega (arith, ap length is, length-append s.front (s.payload ++ s.more), length-append s.payload s.more) in
    let payload-is : payload_in h bytes ≡ s.payload =
    ap (λ (l : List ℕ). take (length s.payload) (drop HEAD_LENGTH l)) is
    ∙ ap (take (length s.payload)) (drop_at s.front (s.payload ++ s.more) HEAD_LENGTH twelve)
    ∙ take_at s.payload s.more (length s.payload) refl in
    let form-is : giop form.minor (order_of s.flags) ≡ form = ap (giop form.minor) (sym s.ordered) in
    let fields : fields_in_form form (kind_in m) s.payload ≡ Ok (with_form m form) =
    bind_goes (payload_at form.minor (kind_in m) (reader_at form.order HEAD_LENGTH s.payload)) (λ m. done (with_form m form)) _ _
    (payload_again laws m form s.payload s.fields_spelled) refl in
    let there : fields_in h (payload_in h bytes) ≡ Ok (with_form m form) =
    possibly (has_kind form.minor (kind_in m)) no_kind _ _ s.possible
    (ap (fields_in_form (form_of h) (kind_in m)) payload-is ∙ ap (λ (f : Form). fields_in_form f (kind_in m) s.payload) form-is ∙ fields) in
    let behind-is : behind bytes h ≡ Ok (with_form m form) =
    goes_on (ltb (length bytes) (HEAD_LENGTH + length s.payload)) (cut bytes) _ _ (le-ltb _ _ (omega arith)) there in
    let read : header.read (reader_at Big 0 bytes) ≡ Ok (h, reader_at Big (0 + length s.front) (s.payload ++ s.more)) =
    ap (λ (l : List ℕ). header.read (reader_at Big 0 l)) is ∙ header_codec.again Big 0 h s.front (s.payload ++ s.more) s.head_spelled in
    goes_on (ltb (length bytes) HEAD_LENGTH) (cut bytes) _ _ (le-ltb _ _ (omega arith))
    (bind_goes (header.read (reader_at Big 0 bytes)) (λ h. behind bytes h.0) _ _ read behind-is)

-- bytes spell one message at most
pub spelled_once : ReferenceCodecs → (bytes : List ℕ) (m n : Message) (form other : Form) → Spells bytes form m → Spells bytes other n → (m ≡ n) × (form ≡ other)
spelled_once laws bytes m n form other s t =
    let same = ok_is (with_form m form) (with_form n other) (sym (message_again laws bytes m form s) ∙ message_again laws bytes n other t) in
    (ap (λ (p : Message × Form). p.0) same, ap (λ (p : Message × Form). p.1) same)

-- ---- headers

pub head_found : (bytes : List ℕ) (h : Head) → head_in bytes ≡ Ok h → SpellsHead bytes h
head_found bytes h e =
    let b = bind_ok (head.read (reader_at Big 0 bytes)) (λ h. done h.0) h e in
    let t = head_codec.found (reader_at Big 0 bytes) b.0 b.1 in
    subst (SpellsHead bytes) (ok_is b.0.0 h b.2) (record { front = t.bytes; more = b.0.1.rest; is = t.moved.is; spelled = t.spelled })

pub head_again : (bytes : List ℕ) (h : Head) → SpellsHead bytes h → head_in bytes ≡ Ok h
head_again bytes h s =
    bind_goes (head.read (reader_at Big 0 bytes)) (λ h. done h.0) _ _
    (ap (λ (l : List ℕ). head.read (reader_at Big 0 l)) s.is ∙ head_codec.again Big 0 h s.front s.more s.spelled) refl

-- ---- a header that was read already

fits : (b : Bool) (h : Head) (after : Reader) (wrong : Fault Why) → b ≡ true
    → judge (cond {A = Option Head} b (Some h) None) after wrong ≡ Ok (h, after)
fits b h after wrong e = rw e refl

header_read : (r : Reader) (h : Head) (after : Reader) → head.read r ≡ Ok (h, after) → flags_fit h ≡ true → header.read r ≡ Ok (h, after)
header_read r h after e fit = bind_goes (head.read r) (λ x. judge (if_flags_fit x.0) x.1 (fault_at causes.Flags (r.place + 6))) _ _ e
    (fits (flags_fit h) h after (fault_at causes.Flags (r.place + 6)) fit)

-- a message is its header and the fields behind it
pub fields_behind : (bytes payload : List ℕ) (h : Head) → head_in bytes ≡ Ok h → flags_fit h ≡ true → drop HEAD_LENGTH bytes ≡ payload → h.size ≡ length payload
    → HEAD_LENGTH ≤ length bytes → message_in bytes ≡ fields_in h payload
fields_behind bytes payload h e fit left sized long =
    let b = bind_ok (head.read (reader_at Big 0 bytes)) (λ h. done h.0) h e in
    let head-is : head.read (reader_at Big 0 bytes) ≡ Ok (h, b.0.1) =
    b.1 ∙ ap (λ (x : Head). done (with_reader x b.0.1)) (ok_is b.0.0 h b.2) in
    let read = header_read (reader_at Big 0 bytes) h b.0.1 head-is fit in
    let whole : length bytes ≡ HEAD_LENGTH + h.size = omega (arith, length-drop HEAD_LENGTH bytes, ap length left, sized, long) in
    let payload-is : take h.size (drop HEAD_LENGTH bytes) ≡ payload = ap (take h.size) left ∙ ap (λ (n : ℕ). take n payload) sized ∙ take-length payload in
    goes_on (ltb (length bytes) HEAD_LENGTH) (cut bytes) _ _ (le-ltb _ _ long)
    (bind_goes (header.read (reader_at Big 0 bytes)) (λ h. behind bytes h.0) _ _ read
    (goes_on (ltb (length bytes) (HEAD_LENGTH + h.size)) (cut bytes) _ _ (le-ltb _ _ (omega (arith, whole))) (ap (fields_in h) payload-is)))

-- ---- a call's answers

pub is_found : ReferenceCodecs → (bytes : List ℕ) (result : Result (Message × Form) ReadFault) → Tells (λ m. m) read_fault result (message_in bytes) → IfOk result (λ m. Spells bytes m.1 m.0)
is_found laws bytes (Ok m) h = message_found laws bytes m.0 m.1 h
is_found laws bytes (Err e) h = tt

nothing_spelled : ReferenceCodecs → (bytes : List ℕ) (o : Option (Fault Why)) → FailsIn o (message_in bytes) → OnFault o ((m : Message) (form : Form) → Spells bytes form m → ⊥)
nothing_spelled laws bytes None h = tt
nothing_spelled laws bytes (Some wrong) h = λ m form s. err_ok (with_form m form) wrong (sym h ∙ message_again laws bytes m form s)

pub is_refused : ReferenceCodecs → (bytes : List ℕ) (result : Result (Message × Form) ReadFault) → Tells (λ m. m) read_fault result (message_in bytes)
    → Refuses read_fault result ((m : Message) (form : Form) → Spells bytes form m → ⊥)
is_refused laws bytes (Ok m) h = tt
is_refused laws bytes (Err e) h = nothing_spelled laws bytes (read_fault e) h
