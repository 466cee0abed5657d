-- A body is read as the exception that it spells, and as no other.
use Rattle.std.proofs.Common.{◌≡◌, ℕ, zero, suc, ◌+◌, ◌<◌, ◌^◌, Bool, true, false, cond, List, [], ◌∷◌, length, Option, Some, None, Result, Ok, Err, IfOk, refl, sym, ap, subst, ◌∙◌, append-nil, lit<}
use Rattle.std.specs.Prelude.{unwrap_or}
use Rattle.std.specs.List.{find}
use Rattle.std.specs.Str.{bytes_eq}
use Rattle.cdr_codec.specs.declared.faults.CdrWhy.{CdrWhy}
use Rattle.cdr_codec.specs.declared.faults.CdrWhy.TheVariants.{Short}
use Rattle.cdr_codec.specs.declared.bodies.Raw.{Raw}
use Rattle.cdr_codec.specs.Reading.{Read, reader_at}
use Rattle.cdr_codec.specs.Structs.{appended_fields}
use Rattle.cdr_codec.specs.Laws.{IsCodec}
use Rattle.cdr_codec.specs.Calls.{Writer, appended, Tells, Refuses}
use Rattle.cdr_codec.specs.Arguments.{body_reader}
use Rattle.cdr_codec.proofs.Steps.{ok_is, ok_err, err_ok}
use Rattle.cdr_codec.proofs.Codecs.{number_codec}
use Rattle.cdr_codec.proofs.StructLaws.{struct_codec, struct_written}
use Rattle.cdr_codec.proofs.CodecLaws.{told_found, told_refused}
use Rattle.cdr_codec.proofs.ValueLaws.{text_codec}
use Rattle.cdr_codec.specs.declared.orders.Order.{Order}
use Rattle.ft_base.specs.Text.{zero_place}
use Rattle.ft_base.specs.declared.memory.NoMemory.{NoMemory as OutOfMemory}
use Rattle.std.proofs.lemmas.Slice.Eq.{bytes_eq-Decides}
use Rattle.cdr_codec.proofs.ValueLaws.{text_valid}
use Rattle.sys_faults.specs.declared.faults.Completed.{Completed}
use Rattle.sys_faults.specs.declared.faults.Completed.TheVariants.{Yes, No, Maybe}
use Rattle.sys_faults.specs.declared.faults.SysKind.{SysKind}
use Rattle.sys_faults.specs.declared.faults.SysKind.TheVariants.{ObjectNotExist, BadContext, InvObjref, Transient, BadOperation, Marshal, ImpLimit, NoResources, PersistStore, CommFailure, NoResponse, ObjAdapter, NoMemory, Unknown}
use Rattle.sys_faults.specs.declared.faults.SysFault.{SysFault}
use Rattle.sys_faults.specs.declared.reading.SysReadFault.{SysReadFault}
use Rattle.sys_faults.specs.declared.reading.SysReadFault.TheVariants as wrongs
use Rattle.sys_faults.specs.Bodies.{id_of, named_kinds, kind_named, kind_of, status_of, completed_of, Told, told_with, told_fields, told, told_of, fault_if, fault_of, fault_read, fault_in, wrong_body, SpellsFault, IsOtherId, OnUnknown}

-- the fields are the id, the minor code, and then the status
pub told_written : (x : Told) (w : Writer) → appended told.written x w ≡ appended_fields told_fields x w
told_written x w = struct_written told_fields x w

pub told_codec : IsCodec Short told
told_codec = struct_codec Short told_fields (text_codec, λ id. (number_codec 4, λ minor. (number_codec 4, λ status. tt)))

-- ---- ids and statuses

some_is : {X : Type 0} (x y : X) → Some x ≡ Some y → x ≡ y
some_is x y e = cc

found_case : {X : Type 0} (p : X → Bool) (y x : X) (b : Bool) (rest : Option X) → p y ≡ b → (rest ≡ Some x → p x ≡ true) → cond b (Some y) rest ≡ Some x → p x ≡ true
found_case {X} p y x true rest h later e = subst (λ (z : X). p z ≡ true) (some_is y x e) h
found_case {X} p y x false rest h later e = later e

found_passes : {X : Type 0} (p : X → Bool) (xs : List X) (x : X) → find p xs ≡ Some x → p x ≡ true
found_passes p [] x e = absurd cc
found_passes p (y ∷ ys) x e = found_case p y x (p y) (find p ys) refl (found_passes p ys x) e

id_back : (id : List ℕ) (o : Option SysKind) → kind_named id ≡ o → id_of (unwrap_or o (Unknown id)) ≡ id
id_back id None e = refl
id_back id (Some kind) e = sym ((bytes_eq-Decides id (id_of kind)).0 (found_passes (λ k. bytes_eq id (id_of k)) named_kinds kind e))

id_of_kind : (id : List ℕ) → id_of (kind_of id) ≡ id
id_of_kind id = id_back id (kind_named id) refl

status_back : (n : ℕ) (c : Completed) → completed_of n ≡ Some c → status_of c ≡ n
status_back zero c e = ap status_of (sym (some_is Yes c e))
status_back (suc zero) c e = ap status_of (sym (some_is No c e))
status_back (suc (suc zero)) c e = ap status_of (sym (some_is Maybe c e))
status_back (suc (suc (suc n))) c e = absurd cc

completed_back : (c : Completed) → completed_of (status_of c) ≡ Some c
completed_back Yes = refl
completed_back No = refl
completed_back Maybe = refl

-- ---- a body is the exception that is read there

record IsToldBy (x : Told) (fault : SysFault) : Type 0 where
  pub is : told_of fault ≡ x
  pub named : kind_of (id_of fault.kind) ≡ fault.kind

tells_same : (x : Told) (c : Completed) → completed_of x.status ≡ Some c → IsToldBy x (record { kind = kind_of x.id; minor = x.minor; completed = c })
tells_same x c e = record {
  is = ap (λ (id : List ℕ). told_with id x.minor (status_of c)) (id_of_kind x.id) ∙ ap (told_with x.id x.minor) (status_back x.status c e);
  named = ap kind_of (id_of_kind x.id);
}

tells_if : (x : Told) (o : Option Completed) (fault : SysFault) → completed_of x.status ≡ o → fault_if x o ≡ Ok fault → IsToldBy x fault
tells_if x None fault h e = absurd (err_ok fault (wrongs.BadCompleted x.status) e)
tells_if x (Some c) fault h e = subst (IsToldBy x) (ok_is (record { kind = kind_of x.id; minor = x.minor; completed = c }) fault e) (tells_same x c h)

found_read : (body : Raw) (fault : SysFault) (q : Read CdrWhy Told) → told.read (body_reader body) ≡ q → fault_read q ≡ Ok fault → SpellsFault body fault
found_read body fault (Ok x) h e =
    let t = told_codec.found (body_reader body) x h in
    let tells = tells_if x.0 (completed_of x.0.status) fault refl e in
    record {
      bytes = t.bytes;
      more = x.1.rest;
      is = t.moved.is;
      spelled = subst (λ (y : Told). told.Spelled body.order body.align y t.bytes) (sym tells.is) t.spelled;
      named = tells.named;
    }
found_read body fault (Err wrong) h e = absurd (err_ok fault (wrongs.Bad (record { why = wrong.why; place = wrong.place })) e)

pub spells_found : (body : Raw) (fault : SysFault) → fault_in body ≡ Ok fault → SpellsFault body fault
spells_found body fault e = found_read body fault (told.read (body_reader body)) refl e

abbrev read_ok : SysFault → Result SysFault SysReadFault
read_ok fault = Ok fault

fault_again : (fault : SysFault) → kind_of (id_of fault.kind) ≡ fault.kind → fault_of (told_of fault) ≡ Ok fault
fault_again fault named =
    ap (fault_if (told_of fault)) (completed_back fault.completed)
    ∙ ap (λ (k : SysKind). read_ok (record { kind = k; minor = fault.minor; completed = fault.completed })) named

pub found_spelled : (body : Raw) (fault : SysFault) → SpellsFault body fault → fault_in body ≡ Ok fault
found_spelled body fault s =
    ap (λ (l : List ℕ). fault_read (told.read (reader_at body.order body.align l))) s.is
    ∙ ap fault_read (told_codec.again body.order body.align (told_of fault) s.bytes s.more s.spelled)
    ∙ fault_again fault s.named

-- ---- a call's answers

abbrev TellsFault : Raw → Result SysFault SysReadFault → Type 0
TellsFault body result = Tells (λ fault. fault) wrong_body result (fault_in body)

pub is_found : (body : Raw) (result : Result SysFault SysReadFault) → TellsFault body result → IfOk result (SpellsFault body)
is_found body result h = told_found (λ fault. fault) wrong_body result (fault_in body) (SpellsFault body) (spells_found body) h

pub is_refused : (body : Raw) (result : Result SysFault SysReadFault) → TellsFault body result → Refuses wrong_body result ((fault : SysFault) → SpellsFault body fault → ⊥)
is_refused body result h =
    told_refused (λ fault. fault) wrong_body result (fault_in body) ((fault : SysFault) → SpellsFault body fault → ⊥)
    (λ wrong e fault s. ok_err fault wrong (sym (found_spelled body fault s) ∙ e)) h

-- ---- what is written is read again

status_small : (c : Completed) → status_of c < 256 ^ 4
status_small Yes = lit< tt
status_small No = lit< tt
status_small Maybe = lit< tt

pub fault_valid : (fault : SysFault) → zero_place (id_of fault.kind) ≡ None → length (id_of fault.kind) + 1 < 2 ^ 32 → fault.minor < 2 ^ 32 → told.Valid (told_of fault)
fault_valid fault none short minor = (text_valid (id_of fault.kind) none short, (minor, (status_small fault.completed, refl)))

named_kind : (kind : SysKind) → OnUnknown kind IsOtherId → kind_of (id_of kind) ≡ kind
named_kind ObjectNotExist h = refl
named_kind BadContext h = refl
named_kind InvObjref h = refl
named_kind Transient h = refl
named_kind BadOperation h = refl
named_kind Marshal h = refl
named_kind ImpLimit h = refl
named_kind NoResources h = refl
named_kind PersistStore h = refl
named_kind CommFailure h = refl
named_kind NoResponse h = refl
named_kind ObjAdapter h = refl
named_kind NoMemory h = refl
named_kind (Unknown id) h = ap (λ (o : Option SysKind). unwrap_or o (Unknown id)) h.other

read_written : (order : Order) (fault : SysFault) → OnUnknown fault.kind IsOtherId → told.Valid (told_of fault)
    → fault_in (record { order = order; align = 0; bytes = told.written order 0 (told_of fault) }) ≡ Ok fault
read_written order fault h valid =
    found_spelled (record { order = order; align = 0; bytes = told.written order 0 (told_of fault) }) fault (record {
      bytes = told.written order 0 (told_of fault);
      more = [];
      is = sym (append-nil (told.written order 0 (told_of fault)));
      spelled = told_codec.spells order 0 (told_of fault) valid;
      named = named_kind fault.kind h;
    })

pub is_read_again : (order : Order) (fault : SysFault) (result : Result (List ℕ) OutOfMemory) → OnUnknown fault.kind IsOtherId
    → IfOk result (λ bytes. bytes ≡ told.written order 0 (told_of fault)) → IfOk result (λ bytes. told.Valid (told_of fault))
    → IfOk result (λ bytes. fault_in (record { order = order; align = 0; bytes = bytes }) ≡ Ok fault)
is_read_again order fault (Ok bytes) h is valid =
    ap (λ (l : List ℕ). fault_in (record { order = order; align = 0; bytes = l })) is ∙ read_written order fault h valid
is_read_again order fault (Err e) h is valid = tt
