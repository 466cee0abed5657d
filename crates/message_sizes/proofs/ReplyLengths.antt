-- How long a Reply is.
use Rattle.std.specs.Prelude.{option_map}
use Rattle.std.proofs.Common.{◌≡◌, ℕ, Bool, ◌+◌, List, [], ◌∷◌, ◌++◌, length, ◌↔◌, Option, Some, None, refl, ap, sym, ◌∙◌, length-append, arith}
use Rattle.ft_base.specs.declared.requests.Outcome.{Outcome}
use Rattle.ft_base.specs.declared.requests.Par.{Par}
use Rattle.ft_base.specs.Canonical.{one_of, AreValuesAt, AreSpelledAs, padding}
use Rattle.cdr_codec.specs.declared.orders.Order.TheVariants.{Big}
use Rattle.cdr_codec.specs.Formats.{written_number}
use Rattle.cdr_codec.specs.Values.{text}
use Rattle.cdr_codec.specs.Arguments.{reordered}
use Rattle.cdr_codec.proofs.ArgumentLaws.{is_reordered}
use Rattle.cdr_codec.proofs.Lengths.{reordered_sized}
use Rattle.sys_faults.specs.declared.faults.SysKind.{SysKind}
use Rattle.sys_faults.specs.declared.faults.SysKind.TheVariants as kinds
use Rattle.sys_faults.specs.declared.faults.SysFault.{SysFault}
use Rattle.sys_faults.specs.Kinds.{kind_name}
use Rattle.sys_faults.specs.Bodies.{id_of, status_of}
use Rattle.iogr_reference.specs.declared.choices.TheConstants.{ID_FRONT, ID_BACK}
use Rattle.iogr_reference.specs.declared.references.Ior.{Ior}
use Rattle.iogr_reference.specs.Choices.{repository_id}
use Rattle.iogr_reference.specs.Formats.{ior}
use Rattle.giop_messages.specs.declared.heads.TheConstants.{HEAD_LENGTH}
use Rattle.giop_messages.specs.declared.heads.Kind.TheVariants as heads
use Rattle.giop_messages.specs.Heads.{header}
use Rattle.giop_messages.specs.Fields.{reply_head}
use Rattle.giop_messages.specs.Messages.{giop}
use Rattle.giop_messages.specs.Writing.{padded_body, whole_head}
use Rattle.host_server.specs.declared.answers.PortAnswer.{PortAnswer}
use Rattle.host_server.specs.declared.answers.PortAnswer.TheVariants.{Forward, Done, System}
use Rattle.host_server.specs.Replies as replies
use Rattle.host_server.specs.Replies.{IsResult, body_of, fault_body, outcome_body}
use Rattle.message_sizes.specs.Places.{number_end, text_end}
use Rattle.message_sizes.specs.Sizes.{reply_size, answer_size, RepliesAreAsLong}
use Rattle.message_sizes.proofs.Lengths.{number_ends, text_ends}

-- a body begins at place 24, a multiple of 8
unpadded : (body : List ℕ) → length (padded_body (padding 24 8) body) ≡ length body
unpadded [] = refl
unpadded (b ∷ bs) = refl

header_length : (size : ℕ) → length (header.written Big 0 (whole_head (giop 2 Big) heads.Reply size)) ≡ HEAD_LENGTH
header_length size = refl

-- the fields of a Reply without contexts
fields_length : (id status : ℕ) → length ((reply_head 2).written Big HEAD_LENGTH (record { id = id; status = status; contexts = [] })) ≡ 12
fields_length id status = refl

reply_length : (id : ℕ) (answer : PortAnswer) → reply_size id answer ≡ 24 + length (body_of Big answer)
unfolding reply_size
reply_length id answer =
    let front = (reply_head 2).written Big HEAD_LENGTH (record { id = id; status = replies.status_of 2 answer; contexts = [] }) in
    let body = padded_body (padding (HEAD_LENGTH + length front) 8) (body_of Big answer) in
    let size = length (front ++ body) in
    let body_length : length body ≡ length (body_of Big answer) = unpadded (body_of Big answer) in
    omega (
      arith,
      length-append (header.written Big 0 (whole_head (giop 2 Big) heads.Reply size)) (front ++ body),
      header_length size,
      length-append front body,
      fields_length id (replies.status_of 2 answer),
      body_length,
    )

answer_length : (answer : PortAnswer) → 24 + length (body_of Big answer) ≡ answer_size answer
unfolding answer_size
answer_length answer = sym (reply_length 0 answer)

pub as_long : RepliesAreAsLong
as_long id answer = reply_length id answer ∙ answer_length answer

-- ---- outcomes

pub value_length : (gives : Option Par) (value : List ℕ)
    → ((pars : List Par) (place : ℕ) (bytes : List ℕ) → AreValuesAt pars place bytes ↔ AreSpelledAs pars place bytes)
    → IsResult gives value → length value ≡ length (reordered Big (one_of gives) value)
value_length gives value law h =
    let pars = one_of gives in
    sym (reordered_sized Big pars value (reordered Big pars value) (is_reordered Big pars value ((law pars 0 value).0 h.canonical)))

pub user_length : (name : List ℕ) → text_end 0 (12 + length name) ≡ length (text.written Big 0 (repository_id name))
user_length name =
    omega (arith, text_ends 0 (repository_id name), length-append (ID_FRONT ++ name) ID_BACK, length-append ID_FRONT name)

pub outcome_answered : (gives : Option Par) (outcome : Outcome) (n : ℕ) → n ≡ length (outcome_body Big gives outcome) → 24 + n ≡ answer_size (Done outcome gives)
outcome_answered gives outcome n e = ap (λ (k : ℕ). 24 + k) e ∙ answer_length (Done outcome gives)

-- ---- references

pub forward_answered : (body : Ior) (bytes : List ℕ) → bytes ≡ ior.written Big 0 body → (perm : Bool) → 24 + length bytes ≡ answer_size (Forward perm body)
forward_answered body bytes e perm = ap (λ (l : List ℕ). 24 + length l) e ∙ answer_length (Forward perm body)

-- ---- system exceptions

name_lengths : (name other : List ℕ) → Some name ≡ Some other → length name ≡ length other
name_lengths name other e = cc

standard_length : (kind : SysKind) (name : List ℕ) → kind_name kind ≡ Some name → 22 + length name ≡ length (id_of kind)
standard_length kinds.ObjectNotExist name e = ap (λ (n : ℕ). 22 + n) (sym (name_lengths _ name e))
standard_length kinds.BadContext name e = ap (λ (n : ℕ). 22 + n) (sym (name_lengths _ name e))
standard_length kinds.InvObjref name e = ap (λ (n : ℕ). 22 + n) (sym (name_lengths _ name e))
standard_length kinds.Transient name e = ap (λ (n : ℕ). 22 + n) (sym (name_lengths _ name e))
standard_length kinds.BadOperation name e = ap (λ (n : ℕ). 22 + n) (sym (name_lengths _ name e))
standard_length kinds.Marshal name e = ap (λ (n : ℕ). 22 + n) (sym (name_lengths _ name e))
standard_length kinds.ImpLimit name e = ap (λ (n : ℕ). 22 + n) (sym (name_lengths _ name e))
standard_length kinds.NoResources name e = ap (λ (n : ℕ). 22 + n) (sym (name_lengths _ name e))
standard_length kinds.PersistStore name e = ap (λ (n : ℕ). 22 + n) (sym (name_lengths _ name e))
standard_length kinds.CommFailure name e = ap (λ (n : ℕ). 22 + n) (sym (name_lengths _ name e))
standard_length kinds.NoResponse name e = ap (λ (n : ℕ). 22 + n) (sym (name_lengths _ name e))
standard_length kinds.ObjAdapter name e = ap (λ (n : ℕ). 22 + n) (sym (name_lengths _ name e))
standard_length kinds.NoMemory name e = ap (λ (n : ℕ). 22 + n) (sym (name_lengths _ name e))
standard_length (kinds.Unknown id) name e = absurd cc

some_name : {T : Type 0} (f : T → List ℕ) (kind : SysKind) (r : Option T) (name : T) → option_map f r ≡ kind_name kind → r ≡ Some name → kind_name kind ≡ Some (f name)
some_name f kind r name e s = sym e ∙ ap (option_map f) s

pub named_length : {T : Type 0} (f : T → List ℕ) (kind : SysKind) (r : Option T) (name : T) → option_map f r ≡ kind_name kind → r ≡ Some name
    → 22 + length (f name) ≡ length (id_of kind)
named_length f kind r name e s = standard_length kind (f name) (some_name f kind r name e s)

-- only an exception that is known by its repository id alone has no name
unnamed : (kind : SysKind) → kind_name kind ≡ None → ((id : List ℕ) → kind ≡ kinds.Unknown id → ⊥) → ⊥
unnamed kinds.ObjectNotExist e h = absurd cc
unnamed kinds.BadContext e h = absurd cc
unnamed kinds.InvObjref e h = absurd cc
unnamed kinds.Transient e h = absurd cc
unnamed kinds.BadOperation e h = absurd cc
unnamed kinds.Marshal e h = absurd cc
unnamed kinds.ImpLimit e h = absurd cc
unnamed kinds.NoResources e h = absurd cc
unnamed kinds.PersistStore e h = absurd cc
unnamed kinds.CommFailure e h = absurd cc
unnamed kinds.NoResponse e h = absurd cc
unnamed kinds.ObjAdapter e h = absurd cc
unnamed kinds.NoMemory e h = absurd cc
unnamed (kinds.Unknown id) e h = h id refl

pub nameless : {T : Type 0} (f : T → List ℕ) (kind : SysKind) (r : Option T) → option_map f r ≡ kind_name kind → r ≡ None
    → ((id : List ℕ) → kind ≡ kinds.Unknown id → ⊥) → ⊥
nameless f kind r e n h = unnamed kind (sym e ∙ ap (option_map f) n) h

fault_ends : (fault : SysFault) → length (fault_body Big fault) ≡ number_end (number_end (text_end 0 (length (id_of fault.kind))))
fault_ends fault =
    let id = text.written Big 0 (id_of fault.kind) in
    let id_end : 0 + length id ≡ text_end 0 (length (id_of fault.kind)) = text_ends 0 (id_of fault.kind) in
    let minor = written_number 4 Big (0 + length id) fault.minor in
    let minor_end : (0 + length id) + length minor ≡ number_end (text_end 0 (length (id_of fault.kind))) =
    number_ends (0 + length id) fault.minor ∙ ap number_end id_end in
    let status = written_number 4 Big ((0 + length id) + length minor) (status_of fault.completed) in
    let all_end : ((0 + length id) + length minor) + length status ≡ number_end (number_end (text_end 0 (length (id_of fault.kind)))) =
    number_ends ((0 + length id) + length minor) (status_of fault.completed) ∙ ap number_end minor_end in
    omega (arith, all_end, length-append id (minor ++ (status ++ [])), length-append minor (status ++ []), length-append status [])

pub fault_length : (fault : SysFault) → 24 + number_end (number_end (text_end 0 (length (id_of fault.kind)))) ≡ answer_size (System fault)
fault_length fault = ap (λ (n : ℕ). 24 + n) (sym (fault_ends fault)) ∙ answer_length (System fault)
