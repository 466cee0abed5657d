-- The fields of records, and the records, are codecs: each by the codecs of its parts.
use Rattle.std.proofs.Common.{◌≡◌, ℕ, ◌+◌, Bool, true, false, List, ◌++◌, length, Option, Some, None, Ok, refl, subst, inl, inr}
use Rattle.std.specs.Int.{w32}
use Rattle.cdr_codec.specs.declared.faults.CdrWhy.{CdrWhy}
use Rattle.cdr_codec.specs.declared.faults.CdrWhy.TheVariants.{Short, BadString}
use Rattle.cdr_codec.specs.declared.orders.Order.{Order}
use Rattle.cdr_codec.specs.Reading.{Reader, reader_at, longer, Read}
use Rattle.cdr_codec.specs.Formats.{Format, number, octets, sequence}
use Rattle.cdr_codec.specs.Laws.{Took, IsCodec}
use Rattle.cdr_codec.specs.Values.{text}
use Rattle.cdr_codec.proofs.Steps.{with_reader, bind_ok, bind_err, bind_goes, bind_stops, ok_is, ok_err}
use Rattle.cdr_codec.proofs.Codecs.{number_codec, octets_codec, judged_codec, shaped_codec}
use Rattle.cdr_codec.proofs.Sequences.{sequence_codec}
use Rattle.cdr_codec.proofs.StructLaws.{AreCodecs, struct_codec}
use Rattle.cdr_codec.proofs.ValueLaws.{boolean_codec, text_codec, signed_codec}
use Rattle.ft_base.specs.declared.numbers.Tick.{Tick}
use Rattle.ft_base.specs.declared.numbers.Version.{Version}
use Rattle.log_records.specs.Records.{out_of_range, within, number_within, version, tick, name_of, name, just, behind, optional, optional_fields, key, key_fields, request, request_fields, entry, entry_fields, members_of, members, primary_of, primary_sign, primary, view, view_fields, user_name, outcome, outcome_by, outcome_fields, retained, retained_fields, retained_of, retained_below, checkpoint, checkpoint_fields, is_form, formed, formed_fields}

-- ---- a value that may be absent

module _ {X : Type 0} (f : Format CdrWhy X) (law : IsCodec Short f) where
  abbrev given : X × Reader → Read CdrWhy (Option X)
  given x = Ok (Some x.0, x.1)

  just_again : (order : Order) (place : ℕ) (o : Option X) (bytes rest : List ℕ) → (just f).Spelled order place o bytes
      → (just f).read (reader_at order place (bytes ++ rest)) ≡ Ok (o, reader_at order (place + length bytes) rest)
  just_again order place None bytes rest s = absurd s
  just_again order place (Some x) bytes rest s =
      bind_goes (f.read (reader_at order place (bytes ++ rest))) given (with_reader x (reader_at order (place + length bytes) rest)) _ (law.again order place x bytes rest s) refl

  just_spells : (order : Order) (place : ℕ) (o : Option X) → (just f).Valid o → (just f).Spelled order place o ((just f).written order place o)
  just_spells order place None h = absurd h
  just_spells order place (Some x) h = law.spells order place x h

  just_codec : IsCodec Short (just f)
  just_codec = record {
    found = λ r y e.
        let a = bind_ok (f.read r) given y e in
        let t = law.found r a.0 a.1 in
        let got : Took (just f).Spelled r (with_reader (Some a.0.0) a.0.1) = record { bytes = t.bytes; moved = t.moved; spelled = t.spelled } in
        subst (Took (just f).Spelled r) (ok_is (with_reader (Some a.0.0) a.0.1) y a.2) got;
    again = just_again;
    spells = just_spells;
    stands = λ r e more wrong other. elim (bind_err (f.read r) given e wrong) [
      | inl first ↦ bind_stops (f.read (longer r more)) given e (law.stands r e more first other)
      | inr went ↦ absurd (ok_err (with_reader (Some went.0.0) went.0.1) e went.2)
    ];
  }

  behind_codecs : (b : Bool) → AreCodecs Short (behind f b)
  behind_codecs true = (just_codec, λ o. tt)
  behind_codecs false = tt

  pub optional_codec : IsCodec Short (optional f)
  optional_codec = struct_codec Short (optional_fields f) (boolean_codec, behind_codecs)

-- ---- fields

within_codec : (low high : ℕ) → IsCodec Short (number_within low high)
within_codec low high = judged_codec Short (number 4) 4 out_of_range (within low high) (λ n. n) (number_codec 4)

abbrev version_with : ℕ → Version
version_with n = record { 0 = n }

version_codec : IsCodec Short version
version_codec = shaped_codec Short (number_within 1 65536) version_with (λ v. v.0) (λ n. refl) (λ v. refl) (within_codec 1 65536)

abbrev tick_with : ℕ → Tick
tick_with n = record { 0 = n }

tick_codec : IsCodec Short tick
tick_codec = shaped_codec Short (number 8) tick_with (λ t. t.0) (λ n. refl) (λ t. refl) (number_codec 8)

name_codec : IsCodec Short name
name_codec = judged_codec Short text 4 BadString name_of (λ n. n) text_codec

key_codec : IsCodec Short key
key_codec = struct_codec Short key_fields (name_codec, λ client. (signed_codec w32, λ retention. (tick_codec, λ expiration. tt)))

request_codec : IsCodec Short request
request_codec = struct_codec Short request_fields (optional_codec key key_codec, λ k. (name_codec, λ op. (octets_codec, λ args. tt)))

-- ---- the three forms

pub entry_codec : IsCodec Short entry
entry_codec = struct_codec Short entry_fields (within_codec 0 262143, λ p. (version_codec, λ v. (tick_codec, λ at. (request_codec, λ q. tt))))

members_codec : IsCodec Short members
members_codec = judged_codec Short octets 4 out_of_range members_of (λ hosts. hosts) octets_codec

primary_codec : (hosts : List ℕ) → IsCodec Short (primary hosts)
primary_codec hosts = judged_codec Short (number 1) 1 out_of_range (primary_of hosts) primary_sign (number_codec 1)

pub view_codec : IsCodec Short view
view_codec = struct_codec Short view_fields (version_codec, λ v. (members_codec, λ hosts. (primary_codec hosts, λ p. tt)))

user_codec : IsCodec Short user_name
user_codec = judged_codec Short octets 4 BadString name_of (λ n. n) octets_codec

outcome_codecs : (b : Bool) → AreCodecs Short (outcome_by b)
outcome_codecs true = (octets_codec, λ value. tt)
outcome_codecs false = (user_codec, λ user. tt)

outcome_codec : IsCodec Short outcome
outcome_codec = struct_codec Short outcome_fields (boolean_codec, outcome_codecs)

retained_codec : IsCodec Short retained
retained_codec =
    struct_codec Short retained_fields
    (within_codec 0 262143, λ p. (version_codec, λ v. (tick_codec, λ at. (request_codec, λ q. (optional_codec outcome outcome_codec, λ reply. tt)))))

below_codec : (end : ℕ) → IsCodec Short (retained_below end)
below_codec end = judged_codec Short (sequence retained) 4 out_of_range (retained_of end) (λ entries. entries) (sequence_codec retained retained_codec)

pub checkpoint_codec : IsCodec Short checkpoint
checkpoint_codec =
    struct_codec Short checkpoint_fields (within_codec 0 262144, λ m. (tick_codec, λ time. (octets_codec, λ state. (below_codec m, λ entries. tt))))

pub formed_codec : {X : Type 0} (form : ℕ) (f : Format CdrWhy X) → IsCodec Short f → IsCodec Short (formed form f)
formed_codec form f law =
    struct_codec Short (formed_fields form f)
    (judged_codec Short (number 1) 1 out_of_range (is_form form) (λ _. form) (number_codec 1), λ u. (law, λ x. tt))
