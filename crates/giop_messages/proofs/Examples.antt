-- Messages that are read by computing, and bytes that are refused.
use Rattle.std.proofs.Common.{◌≡◌, ◌<◌, ◌^◌, ℕ, List, [], ◌∷◌, ◌++◌, length, Ok, Err, refl, lit<, arith}
use Rattle.std.proofs.lemmas.List.Elements.{All-nil}
use Rattle.cdr_codec.specs.declared.orders.Order.TheVariants.{Big, Little}
use Rattle.cdr_codec.specs.Reading.{fault_at}
use Rattle.cdr_codec.specs.Formats.{read_each}
use Rattle.ft_contexts.specs.declared.lists.Context.{Context}
use Rattle.giop_messages.specs.declared.heads.TheConstants.{HEAD_LENGTH}
use Rattle.giop_messages.specs.declared.faults.Why.TheVariants as causes
use Rattle.giop_messages.specs.declared.messages.Message.{Message}
use Rattle.giop_messages.specs.declared.messages.Message.TheVariants as messages
use Rattle.giop_messages.specs.Messages.{giop, message_in}
use Rattle.giop_messages.specs.Writing.{written_message, Writable}

message_error : message_in (71 ∷ 73 ∷ 79 ∷ 80 ∷ 1 ∷ 2 ∷ 0 ∷ 6 ∷ 0 ∷ 0 ∷ 0 ∷ 0 ∷ []) ≡ Ok (messages.MessageError, giop 2 Big)
message_error = refl

-- in little endian order, with a byte behind it that says nothing
cancel : message_in (71 ∷ 73 ∷ 79 ∷ 80 ∷ 1 ∷ 2 ∷ 1 ∷ 2 ∷ 4 ∷ 0 ∷ 0 ∷ 0 ∷ 7 ∷ 1 ∷ 0 ∷ 0 ∷ 5 ∷ []) ≡ Ok (messages.Cancel 263, giop 2 Little)
cancel = refl

-- bits 2 to 7 of the flags say nothing
odd_flags : message_in (71 ∷ 73 ∷ 79 ∷ 80 ∷ 1 ∷ 2 ∷ 252 ∷ 6 ∷ 0 ∷ 0 ∷ 0 ∷ 0 ∷ []) ≡ Ok (messages.MessageError, giop 2 Big)
odd_flags = refl

-- the body begins at 48, behind four bytes of padding
abbrev the_request : Message
the_request = messages.Request (record { id = 1; flags = 3; key = 9 ∷ []; op = 97 ∷ []; contexts = []; body = record { order = Big; align = 0; bytes = 5 ∷ [] } })

abbrev its_head : List ℕ
its_head = 71 ∷ 73 ∷ 79 ∷ 80 ∷ 1 ∷ 2 ∷ 0 ∷ 0 ∷ 0 ∷ 0 ∷ 0 ∷ 37 ∷ []

-- the id, the flags, the reserved octets and the target
abbrev its_target : List ℕ
its_target = 0 ∷ 0 ∷ 0 ∷ 1 ∷ 3 ∷ 0 ∷ 0 ∷ 0 ∷ 0 ∷ 0 ∷ 0 ∷ 0 ∷ 0 ∷ 0 ∷ 0 ∷ 1 ∷ 9 ∷ []

-- the operation, no contexts, and the body
abbrev its_rest : List ℕ
its_rest = 0 ∷ 0 ∷ 0 ∷ 0 ∷ 0 ∷ 0 ∷ 2 ∷ 97 ∷ 0 ∷ 0 ∷ 0 ∷ 0 ∷ 0 ∷ 0 ∷ 0 ∷ 0 ∷ 0 ∷ 0 ∷ 0 ∷ 5 ∷ []

request_read : message_in (its_head ++ (its_target ++ its_rest)) ≡ Ok (the_request, giop 2 Big)
unfolding read_each
request_read = refl

request_written : written_message the_request (giop 2 Big) ≡ its_head ++ (its_target ++ its_rest)
request_written = refl

request_writable : Writable the_request (giop 2 Big)
request_writable = record {
  possible = refl;
  fields = record {
    flags = refl;
    key = lit< tt;
    op = record { no_zero = refl; short = lit< tt };
    contexts = record { count = lit< tt; contents = All-nil (λ (c : Context). length c.content < 2 ^ 32) };
    body = record { ordered = refl; aligned = refl; short = lit< tt };
  };
  sized = omega arith;
}

nothing_there : message_in [] ≡ Err (fault_at causes.Cut 0)
nothing_there = refl

another_magic : message_in (71 ∷ 73 ∷ 79 ∷ 81 ∷ 1 ∷ 2 ∷ 0 ∷ 9 ∷ 0 ∷ 0 ∷ 0 ∷ 0 ∷ []) ≡ Err (fault_at causes.Magic 3)
another_magic = refl

version_1_3 : message_in (71 ∷ 73 ∷ 79 ∷ 80 ∷ 1 ∷ 3 ∷ 0 ∷ 9 ∷ 0 ∷ 0 ∷ 0 ∷ 0 ∷ []) ≡ Err (fault_at causes.Version 4)
version_1_3 = refl

-- fragments are 1.2's alone, also where bit 1 is set
fragment_of_1_1 : message_in (71 ∷ 73 ∷ 79 ∷ 80 ∷ 1 ∷ 1 ∷ 2 ∷ 7 ∷ 0 ∷ 0 ∷ 0 ∷ 0 ∷ []) ≡ Err (fault_at causes.Kind 7)
fragment_of_1_1 = refl

-- bit 1 is refused in 1.1, and says nothing in 1.0
flags_of_1_1 : message_in (71 ∷ 73 ∷ 79 ∷ 80 ∷ 1 ∷ 1 ∷ 2 ∷ 6 ∷ 0 ∷ 0 ∷ 0 ∷ 0 ∷ []) ≡ Err (fault_at causes.Flags 6)
flags_of_1_1 = refl

flags_of_1_0 : message_in (71 ∷ 73 ∷ 79 ∷ 80 ∷ 1 ∷ 0 ∷ 254 ∷ 6 ∷ 0 ∷ 0 ∷ 0 ∷ 0 ∷ []) ≡ Ok (messages.MessageError, giop 0 Big)
flags_of_1_0 = refl

-- a request of 1.0: its body begins at 44, with the place modulo 8 as its align
abbrev request_of_1_0 : List ℕ → Message
request_of_1_0 body = messages.Request (record { id = 5; flags = 3; key = 9 ∷ []; op = 97 ∷ []; contexts = []; body = record { order = Big; align = 4; bytes = body } })

abbrev head_of_1_0 : ℕ → List ℕ
head_of_1_0 size = 71 ∷ 73 ∷ 79 ∷ 80 ∷ 1 ∷ 0 ∷ 0 ∷ 0 ∷ 0 ∷ 0 ∷ 0 ∷ size ∷ []

abbrev fields_of_1_0 : List ℕ
fields_of_1_0 = 0 ∷ 0 ∷ 0 ∷ 0 ∷ 0 ∷ 0 ∷ 0 ∷ 5 ∷ 1 ∷ 0 ∷ 0 ∷ 0 ∷ 0 ∷ 0 ∷ 0 ∷ 1 ∷ 9 ∷ 0 ∷ 0 ∷ 0 ∷ 0 ∷ 0 ∷ 0 ∷ 2 ∷ 97 ∷ 0 ∷ 0 ∷ 0 ∷ 0 ∷ 0 ∷ 0 ∷ 0 ∷ []

read_of_1_0 : message_in (head_of_1_0 34 ++ (fields_of_1_0 ++ 7 ∷ 8 ∷ [])) ≡ Ok (messages.Request (record { id = 5; flags = 3; key = 9 ∷ []; op = 97 ∷ []; contexts = []; body = record { order = Big; align = 4; bytes = 7 ∷ 8 ∷ [] } }), giop 0 Big)
unfolding read_each
read_of_1_0 = refl

written_of_1_0 : written_message (request_of_1_0 (7 ∷ 8 ∷ [])) (giop 0 Big) ≡ head_of_1_0 34 ++ (fields_of_1_0 ++ 7 ∷ 8 ∷ [])
written_of_1_0 = refl

writable_of_1_0 : Writable (request_of_1_0 (7 ∷ 8 ∷ [])) (giop 0 Big)
writable_of_1_0 = record {
  possible = refl;
  fields = record {
    flags = refl;
    key = lit< tt;
    op = record { no_zero = refl; short = lit< tt };
    contexts = record { count = lit< tt; contents = All-nil (λ (c : Context). length c.content < 2 ^ 32) };
    body = record { ordered = refl; aligned = refl; short = lit< tt };
  };
  sized = omega arith;
}

-- whether a reply is asked for is a boolean
no_boolean : message_in (71 ∷ 73 ∷ 79 ∷ 80 ∷ 1 ∷ 0 ∷ 0 ∷ 0 ∷ 0 ∷ 0 ∷ 0 ∷ 9 ∷ 0 ∷ 0 ∷ 0 ∷ 0 ∷ 0 ∷ 0 ∷ 0 ∷ 5 ∷ 3 ∷ []) ≡ Err (fault_at causes.BadBool 20)
unfolding read_each
no_boolean = refl

-- the type is judged before the flags, which stand before it
no_type : message_in (71 ∷ 73 ∷ 79 ∷ 80 ∷ 1 ∷ 2 ∷ 2 ∷ 9 ∷ 0 ∷ 0 ∷ 0 ∷ 0 ∷ []) ≡ Err (fault_at causes.Kind 7)
no_type = refl

fragments_of_none : message_in (71 ∷ 73 ∷ 79 ∷ 80 ∷ 1 ∷ 2 ∷ 2 ∷ 6 ∷ 0 ∷ 0 ∷ 0 ∷ 0 ∷ []) ≡ Err (fault_at causes.Flags 6)
fragments_of_none = refl

-- the header is judged before the rest is there
cut_off : message_in (71 ∷ 73 ∷ 79 ∷ 80 ∷ 1 ∷ 2 ∷ 0 ∷ 2 ∷ 0 ∷ 0 ∷ 0 ∷ 4 ∷ 0 ∷ 0 ∷ 0 ∷ []) ≡ Err (fault_at causes.Cut 15)
cut_off = refl

-- a message that ends inside its request id
too_short : message_in (71 ∷ 73 ∷ 79 ∷ 80 ∷ 1 ∷ 2 ∷ 0 ∷ 2 ∷ 0 ∷ 0 ∷ 0 ∷ 3 ∷ 0 ∷ 0 ∷ 0 ∷ []) ≡ Err (fault_at causes.Short HEAD_LENGTH)
too_short = refl
