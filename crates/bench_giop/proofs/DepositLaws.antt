-- A deposit can be written, whatever its id.
use Rattle.std.proofs.Common.{◌≡◌, ◌<◌, ◌^◌, ℕ, List, [], ◌∷◌, ◌++◌, length, refl, lit<, arith, subst, sym}
use Rattle.std.proofs.lemmas.List.Elements.{All-nil}
use Rattle.cdr_codec.specs.declared.orders.Order.TheVariants.{Big}
use Rattle.ft_contexts.specs.declared.lists.Context.{Context}
use Rattle.giop_messages.specs.declared.messages.Message.{Message}
use Rattle.giop_messages.specs.Messages.{giop}
use Rattle.giop_messages.specs.Writing.{written_message, Writable}
use Rattle.bench_giop.specs.Deposits.{deposit, IsDeposit}

-- the header
abbrev pub its_head : List ℕ
its_head = 71 ∷ 73 ∷ 79 ∷ 80 ∷ 1 ∷ 2 ∷ 0 ∷ 0 ∷ 0 ∷ 0 ∷ 0 ∷ 52 ∷ []

-- the id, the flags, the reserved octets and the key
abbrev pub its_target : List ℕ
its_target = 0 ∷ 0 ∷ 0 ∷ 1 ∷ 3 ∷ 0 ∷ 0 ∷ 0 ∷ 0 ∷ 0 ∷ 0 ∷ 0 ∷ 0 ∷ 0 ∷ 0 ∷ 12 ∷ 70 ∷ 84 ∷ 79 ∷ 71 ∷ 0 ∷ 0 ∷ 0 ∷ 0 ∷ 0 ∷ 0 ∷ 0 ∷ 1 ∷ []

-- the operation, no contexts, and the body
abbrev pub its_rest : List ℕ
its_rest = 0 ∷ 0 ∷ 0 ∷ 8 ∷ 100 ∷ 101 ∷ 112 ∷ 111 ∷ 115 ∷ 105 ∷ 116 ∷ 0 ∷ 0 ∷ 0 ∷ 0 ∷ 0 ∷ 0 ∷ 0 ∷ 0 ∷ 0 ∷ 0 ∷ 0 ∷ 0 ∷ 5 ∷ []

deposit_written : written_message (deposit 1) (giop 2 Big) ≡ its_head ++ (its_target ++ its_rest)
deposit_written = refl

deposit_sized : (id : ℕ) → length (written_message (deposit id) (giop 2 Big)) ≡ 64
deposit_sized id = refl

deposit_writable : (id : ℕ) → Writable (deposit id) (giop 2 Big)
deposit_writable id = record {
  possible = refl;
  fields = record {
    flags = refl;
    key = lit< tt;
    op = record { no_zero = refl; short = lit< tt };
    contexts = record { count = lit< tt; contents = All-nil (λ (c : Context). length c.content < 2 ^ 32) };
    body = record { ordered = refl; aligned = refl; short = lit< tt };
  };
  sized = omega (arith, deposit_sized id);
}

pub writable : (message : Message) → IsDeposit message → Writable message (giop 2 Big)
writable message it = subst (λ (m : Message). Writable m (giop 2 Big)) (sym it.1) (deposit_writable it.0)
