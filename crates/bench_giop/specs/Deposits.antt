-- The requests that are written and read.
use Rattle.std.specs.Prelude.{◌≡◌, ℕ, [], ◌∷◌}
use Rattle.cdr_codec.specs.declared.orders.Order.TheVariants.{Big}
use Rattle.giop_messages.specs.declared.messages.Message.{Message}
use Rattle.giop_messages.specs.declared.messages.Message.TheVariants as messages

-- a deposit of 5, whose target is named by the 12 bytes of a key
abbrev pub deposit : ℕ → Message
deposit id = messages.Request (record {
  id = id;
  flags = 3;
  key = 70 ∷ 84 ∷ 79 ∷ 71 ∷ 0 ∷ 0 ∷ 0 ∷ 0 ∷ 0 ∷ 0 ∷ 0 ∷ 1 ∷ [];
  op = 100 ∷ 101 ∷ 112 ∷ 111 ∷ 115 ∷ 105 ∷ 116 ∷ [];
  contexts = [];
  body = record { order = Big; align = 0; bytes = 0 ∷ 0 ∷ 0 ∷ 0 ∷ 0 ∷ 0 ∷ 0 ∷ 5 ∷ [] };
})

-- a deposit with any id
abbrev pub IsDeposit : Message → Type 0
IsDeposit message = (id : ℕ) × (message ≡ deposit id)
