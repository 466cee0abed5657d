-- A byte order and the octet that names it.
use Rattle.std.specs.Prelude.{ℕ, ◌%◌, ◌==◌, if◌then◌else◌}
use Rattle.cdr_codec.specs.declared.orders.Order.{Order}
use Rattle.cdr_codec.specs.declared.orders.Order.TheVariants.{Big, Little}

-- the octet of an encapsulation in this order, and the flags of a message
abbrev pub order_sign : Order → ℕ
order_sign Big = 0
order_sign Little = 1

-- the order that bit 0 of some flags names
abbrev pub order_of : ℕ → Order
order_of flags = if flags % 2 == 1 then Little else Big
