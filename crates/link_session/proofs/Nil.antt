-- A reference that leads nowhere can be sent.
use Rattle.std.proofs.Common.{◌≤◌, ◌<◌, ◌^◌, [], length, refl, lit≤, lit<}
use Rattle.std.proofs.lemmas.List.Elements.{All-nil}
use Rattle.cdr_codec.specs.declared.orders.Order.{Order}
use Rattle.cdr_codec.specs.declared.orders.Order.TheVariants.{Big, Little}
use Rattle.iogr_reference.specs.declared.references.Ior.{Ior}
use Rattle.iogr_reference.specs.declared.references.Profile.{Profile}
use Rattle.iogr_reference.specs.Formats.{IsWritable}
use Rattle.host_server.specs.Replies.{IsForward}

abbrev nil : Ior
nil = record { type_id = []; profiles = [] }

nil_is_writable : IsWritable nil
nil_is_writable = record {
  no_zero = refl;
  short = lit< tt;
  counted = lit< tt;
  contents = All-nil (λ (p : Profile). length p.content < 2 ^ 32);
}

pub nil_is_sent : (order : Order) → IsForward order (record { type_id = []; profiles = [] })
nil_is_sent Big = record { writable = nil_is_writable; short = lit≤ tt }
nil_is_sent Little = record { writable = nil_is_writable; short = lit≤ tt }
