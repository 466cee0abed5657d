use Rattle.std.proofs.Common.{◌≡◌, ℕ, List, false, inl, inr, sym, ap, ◌∙◌}
use Rattle.std.specs.Prelude.{codes}
use Rattle.std.specs.Str.{bytes_eq}
use Rattle.std.proofs.lemmas.Slice.Eq.{bytes_eq-Decides}
use Rattle.std.specs.Net.Grammar.{IsIpv4Text}
use Rattle.std.specs.declared.net.ipv4_addr.Ipv4Addr.{Ipv4Addr}
use Rattle.outside_links.specs.Addresses.{HasNoAddress}
use Rattle.outside_links.proofs.hosts.address_of.Goals as goal

-- what is called neither by numbers nor `localhost`
no_address : (host : List ℕ) → ((address : Ipv4Addr) → ¬ (IsIpv4Text host address)) → bytes_eq host (codes "localhost") ≡ false → HasNoAddress host
no_address host none other address (inl spelled) = none address spelled
no_address host none other address (inr called) = absurd (cc (other, (bytes_eq-Decides host (codes "localhost")).1 called.0))

pub returns-in-Err : goal.returns-in-Err
returns-in-Err c =
    no_address c.args.host.now c.in-Err.ensures (sym (ap (λ (ys : List ℕ). bytes_eq c.args.host.now ys) c.as_slice.ensures) ∙ (sym c.eq.ensures ∙ c.if-eq.false))
