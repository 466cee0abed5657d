-- The addresses of hosts.
use Rattle.std.specs.Prelude.{◌≡◌, ℕ, ◌⊎◌, List, [], ◌∷◌, codes}
use Rattle.std.specs.Net.Addr.{ipv4_octets}
use Rattle.std.specs.Net.Grammar.{IsIpv4Text}
use Rattle.std.specs.declared.net.ipv4_addr.Ipv4Addr.{Ipv4Addr}

-- a host is called by its address, four numbers with dots between them, or `localhost`, which is 127.0.0.1
abbrev pub IsAddressOf : List ℕ → Ipv4Addr → Type 0
IsAddressOf host address = IsIpv4Text host address ⊎ ((host ≡ codes "localhost") × (ipv4_octets address ≡ 127 ∷ 0 ∷ 0 ∷ 1 ∷ []))

-- no address is called that
abbrev pub HasNoAddress : List ℕ → Type 0
HasNoAddress host = (address : Ipv4Addr) → ¬ (IsAddressOf host address)
