-- The reference of a view is short: each profile has a number of bytes that doesn't depend on what it names.
use Rattle.std.proofs.Common.{◌≡◌, ℕ, ◌+◌, ◌*◌, ◌<◌, ◌≤◌, ◌^◌, Bool, true, false, List, [], ◌∷◌, ◌++◌, length, map, refl, arith, length-append, lit≤}
use Rattle.std.proofs.lemmas.Bool.{leb-true}
use Rattle.std.proofs.lemmas.List.Elements.{All-nil, All-cons}
use Rattle.std.specs.Prelude.{slice_index}
use Rattle.ft_base.specs.Canonical.{padding}
use Rattle.ft_base.specs.Views.{is_led_by}
use Rattle.ft_base.specs.declared.numbers.GroupId.{GroupId}
use Rattle.ft_base.specs.declared.numbers.Version.{Version}
use Rattle.ft_base.specs.declared.text.TheConstants.{NAME_LIMIT}
use Rattle.ft_base.specs.declared.views.View.{View}
use Rattle.ft_base.specs.declared.views.TheConstants.{MEMBER_LIMIT}
use Rattle.cdr_codec.specs.declared.orders.Order.{Order}
use Rattle.cdr_codec.specs.Formats.{written_each, written_number}
use Rattle.cdr_codec.specs.Values.{text}
use Rattle.cdr_codec.proofs.Lengths.{number_length}
use Rattle.iogr_reference.specs.declared.references.Profile.{Profile}
use Rattle.iogr_reference.specs.Formats.{ior, profile, profiles, AreCounted}
use Rattle.iogr_reference.specs.Views.{member_profile, profile_of_host, reference_of}
use Rattle.host_server.specs.declared.limits.TheConstants.{PART_LIMIT}
use Rattle.link_session.specs.References.{ViewReferencesCanBeSent}

padded : (place : ℕ) → padding place 4 ≤ 3
padded place = omega arith

-- ---- one profile

content_short : (group : GroupId) (version : Version) (port : ℕ) (b : Bool) → length (member_profile group version port b).content ≤ 128
content_short group version port true = leb-true (length (member_profile group version port true).content) 128 refl
content_short group version port false = leb-true (length (member_profile group version port false).content) 128 refl

profile_short : (order : Order) (place : ℕ) (p : Profile) → length p.content ≤ 128 → length (profile.written order place p) ≤ 142
profile_short order place p h =
    let tag = written_number 4 order place p.tag in
    let count = written_number 4 order (place + length tag) (length p.content) in
    omega (
      arith,
      h,
      length-append tag (count ++ p.content),
      length-append count p.content,
      number_length 4 order place p.tag,
      number_length 4 order (place + length tag) (length p.content),
      padded place,
      padded (place + length tag),
    )

-- ---- the profiles of hosts

module _ (group : GroupId) (view : View) (ports : List ℕ) where
  abbrev of_hosts : List ℕ → List Profile
  of_hosts hosts = map (profile_of_host group view ports) hosts

  host_short : (host : ℕ) → length (profile_of_host group view ports host).content ≤ 128
  host_short host = content_short group view.version (slice_index ports host) (is_led_by view host)

  each_short : (order : Order) (place : ℕ) (hosts : List ℕ) → length (written_each profile.written order place (of_hosts hosts)) ≤ 142 * length hosts
  each_short order place [] = lit≤ tt
  each_short order place (host ∷ hosts) =
      let first = profile.written order place (profile_of_host group view ports host) in
      let rest = written_each profile.written order (place + length first) (of_hosts hosts) in
      omega (
        arith,
        length-append first rest,
        profile_short order place (profile_of_host group view ports host) (host_short host),
        each_short order (place + length first) hosts,
      )

  counted : (hosts : List ℕ) → AreCounted (of_hosts hosts)
  counted [] = All-nil (λ (p : Profile). length p.content < 2 ^ 32)
  counted (host ∷ hosts) =
      All-cons (λ (p : Profile). length p.content < 2 ^ 32) (profile_of_host group view ports host) (of_hosts hosts)
      (let h = host_short host in omega arith) (counted hosts)

  as_many : (hosts : List ℕ) → length (of_hosts hosts) ≡ length hosts
  as_many [] = refl
  as_many (host ∷ hosts) = let h = as_many hosts in omega arith

  -- ---- the reference

  reference_short : (order : Order) (type_id : List ℕ) → length type_id ≤ NAME_LIMIT → length view.members ≤ MEMBER_LIMIT
      → length (ior.written order 0 (reference_of group type_id view ports)) ≤ PART_LIMIT
  reference_short order type_id short few =
      let ps = of_hosts view.members in
      let id = text.written order 0 type_id in
      let all = profiles.written order (0 + length id) ps in
      let front = written_number 4 order (0 + length id) (length ps) in
      let each = written_each profile.written order ((0 + length id) + length front) ps in
      let id_long : length id ≡ padding 0 4 + 4 + (length type_id + 1) =
      omega (
        arith,
        length-append (written_number 4 order 0 (length (type_id ++ 0 ∷ []))) (type_id ++ 0 ∷ []),
        number_length 4 order 0 (length (type_id ++ 0 ∷ [])),
        length-append type_id (0 ∷ []),
      ) in
      omega (
        arith,
        short,
        few,
        id_long,
        length-append id (all ++ []),
        length-append all [],
        length-append front each,
        number_length 4 order (0 + length id) (length ps),
        padded 0,
        padded (0 + length id),
        each_short order ((0 + length id) + length front) view.members,
      )

pub views_can_be_sent : ViewReferencesCanBeSent
views_can_be_sent group type_id view ports order no_zero short few = record {
  writable = record {
    no_zero = no_zero;
    short = omega arith;
    counted = let h = as_many group view ports view.members in omega arith;
    contents = counted group view ports view.members;
  };
  short = reference_short group view ports order type_id short few;
}
