-- What a profile, a reference or a text names, as relations on their bytes: the object key of a profile,
-- the group of a reference, the reference of a text. (GIOP chapter, "IOR profiles"; chapter 23, "Object
-- group references".)
use Rattle.std.specs.Prelude.{◌≡◌, ℕ, ◌<◌, ◌≤◌, Bool, true, false, List, [], ◌∷◌, length, drop, position, count_by, Option, Some, None, Ok}
use Rattle.hex.specs.Hex.{decode_of}
use Rattle.cdr_codec.specs.Values.{boolean}
use Rattle.cdr_codec.specs.Encapsulations.{Encapsulates}
use Rattle.cdr_codec.specs.Tagged.{content_of}
use Rattle.iogr_reference.specs.declared.choices.TheConstants.{PROFILE_LIMIT}
use Rattle.iogr_reference.specs.declared.tags.TheConstants.{IIOP_TAG, GROUP_TAG, PRIMARY_TAG}
use Rattle.iogr_reference.specs.declared.references.Profile.{Profile}
use Rattle.iogr_reference.specs.declared.references.Iiop.{Iiop}
use Rattle.iogr_reference.specs.declared.references.Ior.{Ior}
use Rattle.iogr_reference.specs.declared.references.GroupTag.{GroupTag}
use Rattle.iogr_reference.specs.declared.references.GroupRef.{GroupRef}
use Rattle.iogr_reference.specs.Formats.{component_parts, iiop, group_tag, ior}
use Rattle.iogr_reference.specs.Texts.{has_prefix}

-- ---- the object key of a profile

-- an IIOP profile, whose content encapsulates this
pub record IsIiop (p : Profile) (x : Iiop) : Type 0 where
  pub tag : p.tag ≡ IIOP_TAG
  pub content : Encapsulates iiop.Spelled p.content x

pub record HasKey (p : Profile) (key : List ℕ) : Type 0 where
  pub inside : Iiop
  pub profile : IsIiop p inside
  pub is : inside.key ≡ key

-- ---- the group of a reference

-- a group component that encapsulates this
abbrev pub NamesTag : Option (List ℕ) → GroupTag → Type 0
NamesTag None tag = ⊥
NamesTag (Some content) tag = Encapsulates group_tag.Spelled content tag

-- the truth that a primary component encapsulates; without the component the profile isn't the primary's
abbrev pub TellsPrimary : Option (List ℕ) → Bool → Type 0
TellsPrimary None is_primary = is_primary ≡ false
TellsPrimary (Some content) is_primary = Encapsulates boolean.Spelled content is_primary

-- an IIOP profile of a member of this group; of each kind of component the first counts
pub record IsMember (tag : GroupTag) (p : Profile) (x : Iiop) (is_primary : Bool) : Type 0 where
  pub profile : IsIiop p x
  pub group : NamesTag (content_of component_parts GROUP_TAG x.components) tag
  pub primary : TellsPrimary (content_of component_parts PRIMARY_TAG x.components) is_primary

-- the IIOP profiles among these are those of members of this group, each with its mark as the primary's;
-- profiles of other tags are passed over
pub data AreMembers (tag : GroupTag) : List Profile → List Iiop → List Bool → Type 0 where
  none : AreMembers tag [] [] []
  other : (p : Profile) (ps : List Profile) {xs : List Iiop} {marks : List Bool}
      → (p.tag ≡ IIOP_TAG → ⊥) → AreMembers tag ps xs marks → AreMembers tag (p ∷ ps) xs marks
  member : (p : Profile) (ps : List Profile) (x : Iiop) (xs : List Iiop) (mark : Bool) (marks : List Bool)
      → IsMember tag p x mark → AreMembers tag ps xs marks → AreMembers tag (p ∷ ps) (x ∷ xs) (mark ∷ marks)

abbrev pub tag_in : GroupRef → GroupTag
tag_in g = record { domain = g.domain; group = g.group; version = g.version }

-- the reference names this group: all its IIOP profiles do, and at most one of them is the primary's
pub record NamesGroup (r : Ior) (g : GroupRef) : Type 0 where
  pub marks : List Bool
  pub members : AreMembers (tag_in g) r.profiles g.profiles marks
  pub some : 0 < length g.profiles
  pub few : length g.profiles ≤ PROFILE_LIMIT
  pub once : count_by (λ mark. mark) marks ≤ 1
  pub primary : g.primary ≡ position (λ mark. mark) marks
  pub type_id : g.type_id ≡ r.type_id

-- ---- the reference of a text

-- the text is `IOR:` and the digits of octets that encapsulate this
pub record SpellsReference (text : List ℕ) (r : Ior) : Type 0 where
  pub octets : List ℕ
  pub prefix : has_prefix text ≡ true
  pub digits : decode_of (drop 4 text) ≡ Ok octets
  pub content : Encapsulates ior.Spelled octets r
