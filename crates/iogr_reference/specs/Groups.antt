-- The group that a reference names, or the first cause for which it names none. (Chapter 23, "Object
-- group references".)
use Rattle.std.specs.Prelude.{ℕ, ◌==◌, ◌&&◌, nat_lt, Bool, true, false, not, if◌then◌else◌, List, [], ◌∷◌, length, position, count_by, Option, Some, None, Result, Ok, Err}
use Rattle.std.specs.List.{list_any}
use Rattle.std.specs.Str.{bytes_eq}
use Rattle.cdr_codec.specs.declared.faults.CdrWhy.{CdrWhy}
use Rattle.cdr_codec.specs.Reading.{Fault, ◌>>=◌}
use Rattle.cdr_codec.specs.Values.{boolean}
use Rattle.cdr_codec.specs.Encapsulations.{held}
use Rattle.cdr_codec.specs.Tagged.{content_of}
use Rattle.iogr_reference.specs.declared.choices.TheConstants.{PROFILE_LIMIT}
use Rattle.iogr_reference.specs.declared.tags.TheConstants.{IIOP_TAG, GROUP_TAG, PRIMARY_TAG}
use Rattle.iogr_reference.specs.declared.references.Profile.{Profile}
use Rattle.iogr_reference.specs.declared.references.Component.{Component}
use Rattle.iogr_reference.specs.declared.references.Iiop.{Iiop}
use Rattle.iogr_reference.specs.declared.references.Ior.{Ior}
use Rattle.iogr_reference.specs.declared.references.GroupTag.{GroupTag}
use Rattle.iogr_reference.specs.declared.references.GroupRef.{GroupRef}
use Rattle.iogr_reference.specs.declared.insides.Mark.{Mark}
use Rattle.iogr_reference.specs.declared.faults.RefFault.{RefFault}
use Rattle.iogr_reference.specs.declared.faults.RefFault.TheVariants as refusals
use Rattle.iogr_reference.specs.Formats.{component_parts, iiop, group_tag}

-- ---- what a profile says of its group

abbrev pub key_inside : Result Iiop (Fault CdrWhy) → Option (List ℕ)
key_inside (Ok x) = Some x.key
key_inside (Err wrong) = None

-- the object key of an IIOP profile, where its content can be read
abbrev pub profile_key : Profile → Option (List ℕ)
profile_key p = if p.tag == IIOP_TAG then key_inside (held iiop p.content) else None

abbrev pub tag_inside : Option (List ℕ) → Result (Option GroupTag) (Fault CdrWhy)
tag_inside None = Ok None
tag_inside (Some content) = held group_tag content >>= λ tag. Ok (Some tag)

abbrev pub truth_inside : Option (List ℕ) → Result Bool (Fault CdrWhy)
truth_inside None = Ok false
truth_inside (Some content) = held boolean content

-- the group component, and whether there is a true primary component
abbrev pub mark_of : List Component → Result Mark (Fault CdrWhy)
mark_of cs =
    tag_inside (content_of component_parts GROUP_TAG cs) >>= λ group. truth_inside (content_of component_parts PRIMARY_TAG cs) >>= λ primary.
    Ok (record { group = group; primary = primary })

-- IIOP profiles, and beside each what it says of its group
pub record Marked : Type 0 where
  pub iiops : List Iiop
  pub marks : List Mark

abbrev pub marked : List Iiop → List Mark → Marked
marked iiops marks = record { iiops = iiops; marks = marks }

abbrev pub in_front : Iiop → Mark → Marked → Marked
in_front x mark rest = marked (x ∷ rest.iiops) (mark ∷ rest.marks)

abbrev pub marked_with : Iiop → Result Marked (Fault CdrWhy) → Result Marked (Fault CdrWhy)
marked_with x rest = mark_of x.components >>= λ mark. rest >>= λ others. Ok (in_front x mark others)

-- the IIOP profiles among these, or the first that can't be read
unfoldable pub iiops_of : List Profile → Result Marked (Fault CdrWhy)
iiops_of [] = Ok (marked [] [])
iiops_of (p ∷ ps) =
    if p.tag == IIOP_TAG then (held iiop p.content >>= λ x. marked_with x (iiops_of ps)) else iiops_of ps

-- ---- the group

abbrev pub first_tag : List Mark → Option GroupTag
first_tag [] = None
first_tag (mark ∷ marks) = mark.group

abbrev pub is_tag : GroupTag → Option GroupTag → Bool
is_tag tag None = false
is_tag tag (Some other) = bytes_eq tag.domain other.domain && (tag.group.0 == other.group.0 && tag.version.0 == other.version.0)

abbrev pub lacks_tag : Option GroupTag → Bool
lacks_tag None = true
lacks_tag (Some tag) = false

-- the place of the first profile whose group component isn't this one
abbrev pub unequal_place : GroupTag → List Mark → Option ℕ
unequal_place tag marks = position (λ (mark : Mark). not (is_tag tag mark.group)) marks

abbrev pub primaries : List Mark → ℕ
primaries marks = count_by (λ (mark : Mark). mark.primary) marks

-- the place of the primary's profile among the IIOP profiles
abbrev pub primary_place : List Mark → Option ℕ
primary_place marks = position (λ (mark : Mark). mark.primary) marks

abbrev pub one_primary : GroupTag → List Mark → Result GroupTag RefFault
one_primary tag marks = if nat_lt 1 (primaries marks) then Err refusals.TwoPrimaries else Ok tag

abbrev pub equal_tags : GroupTag → List Mark → Option ℕ → Result GroupTag RefFault
equal_tags tag marks (Some place) = Err (refusals.Unequal place)
equal_tags tag marks None = one_primary tag marks

abbrev pub tag_among : List Mark → Option GroupTag → Result GroupTag RefFault
tag_among marks None = Err refusals.NotAGroup
tag_among marks (Some tag) =
    if nat_lt PROFILE_LIMIT (length marks) then Err refusals.NotAGroup
    else (if list_any (λ (mark : Mark). lacks_tag mark.group) marks then Err refusals.NotAGroup else equal_tags tag marks (unequal_place tag marks))

-- the group component of all profiles, or the first cause for which they are none of a group
abbrev pub tag_of : List Mark → Result GroupTag RefFault
tag_of marks = tag_among marks (first_tag marks)

abbrev pub group_from : List ℕ → Marked → GroupTag → GroupRef
group_from type_id profiles tag = record {
  domain = tag.domain;
  group = tag.group;
  version = tag.version;
  type_id = type_id;
  profiles = profiles.iiops;
  primary = primary_place profiles.marks;
}

abbrev pub group_among : List ℕ → Result Marked (Fault CdrWhy) → Result GroupRef RefFault
group_among type_id (Err wrong) = Err (refusals.Bad (record { why = wrong.why; place = wrong.place }))
group_among type_id (Ok profiles) = tag_of profiles.marks >>= λ tag. Ok (group_from type_id profiles tag)

-- the group that a reference names
abbrev pub group_of : Ior → Result GroupRef RefFault
group_of r = group_among r.type_id (iiops_of r.profiles)
