-- What is named is what is computed, both ways.
use Rattle.std.proofs.Common.{◌≡◌, ◌∙◌, ◌<◌, ◌≤◌, ℕ, suc, Bool, true, false, List, [], ◌∷◌, length, map, cond, eqb, ltb, Option, Some, None, IfSome, IfNone, Result, Ok, Err, IfOk, refl, sym, ap, subst, arith, le-ltb, ltb-false, eq-eqb}
use Rattle.std.specs.Prelude.{count_by, not, ◌&&◌, ◌==◌}
use Rattle.std.specs.List.{All, list_any}
use Rattle.std.specs.Str.{bytes_eq}
use Rattle.std.proofs.lemmas.Bool.{and_parts, eqb-true}
use Rattle.std.proofs.lemmas.Bool.Decides.{nat_tests}
use Rattle.std.proofs.lemmas.List.Elements.{All-head, All-tail, All-nil, All-cons}
use Rattle.std.proofs.lemmas.Slice.Eq.{bytes_eq-Decides}
use Rattle.cdr_codec.specs.declared.faults.CdrWhy.{CdrWhy}
use Rattle.cdr_codec.specs.Reading.{Fault, ◌>>=◌}
use Rattle.cdr_codec.specs.Calls.{Tells, Refuses}
use Rattle.cdr_codec.specs.Values.{boolean}
use Rattle.cdr_codec.specs.Encapsulations.{held}
use Rattle.cdr_codec.proofs.Steps.{bind_ok, bind_goes, ok_is, err_ok}
use Rattle.cdr_codec.proofs.CodecLaws.{told_found, told_refused}
use Rattle.cdr_codec.proofs.ValueLaws.{boolean_codec}
use Rattle.cdr_codec.proofs.EncapsulationLaws.{held_found, held_again}
use Rattle.iogr_reference.specs.declared.choices.TheConstants.{PROFILE_LIMIT}
use Rattle.iogr_reference.specs.declared.tags.TheConstants.{IIOP_TAG, GROUP_TAG, PRIMARY_TAG}
use Rattle.iogr_reference.specs.declared.references.Profile.{Profile}
use Rattle.iogr_reference.specs.declared.references.Component.{Component}
use Rattle.iogr_reference.specs.declared.references.Iiop.{Iiop}
use Rattle.iogr_reference.specs.declared.references.Ior.{Ior}
use Rattle.iogr_reference.specs.declared.references.GroupTag.{GroupTag}
use Rattle.iogr_reference.specs.declared.references.GroupRef.{GroupRef}
use Rattle.iogr_reference.specs.declared.faults.RefFault.{RefFault}
use Rattle.iogr_reference.specs.declared.faults.RefFault.TheVariants as refusals
use Rattle.iogr_reference.specs.declared.insides.Mark.{Mark}
use Rattle.iogr_reference.specs.Formats.{component_parts, iiop, group_tag}
use Rattle.cdr_codec.specs.Tagged.{content_of}
use Rattle.iogr_reference.specs.Groups.{tag_inside, truth_inside, mark_of, Marked, marked, in_front, marked_with, iiops_of, is_tag, lacks_tag, unequal_place, primaries, primary_place, equal_tags, tag_among, tag_of, group_from, group_among, group_of, profile_key, key_inside}
use Rattle.iogr_reference.specs.Faults.{ref_refusal}
use Rattle.iogr_reference.specs.Naming.{HasKey, NamesTag, TellsPrimary, IsMember, AreMembers, none, other, member, tag_in, NamesGroup}
use Rattle.iogr_reference.proofs.Codecs.{iiop_codec, group_tag_codec}
use Rattle.iogr_reference.proofs.GroupLemmas.{iiops_of-none, iiops_of-cons}
use Rattle.iogr_reference.proofs.ListLemmas.{length_mapped, count_mapped, position_mapped, none_mapped, any_mapped, none_passes}

-- ---- what the components of a profile tell

tag_again : (o : Option (List ℕ)) (tag : GroupTag) → NamesTag o tag → tag_inside o ≡ Ok (Some tag)
tag_again None tag h = absurd h
tag_again (Some content) tag h = bind_goes (held group_tag content) (λ t. Ok (Some t)) tag (Ok (Some tag)) (held_again group_tag group_tag_codec content tag h) refl

tag_found : (o : Option (List ℕ)) (tag : GroupTag) → tag_inside o ≡ Ok (Some tag) → NamesTag o tag
tag_found None tag e = absurd cc
tag_found (Some content) tag e =
    let b = bind_ok (held group_tag content) (λ t. Ok (Some t)) (Some tag) e in
    let same : b.0 ≡ tag = cc in
    held_found group_tag group_tag_codec content tag (b.1 ∙ ap (λ (t : GroupTag). Ok t) same)

truth_again : (o : Option (List ℕ)) (b : Bool) → TellsPrimary o b → truth_inside o ≡ Ok b
truth_again None b h = ap (λ (t : Bool). Ok t) (sym h)
truth_again (Some content) b h = held_again boolean boolean_codec content b h

truth_found : (o : Option (List ℕ)) (b : Bool) → truth_inside o ≡ Ok b → TellsPrimary o b
truth_found None b e = cc
truth_found (Some content) b e = held_found boolean boolean_codec content b e

abbrev mark_with : GroupTag → Bool → Mark
mark_with tag b = record { group = Some tag; primary = b }

abbrev with_group : Result Bool (Fault CdrWhy) → Option GroupTag → Result Mark (Fault CdrWhy)
with_group truth group = truth >>= λ primary. Ok (record { group = group; primary = primary })

mark_again : (cs : List Component) (tag : GroupTag) (b : Bool) → NamesTag (content_of component_parts GROUP_TAG cs) tag → TellsPrimary (content_of component_parts PRIMARY_TAG cs) b
    → mark_of cs ≡ Ok (mark_with tag b)
mark_again cs tag b g p =
    let truth = truth_inside (content_of component_parts PRIMARY_TAG cs) in
    bind_goes (tag_inside (content_of component_parts GROUP_TAG cs)) (with_group truth) (Some tag) (Ok (mark_with tag b)) (tag_again (content_of component_parts GROUP_TAG cs) tag g)
    (bind_goes truth (λ primary. Ok (mark_with tag primary)) b (Ok (mark_with tag b)) (truth_again (content_of component_parts PRIMARY_TAG cs) b p) refl)

-- what was read of the two components
record Marks (cs : List Component) (mark : Mark) : Type 0 where
  pub group : tag_inside (content_of component_parts GROUP_TAG cs) ≡ Ok mark.group
  pub primary : truth_inside (content_of component_parts PRIMARY_TAG cs) ≡ Ok mark.primary

mark_found : (cs : List Component) (mark : Mark) → mark_of cs ≡ Ok mark → Marks cs mark
mark_found cs mark e =
    let truth = truth_inside (content_of component_parts PRIMARY_TAG cs) in
    let a = bind_ok (tag_inside (content_of component_parts GROUP_TAG cs)) (with_group truth) mark e in
    let b = bind_ok truth (λ primary. Ok (record { group = a.0; primary = primary })) mark a.2 in
    let whole : ◌≡◌ {A = Mark} (record { group = a.0; primary = b.0 }) mark = ok_is _ mark b.2 in
    record {
      group = a.1 ∙ ap (λ (m : Mark). Ok m.group) whole;
      primary = b.1 ∙ ap (λ (m : Mark). Ok m.primary) whole;
    }

-- ---- the profiles of members

abbrev is_iiop : Profile → Bool
is_iiop p = p.tag == IIOP_TAG

not_equal : (a b : ℕ) → (a ≡ b → ⊥) → eqb a b ≡ false
not_equal a b h = grind (arith, nat_tests)

pub members_again : (tag : GroupTag) {ps : List Profile} {xs : List Iiop} {marks : List Bool} → AreMembers tag ps xs marks
    → iiops_of ps ≡ Ok (marked xs (map (mark_with tag) marks))
members_again tag none = iiops_of-none
members_again tag (other p ps unlike rest) =
    iiops_of-cons p ps ∙ rw (not_equal p.tag IIOP_TAG unlike) (members_again tag rest)
members_again tag (member p ps x xs b bs is rest) =
    let same : is_iiop p ≡ true = eq-eqb p.tag IIOP_TAG is.profile.tag in
    iiops_of-cons p ps
    ∙ rw same (bind_goes (held iiop p.content) (λ y. marked_with y (iiops_of ps)) x _ (held_again iiop iiop_codec p.content x is.profile.content)
    (bind_goes (mark_of x.components) (λ mark. iiops_of ps >>= λ others. Ok (in_front x mark others)) (mark_with tag b) _ (mark_again x.components tag b is.group is.primary)
    (bind_goes (iiops_of ps) (λ others. Ok (in_front x (mark_with tag b) others)) (marked xs (map (mark_with tag) bs)) _ (members_again tag rest) refl)))

pub marks_beside : (tag : GroupTag) {ps : List Profile} {xs : List Iiop} {marks : List Bool} → AreMembers tag ps xs marks → length marks ≡ length xs
marks_beside tag none = refl
marks_beside tag (other p ps unlike rest) = marks_beside tag rest
marks_beside tag (member p ps x xs b bs is rest) = ap (λ (n : ℕ). suc n) (marks_beside tag rest)

-- these marks all have this group component
abbrev AllHave : GroupTag → List Mark → Type 0
AllHave tag marks = All (λ (m : Mark). m.group ≡ Some tag) marks

abbrev are_primary : List Mark → List Bool
are_primary marks = map (λ (m : Mark). m.primary) marks

abbrev Members : GroupTag → List Profile → Marked → Type 0
Members tag ps y = AllHave tag y.marks → AreMembers tag ps y.iiops (are_primary y.marks)

is_member : (tag : GroupTag) (p : Profile) (x : Iiop) (mark : Mark) → p.tag ≡ IIOP_TAG → held iiop p.content ≡ Ok x → Marks x.components mark → mark.group ≡ Some tag
    → IsMember tag p x mark.primary
is_member tag p x mark same read told has = record {
  profile = record { tag = same; content = held_found iiop iiop_codec p.content x read };
  group = tag_found (content_of component_parts GROUP_TAG x.components) tag (told.group ∙ ap (λ (o : Option GroupTag). Ok o) has);
  primary = truth_found (content_of component_parts PRIMARY_TAG x.components) mark.primary told.primary;
}

-- one profile more, of another tag or of a member
one_more : (tag : GroupTag) (p : Profile) (ps : List Profile) (y : Marked) (b : Bool) → is_iiop p ≡ b → ((z : Marked) → iiops_of ps ≡ Ok z → Members tag ps z)
    → iiops_of (p ∷ ps) ≡ Ok y → Members tag (p ∷ ps) y
one_more tag p ps y false unlike known e =
    let rest : iiops_of ps ≡ Ok y = sym (iiops_of-cons p ps ∙ rw unlike refl) ∙ e in
    λ all. other p ps (λ same. absurd cc (eq-eqb p.tag IIOP_TAG same, unlike)) (known y rest all)
one_more tag p ps y true same known e =
    let whole : (held iiop p.content >>= λ x. marked_with x (iiops_of ps)) ≡ Ok y = sym (iiops_of-cons p ps ∙ rw same refl) ∙ e in
    let a = bind_ok (held iiop p.content) (λ x. marked_with x (iiops_of ps)) y whole in
    let m = bind_ok (mark_of a.0.components) (λ mark. iiops_of ps >>= λ others. Ok (in_front a.0 mark others)) y a.2 in
    let rest = bind_ok (iiops_of ps) (λ others. Ok (in_front a.0 m.0 others)) y m.2 in
    subst (Members tag (p ∷ ps)) (ok_is (in_front a.0 m.0 rest.0) y rest.2)
    (λ all. member p ps a.0 rest.0.iiops m.0.primary (are_primary rest.0.marks)
    (is_member tag p a.0 m.0 (eqb-true p.tag IIOP_TAG same) a.1 (mark_found a.0.components m.0 m.1) (All-head (λ (x : Mark). x.group ≡ Some tag) m.0 rest.0.marks all))
    (known rest.0 rest.1 (All-tail (λ (x : Mark). x.group ≡ Some tag) m.0 rest.0.marks all)))

pub members_found : (tag : GroupTag) (ps : List Profile) (y : Marked) → iiops_of ps ≡ Ok y → Members tag ps y
members_found tag [] y e = subst (Members tag []) (ok_is (marked [] []) y (sym iiops_of-none ∙ e)) (λ all. none)
members_found tag (p ∷ ps) y e = one_more tag p ps y (is_iiop p) refl (λ z known. members_found tag ps z known) e

-- ---- the group of the members

abbrev no_group : Result GroupTag RefFault
no_group = Err refusals.NotAGroup

abbrev two_primaries : Result GroupTag RefFault
two_primaries = Err refusals.TwoPrimaries

is_itself : (tag : GroupTag) → is_tag tag (Some tag) ≡ true
is_itself tag =
    rw ((bytes_eq-Decides tag.domain tag.domain).1 refl, eq-eqb tag.group.0 tag.group.0 refl, eq-eqb tag.version.0 tag.version.0 refl) refl

-- marks of one group, with one primary at most, name it
pub tag_again_of : (tag : GroupTag) (marks : List Bool) → 0 < length marks → length marks ≤ PROFILE_LIMIT → count_by (λ mark. mark) marks ≤ 1
    → tag_of (map (mark_with tag) marks) ≡ Ok tag
tag_again_of tag [] some few once = absurd (omega arith)
tag_again_of tag (b ∷ bs) some few once =
    let marks = map (mark_with tag) (b ∷ bs) in
    let long = length_mapped (mark_with tag) (b ∷ bs) in
    let counted = count_mapped (mark_with tag) (λ (mark : Mark). mark.primary) (b ∷ bs) in
    let small : ltb PROFILE_LIMIT (length marks) ≡ false = le-ltb _ _ (omega arith) in
    let one : ltb 1 (primaries marks) ≡ false = le-ltb _ _ (omega arith) in
    let none_lacks = any_mapped (mark_with tag) (λ (mark : Mark). lacks_tag mark.group) (λ b. refl) (b ∷ bs) in
    let none_unequal = none_mapped (mark_with tag) (λ (mark : Mark). not (is_tag tag mark.group)) (λ b. ap not (is_itself tag)) (b ∷ bs) in
    ap (λ (b : Bool). cond b no_group (cond (list_any (λ (mark : Mark). lacks_tag mark.group) marks) no_group (equal_tags tag marks (unequal_place tag marks)))) small
    ∙ ap (λ (b : Bool). cond b no_group (equal_tags tag marks (unequal_place tag marks))) none_lacks
    ∙ ap (equal_tags tag marks) none_unequal
    ∙ ap (λ (b : Bool). cond b two_primaries (Ok tag)) one

-- what marks say that name a group
pub record NameOne (tag : GroupTag) (marks : List Mark) : Type 0 where
  pub some : 0 < length marks
  pub few : length marks ≤ PROFILE_LIMIT
  pub have : AllHave tag marks
  pub once : primaries marks ≤ 1

unless_not : {X : Type 0} (b : Bool) (wrong : RefFault) (r : Result X RefFault) (x : X) → cond b (Err wrong) r ≡ Ok x → (b ≡ false) × (r ≡ Ok x)
unless_not true wrong r x e = absurd cc
unless_not false wrong r x e = (refl, e)

-- the first cause of all passed over
equal_found : (t : GroupTag) (marks : List Mark) (place : Option ℕ) (tag : GroupTag) → equal_tags t marks place ≡ Ok tag
    → (place ≡ None) × (primaries marks ≤ 1) × (t ≡ tag)
equal_found t marks (Some place) tag e = absurd cc
equal_found t marks None tag e =
    let one = unless_not (ltb 1 (primaries marks)) refusals.TwoPrimaries (Ok t) tag e in
    (refl, ltb-false _ _ one.0, ok_is t tag one.1)

not_not : (b : Bool) → not (not b) ≡ true → b ≡ true
not_not true e = refl
not_not false e = absurd cc

same_fields : (t u : GroupTag) → t.domain ≡ u.domain → t.group.0 ≡ u.group.0 → t.version.0 ≡ u.version.0 → u ≡ t
same_fields t u d g v = sym (ap (λ (x : List ℕ). record t { domain = x }) d ∙ ap (λ (x : ℕ). record u { group = record { 0 = x }; version = t.version }) g ∙ ap (λ (x : ℕ). record u { version = record { 0 = x } }) v)

same_tag : (t : GroupTag) (o : Option GroupTag) → not (not (is_tag t o)) ≡ true → o ≡ Some t
same_tag t None e = absurd cc
same_tag t (Some u) e =
    let test : is_tag t (Some u) ≡ true = not_not (is_tag t (Some u)) e in
    let a = and_parts (bytes_eq t.domain u.domain) (t.group.0 == u.group.0 && t.version.0 == u.version.0) test in
    let b = and_parts (t.group.0 == u.group.0) (t.version.0 == u.version.0) a.1 in
    ap (λ (x : GroupTag). Some x)
    (same_fields t u ((bytes_eq-Decides t.domain u.domain).0 a.0) (eqb-true _ _ b.0) (eqb-true _ _ b.1))

all_same : (t : GroupTag) (marks : List Mark) → All (λ (m : Mark). not (not (is_tag t m.group)) ≡ true) marks → AllHave t marks
all_same t [] all = All-nil (λ (m : Mark). m.group ≡ Some t)
all_same t (m ∷ ms) all =
    All-cons (λ (m : Mark). m.group ≡ Some t) m ms (same_tag t m.group (All-head (λ (m : Mark). not (not (is_tag t m.group)) ≡ true) m ms all))
    (all_same t ms (All-tail (λ (m : Mark). not (not (is_tag t m.group)) ≡ true) m ms all))

tag_found_among : (marks : List Mark) (o : Option GroupTag) (tag : GroupTag) → 0 < length marks → tag_among marks o ≡ Ok tag → NameOne tag marks
tag_found_among marks None tag some e = absurd cc
tag_found_among marks (Some t) tag some e =
    let few = unless_not (ltb PROFILE_LIMIT (length marks)) refusals.NotAGroup _ tag e in
    let have = unless_not (list_any (λ (mark : Mark). lacks_tag mark.group) marks) refusals.NotAGroup _ tag few.1 in
    let equal = equal_found t marks (unequal_place t marks) tag have.1 in
    let each = none_passes (λ (mark : Mark). not (is_tag t mark.group)) marks equal.0 in
    record {
      some = some;
      few = ltb-false _ _ few.0;
      have = subst (λ (u : GroupTag). AllHave u marks) equal.2 (all_same t marks each);
      once = equal.1;
    }

pub tag_found_of : (marks : List Mark) (tag : GroupTag) → tag_of marks ≡ Ok tag → NameOne tag marks
tag_found_of [] tag e = absurd cc
tag_found_of (m ∷ ms) tag e = tag_found_among (m ∷ ms) m.group tag (omega arith) e

-- ---- the group of a reference

abbrev with_primary : GroupRef → Option ℕ → Result GroupRef RefFault
with_primary group place = Ok (record group { primary = place })

abbrev with_type : GroupRef → List ℕ → Result GroupRef RefFault
with_type group type_id = Ok (record group { type_id = type_id })

-- what a reference names is read from it
pub group_again : (r : Ior) (g : GroupRef) → NamesGroup r g → group_of r ≡ Ok g
group_again r g n =
    let tag = tag_in g in
    let all = marked g.profiles (map (mark_with tag) n.marks) in
    let beside = marks_beside tag n.members in
    let place : primary_place (map (mark_with tag) n.marks) ≡ g.primary = position_mapped (mark_with tag) (λ (mark : Mark). mark.primary) n.marks ∙ sym n.primary in
    ap (group_among r.type_id) (members_again tag n.members)
    ∙ ap (λ (q : Result GroupTag RefFault). q >>= λ t. Ok (group_from r.type_id all t)) (tag_again_of tag n.marks (omega arith) (omega arith) n.once)
    ∙ ap (with_primary (record g { type_id = r.type_id })) place
    ∙ ap (with_type g) (sym n.type_id)

abbrev Names : Ior → GroupRef → Type 0
Names r g = NamesGroup r g

named_by : (r : Ior) (y : Marked) (tag : GroupTag) → iiops_of r.profiles ≡ Ok y → tag_of y.marks ≡ Ok tag → NamesGroup r (group_from r.type_id y tag)
named_by r y tag read told =
    let one = tag_found_of y.marks tag told in
    let members = members_found tag r.profiles y read one.have in
    let beside = marks_beside tag members in
    let long = length_mapped (λ (m : Mark). m.primary) y.marks in
    let counted = count_mapped (λ (m : Mark). m.primary) (λ (mark : Bool). mark) y.marks in
    record {
      marks = are_primary y.marks;
      members = members;
      some = let some = one.some in omega arith;
      few = let few = one.few in omega arith;
      once = let once = one.once in omega arith;
      primary = sym (position_mapped (λ (m : Mark). m.primary) (λ (mark : Bool). mark) y.marks);
      type_id = refl;
    }

group_found_in : (r : Ior) (g : GroupRef) (q : Result Marked (Fault CdrWhy)) → iiops_of r.profiles ≡ q → group_among r.type_id q ≡ Ok g → NamesGroup r g
group_found_in r g (Err wrong) read e = absurd cc
group_found_in r g (Ok y) read e =
    let b = bind_ok (tag_of y.marks) (λ tag. Ok (group_from r.type_id y tag)) g e in
    subst (Names r) (ok_is (group_from r.type_id y b.0) g b.2) (named_by r y b.0 read b.1)

-- what is read from a reference it names
pub group_found : (r : Ior) (g : GroupRef) → group_of r ≡ Ok g → NamesGroup r g
group_found r g e = group_found_in r g (iiops_of r.profiles) refl e

-- ---- the key of a profile

key_found_in : (p : Profile) (key : List ℕ) (b : Bool) (q : Result Iiop (Fault CdrWhy)) → is_iiop p ≡ b → held iiop p.content ≡ q
    → cond b (key_inside q) None ≡ Some key → HasKey p key
key_found_in p key false q unlike read e = absurd cc
key_found_in p key true (Err wrong) same read e = absurd cc
key_found_in p key true (Ok x) same read e = record {
  inside = x;
  profile = record { tag = eqb-true p.tag IIOP_TAG same; content = held_found iiop iiop_codec p.content x read };
  is = cc;
}

pub key_found : (p : Profile) (key : List ℕ) → profile_key p ≡ Some key → HasKey p key
key_found p key e = key_found_in p key (is_iiop p) (held iiop p.content) refl refl e

pub key_again : (p : Profile) (key : List ℕ) → HasKey p key → profile_key p ≡ Some key
key_again p key h =
    ap (λ (b : Bool). cond b (key_inside (held iiop p.content)) None) (eq-eqb p.tag IIOP_TAG h.profile.tag)
    ∙ ap key_inside (held_again iiop iiop_codec p.content h.inside h.profile.content)
    ∙ ap (λ (k : List ℕ). Some k) h.is

-- ---- what the calls answer

abbrev TellsGroup : Ior → Result GroupRef RefFault → Type 0
TellsGroup r result = Tells (λ g. g) ref_refusal result (group_of r)

pub is_named : (r : Ior) (result : Result GroupRef RefFault) → TellsGroup r result → IfOk result (NamesGroup r)
is_named r result t = told_found (λ g. g) ref_refusal result (group_of r) (NamesGroup r) (group_found r) t

pub is_unnamed : (r : Ior) (result : Result GroupRef RefFault) → TellsGroup r result → Refuses ref_refusal result ((g : GroupRef) → NamesGroup r g → ⊥)
is_unnamed r result t =
    told_refused (λ g. g) ref_refusal result (group_of r) ((g : GroupRef) → NamesGroup r g → ⊥)
    (λ wrong e g n. err_ok g wrong (sym e ∙ group_again r g n)) t

key_is : (p : Profile) (o : Option (List ℕ)) → o ≡ profile_key p → IfSome o (HasKey p)
key_is p None e = tt
key_is p (Some key) e = key_found p key (sym e)

pub has_key : {E : Type 0} (p : Profile) (result : Result (Option (List ℕ)) E) → IfOk result (λ key. key ≡ profile_key p) → IfOk result (λ o. IfSome o (HasKey p))
has_key p (Ok o) e = key_is p o e
has_key p (Err wrong) e = tt

none_some : (o : Option (List ℕ)) (key : List ℕ) → o ≡ None → o ≡ Some key → ⊥
none_some o key e d = absurd cc

no_key : (p : Profile) (o : Option (List ℕ)) → o ≡ profile_key p → IfNone o ((key : List ℕ) → HasKey p key → ⊥)
no_key p None e = λ key h. none_some (profile_key p) key (sym e) (key_again p key h)
no_key p (Some key) e = tt

pub has_no_key : {E : Type 0} (p : Profile) (result : Result (Option (List ℕ)) E) → IfOk result (λ key. key ≡ profile_key p)
    → IfOk result (λ o. IfNone o ((key : List ℕ) → HasKey p key → ⊥))
has_no_key p (Ok o) e = no_key p o e
has_no_key p (Err wrong) e = tt
