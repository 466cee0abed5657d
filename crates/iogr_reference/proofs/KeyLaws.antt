-- Each group's number is read from its key, and from no other key.
use Rattle.std.proofs.Common.{◌≡◌, ◌<◌, ◌^◌, ℕ, ◌+◌, ◌==◌, Bool, true, false, cond, List, [], ◌++◌, length, take, drop, get_or, Option, Some, None, refl, sym, ap, ◌∙◌, arith, length-drop, take-append-drop}
use Rattle.std.specs.Prelude.{◌&&◌, IfSome, IfNone}
use Rattle.std.specs.Str.{bytes_eq}
use Rattle.std.proofs.lemmas.Bool.{and_parts, eqb-true}
use Rattle.std.proofs.lemmas.List.{get_or-drop}
use Rattle.std.proofs.lemmas.Nat.{be_bytes_8}
use Rattle.std.proofs.lemmas.Slice.Eq.{bytes_eq-Decides}
use Rattle.byteorder.specs.Endian.{big_bytes, big_number}
use Rattle.byteorder.specs.Numbers.{big_number-reads_back}
use Rattle.ft_base.specs.declared.numbers.GroupId.{GroupId}
use Rattle.iogr_reference.specs.declared.choices.TheConstants.{KEY_SIGN}
use Rattle.iogr_reference.proofs.OctetLaws.{at_each}
use Rattle.iogr_reference.specs.Choices.{object_key, group_of_key, KeysNameGroups}

-- ---- object keys

abbrev the_group : Option GroupId → Option GroupId
the_group o = o

abbrev numbered : ℕ → GroupId
numbered n = record { 0 = n }

key_read : (group : GroupId) → group.0 < 2 ^ 64 → group_of_key (object_key group) ≡ Some group
key_read group h = ap (λ (n : ℕ). Some (numbered n)) (big_number-reads_back 8 group.0 [] h)

only_if : (b : Bool) (n : ℕ) (group : GroupId) → cond b (Some (numbered n)) None ≡ Some group → (b ≡ true) × (numbered n ≡ group)
only_if true n group e = (refl, cc)
only_if false n group e = absurd cc

-- a key that names a group is that group's
pub key_only : (key : List ℕ) (group : GroupId) → ((i : ℕ) → get_or key i 0 < 256) → group_of_key key ≡ Some group → key ≡ object_key group
key_only key group small e =
    let found = only_if (length key == 12 && bytes_eq (take 4 key) KEY_SIGN) (big_number 8 (drop 4 key)) group e in
    let parts = and_parts (length key == 12) (bytes_eq (take 4 key) KEY_SIGN) found.0 in
    let long : length key ≡ 12 = eqb-true (length key) 12 parts.0 in
    let sign : take 4 key ≡ KEY_SIGN = (bytes_eq-Decides (take 4 key) KEY_SIGN).0 parts.1 in
    let eight : length (drop 4 key) ≡ 8 = omega (arith, length-drop 4 key) in
    let digits : big_bytes 8 (big_number 8 (drop 4 key)) ≡ drop 4 key =
    be_bytes_8 (drop 4 key) (big_number 8 (drop 4 key)) eight (λ i. rw (get_or-drop 4 key i 0) (small (4 + i))) (omega arith) in
    sym (take-append-drop 4 key)
    ∙ ap (λ (front : List ℕ). front ++ drop 4 key) sign
    ∙ ap (λ (back : List ℕ). KEY_SIGN ++ back) (sym digits)
    ∙ ap object_key found.1

pub key_named : (key : List ℕ) (o : Option GroupId) → ((i : ℕ) → get_or key i 0 < 256) → o ≡ group_of_key key → IfSome o (λ group. key ≡ object_key group)
key_named key None small e = tt
key_named key (Some group) small e = key_only key group small (sym e)

none_some : (group : GroupId) → the_group None ≡ the_group (Some group) → ⊥
none_some group e = absurd cc

-- a key that names none is no group's
pub key_other : (key : List ℕ) (o : Option GroupId) → o ≡ group_of_key key → IfNone o ((group : GroupId) → group.0 < 2 ^ 64 → key ≡ object_key group → ⊥)
key_other key None e = λ group h is. none_some group (e ∙ ap group_of_key is ∙ key_read group h)
key_other key (Some group) e = tt

pub keys_name_groups : KeysNameGroups
keys_name_groups = record {
  read = key_read;
  only = λ key group bytes e. key_only key group (at_each key bytes) e;
}
