-- The laws of references.
use Rattle.std.specs.Prelude.{◌≡◌, ℕ, ◌+◌, ◌<◌, ◌^◌, List, ◌++◌, length, Ok}
use Rattle.std.specs.List.{All}
use Rattle.ft_base.specs.declared.numbers.GroupId.{GroupId}
use Rattle.ft_base.specs.declared.views.View.{View}
use Rattle.cdr_codec.specs.declared.faults.CdrWhy.{CdrWhy}
use Rattle.cdr_codec.specs.Reading.{reader_at}
use Rattle.cdr_codec.specs.Formats.{Format}
use Rattle.cdr_codec.specs.Calls.{Writer}
use Rattle.iogr_reference.specs.declared.references.Ior.{Ior}
use Rattle.iogr_reference.specs.declared.references.Profile.{Profile}
use Rattle.iogr_reference.specs.Octets.{AreBytes}
use Rattle.iogr_reference.specs.Formats.{IsWritable}
use Rattle.iogr_reference.specs.Groups.{group_of}
use Rattle.iogr_reference.specs.Views.{reference_of, group_of_view, HasMembers}
use Rattle.iogr_reference.specs.Texts.{text_of, ior_in_text}
use Rattle.iogr_reference.specs.Naming.{NamesGroup, SpellsReference}

-- ---- what is written

-- the writer went on by a spelling of the value, from which it is read again, whatever follows
pub record Wrote {X : Type 0} (f : Format CdrWhy X) (old : Writer) (x : X) (new : Writer) : Type 0 where
  pub bytes : List ℕ
  pub is : new ≡ record old { text = old.text ++ bytes }
  pub spelled : f.Spelled old.order (old.place + length old.text) x bytes
  pub read_back : (more : List ℕ)
      → f.read (reader_at old.order (old.place + length old.text) (bytes ++ more))
      ≡ Ok (x, reader_at old.order (old.place + length old.text + length bytes) more)

-- ---- the references of views

-- a view's reference names its group, its version, its members and its primary
abbrev pub ViewsAreNamed : Type 0
ViewsAreNamed = (group : GroupId) (type_id : List ℕ) (view : View) (ports : List ℕ) → HasMembers group view ports
    → NamesGroup (reference_of group type_id view ports) (group_of_view group type_id view ports)

-- and these are read from it
abbrev pub ViewsAreRead : Type 0
ViewsAreRead = (group : GroupId) (type_id : List ℕ) (view : View) (ports : List ℕ) → HasMembers group view ports
    → group_of (reference_of group type_id view ports) ≡ Ok (group_of_view group type_id view ports)

-- ---- references as texts

-- the numbers of a profile fit
pub record ProfileFits (p : Profile) : Type 0 where
  pub tag : p.tag < 2 ^ 32
  pub content : AreBytes p.content

-- and those of a reference
pub record ReferenceFits (r : Ior) : Type 0 where
  pub type_id : AreBytes r.type_id
  pub profiles : All ProfileFits r.profiles

-- the text of a reference spells the reference
abbrev pub TextsAreSpelled : Type 0
TextsAreSpelled = (r : Ior) → IsWritable r → ReferenceFits r → SpellsReference (text_of r) r

-- and it is read from it
abbrev pub TextsAreRead : Type 0
TextsAreRead = (r : Ior) → IsWritable r → ReferenceFits r → ior_in_text (text_of r) ≡ Ok r
