-- What the judgement of criteria says of them.
use Rattle.std.proofs.Common.{◌≡◌, ℕ, Option, Some, None, refl}
use Rattle.std.specs.Prelude.{Ok, Err}
use Rattle.ft_base.specs.declared.numbers.GroupId.{GroupId}
use Rattle.property_manager.specs.declared.faults.PropertyFault.TheVariants as property_faults
use Rattle.property_manager.specs.Judging as judging
use Rattle.generic_factory.specs.declared.faults.CreateFault.TheVariants as faults
use Rattle.generic_factory.specs.Creating.{refused_at}

pub taken : (o p : Option ℕ) → Ok tt ≡ judging.judged (judging.refused_at o p) → None ≡ refused_at o p
taken (Some i) p e = cc
taken None (Some i) e = cc
taken None None e = refl

pub invalid : (o p : Option ℕ) (place : ℕ) → Err (property_faults.InvalidProperty place) ≡ judging.judged (judging.refused_at o p)
    → Some (faults.InvalidCriteria place) ≡ refused_at o p
invalid (Some i) p place e = cc
invalid None (Some i) place e = cc
invalid None None place e = cc

pub unsupported : (o p : Option ℕ) (place : ℕ) → Err (property_faults.UnsupportedProperty place) ≡ judging.judged (judging.refused_at o p)
    → Some (faults.UnsupportedProperty place) ≡ refused_at o p
unsupported (Some i) p place e = cc
unsupported None (Some i) place e = cc
unsupported None None place e = cc

-- criteria aren't refused because of a group, nor for want of memory
pub no_group : (o p : Option ℕ) (group : GroupId) → Err (property_faults.ObjectGroupNotFound group) ≡ judging.judged (judging.refused_at o p) → ⊥
no_group (Some i) p group e = cc
no_group None (Some i) group e = cc
no_group None None group e = cc

pub no_memory : (o p : Option ℕ) → Err property_faults.NoMemory ≡ judging.judged (judging.refused_at o p) → ⊥
no_memory (Some i) p e = cc
no_memory None (Some i) e = cc
no_memory None None e = cc
