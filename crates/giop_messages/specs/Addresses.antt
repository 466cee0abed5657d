-- The target of a request, and the object key that it names. (GIOP chapter, `TargetAddress`.)
use Rattle.std.specs.Prelude.{ℕ, ◌==◌, List, [], slice_get, Option, Some, None}
use Rattle.cdr_codec.specs.declared.faults.CdrWhy.{CdrWhy}
use Rattle.cdr_codec.specs.declared.faults.CdrWhy.TheVariants.{Short}
use Rattle.cdr_codec.specs.Formats.{Format, number, octets, nothing, followed, judged, lifted}
use Rattle.iogr_reference.specs.declared.references.Ior.{Ior}
use Rattle.iogr_reference.specs.declared.references.Profile.{Profile}
use Rattle.cdr_codec.specs.Tagged.{IsShort}
use Rattle.iogr_reference.specs.Formats.{profile, profile_parts, ior, AreShort}
use Rattle.iogr_reference.specs.Groups.{profile_key}
use Rattle.giop_messages.specs.declared.faults.Why.{Why}
use Rattle.giop_messages.specs.declared.faults.Why.TheVariants as causes
use Rattle.giop_messages.specs.declared.addresses.Target.{Target}
use Rattle.giop_messages.specs.declared.addresses.Target.TheVariants as targets
use Rattle.giop_messages.specs.Faults.{up}
use Rattle.giop_messages.specs.Heads.{either}

-- ---- the forms of a target, each behind its discriminator

abbrev pub key_in : Target → List ℕ
key_in (targets.Key key) = key
key_in (targets.Profile p) = []
key_in (targets.Reference i r) = []
key_in (targets.Other n) = []

abbrev pub profile_in : Target → Profile
profile_in (targets.Key key) = record { tag = 0; content = [] }
profile_in (targets.Profile p) = p
profile_in (targets.Reference i r) = record { tag = 0; content = [] }
profile_in (targets.Other n) = record { tag = 0; content = [] }

abbrev pub reference_in : Target → ℕ × Ior
reference_in (targets.Key key) = (0, record { type_id = []; profiles = [] })
reference_in (targets.Profile p) = (0, record { type_id = []; profiles = [] })
reference_in (targets.Reference i r) = (i, r)
reference_in (targets.Other n) = (0, record { type_id = []; profiles = [] })

abbrev pub key_target : Format CdrWhy Target
key_target = judged octets 4 Short (λ key. Some (targets.Key key)) key_in

abbrev pub profile_target : Format CdrWhy Target
profile_target = judged profile 4 Short (λ p. Some (targets.Profile p)) profile_in

abbrev pub reference_target : Format CdrWhy Target
reference_target = judged (followed (number 4) (λ i. ior)) 4 Short (λ x. Some (targets.Reference x.0 x.1)) reference_in

-- what stands behind a discriminator: `KeyAddr` 0, `ProfileAddr` 1, `ReferenceAddr` 2
abbrev pub target_by : ℕ → Format CdrWhy Target
target_by n = either (n == 0) key_target (either (n == 1) profile_target (either (n == 2) reference_target (nothing (targets.Other n))))

abbrev pub target : Format CdrWhy (ℕ × Target)
target = followed (number 2) target_by

-- contents that can be read as encapsulations
abbrev pub IsShortTarget : Target → Type 0
IsShortTarget (targets.Key key) = Unit {0}
IsShortTarget (targets.Profile p) = IsShort profile_parts p
IsShortTarget (targets.Reference i r) = AreShort r.profiles
IsShortTarget (targets.Other n) = Unit {0}

-- ---- the object key that a target names

abbrev pub key_by : Option Profile → Option (List ℕ)
key_by None = None
key_by (Some p) = profile_key p

-- none of a profile that isn't IIOP or can't be read, of an index past the profiles, and of a discriminator
-- that there is not
abbrev pub key_named : Target → Option (List ℕ)
key_named (targets.Key key) = Some key
key_named (targets.Profile p) = profile_key p
key_named (targets.Reference i r) = key_by (slice_get r.profiles i)
key_named (targets.Other n) = None

-- an object key by whichever form of target; written as the key itself
abbrev pub address : Format Why (List ℕ)
address = judged (lifted up target) 2 causes.Address (λ x. key_named x.1) (λ key. (0, targets.Key key))
