-- Octets behind a number, lists of them, and an octet that may be anything, are codecs.
use Rattle.std.proofs.Common.{◌≡◌, ℕ, List, Some}
use Rattle.cdr_codec.specs.declared.faults.CdrWhy.TheVariants.{Short}
use Rattle.cdr_codec.specs.Formats.{number, octets, followed, any_octet, tagged, all_tagged}
use Rattle.cdr_codec.specs.Laws.{IsCodec}
use Rattle.cdr_codec.proofs.Codecs.{number_codec, octets_codec, followed_codec, judged_codec, shaped_codec}
use Rattle.cdr_codec.proofs.Sequences.{sequence_codec}

pub any_octet_codec : (n : ℕ) → IsCodec Short (any_octet n)
any_octet_codec n = judged_codec Short (number 1) 1 Short (λ octet. Some tt) (λ u. n) (number_codec 1)

pub tagged_codec : {X : Type 0} (to : ℕ × List ℕ → X) (from : X → ℕ × List ℕ) → ((x : ℕ × List ℕ) → from (to x) ≡ x) → ((y : X) → to (from y) ≡ y)
    → IsCodec Short (tagged to from)
tagged_codec to from back forth =
    shaped_codec Short (followed (number 4) (λ tag. octets)) to from back forth
    (followed_codec Short (number 4) (λ tag. octets) (number_codec 4) (λ tag. octets_codec))

pub all_tagged_codec : {X : Type 0} (to : ℕ × List ℕ → X) (from : X → ℕ × List ℕ) → ((x : ℕ × List ℕ) → from (to x) ≡ x) → ((y : X) → to (from y) ≡ y)
    → IsCodec Short (all_tagged to from)
all_tagged_codec to from back forth = sequence_codec (tagged to from) (tagged_codec to from back forth)
