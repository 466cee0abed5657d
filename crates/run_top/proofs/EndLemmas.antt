-- What is told of a refused line is the text of errors of its run.
use Rattle.std.proofs.Common.{◌≡◌, ◌⊎◌, inl, inr, ℕ, List, [], Option, Some, None, refl, sym, ap, subst, arith}
use Rattle.std.proofs.lemmas.List.{append-nil}
use Rattle.std.specs.Prelude.{IfSome}
use Rattle.fault_script.specs.declared.lines.LineFault.{LineFault}
use Rattle.script_pieces.specs.Feeds.{IsGain}
use Rattle.run_ends.specs.Ends.{IsPrefixGain}
use Rattle.run_top.specs.Headline.{error_text, refusal_text, status_of}

-- a run that ended with 3 was refused, and what is told is that refusal's
pub told_refusal : (status number : ℕ) (why : LineFault) (refused : Option (ℕ × LineFault)) (P : List ℕ → Type 0)
    → (status ≡ 3) ⊎ (status ≡ 6) → (status ≡ 3 → P (refusal_text number why)) → refused ≡ Some (number, why)
    → (status ≡ 0) ⊎ (status ≡ 3) → P (error_text refused)
told_refusal status number why refused P (inl three) told is (inl zero_is) = absurd (omega (arith, three, zero_is))
told_refusal status number why refused P (inr six) told is (inl zero_is) = absurd (omega (arith, six, zero_is))
told_refusal status number why refused P either told is (inr three) = subst P (sym (ap error_text is)) (told three)

-- a run that ended with 0 or 3 was refused with 3, where 3 or 6 is answered
pub refusal_status : (status number : ℕ) (why : LineFault) (refused : Option (ℕ × LineFault))
    → (status ≡ 3) ⊎ (status ≡ 6) → refused ≡ Some (number, why) → (status ≡ 0) ⊎ (status ≡ 3) → status ≡ status_of refused
refusal_status status number why refused (inl three) is (inl zero_is) = absurd (omega (arith, three, zero_is))
refusal_status status number why refused (inr six) is (inl zero_is) = absurd (omega (arith, six, zero_is))
refusal_status status number why refused either is (inr three) =
    subst (λ (r : Option (ℕ × LineFault)). status ≡ status_of r) (sym is) three

-- what follows of a fact, where a source tells what it has left
pub where_told : {A : Type 0} (left : Option A) (P Q : Type 0) → IfSome left (λ _. P) → (P → Q) → IfSome left (λ _. Q)
where_told None P Q p f = tt
where_told (Some a) P Q p f = f p

-- a fact, where a source tells what it has left
pub where_known : {A : Type 0} (left : Option A) (Q : Type 0) → Q → IfSome left (λ _. Q)
where_known None Q q = tt
where_known (Some a) Q q = q

-- a sink that gained nothing
gain_of_nothing : (holds : Option (List ℕ)) → IsGain holds holds []
gain_of_nothing None = refl
gain_of_nothing (Some held) = ap Some (sym (append-nil held))

-- nothing is a prefix of any output
pub nothing_is_prefix : (holds : Option (List ℕ)) (out : List ℕ) → IsPrefixGain holds holds out
nothing_is_prefix holds out = ([], out, refl, gain_of_nothing holds)

-- so is all of it
pub whole_is_prefix : (before holds : Option (List ℕ)) (out : List ℕ) → IsGain before holds out → IsPrefixGain before holds out
whole_is_prefix before holds out gain = (out, [], sym (append-nil out), gain)
