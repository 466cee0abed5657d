-- The IIOP profiles of a reference, gathered one by one.
use Rattle.std.proofs.Common.{◌≡◌, ◌∙◌, ◌<◌, ◌+◌, ℕ, suc, true, false, List, [], ◌∷◌, ◌++◌, length, drop, get_or, cond, Option, Some, None, Result, Ok, Err, refl, sym, ap, append_assoc, append-nil, drop-cons, add-one}
use Rattle.std.specs.Prelude.{◌==◌}
use Rattle.cdr_codec.specs.declared.faults.CdrWhy.{CdrWhy}
use Rattle.cdr_codec.specs.Reading.{Fault, ◌>>=◌}
use Rattle.iogr_reference.specs.declared.references.Profile.{Profile}
use Rattle.iogr_reference.specs.declared.references.Iiop.{Iiop}
use Rattle.iogr_reference.specs.declared.insides.Mark.{Mark}
use Rattle.cdr_codec.specs.Calls.{FailsIn}
use Rattle.iogr_reference.specs.Formats.{iiop}
use Rattle.iogr_reference.specs.declared.tags.TheConstants.{IIOP_TAG}
use Rattle.cdr_codec.specs.Encapsulations.{held}
use Rattle.iogr_reference.specs.Groups.{Marked, marked, in_front, marked_with, iiops_of, mark_of}

abbrev pub with_marked : List Iiop → List Mark → Result Marked (Fault CdrWhy) → Result Marked (Fault CdrWhy)
with_marked xs ms (Ok rest) = Ok (marked (xs ++ rest.iiops) (ms ++ rest.marks))
with_marked xs ms (Err wrong) = Err wrong

pub iiops_of-none : iiops_of [] ≡ Ok (marked [] [])
unfolding iiops_of
iiops_of-none = refl

pub iiops_of-cons : (p : Profile) (ps : List Profile)
    → iiops_of (p ∷ ps) ≡ cond (p.tag == IIOP_TAG) (held iiop p.content >>= λ x. marked_with x (iiops_of ps)) (iiops_of ps)
unfolding iiops_of
iiops_of-cons p ps = refl

pub begins : (q : Result Marked (Fault CdrWhy)) → with_marked [] [] q ≡ q
begins (Ok rest) = refl
begins (Err wrong) = refl

at_item : (ps : List Profile) (i : ℕ) (p : Profile) → i < length ps → p ≡ get_or ps i p → drop i ps ≡ p ∷ drop (i + 1) ps
at_item ps i p h is = rw (add-one) (drop-cons ps i p h ∙ ap (λ (x : Profile). x ∷ drop (suc i) ps) (sym is))

-- a profile of another tag
pub passes : (ps : List Profile) (i : ℕ) (p : Profile) → i < length ps → p ≡ get_or ps i p → (p.tag == IIOP_TAG) ≡ false
    → iiops_of (drop i ps) ≡ iiops_of (drop (i + 1) ps)
passes ps i p h is other = ap iiops_of (at_item ps i p h is) ∙ iiops_of-cons p (drop (i + 1) ps) ∙ rw other refl

here : (ps : List Profile) (i : ℕ) (p : Profile) → i < length ps → p ≡ get_or ps i p → (p.tag == IIOP_TAG) ≡ true
    → iiops_of (drop i ps) ≡ (held iiop p.content >>= λ x. marked_with x (iiops_of (drop (i + 1) ps)))
here ps i p h is same = ap iiops_of (at_item ps i p h is) ∙ iiops_of-cons p (drop (i + 1) ps) ∙ rw same refl

pushed : (xs : List Iiop) (ms : List Mark) (x : Iiop) (m : Mark) (q : Result Marked (Fault CdrWhy))
    → with_marked xs ms (q >>= λ rest. Ok (in_front x m rest)) ≡ with_marked (xs ++ x ∷ []) (ms ++ m ∷ []) q
pushed xs ms x m (Ok rest) = rw (append_assoc xs (x ∷ []) rest.iiops, append_assoc ms (m ∷ []) rest.marks) refl
pushed xs ms x m (Err wrong) = refl

-- an IIOP profile
pub joins : (xs : List Iiop) (ms : List Mark) (ps : List Profile) (i : ℕ) (p : Profile) (x : Iiop) (m : Mark)
    → i < length ps → p ≡ get_or ps i p → (p.tag == IIOP_TAG) ≡ true → held iiop p.content ≡ Ok x → mark_of x.components ≡ Ok m
    → with_marked xs ms (iiops_of (drop i ps)) ≡ with_marked (xs ++ x ∷ []) (ms ++ m ∷ []) (iiops_of (drop (i + 1) ps))
joins xs ms ps i p x m h is same read told =
    ap (with_marked xs ms)
    (here ps i p h is same
    ∙ ap (λ (r : Result Iiop (Fault CdrWhy)). r >>= λ y. marked_with y (iiops_of (drop (i + 1) ps))) read
    ∙ ap (λ (r : Result Mark (Fault CdrWhy)). r >>= λ mark. iiops_of (drop (i + 1) ps) >>= λ rest. Ok (in_front x mark rest)) told)
    ∙ pushed xs ms x m (iiops_of (drop (i + 1) ps))

-- one that can't be read
pub stops : (xs : List Iiop) (ms : List Mark) (ps : List Profile) (i : ℕ) (p : Profile) (wrong : Fault CdrWhy)
    → i < length ps → p ≡ get_or ps i p → (p.tag == IIOP_TAG) ≡ true → held iiop p.content ≡ Err wrong
    → with_marked xs ms (iiops_of (drop i ps)) ≡ Err wrong
stops xs ms ps i p wrong h is same read =
    ap (with_marked xs ms)
    (here ps i p h is same ∙ ap (λ (r : Result Iiop (Fault CdrWhy)). r >>= λ y. marked_with y (iiops_of (drop (i + 1) ps))) read)

-- one whose components can't be read
pub stops_inside : (xs : List Iiop) (ms : List Mark) (ps : List Profile) (i : ℕ) (p : Profile) (x : Iiop) (wrong : Fault CdrWhy)
    → i < length ps → p ≡ get_or ps i p → (p.tag == IIOP_TAG) ≡ true → held iiop p.content ≡ Ok x → mark_of x.components ≡ Err wrong
    → with_marked xs ms (iiops_of (drop i ps)) ≡ Err wrong
stops_inside xs ms ps i p x wrong h is same read told =
    ap (with_marked xs ms)
    (here ps i p h is same
    ∙ ap (λ (r : Result Iiop (Fault CdrWhy)). r >>= λ y. marked_with y (iiops_of (drop (i + 1) ps))) read
    ∙ ap (λ (r : Result Mark (Fault CdrWhy)). r >>= λ mark. iiops_of (drop (i + 1) ps) >>= λ rest. Ok (in_front x mark rest)) told)

-- all are gathered
pub ended : (xs : List Iiop) (ms : List Mark) (ps : List Profile) (i : ℕ) → drop i ps ≡ [] → with_marked xs ms (iiops_of (drop i ps)) ≡ Ok (marked xs ms)
ended xs ms ps i none =
    ap (with_marked xs ms) (ap iiops_of none ∙ iiops_of-none) ∙ rw (append-nil xs, append-nil ms) refl

-- the same where the answer may be want of memory
pub stops_for : (xs : List Iiop) (ms : List Mark) (ps : List Profile) (i : ℕ) (p : Profile) (o : Option (Fault CdrWhy)) (whole : Result Marked (Fault CdrWhy))
    → i < length ps → p ≡ get_or ps i p → (p.tag == IIOP_TAG) ≡ true → FailsIn o (held iiop p.content)
    → with_marked xs ms (iiops_of (drop i ps)) ≡ whole → FailsIn o whole
stops_for xs ms ps i p None whole h is same read left = tt
stops_for xs ms ps i p (Some wrong) whole h is same read left = sym left ∙ stops xs ms ps i p wrong h is same read

pub stops_inside_for : (xs : List Iiop) (ms : List Mark) (ps : List Profile) (i : ℕ) (p : Profile) (x : Iiop) (o : Option (Fault CdrWhy)) (whole : Result Marked (Fault CdrWhy))
    → i < length ps → p ≡ get_or ps i p → (p.tag == IIOP_TAG) ≡ true → held iiop p.content ≡ Ok x → FailsIn o (mark_of x.components)
    → with_marked xs ms (iiops_of (drop i ps)) ≡ whole → FailsIn o whole
stops_inside_for xs ms ps i p x None whole h is same read told left = tt
stops_inside_for xs ms ps i p x (Some wrong) whole h is same read told left = sym left ∙ stops_inside xs ms ps i p x wrong h is same read told
