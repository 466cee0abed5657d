-- What stands behind the padding up to a message's end is its body, and nothing else is.
use Rattle.std.proofs.Common.{◌≡◌, ℕ, ◌≤◌, ◌<◌, ◌==◌, Bool, true, false, cond, List, [], ◌∷◌, ◌++◌, length, take, drop, replicate, refl, sym, ap, subst, ◌∙◌, append-nil, lit<, length-take-le, take-append-drop, arith, inl, inr}
use Rattle.std.proofs.Math.ListN.{drop_of_length-le}
use Rattle.std.proofs.lemmas.Bool.{cases_lt}
use Rattle.std.proofs.lemmas.List.{drop_at, length-take, length-replicate}
use Rattle.ft_base.specs.Canonical.{padding}
use Rattle.cdr_codec.specs.declared.orders.Order.{Order}
use Rattle.cdr_codec.specs.declared.bodies.Raw.{Raw}
use Rattle.cdr_codec.specs.Reading.{Reader, reader_at}
use Rattle.giop_messages.specs.declared.forms.Form.{Form}
use Rattle.giop_messages.specs.Messages.{giop, IsPadded, SpellsBody, body_boundary, align_at, body_align, body_of, body_at}
use Rattle.giop_messages.specs.Writing.{padded_body}

-- ---- what is left behind the padding is spelled

padded_whole : (body : List ℕ) (count whole : ℕ) → count ≡ whole → IsPadded body count whole
padded_whole [] count whole e = omega arith
padded_whole (b ∷ bs) count whole e = e

padded_less : (body : List ℕ) (count whole : ℕ) → body ≡ [] → count ≤ whole → IsPadded body count whole
padded_less body count whole none h = subst (λ (l : List ℕ). IsPadded l count whole) (sym none) h

padded_by : (whole : ℕ) (rest : List ℕ) → IsPadded (drop whole rest) (length (take whole rest)) whole
padded_by whole rest = elim (cases_lt (length rest) whole) [
  | inl less ↦ padded_less (drop whole rest) (length (take whole rest)) whole (drop_of_length-le rest (omega arith)) (omega (arith, length-take whole rest))
  | inr enough ↦ padded_whole (drop whole rest) (length (take whole rest)) whole (length-take-le whole rest enough)
]

abbrev skip_at : ℕ → ℕ → ℕ
skip_at minor place = padding place (body_boundary minor)

pub body_found : (minor : ℕ) (r : Reader) → SpellsBody (giop minor r.order) r.place (body_at minor r) r.rest
body_found minor r = record {
  pad = take (skip_at minor r.place) r.rest;
  is = sym (take-append-drop (skip_at minor r.place) r.rest);
  padded = padded_by (skip_at minor r.place) r.rest;
  ordered = refl;
  aligned = refl;
}

-- ---- what is spelled is what is left

left_behind : (pad body : List ℕ) (whole : ℕ) → IsPadded body (length pad) whole → drop whole (pad ++ body) ≡ body
left_behind pad [] whole h = ap (drop whole) (append-nil pad) ∙ drop_of_length-le pad h
left_behind pad (b ∷ bs) whole h = drop_at pad (b ∷ bs) whole h

abbrev raw : Order → ℕ → List ℕ → Raw
raw order align bytes = record { order = order; align = align; bytes = bytes }

pub body_again : (form : Form) (place : ℕ) (body : Raw) (bytes : List ℕ) → SpellsBody form place body bytes
    → body_at form.minor (reader_at form.order place bytes) ≡ body
body_again form place body bytes s =
    let skip = skip_at form.minor place in
    let left : drop skip bytes ≡ body.bytes = ap (drop skip) s.is ∙ left_behind s.pad body.bytes skip s.padded in
    ap (body_of form.minor (reader_at form.order place bytes)) left
    ∙ ap (λ (o : Order). raw o (body_align form.minor place body.bytes) body.bytes) (sym s.ordered)
    ∙ ap (λ (n : ℕ). raw body.order n body.bytes) (sym s.aligned)

-- ---- what is written is spelled

record IsBehind (skip : ℕ) (body bytes : List ℕ) : Type 0 where
  pub pad : List ℕ
  pub is : bytes ≡ pad ++ body
  pub padded : IsPadded body (length pad) skip

behind_padding : (skip : ℕ) (body : List ℕ) → IsBehind skip body (padded_body skip body)
behind_padding skip [] = record { pad = []; is = refl; padded = omega arith }
behind_padding skip (b ∷ bs) = record {
  pad = replicate skip 0;
  is = refl;
  padded = length-replicate skip 0;
}

pub body_spells : (form : Form) (place : ℕ) (body : Raw) → body.order ≡ form.order → body.align ≡ body_align form.minor place body.bytes
    → SpellsBody form place body (padded_body (skip_at form.minor place) body.bytes)
body_spells form place body ordered aligned =
    let b = behind_padding (skip_at form.minor place) body.bytes in
    record { pad = b.pad; is = b.is; padded = b.padded; ordered = ordered; aligned = aligned }

-- ---- how a body is aligned

align_small : (place : ℕ) (bytes : List ℕ) → align_at place bytes < 8
align_small place [] = lit< tt
align_small place (b ∷ bs) = omega arith

abbrev align_if : Bool → ℕ → List ℕ → ℕ
align_if new place bytes = cond new 0 (align_at place bytes)

aligned_if : (new : Bool) (place : ℕ) (bytes : List ℕ) → align_if new place bytes < 8
aligned_if true place bytes = lit< tt
aligned_if false place bytes = align_small place bytes

pub body_aligned : (minor place : ℕ) (bytes : List ℕ) → body_align minor place bytes < 8
body_aligned minor place bytes = aligned_if (minor == 2) place bytes
