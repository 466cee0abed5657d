-- A word that is no option refuses whatever follows it.
use Rattle.std.proofs.Common.{◌≡◌, ℕ, ◌+◌, ◌<◌, ◌∙◌, List, [], ◌∷◌, length, get_or, drop, Some, None, refl, sym, ap}
use Rattle.std.proofs.lemmas.List.{drop_more}
use Rattle.fault_script.specs.Options.{with_option, with_options}
use Rattle.fault_script.specs.declared.options.Options.{Options}

with_options_none : (words : List (List ℕ)) → with_options words None ≡ None
with_options_none [] = refl
with_options_none (word ∷ words) = with_options_none words

pub with_options_stop : (words : List (List ℕ)) (i : ℕ) (word : List ℕ) (options : Options) → i < length words → word ≡ get_or words i word
    → with_option word options ≡ None → with_options (drop i words) (Some options) ≡ None
with_options_stop words i word options inside is refused =
    ap (λ (ws : List (List ℕ)). with_options ws (Some options)) (drop_more words i word inside ∙ ap (λ (w : List ℕ). w ∷ drop (i + 1) words) (sym is))
    ∙ ap (with_options (drop (i + 1) words)) refused ∙ with_options_none (drop (i + 1) words)
