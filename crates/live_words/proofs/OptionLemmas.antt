-- The command with one option more.
use Rattle.std.proofs.Common.{◌≡◌, ◌∙◌, ℕ, ◌+◌, ◌<◌, List, [], ◌∷◌, ◌++◌, map, take, length, sym, ap, ap₂}
use Rattle.std.specs.List.{slice_index_or}
use Rattle.std.specs.Borrow.{Bor}
use Rattle.std.proofs.lemmas.List.{map-append, map_more}
use Rattle.clap.specs.Walk.{Rule, Text}
use Rattle.clap.specs.Simple.{App, with_rule}
use Rattle.live_words.specs.Command.{command_of, option_rule}

with_one : (ns : List Text) (n : Text) → with_rule (command_of ns) (option_rule n) ≡ command_of (ns ++ n ∷ [])
with_one ns n = ap (λ (rs : List Rule). record (command_of ns) { top = record (command_of ns).top { rules = rs } }) (sym (map-append option_rule ns (n ∷ [])))

pub option_more : (names : List (Bor Text)) (i : ℕ) (d : Bor Text) (now more : App) (rule : Rule) → i < length names → now ≡ command_of (map (λ s. s.now) (take i names))
    → rule ≡ option_rule (slice_index_or names i d).now → more ≡ with_rule now rule → more ≡ command_of (map (λ s. s.now) (take (i + 1) names))
option_more names i d now more rule within so_far is added =
    added ∙ ap₂ with_rule so_far is ∙ with_one (map (λ s. s.now) (take i names)) (slice_index_or names i d).now ∙ ap command_of (sym (map_more (λ s. s.now) names i d within))
