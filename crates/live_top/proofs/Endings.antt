-- How a run ends: what its words say, and what its sink of output gained.
use Rattle.std.proofs.Common.{◌≡◌, ◌≢◌, ◌↔◌, ◌++◌, ℕ, sym, List, take, drop, Option}
use Rattle.std.specs.Prelude.{option_map}
use Rattle.std.proofs.lemmas.List.{take-append-drop}
use Rattle.run_ends.specs.Ends.{IsPrefixGain}
use Rattle.live_words.specs.Words.{Text}
use Rattle.live_words.specs.declared.asking.LiveWords.{LiveWords}
use Rattle.live_top.specs.Headline.{AreOfNoForm, AsksFor}

-- words that ask for a run aren't refused
pub form_kept : (words : List Text) (live : LiveWords) (status : ℕ) → AsksFor words live → status ≢ 2 → (status ≡ 2) ↔ AreOfNoForm words
form_kept words live status asks goes_on = (λ is. absurd (goes_on is), λ none. absurd (none live asks))

-- a front that was written is a prefix
pub front_gained : (before holds : Option (List ℕ)) (text : List ℕ) (n : ℕ) → holds ≡ option_map (λ held. held ++ take n text) before → IsPrefixGain before holds text
front_gained before holds text n is = (take n text, drop n text, sym (take-append-drop n text), is)
