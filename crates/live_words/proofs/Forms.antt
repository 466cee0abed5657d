-- The words that `clap` takes are those of the form.
use Rattle.std.proofs.Common.{◌≡◌, ◌∙◌, ◌↔◌, Bool, true, false, refl, sym, ap, subst, List, [], ◌∷◌, ◌++◌, Option, Some, None, inl, inr}
use Rattle.std.specs.List.{list_any}
use Rattle.clap.specs.Values.{kind_of}
use Rattle.clap.specs.Matches.{first_value, found_of}
use Rattle.clap.specs.Kinds.{HasKind, IsAmong, Kinds}
use Rattle.clap.specs.declared.error.Error.{Error}
use Rattle.clap.specs.declared.error.kind.ErrorKind.TheVariants.{OutOfMemory}
use Rattle.clap.specs.declared.parser.matches.ArgMatches.{ArgMatches}
use Rattle.clap.proofs.WalkLemmas.{first_value-rows}
use Rattle.clap.specs.Walk.{first_of, rows_of}
use Rattle.clap.specs.Simple.{App, HasMatchesOf, built, is_simple, matches_of}
use Rattle.clap.specs.Faults.{fault_of, is_simple_and_free}
use Rattle.live_words.specs.declared.asking.LiveWords.{LiveWords}
use Rattle.live_words.specs.Words.{Asks, Given, IsAsked, Text, is_end, names, spelled, spelled_all, value_of}
use Rattle.live_words.specs.Command.{command_of}
use Rattle.live_words.proofs.Texts.{alone_goes_on, joined_goes_on, never, none_is_some}
use Rattle.live_words.proofs.Walks.{AreNew, AreSpoken, app, are_read, are_taken, fails_not, passes_as, rows_are, rows_of_given, values_are}
use Rattle.live_words.proofs.Values.{spoken}

built_is : built (command_of names) ≡ app names
built_is = refl

pub is_simple_command : is_simple_and_free (command_of names) ≡ true
is_simple_command = refl

pub has_matches : is_simple (command_of names) ≡ true
has_matches = refl

-- the value of an option in what a parse found
abbrev pub found : List Text → Text → Option Text
found words id = first_of id (matches_of (command_of names) words)

same_values : (f g : Text → Option Text) (live : LiveWords) → ((id : Text) → f id ≡ g id) → IsAsked f live → IsAsked g live
same_values f g live same asked = subst (λ (h : Text → Option Text). IsAsked h live) (λ i id. same id i) asked

ends : (words : List Text) (given : List Given) → matches_of (command_of names) words ≡ rows_of_given given → (id : Text) → found words id ≡ value_of given id
ends words given is id = ap (first_of id) is ∙ values_are given id

-- what is found in words that are taken is what they ask for
pub read_form : (words : List Text) (live : LiveWords) → list_any is_end words ≡ false → fault_of (command_of names) words ≡ [] → IsAsked (found words) live → Asks words live
read_form words live on none asked =
    let read = (are_read names words [] None on (passes_as names words none)).1 in
    let rows : matches_of (command_of names) words ≡ rows_of_given read.given = rows_are names words ∙ read.end in
    record { given = read.given; spelled = read.spelled; known = read.known; once = read.once; asked = same_values _ _ live (ends words read.given rows) asked }

goes_on : (gs : List Given) → AreSpoken names gs → list_any is_end (spelled_all gs) ≡ false
goes_on [] said = refl
goes_on (g ∷ gs) said = go g.is_joined (goes_on gs said.3)
  where
    go : (joins : Bool) → list_any is_end (spelled_all gs) ≡ false → list_any is_end (spelled (record { name = g.name; value = g.value; is_joined = joins }) ++ spelled_all gs) ≡ false
    go true more = rw (joined_goes_on g.name g.value) more
    go false more = rw (alone_goes_on g.name said.0, said.2.goes) more

pub record IsTakenWhole (words : List Text) (live : LiveWords) : Type 0 where
  pub goes : list_any is_end words ≡ false
  pub passes : fault_of (command_of names) words ≡ []
  pub asked : IsAsked (found words) live

all_new : (gs : List Given) → AreNew names [] gs
all_new [] = tt
all_new (g ∷ gs) = (refl, all_new gs)

-- words of the form are taken, and what is found in them is what they ask for
pub form_taken : (words : List Text) (live : LiveWords) → Asks words live → IsTakenWhole words live
form_taken words live asks =
    let said = spoken asks.given live asks.known asks.once asks.asked in
    let taken = are_taken names asks.given [] None said asks.once refl (all_new asks.given) in
    let rows : matches_of (command_of names) (spelled_all asks.given) ≡ rows_of_given asks.given = rows_are names (spelled_all asks.given) ∙ taken.end in
    let whole : IsTakenWhole (spelled_all asks.given) live = record {
      goes = goes_on asks.given said;
      passes = fails_not names (spelled_all asks.given) taken.passes;
      asked = same_values _ _ live (λ id. sym (ends (spelled_all asks.given) asks.given rows id)) asks.asked;
    } in
    subst (λ (ws : List Text). IsTakenWhole ws live) (sym asks.spelled) whole

-- ---- what comes of a parse

-- a word `--` is of no form
pub ended_form : (words : List Text) (live : LiveWords) → list_any is_end words ≡ true → (None ≡ Some live) ↔ Asks words live
ended_form words live ends_there = (λ h. none_is_some h, λ asks. never (sym ends_there ∙ (form_taken words live asks).goes))

found_values : (words : List Text) (m : ArgMatches) → rows_of (found_of m) ≡ matches_of (command_of names) words → (id : Text) → first_value (found_of m) id ≡ found words id
found_values words m rows id = first_value-rows (found_of m) id ∙ ap (first_of id) rows

-- a parse that succeeds gives what the words ask for
pub parsed_form : (words : List Text) (live : LiveWords) (app : App) (read : Option LiveWords) (m : ArgMatches) → list_any is_end words ≡ false → app ≡ command_of names
    → (is_simple_and_free app ≡ true → fault_of app words ≡ []) → HasMatchesOf app words m → (read ≡ Some live) ↔ IsAsked (first_value (found_of m)) live
    → (read ≡ Some live) ↔ Asks words live
parsed_form words live app read m goes is passes matches asked =
    let none : fault_of (command_of names) words ≡ [] = subst (λ (a : App). is_simple_and_free a ≡ true → fault_of a words ≡ []) is passes is_simple_command in
    let rows = (subst (λ (a : App). HasMatchesOf a words m) is matches has_matches).0 in
    let same = found_values words m rows in (
      λ h. read_form words live goes none (same_values _ _ live same (asked.0 h)),
      λ asks. asked.1 (same_values _ _ live (λ id. sym (same id)) (form_taken words live asks).asked),
    )

-- one that fails with another error than that memory ran out was of no form
pub failed_form : (words : List Text) (live : LiveWords) (app : App) (e : Error) → app ≡ command_of names → (is_simple_and_free app ≡ true → HasKind (fault_of app words) e)
    → (kind_of e ≡ OutOfMemory → ⊥) → (None ≡ Some live) ↔ Asks words live
failed_form words live app e is fails other = (λ h. none_is_some h, λ asks. go _ (subst (λ (a : App). is_simple_and_free a ≡ true → HasKind (fault_of a words) e) is fails is_simple_command) (form_taken words live asks).passes)
  where
    go : (ks : Kinds) → HasKind ks e → ks ≡ [] → None ≡ Some live
    go ks (inl memory) none = absurd (other memory)
    go ks (inr among) none = absurd (subst (λ (k : Kinds). IsAmong (kind_of e) k) none among)
