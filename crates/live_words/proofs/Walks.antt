-- How `clap` walks over the words of a command whose options each have one value.
use Rattle.std.proofs.Common.{◌≡◌, ◌∙◌, ◌&&◌, ◌||◌, ℕ, Bool, cond, codes, true, false, not, zero, suc, refl, sym, ap, subst, List, [], ◌∷◌, ◌++◌, map, length, Option, Some, None, append_assoc, append-nil}
use Rattle.std.specs.Prelude.{slice_get, option_map, option_and_then}
use Rattle.std.specs.List.{find, fold, list_all, list_any}
use Rattle.std.specs.Str.{bytes_eq, chars}
use Rattle.std.proofs.lemmas.Slice.Eq.{bytes_eq-Decides}
use Rattle.clap.specs.Lexer.{long_of, short_of}
use Rattle.clap.specs.Walk.{Held, Row, Rule, Text, Waiting, Walk, after_flag, after_step, arg_by_id, arg_by_index, arg_by_long, arg_by_short, at_row, bundle_met, bundle_step, finished, first_of, has_row, idle, more_values, next, nothing_held, option, plain, plain_word, positional, short_or_plain, subcommand_met, rows_after, settled, settled_rows, used, with_default, walk, walk_from, walked, without, word_met}
use Rattle.clap.specs.Simple.{App, Shape, entered, filled, new_shape, with_index}
use Rattle.clap.specs.Takes.{is_given}
use Rattle.clap.specs.Kinds.{Kinds, or_else}
use Rattle.clap.specs.Faults.{built_fault, check_fault, default_fault, defaults_fault, entered_fault, settle_fault, step_fault, turn_fault, use_fault, walk_fault, word_fault}
use Rattle.clap.specs.declared.error.kind.ErrorKind.TheVariants as kind
use Rattle.clap.specs.declared.parser.matches.ValueSource.TheVariants.{CommandLine}
use Rattle.clap.specs.declared.builder.value_parser.Reading.TheVariants.{AsWritten}
use Rattle.live_words.specs.Words.{AreOnce, Given, is_end, is_name, spelled, spelled_all, value_of}
use Rattle.live_words.specs.Command.{option_rule}
use Rattle.live_words.proofs.Texts.{IsWord, alone_goes_on, alone_word, is_plain_name, joined_goes_on, joined_word, neither, never, or_assoc, or_false, or_true, read_alone, read_joined}

same_text : (a b : Text) → bytes_eq a b ≡ true → a ≡ b
same_text a b e = (bytes_eq-Decides a b).0 e

itself : (a : Text) → bytes_eq a a ≡ true
itself a = (bytes_eq-Decides a a).1 refl

abbrev has_some : {A : Type 0} → List A → Bool
has_some [] = false
has_some (x ∷ xs) = true

some_empty : {A P : Type 0} {x : A} {xs : List A} → x ∷ xs ≡ [] → P
some_empty e = never (ap has_some e)

or_nothing : (ks : Kinds) → or_else ks [] ≡ ks
or_nothing [] = refl
or_nothing (k ∷ ks) = refl

-- nothing failed where neither step did
first_none : (a b : Kinds) → or_else a b ≡ [] → a ≡ []
first_none [] b e = refl
first_none (k ∷ ks) b e = some_empty e

then_none : (a b : Kinds) → or_else a b ≡ [] → b ≡ []
then_none [] b e = e
then_none (k ∷ ks) b e = some_empty e

both_none : (a b : Kinds) → a ≡ [] → b ≡ [] → or_else a b ≡ []
both_none a b ea eb = rw (ea, eb) refl

-- ---- rules

-- the rule of an option once the command is built
abbrev pub opt : Text → Rule
opt name = with_index 1 (filled (option_rule name))

-- the command as it is built
abbrev pub shape : List Text → Shape
shape names = record (new_shape (codes "live")) {
  rules = map opt names;
  no_binary_name = true;
  disable_help_flag = true;
  disable_help_subcommand = true;
  disable_version_flag = true;
  is_built = true;
}

by_long : (names : List Text) (name : Text) → is_name names name ≡ true → arg_by_long (map opt names) name ≡ Some (opt name)
by_long [] name known = never (sym known)
by_long (n ∷ ns) name known = go (bytes_eq n name) refl (by_long ns name) known
  where
    go : (b : Bool) → bytes_eq n name ≡ b → (is_name ns name ≡ true → arg_by_long (map opt ns) name ≡ Some (opt name)) → (b || is_name ns name) ≡ true
        → arg_by_long (map opt (n ∷ ns)) name ≡ Some (opt name)
    go true e more h = rw e (ap (λ m. Some (opt m)) (same_text n name e))
    go false e more h = rw e (more h)

by_id : (names : List Text) (name : Text) → is_name names name ≡ true → arg_by_id (map opt names) name ≡ Some (opt name)
by_id [] name known = never (sym known)
by_id (n ∷ ns) name known = go (bytes_eq n name) refl (by_id ns name) known
  where
    go : (b : Bool) → bytes_eq n name ≡ b → (is_name ns name ≡ true → arg_by_id (map opt ns) name ≡ Some (opt name)) → (b || is_name ns name) ≡ true
        → arg_by_id (map opt (n ∷ ns)) name ≡ Some (opt name)
    go true e more h = rw e (ap (λ m. Some (opt m)) (same_text n name e))
    go false e more h = rw e (more h)

by_none : (names : List Text) (name : Text) → is_name names name ≡ false → arg_by_long (map opt names) name ≡ None
by_none [] name unknown = refl
by_none (n ∷ ns) name unknown =
    let here = neither (bytes_eq n name) (is_name ns name) unknown in
    rw here.0 (by_none ns name here.1)

by_short : (names : List Text) (x : ℕ) → arg_by_short (map opt names) x ≡ None
by_short [] x = refl
by_short (n ∷ ns) x = by_short ns x

by_index : (names : List Text) (i : ℕ) → arg_by_index (map opt names) i ≡ None
by_index [] i = refl
by_index (n ∷ ns) i = by_index ns i

-- ---- rows

abbrev pub row : Text → Text → Row
row name value = record { id = name; values = value ∷ []; count = None; source = Some CommandLine; reading = AsWritten }

abbrev pub rows_of_given : List Given → List Row
rows_of_given = map (λ g. row g.name g.value)

at_none : (id : Text) (change : Row → List Row) (missing : List Row) (rows : List Row) → has_row id rows ≡ false → at_row id change missing rows ≡ rows ++ missing
at_none id change missing [] none = refl
at_none id change missing (r ∷ rs) none =
    let here = neither (bytes_eq r.id id) (has_row id rs) none in
    rw here.0 (ap (λ x. r ∷ x) (at_none id change missing rs here.1))

-- a first use of an option adds its row
used_once : (name value : Text) (rows : List Row) → has_row name rows ≡ false → used (opt name) (value ∷ []) rows ≡ rows ++ row name value ∷ []
used_once name value rows none =
    let gone : without name rows ≡ rows = at_none name (λ _. []) [] rows none ∙ append-nil rows in
    rw gone (at_none name (more_values CommandLine (value ∷ [])) (row name value ∷ []) rows none)

-- it is refused where it was used before
use_first : (name value : Text) (rows : List Row) → has_row name rows ≡ false → use_fault false (opt name) (value ∷ []) rows ≡ []
use_first name value rows none = rw none refl

was_first : (name value : Text) (rows : List Row) → use_fault false (opt name) (value ∷ []) rows ≡ [] → has_row name rows ≡ false
was_first name value rows none = go (has_row name rows) refl
  where
    go : (b : Bool) → has_row name rows ≡ b → has_row name rows ≡ false
    go true e =
        let there : use_fault false (opt name) (value ∷ []) rows ≡ kind.ArgumentConflict ∷ [] = rw e refl in
        some_empty (sym there ∙ none)
    go false e = e

-- ---- steps

abbrev pub hold : List Row → Option (Text × List Text) → Held
hold rows pending = record { rows = rows; pending = pending; skip = 0 }

-- between two options
abbrev pub rests : List Row → Option (Text × List Text) → Walk
rests rows pending = walk_from (hold rows pending)

-- behind an option's name
abbrev waits : List Row → Text → Walk
waits rows name = record (walk_from (hold rows (Some (name, [])))) { waiting = option name }

module _ (names : List Text) where
  abbrev rules : List Rule
  rules = map opt names

  abbrev behind : List Row → Option (Text × List Text) → List Row
  behind rows pending = settled_rows rules pending rows

  pub joined_step : (word name value : Text) (rows : List Row) (p : Option (Text × List Text)) → bytes_eq word (codes "--") ≡ false → long_of word ≡ Some (name, Some value)
      → is_name names name ≡ true
      → (walked rules [] (rests rows p) word ≡ rests (used (opt name) (value ∷ []) (behind rows p)) None)
      × (turn_fault (shape names) [] (rests rows p) word
      ≡ or_else (settle_fault rules false (hold rows p)) (use_fault false (opt name) (value ∷ []) (behind rows p)))
  unfolding walked
  joined_step word name value rows p on long known = (
    rw (on, long, by_long names name known) refl,
    rw (on, long, by_long names name known) (or_nothing _),
  )

  pub alone_step : (word name : Text) (rows : List Row) (p : Option (Text × List Text)) → bytes_eq word (codes "--") ≡ false → long_of word ≡ Some (name, None)
      → is_name names name ≡ true
      → (walked rules [] (rests rows p) word ≡ waits (behind rows p) name)
      × (turn_fault (shape names) [] (rests rows p) word ≡ settle_fault rules false (hold rows p))
  unfolding walked
  alone_step word name rows p on long known = (
    rw (on, long, by_long names name known) refl,
    rw (on, long, by_long names name known) (or_nothing _),
  )

  -- a word that is no option is a plain word, whatever its flags
  flags_are : (waiting : Waiting) (word : Text) (n : ℕ) (flags : Text) (h : Held)
      → after_flag rules waiting word (bundle_met rules n flags 0 plain h).0 (bundle_met rules n flags 0 plain h).1 ≡ plain_word rules waiting word h
  unfolding bundle_met
  flags_are waiting word zero flags h = refl
  flags_are waiting word (suc n) flags h = go (slice_get (chars flags) 0)
    where
      go : (x : Option ℕ) → after_flag rules waiting word (bundle_step rules x flags 0 plain h (bundle_met rules n)).0 (bundle_step rules x flags 0 plain h (bundle_met rules n)).1
          ≡ plain_word rules waiting word h
      go None = refl
      go (Some x) = rw (by_short names x) refl

  plain_words : (waiting : Waiting) (word : Text) (rows : List Row) (p : Option (Text × List Text)) (short : Option Text)
      → short_or_plain rules waiting word short (hold rows p) ≡ plain_word rules waiting word (hold rows p)
  plain_words waiting word rows p None = refl
  plain_words waiting word rows p (Some flags) = flags_are waiting word (length flags) flags (hold rows p)

  no_subcommand : (waiting : Waiting) (word : Text) → subcommand_met [] waiting word ≡ None
  no_subcommand idle word = refl
  no_subcommand (option name) word = refl
  no_subcommand positional word = refl

  abbrev at : Waiting → Held → Walk
  at waiting h = record (walk_from h) { waiting = waiting }

  met_plain : (waiting : Waiting) (word : Text) (rows : List Row) (p : Option (Text × List Text)) → bytes_eq word (codes "--") ≡ false → long_of word ≡ None
      → word_met rules [] false waiting 1 word (hold rows p) ≡ plain_word rules waiting word (hold rows p)
  met_plain waiting word rows p on long = rw (no_subcommand waiting word, on, long) (plain_words waiting word rows p (short_of word))

  -- a name that the command doesn't have
  pub unknown_step : (word name : Text) (value : Option Text) (waiting : Waiting) (h : Held) → bytes_eq word (codes "--") ≡ false → long_of word ≡ Some (name, value)
      → is_name names name ≡ false → turn_fault (shape names) [] (at waiting h) word ≡ [] → ⊥
  unknown_step word name value waiting h on long unknown none =
      let here : word_fault (shape names) [] false waiting word h ≡ kind.UnknownArgument ∷ [] = rw (no_subcommand waiting word, on, long, by_none names name unknown) refl in
      some_empty (sym here ∙ first_none _ _ none)

  -- a word that is no option, where no option waits for a value
  pub stray_step : (word : Text) (rows : List Row) (p : Option (Text × List Text)) → bytes_eq word (codes "--") ≡ false → long_of word ≡ None
      → turn_fault (shape names) [] (rests rows p) word ≡ [] → ⊥
  stray_step word rows p on long none =
      let met = met_plain idle word rows p on long in
      let there : step_fault (shape names) 1 (word_met rules [] false idle 1 word (hold rows p)).0 (word_met rules [] false idle 1 word (hold rows p)).1 ≡ kind.UnknownArgument ∷ [] =
      ap (λ m. step_fault (shape names) 1 m.0 m.1) met ∙ rw (by_index names 1) refl in
      some_empty (sym there ∙ then_none _ _ none)

  value_met : (word name : Text) (rows : List Row) → bytes_eq word (codes "--") ≡ false → long_of word ≡ None → is_name names name ≡ true
      → word_met rules [] false (option name) 1 word (hold rows (Some (name, []))) ≡ (hold rows (Some (name, word ∷ [])), next idle)
  value_met word name rows on long known =
      met_plain (option name) word rows (Some (name, [])) on long ∙ rw (by_id names name known, itself name) refl

  -- a value
  pub value_step : (word name : Text) (rows : List Row) → bytes_eq word (codes "--") ≡ false → long_of word ≡ None → is_name names name ≡ true
      → walked rules [] (waits rows name) word ≡ rests rows (Some (name, word ∷ []))
  unfolding walked
  value_step word name rows on long known = ap (λ m. after_step rules word (waits rows name) m.0 m.1) (value_met word name rows on long known)

  pub value_passes : (word name : Text) (rows : List Row) → bytes_eq word (codes "--") ≡ false → long_of word ≡ None → short_of word ≡ None → is_name names name ≡ true
      → turn_fault (shape names) [] (waits rows name) word ≡ []
  value_passes word name rows on long short known =
      let passes : word_fault (shape names) [] false (option name) word (hold rows (Some (name, []))) ≡ [] = rw (on, long, short) refl in
      let goes : step_fault (shape names) 1 (word_met rules [] false (option name) 1 word (hold rows (Some (name, [])))).0 (word_met rules [] false (option name) 1 word (hold rows (Some (name, [])))).1 ≡ [] =
      ap (λ m. step_fault (shape names) 1 m.0 m.1) (value_met word name rows on long known) in
      both_none _ _ passes goes

  -- a name without a value
  pub no_value : (name : Text) (rows : List Row) → is_name names name ≡ true → settle_fault rules false (hold rows (Some (name, []))) ≡ [] → ⊥
  no_value name rows known none =
      let there : settle_fault rules false (hold rows (Some (name, []))) ≡ kind.InvalidValue ∷ [] = rw (by_id names name known) refl in
      some_empty (sym there ∙ none)

  -- an option where a value is wanted
  pub option_for_value : (word name other : Text) (value : Option Text) (rows : List Row) → bytes_eq word (codes "--") ≡ false → long_of word ≡ Some (other, value)
      → is_name names name ≡ true → is_name names other ≡ true → turn_fault (shape names) [] (waits rows name) word ≡ [] → ⊥
  option_for_value word name other None rows on long known other_known none =
      let there : word_fault (shape names) [] false (option name) word (hold rows (Some (name, []))) ≡ settle_fault rules false (hold rows (Some (name, []))) =
      rw (on, long, by_long names other other_known) refl in
      no_value name rows known (sym there ∙ first_none _ _ none)
  option_for_value word name other (Some value) rows on long known other_known none =
      let there : word_fault (shape names) [] false (option name) word (hold rows (Some (name, [])))
      ≡ or_else (settle_fault rules false (hold rows (Some (name, [])))) (use_fault false (opt other) (value ∷ []) (behind rows (Some (name, [])))) =
      rw (on, long, by_long names other other_known) refl in
      no_value name rows known (first_none _ _ (sym there ∙ first_none _ _ none))

  -- ---- all words

  -- nothing fails from here on
  pub record Passes (w : Walk) (words : List Text) : Type 0 where
    pub walks : walk_fault (shape names) [] w words ≡ []
    pub settles : settle_fault rules false (fold (walked rules []) w words).held ≡ []

  -- the rows in the end
  abbrev pub ended : Walk → List Text → List Row
  ended w words = (settled rules (fold (walked rules []) w words).held).rows

  after_one : (w v : Walk) (word : Text) (rest : List Text) → walked rules [] w word ≡ v → Passes w (word ∷ rest) → (turn_fault (shape names) [] w word ≡ []) × Passes v rest
  unfolding walk_fault
  after_one w v word rest is passes = (
    first_none _ _ passes.walks,
    subst (λ (x : Walk). Passes x rest) is (record { walks = then_none _ _ passes.walks; settles = passes.settles }),
  )

  before_one : (w v : Walk) (word : Text) (rest : List Text) → walked rules [] w word ≡ v → turn_fault (shape names) [] w word ≡ [] → Passes v rest → Passes w (word ∷ rest)
  unfolding walk_fault
  before_one w v word rest is turns passes =
      let same = subst (λ (x : Walk). Passes x rest) (sym is) passes in
      record { walks = both_none _ _ turns same.walks; settles = same.settles }

  ended_one : (w v : Walk) (word : Text) (rest : List Text) → walked rules [] w word ≡ v → ended w (word ∷ rest) ≡ ended v rest
  ended_one w v word rest is = ap (λ (x : Walk). ended x rest) is

  -- no option is given that has a row
  abbrev pub AreNew : List Row → List Given → Type 0
  AreNew rows [] = Unit {0}
  AreNew rows (g ∷ gs) = (has_row g.name rows ≡ false) × AreNew rows gs

  has_row_more : (id : Text) (rows : List Row) (r : Row) → has_row id (rows ++ r ∷ []) ≡ (has_row id rows || bytes_eq r.id id)
  has_row_more id [] r = or_false (bytes_eq r.id id)
  has_row_more id (x ∷ xs) r = ap (λ b. bytes_eq x.id id || b) (has_row_more id xs r) ∙ sym (or_assoc (bytes_eq x.id id) _ _)

  new_before : (rows : List Row) (g : Given) (gs : List Given) → AreNew (rows ++ row g.name g.value ∷ []) gs → AreNew rows gs × (list_any (λ h. bytes_eq g.name h.name) gs ≡ false)
  new_before rows g [] new = (tt, refl)
  new_before rows g (h ∷ hs) new =
      let here = neither _ _ (sym (has_row_more h.name rows (row g.name g.value)) ∙ new.0) in
      let more = new_before rows g hs new.1 in
      ((here.0, more.0), rw here.1 more.1)

  new_behind : (rows : List Row) (g : Given) (gs : List Given) → AreNew rows gs → list_any (λ h. bytes_eq g.name h.name) gs ≡ false → AreNew (rows ++ row g.name g.value ∷ []) gs
  new_behind rows g [] new none = tt
  new_behind rows g (h ∷ hs) new none =
      let here = neither (bytes_eq g.name h.name) (list_any (λ x. bytes_eq g.name x.name) hs) none in
      let still : (has_row h.name rows || bytes_eq g.name h.name) ≡ false = rw (new.0, here.0) refl in
      (has_row_more h.name rows (row g.name g.value) ∙ still, new_behind rows g hs new.1 here.1)

  -- the words are those of options that are new, each given once
  pub record AreRead (words : List Text) (rows after : List Row) : Type 0 where
    pub given : List Given
    pub spelled : words ≡ spelled_all given
    pub known : list_all (λ g. is_name names g.name) given ≡ true
    pub once : AreOnce given
    pub new : AreNew rows given
    pub end : after ≡ rows ++ rows_of_given given

  one_more : (g : Given) (rest words : List Text) (rows after : List Row) → words ≡ spelled g ++ rest → is_name names g.name ≡ true → has_row g.name rows ≡ false
      → AreRead rest (rows ++ row g.name g.value ∷ []) after → AreRead words rows after
  one_more g rest words rows after is known new more =
      let apart = new_before rows g more.given more.new in
      record {
        given = g ∷ more.given;
        spelled = is ∙ ap (λ ws. spelled g ++ ws) more.spelled;
        known = rw known more.known;
        once = (apart.1, more.once);
        new = (new, apart.0);
        end = more.end ∙ append_assoc rows (row g.name g.value ∷ []) (rows_of_given more.given);
      }

  abbrev Reads : List Text → List Row → Option (Text × List Text) → Type 0
  Reads words rows p = (settle_fault rules false (hold rows p) ≡ []) × AreRead words (behind rows p) (ended (rests rows p) words)

  -- `--name=value`, and the rest
  joined_read : (word : Text) (rest : List Text) (name value : Text) (rows : List Row) (p : Option (Text × List Text)) → is_end word ≡ false → long_of word ≡ Some (name, Some value)
      → is_name names name ≡ true → Passes (rests rows p) (word ∷ rest)
      → ((rs : List Row) → Passes (rests rs None) rest → Reads rest rs None) → Reads (word ∷ rest) rows p
  joined_read word rest name value rows p on long known passes more =
      let step = joined_step word name value rows p on long known in
      let after = after_one (rests rows p) _ word rest step.0 passes in
      let turn : or_else (settle_fault rules false (hold rows p)) (use_fault false (opt name) (value ∷ []) (behind rows p)) ≡ [] = sym step.1 ∙ after.0 in
      let new = was_first name value (behind rows p) (then_none _ _ turn) in
      let grows = used_once name value (behind rows p) new in
      let now : List Row = behind rows p ++ row name value ∷ [] in
      let is : walked rules [] (rests rows p) word ≡ rests now None = step.0 ∙ ap (λ (rs : List Row). rests rs None) grows in
      let read = more now (after_one (rests rows p) (rests now None) word rest is passes).1 in
      let end = ended_one (rests rows p) (rests now None) word rest is in (
        first_none _ _ turn,
        one_more (record { name = name; value = value; is_joined = true }) rest (word ∷ rest) (behind rows p) _ (ap (λ (w : Text). w ∷ rest) (joined_word word name value long)) known new
            (subst (λ (a : List Row). AreRead rest now a) (sym end) read.1),
      )

  -- `--name`, its value, and the rest
  pair_read : (word : Text) (value : Text) (rest : List Text) (name : Text) (rows : List Row) (p : Option (Text × List Text)) → is_end word ≡ false → long_of word ≡ Some (name, None)
      → is_name names name ≡ true → is_end value ≡ false → long_of value ≡ None → Passes (rests rows p) (word ∷ value ∷ rest)
      → ((rs : List Row) (q : Option (Text × List Text)) → Passes (rests rs q) rest → Reads rest rs q) → Reads (word ∷ value ∷ rest) rows p
  pair_read word value rest name rows p on long known goes is_value passes more =
      let step = alone_step word name rows p on long known in
      let after = after_one (rests rows p) (waits (behind rows p) name) word (value ∷ rest) step.0 passes in
      let then_is = value_step value name (behind rows p) goes is_value known in
      let now : Option (Text × List Text) = Some (name, value ∷ []) in
      let later = after_one (waits (behind rows p) name) (rests (behind rows p) now) value rest then_is after.1 in
      let read = more (behind rows p) now later.1 in
      let uses : settle_fault rules false (hold (behind rows p) now) ≡ use_fault false (opt name) (value ∷ []) (behind rows p) = rw (by_id names name known) refl in
      let new = was_first name value (behind rows p) (sym uses ∙ read.0) in
      let settles : behind (behind rows p) now ≡ used (opt name) (value ∷ []) (behind rows p) = rw (by_id names name known) refl in
      let grows : behind (behind rows p) now ≡ behind rows p ++ row name value ∷ [] = settles ∙ used_once name value (behind rows p) new in
      let end = ended_one (rests rows p) (waits (behind rows p) name) word (value ∷ rest) step.0 ∙ ended_one (waits (behind rows p) name) (rests (behind rows p) now) value rest then_is in (
        sym step.1 ∙ after.0,
        one_more (record { name = name; value = value; is_joined = false }) rest (word ∷ value ∷ rest) (behind rows p) _ (ap (λ (w : Text). w ∷ value ∷ rest) (alone_word word name long)) known new
            (subst (λ (a : List Row). AreRead rest (behind rows p ++ row name value ∷ []) a) (sym end)
            (subst (λ (rs : List Row). AreRead rest rs (ended (rests (behind rows p) now) rest)) grows read.1)),
      )

  none_read : (rows : List Row) (p : Option (Text × List Text)) → Passes (rests rows p) [] → Reads [] rows p
  none_read rows p passes = (passes.settles, record { given = []; spelled = refl; known = refl; once = tt; new = tt; end = sym (append-nil (behind rows p)) })

  -- what comes of a first word
  abbrev First : Text → Option (Text × Option Text) → List Row → Option (Text × List Text) → Type 0
  First word None rows p = ⊥
  First word (Some (name, value)) rows p = is_name names name ≡ true

  first_word : (word : Text) (rest : List Text) (rows : List Row) (p : Option (Text × List Text)) → is_end word ≡ false → Passes (rests rows p) (word ∷ rest)
      → (o : Option (Text × Option Text)) → long_of word ≡ o → First word o rows p
  unfolding walk_fault
  first_word word rest rows p on passes None is = stray_step word rows p on is (first_none _ _ passes.walks)
  first_word word rest rows p on passes (Some (name, value)) is = go (is_name names name) refl
    where
      go : (b : Bool) → is_name names name ≡ b → is_name names name ≡ true
      go true e = e
      go false e = absurd (unknown_step word name value idle (hold rows p) on is e (first_none _ _ passes.walks))

  -- a word where a value is wanted is one
  is_a_value : (value : Text) (rest : List Text) (name : Text) (rows : List Row) → is_end value ≡ false → is_name names name ≡ true → Passes (waits rows name) (value ∷ rest)
      → (o : Option (Text × Option Text)) → long_of value ≡ o → long_of value ≡ None
  unfolding walk_fault
  is_a_value value rest name rows goes known passes None is = is
  is_a_value value rest name rows goes known passes (Some (other, v)) is = go (is_name names other) refl
    where
      go : (b : Bool) → is_name names other ≡ b → long_of value ≡ None
      go true e = absurd (option_for_value value name other v rows goes is known e (first_none _ _ passes.walks))
      go false e = absurd (unknown_step value other v (option name) (hold rows (Some (name, []))) goes is e (first_none _ _ passes.walks))

  -- Where nothing fails, the words are those of options.
  pub are_read : (words : List Text) (rows : List Row) (p : Option (Text × List Text)) → list_any is_end words ≡ false → Passes (rests rows p) words → Reads words rows p
  are_read [] rows p on passes = none_read rows p passes
  are_read (word ∷ []) rows p on passes = go (long_of word) refl (first_word word [] rows p (neither _ _ on).0 passes (long_of word) refl)
    where
      go : (o : Option (Text × Option Text)) → long_of word ≡ o → First word o rows p → Reads (word ∷ []) rows p
      go None is known = absurd known
      go (Some (name, Some value)) is known = joined_read word [] name value rows p (neither _ _ on).0 is known passes (λ rs passes'. none_read rs None passes')
      go (Some (name, None)) is known =
          let after = after_one (rests rows p) (waits (behind rows p) name) word [] (alone_step word name rows p (neither _ _ on).0 is known).0 passes in
          absurd (no_value name (behind rows p) known after.1.settles)
  are_read (word ∷ value ∷ rest) rows p on passes =
      go (long_of word) refl (first_word word (value ∷ rest) rows p (neither _ _ on).0 passes (long_of word) refl) (λ rs. are_read (value ∷ rest) rs None (neither _ _ on).1)
      (λ rs q. are_read rest rs q (neither _ _ (neither _ _ on).1).1)
    where
      go : (o : Option (Text × Option Text)) → long_of word ≡ o → First word o rows p → ((rs : List Row) → Passes (rests rs None) (value ∷ rest) → Reads (value ∷ rest) rs None)
          → ((rs : List Row) (q : Option (Text × List Text)) → Passes (rests rs q) rest → Reads rest rs q) → Reads (word ∷ value ∷ rest) rows p
      go None is known one two = absurd known
      go (Some (name, Some v)) is known one two = joined_read word (value ∷ rest) name v rows p (neither _ _ on).0 is known passes one
      go (Some (name, None)) is known one two =
          let more = neither _ _ (neither _ _ on).1 in
          let after = after_one (rests rows p) (waits (behind rows p) name) word (value ∷ rest) (alone_step word name rows p (neither _ _ on).0 is known).0 passes in
          pair_read word value rest name rows p (neither _ _ on).0 is known more.0 (is_a_value value rest name (behind rows p) more.0 known after.1 (long_of value) refl) passes two

  -- ---- and back

  pub record AreTaken (gs : List Given) (rows : List Row) (p : Option (Text × List Text)) : Type 0 where
    pub passes : Passes (rests rows p) (spelled_all gs)
    pub end : ended (rests rows p) (spelled_all gs) ≡ behind rows p ++ rows_of_given gs

  abbrev Taken : List Given → Type 0
  Taken gs = (rows : List Row) (p : Option (Text × List Text)) → settle_fault rules false (hold rows p) ≡ [] → AreNew (behind rows p) gs → AreTaken gs rows p

  joined_taken : (name value : Text) (gs : List Given) (rows : List Row) (p : Option (Text × List Text)) → is_plain_name name ≡ true → is_name names name ≡ true
      → settle_fault rules false (hold rows p) ≡ [] → has_row name (behind rows p) ≡ false → AreNew (behind rows p ++ row name value ∷ []) gs → Taken gs
      → AreTaken (record { name = name; value = value; is_joined = true } ∷ gs) rows p
  joined_taken name value gs rows p sound known settles new others more =
      let word : Text = codes "--" ++ (name ++ (codes "=" ++ value)) in
      let step = joined_step word name value rows p (joined_goes_on name value) (read_joined name value sound) known in
      let now : List Row = behind rows p ++ row name value ∷ [] in
      let is : walked rules [] (rests rows p) word ≡ rests now None = step.0 ∙ ap (λ (rs : List Row). rests rs None) (used_once name value (behind rows p) new) in
      let turns : turn_fault (shape names) [] (rests rows p) word ≡ [] = step.1 ∙ both_none _ _ settles (use_first name value (behind rows p) new) in
      let later = more now None refl others in
      record {
        passes = before_one (rests rows p) (rests now None) word (spelled_all gs) is turns later.passes;
        end = ended_one (rests rows p) (rests now None) word (spelled_all gs) is ∙ later.end ∙ append_assoc (behind rows p) (row name value ∷ []) (rows_of_given gs);
      }

  pair_taken : (name value : Text) (gs : List Given) (rows : List Row) (p : Option (Text × List Text)) → is_plain_name name ≡ true → is_name names name ≡ true → IsWord value
      → settle_fault rules false (hold rows p) ≡ [] → has_row name (behind rows p) ≡ false → AreNew (behind rows p ++ row name value ∷ []) gs → Taken gs
      → AreTaken (record { name = name; value = value; is_joined = false } ∷ gs) rows p
  pair_taken name value gs rows p sound known is_word settles new others more =
      let word : Text = codes "--" ++ name in
      let at_name : Walk = waits (behind rows p) name in
      let now : Option (Text × List Text) = Some (name, value ∷ []) in
      let at_value : Walk = rests (behind rows p) now in
      let step = alone_step word name rows p (alone_goes_on name sound) (read_alone name sound) known in
      let then_is = value_step value name (behind rows p) is_word.goes is_word.long known in
      let uses : settle_fault rules false (hold (behind rows p) now) ≡ use_fault false (opt name) (value ∷ []) (behind rows p) = rw (by_id names name known) refl in
      let settles_to : behind (behind rows p) now ≡ used (opt name) (value ∷ []) (behind rows p) = rw (by_id names name known) refl in
      let grows : behind (behind rows p) now ≡ behind rows p ++ row name value ∷ [] = settles_to ∙ used_once name value (behind rows p) new in
      let later = more (behind rows p) now (uses ∙ use_first name value (behind rows p) new) (subst (λ (rs : List Row). AreNew rs gs) (sym grows) others) in
      let passes = before_one at_name at_value value (spelled_all gs) then_is (value_passes value name (behind rows p) is_word.goes is_word.long is_word.short known) later.passes in
      record {
        passes = before_one (rests rows p) at_name word (value ∷ spelled_all gs) step.0 (step.1 ∙ settles) passes;
        end = ended_one (rests rows p) at_name word (value ∷ spelled_all gs) step.0 ∙ ended_one at_name at_value value (spelled_all gs) then_is ∙ later.end
            ∙ ap (λ (rs : List Row). rs ++ rows_of_given gs) grows ∙ append_assoc (behind rows p) (row name value ∷ []) (rows_of_given gs);
      }

  one_taken : (name value : Text) (joins : Bool) (gs : List Given) (rows : List Row) (p : Option (Text × List Text)) → is_plain_name name ≡ true → is_name names name ≡ true → IsWord value
      → settle_fault rules false (hold rows p) ≡ [] → has_row name (behind rows p) ≡ false → AreNew (behind rows p ++ row name value ∷ []) gs → Taken gs
      → AreTaken (record { name = name; value = value; is_joined = joins } ∷ gs) rows p
  one_taken name value true gs rows p sound known is_word settles new others more = joined_taken name value gs rows p sound known settles new others more
  one_taken name value false gs rows p sound known is_word settles new others more = pair_taken name value gs rows p sound known is_word settles new others more

  -- each option has a name of the command, and a value that can stand by itself
  abbrev pub AreSpoken : List Given → Type 0
  AreSpoken [] = Unit {0}
  AreSpoken (g ∷ gs) = (is_plain_name g.name ≡ true) × (is_name names g.name ≡ true) × IsWord g.value × AreSpoken gs

  -- The words of options, each given once, are taken.
  pub are_taken : (gs : List Given) (rows : List Row) (p : Option (Text × List Text)) → AreSpoken gs → AreOnce gs → settle_fault rules false (hold rows p) ≡ [] → AreNew (behind rows p) gs
      → AreTaken gs rows p
  unfolding walk_fault
  are_taken [] rows p spoken once settles new = record { passes = record { walks = refl; settles = settles }; end = sym (append-nil (behind rows p)) }
  are_taken (g ∷ gs) rows p spoken once settles new =
      one_taken g.name g.value g.is_joined gs rows p spoken.0 spoken.1 spoken.2 settles new.0 (new_behind (behind rows p) g gs new.1 once.0)
      (λ rs q settled_there new_there. are_taken gs rs q spoken.3 once.1 settled_there new_there)

  -- ---- the whole parse

  no_default : (n : Text) (rows : List Row) → with_default rows (opt n) ≡ rows
  no_default n rows = go (has_row n rows)
    where
      go : (b : Bool) → cond b rows rows ≡ rows
      go true = refl
      go false = refl

  no_default_fault : (n : Text) (rows : List Row) → default_fault rows (opt n) ≡ []
  no_default_fault n rows = rw (or_true (has_row n rows)) refl

no_defaults_fault : (names : List Text) (rows : List Row) → defaults_fault rows (map opt names) ≡ []
unfolding defaults_fault
no_defaults_fault [] rows = refl
no_defaults_fault (n ∷ ns) rows = both_none _ _ (no_default_fault [] n rows) (no_defaults_fault ns (with_default rows (opt n)))

no_defaults : (names : List Text) (rows : List Row) → fold with_default rows (map opt names) ≡ rows
no_defaults [] rows = refl
no_defaults (n ∷ ns) rows = ap (λ (rs : List Row). fold with_default rs (map opt ns)) (no_default [] n rows) ∙ no_defaults ns rows

none_required : (names : List Text) (rows : List Row) → list_any (λ a. a.required && not (is_given a.id rows)) (map opt names) ≡ false
none_required [] rows = refl
none_required (n ∷ ns) rows = none_required ns rows

abbrev pub app : List Text → App
app names = record { top = shape names; subs = [] }

nowhere : (names : List Text) (stop : Option (Text × List Text)) → entered (app names) stop ≡ None
nowhere names None = refl
nowhere names (Some p) = refl

nowhere_fault : (names : List Text) (stop : Option (Text × List Text)) → entered_fault (app names) stop ≡ []
nowhere_fault names None = refl
nowhere_fault names (Some p) = refl

module _ (names : List Text) (words : List Text) where
  abbrev stop : Option (Text × List Text)
  stop = (walk (rules names) [] nothing_held words).stopped

  abbrev start : Walk
  start = rests [] None

  abbrev last : List Row
  last = (settled (rules names) (walk (rules names) [] nothing_held words).held).rows

  abbrev checked : Kinds
  checked = check_fault (shape names) (finished (rules names) (walk (rules names) [] nothing_held words).held) false

  checks : checked ≡ []
  checks = rw (none_required names (finished (rules names) (walk (rules names) [] nothing_held words).held)) refl

  -- the kinds of a parse are those of its walk
  fault_is : built_fault (app names) nothing_held words
      ≡ or_else (walk_fault (shape names) [] start words) (settle_fault (rules names) false (walk (rules names) [] nothing_held words).held)
  fault_is =
      rw (nowhere names stop, nowhere_fault names stop, no_defaults_fault names last, checks)
      (ap (λ (ks : Kinds). or_else (walk_fault (shape names) [] start words) ks) (or_nothing (settle_fault (rules names) false (walk (rules names) [] nothing_held words).held)))

  pub passes_as : built_fault (app names) nothing_held words ≡ [] → Passes names start words
  passes_as none = record { walks = first_none _ _ (sym fault_is ∙ none); settles = then_none _ _ (sym fault_is ∙ none) }

  pub fails_not : Passes names start words → built_fault (app names) nothing_held words ≡ []
  fails_not passes = fault_is ∙ both_none _ _ passes.walks passes.settles

  pub rows_are : rows_after (rules names) [] words ≡ ended names start words
  rows_are = no_defaults names last

-- what is read of the rows of options is their values
pub values_are : (given : List Given) (id : Text) → first_of id (rows_of_given given) ≡ value_of given id
values_are [] id = refl
values_are (g ∷ gs) id = go (bytes_eq g.name id) (values_are gs id)
  where
    go : (b : Bool) → first_of id (rows_of_given gs) ≡ value_of gs id
        → option_and_then (λ (r : Row). slice_get r.values 0) (cond b (Some (row g.name g.value)) (find (λ (r : Row). bytes_eq r.id id) (rows_of_given gs)))
        ≡ option_map (λ (h : Given). h.value) (cond b (Some g) (find (λ (h : Given). bytes_eq h.name id) gs))
    go true more = refl
    go false more = more
