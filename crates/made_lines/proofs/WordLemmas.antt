-- Lines of plain words: they are cut where they were joined.
use Rattle.std.proofs.Common.{◌≡◌, ℕ, ◌+◌, ◌<◌, ◌&&◌, Bool, true, false, List, [], ◌∷◌, ◌++◌, length, filter, nat_lt, eqb, All, refl, ap, ◌∙◌, arith, append-nil, length-append, ltb-true, get_or, cond}
use Rattle.std.specs.List.{flat_map, list_all, slice_split}
use Rattle.std.proofs.lemmas.Bool.{and_parts}
use Rattle.std.proofs.lemmas.Bool.Decides.{nat_tests}
use Rattle.std.proofs.lemmas.List.Folds.{list_all-append}
use Rattle.std.proofs.lemmas.List.Splits.{slice_split_at, slice_split_none}
use Rattle.std.proofs.lemmas.List.Sums.{AllPass-from_list_all}
use Rattle.report_words.specs.Words.{line, phrase_text}
use Rattle.fault_script.specs.Words.{is_blank, is_filled, words}
use Rattle.script_pieces.specs.Runs.{lines_of, text_of}

-- ---- plain words

-- a byte that neither divides words nor ends a line
abbrev pub is_plain_byte : ℕ → Bool
is_plain_byte byte = nat_lt 32 byte

-- a word of such bytes, with at least one of them
abbrev pub is_plain : List ℕ → Bool
is_plain word = is_filled word && list_all is_plain_byte word

-- a byte that ends no line
abbrev pub is_inside : ℕ → Bool
is_inside byte = nat_lt 10 byte

plain_is_no_blank : (byte : ℕ) → is_plain_byte byte ≡ true → is_blank byte ≡ false
plain_is_no_blank byte plain = let large : 32 < byte = ltb-true _ _ plain in grind (arith, nat_tests)

plain_is_inside : (byte : ℕ) → is_plain_byte byte ≡ true → is_inside byte ≡ true
plain_is_inside byte plain = let large : 32 < byte = ltb-true _ _ plain in grind (arith, nat_tests)

no_end : (byte : ℕ) → is_inside byte ≡ true → eqb byte 10 ≡ false
no_end byte inside = let large : 10 < byte = ltb-true _ _ inside in grind (arith, nat_tests)

no_blanks : (word : List ℕ) → list_all is_plain_byte word ≡ true → All (λ byte. is_blank byte ≡ false) word
no_blanks word plain k d l = plain_is_no_blank (get_or word k d) (AllPass-from_list_all is_plain_byte word plain k d l)

-- ---- words that are joined and cut again

split_words : (first : List ℕ) (rest : List (List ℕ)) → list_all is_plain (first ∷ rest) ≡ true
    → slice_split is_blank (phrase_text (first ∷ rest)) ≡ first ∷ rest
split_words first [] plain =
    let one = and_parts (is_plain first) true plain in
    let bytes = and_parts (is_filled first) (list_all is_plain_byte first) one.0 in
    ap (slice_split is_blank) (append-nil first) ∙ slice_split_none is_blank first (no_blanks first bytes.1)
split_words first (next ∷ rest) plain =
    let all = and_parts (is_plain first) (list_all is_plain (next ∷ rest)) plain in
    let bytes = and_parts (is_filled first) (list_all is_plain_byte first) all.0 in
    slice_split_at is_blank first 32 (phrase_text (next ∷ rest)) (no_blanks first bytes.1) refl
    ∙ ap (λ (parts : List (List ℕ)). first ∷ parts) (split_words next rest all.1)

all_filled : (words : List (List ℕ)) → list_all is_plain words ≡ true → filter is_filled words ≡ words
all_filled [] plain = refl
all_filled (first ∷ rest) plain =
    let all = and_parts (is_plain first) (list_all is_plain rest) plain in
    let bytes = and_parts (is_filled first) (list_all is_plain_byte first) all.0 in
    ap (λ (b : Bool). cond b (first ∷ filter is_filled rest) (filter is_filled rest)) bytes.0
    ∙ ap (λ (more : List (List ℕ)). first ∷ more) (all_filled rest all.1)

pub words_back : (first : List ℕ) (rest : List (List ℕ)) → list_all is_plain (first ∷ rest) ≡ true → words (phrase_text (first ∷ rest)) ≡ first ∷ rest
words_back first rest plain = ap (filter is_filled) (split_words first rest plain) ∙ all_filled (first ∷ rest) plain

-- ---- lines that are written and taken apart again

inside_bytes : (bytes : List ℕ) → list_all is_plain_byte bytes ≡ true → list_all is_inside bytes ≡ true
inside_bytes [] plain = refl
inside_bytes (byte ∷ bytes) plain =
    let all = and_parts (is_plain_byte byte) (list_all is_plain_byte bytes) plain in
    rw (plain_is_inside byte all.0, inside_bytes bytes all.1) refl

inside_behind : (rest : List (List ℕ)) → list_all is_plain rest ≡ true → list_all is_inside (flat_map (λ next. 32 ∷ next) rest) ≡ true
inside_behind [] plain = refl
inside_behind (next ∷ rest) plain =
    let all = and_parts (is_plain next) (list_all is_plain rest) plain in
    let bytes = and_parts (is_filled next) (list_all is_plain_byte next) all.0 in
    list_all-append is_inside next (flat_map (λ next. 32 ∷ next) rest) ∙ rw (inside_bytes next bytes.1, inside_behind rest all.1) refl

pub inside_phrase : (words : List (List ℕ)) → list_all is_plain words ≡ true → list_all is_inside (phrase_text words) ≡ true
inside_phrase [] plain = refl
inside_phrase (first ∷ rest) plain =
    let all = and_parts (is_plain first) (list_all is_plain rest) plain in
    let bytes = and_parts (is_filled first) (list_all is_plain_byte first) all.0 in
    list_all-append is_inside first (flat_map (λ next. 32 ∷ next) rest) ∙ rw (inside_bytes first bytes.1, inside_behind rest all.1) refl

-- bytes that end no line, and an LF, are the first line
pub first_line : (text more : List ℕ) → list_all is_inside text ≡ true → lines_of (text ++ 10 ∷ more) ≡ (text ++ 10 ∷ []) ∷ lines_of more
first_line [] more inside = refl
first_line (byte ∷ text) more inside =
    let all = and_parts (is_inside byte) (list_all is_inside text) inside in
    rw (no_end byte all.0, first_line text more all.1) refl

-- without the LF they are themselves
pub without_end : (text : List ℕ) → list_all is_inside text ≡ true → text_of (text ++ 10 ∷ []) ≡ text
without_end [] inside = refl
without_end (byte ∷ text) inside =
    let all = and_parts (is_inside byte) (list_all is_inside text) inside in
    rw (no_end byte all.0, without_end text all.1) refl

-- ---- how long a line is

-- the bytes of some words, with one behind each
abbrev pub room_of : List (List ℕ) → ℕ
room_of [] = 0
room_of (word ∷ words) = length word + 1 + room_of words

room_behind : (rest : List (List ℕ)) → length (flat_map (λ next. 32 ∷ next) rest) ≡ room_of rest
room_behind [] = refl
room_behind (next ∷ rest) = let here = length-append next (flat_map (λ next. 32 ∷ next) rest) in let behind = room_behind rest in omega (arith, here, behind)

pub phrase_room : (first : List ℕ) (rest : List (List ℕ)) → length (phrase_text (first ∷ rest)) + 1 ≡ room_of (first ∷ rest)
phrase_room first rest =
    let both = length-append first (flat_map (λ next. 32 ∷ next) rest) in
    let behind = room_behind rest in
    omega (arith, both, behind)

pub line_room : (first : List ℕ) (rest : List (List ℕ)) → length (line (first ∷ rest)) ≡ room_of (first ∷ rest)
line_room first rest = let end = length-append (phrase_text (first ∷ rest)) (10 ∷ []) in let room = phrase_room first rest in omega (arith, end, room)
