-- The parts of a script that is made, and the whole, read as its lines.
use Rattle.std.proofs.Common.{◌≡◌, ℕ, zero, suc, ◌+◌, ◌*◌, ◌≤◌, ◌<◌, ◌%◌, ◌==◌, Bool, true, false, List, [], ◌∷◌, ◌++◌, length, map, sum_by, if◌then◌else◌, refl, sym, ap, ◌∙◌, arith, subst, append_assoc, length-append}
use Rattle.std.specs.List.{AllZip}
use Rattle.std.proofs.lemmas.List.Sums.{sum_by-cons}
use Rattle.report_words.specs.Words.{line, phrase_text}
use Rattle.fault_script.specs.declared.lines.Line.{Line}
use Rattle.made_scripts.specs.Lines.{text_of}
use Rattle.made_scripts.specs.Scripts.{again, call_lines, delivery, drawn, ending, opening, round_lines, rounds_lines, script_lines, sent_by_call, sent_in, transfer_lines}
use Rattle.script_pieces.specs.Runs.{lines_of}
use Rattle.made_lines.specs.Laws.{few_sent}
use Rattle.made_lines.specs.Made.{arrival_again, call_made, ending_made, made_lines, opening_made, round_made, rounds_made, transfers_made}
use Rattle.made_lines.specs.Reading.{MadeTextsRead, ReadAs}
use Rattle.made_lines.proofs.WordLemmas.{first_line, inside_phrase, line_room}
use Rattle.made_lines.proofs.LineLemmas.{Reads, delivery_reads, deposit_reads, fixed_reads, text_is_read, transfer_reads}

-- ---- lines of words, each of which reads as a line

abbrev AllRead : List (List (List ℕ)) → List Line → Type 0
AllRead spelled lines = AllZip Reads spelled lines

-- what holds of the first line, and of the others
infixr 5 ◌⨾◌
◌⨾◌ : {First Rest : Type 0} → First → Rest → First × Rest
first ⨾ rest = (first, rest)

all_joined : (front back : List (List (List ℕ))) (first last : List Line) → AllRead front first → AllRead back last → AllRead (front ++ back) (first ++ last)
all_joined [] back [] last a b = b
all_joined [] back (line ∷ first) last a b = absurd a
all_joined (words ∷ front) back [] last a b = absurd a
all_joined (words ∷ front) back (line ∷ first) last a b = (a.0, all_joined front back first last a.1 b)

where_so : (b : Bool) (spelled : List (List (List ℕ))) (lines : List Line) → AllRead spelled lines → AllRead (if b then spelled else []) (if b then lines else [])
where_so true spelled lines all = all
where_so false spelled lines all = tt

-- their text is cut into them
lines_back : (spelled : List (List (List ℕ))) (lines : List Line) → AllRead spelled lines → lines_of (text_of spelled) ≡ map line spelled
lines_back [] lines all = refl
lines_back (words ∷ spelled) [] all = absurd all
lines_back (words ∷ spelled) (read ∷ lines) all =
    ap lines_of (append_assoc (phrase_text words) (10 ∷ []) (text_of spelled))
    ∙ first_line (phrase_text words) (text_of spelled) (inside_phrase words all.0.plain)
    ∙ ap (λ (more : List (List ℕ)). line words ∷ more) (lines_back spelled lines all.1)

each_read : (spelled : List (List (List ℕ))) (lines : List Line) → AllRead spelled lines → ReadAs (map line spelled) lines
each_read [] [] all = tt
each_read [] (read ∷ lines) all = absurd all
each_read (words ∷ spelled) [] all = absurd all
each_read (words ∷ spelled) (read ∷ lines) all = (text_is_read words read all.0, each_read spelled lines all.1)

line_short : (words : List (List ℕ)) (read : Line) → Reads words read → length (line words) ≤ 64
line_short [] read r = omega arith
line_short (first ∷ rest) read r = let room = line_room first rest in let short = r.short in omega (arith, room, short)

few_bytes : (spelled : List (List (List ℕ))) (lines : List Line) → AllRead spelled lines → sum_by length (map line spelled) ≤ 64 * length spelled
few_bytes [] lines all = omega arith
few_bytes (words ∷ spelled) [] all = absurd all
few_bytes (words ∷ spelled) (read ∷ lines) all =
    let first = line_short words read all.0 in
    let rest = few_bytes spelled lines all.1 in
    let whole = sum_by-cons length (line words) (map line spelled) in
    omega (arith, first, rest, whole)

-- ---- lines are few

one_at_most : (b : Bool) (line : List (List ℕ)) → length (if b then line ∷ [] else []) ≤ 1
one_at_most true line = omega arith
one_at_most false line = omega arith

four_at_most : (b : Bool) (one two three four : List (List ℕ)) → length (if b then one ∷ two ∷ three ∷ four ∷ [] else []) ≤ 4
four_at_most true one two three four = omega arith
four_at_most false one two three four = omega arith

call_is_short : (round x sent : ℕ) → length (call_lines round x sent) ≤ 4
unfolding call_lines
call_is_short round x sent =
    let last = length-append (again x (sent + 1)) (delivery (sent + 2) ∷ []) in
    let few = one_at_most (x % 5 == 0) (delivery (sent + 1)) in
    omega (arith, last, few)

transfers_are_short : (rounds sent : ℕ) → length (transfer_lines rounds sent) ≤ 4
unfolding transfer_lines
transfers_are_short rounds sent = four_at_most (rounds % 100 == 0) _ _ _ _

round_is_short : (round x sent : ℕ) → length (round_lines round x sent) ≤ 8
round_is_short round x sent =
    let transfers = transfer_lines (round + 1) (sent + sent_by_call x) in
    let both = length-append (call_lines round x sent) transfers in
    let call = call_is_short round x sent in
    let few = transfers_are_short (round + 1) (sent + sent_by_call x) in
    omega (arith, both, call, few)

rounds_are_short : (seed rounds : ℕ) → length (rounds_lines seed rounds) ≤ 8 * rounds
unfolding rounds_lines
rounds_are_short seed zero = omega arith
rounds_are_short seed (suc rounds) =
    let round = round_lines rounds (drawn seed (suc rounds)) (sent_in seed rounds) in
    let whole = length-append (rounds_lines seed rounds) round in
    let before = rounds_are_short seed rounds in
    let last = round_is_short rounds (drawn seed (suc rounds)) (sent_in seed rounds) in
    omega (arith, whole, before, last)

-- ---- the parts of a script

opening_reads : AllRead opening opening_made
unfolding opening opening_made
opening_reads = fixed_reads refl refl refl ⨾ fixed_reads refl refl refl
    ⨾ fixed_reads refl refl refl ⨾ fixed_reads refl refl refl ⨾ fixed_reads refl refl refl ⨾ fixed_reads refl refl refl ⨾ tt

ending_reads : (sent : ℕ) → sent < 900000 → AllRead (ending sent) (ending_made sent)
unfolding ending ending_made
ending_reads sent small =
    fixed_reads refl refl refl
    ⨾ fixed_reads refl refl refl ⨾ delivery_reads (sent + 2) (omega arith) (omega arith) ⨾ delivery_reads (sent + 3) (omega arith) (omega arith)
    ⨾ fixed_reads refl refl refl
    ⨾ fixed_reads refl refl refl ⨾ delivery_reads (sent + 4) (omega arith) (omega arith) ⨾ delivery_reads (sent + 5) (omega arith) (omega arith)
    ⨾ fixed_reads refl refl refl ⨾ tt

call_reads : (round x sent : ℕ) → sent < 900000 → AllRead (call_lines round x sent) (call_made round x sent)
unfolding call_lines call_made
call_reads round x sent small =
    let request = delivery_reads (sent + 1) (omega arith) (omega arith) in
    let reply = delivery_reads (sent + 2) (omega arith) (omega arith) in
    deposit_reads round x ⨾ request
    ⨾ all_joined (again x (sent + 1)) _ (arrival_again x (sent + 1)) _ (where_so (x % 5 == 0) _ _ (request ⨾ tt)) (reply ⨾ tt)

transfers_read : (rounds sent : ℕ) → sent ≤ 900003 → AllRead (transfer_lines rounds sent) (transfers_made rounds sent)
unfolding transfer_lines transfers_made
transfers_read rounds sent small = where_so (rounds % 100 == 0) _ _
    (transfer_reads (rounds % 1000 == 0)
    ⨾ delivery_reads (sent + 1) (omega arith) (omega arith) ⨾ delivery_reads (sent + 2) (omega arith) (omega arith)
    ⨾ fixed_reads refl refl refl ⨾ tt)

call_sends_few : (again : Bool) → (if again then 3 else 2) ≤ 3
call_sends_few true = omega arith
call_sends_few false = omega arith

round_reads : (round x sent : ℕ) → sent < 900000 → AllRead (round_lines round x sent) (round_made round x sent)
round_reads round x sent small =
    let few = call_sends_few (x % 5 == 0) in
    all_joined (call_lines round x sent) _ (call_made round x sent) _ (call_reads round x sent small)
    (transfers_read (round + 1) (sent + sent_by_call x) (omega (arith, few)))

rounds_read : (seed rounds : ℕ) → rounds ≤ 50000 → AllRead (rounds_lines seed rounds) (rounds_made seed rounds)
unfolding rounds_lines rounds_made
rounds_read seed zero small = tt
rounds_read seed (suc rounds) small =
    let few = few_sent seed rounds in
    all_joined (rounds_lines seed rounds) _ (rounds_made seed rounds) _ (rounds_read seed rounds (omega arith))
    (round_reads rounds (drawn seed (suc rounds)) (sent_in seed rounds) (omega (arith, few)))

-- ---- the whole script

script_reads : (number : ℕ) → number ≤ 50000 → AllRead (script_lines number) (made_lines number)
script_reads number small =
    let few = few_sent number number in
    all_joined opening _ opening_made _ opening_reads
    (all_joined (rounds_lines number number) _ (rounds_made number number) _ (rounds_read number number small)
    (ending_reads (sent_in number number) (omega (arith, few))))

script_is_short : (number : ℕ) → length (script_lines number) ≤ 8 * number + 15
unfolding opening ending
script_is_short number =
    let both = length-append (rounds_lines number number) (ending (sent_in number number)) in
    let rounds = rounds_are_short number number in
    omega (arith, both, rounds)

pub made_texts_read : MadeTextsRead
made_texts_read number small =
    let all = script_reads number small in
    let texts = lines_back (script_lines number) (made_lines number) all in
    let bytes = few_bytes (script_lines number) (made_lines number) all in
    let few = script_is_short number in
    record {
      lines = subst (λ (texts : List (List ℕ)). ReadAs texts (made_lines number)) (sym texts) (each_read (script_lines number) (made_lines number) all);
      fits = rw texts (omega (arith, bytes, few));
    }
