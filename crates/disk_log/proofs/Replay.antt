-- A disk in memory goes on by a call.
use Rattle.std.proofs.Common.{◌≡◌, ℕ, ◌+◌, ◌≤◌, Bool, true, false, if◌then◌else◌, List, ◌∷◌, ◌++◌, length, take, drop, refl, sym, ◌∙◌, ap, subst, arith, append_assoc, length-append, length-take, length-drop, take-append-drop}
use Rattle.std.proofs.lemmas.List.{drop-drop}
use Rattle.ft_outside.specs.declared.keepers.Kept.{Kept}
use Rattle.ft_outside.specs.declared.keepers.Kept.TheVariants.{Done, Failed}
use Rattle.disk_log.specs.Disk.{Torn, Follows, NoOthers}
use Rattle.disk_log.specs.Calls.{Change, Wrote, Memory, content, IsImage, has_room, wrote, synced, content_now}

-- ---- a write that did nothing

torn_same : (at n : ℕ) (c : List ℕ) → Torn at n c c
torn_same at n c = record {
  between = take n (drop at c);
  is = sym (take-append-drop at c) ∙ ap (λ (l : List ℕ). take at c ++ l) (sym (take-append-drop n (drop at c)) ∙ ap (λ (l : List ℕ). take n (drop at c) ++ l) (drop-drop n at c)) ∙ sym (append_assoc (take at c) (take n (drop at c)) (drop (at + n) c));
  no_shorter = omega arith;
  no_longer = omega (arith, length-take n (drop at c));
}

-- ---- what a disk's clauses say of a write

length_grows : (at : ℕ) (piece old : List ℕ) → length old ≤ length (take at old ++ piece ++ drop (at + length piece) old)
length_grows at piece old =
    omega (arith, length-append (take at old ++ piece) (drop (at + length piece) old), length-append (take at old) piece, length-take at old, length-drop (at + length piece) old)

follows_choice : (first : List ℕ) (changes : List Change) (at : ℕ) (piece : List ℕ) (room : Bool)
    → Follows (Torn at (length piece)) (IsImage first changes) (IsImage first (if room then Wrote at piece ∷ changes else changes))
follows_choice first changes at piece true = λ c now. now
follows_choice first changes at piece false = λ c now. (c, now, torn_same at (length piece) c)

pub images_follow : (m : Memory) (at : ℕ) (piece : List ℕ) → Follows (Torn at (length piece)) (IsImage m.first m.changes) (IsImage m.first (wrote m at piece))
images_follow m at piece = follows_choice m.first m.changes at piece (has_room m (length piece))

torn_choice : (first : List ℕ) (changes : List Change) (at : ℕ) (piece : List ℕ) (room : Bool)
    → Torn at (length piece) (content first changes) (content first (if room then Wrote at piece ∷ changes else changes))
torn_choice first changes at piece true = record { between = piece; is = refl; no_shorter = length_grows at piece (content first changes); no_longer = omega arith }
torn_choice first changes at piece false = torn_same at (length piece) (content first changes)

pub content_follows : (m : Memory) (at : ℕ) (piece : List ℕ) → Follows (Torn at (length piece)) (λ r. r ≡ content m.first m.changes) (λ r. r ≡ content m.first (wrote m at piece))
content_follows m at piece = λ c now. (content m.first m.changes, refl, subst (λ (l : List ℕ). Torn at (length piece) (content m.first m.changes) l) (sym now) (torn_choice m.first m.changes at piece (has_room m (length piece))))

-- ---- and of a sync

pub synced_before : (m : Memory) (k : Kept) → NoOthers (IsImage m.first m.changes) (IsImage m.first (synced k m.changes))
synced_before m Done = λ c now. subst (λ (l : List ℕ). IsImage m.first m.changes l) (sym now) (content_now m.first m.changes)
synced_before m Failed = λ c now. now
