-- The entries that stand in the map, filed by their ids, and the same entries as a list.
use Rattle.std.proofs.Common.{◌≡◌, ℕ, Bool, true, false, cond, true≢false, not, List, [], ◌∷◌, ◌++◌, Option, Some, None, Vec, refl, sym, ap, ◌∙◌, take, drop}
use Rattle.std.specs.Prelude.{◌&&◌, nat_eq, nat_lt}
use Rattle.std.specs.Int.{w32, to_be_bytes, from_be_bytes, cast_unsigned, cast_signed}
use Rattle.std.specs.Cmp.Lexicographic.{pointwise, bytes_decides, same_text}
use Rattle.std.specs.List.{AllByRecursion, IsDistinct, filter}
use Rattle.std.specs.Map.{keys_of, values_of, lookup, remove_entry}
use Rattle.std.specs.Ordering.{int_eq}
use Rattle.std.specs.Str.{bytes_eq}
use Rattle.std.proofs.lemmas.Bool.Decides.{Decides-int_eq}
use Rattle.std.proofs.lemmas.Map.{NonePasses}
use Rattle.std.proofs.lemmas.Map.Entries.{option_filter}
use Rattle.std.proofs.lemmas.Map.Keys.{IsDistinct-head, IsDistinct-tail}
use Rattle.std.proofs.lemmas.Nat.{from_be_bytes-to_be_bytes_4}
use Rattle.std.proofs.lemmas.Slice.Eq.{bytes_eq-Decides}
use Rattle.ft_base.specs.Journal.{is_held_by, is_call, is_unexpired}
use Rattle.ft_base.specs.declared.requests.Key.{Key}
use Rattle.reply_table.specs.Entries.{holder}
use Rattle.reply_table.specs.Ids.{id_of, IsFiledBy, IsFiledAs, AreFiled}
use Rattle.reply_table.specs.declared.entries.Retained.{Retained}

abbrev pub Row : Type 0 → Type 0
Row A = Vec ℕ A × Retained

-- the map's tests of ids
abbrev pub with_id : {A : Type 0} → List ℕ → Vec ℕ A → Bool
with_id id k = pointwise nat_eq id k.items

abbrev pub same_ids : {A : Type 0} → Vec ℕ A → Vec ℕ A → Bool
same_ids x y = pointwise nat_eq x.items y.items

-- ---- an id names one client's retention id

number_of_id : (key : Key) (id : List ℕ) → IsFiledBy id key → from_be_bytes w32 (take 4 (id_of key)) ≡ cast_unsigned w32 key.retention.0
unfolding id_of
number_of_id key id filed = from_be_bytes-to_be_bytes_4 (cast_unsigned w32 key.retention.0) filed.fits

client_of_id : (key : Key) → drop 4 (id_of key) ≡ key.client
unfolding id_of
client_of_id key = refl

call_of_id : (key other : Key) (id filed : List ℕ) → IsFiledBy id key → IsFiledBy filed other → id_of key ≡ id_of other → is_call key (Some other) ≡ true
call_of_id key other id filed h g e =
    let client : key.client ≡ other.client = sym (client_of_id key) ∙ ap (λ (x : List ℕ). drop 4 x) e ∙ client_of_id other in
    let number = sym (number_of_id key id h) ∙ ap (λ (x : List ℕ). from_be_bytes w32 (take 4 x)) e ∙ number_of_id other filed g in
    let retention : key.retention.0 ≡ other.retention.0 = sym h.back ∙ ap (cast_signed w32) number ∙ g.back in
    rw ((bytes_eq-Decides key.client other.client).1 client, (Decides-int_eq key.retention.0 other.retention.0).1 retention) refl

both_true : (a b : Bool) → (a && b) ≡ true → (a ≡ true) × (b ≡ true)
both_true true b h = (refl, h)
both_true false b h = absurd (true≢false (sym h))

id_of_call : (key other : Key) → is_call key (Some other) ≡ true → id_of key ≡ id_of other
unfolding id_of
id_of_call key other h =
    let parts = both_true (bytes_eq key.client other.client) (int_eq key.retention.0 other.retention.0) h in
    let client = (bytes_eq-Decides key.client other.client).0 parts.0 in
    let retention = (Decides-int_eq key.retention.0 other.retention.0).0 parts.1 in
    ap (λ z. to_be_bytes w32 (cast_unsigned w32 z) ++ key.client) retention ∙ ap (λ (x : List ℕ). to_be_bytes w32 (cast_unsigned w32 other.retention.0) ++ x) client

same_bool : (a b : Bool) → (a ≡ true → b ≡ true) → (b ≡ true → a ≡ true) → a ≡ b
same_bool true b f g = sym (f refl)
same_bool false true f g = g refl
same_bool false false f g = refl

-- the map's test of an entry is that it is of the same client's retention id
pub id_is_call : (key : Key) (id filed : List ℕ) (other : Option Key) → IsFiledBy id key → IsFiledAs filed other → pointwise nat_eq id filed ≡ is_call key other
id_is_call key id filed None h g = absurd g
id_is_call key id filed (Some other) h g =
    same_bool _ _
    (λ t. call_of_id key other id filed h g (sym h.is ∙ same_text id filed (sym t) ∙ g.is))
    (λ t. (bytes_decides id filed).1 (h.is ∙ id_of_call key other t ∙ sym g.is))

call_of_held : (now : ℕ) (key : Key) (other : Option Key) → is_held_by now key other ≡ true → is_call key other ≡ true
call_of_held now key None h = absurd (true≢false (sym h))
call_of_held now key (Some other) h = (both_true (is_call key (Some other)) (nat_lt now other.expiration.0) h).0

-- of the same call, an entry holds the retention id while it is unexpired
held_is_unexpired : (now : ℕ) (key : Key) (other : Option Key) → is_call key other ≡ true → is_held_by now key other ≡ is_unexpired now other
held_is_unexpired now key None h = refl
held_is_unexpired now key (Some other) h = ap (λ b. b && nat_lt now other.expiration.0) h

-- ---- at most one entry is of a call

later_ids : {A : Type 0} (id : List ℕ) (k : Vec ℕ A) (es : List (Row A)) → id ≡ k.items → AllByRecursion (λ y. same_ids k y ≡ false) (keys_of es) → NonePasses (with_id id) es
later_ids id k [] e h = tt
later_ids id k (d ∷ es) e h = (ap (λ (x : List ℕ). pointwise nat_eq x d.0.items) e ∙ h.0, later_ids id k es e h.1)

none_later : {A : Type 0} (id : List ℕ) (e : Row A) (es : List (Row A)) → IsDistinct same_ids (keys_of (e ∷ es)) → with_id id e.0 ≡ true → NonePasses (with_id id) es
none_later id e es distinct t = later_ids id e.0 es (same_text id e.0.items (sym t)) (IsDistinct-head same_ids e.0 (keys_of es) distinct)

module _ {A : Type 0} (key : Key) (id : List ℕ) (filed : IsFiledBy id key) where
  -- ---- the entry that holds a key's retention id is the one that is filed by its id, where that one holds it

  none_held : (now : ℕ) (es : List (Row A)) → AreFiled es → NonePasses (with_id id) es → holder (values_of es) key now ≡ None
  none_held now [] fs none = refl
  none_held now (e ∷ es) fs none = go (none_held now es fs.1 none.1) (is_held_by now key e.1.request.key) refl
    where
      go : holder (values_of es) key now ≡ None → (b : Bool) → is_held_by now key e.1.request.key ≡ b → cond b (Some e.1) (holder (values_of es) key now) ≡ None
      go rest true h = absurd (true≢false (sym (call_of_held now key e.1.request.key h) ∙ sym (id_is_call key id e.0.items e.1.request.key filed fs.0) ∙ none.0))
      go rest false h = rest

  pub holder_by_id : (now : ℕ) (es : List (Row A)) → AreFiled es → IsDistinct same_ids (keys_of es)
      → holder (values_of es) key now ≡ option_filter (λ r. is_unexpired now r.request.key) (lookup (with_id id) es)
  holder_by_id now [] fs distinct = refl
  holder_by_id now (e ∷ es) fs distinct =
      go (holder_by_id now es fs.1 (IsDistinct-tail same_ids e.0 (keys_of es) distinct)) (with_id id e.0) refl (is_held_by now key e.1.request.key) refl
    where
      unexpired_is : (h : Bool) → with_id id e.0 ≡ true → is_held_by now key e.1.request.key ≡ h → is_unexpired now e.1.request.key ≡ h
      unexpired_is h u is =
          sym (held_is_unexpired now key e.1.request.key (sym (id_is_call key id e.0.items e.1.request.key filed fs.0) ∙ u)) ∙ is

      go : holder (values_of es) key now ≡ option_filter (λ r. is_unexpired now r.request.key) (lookup (with_id id) es)
          → (t : Bool) → with_id id e.0 ≡ t → (h : Bool) → is_held_by now key e.1.request.key ≡ h
          → cond h (Some e.1) (holder (values_of es) key now) ≡ option_filter (λ r. is_unexpired now r.request.key) (cond t (Some e.1) (lookup (with_id id) es))
      go rest true t true h = sym (ap (λ b. cond b (Some e.1) None) (unexpired_is true t h))
      go rest true t false h =
          none_held now es fs.1 (none_later id e es distinct t) ∙ sym (ap (λ b. cond b (Some e.1) None) (unexpired_is false t h))
      go rest false t true h = absurd (true≢false (sym (call_of_held now key e.1.request.key h) ∙ sym (id_is_call key id e.0.items e.1.request.key filed fs.0) ∙ t))
      go rest false t false h = rest

  -- ---- what is filed by the id is all that is of its call

  abbrev pub is_other : Row A → Bool
  is_other e = not (is_call key e.1.request.key)

  all_others : (es : List (Row A)) → AreFiled es → NonePasses (with_id id) es → es ≡ filter is_other es
  all_others [] fs none = refl
  all_others (e ∷ es) fs none =
      let other : is_call key e.1.request.key ≡ false = sym (id_is_call key id e.0.items e.1.request.key filed fs.0) ∙ none.0 in
      ap (λ (x : List (Row A)). e ∷ x) (all_others es fs.1 none.1) ∙ sym (ap (λ b. cond (not b) (e ∷ filter is_other es) (filter is_other es)) other)

  pub removed_by_id : (es : List (Row A)) → AreFiled es → IsDistinct same_ids (keys_of es) → remove_entry (with_id id) es ≡ filter is_other es
  removed_by_id [] fs distinct = refl
  removed_by_id (e ∷ es) fs distinct = go (removed_by_id es fs.1 (IsDistinct-tail same_ids e.0 (keys_of es) distinct)) (with_id id e.0) refl
    where
      go : remove_entry (with_id id) es ≡ filter is_other es → (t : Bool) → with_id id e.0 ≡ t
          → cond t es (e ∷ remove_entry (with_id id) es) ≡ filter is_other (e ∷ es)
      go rest true t =
          let same : is_call key e.1.request.key ≡ true = sym (id_is_call key id e.0.items e.1.request.key filed fs.0) ∙ t in
          all_others es fs.1 (none_later id e es distinct t) ∙ sym (ap (λ b. cond (not b) (e ∷ filter is_other es) (filter is_other es)) same)
      go rest false t =
          let other : is_call key e.1.request.key ≡ false = sym (id_is_call key id e.0.items e.1.request.key filed fs.0) ∙ t in
          ap (λ (x : List (Row A)). e ∷ x) rest
          ∙ sym (ap (λ b. cond (not b) (e ∷ filter is_other es) (filter is_other es)) other)

  -- ---- a new entry of the call comes last

  pub none_of_others : (es : List (Row A)) → AreFiled es → NonePasses (with_id id) (filter is_other es)
  none_of_others [] fs = tt
  none_of_others (e ∷ es) fs = go (none_of_others es fs.1) (is_call key e.1.request.key) refl
    where
      go : NonePasses (with_id id) (filter is_other es) → (b : Bool) → is_call key e.1.request.key ≡ b
          → NonePasses (with_id id) (cond (not b) (e ∷ filter is_other es) (filter is_other es))
      go rest true t = rest
      go rest false t = (id_is_call key id e.0.items e.1.request.key filed fs.0 ∙ t, rest)

pub values_of_push : {K X : Type 0} (es : List (K × X)) (e : K × X) → values_of (es ++ e ∷ []) ≡ values_of es ++ e.1 ∷ []
values_of_push [] e = refl
values_of_push (d ∷ es) e = ap (λ xs. d.1 ∷ xs) (values_of_push es e)

-- ---- filters

pub values_of_filter : {K X : Type 0} (p : X → Bool) (es : List (K × X)) → values_of (filter (λ e. p e.1) es) ≡ filter p (values_of es)
values_of_filter p [] = refl
values_of_filter p (e ∷ es) = go (values_of_filter p es) (p e.1)
  where
    go : values_of (filter (λ d. p d.1) es) ≡ filter p (values_of es) → (b : Bool) → values_of (cond b (e ∷ filter (λ d. p d.1) es) (filter (λ d. p d.1) es)) ≡ cond b (e.1 ∷ filter p (values_of es)) (filter p (values_of es))
    go rest true = ap (λ xs. e.1 ∷ xs) rest
    go rest false = rest

pub all_of_filter : {X : Type 0} (P : X → Type 0) (p : X → Bool) (xs : List X) → AllByRecursion P xs → AllByRecursion P (filter p xs)
all_of_filter P p [] h = h
all_of_filter P p (x ∷ xs) h = go (all_of_filter P p xs h.1) (p x)
  where
    go : AllByRecursion P (filter p xs) → (b : Bool) → AllByRecursion P (cond b (x ∷ filter p xs) (filter p xs))
    go rest true = (h.0, rest)
    go rest false = rest

pub all_of_push : {X : Type 0} (P : X → Type 0) (xs : List X) (x : X) → AllByRecursion P xs → P x → AllByRecursion P (xs ++ x ∷ [])
all_of_push P [] x h p = (p, tt)
all_of_push P (y ∷ xs) x h p = (h.0, all_of_push P xs x h.1 p)
