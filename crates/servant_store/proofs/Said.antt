-- Which bytes spell a store, and which a change.
use Rattle.std.proofs.Common.{◌≡◌, ◌≢◌, ℕ, zero, suc, ◌<◌, ◌≤◌, Bool, true, false, ◌&&◌, not, nat_lt, if◌then◌else◌, List, [], ◌++◌, Option, Some, None, length, drop, refl, ap, subst, sym, ◌∙◌, arith, lit<}
use Rattle.std.specs.Prelude.{is_some}
use Rattle.std.specs.FinMap.{find, is_sorted}
use Rattle.std.specs.List.{flat_map, list_all}
use Rattle.std.specs.Str.{bytes_eq}
use Rattle.std.proofs.Math.Nat.{lt_of_le_of_lt}
use Rattle.std.proofs.lemmas.Bool.{and_parts, lt-ltb, le-ltb}
use Rattle.std.proofs.lemmas.List.{append-nil}
use Rattle.std.proofs.lemmas.Slice.Eq.{bytes_eq-Decides}
use Rattle.byteorder.specs.Endian.{big_bytes, big_number}
use Rattle.byteorder.specs.Numbers.{big_number-reads_back}
use Rattle.servant_store.specs.Laws.{change_found, change_says, changed_is, changed_store, keys_back, pairs_back, pairs_found, pairs_say, read_back}
use Rattle.servant_store.specs.PairLaws.{put_all_ordered, put_all_same}
use Rattle.servant_store.specs.Store.{Change, IsChange, IsStore, Pairs, advanced, behind_key, change_said, changed, is_key, is_pair, keys_in, order, pairs_in, pairs_said, read, rises, spelled, spelled_change, spelled_key, spelled_pair}
use Rattle.servant_store.specs.Views.{out_all, put_all}

clash : (b : Bool) → b ≡ true → b ≡ false → ⊥
clash b h k = cc

-- ---- a store

unsaid : (s : List ℕ) → ((x : Pairs) → IsStore x → s ≡ spelled x → ⊥) → None ≡ pairs_said s
unsaid s h =
    let go : (o : Option Pairs) → pairs_said s ≡ o → None ≡ pairs_said s =
    elim [ None ↦ λ e. sym e | Some x ↦ λ e. let said = pairs_say s x e in absurd (h x said.0 said.1) ] in
    go (pairs_said s) refl

-- what is read from bytes, pair by pair
pub record IsRead (s : List ℕ) (count : ℕ) (m : Pairs) : Type 0 where
  pub is_count : count ≡ big_number 4 s
  pub is_pairs : m ≡ put_all (pairs_in count (drop 4 s)).0 []

some_value : (x y : Pairs) → Some x ≡ Some y → x ≡ y
some_value x y h = cc

counted : (s : List ℕ) (count : ℕ) (m x : Pairs) → IsRead s count m → IsStore x → s ≡ spelled x → count ≡ length x
counted s count m x is good e =
    is.is_count ∙ ap (big_number 4) e ∙ big_number-reads_back 4 (length x) (flat_map spelled_pair x) (lt_of_le_of_lt good.few (lit< tt))

same_pairs : (s : List ℕ) (count : ℕ) (m x : Pairs) → IsRead s count m → IsStore x → s ≡ spelled x → m ≡ x
same_pairs s count m x is good e =
    let raw : (pairs_in count (drop 4 s)).0 ≡ x =
    some_value (pairs_in count (drop 4 s)).0 x
    (ap (λ n. Some (pairs_in n (drop 4 s)).0) is.is_count ∙ ap read e ∙ read_back x good) in
    is.is_pairs ∙ ap (λ (p : Pairs). put_all p []) raw ∙ put_all_same x good.ordered

pub unsaid_count : (s : List ℕ) (count : ℕ) → count ≡ big_number 4 s → 256 < count → None ≡ pairs_said s
unsaid_count s count is h = unsaid s (λ x good e.
    let n = is ∙ ap (big_number 4) e ∙ big_number-reads_back 4 (length x) (flat_map spelled_pair x) (lt_of_le_of_lt good.few (lit< tt)) in
    let few = good.few in omega (arith, h, n, few))

pub unsaid_length : (s : List ℕ) (count : ℕ) (m : Pairs) → IsRead s count m → length m ≢ count → None ≡ pairs_said s
unsaid_length s count m is h = unsaid s (λ x good e. h (ap length (same_pairs s count m x is good e) ∙ sym (counted s count m x is good e)))

pub unsaid_pair : (s : List ℕ) (count : ℕ) (m : Pairs) → IsRead s count m → list_all is_pair m ≡ false → None ≡ pairs_said s
unsaid_pair s count m is h = unsaid s (λ x good e. clash (list_all is_pair m) (ap (list_all is_pair) (same_pairs s count m x is good e) ∙ good.sound) h)

pub unsaid_again : (s again : List ℕ) (count : ℕ) (m : Pairs) → IsRead s count m → again ≡ spelled m → bytes_eq again s ≡ false → None ≡ pairs_said s
unsaid_again s again count m is spells h = unsaid s (λ x good e.
    clash (bytes_eq again s) ((bytes_eq-Decides again s).1 (spells ∙ ap spelled (same_pairs s count m x is good e) ∙ sym e)) h)

pub sound : (s : List ℕ) (count : ℕ) (m : Pairs) → IsRead s count m → count ≤ 256 → length m ≡ count → list_all is_pair m ≡ true → IsStore m
sound s count m is few long good = record {
  ordered = subst (λ (p : Pairs). is_sorted order p ≡ true) (sym is.is_pairs) (put_all_ordered (pairs_in count (drop 4 s)).0 [] refl);
  few = omega (arith, few, long);
  sound = good;
}

pub said : (s again : List ℕ) (m : Pairs) → IsStore m → again ≡ spelled m → bytes_eq again s ≡ true → Some m ≡ pairs_said s
said s again m good spells h =
    let same : s ≡ spelled m = sym ((bytes_eq-Decides again s).0 h) ∙ spells in
    sym (ap pairs_said same ∙ pairs_found m good)

-- ---- a change

unchanged : (s : List ℕ) → ((x : Change) → IsChange x → s ≡ spelled_change x → ⊥) → None ≡ change_said s
unchanged s h =
    let go : (o : Option Change) → change_said s ≡ o → None ≡ change_said s =
    elim [ None ↦ λ e. sym e | Some x ↦ λ e. let said = change_says s x e in absurd (h x said.0 said.1) ] in
    go (change_said s) refl

pub record AreKeys (s : List ℕ) (count : ℕ) (gone : List (List ℕ)) (rest : List ℕ) : Type 0 where
  pub is_count : count ≡ big_number 2 s
  pub is_gone : gone ≡ (keys_in count (drop 2 s)).0
  pub is_rest : rest ≡ (keys_in count (drop 2 s)).1

pub record AreParts (s : List ℕ) (count : ℕ) (gone : List (List ℕ)) (rest : List ℕ) (pairs : ℕ) (set : Pairs) : Type 0 where
  pub keys : AreKeys s count gone rest
  pub is_pairs : pairs ≡ big_number 2 rest
  pub is_set : set ≡ put_all (pairs_in pairs (drop 2 rest)).0 []

behind : Change → List ℕ
behind x = big_bytes 2 (length x.set) ++ flat_map spelled_pair x.set

keys_count : (s : List ℕ) (count : ℕ) (x : Change) → count ≡ big_number 2 s → IsChange x → s ≡ spelled_change x → count ≡ length x.gone
keys_count s count x is good e =
    is ∙ ap (big_number 2) e
    ∙ big_number-reads_back 2 (length x.gone) (flat_map spelled_key x.gone ++ (big_bytes 2 (length x.set) ++ flat_map spelled_pair x.set)) (lt_of_le_of_lt good.few (lit< tt))

keys_found : (s : List ℕ) (count : ℕ) (x : Change) → count ≡ big_number 2 s → IsChange x → s ≡ spelled_change x → keys_in count (drop 2 s) ≡ (x.gone, behind x)
unfolding behind
keys_found s count x is good e =
    ap (λ n. keys_in n (drop 2 s)) (keys_count s count x is good e)
    ∙ ap (λ (b : List ℕ). keys_in (length x.gone) (drop 2 b)) e
    ∙ keys_back x.gone (big_bytes 2 (length x.set) ++ flat_map spelled_pair x.set) good.keys

same_gone : (s : List ℕ) (count : ℕ) (gone : List (List ℕ)) (rest : List ℕ) (x : Change) → AreKeys s count gone rest → IsChange x → s ≡ spelled_change x → gone ≡ x.gone
same_gone s count gone rest x is good e = is.is_gone ∙ ap (λ (r : List (List ℕ) × List ℕ). r.0) (keys_found s count x is.is_count good e)

same_rest : (s : List ℕ) (count : ℕ) (gone : List (List ℕ)) (rest : List ℕ) (x : Change) → AreKeys s count gone rest → IsChange x → s ≡ spelled_change x → rest ≡ behind x
same_rest s count gone rest x is good e = is.is_rest ∙ ap (λ (r : List (List ℕ) × List ℕ). r.1) (keys_found s count x is.is_count good e)

set_count : (rest : List ℕ) (pairs : ℕ) (x : Change) → pairs ≡ big_number 2 rest → rest ≡ behind x → IsChange x → pairs ≡ length x.set
unfolding behind
set_count rest pairs x is e good =
    is ∙ ap (big_number 2) e ∙ big_number-reads_back 2 (length x.set) (flat_map spelled_pair x.set) (lt_of_le_of_lt good.set.few (lit< tt))

same_set : (rest : List ℕ) (pairs : ℕ) (set : Pairs) (x : Change) → pairs ≡ big_number 2 rest → set ≡ put_all (pairs_in pairs (drop 2 rest)).0 []
    → rest ≡ behind x → IsChange x → set ≡ x.set
unfolding behind
same_set rest pairs set x is is_set e good =
    let raw : pairs_in pairs (drop 2 rest) ≡ (x.set, []) =
    ap (λ n. pairs_in n (drop 2 rest)) (set_count rest pairs x is e good)
    ∙ ap (λ (b : List ℕ). pairs_in (length x.set) (drop 2 b)) e
    ∙ ap (pairs_in (length x.set)) (sym (append-nil (flat_map spelled_pair x.set)))
    ∙ pairs_back x.set [] good.set.sound in
    is_set ∙ ap (λ (r : Pairs × List ℕ). put_all r.0 []) raw ∙ put_all_same x.set good.set.ordered

abbrev pub in_form : List (List ℕ) → Pairs → Bool
in_form gone set = ((rises gone && list_all is_key gone) && list_all is_pair set) && list_all (λ key. not (is_some (find order key set))) gone

formed : (x : Change) → IsChange x → in_form x.gone x.set ≡ true
formed x h =
    ap (λ b. ((b && list_all is_key x.gone) && list_all is_pair x.set) && list_all (λ key. not (is_some (find order key x.set))) x.gone) h.rising
    ∙ ap (λ b. (b && list_all is_pair x.set) && list_all (λ key. not (is_some (find order key x.set))) x.gone) h.keys
    ∙ ap (λ b. b && list_all (λ key. not (is_some (find order key x.set))) x.gone) h.set.sound
    ∙ h.apart

pub unchanged_count : (s : List ℕ) (count : ℕ) → count ≡ big_number 2 s → 256 < count → None ≡ change_said s
unchanged_count s count is h = unchanged s (λ x good e. let n = keys_count s count x is good e in let few = good.few in omega (arith, h, n, few))

pub unchanged_pairs : (s : List ℕ) (count : ℕ) (gone : List (List ℕ)) (rest : List ℕ) (pairs : ℕ) → AreKeys s count gone rest → pairs ≡ big_number 2 rest → 256 < pairs
    → None ≡ change_said s
unchanged_pairs s count gone rest pairs is is_pairs h = unchanged s (λ x good e.
    let n = set_count rest pairs x is_pairs (same_rest s count gone rest x is good e) good in let few = good.set.few in omega (arith, h, n, few))

module _ (s : List ℕ) (count : ℕ) (gone : List (List ℕ)) (rest : List ℕ) (pairs : ℕ) (set : Pairs) (is : AreParts s count gone rest pairs set) where
  the_set : (x : Change) → IsChange x → s ≡ spelled_change x → set ≡ x.set
  the_set x good e = same_set rest pairs set x is.is_pairs is.is_set (same_rest s count gone rest x is.keys good e) good

  pub unchanged_length : length set ≢ pairs → None ≡ change_said s
  unchanged_length h = unchanged s (λ x good e.
      h (ap length (the_set x good e) ∙ sym (set_count rest pairs x is.is_pairs (same_rest s count gone rest x is.keys good e) good)))

  pub unchanged_form : in_form gone set ≡ false → None ≡ change_said s
  unchanged_form h = unchanged s (λ x good e.
      clash (in_form gone set)
      (ap (λ (g : List (List ℕ)). in_form g set) (same_gone s count gone rest x is.keys good e) ∙ ap (in_form x.gone) (the_set x good e) ∙ formed x good) h)

  made : List (List ℕ) → Pairs → Change
  made g p = record { gone = g; set = p }

  pub unchanged_again : (again : List ℕ) → again ≡ spelled_change (record { gone = gone; set = set }) → bytes_eq again s ≡ false → None ≡ change_said s
  unfolding made
  unchanged_again again spells h = unchanged s (λ x good e.
      clash (bytes_eq again s)
      ((bytes_eq-Decides again s).1 (spells
      ∙ ap (λ (g : List (List ℕ)). spelled_change (made g set)) (same_gone s count gone rest x is.keys good e)
      ∙ ap (λ (p : Pairs). spelled_change (made x.gone p)) (the_set x good e) ∙ sym e)) h)

  pub change_sound : count ≤ 256 → length gone ≡ count → pairs ≤ 256 → length set ≡ pairs → in_form gone set ≡ true → IsChange (record { gone = gone; set = set })
  change_sound few long few_pairs long_set form =
      let last = and_parts ((rises gone && list_all is_key gone) && list_all is_pair set) (list_all (λ key. not (is_some (find order key set))) gone) form in
      let second = and_parts (rises gone && list_all is_key gone) (list_all is_pair set) last.0 in
      let first = and_parts (rises gone) (list_all is_key gone) second.0 in
      record {
        rising = first.0;
        few = omega (arith, few, long);
        keys = first.1;
        set = record {
          ordered = subst (λ (p : Pairs). is_sorted order p ≡ true) (sym is.is_set) (put_all_ordered (pairs_in pairs (drop 2 rest)).0 [] refl);
          few = omega (arith, few_pairs, long_set);
          sound = second.1;
        };
        apart = last.1;
      }

-- what form gives alone
pub form_keys : (gone : List (List ℕ)) (set : Pairs) → in_form gone set ≡ true → list_all is_key gone ≡ true
form_keys gone set form =
    (and_parts (rises gone) (list_all is_key gone) (and_parts (rises gone && list_all is_key gone) (list_all is_pair set) (and_parts ((rises gone && list_all is_key gone) && list_all is_pair set) _ form).0).0).1

pub form_pairs : (gone : List (List ℕ)) (set : Pairs) → in_form gone set ≡ true → list_all is_pair set ≡ true
form_pairs gone set form = (and_parts (rises gone && list_all is_key gone) (list_all is_pair set) (and_parts ((rises gone && list_all is_key gone) && list_all is_pair set) _ form).0).1

pub change_is_said : (s again : List ℕ) (c : Change) → IsChange c → again ≡ spelled_change c → bytes_eq again s ≡ true → Some c ≡ change_said s
change_is_said s again c good spells h =
    let same : s ≡ spelled_change c = sym ((bytes_eq-Decides again s).0 h) ∙ spells in
    sym (ap change_said same ∙ change_found c good)

-- this many keys
pub keys_in_length : (n : ℕ) (bytes : List ℕ) → length (keys_in n bytes).0 ≡ n
unfolding keys_in
keys_in_length zero bytes = refl
keys_in_length (suc n) bytes = ap suc (keys_in_length n (behind_key bytes))

-- ---- a change to a store

pub applied_is : (base m : Pairs) (c : Change) → IsStore base → IsChange c → m ≡ put_all c.set (out_all c.gone (put_all base [])) → m ≡ changed base c
applied_is base m c h k is =
    is ∙ ap (λ (b : Pairs). put_all c.set (out_all c.gone b)) (put_all_same base h.ordered) ∙ changed_is base c h.ordered k.set.ordered

pub applied_none : (base m : Pairs) (c : Change) → list_all (λ key. is_some (find order key base)) c.gone ≡ true → m ≡ changed base c → 256 < length m
    → None ≡ advanced base (Some c)
applied_none base m c there is h =
    let long : 256 < length (changed base c) = subst (λ (p : Pairs). 256 < length p) is h in
    sym (ap (λ b. if not b then None else (if nat_lt 256 (length (changed base c)) then None else Some (changed base c))) there
    ∙ ap (λ b. if b then None else Some (changed base c)) (lt-ltb 256 (length (changed base c)) long))

pub applied_some : (base m : Pairs) (c : Change) → list_all (λ key. is_some (find order key base)) c.gone ≡ true → m ≡ changed base c → length m ≤ 256
    → Some m ≡ advanced base (Some c)
applied_some base m c there is h =
    let few : length (changed base c) ≤ 256 = subst (λ (p : Pairs). length p ≤ 256) is h in
    ap (λ (p : Pairs). Some p) is
    ∙ sym (ap (λ b. if not b then None else (if nat_lt 256 (length (changed base c)) then None else Some (changed base c))) there
    ∙ ap (λ b. if b then None else Some (changed base c)) (le-ltb 256 (length (changed base c)) few))

pub applied_sound : (base m : Pairs) (c : Change) → IsStore base → IsChange c → m ≡ changed base c → length m ≤ 256 → IsStore m
applied_sound base m c h k is few =
    subst IsStore (sym is) (changed_store base c h k (subst (λ (p : Pairs). length p ≤ 256) is few))
