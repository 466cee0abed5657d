-- A queue as a servant.
use Rattle.std.proofs.Common.{◌≡◌, ◌+◌, ◌-◌, ◌≤◌, ◌++◌, List, ℕ, length, drop, true, arith, refl, ap, sym, subst, ◌∙◌}
use Rattle.std.specs.List.{list_all}
use Rattle.std.proofs.lemmas.List.{length-append, length-drop}
use Rattle.ft_base.specs.Coding.{value_in}
use Rattle.servant_queue.specs.Laws.{all_append, all_drop, whole}
use Rattle.servant_queue.specs.Queue.{Contents, IsContents, contents_in, is_item, queue}

pub good : (q : Contents) → IsContents q → queue.valid q ≡ true
unfolding queue
good q h = whole q h

pub value_is : (s : List ℕ) → value_in queue s ≡ contents_in s
unfolding queue value_in contents_in
value_is s = refl

pub joined_sound : (base new : Contents) (gone : ℕ) (items : List (List ℕ)) → IsContents base → IsContents new
    → items ≡ drop gone base.items ++ new.items → (length base.items - gone) + length new.items ≤ 4096
    → IsContents (record { popped = new.popped; items = items })
joined_sound base new gone items h k is few = record {
  popped = k.popped;
  few = (let sum = ap length is ∙ length-append (drop gone base.items) new.items in let left = length-drop gone base.items in omega (arith, few, sum, left));
  sized = subst (λ (xs : List (List ℕ)). list_all is_item xs ≡ true) (sym is) (all_append (drop gone base.items) new.items (all_drop gone base.items h.sized) k.sized);
}
