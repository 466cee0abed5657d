-- A store as a servant.
use Rattle.std.proofs.Common.{◌≡◌, List, ℕ, true, refl}
use Rattle.ft_base.specs.Coding.{value_in}
use Rattle.servant_store.specs.Laws.{whole}
use Rattle.servant_store.specs.Store.{IsStore, Pairs, pairs_said, store}

pub good : (q : Pairs) → IsStore q → store.valid q ≡ true
unfolding store
good q h = whole q h

pub value_is : (s : List ℕ) → value_in store s ≡ pairs_said s
unfolding store value_in pairs_said
value_is s = refl
