use Rattle.std.proofs.Common.{◌≡◌, ◌∙◌, ◌∷◌, ◌++◌, [], List, ℕ, sym, subst}
use Rattle.std.specs.Prelude.{nat_eq, option_copied}
use Rattle.std.specs.Cmp.Lexicographic.{pointwise}
use Rattle.std.specs.Map.{lookup}
use Rattle.indexmap.proofs.CallerLemmas.{insert_entry-new}
use Rattle.name_places.specs.Places.{AreFiled, filed}
use Rattle.name_places.proofs.PlaceLemmas.{filed_again, filed_new, lookup_filed, none_lent, some_lent}
use Rattle.name_places.proofs.names.file.Goals as goal

pub returns-then-is_none : goal.returns-then-is_none
returns-then-is_none c = λ names are at.
    let rows = c.args.rows.now in
    let text = c.args.name.items in
    let looked = subst (λ (t : List ℕ). option_copied c.get.result ≡ lookup (λ k. pointwise nat_eq t k.items) rows.entries) c.as_slice.ensures.value c.get.ensures.value in
    let none = sym looked ∙ none_lent c.get.result c.if-is_none.ensures in
    let entries = rw c.unwrap.ensures at c.insert.ensures.entries in
    subst (λ es. AreFiled (filed es) (names ++ text ∷ []))
    (sym (entries ∙ insert_entry-new (λ x y. pointwise nat_eq x.items y.items) rows c.args.name c.args.place none))
    (filed_new rows.entries names c.args.name c.args.place are at)

pub returns-else-is_none : goal.returns-else-is_none
returns-else-is_none c = λ names are at.
    let rows = c.args.rows.now in
    let text = c.args.name.items in
    let looked = subst (λ (t : List ℕ). option_copied c.get.result ≡ lookup (λ k. pointwise nat_eq t k.items) rows.entries) c.as_slice.ensures.value c.get.ensures.value in
    filed_again (filed rows.entries) names text are
    (λ none. some_lent c.get.result c.if-is_none.ensures (looked ∙ lookup_filed text rows.entries ∙ none))
