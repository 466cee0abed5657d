use Rattle.std.proofs.Common.{ap, subst, sym}
use Rattle.group_core.specs.Cores.{Stands}
use Rattle.shared_group.specs.Books.{Traced}
use Rattle.shared_group.proofs.Longer.{fresh_book}
use Rattle.shared_group.proofs.books.Book.new.Goals as goal

pub returns-clause-stands : goal.returns-clause-stands
returns-clause-stands g c =
    fresh_book g.S.Servant.machine _ c.requires.0 (subst (λ (t : Traced). Stands g.S.Servant.machine t.core c.requires.0) (sym c.new.ensures) c.requires.1)
    c.new-2.ensures.items (ap (λ (t : Traced). t.acts) c.new.ensures)
