use Rattle.std.proofs.Common.{ap, sym, Some, ◌∙◌}
use Rattle.fault_notifier.specs.Filters.{texts}
use Rattle.fault_notifier.proofs.Terms.{next_term, no_terms}
use Rattle.fault_notifier.proofs.filters.filter_of.Goals as goal

pub loop-place-init : goal.loop-place-init
loop-place-init c = no_terms ∙ ap Some (sym c.all-filter.ensures)

pub returns-in-None : goal.returns-in-None
returns-in-None c = record {
  term = c.term_at.result.now;
  there = c.term_at.ensures;
  known = c.loop-place.filter;
  before = c.loop-place.invariant;
  bad = sym c.in_ok-with_term.ensures ∙ c.in-None.is;
}

pub loop-place-preserved : goal.loop-place-preserved
loop-place-preserved c =
    next_term (texts c.args.terms.now) c.loop-place.place c.term_at.result.now c.loop-place.filter c.in-Some.more
    c.term_at.ensures c.loop-place.invariant (sym c.in_ok-with_term.ensures ∙ c.in-Some.is)
