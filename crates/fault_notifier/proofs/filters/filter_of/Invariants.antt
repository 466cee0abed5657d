use Rattle.std.specs.Prelude.{◌≡◌, take, Some}
use Rattle.fault_notifier.specs.Filters.{lets_all, with_terms, texts}
use Rattle.fault_notifier.proofs.filters.filter_of.Given as goal

abbrev pub invariant-loop-place : goal.invariant-loop-place
invariant-loop-place l = with_terms lets_all (take l.place (texts l.fn.terms)) ≡ Some l.filter
