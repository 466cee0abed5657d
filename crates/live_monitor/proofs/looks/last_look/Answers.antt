use Rattle.std.proofs.Common.{◌≡◌, [], ◌∷◌, ◌++◌, None, Ok, subst, sym}
use Rattle.hist_lock.specs.Histories.{calls as turns}
use Rattle.shared_group.specs.declared.calls.Call.TheVariants as calls
use Rattle.shared_group.specs.declared.calls.CallAnswer.TheVariants as told
use Rattle.live_monitor.specs.Monitored.{Errand, HasLastLook, kill_due}
use Rattle.live_monitor.proofs.Ending.{ends, ends_by_kill}
use Rattle.live_monitor.proofs.looks.last_look.Goals as goal

-- there is nobody to be killed now
pub returns-in_default-clause-looked : goal.returns-in_default-clause-looked
returns-in_default-clause-looked g c = λ first history number leads is.
    let found = c.in_default.ensures in
    let not = c.in_default.is in
    let none : kill_due c.args.monitor.now c.in-Ok.figures.entries ≡ None = cc in
    ends g.S.Servant.machine c.entries_found_stay.ensures.stay first history number c.args.monitor.now is c.in-Ok.figures c.entries_found_stay.ensures.last c.look_at.new.book
    (c.in-Ok.ensures first (turns history) leads) none

-- the host is crashed

pub crash_at-requires-clause-book : goal.crash_at-requires-clause-book
crash_at-requires-clause-book g c =
    let book = c.requires.book in
    (book.0, book.1 ++ (calls.Figures, told.Figures (Ok c.in-Ok.figures)) ∷ [], c.in-Ok.ensures book.0 book.1 book.2)

pub returns-clause-looked : goal.returns-clause-looked
returns-clause-looked g c = λ first history number leads is.
    subst (λ (errand : Errand). HasLastLook g.S.Servant.machine first history number errand c.crash_at.new.book) (sym c.note_kill.ensures)
    (ends_by_kill g.S.Servant.machine c.entries_found_stay.ensures.stay first history number c.args.monitor.now is c.in-Ok.figures c.crash_at.new.book c.in-Some.host c.crash_at.ensures.0
    (c.crash_at.ensures.1 first _ (c.in-Ok.ensures first (turns history) leads)) (sym c.in-Some.ensures))
