use Rattle.std.proofs.Common.{refl, sym, subst}
use Rattle.std.specs.Prelude.{Ok, Err}
use Rattle.fault_notifier.specs.Filters.{terms, IsFiltered}
use Rattle.fault_notifier.specs.declared.faults.FilterFault.{FilterFault}
use Rattle.script_subscribers.specs.declared.answers.Subscribed.TheVariants as answers
use Rattle.script_subscribers.specs.Calls.{IsJoined}
use Rattle.script_subscribers.specs.Subscribers.{Judged}
use Rattle.script_subscribers.proofs.Judging.{good, bad}
use Rattle.script_subscribers.proofs.subscriptions.Subscribers.subscribe.Goals as goal

pub returns-in-Err-BadFilter : goal.returns-in-Err-BadFilter
returns-in-Err-BadFilter c =
    let text = c.args.filter.now in
    let place = c.in-Err-BadFilter.place in
    let is = subst (λ (why : FilterFault). IsFiltered (terms text) (Err why)) c.in-Err-BadFilter.field-0-is c.in-Err-BadFilter.ensures in
    subst (λ (j : Judged). IsJoined c.args.self.now c.args.name j (Ok (answers.BadFilter place)) c.args.self.now) (sym (bad text place is)) (refl, refl)

pub returns : goal.returns
returns c =
    subst (λ (j : Judged). IsJoined c.args.self.now c.args.name j c.join.result c.join.new.self)
    (sym (good c.args.filter.now c.in-Ok.filter c.in-Ok.ensures)) c.join.ensures
