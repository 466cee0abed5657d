use Rattle.std.proofs.Common.{List, [], ◌∷◌, ◌++◌, sym, ap, ◌∙◌, subst, append_assoc}
use Rattle.std.specs.List.{AllByRecursion}
use Rattle.live_hosts.specs.Posts.{IsPosted, Post}
use Rattle.live_hosts.proofs.Ending.{all_after_join, ends, one_more, sees_more}
use Rattle.live_hosts.proofs.joins.join_hosts.Goals as goal

pub loop-host-preserved : goal.loop-host-preserved
loop-host-preserved g c =
    let inv = c.loop-host.invariant in
    let done : List Post = c.loop-host.yielded in
    let post : Post = c.in-Some.host in
    let rest : List Post = c.next.new.self.rest.items in
    let are = sym c.in-Some.ensures.steps.0 in
    let left = subst (AllByRecursion (IsPosted c.args.group.now)) (sym are) inv.left in
    let before = c.loop-host.main in
    let after = c.join.new.into in
    let gone = c.join-gone.result in
    let joined = c.join.ensures.joined in
    record {
      whole = append_assoc done (post ∷ []) rest ∙ ap (λ (l : List Post). done ++ l) are ∙ inv.whole;
      own = c.join.ensures.own;
      main = sees_more c.args.main.now before gone after inv.main joined;
      left = left.1;
      ended = one_more done post after (all_after_join done before gone after joined inv.ended) (ends post gone before after left.0.fresh c.join-gone.ensures.moves joined);
    }
