use Rattle.ft_world.proofs.LinkTellingLemmas.{injections_append_at_leaders}
use Rattle.ft_world.proofs.laws.links_append_at_leaders.Goals as goal

pub returns : goal.returns
returns c =
    injections_append_at_leaders c.leaders_append.ensures.only
    (record {
      go_on = c.groups_go_on.ensures.is;
      failing = c.failures_come_once.ensures.same;
      grow = c.groups_keep_entries.ensures.grow;
      stay = c.groups_keep_entries.ensures.replies;
      replied = c.requests_are_replied_once.ensures.said;
      views = c.only_views_are_known.ensures.known;
      sent = c.only_views_are_known.ensures.sent;
    })
