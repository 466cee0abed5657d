use Rattle.ft_world.proofs.JournalLemmas.{scripts_know_their_views}
use Rattle.ft_world.proofs.LeadLemmas.{deliveries_append_at_leaders, requests_append_at_leaders}
use Rattle.ft_world.proofs.laws.only_leaders_append.Goals as goal

pub returns-clause-known : goal.returns-clause-known
returns-clause-known c =
    scripts_know_their_views
    (record {
      go_on = c.groups_go_on.ensures.is;
      failing = c.failures_come_once.ensures.same;
      grow = c.groups_keep_entries.ensures.grow;
      stay = c.groups_keep_entries.ensures.replies;
      replied = c.requests_are_replied_once.ensures.said;
      views = c.only_views_are_known.ensures.known;
      sent = c.only_views_are_known.ensures.sent;
    })

pub returns-clause-asked : goal.returns-clause-asked
returns-clause-asked c = requests_append_at_leaders c.leaders_append.ensures.only (returns-clause-known c)

pub returns-clause-delivered : goal.returns-clause-delivered
returns-clause-delivered c = deliveries_append_at_leaders c.leaders_append.ensures.only (returns-clause-known c)
