use Rattle.ft_world.proofs.JournalLemmas.{scripts_reply_once}
use Rattle.ft_world.proofs.laws.replies_are_of_entries.Goals as goal

pub returns : goal.returns
returns c =
    scripts_reply_once
    (record {
      go_on = c.groups_go_on.ensures.is;
      failing = c.failures_come_once.ensures.same;
      grow = c.groups_keep_entries.ensures.grow;
      stay = c.groups_keep_entries.ensures.replies;
      replied = c.requests_are_replied_once.ensures.said;
      views = c.only_views_are_known.ensures.known;
      sent = c.only_views_are_known.ensures.sent;
    })
