-- Replies in the form in which they would go over a link.
use Rattle.std.proofs.Common.{◌≡◌, refl}
use Rattle.message_sizes.specs.Sizes.{answer_size, reply_size}
use Rattle.host_server.specs.declared.answers.PortAnswer.TheVariants.{NoGroup, System}
use Rattle.host_server.specs.Replies.{no_group}

-- a host without the view to which it would redirect says that there is no such object
pub no_view_size : answer_size NoGroup ≡ answer_size (System no_group)
unfolding answer_size reply_size
no_view_size = refl
