use Rattle.std.proofs.Common.{rules, ◌≡◌, ◌<◌, length, true}
use Rattle.ft_base.specs.Members.{is_member}
use Rattle.group_manager.proofs.OneByOne.{all_member}
use Rattle.group_manager.proofs.directory.Groups.get_member_ref.Goals as goal

pub plain_ref-requires : goal.plain_ref-requires
plain_ref-requires c =
    let there : is_member c.args.host.0 c.args.view.now.members ≡ true = search rules in
    all_member (λ host. host < length c.args.ports.now) c.args.host.0 c.args.view.now.members c.requires there
