use Rattle.live_top.proofs.Lookups.{held}
use Rattle.live_top.specs.Texts.{held_replies}
use Rattle.live_top.proofs.texts.live_text.Goals as goal

pub push_told_lines-requires : goal.push_told_lines-requires
push_told_lines-requires g c =
    let machines = g.S.Servant.machine in
    let group = c.requires.0 in
    (held_replies (machines group.common.kind) group, held machines c.args.core.now group c.requires.1)
