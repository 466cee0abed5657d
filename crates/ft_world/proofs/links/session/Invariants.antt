use Rattle.std.proofs.Common.{◌≡◌, length}
use Rattle.link_session.specs.Loops.{IsAmid}
use Rattle.link_session.specs.Serving.{Meets}
use Rattle.ft_world.specs.Passes.{Exchanges, IsReady, octets, pass_at}
use Rattle.ft_world.proofs.LinkLemmas.{IsOn}
use Rattle.ft_world.proofs.links.session.Given as goal

-- the messages so far were served, by their turns
abbrev pub invariant-messages : goal.invariant-messages
invariant-messages g l = record {
  same_world : l.pass.world.ghost_name ≡ l.fn.pass.world.ghost_name;
  same_steps : l.pass.steps.ghost_name ≡ l.fn.pass.steps.ghost_name;
  same_printed : l.pass.printed.ghost_name ≡ l.fn.pass.printed.ghost_name;
  on : IsOn l.fn.pass.world.now l.fn.host.0 l.fn.bytes l.session l.pass.world.now l.pass.printed.now.lines l.fn.pass.steps.now l.pass.steps.now;
  turns : IsAmid (Meets Exchanges l.fn.host.0) (pass_at l.fn.pass.world.now l.fn.pass.steps.now l.fn.pass.short, octets l.fn.pass.printed.now.lines) l.fn.bytes l.session
      (pass_at l.pass.world.now l.pass.steps.now l.pass.short, octets l.pass.printed.now.lines);
  ready : IsReady l.fn.host.0 l.pass.world.now l.pass.printed.now.orders l.pass.short;
}

abbrev pub decreases-messages : goal.decreases-messages
decreases-messages g l = length l.session.frames.rest
