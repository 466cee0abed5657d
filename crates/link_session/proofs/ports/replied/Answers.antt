use Rattle.std.proofs.Common.{◌≡◌, Bool, Option, sym, subst, inl, inr}
use Rattle.std.specs.Prelude.{◌⊎◌}
use Rattle.ft_base.specs.declared.requests.Outcome.{Outcome}
use Rattle.ft_base.specs.declared.requests.Par.{Par}
use Rattle.host_server.specs.declared.answers.PortAnswer.{PortAnswer}
use Rattle.host_server.specs.declared.answers.PortAnswer.TheVariants.{Done, Forward, NoGroup, System}
use Rattle.host_server.specs.Replies.{IsReply}
use Rattle.iogr_reference.specs.declared.references.Ior.{Ior}
use Rattle.link_session.proofs.ports.replied.Goals as goal
use Rattle.sys_faults.specs.declared.faults.SysFault.{SysFault}

is_reply : (a : PortAnswer)
    → (a ≡ NoGroup) ⊎ (((perm : Bool) × (body : Ior) × (a ≡ Forward perm body)) ⊎ (((outcome : Outcome) × (gives : Option Par) × (a ≡ Done outcome gives)) ⊎ ((fault : SysFault) × (a ≡ System fault))))
    → IsReply a
is_reply a (inl is) = subst IsReply (sym is) tt
is_reply a (inr (inl f)) = subst IsReply (sym f.2) tt
is_reply a (inr (inr (inl d))) = subst IsReply (sym d.2) tt
is_reply a (inr (inr (inr s))) = subst IsReply (sym s.1) tt

pub reply-requires-clause-can : goal.reply-requires-clause-can
reply-requires-clause-can c = c.requires.can (is_reply c.args.answer.now c.in-NoGroup.is) c.args.form.order
