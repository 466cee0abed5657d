use Rattle.std.proofs.Common.{◌≡◌, ℕ, List, None, ap, subst, ◌∙◌}
use Rattle.message_log.specs.Opening.{IsReopened}
use Rattle.message_log.specs.Picture.{Picture as LogPicture}
use Rattle.message_log.specs.Written.{IsWrittenDown}
use Rattle.group_model.specs.Reopening.{reopened}
use Rattle.group_core.specs.Resuming.{MayResume}
use Rattle.disk_group.proofs.stops.stop.Goals as goal

pub returns : goal.returns
returns g c =
    let machines = g.S.Servant.machine in
    let before = c.requires in
    let core = c.args.core in
    let parts = c.into_parts-opening in
    let keeper = c.into_keeper-left.result in
    let opened = c.in_ok-opened.opened in
    let log = c.in-Ok.log in
    let group = reopened before.group in
    let down : IsWrittenDown core.log = subst IsWrittenDown parts.ensures.log c.is_written_down.ensures in
    let same : opened.records ≡ core.log.records = c.in_ok-opened.ensures ∙ c.into_keeper-left.ensures.records ∙ ap (λ (p : LogPicture). p.records) parts.ensures.log in
    let again : IsReopened core.log.records None opened.faults log =
    subst (λ (pieces : List (List ℕ)). IsReopened pieces None opened.faults log) same c.in-Ok.ensures in
    let may : MayResume machines core.id core.style core.kind core.opening log group =
    (c.cores_may_go_on.ensures.written machines core before.group before.stands down).resumes log None opened.faults again in
    record {
      group = group;
      stands = c.in-Ok-resume.ensures.stands group (rw (c.group-group.ensures, c.style-style.ensures, parts.ensures.kind, parts.ensures.state) may);
    }
