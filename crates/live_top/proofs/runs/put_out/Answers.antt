use Rattle.live_top.proofs.Endings.{front_gained}
use Rattle.live_top.proofs.runs.put_out.Goals as goal

pub returns-in-Failed : goal.returns-in-Failed
returns-in-Failed g c =
    let written = c.in-Failed.ensures in
    (front_gained _ _ _ written.0.0 written.0.2, written.1)
