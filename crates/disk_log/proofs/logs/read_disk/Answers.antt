use Rattle.std.proofs.Common.{ℕ, List, sym, subst}
use Rattle.disk_log.specs.Image.{Holds}
use Rattle.disk_log.proofs.Images.{read_holds, read_calm}
use Rattle.disk_log.proofs.logs.read_disk.Goals as goal

pub returns-in-Ok-read_into-clause-opened : goal.returns-in-Ok-read_into-clause-opened
returns-in-Ok-read_into-clause-opened g c = λ r given.
    let opened = c.in-Ok-read_into.opened in
    let same = c.in-Ok-read_into.ensures.given r (c.sync.ensures.keeps r given) in
    subst (λ (l : List ℕ). Holds l opened.records.items) (sym same) (read_holds c.read_into.new.bytes opened.records.items opened.end c.in-Ok-read_into.ensures.read)

pub returns-in-Ok-read_into-clause-calm : goal.returns-in-Ok-read_into-clause-calm
returns-in-Ok-read_into-clause-calm g c =
    let opened = c.in-Ok-read_into.opened in
    read_calm (g.D.Disk.images c.read_into.new.disk) c.read_into.new.bytes opened.records.items opened.end c.in-Ok-read_into.ensures.read
    (λ d now. c.in-Ok-read_into.ensures.given d (c.in-Done.ensures.durable d (c.read_into.ensures.images d now)))
