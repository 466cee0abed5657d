-- The watched members after what a monitor was told.
use Rattle.std.specs.Prelude.{List, None}
use Rattle.std.specs.List.{fold}
use Rattle.fault_monitor.specs.Watching.{asked, answered}
use Rattle.script_monitor.specs.declared.happenings.Happening.{Happening}
use Rattle.script_monitor.specs.declared.happenings.Happening.TheVariants as happenings
use Rattle.script_monitor.specs.Watches.{Watches, nobody, with_member, watched, told}

abbrev pub happened : Watches → Happening → Watches
happened ws (happenings.Watched group host interval timeout) = watched ws group.0 host.0 interval.0 timeout.0
happened ws (happenings.Unwatched group host) = with_member ws group.0 host.0 None
happened ws (happenings.Asked group host now) = told ws group.0 host.0 (asked now.0)
happened ws (happenings.Answered group host) = told ws group.0 host.0 answered

-- after all that it was told, oldest first
abbrev pub watches_after : List Happening → Watches
watches_after told = fold happened nobody told
