-- What stays of a host that has ended.
use Rattle.std.specs.Prelude.{◌≡◌, ◌≢◌, ◌++◌, List, []}
use Rattle.hist_lock.specs.Histories.{turns_by}
use Rattle.hist_lock.specs.Passes.{IsJoin, IsTurn}
use Rattle.shared_group.specs.Turns.{GroupPass}
use Rattle.shared_group.specs.declared.calls.Call.{Call}
use Rattle.shared_group.specs.declared.calls.CallAnswer.{CallAnswer}
use Rattle.shared_port.specs.Turns.{GroupTurn}
use Rattle.live_hosts.specs.Posts.{HasEnded, HasTurnsOf, Post}

-- after a turn of a pass under another number
abbrev pub StaysEndedAfterTurns : Type 0
StaysEndedAfterTurns = (post : Post) (pass later : GroupPass) (call : Call) (answer : CallAnswer)
    → post.pass.number ≢ pass.number → IsTurn pass call answer later → HasEnded post pass → HasEnded post later

-- after a join
abbrev pub StaysEndedAfterJoins : Type 0
StaysEndedAfterJoins = (post : Post) (pass gone later : GroupPass) → IsJoin pass gone later → HasEnded post pass → HasEnded post later

-- in a longer history, which has no turn more under the number of its pass
abbrev pub StaysEndedInTheWhole : Type 0
StaysEndedInTheWhole = (post : Post) (pass : GroupPass) (history rest : List GroupTurn)
    → history ≡ pass.seen ++ rest → turns_by post.pass.number rest ≡ [] → HasEnded post pass → HasTurnsOf post history
