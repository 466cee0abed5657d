-- A request over a link, as the turn of its port.
use Rattle.std.proofs.Common.{arith, ◌≡◌, ℕ, ◌+◌, ◌≤◌, List, [], ◌∷◌, ◌++◌, Some, refl, sym, ap, subst, ◌∙◌, append-nil}
use Rattle.std.specs.Prelude.{slice_get, Result, Ok, Err, IfOk, OnOk}
use Rattle.ft_base.specs.declared.decisions.Stop.TheVariants.{Never}
use Rattle.ft_base.specs.declared.memory.NoMemory.{NoMemory}
use Rattle.ft_base.specs.declared.numbers.HostNo.{HostNo}
use Rattle.ft_report.specs.declared.reports.ReportLine.{ReportLine}
use Rattle.ft_report.specs.declared.reports.ReportLine.TheVariants as reports
use Rattle.group_model.specs.declared.asking.Asked.{Asked}
use Rattle.host_server.specs.declared.answers.PortAnswer.{PortAnswer}
use Rattle.host_server.specs.declared.answers.PortAnswer.TheVariants as answers
use Rattle.script_groups.specs.Acting.{AreKept}
use Rattle.script_groups.specs.Groups.{ScriptGroup, acted, placed}
use Rattle.script_groups.specs.Lists.{get_set, same_some}
use Rattle.script_world.specs.Sound.{IsKeptWorld}
use Rattle.script_world.specs.World.{World}
use Rattle.ft_world.specs.declared.asking.HostReply.{HostReply}
use Rattle.ft_world.specs.declared.asking.Said.{Said}
use Rattle.ft_world.specs.declared.asking.Said.TheVariants as saids
use Rattle.ft_world.specs.Links.{PortTurn, no_group_turn, port_turn, turn_by, unheard_turn}
use Rattle.ft_world.specs.Passes.{Counts, HasTurn, Lines, lines_at}
use Rattle.ft_world.specs.Requests.{Asking, CanBeSaid, CanBeSent, HasAsked, ask, request_at}

abbrev pub IsTurn : PortTurn → Result PortAnswer NoMemory → World → Lines → Lines → Type 0
IsTurn t result new old later = IfOk result (λ (answer : PortAnswer). HasTurn t answer new old later)

pub counts_so : (t : PortTurn) (result : Result PortAnswer NoMemory) (before now : ℕ) → now ≡ before + t.calls → Counts t result before now
counts_so t (Ok answer) before now is = is
counts_so t (Err why) before now is = omega (arith, is)

pub kept_so : (result : Result PortAnswer NoMemory) (mid new : World) → OnOk result (new.groups ≡ mid.groups) → IsKeptWorld mid → OnOk result (IsKeptWorld new)
kept_so (Ok answer) mid new same kept = subst AreKept (sym same) kept
kept_so (Err why) mid new same kept = tt

abbrev pub IsSilent : Said → Type 0
IsSilent (saids.Reply r) = ⊥
IsSilent (saids.Stopped decision) = Unit {0}
IsSilent saids.Down = Unit {0}

-- the host says nothing
pub unheard : (w : World) (calls : ℕ) (l : Lines) → HasTurn (unheard_turn w calls) answers.NoGroup w l l
unheard w calls l = record {
  answer = refl;
  world = refl;
  lines = ap (λ (ls : List ReportLine). lines_at ls l.behind) (sym (append-nil l.before)) ∙ ap (λ (ls : List ReportLine). lines_at (l.before ++ []) ls) (sym (append-nil l.behind));
}

module _ (w : World) (place : ℕ) (g : ScriptGroup) (host : HostNo) (asked : Asked) where
  abbrev pub it : Asking
  it = ask w (placed place g) host asked Never

  abbrev pub made : PortTurn
  made = port_turn w host.0 asked (Some (placed place g))

  turn_calls : (said : Said) (v : World) (calls : ℕ) → (turn_by v g host calls said).calls ≡ calls
  turn_calls (saids.Reply r) v calls = refl
  turn_calls (saids.Stopped decision) v calls = refl
  turn_calls saids.Down v calls = refl

  module _ (said : Said) (mid : World) (before now : ℕ) (had : HasAsked it said mid before now) where
    -- the group stands there with the request
    pub stands_in : slice_get w.groups place ≡ Some g → slice_get mid.groups place ≡ Some (acted g (request_at w host asked Never))
    stands_in there =
        subst (λ (v : World). slice_get v.groups place ≡ Some (acted g (request_at w host asked Never))) (sym had.world)
        (get_set w.groups place (acted g (request_at w host asked Never)) g there)

    made_is : made ≡ turn_by mid g host it.calls said
    made_is = ap (λ (v : World). turn_by v g host it.calls it.said) (sym had.world) ∙ ap (λ (s : Said). turn_by mid g host it.calls s) (sym had.said)

    -- what was said is a reply, and this came of it
    pub replied_so : (reply : HostReply) (result : Result PortAnswer NoMemory) (new : World) (old later : Lines) → said ≡ saids.Reply reply →
        IsTurn (turn_by mid g host it.calls (saids.Reply reply)) result new old later → IsTurn made result new old later
    replied_so reply result new old later is turn =
        subst (λ (t : PortTurn). IsTurn t result new old later) (sym (made_is ∙ ap (λ (s : Said). turn_by mid g host it.calls s) is)) turn

    -- it said nothing
    pub silent_so : (s : Said) → said ≡ s → IsSilent s → (l : Lines) → HasTurn made answers.NoGroup mid l l
    silent_so (saids.Reply r) is other l = absurd other
    silent_so (saids.Stopped decision) is other l =
        subst (λ (t : PortTurn). HasTurn t answers.NoGroup mid l l) (sym (made_is ∙ ap (λ (s : Said). turn_by mid g host it.calls s) is)) (unheard mid it.calls l)
    silent_so saids.Down is other l =
        subst (λ (t : PortTurn). HasTurn t answers.NoGroup mid l l) (sym (made_is ∙ ap (λ (s : Said). turn_by mid g host it.calls s) is)) (unheard mid it.calls l)

    pub counted_so : now ≡ before + made.calls
    counted_so = had.calls ∙ ap (λ (n : ℕ). before + n) (sym (ap (λ (t : PortTurn). t.calls) made_is ∙ turn_calls said mid it.calls))

    -- its orders may be sent
    pub sent_so : (reply : HostReply) → said ≡ saids.Reply reply → slice_get w.groups place ≡ Some g → CanBeSaid mid.groups g.id said →
        (h : ScriptGroup) → slice_get mid.groups place ≡ Some h → CanBeSent mid.groups h.id reply
    sent_so reply is there can h at =
        let same : acted g (request_at w host asked Never) ≡ h = same_some (acted g (request_at w host asked Never)) h (sym (stands_in there) ∙ at) in
        subst (λ (x : ScriptGroup). CanBeSent mid.groups x.id reply) same (subst (λ (s : Said). CanBeSaid mid.groups g.id s) is can)

  -- memory was wanted for it
  pub short_so : (before now : ℕ) → now ≤ before + it.calls → now ≤ before + made.calls
  short_so before now calls = subst (λ (n : ℕ). now ≤ before + n) (sym (turn_calls it.said it.world it.calls)) calls

-- no group has this key
pub none_so : (w : World) (host : HostNo) (before later behind : List ReportLine) → later ≡ before ++ reports.NoGroup host ∷ [] →
    HasTurn (no_group_turn w host.0) answers.NoGroup w (lines_at before behind) (lines_at later behind)
none_so w host before later behind is = record {
  answer = refl;
  world = refl;
  lines = ap (λ (ls : List ReportLine). lines_at ls behind) is ∙ ap (λ (ls : List ReportLine). lines_at (before ++ reports.NoGroup host ∷ []) ls) (sym (append-nil behind));
}
