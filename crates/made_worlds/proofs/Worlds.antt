-- The worlds of a made script: what there is in each, and what their totals allow. All totals are bounded by the number of
-- messages, which is exact at each line.
use Rattle.std.proofs.Common.{◌≡◌, ℕ, zero, suc, ◌+◌, ◌*◌, ◌-◌, ◌≤◌, arith, false, nat_lt, if◌then◌else◌, List, [], ◌∷◌, ◌++◌, append_assoc, length, Option, Some, None, refl, ap, sym, subst, ◌∙◌, codes}
use Rattle.std.proofs.lemmas.Bool.Decides.{nat_tests}
use Rattle.std.specs.Prelude.{◌==◌, slice_get}
use Rattle.fault_script.specs.declared.lines.LimitName.TheVariants as limits
use Rattle.fault_script.specs.declared.lines.Line.{Line}
use Rattle.fault_script.specs.declared.lines.LineFault.{LineFault}
use Rattle.fault_script.specs.declared.lines.LineFault.TheVariants.{Limit}
use Rattle.ft_base.specs.declared.views.Style.TheVariants.{Warm}
use Rattle.ft_report.specs.declared.reports.ReportLine.{ReportLine}
use Rattle.ft_world.specs.Acts.{act, act_first}
use Rattle.property_manager.specs.Groups.{Settings, nothing_set}
use Rattle.script_clients.specs.Clients.{Client}
use Rattle.script_groups.specs.Groups.{ScriptGroup, common_of, placed}
use Rattle.script_groups.specs.declared.happenings.Happening.{Happening}
use Rattle.script_monitor.specs.Watches.{nobody}
use Rattle.script_subscribers.specs.Subscribers.{Subscribers}
use Rattle.script_world.specs.World.{World, adopted, at_most_one_past, message_numbered}
use Rattle.script_world.specs.declared.hosts.HostState.{HostState}
use Rattle.script_world.specs.declared.limits.TheConstants.{BYTE_LIMIT, ENTRY_LIMIT, MESSAGE_LIMIT}
use Rattle.fault_notifier.specs.declared.limits.TheConstants.{EVENT_LIMIT}
use Rattle.script_world.specs.declared.messages.Message.{Message}
use Rattle.world_management.specs.Making.{style_criteria}
use Rattle.world_turns.specs.Naming.{There, group_called, group_with_number, naming_of}
use Rattle.world_turns.specs.Turns.{Turn, Goes, judged, first_cause, total_causes, totals_of, unless, cause}
use Rattle.made_worlds.specs.Going.{AllGo, LeadsTo}
use Rattle.made_worlds.proofs.Happened.{bank_after}
use Rattle.made_worlds.proofs.Replies.{MOST}

-- what may differ from one world of the script to the next; the group's properties are set when it is made
pub record State : Type 0 where
  pub clock : ℕ
  pub hosts : List HostState
  pub past : List Happening
  pub clients : List Client
  pub messages : List Message
  pub subscribers : Subscribers
  pub bytes : ℕ

abbrev pub bank_settings : Settings
bank_settings = adopted nothing_set (bank_after []) (style_criteria Warm)

abbrev pub world : State → World
world s = record {
  clock = s.clock;
  hosts = s.hosts;
  groups = bank_after s.past ∷ [];
  clients = s.clients;
  messages = s.messages;
  settings = bank_settings;
  watch = nobody;
  subscribers = s.subscribers;
  bytes = s.bytes;
}

abbrev pub bank_at : State → ScriptGroup
bank_at s = bank_after s.past

-- ---- its group

pub called : (s : State) → group_called (world s) (codes "bank") ≡ There (placed 0 (bank_at s))
unfolding naming_of
called s = refl

pub numbered : (s : State) → group_with_number (world s) 1 ≡ There (placed 0 (bank_at s))
unfolding naming_of
numbered s = refl

-- ---- totals

-- more messages than a made script sends
abbrev pub MANY : ℕ
MANY = 250005

-- So many messages were sent. No more requests were accepted, and none of the messages is too long.
pub record Fits (sent : ℕ) (s : State) : Type 0 where
  pub messages : length s.messages ≡ sent
  pub entries : length (common_of (bank_at s)).journal ≤ sent
  pub bytes : s.bytes ≤ MOST * sent
  pub faults : s.subscribers.faults ≤ 1

pub not_below : (a b : ℕ) → b ≤ a → nat_lt a b ≡ false
not_below a b le = grind (arith, nat_tests)

within : (sent : ℕ) (s : State) → sent ≤ MANY → Fits sent s → first_cause (total_causes (totals_of (world s))) ≡ None
within sent s few fits =
    let entries = not_below ENTRY_LIMIT (0 + length (common_of (bank_at s)).journal) (omega (arith, few, fits.entries)) in
    let sends = not_below MESSAGE_LIMIT (length s.messages) (omega (arith, few, fits.messages)) in
    let bytes = not_below BYTE_LIMIT s.bytes (omega (arith, few, fits.bytes)) in
    let faults = not_below EVENT_LIMIT s.subscribers.faults (omega (arith, fits.faults)) in
    λ i. first_cause (
    cause (entries i) (Limit limits.Entries) ∷ cause (sends i) (Limit limits.Messages)
    ∷ cause (bytes i) (Limit limits.Bytes) ∷ cause (faults i) (Limit limits.Faults) ∷ [])

-- bytes are counted up to a limit
pub counted_most : (bytes : ℕ) → at_most_one_past bytes ≤ bytes
counted_most bytes = grind (arith, nat_tests)

pub counted_few : (bytes sent more : ℕ) → bytes ≤ MOST * sent → more ≤ MOST → at_most_one_past (bytes + more) ≤ MOST * (sent + 1)
counted_few bytes sent more few short = omega (arith, counted_most (bytes + more), few, short)

-- ---- lines

-- what a line makes of such a world
pub record Does (s : State) (line : Line) (next : State) : Type 0 where
  pub report : List ReportLine
  pub calls : ℕ
  pub is : act_first (world s) line ≡ Goes (world next) report calls

-- it isn't refused where its totals allow it
one_goes : (s : State) (line : Line) (more : List Line) (next : State) (sent : ℕ) → Does s line next → sent ≤ MANY → Fits sent next →
    AllGo (world next) more → AllGo (world s) (line ∷ more)
unfolding AllGo
one_goes s line more next sent does few fits all =
    let turn : act (world s) line ≡ Goes (world next) does.report does.calls =
    ap judged does.is ∙ ap (λ (why : Option LineFault). unless why does.calls (Goes (world next) does.report does.calls)) (within sent next few fits) in
    subst (λ (t : Turn). LeadsTo t (λ next. AllGo next more)) (sym turn) all

-- lines lead from one world to another, whatever follows
abbrev pub Leads : State → List Line → State → Type 0
Leads s ls next = (more : List Line) → AllGo (world next) more → AllGo (world s) (ls ++ more)

pub first_leads : (s : State) (line : Line) (ls : List Line) (next end : State) (sent : ℕ) → Does s line next → sent ≤ MANY → Fits sent next → Leads next ls end → Leads s (line ∷ ls) end
first_leads s line ls next end sent does few fits rest more all = one_goes s line (ls ++ more) next sent does few fits (rest more all)

pub none_lead : (s : State) → Leads s [] s
none_lead s more all = all

pub leads_on : (s : State) (xs ys : List Line) (next end : State) → Leads s xs next → Leads next ys end → Leads s (xs ++ ys) end
leads_on s xs ys next end first rest more all =
    subst (AllGo (world s)) (sym (append_assoc xs ys more)) (first (ys ++ more) (rest more all))

-- ---- messages by their numbers

pub sent_at : (ms more : List Message) (m : Message) (k : ℕ) → length ms ≡ k → slice_get (ms ++ m ∷ more) k ≡ Some m
sent_at ms more m k is = ap (slice_get (ms ++ m ∷ more)) (sym is) ∙ go ms
  where
    go : (ms : List Message) → slice_get (ms ++ m ∷ more) (length ms) ≡ Some m
    go [] = refl
    go (x ∷ xs) = go xs

pub sent_before : (ms more : List Message) (k : ℕ) (m : Message) → slice_get ms k ≡ Some m → slice_get (ms ++ more) k ≡ Some m
sent_before [] more k m at = absurd cc
sent_before (x ∷ xs) more zero m at = at
sent_before (x ∷ xs) more (suc k) m at = sent_before xs more k m at

-- they are numbered from 1
pub by_number : (s : State) (k : ℕ) (m : Message) → slice_get s.messages k ≡ Some m → message_numbered (world s) (k + 1) ≡ Some m
by_number s k m at =
    let some : ((k + 1) == 0) ≡ false = grind arith in
    let back : k + 1 - 1 ≡ k = omega arith in
    (λ i. if some i then None else slice_get s.messages (back i)) ∙ at
