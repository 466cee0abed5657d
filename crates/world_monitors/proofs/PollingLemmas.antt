-- Hosts one after another: who is watched, and who is asked.
use Rattle.std.proofs.Common.{◌≡◌, ℕ, zero, suc, ◌+◌, ◌<◌, ◌≤◌, arith, List, [], ◌∷◌, ◌++◌, length, take, Option, refl, sym, ap, ◌∙◌}
use Rattle.std.specs.Prelude.{map, slice_index_or}
use Rattle.std.specs.List.{range_with_len}
use Rattle.std.proofs.lemmas.List.{length-append}
use Rattle.fault_monitor.specs.Watching.{asked}
use Rattle.ft_base.specs.declared.numbers.GroupId.{GroupId}
use Rattle.ft_report.specs.declared.reports.ReportLine.{ReportLine}
use Rattle.ft_report.specs.declared.reports.ReportLine.TheVariants as reports
use Rattle.group_model.specs.Views.{host_no}
use Rattle.property_manager.specs.declared.numbers.IntervalAndTimeout.{IntervalAndTimeout}
use Rattle.script_groups.specs.Lists.{range_more}
use Rattle.script_monitor.specs.Watches.{Watches, told}
use Rattle.script_world.specs.World.{World, with_messages, with_watch}
use Rattle.script_world.specs.declared.messages.Message.{Message}
use Rattle.world_monitors.specs.Monitoring.{watched_at, watched_at_all}
use Rattle.world_monitors.specs.Polling.{all_asked, asks_all, ping, ping_lines, pings}
use Rattle.world_turns.specs.Answers.{HasDone}

-- ---- lists

join : {A : Type 0} (xs ys zs : List A) → (xs ++ ys) ++ zs ≡ xs ++ (ys ++ zs)
join [] ys zs = refl
join (x ∷ xs) ys zs = ap (λ rest. x ∷ rest) (join xs ys zs)

map_append : {A B : Type 0} (f : A → B) (xs ys : List A) → map f (xs ++ ys) ≡ map f xs ++ map f ys
map_append f [] ys = refl
map_append {B = B} f (x ∷ xs) ys = ap (λ (bs : List B). f x ∷ bs) (map_append f xs ys)

length_mapped : {A B : Type 0} (f : A → B) (xs : List A) → length (map f xs) ≡ length xs
length_mapped f [] = refl
length_mapped f (x ∷ xs) = ap suc (length_mapped f xs)

none_more : {A : Type 0} (xs : List A) → xs ++ [] ≡ xs
none_more [] = refl
none_more (x ∷ xs) = ap (λ rest. x ∷ rest) (none_more xs)

take_one_more : (xs : List ℕ) (i : ℕ) → i < length xs → take (suc i) xs ≡ take i xs ++ slice_index_or xs i 0 ∷ []
take_one_more [] i inside = absurd (omega (arith, inside))
take_one_more (x ∷ xs) zero inside = refl
take_one_more (x ∷ xs) (suc i) inside = ap (λ (rest : List ℕ). x ∷ rest) (take_one_more xs i (omega (arith, inside)))

pub take_next : (xs : List ℕ) (i : ℕ) → i < length xs → take (i + 1) xs ≡ take i xs ++ slice_index_or xs i 0 ∷ []
take_next xs i inside = ap (λ (k : ℕ). take k xs) (let same : i + 1 ≡ suc i = omega arith in same) ∙ take_one_more xs i inside

-- ---- watched hosts

module _ (group : ℕ) (members : List ℕ) (numbers : Option IntervalAndTimeout) where
  watched_last : (ws : Watches) (hosts : List ℕ) (host : ℕ) →
      watched_at_all ws group members numbers (hosts ++ host ∷ []) ≡ watched_at (watched_at_all ws group members numbers hosts) group members numbers host
  unfolding watched_at_all
  watched_last ws [] host = refl
  watched_last ws (h ∷ hosts) host = watched_last (watched_at ws group members numbers h) hosts host

  pub watched_more : (w now next : World) (host : ℕ) → now ≡ with_watch w (watched_at_all w.watch group members numbers (range_with_len 0 host)) →
      next ≡ with_watch now (watched_at now.watch group members numbers host) →
      next ≡ with_watch w (watched_at_all w.watch group members numbers (range_with_len 0 (host + 1)))
  watched_more w now next host now_is next_is =
      next_is
      ∙ ap (λ (v : World). with_watch v (watched_at v.watch group members numbers host)) now_is
      ∙ ap (with_watch w) (sym (watched_last w.watch (range_with_len 0 host) host))
      ∙ ap (λ (hs : List ℕ). with_watch w (watched_at_all w.watch group members numbers hs))
      (sym (ap (range_with_len 0) (let more : host + 1 ≡ suc host = omega arith in more) ∙ range_more 0 host host (omega arith)))

  pub none_watched : (w : World) → w ≡ with_watch w (watched_at_all w.watch group members numbers [])
  unfolding watched_at_all
  none_watched w = refl

-- ---- asked members

module _ (group : GroupId) (name : List ℕ) (w : World) where
  asked_last : (ws : Watches) (hosts : List ℕ) (host : ℕ) →
      all_asked ws group.0 w.clock (hosts ++ host ∷ []) ≡ told (all_asked ws group.0 w.clock hosts) group.0 host (asked w.clock)
  unfolding all_asked
  asked_last ws [] host = refl
  asked_last ws (h ∷ hosts) host = asked_last (told ws group.0 h (asked w.clock)) hosts host

  lines_last : (n : ℕ) (hosts : List ℕ) (host : ℕ) → ping_lines n name (hosts ++ host ∷ []) ≡ ping_lines n name hosts ++ reports.Ping (n + length hosts) (host_no host) name ∷ []
  unfolding ping_lines
  lines_last n [] host = ap (λ (k : ℕ). reports.Ping k (host_no host) name ∷ []) (let same : n ≡ n + 0 = omega arith in same)
  lines_last n (h ∷ hosts) host =
      ap (λ (ls : List ReportLine). reports.Ping n (host_no h) name ∷ ls)
      (lines_last (suc n) hosts host ∙ ap (λ (k : ℕ). ping_lines (suc n) name hosts ++ reports.Ping k (host_no host) name ∷ []) (let same : suc n + length hosts ≡ n + length (h ∷ hosts) = omega arith in same))

  -- the world, and what was printed, after some were asked
  abbrev pub asked_to : List ℕ → World
  asked_to hosts = with_messages (with_watch w (all_asked w.watch group.0 w.clock hosts)) (pings group hosts)

  abbrev pub printed_to : List ℕ → List ReportLine
  printed_to hosts = ping_lines (length w.messages + 1) name hosts

  pub none_asked : w ≡ asked_to []
  unfolding all_asked
  none_asked = ap (λ (ms : List Message). record w { messages = ms }) (sym (none_more w.messages))

  pub none_printed : [] ≡ printed_to []
  unfolding ping_lines
  none_printed = refl

  module _ (now next : World) (hosts : List ℕ) (host : ℕ) (now_is : now ≡ asked_to hosts) where
    pub asked_more : next ≡ with_messages (with_watch now (told now.watch group.0 host (asked now.clock))) (ping group host ∷ []) → next ≡ asked_to (hosts ++ host ∷ [])
    asked_more next_is =
        next_is
        ∙ ap (λ (v : World). with_messages (with_watch v (told v.watch group.0 host (asked v.clock))) (ping group host ∷ [])) now_is
        ∙ ap (λ (ms : List Message). record w { watch = told (all_asked w.watch group.0 w.clock hosts) group.0 host (asked w.clock); messages = ms }) sent
        ∙ ap (λ (ws : Watches). with_messages (with_watch w ws) (pings group (hosts ++ host ∷ []))) (sym (asked_last w.watch hosts host))
      where
        sent : (w.messages ++ pings group hosts) ++ ping group host ∷ [] ≡ w.messages ++ pings group (hosts ++ host ∷ [])
        sent = join w.messages (pings group hosts) (ping group host ∷ []) ∙ ap (λ (ms : List Message). w.messages ++ ms) (sym (map_append (ping group) hosts (host ∷ [])))

    pub printed_more : (before after : List ReportLine) → before ≡ printed_to hosts →
        after ≡ before ++ reports.Ping (length now.messages + 1) (host_no host) name ∷ [] → after ≡ printed_to (hosts ++ host ∷ [])
    printed_more before after so pushed =
        pushed
        ∙ ap (λ (ls : List ReportLine). ls ++ reports.Ping (length now.messages + 1) (host_no host) name ∷ []) so
        ∙ ap (λ (k : ℕ). printed_to hosts ++ reports.Ping k (host_no host) name ∷ []) number
        ∙ sym (lines_last (length w.messages + 1) hosts host)
      where
        number : length now.messages + 1 ≡ (length w.messages + 1) + length hosts
        number = omega (arith, ap (λ (v : World). length v.messages) now_is, length-append w.messages (pings group hosts), length_mapped (ping group) hosts)

-- all were asked
pub all_done : (group : GroupId) (name : List ℕ) (w now : World) (hosts done : List ℕ) (report : List ReportLine) (calls : ℕ) → done ≡ hosts →
    now ≡ asked_to group name w done → report ≡ printed_to group name w done → HasDone (asks_all w group name hosts) report now calls calls
all_done group name w now hosts done report calls are world printed = record {
  world = world ∙ ap (asked_to group name w) are;
  lines = printed ∙ ap (printed_to group name w) are;
  calls = omega arith;
}

pub take_all : (xs : List ℕ) (i : ℕ) → length xs ≤ i → take i xs ≡ xs
take_all [] zero past = refl
take_all [] (suc i) past = refl
take_all (x ∷ xs) zero past = absurd (omega (arith, past))
take_all (x ∷ xs) (suc i) past = ap (λ (rest : List ℕ). x ∷ rest) (take_all xs i (omega (arith, past)))
