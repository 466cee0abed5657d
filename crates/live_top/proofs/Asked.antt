-- A run that words ask for can be made: it has at most 16 hosts, and the host that is to be killed is one of them.
use Rattle.std.proofs.Common.{◌≡◌, ◌≤◌, ◌<◌, ◌&&◌, ◌-◌, ◌↔◌, ℕ, Bool, true, false, refl, subst, arith, suc, List, [], ◌∷◌, length, take, drop, get_or, map, codes, Option, Some, None, Result, Ok, Err}
use Rattle.std.specs.Prelude.{nat_le, if◌then◌else◌, option_and_then, option_map, string_bytes, IfOk, IfSome}
use Rattle.std.specs.declared.alloc.Global.{Global}
use Rattle.std.specs.declared.string.String.{String}
use Rattle.std.proofs.lemmas.List.{take_all}
use Rattle.std.proofs.lemmas.Bool.{and_parts, leb-true}
use Rattle.ft_base.specs.declared.memory.NoMemory.{NoMemory}
use Rattle.ft_base.specs.declared.numbers.HostNo.{HostNo}
use Rattle.live_monitor.specs.Monitored.{can_be_killed}
use Rattle.live_run.specs.Runs.{CanRun}
use Rattle.live_words.specs.Words.{Asks, Text, number_in}
use Rattle.live_words.specs.Words as words
use Rattle.live_words.specs.declared.asking.LiveWords.{LiveWords}
use Rattle.live_top.specs.Headline.{AsksFor}

few : (low high : ℕ) (n : Option ℕ) → IfSome (option_and_then (λ n. if nat_le low n && nat_le n high then Some n else None) n) (λ m. m ≤ high)
few low high None = tt
few low high (Some n) = go (nat_le low n && nat_le n high) refl
  where
    go : (b : Bool) → (nat_le low n && nat_le n high) ≡ b → IfSome (if nat_le low n && nat_le n high then Some n else None) (λ m. m ≤ high)
    go true is = rw is (leb-true n high (and_parts (nat_le low n) (nat_le n high) is).1)
    go false is = rw is tt

few_in : (low high : ℕ) (word : Option Text) → IfSome (option_and_then (number_in low high) word) (λ m. m ≤ high)
few_in low high None = tt
few_in low high (Some word) = few low high _

abbrev IsHost : Option HostNo → Type 0
IsHost None = Unit {0}
IsHost (Some host) = host.0 < 64

kills_host : (hosts : ℕ) → hosts ≤ 16 → (word : Option Text) → IfSome (words.kill_of hosts word) IsHost
kills_host hosts most None = tt
kills_host hosts most (Some word) = go (number_in 0 (hosts - 1) word) (few_in 0 (hosts - 1) (Some word))
  where
    go : (o : Option ℕ) → IfSome o (λ m. m ≤ hosts - 1) → IfSome (option_map (λ n. Some (record { 0 = n })) o) IsHost
    go None h = tt
    go (Some n) h = omega (arith, h, most)

can_kill : (live : LiveWords) (kill : Option HostNo) → IsHost kill → can_be_killed (option_map (λ host. record { host = host; after = live.after }) kill)
can_kill live None h = tt
can_kill live (Some host) h = h

can_run : (rest : List Text) (live : LiveWords) → Asks rest live → CanRun live
can_run rest live asks =
    let value = words.value_of asks.given in
    let most : live.hosts ≤ 16 = subst (λ o. IfSome o (λ m. m ≤ 16)) asks.asked.hosts (few_in 1 16 (value (codes "hosts"))) in
    let host : IsHost live.kill = subst (λ o. IfSome o IsHost) asks.asked.kill (kills_host live.hosts most (value (codes "kill"))) in
    record { hosts = most; kill = can_kill live live.kill host }

-- the first word, and those behind it
pub words_front : (words : List (String Global)) (first d : String Global) → 1 ≤ length words → first ≡ get_or words 0 d
    → map string_bytes words ≡ string_bytes first ∷ map string_bytes (take (length words - 1) (drop 1 words))
words_front [] first d some same = absurd (omega arith)
words_front (x ∷ xs) first d some same =
    let all : take (suc (length xs) - 1) xs ≡ xs = take_all _ xs (omega arith) in
    rw (same, all)

-- What was read of the words behind `live` is what all words ask for.
pub asked_can : (rest : List Text) (read : Result (Option LiveWords) NoMemory)
    → IfOk read (λ read. (live : LiveWords) → (read ≡ Some live) ↔ Asks rest live) → IfOk read (λ asked. IfSome asked CanRun)
asked_can rest (Ok None) h = tt
asked_can rest (Ok (Some live)) h = can_run rest live ((h live).0 refl)
asked_can rest (Err fault) h = tt

pub asked_for : (first : Text) (rest : List Text) (read : Result (Option LiveWords) NoMemory) → first ≡ codes "live"
    → IfOk read (λ read. (live : LiveWords) → (read ≡ Some live) ↔ Asks rest live)
    → IfOk read (λ asked. (live : LiveWords) → (asked ≡ Some live) ↔ AsksFor (first ∷ rest) live)
asked_for first rest (Ok read) is h = λ live. (λ e. (is, (h live).0 e), λ asks. (h live).1 asks.1)
asked_for first rest (Err fault) is h = tt
