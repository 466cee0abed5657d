-- Ports for tests. One has an object and no group, and keeps what it writes; the passes of the other count their turns.
use Rattle.std.specs.Prelude.{◌≡◌, ℕ, ◌+◌, ◌==◌, if◌then◌else◌, List, [], ◌∷◌, ◌++◌, codes}
use Rattle.std.specs.Str.{bytes_eq}
use Rattle.host_server.specs.declared.answers.PortAnswer.TheVariants.{NoGroup}
use Rattle.link_session.specs.Exchanges.{Exchange, Look, Request}
use Rattle.link_session.specs.Ports.{Port, written_by}

abbrev pub kept : List (List ℕ) → List ℕ → List (List ℕ)
kept all bytes = all ++ bytes ∷ []

abbrev pub lonely : Port (List (List ℕ))
lonely = record {
  ask = λ all key asked reply. written_by kept all (reply NoGroup);
  here = λ all key. bytes_eq key (codes "k");
  write = kept;
}

-- one more, as far as a count goes
abbrev pub counted_on : ℕ → ℕ
counted_on n = if n == 4294967295 then n else n + 1

-- a pass that counts requests and looks
abbrev pub counted : ℕ × ℕ → Exchange → ℕ × ℕ → Type 0
counted old (Request host key asked answer) new = new ≡ (counted_on old.0, old.1)
counted old (Look host key here) new = new ≡ (old.0, counted_on old.1)
