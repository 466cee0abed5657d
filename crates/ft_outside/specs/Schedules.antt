-- Which calls of a form in memory fail.
use Rattle.std.specs.Prelude.{ℕ, ◌==◌, Bool, List}
use Rattle.std.specs.List.{list_any}
use Rattle.ft_outside.specs.Outside.{next_count}

pub record Schedule : Type 0 where
  -- how many calls there were
  pub calls : ℕ
  -- the numbers of the calls that are to fail, from 1
  pub fails : List ℕ
  -- how many faults there were
  pub faults : ℕ

-- a schedule before the first call
abbrev pub schedule_of : List ℕ → Schedule
schedule_of fails = record { calls = 0; fails = fails; faults = 0 }

-- the next call is to fail
abbrev pub is_failing : Schedule → Bool
is_failing s = list_any (λ number. number == next_count s.calls) s.fails

-- a schedule after a call that didn't fail
abbrev pub after_call : Schedule → Schedule
after_call s = record s { calls = next_count s.calls }

-- a schedule after a call that failed
abbrev pub after_fault : Schedule → Schedule
after_fault s = record s { calls = next_count s.calls; faults = next_count s.faults }

-- a schedule after a fault that is no numbered call
abbrev pub after_stray : Schedule → Schedule
after_stray s = record s { faults = next_count s.faults }
