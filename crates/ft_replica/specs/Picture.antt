-- What a contract sees of a replica, and what its calls make of that.
use Rattle.std.specs.Prelude.{ℕ, ◌+◌, Bool, true, false, List}
use Rattle.ft_base.specs.Machine.{Machine}
use Rattle.ft_base.specs.declared.requests.Request.{Request}

pub record Picture : Type 0 where
  -- the kind of its servant, which no call changes
  pub kind : ℕ
  pub loaded : Bool
  -- how many entries of the journal its state is behind, and how many that of the copy
  pub position : ℕ
  pub base : ℕ
  -- the state bytes of the servant, and of the copy at the base
  pub state : List ℕ
  pub copied : List ℕ

-- with the opening state, before any entry
abbrev pub opened : ℕ → List ℕ → Picture
opened kind state = record { kind = kind; loaded = true; position = 0; base = 0; state = state; copied = state }

-- one entry further: its request was run
abbrev pub one_further : Machine → Request → Picture → Picture
one_further machine request replica = record replica {
  position = replica.position + 1;
  state = (machine.step replica.state request).0;
}

-- loaded at a position with this state, which is its base
abbrev pub settled : ℕ → List ℕ → Picture → Picture
settled position state replica = record replica {
  loaded = true;
  position = position;
  base = position;
  state = state;
  copied = state;
}

-- its base is where it is
abbrev pub rebased : Picture → Picture
rebased replica = record replica { base = replica.position; copied = replica.state }

-- it counts for nothing until a state is loaded
abbrev pub blanked : Picture → Picture
blanked replica = record replica { loaded = false; position = 0; base = 0 }
