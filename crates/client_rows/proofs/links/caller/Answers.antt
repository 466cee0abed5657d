use Rattle.std.proofs.Common.{◌≡◌, Bool, true, false, cond, List, [], ◌∷◌, ◌++◌}
use Rattle.std.specs.Prelude.{is_ok}
use Rattle.std.specs.List.{All}
use Rattle.std.proofs.lemmas.List.Elements.{All-push, All-same}
use Rattle.outside_links.specs.Wires.{IsFresh, Wire}
use Rattle.client_rows.proofs.links.caller.Goals as goal

all_fresh : (pushed : Bool) (old new : List Wire) (link : Wire) → new ≡ cond pushed (old ++ link ∷ []) old → All IsFresh old → IsFresh link → All IsFresh new
all_fresh true old new link is all fresh = All-same IsFresh new (old ++ link ∷ []) is (All-push IsFresh old link all fresh)
all_fresh false old new link is all fresh = All-same IsFresh new old is all

pub loop-word-preserved : goal.loop-word-preserved
loop-word-preserved c = all_fresh (is_ok c.push_back.result) c.loop-word.links.items c.push_back.new.self.items c.in_ok-link.link c.push_back.ensures.items c.loop-word.invariant c.in_ok-link.ensures
