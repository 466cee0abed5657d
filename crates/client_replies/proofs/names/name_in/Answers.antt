use Rattle.std.proofs.Common.{◌≡◌, ℕ, List, Option, Result, Ok, Err, IfOk}
use Rattle.ft_base.specs.declared.memory.NoMemory.{NoMemory}
use Rattle.iogr_reference.specs.Choices.{IsNameOf}
use Rattle.client_replies.specs.Heards.{name_in}
use Rattle.client_replies.proofs.NameLaws.{found_is}
use Rattle.client_replies.proofs.names.name_in.Goals as goal

each_found : (id : List ℕ) (r : Result (Option (List ℕ)) NoMemory) → IfOk r (IsNameOf id) → IfOk r (λ found. found ≡ name_in id)
each_found id (Ok found) h = found_is id found h
each_found id (Err e) h = tt

pub returns : goal.returns
returns c = each_found c.args.id.now c.name_of_id.result c.name_of_id.ensures
