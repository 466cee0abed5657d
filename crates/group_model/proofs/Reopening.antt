-- A sound group whose log was opened again is sound.
use Rattle.std.proofs.Common.{true, arith}
use Rattle.ft_base.specs.Machine.{Machine}
use Rattle.group_model.specs.Agreeing.{IsSound, IsSoundCommon}
use Rattle.group_model.specs.Plain.{Common, Group}
use Rattle.group_model.specs.Reopening.{reopened, reopened_common}
use Rattle.group_model.proofs.Placing.{blank_sound}

common_reopened : (m : Machine) (c : Common) → IsSoundCommon m c → IsSoundCommon m (reopened_common c)
common_reopened m c s = record {
  opens = s.opens;
  views = s.views;
  kept = record { some = s.views.some; last = omega arith };
  journal = s.journal;
  numbers = record { mark = omega arith; ran = omega (arith, s.numbers.mark, s.numbers.ran); fresh = s.numbers.fresh };
}

pub reopened_sound : (m : Machine) (g : Group) → IsSoundCommon m g.common → IsSound m (reopened g)
reopened_sound m g s =
    record { common = common_reopened m g.common s; hosts = λ i. blank_sound (reopened_common g.common) true }
