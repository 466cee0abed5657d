use Rattle.std.proofs.Common.{◌≡◌, take}
use Rattle.std.specs.Prelude.{map}
use Rattle.iogr_reference.specs.Formats.{AreShort}
use Rattle.iogr_reference.specs.Views.{profile_of_host}
use Rattle.iogr_reference.proofs.views.profiles_of.Given as goal

-- the profiles so far
abbrev pub invariant-loop-host : goal.invariant-loop-host
invariant-loop-host l = record {
  read : l.profiles.items ≡ map (profile_of_host l.group l.view l.ports) (take l.host-index l.host-items);
  short : AreShort l.profiles.items;
}
