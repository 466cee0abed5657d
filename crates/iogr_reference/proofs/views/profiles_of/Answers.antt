use Rattle.std.proofs.Common.{◌∙◌, ◌++◌, ◌∷◌, [], List, ap, sym, map, take}
use Rattle.std.proofs.lemmas.List.{map_more}
use Rattle.std.proofs.lemmas.List.Elements.{All-push}
use Rattle.iogr_reference.specs.declared.references.Profile.{Profile}
use Rattle.cdr_codec.specs.Tagged.{IsShort}
use Rattle.iogr_reference.specs.Formats.{profile_parts}
use Rattle.iogr_reference.specs.Views.{profile_of_host}
use Rattle.iogr_reference.proofs.views.profiles_of.Goals as goal

pub loop-host-preserved : goal.loop-host-preserved
loop-host-preserved c =
    let f = profile_of_host c.args.group c.args.view.now c.args.ports.now in
    let hosts = c.hosts-host-items.result.now in
    let i = c.loop-host.host-index in
    record {
      read = c.in_ok-push.ensures.items
          ∙ ap (λ (l : List Profile). l ++ c.in_ok-profile.profile ∷ []) c.loop-host.invariant.read
          ∙ ap (λ (p : Profile). map f (take i hosts) ++ p ∷ []) c.in_ok-profile.ensures.profile
          ∙ sym (map_more f hosts i 0 c.loop-host-test.true);
      short = rw c.in_ok-push.ensures.items
          (All-push (IsShort profile_parts) c.loop-host.profiles.items c.in_ok-profile.profile c.loop-host.invariant.short c.in_ok-profile.ensures.short);
    }
