use Rattle.std.proofs.Common.{◌∙◌, sym}
use Rattle.iogr_reference.specs.declared.references.GroupRef.{GroupRef as AReference}
use Rattle.script_clients.specs.Clients.{is_of}
use Rattle.script_clients.proofs.Taking.{none_found, none_goes, taken}
use Rattle.script_clients.proofs.references.take_from.Goals as goal

pub returns-in-None-clause-first : goal.returns-in-None-clause-first
returns-in-None-clause-first c = none_found (λ (r : AReference). is_of c.args.group r) c.args.references.now.items (sym c.place_in.ensures ∙ c.in-None.is)

pub returns-in-None-clause-rest : goal.returns-in-None-clause-rest
returns-in-None-clause-rest c = none_goes (λ (r : AReference). is_of c.args.group r) c.args.references.now.items (sym c.place_in.ensures ∙ c.in-None.is)

pub drop_from-requires : goal.drop_from-requires
drop_from-requires c =
    (taken (λ (r : AReference). is_of c.args.group r) c.args.references.now.items c.in-Some.place _ c.remove-first.result c.remove-first.new.self.items
    (sym c.place_in.ensures ∙ c.in-Some.is) c.args.references.now.ok.0 c.remove-first.ensures.variant c.remove-first.ensures.value c.remove-first.ensures.items).front

pub returns-in-Some-clause-first : goal.returns-in-Some-clause-first
returns-in-Some-clause-first c =
    (taken (λ (r : AReference). is_of c.args.group r) c.args.references.now.items c.in-Some.place _ c.remove-first.result c.remove-first.new.self.items
    (sym c.place_in.ensures ∙ c.in-Some.is) c.args.references.now.ok.0 c.remove-first.ensures.variant c.remove-first.ensures.value c.remove-first.ensures.items).first

pub returns-in-Some-clause-rest : goal.returns-in-Some-clause-rest
returns-in-Some-clause-rest c =
    c.drop_from.ensures.items
    ∙ (taken (λ (r : AReference). is_of c.args.group r) c.args.references.now.items c.in-Some.place _ c.remove-first.result c.remove-first.new.self.items
    (sym c.place_in.ensures ∙ c.in-Some.is) c.args.references.now.ok.0 c.remove-first.ensures.variant c.remove-first.ensures.value c.remove-first.ensures.items).others
