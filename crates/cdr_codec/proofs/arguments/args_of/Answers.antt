use Rattle.cdr_codec.specs.Arguments.{pars_of}
use Rattle.cdr_codec.proofs.BodyLaws.{is_form, is_canonical, is_no_body, stops}
use Rattle.std.specs.Prelude.{◌≤◌, ◌+◌, ℕ, List, length, IfOk, Result, Ok, Err}
use Rattle.cdr_codec.specs.Arguments.{IsFormOf}
use Rattle.cdr_codec.specs.declared.bodies.ArgsFault.{ArgsFault}
use Rattle.cdr_codec.specs.declared.bodies.Raw.{Raw}
use Rattle.ft_base.specs.declared.requests.Signature.{Signature}
use Rattle.cdr_codec.proofs.ArgumentSizes.{form_sized}
use Rattle.cdr_codec.proofs.arguments.args_of.Goals as goal

sized : (body : Raw) (signature : Signature) (r : Result (List ℕ) ArgsFault) → IfOk r (λ args. IsFormOf args body (pars_of signature))
    → IfOk r (λ args. length args ≤ length body.bytes + 7)
sized body signature (Ok args) found = form_sized body signature args found
sized body signature (Err e) found = tt

pub returns-clause-sized : goal.returns-clause-sized
returns-clause-sized c =
    sized c.args.body.now c.args.signature.now c.args_in.result
    (is_form c.args.body.now (pars_of c.args.signature.now) c.args_in.result (rw c.bytes.ensures at c.args_in.ensures.exact))

pub returns-clause-found : goal.returns-clause-found
returns-clause-found c = is_form c.args.body.now (pars_of c.args.signature.now) c.args_in.result (rw c.bytes.ensures at c.args_in.ensures.exact)

pub returns-clause-canonical : goal.returns-clause-canonical
returns-clause-canonical c = is_canonical (pars_of c.args.signature.now) c.args_in.result c.canonical_forms_are_of_values.ensures c.args_in.ensures.values

pub returns-clause-refused : goal.returns-clause-refused
returns-clause-refused c = is_no_body c.args.body.now (pars_of c.args.signature.now) c.args_in.result (rw c.bytes.ensures at c.args_in.ensures.exact)

pub returns-clause-place : goal.returns-clause-place
returns-clause-place c = stops c.args.body.now (pars_of c.args.signature.now) c.args_in.result (rw c.bytes.ensures at c.args_in.ensures.exact)

pub returns-clause-exact : goal.returns-clause-exact
returns-clause-exact c = rw c.bytes.ensures at c.args_in.ensures.exact
