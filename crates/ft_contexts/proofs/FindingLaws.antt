-- The contexts are found exactly where each stands at most once and encapsulates its value.
use Rattle.std.proofs.Common.{◌≡◌, ℕ, Bool, true, false, cond, List, Option, Some, None, Result, Ok, Err, IfOk, refl, sym, ap, subst, ◌∙◌}
use Rattle.cdr_codec.specs.declared.faults.CdrWhy.{CdrWhy}
use Rattle.cdr_codec.specs.declared.faults.CdrWhy.TheVariants.{Short}
use Rattle.cdr_codec.specs.Reading.{Fault}
use Rattle.cdr_codec.specs.Formats.{Format}
use Rattle.cdr_codec.specs.Laws.{IsCodec}
use Rattle.cdr_codec.specs.Calls.{Tells, Refuses}
use Rattle.cdr_codec.proofs.CodecLaws.{told_found, told_refused}
use Rattle.cdr_codec.proofs.Steps.{bind_ok, bind_goes, ok_is, ok_err, err_ok}
use Rattle.ft_contexts.specs.declared.lists.TheConstants.{FT_GROUP_VERSION, FT_REQUEST}
use Rattle.ft_contexts.specs.declared.lists.Context.{Context}
use Rattle.ft_contexts.specs.declared.lists.FtContexts.{FtContexts}
use Rattle.ft_contexts.specs.declared.faults.ContextFault.{ContextFault}
use Rattle.ft_contexts.specs.declared.faults.ContextFault.TheVariants.{Twice, Bad}
use Rattle.cdr_codec.specs.Encapsulations.{held}
use Rattle.cdr_codec.proofs.EncapsulationLaws.{held_found, held_again}
use Rattle.ft_contexts.specs.Contents.{group_version, request}
use Rattle.cdr_codec.specs.Tagged.{content_of}
use Rattle.ft_contexts.specs.Lists.{context_parts}
use Rattle.ft_contexts.specs.Finding.{stands_twice, or_bad, found_in, found_by, contexts_of, IsFoundIn, AreFound, wrong_contexts}
use Rattle.ft_contexts.proofs.ContentLaws.{group_version_codec, request_codec}

record IsHeld {X : Type 0} (value : Result X (Fault CdrWhy)) (found : Option X) : Type 0 where
  pub x : X
  pub is : found ≡ Some x
  pub value_is : value ≡ Ok x

or_bad_ok : {X : Type 0} (id : ℕ) (value : Result X (Fault CdrWhy)) (found : Option X) → or_bad id value ≡ Ok found → IsHeld value found
or_bad_ok id (Ok x) found e = record { x = x; is = sym (ok_is (Some x) found e); value_is = refl }
or_bad_ok id (Err wrong) found e = absurd (err_ok found (Bad id wrong.place) e)

none_of : {X : Type 0} (f : Format CdrWhy X) (found : Option X) → None ≡ found → IsFoundIn f None found
none_of f None e = tt
none_of f (Some x) e = absurd cc

is_found_in : {X : Type 0} (f : Format CdrWhy X) → IsCodec Short f → (id : ℕ) (content : Option (List ℕ)) (found : Option X)
    → found_in f id content ≡ Ok found → IsFoundIn f content found
is_found_in {X} f law id None found e = none_of f found (ok_is None found e)
is_found_in {X} f law id (Some piece) found e =
    let h = or_bad_ok id (held f piece) found e in
    subst (λ (o : Option X). IsFoundIn f (Some piece) o) (sym h.is) (held_found f law piece h.x h.value_is)

found_in_is : {X : Type 0} (f : Format CdrWhy X) → IsCodec Short f → (id : ℕ) (content : Option (List ℕ)) (found : Option X)
    → IsFoundIn f content found → found_in f id content ≡ Ok found
found_in_is f law id None None h = refl
found_in_is f law id None (Some x) h = absurd h
found_in_is f law id (Some piece) None h = absurd h
found_in_is f law id (Some piece) (Some x) h = ap (or_bad id) (held_again f law piece x h)

neither_twice : (b c : Bool) (rest : Result FtContexts ContextFault) (found : FtContexts)
    → cond b (Err (Twice FT_GROUP_VERSION)) (cond c (Err (Twice FT_REQUEST)) rest) ≡ Ok found → (b ≡ false) × (c ≡ false) × (rest ≡ Ok found)
neither_twice true c rest found e = absurd (err_ok found (Twice FT_GROUP_VERSION) e)
neither_twice false true rest found e = absurd (err_ok found (Twice FT_REQUEST) e)
neither_twice false false rest found e = (refl, refl, e)

pub are_found : (contexts : List Context) (found : FtContexts) → contexts_of contexts ≡ Ok found → AreFound contexts found
are_found contexts found e =
    let once = neither_twice (stands_twice FT_GROUP_VERSION contexts) (stands_twice FT_REQUEST contexts) _ found e in
    let v = bind_ok (found_by group_version FT_GROUP_VERSION contexts) _ found once.2 in
    let k = bind_ok (found_by request FT_REQUEST contexts) _ found v.2 in
    let is = ok_is (record { version = v.0; key = k.0 }) found k.2 in
    subst (AreFound contexts) is (record {
      one_version = once.0;
      one_key = once.1;
      version = is_found_in group_version group_version_codec FT_GROUP_VERSION (content_of context_parts FT_GROUP_VERSION contexts) v.0 v.1;
      key = is_found_in request request_codec FT_REQUEST (content_of context_parts FT_REQUEST contexts) k.0 k.1;
    })

passes : (b c : Bool) (rest : Result FtContexts ContextFault) (found : FtContexts)
    → b ≡ false → c ≡ false → rest ≡ Ok found → cond b (Err (Twice FT_GROUP_VERSION)) (cond c (Err (Twice FT_REQUEST)) rest) ≡ Ok found
passes b c rest found e d h = rw (e, d) h

pub found_are : (contexts : List Context) (found : FtContexts) → AreFound contexts found → contexts_of contexts ≡ Ok found
found_are contexts found a =
    passes (stands_twice FT_GROUP_VERSION contexts) (stands_twice FT_REQUEST contexts) _ found a.one_version a.one_key
    (bind_goes (found_by group_version FT_GROUP_VERSION contexts) _ found.version _ (found_in_is group_version group_version_codec FT_GROUP_VERSION (content_of context_parts FT_GROUP_VERSION contexts) found.version a.version)
    (bind_goes (found_by request FT_REQUEST contexts) _ found.key _ (found_in_is request request_codec FT_REQUEST (content_of context_parts FT_REQUEST contexts) found.key a.key) refl))

-- ---- a call's answers

abbrev pub TellsContexts : List Context → Result FtContexts ContextFault → Type 0
TellsContexts contexts result = Tells (λ found. found) wrong_contexts result (contexts_of contexts)

pub is_found : (contexts : List Context) (result : Result FtContexts ContextFault) → TellsContexts contexts result → IfOk result (AreFound contexts)
is_found contexts result h = told_found (λ found. found) wrong_contexts result (contexts_of contexts) (AreFound contexts) (are_found contexts) h

pub is_refused : (contexts : List Context) (result : Result FtContexts ContextFault) → TellsContexts contexts result
    → Refuses wrong_contexts result ((found : FtContexts) → AreFound contexts found → ⊥)
is_refused contexts result h =
    told_refused (λ found. found) wrong_contexts result (contexts_of contexts) ((found : FtContexts) → AreFound contexts found → ⊥)
    (λ wrong e found a. ok_err found wrong (sym (found_are contexts found a) ∙ e)) h
