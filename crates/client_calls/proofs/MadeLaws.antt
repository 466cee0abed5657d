-- So many calls, as they are told.
use Rattle.std.specs.Prelude.{OnOk, is_err}
use Rattle.std.proofs.Common.{◌≡◌, ℕ, ◌+◌, false, List, [], ◌∷◌, ◌++◌, length, Option, None, Result, Ok, Err, IfOk, refl, sym, ap, subst, ◌∙◌, arith, length-append}
use Rattle.ft_base.specs.declared.memory.NoMemory.{NoMemory}
use Rattle.ft_base.specs.declared.requests.Request.{Request}
use Rattle.iogr_reference.specs.declared.references.GroupRef.{GroupRef}
use Rattle.client_retry.specs.Clients.{new_client}
use Rattle.client_retry.specs.Counters.{Picture, StandsFor}
use Rattle.client_talk.specs.declared.lines.Line.{Line}
use Rattle.client_talk.specs.Talking.{AreTalks, Dialing, Talk, hung_up}
use Rattle.client_calls.specs.declared.answers.ToldCall.{ToldCall}
use Rattle.client_calls.specs.Calls.{AreCalled, IsCalled, IsResting, IsTold, Resting}
use Rattle.client_calls.specs.Requests.{deposit_of}
use Rattle.client_calls.proofs.CallLaws.{call_more}
use Rattle.client_calls.proofs.FaultLaws.{all_risen}

abbrev pub first : GroupRef → Dialing → Resting
first reference dialing = record { client = new_client; reference = reference; talk = None; dialing = dialing }

module _ {K : Type 0} (left holds : K → Option (List ℕ)) (faults : K → ℕ) (name : List ℕ) where
  -- so many calls were made, and a client rests behind them
  pub record AreMade (reference : GroupRef) (before : Dialing) (calls : List ToldCall) (held : GroupRef) (core : Picture) (line : Option (Line K)) (d : Dialing) : Type 0 where
    pub last : Resting
    pub goes_by : last.reference ≡ held
    pub called : AreCalled name 1 calls (first reference before) last
    pub rests : IsResting left holds faults core line d last

  pub none_made : (reference : GroupRef) (d : Dialing) (calls : List ToldCall) (core : Picture) → calls ≡ [] → StandsFor new_client core
      → AreMade reference d calls reference core None d
  none_made reference d calls core none stands = record {
    last = first reference d;
    goes_by = refl;
    called = subst (λ (cs : List ToldCall). AreCalled name 1 cs (first reference d) (first reference d)) (sym none) refl;
    rests = record { stands = stands; talks = tt; dials = refl };
  }

  -- one call more
  pub one_made : (reference : GroupRef) (before : Dialing) (calls all : List ToldCall) (held : GroupRef) (core : Picture) (line : Option (Line K)) (d : Dialing)
      → AreMade reference before calls held core line d
      → (done : ℕ) (request : Request) (call : ToldCall) (next : GroupRef) (after : Picture) (now : Option (Line K)) (e : Dialing) → length calls ≡ done
      → request ≡ deposit_of name (done + 1) → all ≡ calls ++ call ∷ []
      → (r : Result (ToldCall × GroupRef) NoMemory) → r ≡ Ok (call, next)
      → IfOk r (λ told. (s : Resting) → s.reference ≡ held → IsResting left holds faults core line d s
      → (t : Resting) × (t.reference ≡ told.1) × IsCalled request told.0 s t × IsResting left holds faults after now e t)
      → AreMade reference before all next after now e
  one_made reference before calls all held core line d made done request call next after now e count asked grown r is called =
      let t = (subst
      (λ (r : Result (ToldCall × GroupRef) NoMemory). IfOk r (λ told. (s : Resting) → s.reference ≡ held → IsResting left holds faults core line d s
      → (t : Resting) × (t.reference ≡ told.1) × IsCalled request told.0 s t × IsResting left holds faults after now e t))
      is called) made.last made.goes_by made.rests in
      record {
        last = t.0;
        goes_by = t.1;
        called = subst (λ (cs : List ToldCall). AreCalled name 1 cs (first reference before) t.0) (sym grown)
            (call_more name 1 (done + 1) calls call (first reference before) made.last t.0 (omega (arith, count)) made.called
            (subst (λ (q : Request). IsCalled q call made.last t.0) asked t.2));
        rests = t.3;
      }

  -- and its link went back
  pub all_told : (reference : GroupRef) (before : Dialing) (calls : List ToldCall) (held : GroupRef) (core : Picture) (line : Option (Line K)) (d e : Dialing) (count : ℕ)
      → AreMade reference before calls held core line d → length calls ≡ count
      → ((talk : Option Talk) → AreTalks left holds faults talk line → e ≡ hung_up talk d) → IsTold name reference count before e calls
  all_told reference before calls held core line d e count made many back =
      let gone : e ≡ hung_up made.last.talk made.last.dialing = back made.last.talk made.rests.talks ∙ ap (λ (x : Dialing). hung_up made.last.talk x) (sym made.rests.dials) in
      record {
        many = many;
        last = made.last;
        called = made.called;
        back = gone;
        counted = all_risen name calls (first reference before) made.last e made.called tt gone;
      }

pub counted_on : (calls all : List ToldCall) (call : ToldCall) (done : ℕ) → length calls ≡ done → all ≡ calls ++ call ∷ [] → length all ≡ done + 1
counted_on calls all call done count grown = ap (λ (l : List ToldCall). length l) grown ∙ omega (arith, length-append calls (call ∷ []), count)

-- what was pushed is there, where that is no error
pub pushed : {A E : Type 0} (r : Result A E) (P : Type 0) → is_err r ≡ false → OnOk r P → P
pushed (Ok x) P e h = h
pushed (Err x) P e h = absurd cc
