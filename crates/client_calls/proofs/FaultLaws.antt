-- A dialer counts the faults that its client is told.
use Rattle.std.proofs.Common.{◌≡◌, ℕ, ◌+◌, Bool, true, false, cond, eqb, leb, List, [], ◌∷◌, Option, Some, None, refl, sym, ap, subst, inl, inr, ◌∙◌, arith, leb-true, leb-false}
use Rattle.std.proofs.lemmas.Bool.{eqb-true}
use Rattle.ft_base.specs.declared.requests.Request.{Request}
use Rattle.ft_outside.specs.Outside.{added, next_count}
use Rattle.outside_links.specs.Lending.{Target}
use Rattle.client_talk.specs.declared.items.Item.{Item}
use Rattle.client_talk.specs.declared.items.Item.TheVariants as items
use Rattle.client_talk.specs.Talking.{Attempts, Dialing, Reaches, Talk, begins, hung_up, refused, stays}
use Rattle.client_calls.specs.declared.answers.Hearing.{Hearing}
use Rattle.client_calls.specs.declared.answers.ToldCall.{ToldCall}
use Rattle.client_calls.specs.Calls.{AreCalled, Calling, HasRisen, Hearings, Resting, beginning, fault_of, faults_in, faults_of, says}
use Rattle.client_calls.specs.Requests.{deposit_of}

-- ---- counts

risen_both : (x y a b c : ℕ) → HasRisen x a b → HasRisen y b c → HasRisen (x + y) a c
risen_both x y a b c (inl p) (inl q) = inl (omega (arith, p, q))
risen_both x y a b c (inr p) (inl q) = inr (omega (arith, p, q))
risen_both x y a b c p (inr q) = inr q

added_by : (test : Bool) (k f : ℕ) → leb (f + k) 18446744073709551615 ≡ test → HasRisen k f (added f k)
added_by true k f e = inl (omega (arith, leb-true (f + k) 18446744073709551615 e))
added_by false k f e = inr (omega (arith, leb-false (f + k) 18446744073709551615 e))

added_risen : (k f : ℕ) → HasRisen k f (added f k)
added_risen k f = added_by (leb (f + k) 18446744073709551615) k f refl

next_by : (test : Bool) (f : ℕ) → eqb f 18446744073709551615 ≡ test → HasRisen 1 f (cond test f (f + 1))
next_by true f e = inr (omega (arith, eqb-true f 18446744073709551615 e))
next_by false f e = inl refl

next_risen : (f : ℕ) → HasRisen 1 f (next_count f)
next_risen f = next_by (eqb f 18446744073709551615) f refl

none_risen : (f : ℕ) → HasRisen 0 f f
none_risen f = inl (omega arith)

-- ---- the open link has no faults

abbrev pub IsCalm : Option Talk → Type 0
IsCalm None = Unit {0}
IsCalm (Some talk) = talk.faults ≡ 0

back_risen : (talk : Option Talk) (d : Dialing) → IsCalm talk → HasRisen 0 d.faults (hung_up talk d).faults
back_risen None d calm = none_risen d.faults
back_risen (Some talk) d calm = subst (λ (n : ℕ). HasRisen 0 d.faults (added d.faults n)) (sym calm) (added_risen 0 d.faults)

calm_of : (before : Option Talk) (talk : Talk) → before ≡ Some talk → IsCalm before → talk.faults ≡ 0
calm_of before talk is calm = subst IsCalm is calm

reached_risen : (to : Target) (before : Option Talk) (d at : Dialing) (talk : Talk) → Reaches to before d talk at → IsCalm before → (talk.faults ≡ 0) × HasRisen 0 d.faults at.faults
reached_risen to before d at talk (stays is same there) calm = (calm_of before talk is calm, inl (omega (arith, ap (λ (x : Dialing). x.faults) there)))
reached_risen to before d at talk (begins whole apart is dialled) calm = (
  ap (λ (t : Talk). t.faults) is,
  subst (λ (n : ℕ). HasRisen 0 d.faults n) (sym (ap (λ (x : Dialing). x.faults) dialled.1)) (back_risen before d calm),
)

-- a link that goes back with so many faults
left_risen : (k : ℕ) (after : Talk) (d at e : Dialing) → HasRisen 0 d.faults at.faults → after.faults ≡ k → e ≡ hung_up (Some after) at → HasRisen k d.faults e.faults
left_risen k after d at e risen faults back =
    let last : HasRisen k at.faults e.faults =
    subst (λ (x : Dialing). HasRisen k at.faults x.faults) (sym back) (subst (λ (n : ℕ). HasRisen k at.faults (added at.faults n)) (sym faults) (added_risen k at.faults)) in
    let none : 0 + k ≡ k = omega arith in
    subst (λ (n : ℕ). HasRisen n d.faults e.faults) none (risen_both 0 k d.faults at.faults e.faults risen last)

attempt_risen : (to : Target) (text : List ℕ) (item : Item) (before : Option Talk) (d : Dialing) (next : Option Talk) (e : Dialing)
    → Attempts to text item before d next e → IsCalm before → IsCalm next × HasRisen (fault_of (says item)) d.faults e.faults
attempt_risen to text (items.Reply m) before d next e a calm =
    let r = reached_risen to before d a.at a.talk a.reached calm in
    let same : a.after.faults ≡ 0 = ap (λ (t : Talk). t.faults) a.exchanged.0 ∙ r.0 in
    (subst IsCalm (sym a.then_open) same, subst (λ (x : Dialing). HasRisen 0 d.faults x.faults) (sym a.then_back) r.1)
attempt_risen to text items.Dial before d next e a calm = (
  subst IsCalm (sym a.1) tt,
  subst (λ (x : Dialing). HasRisen 1 d.faults x.faults) (sym a.2)
      (risen_both 0 1 d.faults (hung_up before d).faults (refused (hung_up before d)).faults (back_risen before d calm) (next_risen (hung_up before d).faults)),
)
attempt_risen to text items.Failed before d next e a calm =
    let r = reached_risen to before d a.at a.talk a.reached calm in
    let one : a.after.faults ≡ 1 = ap (λ (t : Talk). t.faults) a.exchanged.2 ∙ ap next_count r.0 in
    (subst IsCalm (sym a.then_open) tt, left_risen 1 a.after d a.at e r.1 one a.then_back)
attempt_risen to text items.Ended before d next e a calm =
    let r = reached_risen to before d a.at a.talk a.reached calm in
    let same : a.after.faults ≡ 0 = ap (λ (t : Talk). t.faults) a.exchanged.0 ∙ r.0 in
    (subst IsCalm (sym a.then_open) tt, left_risen 0 a.after d a.at e r.1 same a.then_back)

-- ---- hearings and calls

heard_risen : (request : Request) (hs : List Hearing) (s t : Calling) → Hearings request hs s t → IsCalm s.talk → IsCalm t.talk × HasRisen (faults_in hs) s.dialing.faults t.dialing.faults
heard_risen request [] s t is calm =
    subst (λ (x : Calling). IsCalm x.talk × HasRisen 0 s.dialing.faults x.dialing.faults) (sym is) (calm, none_risen s.dialing.faults)
heard_risen request (h ∷ hs) s t so calm =
    let one = attempt_risen so.1.aim.to so.1.aim.text so.1.item s.talk s.dialing so.0.talk so.0.dialing so.1.attempted calm in
    let rest = heard_risen request hs so.0 t so.2 one.0 in
    let here : HasRisen (fault_of h) s.dialing.faults so.0.dialing.faults = subst (λ (x : Hearing). HasRisen (fault_of x) s.dialing.faults so.0.dialing.faults) (sym so.1.said) one.1 in
    (rest.0, risen_both (fault_of h) (faults_in hs) s.dialing.faults so.0.dialing.faults t.dialing.faults here rest.1)

calls_risen : (name : List ℕ) (number : ℕ) (calls : List ToldCall) (s t : Resting) → AreCalled name number calls s t → IsCalm s.talk
    → IsCalm t.talk × HasRisen (faults_of calls) s.dialing.faults t.dialing.faults
calls_risen name number [] s t is calm =
    subst (λ (x : Resting). IsCalm x.talk × HasRisen 0 s.dialing.faults x.dialing.faults) (sym is) (calm, none_risen s.dialing.faults)
calls_risen name number (call ∷ calls) s t so calm =
    let one = heard_risen (deposit_of name number) call.heard.items (beginning s) so.1.last so.1.heard calm in
    let calm_then : IsCalm so.0.talk = subst IsCalm (sym so.1.talk) one.0 in
    let here : HasRisen (faults_in call.heard.items) s.dialing.faults so.0.dialing.faults =
    subst (λ (x : Dialing). HasRisen (faults_in call.heard.items) s.dialing.faults x.faults) (sym so.1.dialing) one.1 in
    let rest = calls_risen name (number + 1) calls so.0 t so.2 calm_then in
    (rest.0, risen_both (faults_in call.heard.items) (faults_of calls) s.dialing.faults so.0.dialing.faults t.dialing.faults here rest.1)

-- after the last call its link goes back
pub all_risen : (name : List ℕ) (calls : List ToldCall) (s t : Resting) (e : Dialing) → AreCalled name 1 calls s t → IsCalm s.talk → e ≡ hung_up t.talk t.dialing
    → HasRisen (faults_of calls) s.dialing.faults e.faults
all_risen name calls s t e called calm back =
    let all = calls_risen name 1 calls s t called calm in
    let last : HasRisen 0 t.dialing.faults e.faults = subst (λ (x : Dialing). HasRisen 0 t.dialing.faults x.faults) (sym back) (back_risen t.talk t.dialing all.0) in
    let none : faults_of calls + 0 ≡ faults_of calls = omega arith in
    subst (λ (n : ℕ). HasRisen n s.dialing.faults e.faults) none (risen_both (faults_of calls) 0 s.dialing.faults t.dialing.faults e.faults all.1 last)
