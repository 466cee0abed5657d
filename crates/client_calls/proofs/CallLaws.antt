-- A call from its beginning on, one hearing after another; and calls, one after another.
use Rattle.std.proofs.Common.{◌≡◌, ℕ, ◌+◌, List, [], ◌∷◌, ◌++◌, length, Option, Some, None, Result, Ok, IfOk, refl, sym, ap, subst, ◌∙◌, arith}
use Rattle.ft_base.specs.declared.memory.NoMemory.{NoMemory}
use Rattle.ft_base.specs.declared.requests.Request.{Request}
use Rattle.outside_links.specs.Lending.{Target}
use Rattle.iogr_reference.specs.declared.references.GroupRef.{GroupRef}
use Rattle.client_retry.specs.declared.answers.Act.{Act}
use Rattle.client_retry.specs.declared.answers.End.{End}
use Rattle.client_retry.specs.Clients.{Client, hearing, setting_down, starting}
use Rattle.client_retry.specs.Counters.{Picture, StandsFor, kept}
use Rattle.client_talk.specs.declared.items.Item.{Item}
use Rattle.client_talk.specs.declared.lines.Line.{Line}
use Rattle.client_talk.specs.Talking.{AreTalks, Attempts, Dialing, Talk}
use Rattle.client_calls.specs.declared.answers.Hearing.{Hearing}
use Rattle.client_calls.specs.declared.answers.ToldCall.{ToldCall}
use Rattle.client_calls.specs.declared.requests.TheConstants.{NEVER}
use Rattle.client_calls.specs.declared.aims.Step.{Step}
use Rattle.client_calls.specs.declared.aims.Step.TheVariants as steps
use Rattle.client_calls.specs.Aims.{Aim}
use Rattle.client_calls.specs.Calls.{AreCalled, Calling, Hearings, Hears, IsCalled, IsResting, Resting, Turns, beginning, news_of}
use Rattle.client_calls.specs.Requests.{CanAct, HasHosts, IsAimed, IsRested, IsStep, deposit_of}
use Rattle.client_calls.proofs.Acts.{Fits, HostsTold, begins, hears, told_hosts}

abbrev calling : Client → Act → Option Aim → Option Talk → Dialing → Calling
calling client act last talk dialing = record { client = client; act = act; last = last; talk = talk; dialing = dialing }

same_calling : (client : Client) (act act' : Act) (last : Option Aim) (talk : Option Talk) (d e : Dialing) → act ≡ act' → d ≡ e → calling client act last talk d ≡ calling client act' last talk e
same_calling client act act' last talk d e same there = λ i. record { client = client; act = same i; last = last; talk = talk; dialing = there i }

-- one hearing more
one_more : (request : Request) (hs : List Hearing) (h : Hearing) (s t u : Calling) → Hearings request hs s t → Hears request h t u → Hearings request (hs ++ h ∷ []) s u
one_more request [] h s t u is step = (u, subst (λ (x : Calling). Hears request h x u) is step, refl)
one_more request (x ∷ hs) h s t u so_far step = (so_far.0, so_far.1, one_more request hs h so_far.0 t u so_far.2 step)

-- one call more
pub call_more : (name : List ℕ) (number count : ℕ) (calls : List ToldCall) (call : ToldCall) (s t u : Resting) → count ≡ number + length calls → AreCalled name number calls s t
    → IsCalled (deposit_of name count) call t u → AreCalled name number (calls ++ call ∷ []) s u
call_more name number count [] call s t u at is called =
    let here : count ≡ number = omega (arith, at) in
    (u, subst (λ (n : ℕ). IsCalled (deposit_of name n) call s u) here (subst (λ (x : Resting). IsCalled (deposit_of name count) call x u) is called), refl)
call_more name number count (c ∷ calls) call s t u at so_far called =
    (so_far.0, so_far.1, call_more name (number + 1) count calls call so_far.0 t u (omega (arith, at)) so_far.2 called)

abbrev Held : {A : Type 0} → A → Option A → Type 0
Held x None = Unit {0}
Held x (Some y) = x ≡ y

same_some : {A : Type 0} (x y : A) → Some x ≡ Some y → x ≡ y
same_some x y e = subst (Held x) e refl

module _ {K : Type 0} (left holds : K → Option (List ℕ)) (faults : K → ℕ) (request : Request) where
  -- what was heard so far, and what the client does next
  pub record IsGoing (s : Resting) (heard : List Hearing) (core : Picture) (act : Act) (last : Option Aim) (line : Option (Line K)) (d : Dialing) : Type 0 where
    pub client : Client
    pub talk : Option Talk
    pub so_far : Hearings request heard (beginning s) (calling client act last talk d)
    pub stands : StandsFor client core
    pub talks : AreTalks left holds faults talk line
    pub fits : Fits client
    pub can : CanAct core act last

  able : (core : Picture) (client : Client) (act act' : Act) (last : Option Aim) → StandsFor client core → act ≡ act' → CanAct (kept client) act' last → CanAct core act last
  able core client act act' last stands same can =
      subst (λ (p : Picture). CanAct p act last) (sym stands) (subst (λ (a : Act). CanAct (kept client) a last) (sym same) can)

  pub sets_out : (s : Resting) (heard : List Hearing) (before core : Picture) (line : Option (Line K)) (d : Dialing) (act : Act) (reference : GroupRef) → heard ≡ [] → IsResting left holds faults before line d s
      → s.reference ≡ reference → HasHosts reference
      → ((client : Client) → StandsFor client before → act ≡ (starting client reference NEVER).act)
      → ((client : Client) → StandsFor client before → StandsFor (starting client reference NEVER).client core) → IsGoing s heard core act None line d
  sets_out s heard before core line d act reference none rests same hosts done stands =
      let goes = begins s.client s.reference NEVER (subst HasHosts (sym same) hosts) in
      let acts_so : act ≡ (starting s.client s.reference NEVER).act = subst (λ (r : GroupRef). act ≡ (starting s.client r NEVER).act) (sym same) (done s.client rests.stands) in
      let stands_so : StandsFor (starting s.client s.reference NEVER).client core =
      subst (λ (r : GroupRef). StandsFor (starting s.client r NEVER).client core) (sym same) (stands s.client rests.stands) in
      record {
        client = (starting s.client s.reference NEVER).client;
        talk = s.talk;
        so_far = subst (λ (hs : List Hearing). Hearings request hs (beginning s) (calling (starting s.client s.reference NEVER).client act None s.talk d)) (sym none)
            (same_calling (starting s.client s.reference NEVER).client act (starting s.client s.reference NEVER).act None s.talk d s.dialing acts_so (sym rests.dials));
        stands = stands_so;
        talks = rests.talks;
        fits = goes.0;
        can = able core (starting s.client s.reference NEVER).client act (starting s.client s.reference NEVER).act None stands_so acts_so goes.1;
      }

  module _ (s : Resting) (heard : List Hearing) (core : Picture) (act : Act) (last : Option Aim) (line : Option (Line K)) (d : Dialing) (going : IsGoing s heard core act last line d) where
    -- an attempt was made, and this was told of it
    pub goes_round : (x : Step) (aim : Aim) (all : List Hearing) (after : Picture) (now : Option (Line K)) (e : Dialing) (told : Hearing) (then' : Act) → x ≡ steps.Sends aim → IsStep request core.reference act last x → all ≡ heard ++ told ∷ []
        → (r : Result (Hearing × Act) NoMemory) → r ≡ Ok (told, then')
        → IfOk r (λ x. (talk : Option Talk) → AreTalks left holds faults talk line
        → (item : Item) × (next : Option Talk) × AreTalks left holds faults next now × Attempts aim.to aim.text item talk d next e × Turns core after item x.0 x.1)
        → IsGoing s all after then' (Some aim) now e
    goes_round x aim all after now e told then' sends step grown r is attempted =
        let aimed : IsAimed request core.reference act last aim = subst (λ (x : Step). IsStep request core.reference act last x) sends step in
        let h = (subst
        (λ (r : Result (Hearing × Act) NoMemory). IfOk r (λ x. (talk : Option Talk) → AreTalks left holds faults talk line
        → (item : Item) × (next : Option Talk) × AreTalks left holds faults next now × Attempts aim.to aim.text item talk d next e × Turns core after item x.0 x.1))
        is attempted) going.talk going.talks in
        let turn = h.4.1 going.client going.stands in
        let goes = hears going.client (news_of told) aim going.fits (subst (λ (x : Hearing). HostsTold (news_of x)) (sym h.4.0) (told_hosts h.0)) in
        record {
          client = (hearing going.client (news_of told)).client;
          talk = h.1;
          so_far = subst (λ (hs : List Hearing). Hearings request hs (beginning s) (calling (hearing going.client (news_of told)).client then' (Some aim) h.1 e)) (sym grown)
              (one_more request heard told (beginning s) (calling going.client act last going.talk d) (calling (hearing going.client (news_of told)).client then' (Some aim) h.1 e) going.so_far
              (record {
                aim = aim;
                aimed = subst (λ (p : Picture). IsAimed request p.reference act last aim) going.stands aimed;
                item = h.0;
                attempted = h.3;
                said = h.4.0;
                then_is = same_calling (hearing going.client (news_of told)).client then' (hearing going.client (news_of told)).act (Some aim) h.1 e e turn.0 refl;
              }));
          stands = turn.1;
          talks = h.2;
          fits = goes.0;
          can = able after (hearing going.client (news_of told)).client then' (hearing going.client (news_of told)).act (Some aim) turn.1 turn.0 goes.1;
        }

    -- the call has ended, and the client gave its reference away
    pub finishes : (x : Step) (call : ToldCall) (reference : GroupRef) (after : Picture) → call.heard.items ≡ heard → x ≡ steps.Ends call.end → IsStep request core.reference act last x → Some reference ≡ core.reference
        → ((client : Client) → StandsFor client core → StandsFor (setting_down client) after)
        → (t : Resting) × (t.reference ≡ reference) × IsCalled request call s t × IsResting left holds faults after line d t
    finishes x call reference after same ends step held set_down = (
      record { client = setting_down going.client; reference = reference; talk = going.talk; dialing = d },
      refl,
      record {
        last = calling going.client act last going.talk d;
        heard = subst (λ (hs : List Hearing). Hearings request hs (beginning s) (calling going.client act last going.talk d)) (sym same) going.so_far;
        ended = subst (λ (x : Step). IsStep request core.reference act last x) ends step;
        held = ap (λ (p : Picture). p.reference) (sym going.stands) ∙ sym held;
        client = refl;
        talk = refl;
        dialing = refl;
      },
      record { stands = set_down going.client going.stands; talks = going.talks; dials = refl },
    )

    -- where it has ended there is a reference, and no invocation is open
    pub rested : (x : Step) (end : End) → x ≡ steps.Ends end → IsStep request core.reference act last x → IsRested core
    rested x end ends step = subst (λ (a : Act). CanAct core a last) (subst (λ (x : Step). IsStep request core.reference act last x) ends step) going.can

pub hosts_held : (core : Picture) (reference : GroupRef) → IsRested core → Some reference ≡ core.reference → HasHosts reference
hosts_held core reference rested held = subst HasHosts (same_some rested.reference reference (sym rested.held ∙ sym held)) rested.hosts

-- an attempt at a target that is written otherwise
pub attempted_there : {K : Type 0} (left holds : K → Option (List ℕ)) (faults : K → ℕ) (r : Result Item NoMemory) (item : Item) (to to' : Target) (text text' : List ℕ)
    (line now : Option (Line K)) (d e : Dialing) → r ≡ Ok item → to ≡ to' → text ≡ text'
    → IfOk r (λ item. (talk : Option Talk) → AreTalks left holds faults talk line → (next : Option Talk) × AreTalks left holds faults next now × Attempts to text item talk d next e)
    → (talk : Option Talk) → AreTalks left holds faults talk line → (next : Option Talk) × AreTalks left holds faults next now × Attempts to' text' item talk d next e
attempted_there left holds faults r item to to' text text' line now d e is there same h talk talks =
    let here = subst
    (λ (r : Result Item NoMemory). IfOk r (λ item. (talk : Option Talk) → AreTalks left holds faults talk line → (next : Option Talk) × AreTalks left holds faults next now × Attempts to text item talk d next e))
    is h in
    let x = here talk talks in
    (x.0, x.1, subst (λ (t : Target). Attempts t text' item talk d x.0 e) there (subst (λ (t : List ℕ). Attempts to t item talk d x.0 e) same x.2))

pub no_reference : (core : Picture) → IsRested core → None ≡ core.reference → ⊥
no_reference core rested none = (let e : None ≡ Some rested.reference = none ∙ rested.held in absurd cc)
