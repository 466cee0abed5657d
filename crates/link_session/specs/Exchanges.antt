-- What goes on between the links to hosts and whatever answers them: one exchange after another.
use Rattle.std.proofs.Common.{◌≡◌, ℕ, Bool, List, [], ◌∷◌, ◌++◌, refl, sym, subst}
use Rattle.group_model.specs.declared.asking.Asked.{Asked}
use Rattle.host_server.specs.declared.answers.PortAnswer.{PortAnswer}

-- A request with this object key came to the host of this number, asked this, and was answered so. Or it was looked
-- whether the object with this key is at the host.
pub data Exchange : Type 0 where
  Request : ℕ → List ℕ → Asked → PortAnswer → Exchange
  Look : ℕ → List ℕ → Bool → Exchange

-- an exchange leads from one pass to another; it may lead to several, since others exchange too
abbrev pub Exchanging : Type 0 → Type 1
Exchanging P = P → Exchange → P → Type 0

-- ---- one step after another

-- these steps lead from one state to another
unfoldable pub Leads : {P E : Type 0} → (P → E → P → Type 0) → P → List E → P → Type 0
Leads steps p [] q = q ≡ p
Leads {P} steps p (e ∷ es) q = (mid : P) × steps p e mid × Leads steps mid es q

module _ {P E : Type 0} (steps : P → E → P → Type 0) where
  pub leads_none : (p : P) → Leads steps p [] p
  unfolding Leads
  leads_none p = refl

  pub leads_one : (p q : P) (e : E) → steps p e q → Leads steps p (e ∷ []) q
  unfolding Leads
  leads_one p q e step = (q, step, refl)

  pub leads_join : (p q r : P) (es fs : List E) → Leads steps p es q → Leads steps q fs r → Leads steps p (es ++ fs) r
  unfolding Leads
  leads_join p q r [] fs a b = subst (λ (x : P). Leads steps x fs r) a b
  leads_join p q r (e ∷ es) fs a b = (a.0, a.1, leads_join a.0 q r es fs a.2 b)

  -- one step more
  pub leads_on : (p q r : P) (es : List E) (e : E) → Leads steps p es q → steps q e r → Leads steps p (es ++ e ∷ []) r
  leads_on p q r es e a step = leads_join p q r es (e ∷ []) a (leads_one q r e step)

  -- what each step keeps, all of them keep
  module _ (Keeps : P → P → Type 0) (same : (p : P) → Keeps p p) (next : (p q r : P) → Keeps p q → Keeps q r → Keeps p r)
      (each : (p q : P) (e : E) → steps p e q → Keeps p q) where
    pub leads_keep : (p q : P) (es : List E) → Leads steps p es q → Keeps p q
    unfolding Leads
    leads_keep p q [] a = subst (λ (x : P). Keeps p x) (sym a) (same p)
    leads_keep p q (e ∷ es) a = next p a.0 q (each p a.0 e a.1) (leads_keep a.0 q es a.2)
