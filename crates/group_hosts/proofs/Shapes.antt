-- What the plain group's turns leave of their host.
use Rattle.std.proofs.Common.{◌≡◌, ℕ, max, Bool, true, false, [], refl, ap, ◌∙◌}
use Rattle.std.specs.Prelude.{Some, None, List, ◌&&◌, if◌then◌else◌}
use Rattle.ft_base.specs.Members.{is_member}
use Rattle.ft_base.specs.declared.views.Style.{Style}
use Rattle.ft_base.specs.declared.views.View.{View}
use Rattle.ft_base.specs.Machine.{Machine}
use Rattle.ft_base.specs.declared.decisions.Decision.{Decision}
use Rattle.ft_base.specs.declared.decisions.Stop.{Stop}
use Rattle.ft_base.specs.declared.decisions.Stop.TheVariants.{Never, AfterAppend, AfterExecute}
use Rattle.ft_base.specs.declared.requests.Request.{Request}
use Rattle.sys_faults.specs.declared.answers.Answer.{Answer}
use Rattle.group_model.specs.declared.events.GroupAnswer.TheVariants.{Reply}
use Rattle.group_model.specs.declared.events.Out.{Out}
use Rattle.ft_base.specs.Admissions.{admission}
use Rattle.ft_base.specs.declared.admissions.Admission.{Admission}
use Rattle.ft_base.specs.declared.admissions.Admission.TheVariants.{Expired, Same, Other, Full, New}
use Rattle.group_model.specs.Openings.{opens_loaded, opening_host}
use Rattle.group_model.specs.Plain.{Common, Host, blank, loaded_at, nowhere}
use Rattle.group_model.specs.Serving.{accepted, written, admitted, served}
use Rattle.group_model.specs.Turns.{Turn}
use Rattle.passive_dispatch.specs.Served.{calls_by}
use Rattle.group_hosts.specs.Hosts.{opening_replica, opening_picture}

-- what holds of both turns holds of the one that is chosen
pub either : (P : Turn → Type 0) (b : Bool) (x y : Turn) → (b ≡ true → P x) → (b ≡ false → P y) → P (if b then x else y)
either P true x y p q = p refl
either P false x y p q = q refl

-- A request's turn leaves its host where it was, or further on, with nothing held back where nothing was; or its
-- host has stopped, and is blank.
pub record IsGoing (h : Host) (t : Turn) : Type 0 where
  pub decision : Decision
  pub answer : Answer
  pub out : List Out
  pub told : t.answer ≡ Reply decision (Some answer) out
  pub up : t.host.up ≡ h.up
  pub known : t.host.known ≡ h.known
  pub nothing : h.holdback ≡ [] → t.host.holdback ≡ []

pub record HasEnded (t : Turn) : Type 0 where
  pub decision : Decision
  pub told : t.answer ≡ Reply decision None []
  pub gone : t.host ≡ blank false

pub data IsShaped (h : Host) (t : Turn) : Type 0 where
  going : IsGoing h t → IsShaped h t
  ended : HasEnded t → IsShaped h t

shaped_accepted : (m : Machine) (c : Common) (h : Host) (host now : ℕ) (q : Request) (stop : Stop) → IsShaped h (accepted m c h host now q stop)
shaped_accepted m c h host now q Never = going (record { decision = _; answer = _; out = _; told = refl; up = refl; known = refl; nothing = λ none. rw none refl })
shaped_accepted m c h host now q AfterAppend = ended (record { decision = _; told = refl; gone = refl })
shaped_accepted m c h host now q AfterExecute = ended (record { decision = _; told = refl; gone = refl })

shaped_written : (m : Machine) (c : Common) (h : Host) (host now : ℕ) (q : Request) (stop : Stop) (fails : Bool) → IsShaped h (written m c h host now q stop fails)
shaped_written m c h host now q stop true = going (record { decision = _; answer = _; out = _; told = refl; up = refl; known = refl; nothing = λ none. none })
shaped_written m c h host now q stop false = shaped_accepted m c h host now q stop

shaped_admitted : (m : Machine) (c : Common) (h : Host) (host now : ℕ) (q : Request) (stop : Stop) (fails : Bool) (a : Admission) → IsShaped h (admitted m c h host now q stop fails a)
shaped_admitted m c h host now q stop fails (Expired e) = going (record { decision = _; answer = _; out = _; told = refl; up = refl; known = refl; nothing = λ none. none })
shaped_admitted m c h host now q stop fails (Same i) = going (record { decision = _; answer = _; out = _; told = refl; up = refl; known = refl; nothing = λ none. none })
shaped_admitted m c h host now q stop fails (Other i) = going (record { decision = _; answer = _; out = _; told = refl; up = refl; known = refl; nothing = λ none. none })
shaped_admitted m c h host now q stop fails Full = going (record { decision = _; answer = _; out = _; told = refl; up = refl; known = refl; nothing = λ none. none })
shaped_admitted m c h host now q stop fails New = shaped_written m c h host now q stop fails

pub shaped : (m : Machine) (c : Common) (h : Host) (host clock : ℕ) (q : Request) (stop : Stop) (fails : Bool) → IsShaped h (served m c h host clock q stop fails)
shaped m c h host clock q stop fails = shaped_admitted m c h host (max clock c.time) q stop fails (admission c.journal (max clock c.time) q)

-- nothing is held back after it where nothing was before
pub nothing_held : (h : Host) (t : Turn) → IsShaped h t → h.holdback ≡ [] → t.host.holdback ≡ []
nothing_held h t (going is) none = is.nothing none
nothing_held h t (ended is) none = ap (λ (x : Host). x.holdback) is.gone

-- ---- the servant calls of a new request

calls_accepted : (m : Machine) (c : Common) (h : Host) (host now : ℕ) (q : Request) (stop : Stop) → (accepted m c h host now q stop).calls ≡ calls_by stop
calls_accepted m c h host now q Never = refl
calls_accepted m c h host now q AfterAppend = refl
calls_accepted m c h host now q AfterExecute = refl

pub calls_new : (m : Machine) (c : Common) (h : Host) (host clock : ℕ) (q : Request) (stop : Stop) → admission c.journal (max clock c.time) q ≡ New → (served m c h host clock q stop false).calls ≡ calls_by stop
calls_new m c h host clock q stop new =
    ap (λ (a : Admission). (admitted m c h host (max clock c.time) q stop false a).calls) new ∙ calls_accepted m c h host (max clock c.time) q stop

-- ---- a host as its group opens

pub picture_opens : (kind : ℕ) (state : List ℕ) (style : Style) (view : View) (host : ℕ) (member : Bool) → member ≡ is_member host view.members →
    record { up = true; known = if member then 1 else 0; replica = opening_replica kind state (member && opens_loaded style view host); held = [] } ≡ opening_picture kind state (opening_host style view host)
picture_opens kind state style view host true is = rw (← is) (loads (opens_loaded style view host)) where
  loads : (b : Bool) → record { up = true; known = 1; replica = opening_replica kind state b; held = [] }
      ≡ opening_picture kind state (record { up = true; known = 1; place = if b then loaded_at 0 else nowhere; holdback = [] })
  loads true = refl
  loads false = refl
picture_opens kind state style view host false is = rw (← is) refl
