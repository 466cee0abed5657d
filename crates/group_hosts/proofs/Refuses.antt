-- A request that is refused before the journal is asked isn't written.
use Rattle.std.proofs.Common.{◌≡◌, ℕ, Bool, true, false, List, [], ◌∷◌, length, refl, subst}
use Rattle.std.specs.Prelude.{Option, Some, None, Result, Ok, Err, nat_lt, if◌then◌else◌}
use Rattle.ft_base.specs.Machine.{Machine}
use Rattle.ft_base.specs.declared.limits.TheConstants.{ARGUMENTS_LIMIT}
use Rattle.ft_base.specs.declared.requests.Signature.{Signature}
use Rattle.cdr_codec.specs.declared.bodies.Raw.{Raw}
use Rattle.message_log.specs.Picture.{Picture as LogPicture}
use Rattle.group_model.specs.declared.asking.Asked.{Asked}
use Rattle.group_model.specs.declared.refusals.Refusal.{Refusal}
use Rattle.group_model.specs.Asking.{args_read, asked_version}
use Rattle.ft_base.specs.declared.decisions.Decision.TheVariants as decisions
use Rattle.sys_faults.specs.declared.faults.SysKind.TheVariants as kinds
use Rattle.group_model.specs.Decisions.{refusal, refused_as, Row, first_row, view_rows, refused_by_view, unless_long, args_within, args_for, request_with, request_named, unless_refused, request_in}
use Rattle.group_model.specs.Plain.{Common}
use Rattle.group_model.specs.Views.{newest, newest_view, view_at}
use Rattle.group_hosts.specs.Keeping.{WroteBy}

module _ (log : LogPicture) where
  -- nothing is written for it
  abbrev IsUnwritten : Refusal → Type 0
  IsUnwritten refusal = WroteBy refusal.decision log log

  abbrev AreUnwritten : List Row → Type 0
  AreUnwritten [] = Unit {0}
  AreUnwritten (row ∷ rows) = IsUnwritten row.refused × AreUnwritten rows

  first_unwritten : (rows : List Row) (refusal : Refusal) → AreUnwritten rows → first_row rows ≡ Some refusal → IsUnwritten refusal
  first_unwritten [] refusal all is = absurd cc
  first_unwritten (row ∷ rows) refusal all is = go (first_unwritten rows refusal all.1) row.stands is where
    go : (first_row rows ≡ Some refusal → IsUnwritten refusal) → (b : Bool) → (if b then Some row.refused else first_row rows) ≡ Some refusal → IsUnwritten refusal
    go later true same = let e : row.refused ≡ refusal = cc in subst IsUnwritten e all.0
    go later false same = later same

  abbrev IfRefused : {X : Type 0} → Result X Refusal → Type 0
  IfRefused (Ok x) = Unit {0}
  IfRefused (Err refusal) = IsUnwritten refusal

  long_unwritten : (known : ℕ) (args : List ℕ) → IfRefused (unless_long known args)
  long_unwritten known args = go (nat_lt ARGUMENTS_LIMIT (length args)) where
    go : (b : Bool) → IfRefused (if b then Err (refused_as (decisions.Long (length args)) (refusal kinds.ImpLimit 1) known) else Ok args)
    go true = (refl, refl)
    go false = tt

  within_unwritten : (known : ℕ) (args : Result (List ℕ) ℕ) → IfRefused (args_within known args)
  within_unwritten known (Err place) = (refl, refl)
  within_unwritten known (Ok args) = long_unwritten known args

  args_unwritten : (known : ℕ) (signature : Option Signature) (body : Raw) → IfRefused (args_for known signature body)
  args_unwritten known None body = (refl, refl)
  args_unwritten known (Some signature) body = within_unwritten known (args_read body signature)

  with_unwritten : (asked : Asked) (op : List ℕ) (args : Result (List ℕ) Refusal) → IfRefused args → IfRefused (request_with asked op args)
  with_unwritten asked op (Err refusal) is = is
  with_unwritten asked op (Ok args) is = tt

  named_unwritten : (m : Machine) (known : ℕ) (asked : Asked) (op : Option (List ℕ)) → IfRefused (request_named m known asked op)
  named_unwritten m known asked None = (refl, refl)
  named_unwritten m known asked (Some op) = with_unwritten asked op (args_for known (m.signature op) asked.body) (args_unwritten known (m.signature op) asked.body)

  pub refused_unwritten : (m : Machine) (c : Common) (host known : ℕ) (asked : Asked) (refusal : Refusal) → request_in m c host known asked ≡ Err refusal → IsUnwritten refusal
  refused_unwritten m c host known asked refusal is = go (refused_by_view c host (asked_version known asked.version) known) refl is where
    rows : List Row
    rows = view_rows c.style host (asked_version known asked.version) known (view_at c.views known) (newest c) (newest_view c)

    go : (o : Option Refusal) → refused_by_view c host (asked_version known asked.version) known ≡ o → unless_refused o (request_named m known asked asked.op) ≡ Err refusal → IsUnwritten refusal
    go None here same = subst IfRefused same (named_unwritten m known asked asked.op)
    go (Some first) here same =
        let e : first ≡ refusal = cc in
        subst IsUnwritten e (first_unwritten rows first ((refl, refl), ((refl, refl), ((refl, refl), ((refl, refl), ((refl, refl), ((refl, refl), ((refl, refl), tt))))))) here)
