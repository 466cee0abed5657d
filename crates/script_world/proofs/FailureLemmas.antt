-- A group whose log's next write is to fail, or that was left: it keeps its name, and what it has accepted.
use Rattle.std.proofs.Common.{◌≡◌, ℕ, List, Some, Result, Ok, Err, length, sym, ap, ◌∙◌}
use Rattle.std.proofs.lemmas.Result.{on_ok_weaker}
use Rattle.std.specs.Prelude.{OnErr, OnOk, slice_get, slice_set}
use Rattle.group_model.specs.Plain.{Group}
use Rattle.script_groups.specs.Groups.{ScriptGroup, common_of, failing}
use Rattle.script_groups.specs.Laws.{FailuresChangeNothing}
use Rattle.script_groups.specs.Lists.{same_some}

module _ {E : Type 0} (g h : ScriptGroup) (r : Result (Unit {0}) E) (is : OnOk r (h ≡ failing g)) where
  module _ (left : OnErr r (h ≡ g)) where
    pub named_still : h.name ≡ g.name
    named_still = go r is left
      where
        go : (s : Result (Unit {0}) E) → OnOk s (h ≡ failing g) → OnErr s (h ≡ g) → h.name ≡ g.name
        go (Ok done) fails same = ap (λ (x : ScriptGroup). x.name) fails
        go (Err why) fails same = ap (λ (x : ScriptGroup). x.name) same

    pub accepted_still : FailuresChangeNothing → length (common_of h).journal ≡ length (common_of g).journal
    accepted_still law = go r is left
      where
        go : (s : Result (Unit {0}) E) → OnOk s (h ≡ failing g) → OnErr s (h ≡ g) → length (common_of h).journal ≡ length (common_of g).journal
        go (Ok done) fails same = ap (λ (x : ScriptGroup). length (common_of x).journal) fails ∙ ap (λ (p : Group). length p.common.journal) (law g).0
        go (Err why) fails same = ap (λ (x : ScriptGroup). length (common_of x).journal) same

  -- so it is in its place among groups
  pub failing_at : (items now : List ScriptGroup) → items ≡ now → (place : ℕ) → slice_get items place ≡ Some g →
      (s : ScriptGroup) → slice_get now place ≡ Some s → OnOk r (slice_set items place h ≡ slice_set now place (failing s))
  failing_at items now same place at s there =
      let here = same_some g s (sym at ∙ ap (λ (gs : List ScriptGroup). slice_get gs place) same ∙ there) in
      on_ok_weaker r (λ (fails : h ≡ failing g). ap (λ (gs : List ScriptGroup). slice_set gs place h) same ∙ ap (slice_set now place) (fails ∙ ap failing here)) is
