-- What is sent, one after another.
use Rattle.std.proofs.Common.{◌≡◌, ◌==◌, ℕ, suc, ◌+◌, arith, true, List, [], ◌∷◌, ◌++◌, length, refl, sym, ap, subst, ◌∙◌}
use Rattle.std.specs.Prelude.{map}
use Rattle.std.proofs.lemmas.Bool.Decides.{nat_tests}
use Rattle.std.proofs.lemmas.List.{length-append}
use Rattle.ft_base.specs.declared.numbers.GroupId.{GroupId}
use Rattle.ft_base.specs.declared.numbers.HostNo.{HostNo}
use Rattle.ft_report.specs.declared.reports.ReportLine.{ReportLine}
use Rattle.group_model.specs.declared.events.Out.{Out}
use Rattle.script_world.specs.Sound.{IsOnItsWay}
use Rattle.script_world.specs.World.{World, carried, with_messages}
use Rattle.script_world.specs.declared.messages.Message.{Message}
use Rattle.world_turns.specs.Sending.{all_carried, sent_line, sent_lines}

pub join : {A : Type 0} (xs ys zs : List A) → (xs ++ ys) ++ zs ≡ xs ++ (ys ++ zs)
join [] ys zs = refl
join (x ∷ xs) ys zs = ap (λ rest. x ∷ rest) (join xs ys zs)

map_append : {A B : Type 0} (f : A → B) (xs ys : List A) → map f (xs ++ ys) ≡ map f xs ++ map f ys
map_append f [] ys = refl
map_append {B = B} f (x ∷ xs) ys = ap (λ (bs : List B). f x ∷ bs) (map_append f xs ys)

length_mapped : {A B : Type 0} (f : A → B) (xs : List A) → length (map f xs) ≡ length xs
length_mapped f [] = refl
length_mapped f (x ∷ xs) = ap suc (length_mapped f xs)

pub none_more : {A : Type 0} (xs : List A) → xs ++ [] ≡ xs
none_more [] = refl
none_more (x ∷ xs) = ap (λ rest. x ∷ rest) (none_more xs)

-- more messages behind others
pub messages_join : (w : World) (xs ys : List Message) → with_messages (with_messages w xs) ys ≡ with_messages w (xs ++ ys)
messages_join w xs ys = ap (λ (ms : List Message). record w { messages = ms }) (join w.messages xs ys)

pub none_sent : (w : World) → with_messages w [] ≡ w
none_sent w = ap (λ (ms : List Message). record w { messages = ms }) (none_more w.messages)

module _ (w now next : World) (group : GroupId) (done : List Out) (e : Out) (now_is : now ≡ with_messages w (all_carried group done)) where
  pub world_more : next ≡ with_messages now (carried group e ∷ []) → next ≡ with_messages w (all_carried group (done ++ e ∷ []))
  world_more next_is =
      next_is ∙ ap (λ (v : World). with_messages v (carried group e ∷ [])) now_is
      ∙ messages_join w (all_carried group done) (carried group e ∷ [])
      ∙ ap (with_messages w) (sym (map_append (carried group) done (e ∷ [])))

  pub still_comes : IsOnItsWay w.groups (carried group e) → IsOnItsWay now.groups (carried group e)
  still_comes comes = subst (λ (v : World). IsOnItsWay v.groups (carried group e)) (sym now_is) comes

  number_is : length now.messages + 1 ≡ (length w.messages + 1) + length done
  number_is = omega (arith, ap (λ (v : World). length v.messages) now_is, length-append w.messages (all_carried group done), length_mapped (carried group) done)

  lines_last : (n : ℕ) (name : List ℕ) (from : HostNo) (outs : List Out) → sent_lines n name from (outs ++ e ∷ []) ≡ sent_lines n name from outs ++ sent_line (n + length outs) name from e.to e.carried ∷ []
  unfolding sent_lines
  lines_last n name from [] = ap (λ (k : ℕ). sent_line k name from e.to e.carried ∷ []) (let same : n ≡ n + 0 = omega arith in same)
  lines_last n name from (o ∷ outs) =
      ap (λ (ls : List ReportLine). sent_line n name from o.to o.carried ∷ ls)
      (lines_last (suc n) name from outs ∙ ap (λ (k : ℕ). sent_lines (suc n) name from outs ++ sent_line k name from e.to e.carried ∷ []) (let same : suc n + length outs ≡ n + length (o ∷ outs) = omega arith in same))

  pub lines_more : (name : List ℕ) (from : HostNo) (first before after : List ReportLine) →
      before ≡ first ++ sent_lines (length w.messages + 1) name from done →
      after ≡ before ++ sent_line (length now.messages + 1) name from e.to e.carried ∷ [] →
      after ≡ first ++ sent_lines (length w.messages + 1) name from (done ++ e ∷ [])
  lines_more name from first before after so pushed =
      pushed
      ∙ ap (λ (k : ℕ). before ++ sent_line k name from e.to e.carried ∷ []) number_is
      ∙ ap (λ (ls : List ReportLine). ls ++ sent_line ((length w.messages + 1) + length done) name from e.to e.carried ∷ []) so
      ∙ join first (sent_lines (length w.messages + 1) name from done) (sent_line ((length w.messages + 1) + length done) name from e.to e.carried ∷ [])
      ∙ ap (λ (ls : List ReportLine). first ++ ls) (sym (lines_last (length w.messages + 1) name from done))

pub no_lines : (first : List ReportLine) (n : ℕ) (name : List ℕ) (from : HostNo) → first ≡ first ++ sent_lines n name from []
unfolding sent_lines
no_lines first n name from = sym (none_more first)

-- where nothing is sent nothing is printed
pub none_printed : (lines : List ReportLine) (held outs : List Out) (n : ℕ) (name : List ℕ) (from : HostNo) →
    lines ≡ [] → held ≡ outs → (length held == 0) ≡ true → lines ≡ sent_lines n name from outs
unfolding sent_lines
none_printed lines [] outs n name from none is empty = none ∙ ap (λ (os : List Out). sent_lines n name from os) is
none_printed lines (o ∷ os) outs n name from none is empty =
    let no : length (o ∷ os) ≡ 0 = grind (arith, nat_tests) in
    absurd (omega (arith, no))
