use Rattle.std.proofs.Common.{◌≡◌, ℕ, ◌+◌, List, refl, sym, ap, ◌∙◌, arith}
use Rattle.std.specs.Prelude.{vec_len}
use Rattle.reply_table.specs.Entries.{Table, unanswered, joined}
use Rattle.reply_table.specs.declared.entries.Retained.{Retained}
use Rattle.message_log.specs.Opening.{IsOpening}
use Rattle.message_log.proofs.PictureLaws.{opening_entered, subst2}
use Rattle.message_log.proofs.opening.Opening.tell_entry.Goals as goal

pub invariant_of-self-2 : goal.invariant_of-self-2
invariant_of-self-2 c =
    let l = c.self.inside in
    let e = c.args.entry in
    let row : Retained = unanswered e.position e.version e.at c.in_ok-row.row in
    let entries : c.put_reserved.new.self.entries ≡ joined l.table.entries row c.in_ok-row.row.key =
    ap (λ (t : Table). t.entries) c.put_reserved.ensures
    ∙ ap (λ (es : List Retained). joined es row c.in_ok-row.row.key) (ap (λ (t : Table). t.entries) c.in_ok-reserve-2.ensures.room)
    in
    let count : vec_len c.push_within.new.items ≡ vec_len l.entries + 1 = omega (arith, c.push_within.ensures.len, c.in_ok-reserve.ensures.len) in
    let place : e.position ≡ l.mark + vec_len l.entries = omega (arith, c.if-entry-self.false, c.len.ensures) in
    subst2 (λ (n : ℕ) (es : List Retained). IsOpening l.newest l.begun l.mark n es) (sym count) (sym entries)
    (opening_entered l.newest l.begun l.mark (vec_len l.entries) l.table.entries row c.self.invariant place c.requires.0 c.requires.1 refl)
