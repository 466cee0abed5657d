use Rattle.std.proofs.Common.{ℕ, List, Some, length, ap, arith, sym, subst, ◌∙◌}
use Rattle.byteorder.specs.Endian.{big_number}
use Rattle.servant_queue.specs.Queue.{IsContents, items_in}
use Rattle.servant_queue.proofs.Bytes.{made, said, sound, unsaid_short, unsaid_popped, unsaid_count, unsaid_rest}
use Rattle.servant_queue.proofs.contents.contents_of.Goals as goal

pub returns-then-bytes-lt10-clause-said : goal.returns-then-bytes-lt10-clause-said
returns-then-bytes-lt10-clause-said c = unsaid_short c.args.bytes.now c.if-bytes-lt10.true

pub returns-then-popped-gt-POPPED_LIMIT-clause-said : goal.returns-then-popped-gt-POPPED_LIMIT-clause-said
returns-then-popped-gt-POPPED_LIMIT-clause-said c =
    unsaid_popped c.args.bytes.now c.read_u64-popped.result c.read_u64-popped.ensures c.if-popped-gt-POPPED_LIMIT.true

pub returns-then-count-gt-ITEM_LIMIT-clause-said : goal.returns-then-count-gt-ITEM_LIMIT-clause-said
returns-then-count-gt-ITEM_LIMIT-clause-said c =
    unsaid_count c.args.bytes.now c.read_u16-count.result (c.read_u16-count.ensures ∙ ap (big_number 2) c.behind.ensures) c.if-count-gt-ITEM_LIMIT.true

pub returns-then-rest-count-clause-said : goal.returns-then-rest-count-clause-said
returns-then-rest-count-clause-said c =
    unsaid_rest c.args.bytes.now c.read_u16-count.result (c.read_u16-count.ensures ∙ ap (big_number 2) c.behind.ensures)
    (λ e. c.if-rest-count.true (ap length c.behind-rest.ensures ∙ e))

pub returns-clause-said : goal.returns-clause-said
returns-clause-said c =
    let found = c.in_ok-items.ensures ∙ ap (items_in c.read_u16-count.result) c.behind-rest.ensures in
    ap (λ (xs : List (List ℕ)). Some (made c.read_u64-popped.result xs)) found
    ∙ said c.args.bytes.now c.read_u64-popped.result c.read_u16-count.result c.read_u64-popped.ensures
    (c.read_u16-count.ensures ∙ ap (big_number 2) c.behind.ensures) (λ i. omega (arith, c.type_inv.bytes i)) c.if-bytes-lt10.false c.if-popped-gt-POPPED_LIMIT.false
    c.if-count-gt-ITEM_LIMIT.false (sym (ap length c.behind-rest.ensures) ∙ c.if-rest-count.false)

pub returns-clause-sound : goal.returns-clause-sound
returns-clause-sound c =
    let found = c.in_ok-items.ensures ∙ ap (items_in c.read_u16-count.result) c.behind-rest.ensures in
    subst (λ (xs : List (List ℕ)). IsContents (made c.read_u64-popped.result xs)) (sym found)
    (sound c.args.bytes.now c.read_u64-popped.result c.read_u16-count.result c.read_u64-popped.ensures
    (c.read_u16-count.ensures ∙ ap (big_number 2) c.behind.ensures) c.if-popped-gt-POPPED_LIMIT.false
    c.if-count-gt-ITEM_LIMIT.false (sym (ap length c.behind-rest.ensures) ∙ c.if-rest-count.false))
