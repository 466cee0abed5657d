-- What is inside an encapsulation, by the laws of its format.
use Rattle.std.proofs.Common.{◌≡◌, ℕ, zero, suc, List, [], ◌∷◌, ◌++◌, Result, Ok, Err, IfOk, OnErr, refl, sym, ap, subst, ◌∙◌, append-nil}
use Rattle.std.specs.Prelude.{MatchResult}
use Rattle.cdr_codec.specs.declared.orders.Order.{Order}
use Rattle.cdr_codec.specs.declared.orders.Order.TheVariants.{Big, Little}
use Rattle.cdr_codec.specs.declared.faults.CdrWhy.{CdrWhy}
use Rattle.cdr_codec.specs.declared.faults.CdrWhy.TheVariants.{Short, BadOrder}
use Rattle.cdr_codec.specs.declared.faults.CdrFault.{CdrFault}
use Rattle.cdr_codec.specs.Orders.{order_sign}
use Rattle.cdr_codec.specs.Reading.{Reader, reader_at, fault_at}
use Rattle.cdr_codec.specs.Formats.{Format}
use Rattle.cdr_codec.specs.Laws.{Took, IsCodec}
use Rattle.cdr_codec.specs.Encapsulations.{IsOpened, IsUnopened, Encapsulates, opened, inside, held, IsInside}
use Rattle.cdr_codec.specs.Calls.{fault}
use Rattle.cdr_codec.proofs.Steps.{bind_ok, bind_goes, ok_is, ok_err, err_ok}

-- the reader of a piece is at its second byte, in the order that the first one means
record Opens (piece : List ℕ) (r : Reader) : Type 0 where
  pub order : Order
  pub rest : List ℕ
  pub is : piece ≡ order_sign order ∷ rest
  pub reader : r ≡ reader_at order 1 rest

opened_is : (piece : List ℕ) (r : Reader) → opened piece ≡ Ok r → Opens piece r
opened_is [] r e = absurd (err_ok r (fault_at Short 0) e)
opened_is (zero ∷ rest) r e = record { order = Big; rest = rest; is = refl; reader = sym (ok_is (reader_at Big 1 rest) r e) }
opened_is (suc zero ∷ rest) r e = record { order = Little; rest = rest; is = refl; reader = sym (ok_is (reader_at Little 1 rest) r e) }
opened_is (suc (suc n) ∷ rest) r e = absurd (err_ok r (fault_at BadOrder 0) e)

pub opened_at : (order : Order) (rest : List ℕ) → opened (order_sign order ∷ rest) ≡ Ok (reader_at order 1 rest)
opened_at Big rest = refl
opened_at Little rest = refl

found_inside : {X : Type 0} (f : Format CdrWhy X) (piece : List ℕ) (r : Reader) (y : X × Reader) → Opens piece r → Took f.Spelled r y → Encapsulates f.Spelled piece y.0
found_inside f piece r y o t =
    let order-is : r.order ≡ o.order = ap (λ (s : Reader). s.order) o.reader in
    let place-is : r.place ≡ 1 = ap (λ (s : Reader). s.place) o.reader in
    let rest-is : r.rest ≡ o.rest = ap (λ (s : Reader). s.rest) o.reader in
    record {
      order = o.order;
      bytes = t.bytes;
      more = y.1.rest;
      is = o.is ∙ ap (λ (l : List ℕ). order_sign o.order ∷ l) (sym rest-is ∙ t.moved.is);
      spelled = rw order-is at (rw place-is at t.spelled);
    }

pub inside_codec : {X : Type 0} (f : Format CdrWhy X) → IsCodec Short f → IsInside f
inside_codec f law = record {
  found = λ piece y e.
      let b = bind_ok (opened piece) (λ r. f.read r) y e in
      found_inside f piece b.0 y (opened_is piece b.0 b.1) (law.found b.0 y b.2);
  again = λ piece x e.
      ap (inside f) e.is
      ∙ bind_goes (opened (order_sign e.order ∷ (e.bytes ++ e.more))) (λ r. f.read r) _ _ (opened_at e.order (e.bytes ++ e.more)) (law.again e.order 1 x e.bytes e.more e.spelled);
}

-- what is written behind a byte order is read again
pub inside_written : {X : Type 0} (f : Format CdrWhy X) → IsCodec Short f → (order : Order) (x : X) → f.Valid x
    → Encapsulates f.Spelled (order_sign order ∷ f.written order 1 x) x
inside_written f law order x h = record {
  order = order;
  bytes = f.written order 1 x;
  more = [];
  is = ap (λ (l : List ℕ). order_sign order ∷ l) (sym (append-nil (f.written order 1 x)));
  spelled = law.spells order 1 x h;
}

-- what is held is encapsulated, and the other way round
pub held_found : {X : Type 0} (f : Format CdrWhy X) → IsCodec Short f → (piece : List ℕ) (x : X) → held f piece ≡ Ok x → Encapsulates f.Spelled piece x
held_found {X} f law piece x e =
    let b = bind_ok (inside f piece) (λ y. Ok y.0) x e in
    subst (λ (y : X). Encapsulates f.Spelled piece y) (ok_is b.0.0 x b.2) ((inside_codec f law).found piece b.0 b.1)

pub held_again : {X : Type 0} (f : Format CdrWhy X) → IsCodec Short f → (piece : List ℕ) (x : X) → Encapsulates f.Spelled piece x → held f piece ≡ Ok x
held_again f law piece x e = bind_goes (inside f piece) (λ y. Ok y.0) _ _ ((inside_codec f law).again piece x e) refl

-- ---- the call that opens an encapsulation

is_opened : (piece : List ℕ) (r : Reader) → Opens piece r → IsOpened piece r
is_opened piece r o = record {
  is = o.is ∙ ap (λ (s : Reader). order_sign s.order ∷ s.rest) (sym o.reader);
  behind = ap (λ (s : Reader). s.place) o.reader;
}

pub is_opened_by : (piece : List ℕ) (result : Result Reader CdrFault)
    → MatchResult result (λ r. opened piece ≡ Ok r) (λ wrong. opened piece ≡ Err (fault wrong)) → IfOk result (λ r. IsOpened piece r)
is_opened_by piece (Ok r) e = is_opened piece r (opened_is piece r e)
is_opened_by piece (Err wrong) e = tt

pub is_unopened_by : (piece : List ℕ) (result : Result Reader CdrFault)
    → MatchResult result (λ r. opened piece ≡ Ok r) (λ wrong. opened piece ≡ Err (fault wrong)) → OnErr result (IsUnopened piece)
is_unopened_by piece (Ok r) e = tt
is_unopened_by piece (Err wrong) e = λ r o. ok_err (reader_at r.order 1 r.rest) (fault wrong) (sym (opened_at r.order r.rest) ∙ ap opened (sym o.is) ∙ e)
