-- What follows for every codec, and for the calls that read by one.
use Rattle.std.proofs.Common.{◌≡◌, ◌↔◌, ℕ, suc, ◌+◌, ◌-◌, ◌<◌, ◌≤◌, List, [], ◌∷◌, ◌++◌, Option, Some, None, Result, Ok, Err, IsErr, OnOk, IfOk, refl, sym, ap, ◌∙◌, append_assoc, append-nil, arith}
use Rattle.cdr_codec.specs.Reading.{Reader, reader_at, Fault, Read, ◌>>=◌}
use Rattle.cdr_codec.specs.Formats.{Format, read_each}
use Rattle.cdr_codec.specs.Laws.{Took, IsNowhere, IsCodec, RefusesExactly, ReadsBack}
use Rattle.cdr_codec.specs.Calls.{Gives, Fails, FailsIn, Tells, OnFault, Refuses}
use Rattle.cdr_codec.proofs.Steps.{done, with_reader, bind_goes, bind_stops, err_ok}
use Rattle.cdr_codec.proofs.Sequences.{read_each-zero, read_each-suc}

-- nothing is spelled where a read is refused
pub is_nowhere : {W X : Type 0} (short : W) (f : Format W X) → IsCodec short f → (r : Reader) (e : Fault W) → f.read r ≡ Err e → IsNowhere f.Spelled r
is_nowhere short f law r e wrong = λ x bytes after is spelled.
    err_ok _ e (sym wrong ∙ ap (λ (l : List ℕ). f.read (reader_at r.order r.place l)) is ∙ law.again r.order r.place x bytes after spelled)

refused_cases : {W X : Type 0} (short : W) (f : Format W X) → IsCodec short f → (r : Reader) (q : Read W X) → f.read r ≡ q → IsErr q ↔ IsNowhere f.Spelled r
refused_cases short f law r (Ok y) e =
    ((λ no. absurd cc), λ nowhere. let t = law.found r y e in absurd (nowhere y.0 t.bytes y.1.rest t.moved.is t.spelled))
refused_cases short f law r (Err d) e = ((λ yes. is_nowhere short f law r d e), λ nowhere. refl)

pub refuses_exactly : {W X : Type 0} (short : W) (f : Format W X) → IsCodec short f → RefusesExactly f
refuses_exactly short f law = λ r. refused_cases short f law r (f.read r) refl

pub reads_back : {W X : Type 0} (short : W) (f : Format W X) → IsCodec short f → ReadsBack f
reads_back short f law = λ order place x more h. law.again order place x (f.written order place x) more (law.spells order place x h)

-- ---- calls

-- a call that reads by a codec found a spelling
pub is_found : {W X Y E : Type 0} (short : W) (f : Format W Y) → IsCodec short f → (view : X → Y) (wrong : E → Option (Fault W)) (result : Result X E) (r after : Reader)
    → Gives view wrong result (f.read r) after → IfOk result (λ x. Took f.Spelled r (view x, after))
is_found short f law view wrong (Ok x) r after h = law.found r (view x, after) h
is_found short f law view wrong (Err e) r after h = tt

nowhere_for : {W Y : Type 0} (short : W) (f : Format W Y) → IsCodec short f → (r : Reader) (o : Option (Fault W)) → Fails o (f.read r) → OnFault o (IsNowhere f.Spelled r)
nowhere_for short f law r None h = tt
nowhere_for short f law r (Some e) h = is_nowhere short f law r e h

-- and where it answers a fault nothing is spelled
pub is_refused : {W X Y E : Type 0} (short : W) (f : Format W Y) → IsCodec short f → (view : X → Y) (wrong : E → Option (Fault W)) (result : Result X E) (r after : Reader)
    → Gives view wrong result (f.read r) after → Refuses wrong result (IsNowhere f.Spelled r)
is_refused short f law view wrong (Ok x) r after h = tt
is_refused short f law view wrong (Err e) r after h = nowhere_for short f law r (wrong e) h

-- ---- calls that tell what a definition says

tells_fault : {Y F : Type 0} (o : Option F) (what : Result Y F) (Q : Type 0) → ((e : F) → what ≡ Err e → Q) → FailsIn o what → OnFault o Q
tells_fault None what Q h t = tt
tells_fault (Some e) what Q h t = h e t

-- what holds of each value that the definition gives holds of what the call answered
pub told_found : {X Y E F : Type 0} (view : X → Y) (wrong : E → Option F) (result : Result X E) (what : Result Y F) (P : Y → Type 0)
    → ((y : Y) → what ≡ Ok y → P y) → Tells view wrong result what → IfOk result (λ x. P (view x))
told_found view wrong (Ok x) what P h t = h (view x) t
told_found view wrong (Err e) what P h t = tt

-- and what follows from each of its refusals holds where the call refused
pub told_refused : {X Y E F : Type 0} (view : X → Y) (wrong : E → Option F) (result : Result X E) (what : Result Y F) (Q : Type 0)
    → ((e : F) → what ≡ Err e → Q) → Tells view wrong result what → Refuses wrong result Q
told_refused view wrong (Ok x) what Q h t = tt
told_refused view wrong (Err e) what Q h t = tells_fault (wrong e) what Q h t

-- what a callee in tail position ensures on Ok, carried on
pub or_failed : {X E : Type 0} (result : Result X E) (P Q : Type 0) → OnOk result P → (P → Q) → OnOk result Q
or_failed (Ok x) P Q h f = f h
or_failed (Err e) P Q h f = tt

-- ---- a loop that reads the elements of a sequence

-- the elements that were read, in front of those that are left
abbrev pub with_front : {W X : Type 0} → List X → Read W (List X) → Read W (List X)
with_front front (Ok xs) = Ok (front ++ xs.0, xs.1)
with_front front (Err e) = Err e

pub begins : {W X : Type 0} (q : Read W (List X)) → with_front [] q ≡ q
begins (Ok xs) = refl
begins (Err e) = refl

front_more : {W X : Type 0} (front : List X) (x : X) (q : Read W (List X)) → with_front front (q >>= λ xs. Ok (x ∷ xs.0, xs.1)) ≡ with_front (front ++ x ∷ []) q
front_more front x (Ok xs) = ap (λ (l : List _). done (with_reader l xs.1)) (sym (append_assoc front (x ∷ []) xs.0))
front_more front x (Err e) = refl

one_more : {W X : Type 0} (read : Reader → Read W X) (n : ℕ) (r : Reader) (x : X) (after : Reader) (front : List X) → read r ≡ Ok (x, after)
    → with_front front (read_each read (suc n) r) ≡ with_front (front ++ x ∷ []) (read_each read n after)
one_more read n r x after front e =
    ap (with_front front) (read_each-suc read n r ∙ bind_goes (read r) _ _ _ e refl) ∙ front_more front x (read_each read n after)

left : (count counter : ℕ) → counter < count → count - counter ≡ suc (count - (counter + 1))
left count counter h = omega arith

-- an element was read
pub goes_on : {W X : Type 0} (read : Reader → Read W X) (front : List X) (count counter : ℕ) (r : Reader) (x : X) (after : Reader) (whole : Read W (List X))
    → counter < count → read r ≡ Ok (x, after) → with_front front (read_each read (count - counter) r) ≡ whole
    → with_front (front ++ x ∷ []) (read_each read (count - (counter + 1)) after) ≡ whole
goes_on read front count counter r x after whole more e h =
    sym (one_more read (count - (counter + 1)) r x after front e)
    ∙ ap (λ (n : ℕ). with_front front (read_each read n r)) (sym (left count counter more)) ∙ h

-- an element was refused
pub ends : {W X : Type 0} (read : Reader → Read W X) (front : List X) (count counter : ℕ) (r : Reader) (e : Fault W) (whole : Read W (List X))
    → counter < count → read r ≡ Err e → with_front front (read_each read (count - counter) r) ≡ whole → whole ≡ Err e
ends read front count counter r e whole more wrong h =
    sym h ∙ ap (λ (n : ℕ). with_front front (read_each read n r)) (left count counter more)
    ∙ ap (with_front front) (read_each-suc read (count - (counter + 1)) r ∙ bind_stops (read r) _ e wrong)

-- the same where the answer may be want of memory
pub ends_for :
    {W X : Type 0} (read : Reader → Read W X) (front : List X) (count counter : ℕ) (r : Reader) (o : Option (Fault W)) (whole : Read W (List X))
    → counter < count → Fails o (read r) → with_front front (read_each read (count - counter) r) ≡ whole → Fails o whole
ends_for read front count counter r None whole more wrong h = tt
ends_for read front count counter r (Some e) whole more wrong h = ends read front count counter r e whole more wrong h

-- all elements were read
pub is_done : {W X : Type 0} (read : Reader → Read W X) (front : List X) (count counter : ℕ) (r : Reader) (whole : Read W (List X))
    → count ≤ counter → with_front front (read_each read (count - counter) r) ≡ whole → whole ≡ Ok (front, r)
is_done read front count counter r whole all h =
    let none : count - counter ≡ 0 = omega arith in
    sym h ∙ ap (λ (n : ℕ). with_front front (read_each read n r)) none ∙ ap (with_front front) (read_each-zero read r)
    ∙ ap (λ (l : List _). done (with_reader l r)) (append-nil front)
