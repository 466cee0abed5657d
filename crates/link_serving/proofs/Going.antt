-- The rounds of a host that serves a link, with the front of the link.
use Rattle.std.proofs.Common.{◌≡◌, ℕ, Bool, false, List, [], ◌++◌, take, sym, ap, subst, ◌∙◌}
use Rattle.std.specs.Prelude.{if◌then◌else◌}
use Rattle.giop_messages.specs.declared.heads.TheConstants.{HEAD_LENGTH}
use Rattle.giop_stream.specs.Sessions.{Serves, Serving}
use Rattle.link_session.specs.Exchanges.{Exchanging}
use Rattle.link_serving.specs.declared.ends.Ended.{Ended}
use Rattle.link_serving.specs.declared.receiving.Came.TheVariants as comes
use Rattle.link_serving.specs.declared.serving.Visit.{Visit}
use Rattle.link_serving.specs.Ends.{is_closed}
use Rattle.link_serving.specs.Fronts.{is_close_in, is_closed_first}
use Rattle.link_serving.specs.Serving.{IsAmid, IsServed, IsVisited, IsWaiting}
use Rattle.link_serving.specs.Wires.{HasCame, Wire}
use Rattle.link_serving.proofs.Amid.{came, starts}
use Rattle.link_serving.proofs.Lists.{take_again}

module _ {P : Type 0} (exchanges : Exchanging P) (host : ℕ) (p : P) (w : Wire) where
  pub record IsGoing (q : P) (v : Wire) (s : Serving) (front : List ℕ) : Type 0 where
    pub fed : List ℕ
    pub amid : IsAmid exchanges host fed p w q v s
    pub is_front : front ≡ take HEAD_LENGTH fed

  pub sets_out : (s : Serving) (front : List ℕ) → Serves s [] [] → front ≡ [] → IsGoing p w s front
  sets_out s front serves none = record { fed = []; amid = starts exchanges host p w s serves; is_front = none }

  -- bytes came
  pub goes_round : (fed : List ℕ) (q : P) (v u : Wire) (s t : Serving) (f g : List ℕ) → f ≡ take HEAD_LENGTH fed → IsWaiting exchanges host fed p w q v s →
      HasCame s t f g v u comes.Some → IsGoing q u t g
  goes_round fed q v u s t f g front waiting h = record {
    fed = fed ++ h.0;
    amid = came exchanges host fed p w q v s waiting t f g u h;
    is_front = h.3 ∙ ap (λ (l : List ℕ). take HEAD_LENGTH (l ++ h.0)) front ∙ take_again HEAD_LENGTH fed h.0;
  }

  abbrev tells : Ended → List ℕ → Bool
  tells ended front = if is_closed ended then is_close_in front else false

  -- the link is left
  pub visited : (fed : List ℕ) (q : P) (v : Wire) (front : List ℕ) (ended : Ended) (visit : Visit) → front ≡ take HEAD_LENGTH fed →
      IsServed exchanges host fed p w q v ended → visit.ended ≡ ended → visit.is_farewell ≡ (if is_closed ended then is_close_in front else false) →
      IsVisited exchanges host p w q v visit
  visited fed q v front ended visit is served so farewell = record {
    fed = fed;
    served = subst (λ (e : Ended). IsServed exchanges host fed p w q v e) (sym so) served;
    farewell = farewell ∙ ap (λ (e : Ended). tells e front) (sym so) ∙ ap (λ (l : List ℕ). tells visit.ended l) is;
  }

  -- it is left at a fault, or for want of memory
  pub visited_in_vain : (fed : List ℕ) (q : P) (v : Wire) (ended : Ended) (visit : Visit) → is_closed ended ≡ false → IsServed exchanges host fed p w q v ended →
      visit.ended ≡ ended → visit.is_farewell ≡ false → IsVisited exchanges host p w q v visit
  visited_in_vain fed q v ended visit not served so farewell = record {
    fed = fed;
    served = subst (λ (e : Ended). IsServed exchanges host fed p w q v e) (sym so) served;
    farewell = farewell
        ∙ ap (λ (b : Bool). if b then is_closed_first fed else false) (sym not)
        ∙ ap (λ (e : Ended). if is_closed e then is_closed_first fed else false) (sym so);
  }
