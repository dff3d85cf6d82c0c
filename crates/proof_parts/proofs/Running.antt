-- Moves one after another, and what they leave beside a place.
use Rattle.std.proofs.Common.{◌≡◌, ℕ, List, [], ◌∷◌, ◌++◌, Option, Some, refl, sym, ap, subst, ◌∙◌, append_assoc}
use Rattle.client_request.specs.declared.board.Posted.{Posted}
use Rattle.proof_right.specs.machine.Part.{Act}
use Rattle.proof_right.specs.machine.Streams as multi
use Rattle.proof_right.specs.machine.Streams.{Phase, Lined, Holding, Broken, Asker, Multi, Moves, moved}
use Rattle.right_trace.specs.Updates.{with_at}
use Rattle.proof_right.specs.machine.Served.{place_after}
use Rattle.proof_parts.specs.Chains.{still, then_act}
use Rattle.proof_parts.specs.Seats.{IsAway}
use Rattle.proof_parts.specs.Runs.{made_by, Runs, Rests, Runs_on, IsBeside, AreFailing}
use Rattle.proof_parts.proofs.Keys.{with_here, with_there, each_number}
use Rattle.right_trace.specs.Trace.{Conf}

same_act : (d e : Act Multi) → d.state ≡ e.state → d.place ≡ e.place → d.outs ≡ e.outs → d.posts ≡ e.posts → d ≡ e
same_act d e state place outs posts = λ i. record { state = state i; place = place i; outs = outs i; posts = posts i }

-- one move
pub runs_one : (c : Conf) (s n place : ℕ) (m : Multi) (x : multi.Act) (k : Multi) → Moves c s n place m x k → Runs c s n place m (then_act (made_by place x k) (still (place_after x place) k))
runs_one c s n place m x k move = Runs_on place m x k (still (place_after x place) k) move (Rests (place_after x place) k)

-- and then others
pub runs_then : (c : Conf) (s n place : ℕ) (m : Multi) (d e : Act Multi) → Runs c s n place m d → Runs c s n d.place d.state e → Runs c s n place m (then_act d e)
runs_then c s n _ _ _ e (Rests place m) more = more
runs_then c s n _ _ _ e (Runs_on place m x k d move rest) more =
    subst (Runs c s n place m)
    (same_act (then_act (made_by place x k) (then_act d e)) (then_act (then_act (made_by place x k) d) e) refl refl (sym (append_assoc (made_by place x k).outs d.outs e.outs)) (sym (append_assoc (made_by place x k).posts d.posts e.posts)))
    (Runs_on place m x k (then_act d e) move (runs_then c s n (place_after x place) k d e rest more))

module _ (p : ℕ) where
  pub beside_same : (m : Multi) → IsBeside p m m
  beside_same m = record { aside = λ k away. refl; going = λ k a e. (a.phase, e); conns = λ q ne. refl; opening = refl; calm = refl }

  pub beside_then : (m n o : Multi) → IsBeside p m n → IsBeside p n o → IsBeside p m o
  beside_then m n o f g = record {
    aside = λ k away. (let e = f.aside k away in g.aside k (subst (IsAway p) (sym e) away) ∙ e);
    going = λ k a e. (let x = f.going k a e in let y = g.going k (moved a x.0) x.1 in (y.0, y.1));
    conns = λ q ne. g.conns q ne ∙ f.conns q ne;
    opening = g.opening ∙ f.opening;
    calm = g.calm ∙ f.calm;
  }

  -- a request that is there goes on, and its connection changes
  pub beside_move : (m n : Multi) (k : ℕ) (a : Asker) (phase : Phase) → m.asks k ≡ Some a → (IsAway p (m.asks k) → ⊥) → n.asks ≡ with_at k (Some (moved a phase)) m.asks → ((q : ℕ) → (p ≡ q → ⊥) → n.conns q ≡ m.conns q) → n.opening ≡ m.opening → n.calm ≡ m.calm
      → IsBeside p m n
  beside_move m n k a phase is there asks conns opening calm = record {
    aside = λ j away. ap (λ (f : ℕ → Option Asker). f j) asks ∙ with_there k (Some (moved a phase)) m.asks j (λ e. there (subst (λ j. IsAway p (m.asks j)) (sym e) away));
    going = λ j b e. going j b e;
    conns = conns;
    opening = opening;
    calm = calm;
  }
    where
      same : (b : Asker) → m.asks k ≡ Some b → a ≡ b
      same b e = let f : Some a ≡ Some b = sym is ∙ e in cc

      going : (j : ℕ) (b : Asker) → m.asks j ≡ Some b → (ph : Phase) × (n.asks j ≡ Some (moved b ph))
      going j b e = each_number (λ j. (b : Asker) → m.asks j ≡ Some b → (ph : Phase) × (n.asks j ≡ Some (moved b ph))) k
          (λ b e. (phase, ap (λ (f : ℕ → Option Asker). f k) asks ∙ (with_here k (Some (moved a phase)) m.asks ∙ ap (λ a. Some (moved a phase)) (same b e))))
          (λ j ne b e. (b.phase, ap (λ (f : ℕ → Option Asker). f j) asks ∙ (with_there k (Some (moved a phase)) m.asks j ne ∙ e)))
          j b e

-- who failed still does
pub failing_still : (p : ℕ) (names : ℕ → Option ℕ) (m n : Multi) (xs : List Posted) → IsBeside p m n → AreFailing names m.asks xs → AreFailing names n.asks xs
failing_still p names m n [] beside f = tt
failing_still p names m n (x ∷ xs) beside f =
    let k = f.1.0 in
    let a = f.1.1 in
    (f.0, (k, a, f.1.2, beside.aside k (away (m.asks k) a f.1.3 f.1.4) ∙ f.1.3, f.1.4), failing_still p names m n xs beside f.2)
  where
    away : (o : Option Asker) (a : Asker) → o ≡ Some a → a.phase ≡ Broken → IsAway p o
    away o a e is = record {
      lined = λ b f g. (let x : Some a ≡ Some b = sym e ∙ f in let y : a ≡ b = cc in let z : Broken ≡ Lined p = sym is ∙ (ap (λ (a : Asker). a.phase) y ∙ g) in cc);
      holding = λ b id f g. (let x : Some a ≡ Some b = sym e ∙ f in let y : a ≡ b = cc in let z : Broken ≡ Holding p id = sym is ∙ (ap (λ (a : Asker). a.phase) y ∙ g) in cc);
    }

pub failing_both : (names : ℕ → Option ℕ) (asks : ℕ → Option Asker) (xs ys : List Posted) → AreFailing names asks xs → AreFailing names asks ys → AreFailing names asks (xs ++ ys)
failing_both names asks [] ys f g = g
failing_both names asks (x ∷ xs) ys f g = (f.0, f.1, failing_both names asks xs ys f.2 g)
