-- What moves below a client leave of who is tried, and of what is stored.
use Rattle.std.proofs.Common.{◌≡◌, ℕ, ◌⊎◌, inl, inr, List, [], ◌++◌, Option, Some, refl, sym, ap, subst, ◌∙◌, append_assoc, append-nil}
use Rattle.client_request.specs.Composed.{composed}
use Rattle.client_request.specs.declared.event.Out.{Out}
use Rattle.right_trace.specs.Settings.{Settings}
use Rattle.right_trace.specs.Trace.{Conf}
use Rattle.proof_right.specs.machine.Part.{ServerPart}
use Rattle.proof_right.specs.machine.Client.{Waiting, Upper, Made, Move, Server_moves, Hands_on, Gives_up, Drops, Keeps_back, Delivers, Concludes, Times_out, Revives, Replies, Forgets, Derives, Answers, Takes_on}
use Rattle.proof_parts.specs.ClientTie.{Beside, LeadsBeside, WereTried}
use Rattle.proof_parts.specs.ClientTie as beside
use Rattle.proof_parts.specs.Leading.{IsBelow, Leads, Arrives, Then}
use Rattle.proof_parts.proofs.Keys.{was_there, is_or_was}

-- what stays as it was, or goes on
pub record Stays {U : Type 0} (x y : Upper U) : Type 0 where
  pub tried : WereTried x.held y.held
  pub stored : y.stored ≡ x.stored
  pub expired : y.expired ≡ x.expired

as_before : (f : ℕ → Option Waiting) → WereTried f f
as_before f k b e = (b, e, refl)

-- one of them is written otherwise, but for its moment
changes : (k : ℕ) (a b : Waiting) (f : ℕ → Option Waiting) → f k ≡ Some a → b.moment ≡ a.moment → (g : ℕ → Option Waiting) → ((j : ℕ) (x : Waiting) → g j ≡ Some x → (k ≡ j) × (Some b ≡ Some x) ⊎ (k ≡ j → ⊥) × (f j ≡ Some x)) → WereTried f g
changes k a b f is same g was j x e = elim (was j x e) [
  | inl p ↦ (a, subst (λ j. f j ≡ Some a) p.0 is, sym (let it : b ≡ x = (let both = p.1 in cc) in ap (λ (w : Waiting). w.moment) it) ∙ same)
  | inr p ↦ (x, p.1, refl)
]

-- one of them goes
goes : (k : ℕ) (f : ℕ → Option Waiting) (g : ℕ → Option Waiting) → ((j : ℕ) (x : Waiting) → g j ≡ Some x → (k ≡ j → ⊥) × (f j ≡ Some x)) → WereTried f g
goes k f g was j x e = (x, (was j x e).1, refl)

pub tried_on : (f g h : ℕ → Option Waiting) → WereTried f g → WereTried g h → WereTried f h
tried_on f g h a b k x e = (let m = b k x e in let n = a k m.0 m.1 in (n.0, n.1, m.2 ∙ n.2))

module _ {c : Conf} (st : Settings) (P : ServerPart c) where
  move_stays : (x : Upper P.State) (d : Made P.State) (m : Move c st composed P x d) → IsBelow st composed P x d m → Stays x d.state
  move_stays x _ (Server_moves i d lt acts) below = record { tried = as_before x.held; stored = refl; expired = refl }
  move_stays x _ (Hands_on i k a d lt held tried starts) below = record { tried = changes k a _ x.held held refl _ (λ j y e. is_or_was k _ x.held j y e); stored = refl; expired = refl }
  move_stays x _ (Gives_up i k d lt none holds gives) below = record { tried = as_before x.held; stored = refl; expired = refl }
  move_stays x _ (Drops before after y board none) below = record { tried = as_before x.held; stored = refl; expired = refl }
  move_stays x _ (Keeps_back before after y a board held waits) below = record { tried = changes y.request a _ x.held held refl _ (λ j z e. is_or_was y.request _ x.held j z e); stored = refl; expired = refl }
  move_stays x _ (Delivers before after y a z board held final is) below = record { tried = goes z.request x.held _ (λ j b e. was_there z.request x.held j b e); stored = refl; expired = refl }
  move_stays x _ (Concludes k a y z held tried free none best is) below = record { tried = goes z.request x.held _ (λ j b e. was_there z.request x.held j b e); stored = refl; expired = refl }
  move_stays x _ (Times_out k a held late) below = record { tried = goes k x.held _ (λ j b e. was_there k x.held j b e); stored = refl; expired = refl }
  move_stays x _ (Revives before after y e m leaving fails there may) below = absurd below
  move_stays x _ (Replies before after y leaving) below = absurd below
  move_stays x _ (Forgets before after e stored) below = absurd below
  move_stays x _ (Derives e k is covers) below = absurd below
  move_stays x _ (Answers r y pending at_once) below = absurd below
  move_stays x _ (Takes_on r o old pending composes some there) below = absurd below

  pub all_stay : (x : Upper P.State) (outs : List Out) (y : Upper P.State) → Leads st composed P x outs y → Stays x y
  all_stay _ _ _ (Arrives x) = record { tried = as_before x.held; stored = refl; expired = refl }
  all_stay _ _ _ (Then x d outs y m below l) =
      let a = move_stays x d m below in
      let b = all_stay d.state outs y l in
      record { tried = tried_on x.held (d.state).held y.held a.tried b.tried; stored = b.stored ∙ a.stored; expired = b.expired ∙ a.expired }

  module _ (B : Beside st P) where
    -- with what is beside the machine, which they leave alone
    pub led_beside : (x : Upper P.State) (outs : List Out) (y : Upper P.State) (e : B.Kept) → Leads st composed P x outs y → LeadsBeside st P B x e outs y e
    led_beside _ _ _ e (Arrives x) = beside.Arrives x e
    led_beside _ _ _ e (Then x d outs y m below l) = beside.Then x e d e outs y e m (B.below x d m e below) (led_beside d.state outs y e l)

    pub led_on : (x : Upper P.State) (e : B.Kept) (a : List Out) (y : Upper P.State) (f : B.Kept) (b : List Out) (z : Upper P.State) (h : B.Kept) → LeadsBeside st P B x e a y f → LeadsBeside st P B y f b z h → LeadsBeside st P B x e (a ++ b) z h
    led_on _ _ _ _ _ b z h (beside.Arrives x e) m = m
    led_on _ _ _ y f b z h (beside.Then x e d e' outs _ _ move does l) m = subst (λ o. LeadsBeside st P B x e o z h) (sym (append_assoc d.outs outs b)) (beside.Then x e d e' (outs ++ b) z h move does (led_on d.state e' outs y f b z h l m))

    pub one_led : (x : Upper P.State) (e : B.Kept) (d : Made P.State) (f : B.Kept) (m : Move c st composed P x d) → B.Does x d m e f → LeadsBeside st P B x e d.outs d.state f
    one_led x e d f m does = subst (λ o. LeadsBeside st P B x e o d.state f) (append-nil d.outs) (beside.Then x e d f [] d.state f m does (beside.Arrives d.state f))
