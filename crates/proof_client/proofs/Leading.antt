-- Chains of moves of the client: one after another, and what they keep.
use Rattle.std.proofs.Common.{◌≡◌, ℕ, suc, ◌≤◌, ◌⊎◌, inl, inr, List, [], ◌++◌, Option, Some, refl, sym, ap, subst, ◌∙◌, arith, le_refl, append_assoc, append-nil}
use Rattle.client_request.specs.Composed.{composed}
use Rattle.client_request.specs.declared.event.Out.{Out}
use Rattle.right_trace.specs.Trace.{Conf}
use Rattle.right_trace.specs.Settings.{Settings}
use Rattle.proof_right.specs.machine.Part.{ServerPart}
use Rattle.proof_right.specs.machine.Client.{Waiting, Upper, Made, Move, Moves, IsDone, Server_moves, Hands_on, Gives_up, Drops, Keeps_back, Delivers, Concludes, Times_out, Revives, Replies, Forgets, Derives, Answers, Takes_on}
use Rattle.proof_parts.specs.ClientTie.{Beside, LeadsBeside, Arrives, Then, AllBeside, WereTried}
use Rattle.proof_client.proofs.Desk.{as_before, was_there, is_or_was}

-- one of them is written otherwise, but for its moment
changes : (k : ℕ) (a b : Waiting) (f : ℕ → Option Waiting) → f k ≡ Some a → b.moment ≡ a.moment → (g : ℕ → Option Waiting) → ((j : ℕ) (x : Waiting) → g j ≡ Some x → (k ≡ j) × (b ≡ x) ⊎ (k ≡ j → ⊥) × (f j ≡ Some x)) → WereTried f g
changes k a b f is same g was j x e = elim (was j x e) [
  | inl p ↦ (a, subst (λ j. f j ≡ Some a) p.0 is, sym (ap (λ (w : Waiting). w.moment) p.1) ∙ same)
  | inr p ↦ (x, p.1, refl)
]

-- one of them goes
goes : (k : ℕ) (f : ℕ → Option Waiting) (g : ℕ → Option Waiting) → ((j : ℕ) (x : Waiting) → g j ≡ Some x → (k ≡ j → ⊥) × (f j ≡ Some x)) → WereTried f g
goes k f g was j x e = (x, (was j x e).1, refl)

-- numbers that rise

never : (n : ℕ) → suc n ≡ n → ⊥
never n e = omega arith

one_more : (n : ℕ) → n ≤ suc n
one_more n = omega arith

between : (a b c : ℕ) → a ≤ b → b ≤ c → c ≡ a → (b ≡ a) × (c ≡ b)
between a b c p q e = (first a b c p q e, second a b c p q e)
  where
    first : (a b c : ℕ) → a ≤ b → b ≤ c → c ≡ a → b ≡ a
    first a b c p q e = omega arith

    second : (a b c : ℕ) → a ≤ b → b ≤ c → c ≡ a → c ≡ b
    second a b c p q e = omega arith

both_le : (a b c : ℕ) → a ≤ b → b ≤ c → a ≤ c
both_le a b c p q = omega arith

module _ {c : Conf} (st : Settings) (P : ServerPart c) (B : Beside st P) where
  pub leads_on : (x : Upper P.State) (e : B.Kept) (a : List Out) (y : Upper P.State) (f : B.Kept) (b : List Out) (z : Upper P.State) (g : B.Kept) → LeadsBeside st P B x e a y f → LeadsBeside st P B y f b z g → LeadsBeside st P B x e (a ++ b) z g
  leads_on _ _ _ _ _ b z g (Arrives x e) m = m
  leads_on _ _ _ _ _ b z g (Then x e d f outs y h move does l) m =
      subst (λ o. LeadsBeside st P B x e o z g) (sym (append_assoc d.outs outs b)) (Then x e d f (outs ++ b) z g move does (leads_on d.state f outs y h b z g l m))

  pub one_move : (x : Upper P.State) (e : B.Kept) (d : Made P.State) (f : B.Kept) (move : Move c st composed P x d) → B.Does x d move e f → LeadsBeside st P B x e d.outs d.state f
  one_move x e d f move does = subst (λ o. LeadsBeside st P B x e o d.state f) (append-nil d.outs) (Then x e d f [] d.state f move does (Arrives d.state f))

  pub all_moves : (x : Upper P.State) (e : B.Kept) (outs : List Out) (y : Upper P.State) (f : B.Kept) → LeadsBeside st P B x e outs y f → IsDone c st composed P y
      → (moves : Moves c st composed P x (record { state = y; outs = outs })) × AllBeside st P B x (record { state = y; outs = outs }) moves e f
  all_moves _ _ _ _ _ (Arrives x e) done = (Moves.Rests x done, refl)
  all_moves _ _ _ _ _ (Then x e d f outs y g move does l) done =
      let more = all_moves d.state f outs y g l done in (Moves.Goes x d (record { state = y; outs = outs }) move more.0, (f, does, more.1))

  -- Of x, y is later in its row: where nobody was asked between, who is tried was tried before.
  pub record IsLater (x y : Upper P.State) : Type 0 where
    pub now : y.now ≡ x.now
    pub asked : x.asked ≤ y.asked
    pub held : y.asked ≡ x.asked → WereTried x.held y.held

  -- a move that leaves those who are tried as they are, or one of them as this
  stays_so : (x y : Upper P.State) → y.now ≡ x.now → y.asked ≡ x.asked → WereTried x.held y.held → IsLater x y
  stays_so x y now asked held = record { now = now; asked = same x.asked y.asked asked; held = λ e. held }
    where
      same : (a b : ℕ) → b ≡ a → a ≤ b
      same a b e = omega arith

  -- a move that takes an asking
  takes_one : (x y : Upper P.State) → y.now ≡ x.now → y.asked ≡ suc x.asked → IsLater x y
  takes_one x y now asked = record { now = now; asked = subst (λ n. x.asked ≤ n) (sym asked) (one_more x.asked); held = λ e. absurd (never x.asked (sym asked ∙ e)) }

  -- what one move leaves
  move_later : (x : Upper P.State) (d : Made P.State) → Move c st composed P x d → IsLater x d.state
  move_later x _ (Server_moves i d lt acts) = stays_so x _ refl refl (as_before x.held)
  move_later x _ (Hands_on i k a d lt held tried starts) = stays_so x _ refl refl (changes k a _ x.held held refl _ (λ j y e. is_or_was k _ x.held j y e))
  move_later x _ (Gives_up i k d lt none holds gives) = stays_so x _ refl refl (as_before x.held)
  move_later x _ (Drops before after y board none) = stays_so x _ refl refl (as_before x.held)
  move_later x _ (Keeps_back before after y a board held waits) = stays_so x _ refl refl (changes y.request a _ x.held held refl _ (λ j z e. is_or_was y.request _ x.held j z e))
  move_later x _ (Delivers before after y a z board held final is) = stays_so x _ refl refl (goes z.request x.held _ (λ j b e. was_there z.request x.held j b e))
  move_later x _ (Concludes k a y z held tried free none best is) = stays_so x _ refl refl (goes z.request x.held _ (λ j b e. was_there z.request x.held j b e))
  move_later x _ (Times_out k a held late) = stays_so x _ refl refl (goes k x.held _ (λ j b e. was_there k x.held j b e))
  move_later x _ (Revives before after y e m leaving fails there may) = stays_so x _ refl refl (as_before x.held)
  move_later x _ (Replies before after y leaving) = stays_so x _ refl refl (as_before x.held)
  move_later x _ (Forgets before after e stored) = stays_so x _ refl refl (as_before x.held)
  move_later x _ (Derives e k is covers) = stays_so x _ refl refl (as_before x.held)
  move_later x _ (Answers r y pending at_once) = takes_one x _ refl refl
  move_later x _ (Takes_on r o old pending composes some stored) = takes_one x _ refl refl

  -- what many leave
  pub leads_later : (x : Upper P.State) (e : B.Kept) (outs : List Out) (y : Upper P.State) (f : B.Kept) → LeadsBeside st P B x e outs y f → IsLater x y
  leads_later _ _ _ _ _ (Arrives x e) = record { now = refl; asked = le_refl x.asked; held = λ e. as_before x.held }
  leads_later _ _ _ _ _ (Then x e d f outs y g move does l) = and_then x d.state y (move_later x d move) (leads_later d.state f outs y g l)
    where
      and_then : (x y z : Upper P.State) → IsLater x y → IsLater y z → IsLater x z
      and_then x y z p q = record {
        now = q.now ∙ p.now;
        asked = both_le x.asked y.asked z.asked p.asked q.asked;
        held = λ e. (let s = between x.asked y.asked z.asked p.asked q.asked e in λ k b h. (let m = q.held s.1 k b h in let n = p.held s.0 k m.0 m.1 in (n.0, n.1, m.2 ∙ n.2)));
      }
