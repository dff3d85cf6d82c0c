-- The servers hear a signal one after another, and only one of them takes notice.
use Rattle.std.proofs.Common.{◌≡◌, ℕ, zero, suc, ◌+◌, ◌<◌, ◌≤◌, ◌⊎◌, inl, inr, max, Bool, true, false, List, [], length, Some, slice_get, refl, sym, ap, subst, ◌∙◌, arith, le_refl}
use Rattle.std.specs.Prelude.{option_and_then}
use Rattle.client_request.specs.Request.{Request}
use Rattle.client_request.specs.View.{View, Heard, told}
use Rattle.client_request.specs.declared.event.Event.{Event}
use Rattle.client_request.specs.declared.event.Out.{Out}
use Rattle.client_request.specs.declared.event.What.{What}
use Rattle.client_request.specs.Composed.{composed}
use Rattle.client_choice.specs.Choice.{Choice, hears_some, hears_one, settles_all, hears_all}
use Rattle.client_choice.specs.Servers.{Server, onto}
use Rattle.proof_right.specs.machine.Part.{Act}
use Rattle.proof_right.specs.machine.Client.{Made, Move, Server_moves, Hands_on, Gives_up, Drops, Keeps_back, Delivers, Concludes, Times_out, Revives, Replies, Forgets, Derives, Answers, Takes_on, moved, hand, with_up}
use Rattle.proof_parts.specs.Leading as moves
use Rattle.proof_parts.specs.PartTie.{Phase, Untold, Passed, Leads, place_in}
use Rattle.proof_parts.specs.Sharing.{Opens}
use Rattle.proof_parts.specs.Sights.{sight}
use Rattle.proof_parts.proofs.Keys.{each_number}
use Rattle.proof_choice.specs.Choosing.{Choosing}
use Rattle.proof_choice.specs.Doing.{IsNothing}
use Rattle.proof_choice.specs.Servers.{State, AreTied}
use Rattle.proof_choice.proofs.Leading.{up_here, up_other}
use Rattle.proof_choice.proofs.Leaving.{leads_then}
use Rattle.proof_choice.proofs.ServerCalls.{passes_by}
use Rattle.proof_choice.proofs.WholeViews.{in_conf}

one_on : (s q n : ℕ) → s + 1 ≤ q → s ≤ q
one_on s q n le = omega arith

one_less : (s q n : ℕ) → q < s + 1 + n → q < s + suc n
one_less s q n lt = omega arith

at_first : (s n : ℕ) → s < s + suc n
at_first s n = omega arith

none_at_all : (s o : ℕ) → s ≤ o → o < s + 0 → ⊥
none_at_all s o le lt = omega arith

here_or_on : (s o : ℕ) → s ≤ o → (s ≡ o) ⊎ (s + 1 ≤ o)
here_or_on s o le = grind arith

less_of : (s o : ℕ) → s + 1 ≤ o → s < o
less_of s o le = omega arith

within_more : (s o n : ℕ) → o < s + suc n → o < s + 1 + n
within_more s o n lt = omega arith

behind : (s o q : ℕ) → s ≡ o → s + 1 ≤ q → o < q
behind s o q same le = omega arith

module _ (g : Choosing) where
  -- to none of these servers it is anything
  none_hear : (n s : ℕ) (h : Heard) (c : Choice Request g.U g.R) (v : View) → ((q : ℕ) → s ≤ q → q < s + n → IsNothing g q h c v) → hears_some g.below g.settings s n h c v ≡ Some (c, v)
  none_hear zero s h c v nothing = refl
  none_hear (suc n) s h c v nothing =
      ap (λ o. option_and_then (λ x. hears_some g.below g.settings (s + 1) n h x.0 x.1) o) (nothing s (le_refl s) (at_first s n))
      ∙ none_hear n (s + 1) h c v (λ q le lt. nothing q (one_on s q n le) (one_less s q n lt))

  -- One of them hears it: before it nothing happens, and after it nothing more.
  one_hears : (A : Choice Request g.U g.R → View → Type 0) (h : Heard) (c : Choice Request g.U g.R) (v : View) (o n s : ℕ) → s ≤ o → o < s + n → ((q : ℕ) → s ≤ q → q < o → IsNothing g q h c v) → Leads A (hears_one g.below g.settings o h c v)
      → ((d : Choice Request g.U g.R) (w : View) → A d w → (q : ℕ) → o < q → q < s + n → IsNothing g q h d w) → Leads A (hears_some g.below g.settings s n h c v)
  one_hears A h c v o zero s le lt before here after = absurd (none_at_all s o le lt)
  one_hears A h c v o (suc n) s le lt before here after = elim (here_or_on s o le) [
    | inl same ↦ leads_then A A (λ x. hears_some g.below g.settings (s + 1) n h x.0 x.1) (hears_one g.below g.settings s h c v)
        (λ d w a. subst (Leads A) (sym (none_hear n (s + 1) h d w (λ q on lt. after d w a q (behind s o q same on) (one_less s q n lt)))) a)
        (subst (λ s. Leads A (hears_one g.below g.settings s h c v)) (sym same) here)
    | inr on ↦ subst (λ z. Leads A (option_and_then (λ x. hears_some g.below g.settings (s + 1) n h x.0 x.1) z)) (sym (before s (le_refl s) (less_of s o on)))
        (one_hears A h c v o n (s + 1) on (within_more s o n lt) (λ q le less. before q (one_on s q n le) less) here (λ d w a q more lt. after d w a q more (one_less s q n lt)))
  ]

  pub all_pass : (h : Heard) (c : Choice Request g.U g.R) (v : View) → ((q : ℕ) → q < length c.servers → IsNothing g q h c v) → hears_all g.below g.settings h c v ≡ Some (c, v)
  all_pass h c v nothing = none_hear (length c.servers) 0 h c v (λ q le lt. nothing q (in_list q (length c.servers) lt))
    where
      in_list : (q n : ℕ) → q < 0 + n → q < n
      in_list q n lt = omega arith

  pub one_of_all : (A : Choice Request g.U g.R → View → Type 0) (h : Heard) (c : Choice Request g.U g.R) (v : View) (o : ℕ) → o < length c.servers
      → ((q : ℕ) → q < length c.servers → (o ≡ q → ⊥) → IsNothing g q h c v) → Leads A (hears_one g.below g.settings o h c v)
      → ((d : Choice Request g.U g.R) (w : View) → A d w → (q : ℕ) → q < length c.servers → (o ≡ q → ⊥) → IsNothing g q h d w) → Leads A (hears_all g.below g.settings h c v)
  one_of_all A h c v o inside before here after =
      one_hears A h c v o (length c.servers) 0 (at_least o) (up o (length c.servers) inside) (λ q le less. before q (through q o (length c.servers) less inside) (λ same. not_below o (subst (λ n. n < o) (sym same) less))) here
      (λ d w a q behind lt. after d w a q (in_list q (length c.servers) lt) (λ same. not_below o (subst (λ n. o < n) (sym same) behind)))
    where
      at_least : (n : ℕ) → 0 ≤ n
      at_least n = omega arith

      up : (q n : ℕ) → q < n → q < 0 + n
      up q n lt = omega arith

      in_list : (q n : ℕ) → q < 0 + n → q < n
      in_list q n lt = omega arith

      through : (a b c : ℕ) → a < b → b < c → a < c
      through a b c p q = omega arith

      not_below : (n : ℕ) → n < n → ⊥
      not_below n lt = omega arith

  -- An event that passed a server is nothing to it still, where its place is none of the server's.
  pub passed_event : (phase : ℕ → Phase) (s : ℕ) (a : Server g.U) (what : What) (p : ℕ) (c : Choice Request g.U g.R) (v : View) (x : State g) → AreTied g phase c.servers v x → slice_get c.servers s ≡ Some a → a.posted ≡ []
      → phase s ≡ Passed what → place_in what ≡ Some p → g.has (x.ups s) p ≡ false → IsNothing g s (told what) c v
  passed_event phase s a what p c v x t at quiet passed place none =
      ap (λ o. option_and_then (λ x. settles_all g.below g.settings s x.0.0 (record c { servers = x.0.1 }) x.1) o)
      (passes_by g c.servers v s a at quiet (told what) ((g.layer s inside).step (told what) a.upstream (onto [] v) ∙ (g.shared s inside).ignores a.upstream (onto [] v) (g.P.begin again (x.ups s)) what p untold place (g.opens.begins again (x.ups s) p ∙ none)))
    where
      inside : s < length (g.c).servers
      inside = in_conf g phase c.servers v x s a t at

      again : Event
      again = record { moment = record { 0 = 0 }; what = what }

      same_moment : (n : ℕ) → max 0 n ≡ n
      same_moment n = omega arith

      untold : g.Tied s (Untold what) a.upstream (sight v) (g.P.begin again (x.ups s))
      untold = subst (λ n. g.Tied s (Untold what) a.upstream (record (sight v) { now = n }) (g.P.begin again (x.ups s))) (same_moment v.now)
          ((g.tie s inside).begins (Passed what) a.upstream (sight v) (x.ups s) again tt (subst (λ f. g.Tied s f a.upstream (sight v) (x.ups s)) passed (t.tied s a at)))

  -- Moves open no place but the next ones.
  abbrev OpensNone : (x y : State g) → Type 0
  OpensNone x y = (x.place ≤ y.place) × ((q p : ℕ) → g.has (y.ups q) p ≡ true → (g.has (x.ups q) p ≡ true) ⊎ (x.place ≤ p))

  opens_then : (x y z : State g) → OpensNone x y → OpensNone y z → OpensNone x z
  opens_then x y z a b = (over x.place y.place z.place a.0 b.0, λ q p is. elim (b.1 q p is) [ inl had ↦ a.1 q p had | inr le ↦ inr (over x.place y.place p a.0 le) ])
    where
      over : (a b c : ℕ) → a ≤ b → b ≤ c → a ≤ c
      over a b c p q = omega arith

  nothing_opens : (ups : ℕ → g.P.State) (place : ℕ) → (place ≤ place) × ((q p : ℕ) → g.has (ups q) p ≡ true → (g.has (ups q) p ≡ true) ⊎ (place ≤ p))
  nothing_opens ups place = (le_refl place, λ q p is. inl is)

  one_acts : (x y : State g) (i : ℕ) (d : Act g.P.State) → Opens g.has x.place (x.ups i) d → y.ups ≡ with_up i d.state x.ups → y.place ≡ d.place → OpensNone x y
  one_acts x y i d o ups place = (
    subst (λ n. x.place ≤ n) (sym place) o.0,
    λ q p is. each_number (λ q. g.has (with_up i d.state x.ups q) p ≡ true → (g.has (x.ups q) p ≡ true) ⊎ (x.place ≤ p)) i
        (λ is. elim (o.1 p (subst (λ u. g.has u p ≡ true) (up_here i d.state x.ups) is)) [ inl had ↦ inl had | inr new ↦ inr new.0 ])
        (λ q ne is. inl (subst (λ u. g.has u p ≡ true) (up_other i q d.state x.ups ne) is)) q (subst (λ (f : ℕ → g.P.State). g.has (f q) p ≡ true) ups is),
  )

  move_opens : (x : State g) (d : Made g.P.State) → Move g.c g.st composed g.P x d → OpensNone x d.state
  move_opens x _ (Server_moves i d lt acts) = one_acts x (moved i d x) i d (g.opens.acts i x.place (x.ups i) d acts) refl refl
  move_opens x _ (Hands_on i k a d lt held tried starts) = one_acts x (moved i d (hand k i a x)) i d (g.opens.starts i x.place k a.request (x.ups i) d starts) refl refl
  move_opens x _ (Gives_up i k d lt held holds cancels) = one_acts x (moved i d x) i d (g.opens.cancels i x.place k (x.ups i) d cancels) refl refl
  move_opens x _ (Drops before after y on held) = nothing_opens x.ups x.place
  move_opens x _ (Keeps_back before after y a on held waits) = nothing_opens x.ups x.place
  move_opens x _ (Delivers before after y a z on held waits is) = nothing_opens x.ups x.place
  move_opens x _ (Concludes k a y z held tried holds none best is) = nothing_opens x.ups x.place
  move_opens x _ (Times_out k a held late) = nothing_opens x.ups x.place
  move_opens x _ (Revives before after y e m on fails there may) = nothing_opens x.ups x.place
  move_opens x _ (Replies before after y on) = nothing_opens x.ups x.place
  move_opens x _ (Forgets before after e on) = nothing_opens x.ups x.place
  move_opens x _ (Derives e k is covers) = nothing_opens x.ups x.place
  move_opens x _ (Answers r y is at) = nothing_opens x.ups x.place
  move_opens x _ (Takes_on r o old is composes some stored) = nothing_opens x.ups x.place

  moves_open : (x : State g) (outs : List Out) (y : State g) → moves.Leads g.st composed g.P x outs y → OpensNone x y
  moves_open _ _ _ (moves.Arrives x) = nothing_opens x.ups x.place
  moves_open _ _ _ (moves.Then x d outs y f is l) = opens_then x d.state y (move_opens x d f) (moves_open d.state outs y l)

  -- a place that a server had not, and that was given before, it has not afterwards
  pub still_none : (x : State g) (outs : List Out) (y : State g) (q p : ℕ) → moves.Leads g.st composed g.P x outs y → p < x.place → g.has (x.ups q) p ≡ false → g.has (y.ups q) p ≡ false
  still_none x outs y q p l below none = by (g.has (y.ups q) p) refl
    where
      not_both : (b : Bool) → b ≡ true → b ≡ false → ⊥
      not_both b p q = cc

      no_less : (a b : ℕ) → a < b → b ≤ a → ⊥
      no_less a b p q = omega arith

      by : (b : Bool) → g.has (y.ups q) p ≡ b → b ≡ false
      by false is = refl
      by true is = elim ((moves_open x outs y l).1 q p is) [ inl had ↦ absurd (not_both (g.has (x.ups q) p) had none) | inr le ↦ absurd (no_less p x.place below le) ]
