-- Frames are taken alike in two clients side by side.
use Rattle.std.proofs.Common.{◌≡◌, ℕ, zero, suc, ◌⊎◌, inl, inr, Bool, true, false, if◌then◌else◌, Option, Some, None, List, [], refl, sym, ◌∙◌, ap, subst, append-nil, le_refl}
use Rattle.std.specs.Prelude.{option_and_then}
use Rattle.client_request.specs.Request.{Request}
use Rattle.client_request.specs.Timers.{due_now}
use Rattle.client_request.specs.View.{View, Transport}
use Rattle.client_request.specs.declared.event.Out.{Out}
use Rattle.client_steps.specs.Client.{Asked, Client, Machine, client_of, settles, replies, most_timers, fires_all, next_frame, more_frames}
use Rattle.client_steps.specs.Machines.{machine_of}
use Rattle.client_steps.proofs.Fuel.{none_fires}
use Rattle.proof_cutting.specs.Pieces.{like, stands, IsReady, Both, Each, Takes, IsCuttable, GivesUpQuietly}
use Rattle.proof_cutting.proofs.Views.{same_both}
use Rattle.proof_cutting.proofs.Counting.{with_more, behind_first, IsEnough, no_steps, one_less, still_stands, is_ready, none_behind}
use Rattle.proof_cutting.proofs.Replying.{nothing_to_reply, replies_keep, replies_empty}
use Rattle.proof_cutting.proofs.Beside.{beside, Meet, There, Any, first_is, second_is, first_less, same_meet, then_meet, settled}
use Rattle.proof_cutting.proofs.Firing.{Fired, fires_beside}

-- What is said of octets that stay, or whose place is closed.
ready_on : (o p : Option (List ℕ)) → stands o ≡ true → (p ≡ o) ⊎ (p ≡ None) → IsReady p
ready_on o p h (inl e) = subst IsReady (sym e) (is_ready o h)
ready_on o p h (inr e) = subst IsReady (sym e) tt

pub none_on : (o p : Option (List ℕ)) → stands o ≡ false → (p ≡ o) ⊎ (p ≡ None) → stands p ≡ false
none_on o p h (inl e) = ap stands e ∙ h
none_on o p h (inr e) = ap stands e

behind_on : (o p q : Option (List ℕ)) → (p ≡ o) ⊎ (p ≡ None) → (q ≡ behind_first p) ⊎ (q ≡ None) → (q ≡ behind_first o) ⊎ (q ≡ None)
behind_on o p q (inl e) (inl f) = inl (f ∙ ap behind_first e)
behind_on o p q (inr e) (inl f) = inr (f ∙ ap behind_first e)
behind_on o p q (inl e) (inr f) = inr f
behind_on o p q (inr e) (inr f) = inr f

pub enough_on : (n : ℕ) (o p : Option (List ℕ)) → IsEnough n (behind_first o) → (p ≡ behind_first o) ⊎ (p ≡ None) → IsEnough n p
enough_on n o p l (inl e) = subst (IsEnough n) (sym e) l
enough_on n o p l (inr e) = subst (IsEnough n) (sym e) tt

nothing_more : (o : Option (List ℕ)) → with_more [] o ≡ o
nothing_more None = refl
nothing_more (Some o) = ap Some (append-nil o)

module _ {U P : Type 0} (octets_at : U → Option (List ℕ)) (IsFit : U → (timer : ℕ) → Type 0) where
  -- what a frame that is taken leaves: those behind it stand, or the place was closed
  pub record Taken (c d : Client U P) : Type 0 where
    pub fit : IsFit d.layer d.view.timers.next
    pub octets : (octets_at d.layer ≡ behind_first (octets_at c.layer)) ⊎ (octets_at d.layer ≡ None)
    pub more : d.view.more ≡ stands (octets_at d.layer)
    pub now : d.view.now ≡ c.view.now
    pub board : d.view.board ≡ []

  -- All frames are taken.
  pub record Done (c d : Client U P) : Type 0 where
    pub fit : IsFit d.layer d.view.timers.next
    pub none : stands (octets_at d.layer) ≡ false
    pub now : d.view.now ≡ c.view.now
    pub board : d.view.board ≡ []

  replied : (a : Asked P) (c : Client U P) (u : U) (v : View) → Takes octets_at IsFit c.layer (record c.view { more = false }) u v → Taken c (client_of u (replies (a, v)))
  replied a c u v l =
      let k = replies_keep (a, v) in
      record {
        fit = subst (λ n. IsFit u n) (sym k.timer) l.fit;
        octets = l.octets;
        more = k.more ∙ l.more;
        now = k.now ∙ l.now;
        board = replies_empty (a, v);
      }

  taken_on : (c d e : Client U P) → Fired octets_at IsFit c d → Taken d e → Taken c e
  taken_on c d e f k = record {
    fit = k.fit;
    octets = behind_on (octets_at c.layer) (octets_at d.layer) (octets_at e.layer) f.octets k.octets;
    more = k.more;
    now = k.now ∙ f.now;
    board = k.board;
  }

  done_on : (c d e : Client U P) → d.view.now ≡ c.view.now → Done d e → Done c e
  done_on c d e now f = record { fit = f.fit; none = f.none; now = f.now ∙ now; board = f.board }

  fired_over : (c d e : Client U P) → Done c d → Fired octets_at IsFit d e → Done c e
  fired_over c d e f g = record {
    fit = g.fit;
    none = none_on (octets_at d.layer) (octets_at e.layer) f.none g.octets;
    now = g.now ∙ f.now;
    board = g.board f.board;
  }

module _ {U P : Type 0} (m : Machine U P) (place : ℕ) where
  -- timers that are due fire, and the next frame is taken
  abbrev pub go_on : Client U P → Option (Client U P)
  go_on c = option_and_then (next_frame m place) (fires_all m c)

  -- the first frame and those behind it are taken, and timers that are due fire
  abbrev pub takes_all : ℕ → Client U P → Option (Client U P)
  takes_all n c = option_and_then (fires_all m) (option_and_then (more_frames m place n) (next_frame m place c))

  pub more_idle : (n : ℕ) (c : Client U P) → c.view.more ≡ false → more_frames m place n c ≡ Some c
  more_idle zero c e = refl
  more_idle (suc n) c e = ap (λ (b : Bool). if b then option_and_then (more_frames m place n) (go_on c) else Some c) e

  pub more_going : (n : ℕ) (c : Client U P) → c.view.more ≡ true → more_frames m place (suc n) c ≡ option_and_then (more_frames m place n) (go_on c)
  more_going n c e = ap (λ (b : Bool). if b then option_and_then (more_frames m place n) (go_on c) else Some c) e

module _ {U P : Type 0} {place : ℕ} {t : Transport Request U P} {octets : U → Option (List ℕ)} {longer : List ℕ → U → U} {IsFit : U → (timer : ℕ) → Type 0} {stale : P → U → View → Option (List ℕ)} (ticket : P → ℕ)
    (cuttable : IsCuttable place t octets longer IsFit) (quiet : GivesUpQuietly t longer IsFit stale) where
  abbrev pub Fit : Client U P → Type 0
  Fit c = IsFit c.layer c.view.timers.next

  abbrev pub Goes : List ℕ → List Out → (First Second : Client U P → Type 0) → (first second : Option (Client U P)) → Type 0
  Goes piece before First Second first second = Meet (longer piece) before First Second first second

  abbrev on : Client U P → Option (Client U P)
  on c = go_on (machine_of t ticket stale) place c

  abbrev next : Client U P → Option (Client U P)
  next c = next_frame (machine_of t ticket stale) place c

  abbrev frames : ℕ → Client U P → Option (Client U P)
  frames n c = more_frames (machine_of t ticket stale) place n c

  pub same_octets : (u : U) → octets (longer [] u) ≡ octets u
  same_octets u = cuttable.behind [] u ∙ nothing_more (octets u)

  -- a frame that can be taken
  next_beside : (piece : List ℕ) (before : List Out) (more : Bool) (request : ℕ) (c : Client U P) → Fit c → IsReady (octets c.layer)
      → Goes piece before (Taken octets IsFit c) Any (next c) (next (beside (longer piece) before more request c))
  next_beside piece before more request c fit ready =
      settled c.asked (cuttable.takes piece before request c.layer (record c.view { more = false }) fit ready refl) (λ u v l. replied octets IsFit c.asked c u v l)

  on_beside : (piece : List ℕ) (before : List Out) (more : Bool) (request : ℕ) (c : Client U P) → Fit c → stands (octets c.layer) ≡ true
      → Goes piece before (Taken octets IsFit c) Any (on c) (on (beside (longer piece) before more request c))
  on_beside piece before more request c fit h =
      then_meet next next (fires_beside ticket cuttable quiet piece before most_timers more request c fit)
      (λ d more' request' f s. first_less (next_beside piece before more' request' d f.fit (ready_on (octets c.layer) (octets d.layer) h f.octets)) (λ e k. taken_on octets IsFit c d e f k))

  -- The next frame is taken alike, and of both it is known what is left.
  pub on_both : (piece : List ℕ) (before : List Out) (more : Bool) (request : ℕ) (c : Client U P) → Fit c → stands (octets c.layer) ≡ true
      → Goes piece before (Taken octets IsFit c) (Taken octets IsFit (beside (longer piece) before more request c)) (on c) (on (beside (longer piece) before more request c))
  on_both piece before more request c fit h =
      second_is (on_beside piece before more request c fit h)
      (λ e is. first_is e (on_beside [] [] false 0 (beside (longer piece) before more request c) (cuttable.fits piece c.layer c.view.timers.next fit)
      (ap stands (cuttable.behind piece c.layer) ∙ still_stands piece (octets c.layer) h)) is)

  -- the same of a frame that can be taken at once
  pub next_both : (piece : List ℕ) (before : List Out) (more : Bool) (request : ℕ) (c : Client U P) → Fit c → stands (octets c.layer) ≡ true
      → Goes piece before (Taken octets IsFit c) (Taken octets IsFit (beside (longer piece) before more request c)) (next c) (next (beside (longer piece) before more request c))
  next_both piece before more request c fit h =
      second_is (next_beside piece before more request c fit (is_ready (octets c.layer) h))
      (λ e is. first_is e (next_beside [] [] false 0 (beside (longer piece) before more request c) (cuttable.fits piece c.layer c.view.timers.next fit)
      (is_ready (octets (longer piece c.layer)) (ap stands (cuttable.behind piece c.layer) ∙ still_stands piece (octets c.layer) h))) is)

  -- So many steps take all frames, and as many others do the same.
  abbrev TakesAlike : ℕ → ℕ → Type 0
  TakesAlike n k = (before : List Out) (more : Bool) (request : ℕ) (c : Client U P) → Fit c → c.view.more ≡ stands (octets c.layer) → more ≡ stands (octets c.layer) → c.view.board ≡ []
      → IsEnough n (octets c.layer) → IsEnough k (octets c.layer) → Goes [] before (Done octets IsFit c) Any (frames n c) (frames k (beside (longer []) before more request c))

  none_left : (n k : ℕ) (before : List Out) (more : Bool) (request : ℕ) (c : Client U P) → Fit c → c.view.more ≡ stands (octets c.layer) → more ≡ stands (octets c.layer) → c.view.board ≡ []
      → stands (octets c.layer) ≡ false → Goes [] before (Done octets IsFit c) Any (frames n c) (frames k (beside (longer []) before more request c))
  none_left n k before more request c fit e e' board h =
      same_meet (more_idle (machine_of t ticket stale) place n c (e ∙ h)) (more_idle (machine_of t ticket stale) place k (beside (longer []) before more request c) (e' ∙ h))
      (There c more request (record { fit = fit; none = h; now = refl; board = board }) tt)

  one_left : (n k : ℕ) → TakesAlike n k → (before : List Out) (more : Bool) (request : ℕ) (c : Client U P) → Fit c → c.view.more ≡ stands (octets c.layer) → more ≡ stands (octets c.layer)
      → IsEnough (suc n) (octets c.layer) → IsEnough (suc k) (octets c.layer) → stands (octets c.layer) ≡ true
      → Goes [] before (Done octets IsFit c) Any (frames (suc n) c) (frames (suc k) (beside (longer []) before more request c))
  one_left n k ih before more request c fit e e' l l' h =
      same_meet (more_going (machine_of t ticket stale) place n c (e ∙ h)) (more_going (machine_of t ticket stale) place k (beside (longer []) before more request c) (e' ∙ h))
      (then_meet (frames n) (frames k) (on_both [] before more request c fit h)
      (λ d more' request' f s. first_less
      (ih before more' request' d f.fit f.more (s.more ∙ ap stands (same_octets d.layer)) f.board
      (enough_on n (octets c.layer) (octets d.layer) (one_less n (octets c.layer) l h) f.octets) (enough_on k (octets c.layer) (octets d.layer) (one_less k (octets c.layer) l' h) f.octets))
      (λ g x. done_on octets IsFit c d g f.now x)))

  frames_beside : (n k : ℕ) → TakesAlike n k
  frames_beside zero k before more request c fit e e' board l l' = none_left zero k before more request c fit e e' board (no_steps (octets c.layer) l)
  frames_beside (suc n) zero before more request c fit e e' board l l' = none_left (suc n) zero before more request c fit e e' board (no_steps (octets c.layer) l')
  frames_beside (suc n) (suc k) before more request c fit e e' board l l' = by (stands (octets c.layer)) refl (frames_beside n k)
    where
      by : (b : Bool) → stands (octets c.layer) ≡ b → TakesAlike n k → Goes [] before (Done octets IsFit c) Any (frames (suc n) c) (frames (suc k) (beside (longer []) before more request c))
      by true h ih = one_left n k ih before more request c fit e e' l l' h
      by false h ih = none_left (suc n) (suc k) before more request c fit e e' board h

  -- the first frame, if there is one
  first_rests : (before : List Out) (more : Bool) (request : ℕ) (c : Client U P) → Fit c → stands (octets c.layer) ≡ false
      → Goes [] before (Taken octets IsFit c) Any (next c) (next (beside (longer []) before more request c))
  first_rests before more request c fit h =
      let v : View = record c.view { more = false } in
      let same : Both (longer []) before (Takes octets IsFit c.layer v) (Some (c.layer, v)) (Some (longer [] c.layer, like before false request v)) =
      Each c.layer v false request (record { fit = fit; now = refl; timer = le_refl c.view.timers.next; octets = inl (none_behind (octets c.layer) h); more = sym h }) in
      settled c.asked
      (same_both (cuttable.rests c.layer v fit h)
      (cuttable.rests (longer [] c.layer) (like before false request v) (cuttable.fits [] c.layer c.view.timers.next fit) (ap stands (same_octets c.layer) ∙ h)) same)
      (λ u w l. replied octets IsFit c.asked c u w l)

  first_beside : (before : List Out) (more : Bool) (request : ℕ) (c : Client U P) → Fit c → Goes [] before (Taken octets IsFit c) Any (next c) (next (beside (longer []) before more request c))
  first_beside before more request c fit = by (stands (octets c.layer)) refl
    where
      by : (b : Bool) → stands (octets c.layer) ≡ b → Goes [] before (Taken octets IsFit c) Any (next c) (next (beside (longer []) before more request c))
      by true h = next_beside [] before more request c fit (is_ready (octets c.layer) h)
      by false h = first_rests before more request c fit h

  first_both : (before : List Out) (more : Bool) (request : ℕ) (c : Client U P) → Fit c
      → Goes [] before (Taken octets IsFit c) (Taken octets IsFit (beside (longer []) before more request c)) (next c) (next (beside (longer []) before more request c))
  first_both before more request c fit =
      second_is (first_beside before more request c fit)
      (λ e is. first_is e (first_beside [] false 0 (beside (longer []) before more request c) (cuttable.fits [] c.layer c.view.timers.next fit)) is)

  -- All frames are taken alike, whatever was put out before.
  pub all_beside : (n k : ℕ) (before : List Out) (more : Bool) (request : ℕ) (c : Client U P) → Fit c → IsEnough n (behind_first (octets c.layer)) → IsEnough k (behind_first (octets c.layer))
      → Goes [] before (Done octets IsFit c) Any (takes_all (machine_of t ticket stale) place n c) (takes_all (machine_of t ticket stale) place k (beside (longer []) before more request c))
  all_beside n k before more request c fit l l' =
      then_meet (fires_all (machine_of t ticket stale)) (fires_all (machine_of t ticket stale))
      (then_meet (frames n) (frames k) (first_both before more request c fit)
      (λ d more' request' f s. first_less
      (frames_beside n k before more' request' d f.fit f.more (s.more ∙ ap stands (same_octets d.layer)) f.board
      (enough_on n (octets c.layer) (octets d.layer) l f.octets) (enough_on k (octets c.layer) (octets d.layer) l' f.octets))
      (λ e x. done_on octets IsFit c d e f.now x)))
      (λ d more' request' f s. first_less (fires_beside ticket cuttable quiet [] before most_timers more' request' d f.fit) (λ e g. fired_over octets IsFit c d e f g))

  -- where no frame stands, and no timer is due, nothing is done
  next_rests : (c : Client U P) → Fit c → stands (octets c.layer) ≡ false → c.view.more ≡ false → c.view.board ≡ [] → next c ≡ Some c
  next_rests c fit h e board =
      let v : View = record c.view { more = false } in
      ap (settles c.asked) (cuttable.rests c.layer v fit h)
      ∙ ap (λ (x : Asked P × View). Some (client_of c.layer x)) (nothing_to_reply c.asked v board)
      ∙ ap (λ (b : Bool). Some (record c { view = record c.view { more = b } })) (sym e)

  pub all_rest : (n : ℕ) (c : Client U P) → Fit c → stands (octets c.layer) ≡ false → c.view.more ≡ false → c.view.board ≡ [] → due_now c.view.now c.view.timers.set ≡ None
      → takes_all (machine_of t ticket stale) place n c ≡ Some c
  all_rest n c fit h e board due =
      ap (option_and_then (fires_all (machine_of t ticket stale))) (ap (option_and_then (frames n)) (next_rests c fit h e board) ∙ more_idle (machine_of t ticket stale) place n c e)
      ∙ none_fires (machine_of t ticket stale) c due
