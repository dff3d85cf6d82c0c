-- Steps that are made so many times.
use Rattle.std.proofs.Common.{◌≡◌, ℕ, zero, suc, ◌+◌, ◌-◌, ◌<◌, ◌≤◌, Bool, true, false, if◌then◌else◌, refl, ap, sym, subst, ◌∙◌, Option, Some, None, arith, sub-one}
use Rattle.client_request.specs.View.{View}
use Rattle.std.specs.Prelude.{option_and_then, option_map}
use Rattle.client_request.specs.Timers.{TimerList, due_now, fired, fired_at}
use Rattle.client_request.specs.declared.timers.Timer.{Timer}
use Rattle.client_request.specs.declared.timers.TimerId.{TimerId}
use Rattle.client_steps.specs.Client.{Asked, Client, Machine, replies_many, replies_first, most_timers, fires, fires_all, fires_first, fire, more_frames, next_frame}

pub replies_many_suc : {P : Type 0} (n : ℕ) (x : Asked P × View) → 0 < n → replies_many n x ≡ replies_many (n - 1) (replies_first x)
replies_many_suc zero x h = absurd (omega arith)
replies_many_suc (suc n) x h = rw sub-one refl

most_is : most_timers ≡ 18446744073709551615
unfolding most_timers
most_is = refl

some_left : (n : ℕ) → n < 18446744073709551615 → 0 < most_timers - n
some_left n h = subst (λ (m : ℕ). 0 < m - n) (sym most_is) (more 18446744073709551615 n h)
  where
    more : (m n : ℕ) → n < m → 0 < m - n
    more m n h = omega arith

module _ {U P : Type 0} (m : Machine U P) where
  pub fires_suc : (n : ℕ) (c : Client U P) → 0 < n → fires m n c ≡ fires_first m (fires m (n - 1)) c (due_now c.view.now c.view.timers.set)
  fires_suc zero c h = absurd (omega arith)
  fires_suc (suc n) c h = rw sub-one refl

  -- the client with these timers
  abbrev pub with_timers : TimerList → Client U P → Client U P
  with_timers ts c = record c { view = record c.view { timers = ts } }

  abbrev pub taken : Client U P → Client U P
  taken c = with_timers (fired c.view.now c.view.timers) c

  first_some : (k : Client U P → Option (Client U P)) (c : Client U P) (after : Option (Client U P)) (timer : TimerId) (t : Option Timer)
      → option_map (λ u. record { 0 = u.id }) t ≡ Some timer → fire m timer.0 (taken c) ≡ after → fires_first m k c t ≡ option_and_then k after
  first_some k c after timer None e f = absurd (cc)
  first_some k c after timer (Some t) e f =
      let s : record { 0 = t.id } ≡ timer = cc in
      let i : t.id ≡ timer.0 = ap (λ (x : TimerId). x.0) s in
      ap (option_and_then k) (ap (λ (n : ℕ). fire m n (taken c)) i ∙ f)

  -- a timer fires, and one step less is left
  fires_some : (n : ℕ) (c : Client U P) (timer : TimerId) (ts : TimerList) (after : Option (Client U P)) → 0 < n
      → option_map (λ u. record { 0 = u.id }) (due_now c.view.now c.view.timers.set) ≡ Some timer → ts ≡ fired c.view.now c.view.timers
      → fire m timer.0 (with_timers ts c) ≡ after → fires m n c ≡ option_and_then (fires m (n - 1)) after
  fires_some n c timer ts after h e s f =
      fires_suc n c h
      ∙ first_some (fires m (n - 1)) c after timer (due_now c.view.now c.view.timers.set) e (ap (λ (x : TimerList). fire m timer.0 (with_timers x c)) (sym s) ∙ f)

  -- Where no timer is due, none fires.
  pub none_fires : (c : Client U P) → due_now c.view.now c.view.timers.set ≡ None → fires_all m c ≡ Some c
  none_fires c e = fires_suc most_timers c (subst (λ (n : ℕ). 0 < n) (sym most_is) (omega arith)) ∙ ap (fires_first m (fires m (most_timers - 1)) c) e

  -- So many timers have fired, of all that there may be.
  abbrev pub fires_from : ℕ → Client U P → Option (Client U P)
  fires_from n c = fires m (most_timers - n) c

  pub fires_begin : (c : Client U P) → fires_all m c ≡ fires_from 0 c
  fires_begin c = ap (λ (n : ℕ). fires m n c) (nothing_off most_timers)
    where
      nothing_off : (n : ℕ) → n ≡ n - 0
      nothing_off n = omega arith

  -- one more does, or can't
  pub fires_next : (n : ℕ) (c d : Client U P) (timer : TimerId) (ts : TimerList) → n < 18446744073709551615
      → option_map (λ u. record { 0 = u.id }) (due_now c.view.now c.view.timers.set) ≡ Some timer → ts ≡ fired c.view.now c.view.timers
      → fire m timer.0 (with_timers ts c) ≡ Some d → fires_from n c ≡ fires_from (n + 1) d
  fires_next n c d timer ts h e s f = fires_some (most_timers - n) c timer ts (Some d) (some_left n h) e s f ∙ ap (λ (k : ℕ). fires m k d) (one_off most_timers n)
    where
      one_off : (m n : ℕ) → m - n - 1 ≡ m - (n + 1)
      one_off m n = omega arith

  pub fires_stops : (n : ℕ) (c : Client U P) (timer : TimerId) (ts : TimerList) → n < 18446744073709551615
      → option_map (λ u. record { 0 = u.id }) (due_now c.view.now c.view.timers.set) ≡ Some timer → ts ≡ fired c.view.now c.view.timers
      → fire m timer.0 (with_timers ts c) ≡ None → fires_from n c ≡ None
  fires_stops n c timer ts h e s f = fires_some (most_timers - n) c timer ts None (some_left n h) e s f

  -- none is due
  pub fires_rests : (n : ℕ) (c : Client U P) (ts : TimerList) → n < 18446744073709551615
      → ◌≡◌ {A = Option TimerId} (option_map (λ u. record { 0 = u.id }) (due_now c.view.now c.view.timers.set)) None → ts ≡ fired c.view.now c.view.timers → fires_from n c ≡ Some (with_timers ts c)
  fires_rests n c ts h e s = fires_suc (most_timers - n) c (some_left n h) ∙ by (due_now c.view.now c.view.timers.set) e s
    where
      by : (t : Option Timer) → ◌≡◌ {A = Option TimerId} (option_map (λ u. record { 0 = u.id }) t) None → ts ≡ fired_at c.view.timers t → fires_first m (fires m (most_timers - n - 1)) c t ≡ Some (with_timers ts c)
      by None e s = ap (λ (ts : TimerList). Some (with_timers ts c)) (sym s)
      by (Some t) e s = absurd (cc)

  -- all have fired
  pub fires_over : (n : ℕ) (c : Client U P) → 18446744073709551615 ≤ n → fires_from n c ≡ None
  fires_over n c h = ap (λ (k : ℕ). fires m k c) (ap (λ (k : ℕ). k - n) most_is ∙ none_left 18446744073709551615 n h)
    where
      none_left : (m n : ℕ) → m ≤ n → m - n ≡ 0
      none_left m n h = omega arith

  -- the frames behind this one
  abbrev pub goes_on : ℕ → ℕ → Client U P → Option (Client U P) → Option (Client U P)
  goes_on place n c fired = option_and_then (more_frames m place (n - 1)) (option_and_then (next_frame m place) fired)

  frames_suc : (place n : ℕ) (c : Client U P) → 0 < n → more_frames m place n c ≡ (if c.view.more then goes_on place n c (fires_all m c) else Some c)
  frames_suc place zero c h = absurd (omega arith)
  frames_suc place (suc n) c h = rw sub-one refl

  frames_more : (place n : ℕ) (c : Client U P) → 0 < n → c.view.more ≡ true → more_frames m place n c ≡ goes_on place n c (fires_all m c)
  frames_more place n c h is = frames_suc place n c h ∙ ap (λ (b : Bool). if b then goes_on place n c (fires_all m c) else Some c) is

  -- No frame stands.
  pub frames_over : (place n : ℕ) (c : Client U P) → 0 < n → c.view.more ≡ false → more_frames m place n c ≡ Some c
  frames_over place n c h is = frames_suc place n c h ∙ ap (λ (b : Bool). if b then goes_on place n c (fires_all m c) else Some c) is

  -- A frame is taken, and one less is left.
  pub frames_some : (place n : ℕ) (c d e : Client U P) → 0 < n → c.view.more ≡ true → fires_all m c ≡ Some d → next_frame m place d ≡ Some e
      → more_frames m place n c ≡ more_frames m place (n - 1) e
  frames_some place n c d e h is f g =
      frames_more place n c h is ∙ ap (goes_on place n c) f ∙ ap (option_and_then (more_frames m place (n - 1))) g

  -- Numbers run out.
  pub frames_unfired : (place n : ℕ) (c : Client U P) → 0 < n → c.view.more ≡ true → fires_all m c ≡ None → more_frames m place n c ≡ None
  frames_unfired place n c h is f = frames_more place n c h is ∙ ap (goes_on place n c) f

  pub frames_untaken : (place n : ℕ) (c d : Client U P) → 0 < n → c.view.more ≡ true → fires_all m c ≡ Some d → next_frame m place d ≡ None → more_frames m place n c ≡ None
  frames_untaken place n c d h is f g =
      frames_more place n c h is ∙ ap (goes_on place n c) f ∙ ap (option_and_then (more_frames m place (n - 1))) g
