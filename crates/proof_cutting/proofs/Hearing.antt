-- What a choice does where its servers hear a signal, beside a choice whose servers have longer octets.
use Rattle.std.proofs.Common.{◌≡◌, ℕ, zero, suc, ◌+◌, ◌-◌, ◌<◌, ◌≤◌, ◌⊎◌, inl, inr, le_refl, arith, Bool, List, [], length, Option, Some, None, refl, sym, ap, ap₂, ◌∙◌, slice_get}
use Rattle.std.specs.Prelude.{set, option_map, option_and_then}
use Rattle.client_request.specs.Numbered.{frees, entry_at}
use Rattle.client_request.specs.View.{View, Transport, Heard, due_timer}
use Rattle.client_request.specs.declared.board.Posted.{Posted}
use Rattle.client_request.specs.declared.event.Out.{Out}
use Rattle.client_settings.specs.Settings.{RedundantSettings}
use Rattle.client_choice.specs.Choice.{Choice, ChoiceJob, disarmed, settles_all, hears_one, hears_some, fires, due_at, due}
use Rattle.client_choice.specs.Servers.{Server, onto, heard, hears_found, hears_at}
use Rattle.proof_cutting.specs.Pieces.{like, Both, Each, IsCuttable, PostsNothing}
use Rattle.proof_cutting.specs.Choices.{longer_servers, AreFitServers}
use Rattle.proof_cutting.proofs.Views.{then_both, weaker}
use Rattle.proof_cutting.proofs.Listed.{set_same, longer_one, longer_length, seen}
use Rattle.proof_cutting.proofs.ServerCalls.{Same, Closing, closing_nearing, LeaveAll, leave_same, leave_next, fires_alike}
use Rattle.proof_cutting.proofs.Choosing.{runs_alike, settles_all_alike}

meets : (a b : ℕ) → a ≤ b → (a ≡ b) ⊎ (a + 1 ≤ b)
meets a b le = grind arith

left : (k count : ℕ) → k + suc count - (k + 1) ≡ count
left k count = omega arith

next : (server count : ℕ) → server + 1 + count ≡ server + suc count
next server count = omega arith

module _ {R U P : Type 0} (place : ℕ) (below : Transport R U P) (octets : U → Option (List ℕ)) (longer : List ℕ → U → U) (IsFit : U → (timer : ℕ) → Type 0) (cut : IsCuttable place below octets longer IsFit)
    (quiet : PostsNothing below IsFit) (piece : List ℕ) (before : List Out) (settings : RedundantSettings) where
  abbrev One : Server U → Server U
  One s = longer_one longer piece s

  abbrev All : List (Server U) → List (Server U)
  All servers = longer_servers longer piece servers

  abbrev Long : Choice R U P → Choice R U P
  Long c = record c { servers = All c.servers }

  abbrev Fits : Choice R U P → View → Type 0
  Fits c v = AreFitServers octets IsFit c.servers v.timers.next

  abbrev Kept : Choice R U P → View → Choice R U P → View → Type 0
  Kept c v d w = LeaveAll octets IsFit Same c.servers v d.servers w

  abbrev Closed : Choice R U P → View → Choice R U P → View → Type 0
  Closed c v d w = LeaveAll octets IsFit Closing c.servers v d.servers w

  closed_of : (a b : List (Server U)) (v w : View) → LeaveAll octets IsFit Same a v b w → LeaveAll octets IsFit Closing a v b w
  closed_of a b v w x = record { fit = x.fit; timer = x.timer; now = x.now; more = x.more; near = λ i. inl (x.near i) }

  -- ---- a timer that fired

  fires_one : (server timer : ℕ) (c : Choice R U P) (v : View) (more : Bool) (request : ℕ) → Fits c v
      → Both Long before (Closed c v) (hears_one below settings server (due_timer timer) c v) (hears_one below settings server (due_timer timer) (Long c) (like before more request v))
  fires_one server timer c v more request f = then_both _ _
      (fires_alike place below octets longer IsFit cut quiet piece before server timer c.servers v more request f)
      (λ x w more' request' h. weaker (λ d z g. leave_next octets IsFit Closing closing_nearing c.servers x.1 d.servers v w z h (closed_of x.1 d.servers w z g))
      (settles_all_alike place below octets longer IsFit cut quiet piece before settings server x.0 (record c { servers = x.1 }) w more' request' h.fit))

  fires_some : (server count timer : ℕ) (c : Choice R U P) (v : View) (more : Bool) (request : ℕ) → Fits c v
      → Both Long before (Closed c v) (hears_some below settings server count (due_timer timer) c v) (hears_some below settings server count (due_timer timer) (Long c) (like before more request v))
  fires_some server zero timer c v more request f = Each _ _ more request (leave_same octets IsFit Closing closing_nearing c.servers v f)
  fires_some server (suc count) timer c v more request f = then_both _ _
      (fires_one server timer c v more request f)
      (λ x w more' request' h. weaker (λ d z g. leave_next octets IsFit Closing closing_nearing c.servers x.servers d.servers v w z h g)
      (fires_some (server + 1) count timer x w more' request' h.fit))

  pub due_alike : (timer : ℕ) (c : Choice R U P) (v : View) (more : Bool) (request : ℕ) → Fits c v
      → Both Long before (Closed c v) (due below settings timer c v) (due below settings timer (Long c) (like before more request v))
  due_alike timer c v more request f = by (entry_at timer c.timers)
    where
      begun : (ticket : ℕ) (o : Option (ChoiceJob R P)) → Both Long before (Closed c v) (fires below settings ticket (record c { timers = frees timer c.timers }) v o) (fires below settings ticket (record (Long c) { timers = frees timer c.timers }) (like before more request v) o)
      begun ticket None = Each _ _ more request (leave_same octets IsFit Closing closing_nearing c.servers v f)
      begun ticket (Some job) = weaker (λ d w h. closed_of c.servers d.servers v w h)
          (runs_alike place below octets longer IsFit cut quiet piece before settings ticket job.left (disarmed job) (record c { jobs = frees ticket c.jobs; timers = frees timer c.timers }) v more request f)

      by : (o : Option ℕ) → Both Long before (Closed c v) (due_at below settings timer c v o) (due_at below settings timer (Long c) (like before more request v) o)
      by None = rw (longer_length longer piece c.servers) (fires_some 0 (length c.servers) timer c v more request f)
      by (Some ticket) = begun ticket (entry_at ticket c.jobs)

  -- ---- a signal that says nothing to a server

  module _ (h : Heard) (Silent : Option (List ℕ) → Type 0) (silent : (u : U) (v : View) → IsFit u v.timers.next → Silent (octets u) → below.step h u v ≡ Some (u, v)) where
    pub silent_at : (index : ℕ) (servers : List (Server U)) (v : View) → AreFitServers octets IsFit servers v.timers.next → Silent None → Silent (seen octets servers index) → hears_at below index h servers v ≡ Some (([], servers), v)
    silent_at index servers v f none is = by (slice_get servers index) refl is
      where
        by : (o : Option (Server U)) → slice_get servers index ≡ o → Silent (option_and_then (λ (s : Server U). octets s.upstream) o) → hears_found below index h servers v o ≡ Some (([], servers), v)
        by None at is = refl
        by (Some s) at is =
            let here = f.fit index s at in
            let same : set servers index (record s { posted = [] }) ≡ servers = ap (λ (ps : List Posted). set servers index (record s { posted = ps })) (sym here.1) ∙ set_same servers index s at in
            ap (λ o. option_map (λ (x : (List Posted × Server U) × View). ((x.0.0, set servers index x.0.1), x.1)) (option_map (heard below s v) o)) (silent s.upstream (onto s.posted v) here.0 is)
            ∙ ap₂ (λ (ps : List Posted) (xs : List (Server U)). Some ((ps, xs), v)) here.1 same

    pub silent_one : (server : ℕ) (c : Choice R U P) (v : View) → Fits c v → Silent None → Silent (seen octets c.servers server) → hears_one below settings server h c v ≡ Some (c, v)
    silent_one server c v f none is = ap (option_and_then (λ (x : (List Posted × List (Server U)) × View). settles_all below settings server x.0.0 (record c { servers = x.0.1 }) x.1)) (silent_at server c.servers v f none is)

    pub silent_some : (server count : ℕ) (c : Choice R U P) (v : View) → Fits c v → Silent None → ((i : ℕ) → server ≤ i → Silent (seen octets c.servers i)) → hears_some below settings server count h c v ≡ Some (c, v)
    silent_some server zero c v f none is = refl
    silent_some server (suc count) c v f none is =
        ap (option_and_then (λ (x : Choice R U P × View). hears_some below settings (server + 1) count h x.0 x.1)) (silent_one server c v f none (is server (le_refl server)))
        ∙ silent_some (server + 1) count c v f none (λ i le. is i (omega arith))

    -- before the one server at which it may say something
    pub up_to_one : (server count k : ℕ) (c : Choice R U P) (v : View) → Fits c v → Silent None → ((i : ℕ) → (k ≡ i → ⊥) → Silent (seen octets c.servers i)) → server ≤ k → k < server + count
        → hears_some below settings server count h c v ≡ option_and_then (λ (x : Choice R U P × View). hears_some below settings (k + 1) (server + count - (k + 1)) h x.0 x.1) (hears_one below settings k h c v)
    up_to_one server zero k c v f none is le lt = absurd (omega arith)
    up_to_one server (suc count) k c v f none is le lt = elim (meets server k le) [
      | inl e ↦ rw (e, left k count) refl
      | inr on ↦ ap (option_and_then (λ (x : Choice R U P × View). hears_some below settings (server + 1) count h x.0 x.1)) (silent_one server c v f none (is server (λ q. omega (arith, q))))
          ∙ up_to_one (server + 1) count k c v f none is (omega arith) (omega arith)
          ∙ ap (λ n. option_and_then (λ (x : Choice R U P × View). hears_some below settings (k + 1) (n - (k + 1)) h x.0 x.1) (hears_one below settings k h c v)) (next server count)
    ]
