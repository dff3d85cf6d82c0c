-- An event passed that is of no place here: requests are taken on and given up behind it, and it is of no place here still.
use Rattle.std.proofs.Common.{◌≡◌, ℕ, ◌<◌, ◌≤◌, inl, inr, Bool, true, false, [], Option, Some, None, refl, sym, ◌∙◌, arith}
use Rattle.client_request.specs.Carries.{IsOfOctets}
use Rattle.client_request.specs.Request.{Request}
use Rattle.client_request.specs.View.{View, asks}
use Rattle.client_request.specs.declared.event.Out.TheVariants.{Start}
use Rattle.client_request.specs.declared.event.Via.TheVariants.{Stream}
use Rattle.client_request.specs.declared.event.What.{What}
use Rattle.client_stream.specs.Plain.{Asked}
use Rattle.right_trace.specs.Orderly.{use_at}
use Rattle.right_trace.specs.Trace.{Conf, ByStreams}
use Rattle.proof_right.specs.machine.Part.{Act}
use Rattle.proof_right.specs.machine.Served.{Served, Starts, Cancels, served, holds}
use Rattle.right_trace.specs.Updates.{with_at}
use Rattle.proof_parts.specs.Chains.{Chain, Begins}
use Rattle.proof_parts.specs.PartTie.{Phase, Untold, Told, Passed, IsOpen, place_in, Leads, Leaves}
use Rattle.proof_parts.specs.Places.{has_place}
use Rattle.proof_parts.specs.Sharing.{Opens}
use Rattle.proof_parts.specs.Sights.{sight, IsFair}
use Rattle.proof_parts.proofs.Opening.{servers_open_next, begun_opens}
use Rattle.proof_multi.specs.Servers.{desk_of}
use Rattle.proof_multi.specs.Tied.{Streams, by_streams, IsPassed, TiedAs, names_of, owns}
use Rattle.proof_multi.proofs.Tying.{gives_up_one, takes_on_one, still_early}

-- what holds of all that a step may leave
pub leads_on : (P Q : Streams → View → Type 0) (o : Option (Streams × View)) → Leads P o → ((x : Streams) (y : View) → P x y → Q x y) → Leads Q o
leads_on P Q None l f = tt
leads_on P Q (Some y) l f = f y.0 y.1 l

module _ (c : Conf) (s : ℕ) where
  module _ (w : What) (u : Streams) (v : View) (a : Served) (open_now : IsOpen (Passed w) v.place) (t : IsPassed c s w u (sight v) a) (fair : IsFair v) where
    -- a place that it has now is none of the event
    still_apart : (d : Act Served) → Opens has_place v.place a d → (p : ℕ) → place_in w ≡ Some p → has_place d.state p ≡ false
    still_apart d o p at = by (has_place d.state p) refl
      where
        no_such : (n k : ℕ) → n ≤ k → k < n → ⊥
        no_such n k le lt = omega arith

        by : (b : Bool) → has_place d.state p ≡ b → has_place d.state p ≡ false
        by false e = e
        by true e = absurd (elim (o.1 p e) [ inl was ↦ (let z : false ≡ true = sym (t.apart p at) ∙ was in cc) | inr new ↦ no_such v.place p new.0 (open_now p at) ])

    passed_still : (May : Act Served → Type 0) (named : ℕ → Option ℕ) → ((d : Act Served) → May d → Opens has_place v.place a d)
        → (x : Streams) (y : View) → Leaves (served c) (TiedAs c s) names_of owns May named u v (Untold w) x y → Leaves (served c) (TiedAs c s) names_of owns May named u v (Passed w) x y
    passed_still May named opens x y l = record {
      made = l.made;
      may = l.may;
      outs = l.outs;
      place = l.place;
      board = l.board;
      put = l.put;
      gives = l.gives;
      tied = record {
        untold = l.tied;
        early = still_early (desk_of u.tables) (desk_of x.tables) v y fair t.early l.goes_on l.owned;
        apart = still_apart l.made (opens l.made l.may);
      };
      goes_on = l.goes_on;
      owned = l.owned;
      others = l.others;
    }

  -- What a request that is taken on may make, and one that is given up; and what is left then.

  abbrev MayStart : View → Served → Request → Act Served → Type 0
  MayStart v a r d = Begins (Starts c s v.place v.request r a) (Chain (served c) s) d

  abbrev HasStarted : Phase → Streams → View → Served → Request → Streams → View → Type 0
  HasStarted phase u v a r x y = Leaves (served c) (TiedAs c s) names_of owns (MayStart v a r) (with_at v.ticket (Some v.request) (names_of u)) u v phase x y

  abbrev MayCancel : View → Served → (k : ℕ) → Act Served → Type 0
  MayCancel v a k d = Begins (Cancels s v.place k a) (Chain (served c) s) d × (d.posts ≡ [])

  abbrev HasCancelled : Phase → Streams → View → Served → (k ticket : ℕ) → Streams → View → Type 0
  HasCancelled phase u v a k ticket x y = Leaves (served c) (TiedAs c s) names_of owns (MayCancel v a k) (with_at ticket None (names_of u)) u v phase x y

  start_opens : (v : View) (a : Served) (r : Request) (d : Act Served) → MayStart v a r d → Opens has_place v.place a d
  start_opens v a r d may = begun_opens (served c) has_place (servers_open_next c) s (Starts c s v.place v.request r a) v.place a (λ d call. (servers_open_next c).starts s v.place v.request r a d call) d may

  cancel_opens : (v : View) (a : Served) (k : ℕ) (d : Act Served) → MayCancel v a k d → Opens has_place v.place a d
  cancel_opens v a k d may = begun_opens (served c) has_place (servers_open_next c) s (Cancels s v.place k a) v.place a (λ d call. (servers_open_next c).cancels s v.place k a d call) d may.0

  -- in each open phase
  pub takes_on : use_at s c.servers ≡ Some ByStreams → (phase : Phase) (u : Streams) (v : View) (a : Served) (r : Request) → IsOpen phase v.place → TiedAs c s phase u (sight v) a → IsFair v → IsOfOctets r → holds a v.request ≡ false
      → Leads (HasStarted phase u v a r) (by_streams.send r u (asks (Start v.request s Stream) v))
  takes_on used (Untold w) u v a r calm t fair octets free = takes_on_one c s used u v a w r t fair octets free
  takes_on used (Told p n) u v a r calm t fair octets free = absurd calm
  takes_on used (Passed w) u v a r calm t fair octets free =
      leads_on (HasStarted (Untold w) u v a r) (HasStarted (Passed w) u v a r) (by_streams.send r u (asks (Start v.request s Stream) v)) (takes_on_one c s used u v a w r t.untold fair octets free)
      (λ x y l. passed_still w u v a calm t fair (MayStart v a r) (with_at v.ticket (Some v.request) (names_of u)) (λ d may. start_opens v a r d may) x y l)

  pub gives_up : (phase : Phase) (u : Streams) (v : View) (a : Served) (r : Asked) (k : ℕ) → IsOpen phase v.place → TiedAs c s phase u (sight v) a → IsFair v → names_of u r.ticket ≡ Some k → Leads (HasCancelled phase u v a k r.ticket) (by_streams.cancel r u v)
  gives_up (Untold w) u v a r k calm t fair named = gives_up_one c s u v a w r k t fair named
  gives_up (Told p n) u v a r k calm t fair named = absurd calm
  gives_up (Passed w) u v a r k calm t fair named = leads_on (HasCancelled (Untold w) u v a k r.ticket) (HasCancelled (Passed w) u v a k r.ticket) (by_streams.cancel r u v) (gives_up_one c s u v a w r k t.untold fair named)
      (λ x y l. passed_still w u v a calm t fair (MayCancel v a k) (with_at r.ticket None (names_of u)) (λ d may. cancel_opens v a k d may) x y l)
