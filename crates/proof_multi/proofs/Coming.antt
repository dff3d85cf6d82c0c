-- Octets come, and frames are taken one by one.
use Rattle.std.proofs.Common.{◌≡◌, ℕ, suc, ◌≤◌, inl, inr, false, List, [], ◌∷◌, ◌++◌, length, Option, Some, None, refl, sym, ap, subst, ◌∙◌, arith, append-nil}
use Rattle.std.specs.Prelude.{option_and_then}
use Rattle.client_request.specs.Numbered.{entry_at}
use Rattle.client_request.specs.Request.{Request}
use Rattle.client_request.specs.Requests.{for_one, for_several}
use Rattle.client_request.specs.View.{View, told, more_at}
use Rattle.client_request.specs.declared.event.What.TheVariants.{Bytes, Tick}
use Rattle.client_stream.specs.Plain.{plain_step}
use Rattle.client_multi.specs.Links.{Link, one_stream}
use Rattle.client_multi.specs.MultiStream.{hears_at, calls, returns, taken, lent}
use Rattle.right_trace.specs.Frames.{fed}
use Rattle.right_trace.specs.Messages.{Octets}
use Rattle.right_trace.specs.Trace.{Conf}
use Rattle.proof_right.specs.machine.Served.{Served, Reads, served, reads_at, frames_left, does}
use Rattle.proof_right.specs.machine.Streams.{Conn, Multi, Nothing, set_conn, fed_by}
use Rattle.proof_parts.specs.Chains.{Chain, Goes, still, then_act}
use Rattle.proof_parts.specs.Connections.{dues}
use Rattle.proof_parts.specs.Lines.{IsLineAt}
use Rattle.proof_parts.specs.Octets.{IsLinkAt, HasRead, ReadsNone}
use Rattle.proof_parts.specs.PartTie.{IsNobodys, Leads, Tells, MayLeave}
use Rattle.proof_parts.specs.Reading.{Keeps}
use Rattle.proof_parts.specs.Runs.{Rests}
use Rattle.proof_parts.specs.Sights.{sight, IsFair}
use Rattle.proof_parts.proofs.FrameReads.{kept_is_read}
use Rattle.proof_parts.proofs.GoingOn.{goes_nowhere}
use Rattle.proof_parts.proofs.Keys.{with_here, with_there}
use Rattle.proof_parts.proofs.Linking.{links_read}
use Rattle.proof_parts.proofs.Retiming.{timed_same}
use Rattle.proof_multi.specs.Servers.{Desk, Server, desk_of, numbers, names_at, nothing_under_way, LinkFits, IsNone, IsSome, Stands}
use Rattle.proof_multi.specs.Tied.{Streams, by_streams, IsUntold, IsTold, AreEarly, TiedAs, frames_at, names_of, owns}
use Rattle.proof_multi.proofs.Fields.{nobodys_foreign, frames_none}
use Rattle.proof_multi.proofs.Going.{Went, leads_as}
use Rattle.proof_multi.proofs.Hearing.{FromFrames, reads_so, passes_so, drops_all, is_in_time, frames_here, frames_there, few, none_more, stands0}
use Rattle.proof_multi.proofs.Holding.{link_at}
use Rattle.proof_multi.proofs.Serving.{lift, runs_chain, gives_none, leads_whole}
use Rattle.proof_multi.proofs.Stepping.{AtWork, kept_call, work_on}
use Rattle.proof_multi.proofs.Tying.{stands_of, still_early}

module _ (c : Conf) (s : ℕ) where
  -- Octets come at p

  module _ (u : Streams) (v : View) (a : Served) (p : ℕ) (o : Octets) (t : IsUntold c s (Bytes p o) u (sight v) a) (fair : IsFair v) (early : AreEarly (desk_of u.tables) (sight v)) (calm : v.more ≡ false) where
    abbrev d : Desk
    d = desk_of u.tables

    abbrev m : Multi
    m = a.server.by_stream

    abbrev Goal : Streams → View → Type 0
    Goal x y = Tells (served c) (TiedAs c s) names_of owns (Chain (served c) s v.place a) u v (MayLeave (Bytes p o)) x y

    abbrev Of : Server → View → Type 0
    Of r y = Goal (record u { tables = r }) y

    stands : Stands c nothing_under_way d u.tables m (frames_at a.place []) v
    stands = stands0 c s u v a (Bytes p o) t fair early calm

    no_conn : entry_at p u.tables.connections ≡ None → LinkFits c d m (frames_at a.place []) (dues v) v.ticket p → m.conns p ≡ None
    no_conn none (IsNone x y away) = y
    no_conn none (IsSome l x at link) = absurd (let z : None ≡ Some l = sym none ∙ at in cc)

    module _ (l : Link Request) (is : entry_at p u.tables.connections ≡ Some l) where
      found : (x : Conn) × IsLinkAt c p (names_at d) l m x (frames_at a.place [] p) (dues v) v.ticket
      found = link_at c d m (frames_at a.place []) (dues v) v.ticket p l (stands.server.links p) is

      abbrev x : Conn
      x = found.0

      link : IsLinkAt c p (names_at d) l m x [] (dues v) v.ticket
      link = subst (λ fs. IsLinkAt c p (names_at d) l m x fs (dues v) v.ticket) (frames_none c s a.place p) found.1

      abbrev fs : List Octets
      fs = (fed x.got o).frames

      abbrev x1 : Conn
      x1 = fed_by o x

      abbrev m1 : Multi
      m1 = set_conn p x1 m

      abbrev l1 : Link Request
      l1 = record l { octets = l.octets ++ o }

      abbrev b : Served
      b = reads_at p fs m1 a

      fair_u : IsFair (lent v)
      fair_u = record { order = fair.order; words = fair.words }

      comes : Leads (HasRead c p (names_at d) m1 x1 l1 (lent v) fs) (plain_step for_one for_several (told (Bytes p o)) l (lent v))
      comes = (links_read c).comes p (names_at d) m x l (lent v) link fair_u o

      line1 : IsLineAt c p (names_at d) l.line m1 x1 (dues v) v.ticket
      line1 = record {
        conn = with_here p (Some x1) m.conns;
        seated = link.line.seated;
        fits = record { stage = link.line.fits.stage; writing = link.line.fits.writing; idle = link.line.fits.idle; timeout = link.line.fits.timeout; resting = link.line.fits.resting; order = link.line.fits.order; few = link.line.fits.few; ids = link.line.fits.ids; queue = link.line.fits.queue };
      }

      other_frames : (q : ℕ) → (p ≡ q → ⊥) → frames_at p fs q ≡ frames_at a.place [] q
      other_frames q ne = frames_there p q fs ne ∙ sym (frames_none c s a.place q)

      work0 : AtWork c p l x u.tables m (frames_at a.place []) v (dues v)
      work0 = record { tables = stands.server.tables; links = λ q ne. stands.server.links q; watched = stands.server.watched; order = stands.order; fair = fair; is = is; line = link.line }

      work1 : AtWork c p l x1 u.tables m1 (frames_at p fs) v (dues v)
      work1 = work_on c p l x x1 u.tables m m1 (frames_at a.place []) (frames_at p fs) v (dues v) work0 refl (λ q ne. with_there p (Some x1) m.conns q ne) refl refl other_frames line1

      kept : Keeps l1.octets fs x1.got
      kept = kept_is_read.more l.octets o x.got link.keeps

      -- they complete no frame
      none_read : fs ≡ [] → (k : Link Request) (y : View) → k ≡ l1 → y ≡ lent v → Leads Of (returns (one_stream for_one) p (taken (one_stream for_one) p l u.tables) v (k, y))
      none_read none k y is_k is_y =
          subst (λ (y : View). Leads Of (returns (one_stream for_one) p (taken (one_stream for_one) p l u.tables) v (k, y))) (sym is_y)
          (subst (λ (k : Link Request). Leads Of (returns (one_stream for_one) p (taken (one_stream for_one) p l u.tables) v (k, lent v))) (sym is_k)
          (leads_as (Went c s (frames_at p fs) nothing_under_way d m1 v) Of (returns (one_stream for_one) p (taken (one_stream for_one) p l u.tables) v (l1, lent v))
          (kept_call c s p l x u.tables m (frames_at a.place []) v (dues v) work0 (frames_at p fs) other_frames m1 v.outs (still v.place m1) (Rests v.place m1) refl refl
          m1 (lent v) l1 x1 refl (λ q ne. with_there p (Some x1) m.conns q ne) refl refl (timed_same l.line.stage (lent v) fair_u)
          (record { place = link.place; timeout = link.timeout; line = line1; settled = link.settled; keeps = subst (λ gs. Keeps l1.octets gs x1.got) (sym (frames_here p fs)) kept })
          refl refl refl refl (sym (append-nil v.outs)) (λ q. q))
          (λ r z g. record {
            at = p;
            left = 0;
            may_be = (refl, few (length o));
            more = g.more ∙ (calm ∙ sym none_more);
            leaves = record {
              made = then_act (does b v.place Nothing) (lift b g.made);
              may = Goes v.place a (does b v.place Nothing) (lift b g.made) (Reads p o x t.taken t.pending link.line.conn) (runs_chain c s v.now v.place m1 g.made g.runs b t.stream.clock refl);
              outs = g.outs;
              place = g.place;
              board = [];
              put = g.board ∙ sym (append-nil v.board);
              gives = gives_none (names_of u) (numbers (desk_of r)) g.made.posts g.posts g.named;
              tied = record {
                stream = record { server = t.stream.server; settings = t.stream.settings; takes = t.stream.takes; clock = t.stream.clock ∙ sym g.on.now; dgram = t.stream.dgram; ties = g.stands.server; order = g.stands.order };
                count = ap length none;
                at = inl refl;
                row = inl refl;
                told = (still_early d (desk_of r) v z fair early g.on g.owned, nobodys_foreign c s Tick g.made.state tt);
              };
              goes_on = g.on;
              owned = g.owned;
              others = g.others;
            };
          })))

      fewer : (i j k : ℕ) → i ≤ j → suc j ≤ k → i ≤ k
      fewer i j k le lt = omega arith

      -- they complete some
      some_read : (f : Octets) (gs : List Octets) → fs ≡ f ∷ gs → (k : Link Request) (y : View) → HasRead c p (names_at d) m1 x1 l1 (lent v) (f ∷ gs) k y → Leads Of (returns (one_stream for_one) p (taken (one_stream for_one) p l u.tables) v (k, y))
      some_read f gs some k y read =
          leads_as (FromFrames c s p (length gs) u v b) Of (returns (one_stream for_one) p (taken (one_stream for_one) p l u.tables) v (k, y))
          (reads_so c s p u v fair early calm t.stream.server t.stream.settings t.stream.takes b t.stream.clock t.stream.dgram refl tt l x1 (frames_at p fs) work1 f gs some l1 refl link.place link.timeout
          (λ q ne. frames_there p q gs ne ∙ sym (frames_there p q fs ne)) k y read)
          (λ r z g. record {
            at = p;
            left = g.left;
            may_be = (refl, fewer g.left (length gs) (length o) g.at_most (subst (λ n. n ≤ length o) (ap length some) (kept_is_read.few x.got o)));
            more = g.more;
            leaves = record {
              made = then_act (does b v.place Nothing) g.made;
              may = Goes v.place a (does b v.place Nothing) g.made (Reads p o x t.taken t.pending link.line.conn) g.chain;
              outs = g.outs;
              place = g.place;
              board = g.board;
              put = g.put;
              gives = g.gives;
              tied = g.tied;
              goes_on = g.on;
              owned = g.owned;
              others = g.others;
            };
          })

      read_so : (gs : List Octets) → fs ≡ gs → (k : Link Request) (y : View) → HasRead c p (names_at d) m1 x1 l1 (lent v) gs k y → Leads Of (returns (one_stream for_one) p (taken (one_stream for_one) p l u.tables) v (k, y))
      read_so [] e k y (ReadsNone _ _ is_k is_y) = none_read e k y is_k is_y
      read_so (f ∷ gs) e k y read = some_read f gs e k y read

      comes_so : Leads Of (option_and_then (returns (one_stream for_one) p (taken (one_stream for_one) p l u.tables) v) (plain_step for_one for_several (told (Bytes p o)) l (lent v)))
      comes_so = by (plain_step for_one for_several (told (Bytes p o)) l (lent v)) comes
        where
          by : (h : Option (Link Request × View)) → Leads (HasRead c p (names_at d) m1 x1 l1 (lent v) fs) h → Leads Of (option_and_then (returns (one_stream for_one) p (taken (one_stream for_one) p l u.tables) v) h)
          by None h = tt
          by (Some y) h = read_so fs refl y.0 y.1 h

    pub octets_come : Leads Goal (by_streams.step (told (Bytes p o)) u v)
    octets_come = leads_whole Of Goal u (hears_at (one_stream for_one) (told (Bytes p o)) u.tables v (Some p)) (by (entry_at p u.tables.connections) refl) (λ r y g. g)
      where
        by : (h : Option (Link Request)) → entry_at p u.tables.connections ≡ h → Leads Of (calls (one_stream for_one) p ((one_stream for_one).calls.step (told (Bytes p o))) u.tables v h)
        by None e = passes_so c s u v a (Bytes p o) t fair early calm p (refl, few (length o)) (no_conn e (stands.server.links p))
        by (Some l) e = comes_so l e

  -- One more frame is taken at p

  module _ (u : Streams) (v : View) (a : Served) (p n : ℕ) (t : IsTold c s p (suc n) u (sight v) a) (fair : IsFair v) (early : AreEarly (desk_of u.tables) (sight v)) (calm : v.more ≡ false) where
    abbrev fd : Desk
    fd = desk_of u.tables

    abbrev fm : Multi
    fm = a.server.by_stream

    abbrev Next : Streams → View → Type 0
    Next x y = Tells (served c) (TiedAs c s) names_of owns (Chain (served c) s v.place a) u v (λ q left. (q ≡ p) × (left ≤ n)) x y

    abbrev Nexts : Server → View → Type 0
    Nexts r y = Next (record u { tables = r }) y

    not_none : suc n ≡ 0 → ⊥
    not_none e = grind arith

    at_p : a.place ≡ p
    at_p = elim t.at [ inl e ↦ absurd (not_none e) | inr e ↦ e ]

    idle : IsNobodys a.pending
    idle = elim t.row [ inl e ↦ absurd (not_none e) | inr e ↦ e ]

    stands1 : Stands c nothing_under_way fd u.tables fm (frames_at a.place a.frames) v
    stands1 = stands_of c s u v a t.stream fair

    here : frames_at a.place a.frames p ≡ a.frames
    here = ap (λ q. frames_at q a.frames p) at_p ∙ frames_here p a.frames

    there : (q : ℕ) → (p ≡ q → ⊥) → frames_at a.place a.frames q ≡ []
    there q ne = ap (λ r. frames_at r a.frames q) at_p ∙ frames_there p q a.frames ne

    -- the connection is no more
    none_there : LinkFits c fd fm (frames_at a.place a.frames) (dues v) v.ticket p → entry_at p u.tables.connections ≡ None → fm.conns p ≡ None
    none_there (IsNone x y away) none = y
    none_there (IsSome l x at link) none = absurd (let z : None ≡ Some l = sym none ∙ at in cc)

    dropped_link : (q : ℕ) → fm.conns p ≡ None → LinkFits c fd fm (frames_at a.place a.frames) (dues v) v.ticket q → LinkFits c fd fm (frames_at a.place []) (dues v) v.ticket q
    dropped_link q none (IsNone x y away) = IsNone x y away
    dropped_link q none (IsSome l x at link) = IsSome l x at (subst (λ o. IsLinkAt c q (names_at fd) l fm x o (dues v) v.ticket) (there q (λ e. let z : None ≡ Some x = sym none ∙ (ap fm.conns e ∙ link.line.conn) in cc) ∙ sym (frames_none c s a.place q)) link)

    drops_so : fm.conns p ≡ None → Next u v
    drops_so none = record {
      at = p;
      left = 0;
      may_be = (refl, few n);
      more = calm ∙ sym none_more;
      leaves = record {
        made = still v.place (frames_left [] fm a);
        may = drops_all c s v.place a.frames a refl (ap fm.conns at_p ∙ none) (is_in_time c s a fd v t.stream.clock t.stream.dgram stands1.server.tables early);
        outs = sym (append-nil v.outs);
        place = refl;
        board = [];
        put = sym (append-nil v.board);
        gives = λ k. refl;
        tied = record {
          stream = record { server = t.stream.server; settings = t.stream.settings; takes = t.stream.takes; clock = t.stream.clock; dgram = t.stream.dgram; ties = record { tables = stands1.server.tables; links = λ q. dropped_link q none (stands1.server.links q); watched = stands1.server.watched }; order = t.stream.order };
          count = refl;
          at = inl refl;
          row = inl refl;
          told = (early, nobodys_foreign c s a.pending fm idle);
        };
        goes_on = goes_nowhere v fair;
        owned = λ i own. inl own;
        others = λ i due free set. set;
      };
    }

    module _ (l : Link Request) (is : entry_at p u.tables.connections ≡ Some l) where
      found_there : (x : Conn) × IsLinkAt c p (names_at fd) l fm x (frames_at a.place a.frames p) (dues v) v.ticket
      found_there = link_at c fd fm (frames_at a.place a.frames) (dues v) v.ticket p l (stands1.server.links p) is

      abbrev y0 : Conn
      y0 = found_there.0

      link_there : IsLinkAt c p (names_at fd) l fm y0 a.frames (dues v) v.ticket
      link_there = subst (λ fs. IsLinkAt c p (names_at fd) l fm y0 fs (dues v) v.ticket) here found_there.1

      work : AtWork c p l y0 u.tables fm (frames_at a.place a.frames) v (dues v)
      work = record { tables = stands1.server.tables; links = λ q ne. stands1.server.links q; watched = stands1.server.watched; order = stands1.order; fair = fair; is = is; line = link_there.line }

      read_there : (gs : List Octets) → a.frames ≡ gs → (k : Link Request) (y : View) → HasRead c p (names_at fd) fm y0 l (lent v) gs k y → Leads Nexts (returns (one_stream for_one) p (taken (one_stream for_one) p l u.tables) v (k, y))
      read_there [] e k y read = absurd (not_none (sym t.count ∙ ap length e))
      read_there (f ∷ gs) e k y read =
          leads_as (FromFrames c s p (length gs) u v a) Nexts (returns (one_stream for_one) p (taken (one_stream for_one) p l u.tables) v (k, y))
          (reads_so c s p u v fair early calm t.stream.server t.stream.settings t.stream.takes a t.stream.clock t.stream.dgram at_p idle l y0 (frames_at a.place a.frames) work f gs e l refl link_there.place link_there.timeout
          (λ q ne. frames_there p q gs ne ∙ sym (there q ne)) k y read)
          (λ r z g. record {
            at = p;
            left = g.left;
            may_be = (refl, as_many g.left (length gs) n g.at_most (sym (ap length e) ∙ t.count));
            more = g.more;
            leaves = record {
              made = g.made;
              may = g.chain;
              outs = g.outs;
              place = g.place;
              board = g.board;
              put = g.put;
              gives = g.gives;
              tied = g.tied;
              goes_on = g.on;
              owned = g.owned;
              others = g.others;
            };
          })
        where
          as_many : (i j k : ℕ) → i ≤ j → suc j ≡ suc k → i ≤ k
          as_many i j k le e = omega arith

      more_so : Leads Nexts (option_and_then (returns (one_stream for_one) p (taken (one_stream for_one) p l u.tables) v) (plain_step for_one for_several (more_at p) l (lent v)))
      more_so = by (plain_step for_one for_several (more_at p) l (lent v)) ((links_read c).more p (names_at fd) fm y0 l (lent v) a.frames link_there (record { order = fair.order; words = fair.words }))
        where
          by : (h : Option (Link Request × View)) → Leads (HasRead c p (names_at fd) fm y0 l (lent v) a.frames) h → Leads Nexts (option_and_then (returns (one_stream for_one) p (taken (one_stream for_one) p l u.tables) v) h)
          by None h = tt
          by (Some y) h = read_there a.frames refl y.0 y.1 h

    pub frame_taken : Leads Next (by_streams.step (more_at p) u v)
    frame_taken = leads_whole Nexts Next u (hears_at (one_stream for_one) (more_at p) u.tables v (Some p)) (by (entry_at p u.tables.connections) refl) (λ r y g. g)
      where
        by : (h : Option (Link Request)) → entry_at p u.tables.connections ≡ h → Leads Nexts (calls (one_stream for_one) p ((one_stream for_one).calls.step (more_at p)) u.tables v h)
        by None e = drops_so (none_there (stands1.server.links p) e)
        by (Some l) e = more_so l e
