-- An event that streams take, and octets that are read, for one server's part.
use Rattle.std.proofs.Common.{◌≡◌, ◌≢◌, ℕ, ◌≤◌, ◌<◌, true, false, Some, List, [], ◌∷◌, refl, arith, ◌∙◌, sym, subst, ap, length}
use Rattle.std.proofs.lemmas.Bool.Decides.{nat_tests}
use Rattle.client_request.specs.declared.event.What.{What}
use Rattle.client_request.specs.declared.event.What.TheVariants.{Opened, OpenFailed, Wrote, Bytes, Tick}
use Rattle.client_request.specs.declared.event.Out.{Out}
use Rattle.client_request.specs.declared.event.Out.TheVariants.{Resume, Close}
use Rattle.client_request.specs.declared.event.Via.TheVariants.{Stream}
use Rattle.right_trace.specs.Trace.{History, Conf, Put, put_all}
use Rattle.right_trace.specs.Time.{now}
use Rattle.right_trace.specs.Messages.{Octets}
use Rattle.right_trace.specs.Requests.{replied, handed}
use Rattle.right_trace.specs.Places.{is_told, Opening, on_event, reach}
use Rattle.right_trace.specs.Frames.{came, fed}
use Rattle.right_trace.specs.Causes.{Heard}
use Rattle.right_trace.specs.Orderly.{StreamFault}
use Rattle.proof_right.specs.machine.Streams.{Act, Puts, Gives, Nothing, Asker, Conn, Multi, Takes}
use Rattle.proof_right.specs.machine.Dgrams.{Dgrams, IsIgnored}
use Rattle.proof_right.specs.machine.Served.{Served, does, has_taken_it, reads_at, outs_of, place_after}
use Rattle.right_trace.specs.Right.{ServerOutsRight}
use Rattle.proof_right.proofs.PartLaws.{Keeps, none_more}
use Rattle.proof_right.proofs.server.Kept.{Kept}
use Rattle.proof_right.proofs.server.DgramKept.{KeptD}
use Rattle.proof_right.proofs.server.Untold.{was_alive}
use Rattle.proof_right.proofs.server.DgramMoves.{kept_put_d}
use Rattle.proof_right.proofs.server.DgramTaking.{ignores}
use Rattle.proof_right.proofs.server.Puts.{kept_put}
use Rattle.proof_right.proofs.server.Taking.{turns, told_done}
use Rattle.proof_right.proofs.server.Ending.{every_some, conn_below, ends, told_ends, may_close}
use Rattle.proof_right.proofs.server.Fitting.{OneId, BegunBy, UnsentBy, Fits, no_frames_came, elsewhere}
use Rattle.proof_right.proofs.server.Views.{at_here}
use Rattle.proof_right.proofs.server.Moved.{AreOf, others_all, reach_all, now_all, earlier_all}
use Rattle.proof_right.proofs.server.Keeping.{close_other, quiet_other}
use Rattle.proof_right.specs.machine.Streams as multi
use Rattle.proof_right.proofs.server.Taking as taking

-- What the event leaves by stream.
record Left (c : Conf) (s : ℕ) (past : History) (w : What) (m : Multi) (d : Dgrams) (h : History) (m' : Multi) (outs : List Out) : Type 0 where
  pub streams : Kept c s past w Tick (λ q. []) (λ q. came q w past) m' (put_all outs h)
  pub dgrams : KeptD c s past w Tick d (put_all outs h)
  pub asks : (k : ℕ) (a : Asker) → m'.asks k ≡ Some a → (b : Asker) × (m.asks k ≡ Some b)
  pub free : (q : ℕ) → reach h ≤ q → on_event w q Opening ≡ Opening
  pub of : AreOf s outs h
  pub right : s < length c.servers → (end : History) → ServerOutsRight c past w end h outs

told_opens : (p : ℕ) (w : What) → is_told p w ≡ true → (q : ℕ) → on_event w q Opening ≡ Opening
told_opens p (Opened r) e q = absurd (cc)
told_opens p (OpenFailed r f) e q = absurd (cc)
told_opens p _ e q = refl

takes_left : (c : Conf) (s : ℕ) (past : History) (w : What) (m : Multi) (d : Dgrams) (h : History) → Kept c s past w w (λ q. []) (λ q. came q w past) m h → KeptD c s past w w d h → IsIgnored c w d → ((p : ℕ) (o : Octets) → w ≢ Bytes p o) → (m' : Multi) (x : Act) → Takes c (now h) m w x m' → Left c s past w m d h m' (outs_of x)
takes_left c s past _ m d h kept keptd ig plain _ _ (multi.ItOpens p op) = record { streams = taking.it_opens c s past m h p kept op; dgrams = ignores c s past (Opened p) (Opened p) d h keptd kept.row.before ig; asks = λ k a e. (let y = every_some (multi.expected multi.Free) (m.asks k) a e in (y.0, y.1)); free = λ q le. (let low = kept.below p op in grind (arith, nat_tests)); of = tt; right = λ lt end. tt }
takes_left c s past _ m d h kept keptd ig plain _ _ (multi.ItDoesNotOpen p g calm op lt) = record { streams = taking.it_does_not_open c s past (λ q. []) (λ q. []) m h p g calm kept op lt; dgrams = ignores c s past (OpenFailed p g) (OpenFailed p g) d h keptd kept.row.before ig; asks = λ k a e. (let y = every_some (multi.expected multi.Broken) (m.asks k) a e in (y.0, y.1)); free = λ q le. (let low = kept.below p op in grind (arith, nat_tests)); of = tt; right = λ lt end. tt }
takes_left c s past w m d h kept keptd ig plain _ _ (multi.ItFails _ p x conn told) =
    let low = conn_below c s past w w (λ q. []) (λ q. came q w past) m h p x kept conn in
    let at = (kept.conns p x conn).at in
    record {
      streams = turns c s past w w (λ q. []) (λ q. came q w past) (multi.end_at p m) (Put (Close p) ∷ h) (ends c s past w w (λ q. []) (λ q. came q w past) m h p x kept conn (λ k a e there. told_ends c s p w past h kept.row.event told)) (told_done p w (multi.end_at p m) told);
      dgrams = ignores c s past w w d (Put (Close p) ∷ h) (kept_put_d c s past w w d (Close p) h (close_other c s past w w d h p keptd at low) keptd) kept.row.before ig;
      asks = λ k a e. (let y = every_some (multi.broken_at p) (m.asks k) a e in (y.0, y.1));
      free = λ q le. told_opens p w told q;
      of = ((Stream, at), tt);
      right = λ lt end. ((omega arith, may_close c s p past w h end at (StreamFault told), was_alive p h (kept.conns p x conn).alive), tt);
    }
takes_left c s past _ m d h kept keptd ig plain _ _ (multi.SomeWritten p n x o conn lt) =
    let w = Wrote p n in
    let m' = multi.set_conn p (multi.wrote_on n x) m in
    record {
      streams = kept_put c s past w Tick (λ q. []) (λ q. []) m' (Resume p o) h (record { conns = λ q x e. refl; opening = λ q e. refl; below = λ q e. absurd (cc); asks = λ j a e. refl; elsewhere = λ q e g. absurd (cc) }) (taking.writes_some c s past w (λ q. []) (λ q. []) m h p n x kept conn lt);
      dgrams = kept_put_d c s past w Tick d (Resume p o) h (quiet_other s d (Resume p o) h (λ j b e. refl) (λ q. refl) refl) (ignores c s past w w d h keptd kept.row.before ig);
      asks = λ k a e. (a, e);
      free = λ q le. refl;
      of = (tt, tt);
      right = λ lt end. (omega arith, tt);
    }
takes_left c s past _ m d h kept keptd ig plain _ _ (multi.AllWritten p n x conn some le) = record { streams = taking.writes_all c s past (Wrote p n) (λ q. []) (λ q. []) m h p n x kept conn some le; dgrams = ignores c s past (Wrote p n) (Wrote p n) d h keptd kept.row.before ig; asks = λ k a e. (a, e); free = λ q le. refl; of = tt; right = λ lt end. tt }
takes_left c s past _ m d h kept keptd ig plain _ _ (multi.NothingToWrite p n x conn none) = record { streams = taking.writes_nothing c s past (Wrote p n) (λ q. []) (λ q. []) m h p n x kept conn none; dgrams = ignores c s past (Wrote p n) (Wrote p n) d h keptd kept.row.before ig; asks = λ k a e. (a, e); free = λ q le. refl; of = tt; right = λ lt end. tt }
takes_left c s past _ m d h kept keptd ig plain _ _ (multi.OctetsCome p o x conn) = absurd (plain p o refl)

module _ (c : Conf) (s : ℕ) (past : History) (w : What) (u : Served) (h : History) (f : Fits c s past w u h) (un : u.taken ≡ false) where
  -- nothing is taken yet
  pub base : Kept c s past w w (λ q. []) (λ q. came q w past) u.server.by_stream h
  base = (let x = f.untaken un in subst (λ more. Kept c s past w w (λ q. []) more u.server.by_stream h) x.coming (subst (λ fr. Kept c s past w w fr f.more u.server.by_stream h) x.before (subst (λ v. Kept c s past w v f.fr f.more u.server.by_stream h) x.pending f.streams)))

  pub base_d : KeptD c s past w w u.server.by_dgram h
  base_d = subst (λ v. KeptD c s past w v u.server.by_dgram h) (f.untaken un).pending f.dgrams

  left : (m' : Multi) (x : Act) → ((p : ℕ) (o : Octets) → u.pending ≢ Bytes p o) → Takes c u.clock u.server.by_stream u.pending x m' → IsIgnored c u.pending u.server.by_dgram → Left c s past w u.server.by_stream u.server.by_dgram h m' (outs_of x)
  left m' x plain takes ig = (let v = (f.untaken un).pending in takes_left c s past w u.server.by_stream u.server.by_dgram h base base_d (subst (λ v. IsIgnored c v u.server.by_dgram) v ig) (λ p o e. plain p o (v ∙ e)) m' x (subst (λ v. Takes c (now h) u.server.by_stream v x m') v (subst (λ n. Takes c n u.server.by_stream u.pending x m') f.clock takes)))

  outs_plain : (n : ℕ) (v : What) (m m' : Multi) (x : Act) → Takes c n m v x m' → (next : ℕ) → ((j : ℕ) → replied j (put_all (outs_of x) h) ≡ replied j h) × (((j t : ℕ) → handed j t (put_all (outs_of x) h) ≡ handed j t h) × ((place_after x next ≡ next) × (reach (put_all (outs_of x) h) ≡ reach h)))
  outs_plain n _ m _ _ (multi.ItOpens p op) next = (λ j. refl, (λ j t. refl, (refl, refl)))
  outs_plain n _ m _ _ (multi.ItDoesNotOpen p g calm op lt) next = (λ j. refl, (λ j t. refl, (refl, refl)))
  outs_plain n v m _ _ (multi.ItFails _ p x conn told) next = (λ j. refl, (λ j t. refl, (refl, refl)))
  outs_plain n _ m _ _ (multi.SomeWritten p k x o conn lt) next = (λ j. refl, (λ j t. refl, (refl, refl)))
  outs_plain n _ m _ _ (multi.AllWritten p k x conn some le) next = (λ j. refl, (λ j t. refl, (refl, refl)))
  outs_plain n _ m _ _ (multi.NothingToWrite p k x conn none) next = (λ j. refl, (λ j t. refl, (refl, refl)))
  outs_plain n _ m _ _ (multi.OctetsCome p o x conn) next = (λ j. refl, (λ j t. refl, (refl, refl)))

  waits_plain : (n : ℕ) (v : What) (m m' : Multi) (x : Act) → Takes c n m v x m' → (OneId s (put_all (outs_of x) h)) × ((BegunBy s (put_all (outs_of x) h)) × (UnsentBy s (put_all (outs_of x) h)))
  waits_plain n _ m _ _ (multi.ItOpens p op) = (f.one_id, (f.begun, f.unsent))
  waits_plain n _ m _ _ (multi.ItDoesNotOpen p g calm op lt) = (f.one_id, (f.begun, f.unsent))
  waits_plain n v m _ _ (multi.ItFails _ p x conn told) = (f.one_id, (f.begun, f.unsent))
  waits_plain n _ m _ _ (multi.SomeWritten p k x o conn lt) = (f.one_id, (f.begun, f.unsent))
  waits_plain n _ m _ _ (multi.AllWritten p k x conn some le) = (f.one_id, (f.begun, f.unsent))
  waits_plain n _ m _ _ (multi.NothingToWrite p k x conn none) = (f.one_id, (f.begun, f.unsent))
  waits_plain n _ m _ _ (multi.OctetsCome p o x conn) = (f.one_id, (f.begun, f.unsent))

  pub told_right : (m' : Multi) (x : Act) → s < length c.servers → ((p : ℕ) (o : Octets) → u.pending ≢ Bytes p o) → Takes c u.clock u.server.by_stream u.pending x m' → IsIgnored c u.pending u.server.by_dgram → (end : History) → ServerOutsRight c past w end h (outs_of x)
  told_right m' x lt plain takes ig end = (left m' x plain takes ig).right lt end

  pub told_keeps : (next : ℕ) (m' : Multi) (x : Act) → next ≡ reach h → ((p : ℕ) (o : Octets) → u.pending ≢ Bytes p o) → Takes c u.clock u.server.by_stream u.pending x m' → IsIgnored c u.pending u.server.by_dgram → Keeps Served (Fits c) none_more s past w h (does (has_taken_it (record u.server { by_stream = m' }) u) next x)
  told_keeps next m' x is plain takes ig =
      let l = left m' x plain takes ig in
      let v = (f.untaken un).pending in
      let o = outs_plain u.clock u.pending u.server.by_stream m' x takes next in
      let ids = waits_plain u.clock u.pending u.server.by_stream m' x takes in
      let none : (q : ℕ) (y : Conn) → m'.conns q ≡ Some y → came q w past ≡ [] = λ q y e. no_frames_came c s q w past (put_all (outs_of x) h) l.streams.row.before (l.streams.conns q y e).at (λ p z e. plain p z (v ∙ e)) in
      record {
        fits = record {
          fr = λ q. [];
          more = λ q. came q w past;
          clock = f.clock ∙ sym (now_all (outs_of x) h);
          streams = l.streams;
          dgrams = l.dgrams;
          untaken = λ e. absurd (cc);
          taken = λ e. record { pending = refl; here = λ y g. (none u.place y g, λ ne. absurd (ne refl)); others = λ q y ne g. none q y g };
          free = λ q le. (let a = reach_all (outs_of x) h in l.free q (omega arith));
          by_dgram = f.by_dgram;
          settled = f.settled;
          silent = λ k a g y. (let b = l.asks k a g in f.silent k (b.0) b.1 (earlier_all (Heard c k s) (outs_of x) h y));
          one_id = ids.0;
          begun = ids.1.0;
          unsent = ids.1.1;
        };
        others = λ t y ne g. others_all c s t past w y (outs_of x) h (λ e. ne (sym e)) l.of g;
        silent = o.0;
        handed_on = o.1.0;
        reaches = o.1.1.0 ∙ (is ∙ sym o.1.1.1);
      }

  -- octets that come are read: the frames are those that come by the rows
  pub reads_keeps : (next p : ℕ) (o : Octets) (x : Conn) → next ≡ reach h → u.pending ≡ Bytes p o → u.server.by_stream.conns p ≡ Some x → Keeps Served (Fits c) none_more s past w h (does (reads_at p (fed x.got o).frames (multi.set_conn p (multi.fed_by o x) u.server.by_stream) u) next Nothing)
  reads_keeps next p o x is pend conn =
      let v = (f.untaken un).pending in
      let event : w ≡ Bytes p o = sym v ∙ pend in
      let kept : Kept c s past w (Bytes p o) (λ q. []) (λ q. came q w past) u.server.by_stream h = subst (λ z. Kept c s past w z (λ q. []) (λ q. came q w past) u.server.by_stream h) event base in
      let come = taking.octets_come c s past w (λ q. []) (λ q. came q w past) u.server.by_stream h p o x kept conn in
      let away : (q : ℕ) → p ≢ q → came q w past ≡ [] = λ q ne. subst (λ w. came q w past ≡ []) (sym event) (elsewhere p q o past ne) in
      record {
        fits = record {
          fr = λ q. [];
          more = λ q. came q w past;
          clock = f.clock;
          streams = come.0;
          dgrams = ignores c s past w w u.server.by_dgram h base_d f.streams.row.before (subst (λ w. IsIgnored c w u.server.by_dgram) (sym event) tt);
          untaken = λ e. absurd (cc);
          taken = λ e. record {
            pending = refl;
            here = λ y g. (come.1, λ ne. (let z : multi.fed_by o x ≡ y = (let v = sym (at_here p (Some (multi.fed_by o x)) u.server.by_stream.conns) ∙ g in cc) in ap (λ z. z.heard) (sym z)));
            others = λ q y ne g. away q ne;
          };
          free = λ q le. subst (λ w. on_event w q Opening ≡ Opening) (sym event) refl;
          by_dgram = f.by_dgram;
          settled = f.settled;
          silent = f.silent;
          one_id = f.one_id;
          begun = f.begun;
          unsent = f.unsent;
        };
        others = λ t y ne g. g;
        silent = λ j. refl;
        handed_on = λ j t. refl;
        reaches = is;
      }
