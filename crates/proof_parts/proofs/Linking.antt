-- Octets come to a connection, and frames are taken from what it keeps.
use Rattle.std.proofs.Common.{◌≡◌, ℕ, suc, ◌+◌, Bool, true, false, List, [], ◌∷◌, ◌++◌, length, Option, Some, None, refl, sym, ap, subst, ◌∙◌, arith}
use Rattle.std.specs.Prelude.{if◌then◌else◌, ◌==◌, slice_range, nat_lt}
use Rattle.std.proofs.lemmas.Bool.Decides.{nat_tests}
use Rattle.client_request.specs.Request.{Request}
use Rattle.client_request.specs.Requests.{for_one, for_several}
use Rattle.client_request.specs.View.{View, told, more_at}
use Rattle.client_request.specs.declared.event.What.TheVariants.{Bytes}
use Rattle.client_stream.specs.Frames.{has_frame, first_frame, behind_frame, body_size}
use Rattle.client_stream.specs.Plain.{has_ended, octets_left, with_line, says_more, says_if_more as plain_says, takes_frame, reads, frame_comes, plain_step}
use Rattle.right_trace.specs.Frames.{Reading, fed}
use Rattle.right_trace.specs.Messages.{Octets}
use Rattle.proof_right.specs.machine.Streams.{Conn, Multi, fed_by, set_conn}
use Rattle.client_multi.specs.Links.{Link}
use Rattle.proof_parts.specs.Connections.{dues, HasHeard, IsSettled}
use Rattle.proof_parts.specs.Lines.{SingleLine, IsLineAt}
use Rattle.proof_parts.specs.Octets.{says, HasRead, ReadsNone, ReadsOne, LinksRead}
use Rattle.proof_parts.specs.PartTie.{Leads}
use Rattle.proof_parts.specs.Reading.{Keeps}
use Rattle.proof_parts.specs.Sights.{IsFair}
use Rattle.proof_parts.proofs.Calling.{is_open}
use Rattle.proof_parts.proofs.FrameReads.{kept_is_read}
use Rattle.proof_parts.proofs.Frames.{frame_so}
use Rattle.proof_parts.proofs.Keys.{with_here}
use Rattle.right_trace.specs.Trace.{Conf}

-- a frame stands first where one is said to, and not else
first_of : (octets : List ℕ) (b : Bool) → has_frame octets ≡ b → first_frame octets ≡ (if b then Some (slice_range octets 2 (2 + body_size octets)) else None)
first_of octets b e = ap (λ b. if b then Some (slice_range octets 2 (2 + body_size octets)) else None) e

stands : (octets : List ℕ) (fs : List Octets) (got : Reading) → Keeps octets fs got → has_frame octets ≡ (nat_lt 0 (length fs))
stands octets fs got k = by (has_frame octets) refl
  where
    some : (n : ℕ) → true ≡ nat_lt 0 (suc n)
    some n = grind (arith, nat_tests)

    none : false ≡ nat_lt 0 0
    none = grind (arith, nat_tests)

    by : (b : Bool) → has_frame octets ≡ b → b ≡ nat_lt 0 (length fs)
    by true e = (let s = kept_is_read.some octets (slice_range octets 2 (2 + body_size octets)) fs got k (first_of octets true e) in some (length s.0) ∙ ap (λ (fs : List Octets). nat_lt 0 (length fs)) (sym s.1))
    by false e = (let s = kept_is_read.last octets fs got k (first_of octets false e) in none ∙ ap (λ (fs : List Octets). nat_lt 0 (length fs)) (sym s))

says_so : (fs : List Octets) (u : View) (k : Link Request) → has_frame k.octets ≡ nat_lt 0 (length fs) → says_more k u ≡ record u { more = says false fs u }
says_so [] u k e = ap (λ b. if b then record u { more = true } else u) e ∙ ap (λ b. if b then record u { more = true } else u) none
  where
    none : nat_lt 0 0 ≡ false
    none = grind (arith, nat_tests)
says_so (f ∷ fs) u k e = ap (λ b. if b then record u { more = true } else u) e ∙ ap (λ b. if b then record u { more = true } else u) (some (length fs))
  where
    some : (n : ℕ) → nat_lt 0 (suc n) ≡ true
    some n = grind (arith, nat_tests)

says_ended : (fs : List Octets) (u : View) (k : Link Request) → k.octets ≡ [] → says_more k u ≡ record u { more = says true fs u }
says_ended fs u k e = ap (λ (o : List ℕ). if has_frame o then record u { more = true } else u) e

module _ (c : Conf) (p : ℕ) (names : ℕ → Option ℕ) (m : Multi) (x : Conn) (l : Link Request) (v : View) (fair : IsFair v) where
  -- what the line leaves, with the octets behind the frame
  one_read : (f : Octets) (fs : List Octets) (place : l.place ≡ p) → Keeps (behind_frame l.octets) fs x.got → (o : Option (SingleLine × View)) → Leads (HasHeard c p names m x l.line v f) o
      → Leads (HasRead c p names m x l v (f ∷ fs)) (plain_says (with_line l (behind_frame l.octets) o))
  one_read f fs place kept None heard = tt
  one_read f fs place kept (Some y) heard = by (has_ended y.0.stage) refl
    where
      k : Link Request
      k = record l { line = y.0; octets = octets_left y.0.stage (behind_frame l.octets) }

      by : (b : Bool) → has_ended y.0.stage ≡ b → HasRead c p names m x l v (f ∷ fs) k (says_more k y.1)
      by true e =
          let none : octets_left y.0.stage (behind_frame l.octets) ≡ [] = ap (λ b. if b then [] else behind_frame l.octets) e in
          ReadsOne f fs k y.1 (says_more k y.1) heard (says_ended fs y.1 k none ∙ ap (λ b. record y.1 { more = says b fs y.1 }) (sym e)) refl refl (λ g. absurd (let z = sym e ∙ g in cc)) (λ g. none)
      by false e =
          let still : octets_left y.0.stage (behind_frame l.octets) ≡ behind_frame l.octets = ap (λ b. if b then [] else behind_frame l.octets) e in
          let is : Keeps k.octets fs x.got = subst (λ o. Keeps o fs x.got) (sym still) kept in
          ReadsOne f fs k y.1 (says_more k y.1) heard (says_so fs y.1 k (stands k.octets fs x.got is) ∙ ap (λ b. record y.1 { more = says b fs y.1 }) (sym e)) refl refl (λ g. is) (λ g. absurd (let z = sym g ∙ e in cc))

  -- the first frame is taken, if one stands
  pub reads_so : (fs : List Octets) → l.place ≡ p → IsLineAt c p names l.line m x (dues v) v.ticket → IsSettled l.line → Keeps l.octets fs x.got → Leads (HasRead c p names m x l v fs) (reads for_one for_several l v)
  reads_so fs place line settled kept = by (first_frame l.octets) refl
    where
      none_stands : first_frame l.octets ≡ None → (gs : List Octets) → fs ≡ gs → Leads (HasRead c p names m x l v gs) (Some (l, says_more l v))
      none_stands e [] is = ReadsNone l (says_more l v) refl (says_so [] v l (stands l.octets [] x.got (subst (λ fs. Keeps l.octets fs x.got) is kept)))
      none_stands e (g ∷ gs) is = absurd (let z = sym is ∙ kept_is_read.last l.octets fs x.got kept e in cc)

      by : (o : Option (List ℕ)) → first_frame l.octets ≡ o → Leads (HasRead c p names m x l v fs) (plain_says (takes_frame for_one for_several l v o))
      by None e = none_stands e fs refl
      by (Some f) e =
          let s = kept_is_read.some l.octets f fs x.got kept e in
          subst (λ fs. Leads (HasRead c p names m x l v fs) (plain_says (with_line l (behind_frame l.octets) (frame_comes for_one for_several l.place f l.line v)))) (sym s.1)
          (one_read f s.0 place s.2 (frame_comes for_one for_several l.place f l.line v)
          (subst (λ q. Leads (HasHeard c p names m x l.line v f) (frame_comes for_one for_several q f l.line v)) (sym place) (frame_so c p names m x l.line v line fair settled f)))

same_test : (a b : ℕ) → a ≡ b → (a == b) ≡ true
same_test a b e = grind (arith, nat_tests)

-- a connection that has not ended hears what is at its place
told_so : (p : ℕ) (l : Link Request) (v : View) (o : Octets) → has_ended l.line.stage ≡ false → l.place ≡ p → plain_step for_one for_several (told (Bytes p o)) l v ≡ reads for_one for_several (record l { octets = l.octets ++ o }) v
told_so p l v o live place =
    ap (λ b. if b then Some (l, v) else (if l.place == p then reads for_one for_several (record l { octets = l.octets ++ o }) v else Some (l, v))) live
    ∙ ap (λ b. if b then reads for_one for_several (record l { octets = l.octets ++ o }) v else Some (l, v)) (same_test l.place p place)

more_so : (p : ℕ) (l : Link Request) (v : View) → has_ended l.line.stage ≡ false → l.place ≡ p → plain_step for_one for_several (more_at p) l v ≡ reads for_one for_several l v
more_so p l v live place =
    ap (λ b. if b then Some (l, v) else (if l.place == p then reads for_one for_several l v else Some (l, v))) live
    ∙ ap (λ b. if b then reads for_one for_several l v else Some (l, v)) (same_test l.place p place)

-- octets that come change no more than what is read
line_fed : (c : Conf) (p : ℕ) (names : ℕ → Option ℕ) (m : Multi) (x : Conn) (s : SingleLine) (d : ℕ → Option ℕ) (ticket : ℕ) (o : Octets) → IsLineAt c p names s m x d ticket → IsLineAt c p names s (set_conn p (fed_by o x) m) (fed_by o x) d ticket
line_fed c p names m x s d ticket o line = record {
  conn = with_here p (Some (fed_by o x)) m.conns;
  seated = line.seated;
  fits = record {
    stage = line.fits.stage;
    writing = line.fits.writing;
    idle = line.fits.idle;
    timeout = line.fits.timeout;
    resting = line.fits.resting;
    order = line.fits.order;
    few = line.fits.few;
    ids = line.fits.ids;
    queue = line.fits.queue;
  };
}

pub links_read : (c : Conf) → LinksRead c
links_read c = record {
  comes = λ p names m x l v link fair octets.
      subst (Leads (HasRead c p names (set_conn p (fed_by octets x) m) (fed_by octets x) (record l { octets = l.octets ++ octets }) v (fed x.got octets).frames))
      (sym (told_so p l v octets (is_open c (dues v) l.line.idle_time l.line.stage x.mode link.line.fits.stage) link.place))
      (reads_so c p names (set_conn p (fed_by octets x) m) (fed_by octets x) (record l { octets = l.octets ++ octets }) v fair (fed x.got octets).frames link.place (line_fed c p names m x l.line (dues v) v.ticket octets link.line) link.settled (kept_is_read.more l.octets octets x.got link.keeps));
  more = λ p names m x l v frames link fair.
      subst (Leads (HasRead c p names m x l v frames))
      (sym (more_so p l v (is_open c (dues v) l.line.idle_time l.line.stage x.mode link.line.fits.stage) link.place))
      (reads_so c p names m x l v fair frames link.place link.line link.settled link.keeps);
}
