-- Behind each row what is kept of messages that came is what the definitions say.
use Rattle.std.proofs.Common.{◌≡◌, ℕ, ◌&&◌, ◌⊎◌, inl, inr, not, Bool, true, false, List, [], Option, Some, None, refl, sym, ap, ◌∙◌, subst}
use Rattle.number_table.specs.Entries.{entry_at}
use Rattle.client_request.specs.declared.event.{Row.Row, Via.Via}
use Rattle.client_request.specs.declared.event.Via.TheVariants.{Dgram, Stream}
use Rattle.right_trace.specs.Trace.{History, Conf, after}
use Rattle.right_trace.specs.Time.{newest, row_before, EarlierRow, OfRow}
use Rattle.right_trace.specs.Messages.{Octets, answers, truncated}
use Rattle.right_trace.specs.Places.{site, is_of_kind}
use Rattle.right_trace.specs.{Parts.IsIn, Frames.came}
use Rattle.right_trace.specs.Exchanges.{is_whole, first_of}
use Rattle.right_trace.specs.Coming.{IsExcused, CameFor, SomeCame}
use Rattle.trace_tables.specs.declared.places.Place.{Place}
use Rattle.trace_tables.specs.{Known.site_seen, Lists.listed}
use Rattle.trace_tables.specs.declared.frames.here.Here.{Here}
use Rattle.trace_tables.specs.declared.frames.ledger.Ledger.{Ledger}
use Rattle.trace_tables.specs.frames.Ledger as ledger
use Rattle.trace_tables.specs.frames.Here as here_outs
use Rattle.trace_points.specs.declared.due.timers.Timers.{Timers}
use Rattle.trace_points.specs.due.Timers as timers
use Rattle.trace_points.proofs.lemmas.due.ReadTimers.{both, all}
use Rattle.trace_points.specs.declared.exchanges.coming.Coming.{Coming}
use Rattle.trace_points.specs.exchanges.Coming.{IsComing, AllComing}
use Rattle.trace_errors.specs.promptness.Heard.{is_passed_over}
use Rattle.trace_errors.specs.promptness.Prompt.{is_uncut, matches, is_stream, excused_in}
use Rattle.trace_errors.proofs.lemmas.promptness.Hearing.{before_row, rows_before, before_rows, brought_to, passed_so, so_passed}
use Rattle.trace_replies.specs.declared.firsts.firsts.{Arrived.Arrived, News.News}
use Rattle.trace_replies.specs.firsts.Firsts.{Firsts, counted, news_of, all_news, after_row, ByRow, FirstRow, HasCome, Known, GoesOn}
use Rattle.trace_replies.proofs.lemmas.firsts.Listing.{clash, not_false, counts_so, so_counts, IsNew, added_so, still_listed, new_listed, news_so, so_news}

pub uncut_is : (v : Via) (m : Octets) → is_uncut v m ≡ is_whole v m
unfolding truncated
uncut_is Dgram m = refl
uncut_is Stream m = refl

stream_is : (o : Option Place) → is_stream o ≡ is_of_kind Stream (site_seen o)
stream_is None = refl
stream_is (Some x) = refl

-- a message that comes and matches came for its request
pub record CameAt (c : Conf) (k : ℕ) (m : Octets) (past h : History) (p : ℕ) : Type 0 where
  pub for : CameFor c k m past (newest h) h
  pub place : for.place ≡ p

pub coming_came : (c : Conf) (past h : History) (z : Coming) → IsComing c past h z → matches z ≡ true → CameAt c z.request z.message past h z.place
coming_came c past h z is e =
    let q = both z.agrees (is_uncut z.via z.message) e in
    record {
      for = record { request = is.asked_as; via = z.via; server = z.server; place = z.place; id = z.id; matches = record { comes = is.comes; agrees = sym is.agreeing ∙ q.0; whole = sym (uncut_is z.via z.message) ∙ q.1 } };
      place = refl;
    }

module _ (c : Conf) (past : History) (row : Row) (l l' : Ledger) (t : Timers) (o : Here) (xs : List Coming) (f : Firsts) (kl : ledger.Known past l) (kl' : ledger.Known (after row past) l') (kt : timers.Known c past t) (ko : here_outs.Known l.books.places (after row past) o) (cs : AllComing c None past (after row past) xs) (kf : Known c past f) where
  abbrev end : History
  end = after row past

  excused : Bool
  excused = excused_in c l'.frames.brought l'.books.requests.clock l t l' o

  -- of the place of a message
  excused_at : (p id : ℕ) (v : Via) (m : Octets) → first_of c v id (came p (newest end) past) ≡ Some m → excused ≡ (is_passed_over c p l'.books.requests.clock l t o && is_of_kind Stream (site p end))
  unfolding excused
  excused_at p id v m first =
      let b = brought_to c l' end p id v m past kl' (before_row row past) first in
      ap (λ b. excused_in c b l'.books.requests.clock l t l' o) b.1
      ∙ (ap (λ p. is_passed_over c p l'.books.requests.clock l t o && is_stream (entry_at p l'.books.places)) b.2
      ∙ ap (λ b. is_passed_over c p l'.books.requests.clock l t o && b) (stream_is (entry_at p l'.books.places) ∙ ap (is_of_kind Stream) (kl'.books.places.sites p)))

  excused_so : (p id : ℕ) (v : Via) (m : Octets) → first_of c v id (came p (newest end) past) ≡ Some m → excused ≡ true → IsExcused c p past (newest end) end
  unfolding IsExcused
  excused_so p id v m first e =
      let q = both (is_passed_over c p l'.books.requests.clock l t o) _ (sym (excused_at p id v m first) ∙ e) in
      let r = passed_so c past row l l' t o kl kl' kt ko p q.0 in
      (r.0, r.1, q.1)

  so_excused : (p id : ℕ) (v : Via) (m : Octets) → first_of c v id (came p (newest end) past) ≡ Some m → IsExcused c p past (newest end) end → excused ≡ true
  unfolding IsExcused
  so_excused p id v m first e = excused_at p id v m first ∙ all (is_passed_over c p l'.books.requests.clock l t o) _ (so_passed c past row l l' t o kl kl' kt ko p e.0 e.1) e.2

  -- ---- by the end of the row

  still : (P : History → Type 0) → ByRow P past → ByRow P end
  still P b = inr (before_rows P row past b)

  was : (P : History → Type 0) → ByRow P end → P end ⊎ ByRow P past
  was P (inl p) = inl p
  was P (inr e) = inr (rows_before P row past e)

  -- ---- what came in the row

  at_end : (P : History → Type 0) → P past → P (row_before end)
  at_end P p = subst P (sym (before_row row past)) p

  new_came : (z : Coming) → IsIn z xs → matches z ≡ true → OfRow (CameFor c z.request z.message) end
  new_came z i e = at_end (λ past. CameFor c z.request z.message past (newest end) end) (coming_came c past end z (cs.so z i) e).for

  new_counts : (z : Coming) → IsIn z xs → matches z ≡ true → excused ≡ false → OfRow (SomeCame c z.request) end
  new_counts z i e fails = at_end (λ past. SomeCame c z.request past (newest end) end) (record {
    message = z.message;
    came = (coming_came c past end z (cs.so z i) e).for;
    counts = λ x. clash excused (so_excused z.place z.id z.via z.message ((cs.so z i).comes.first) (subst (λ p. IsExcused c p past (newest end) end) (coming_came c past end z (cs.so z i) e).place x)) fails;
  })

  none_before : (k : ℕ) → counted k f ≡ false → EarlierRow (OfRow (SomeCame c k)) end → ⊥
  none_before k fails e = let w = kf.counted k (rows_before (OfRow (SomeCame c k)) row past e) in clash (counted k f) (so_counts w.0 (listed k f) w.1 w.2) fails

  new_has : (z : Coming) → IsIn z xs → matches z ≡ true → (k : ℕ) → z.request ≡ k → HasCome c k end (news_of (not excused) f z).arrived
  new_has z i e k is = subst (λ k. HasCome c k end (news_of (not excused) f z).arrived) is (record {
    came = inl (new_came z i e);
    counted = λ b. inl (new_counts z i e (not_false excused b));
    first = λ b. inl (new_came z i e, none_before z.request (not_false (counted z.request f) b));
  })

  old_has : (k : ℕ) (x : Arrived) → HasCome c k past x → HasCome c k end x
  old_has k x h = record {
    came = still (OfRow (CameFor c k x.message)) h.came;
    counted = λ b. still (OfRow (SomeCame c k)) (h.counted b);
    first = λ b. still (FirstRow c k x.message) (h.first b);
  }

  abbrev added : Firsts
  added = after_row excused xs f

  so_then : (k : ℕ) (x : Arrived) → IsIn x (listed k added) → HasCome c k end x
  so_then k x i = go (added_so k x (all_news (not excused) f xs) f i)
    where
      new : IsNew k x (all_news (not excused) f xs) → HasCome c k end x
      new w =
          let r = news_so (not excused) f w.news xs w.there in
          let same : (news_of (not excused) f r.0).arrived ≡ x = ap (λ (n : News). n.arrived) r.3 ∙ w.is in
          subst (HasCome c k end) same (new_has r.0 r.1 r.2 k (ap (λ (n : News). n.request) r.3 ∙ w.is_request))

      go : IsIn x (listed k f) ⊎ IsNew k x (all_news (not excused) f xs) → HasCome c k end x
      go (inl i) = old_has k x (kf.so k x i)
      go (inr w) = new w

  -- ---- and the other way

  record IsComingFor (k : ℕ) (m : Octets) : Type 0 where
    coming : Coming
    there : IsIn coming xs
    match : matches coming ≡ true
    is_request : coming.request ≡ k
    is_message : coming.message ≡ m

  coming_for : (k : ℕ) (m : Octets) → CameFor c k m past (newest end) end → IsComingFor k m
  coming_for k m w = record {
    coming = record { request = k; via = w.via; server = w.server; place = w.place; id = w.id; message = m; agrees = answers w.request w.id m };
    there = cs.back w.request w.via w.server w.place k w.id m refl w.matches.comes;
    match = all (answers w.request w.id m) (is_uncut w.via m) w.matches.agrees (uncut_is w.via m ∙ w.matches.whole);
    is_request = refl;
    is_message = refl;
  }

  listed_then : (k : ℕ) (m : Octets) (w : IsComingFor k m) → IsIn (news_of (not excused) f w.coming).arrived (listed k added)
  listed_then k m w = new_listed k (news_of (not excused) f w.coming) (all_news (not excused) f xs) f (so_news (not excused) f w.coming xs w.there w.match) w.is_request

  at_past : (P : History → Type 0) → P (row_before end) → P past
  at_past P p = subst P (before_row row past) p

  came_then : (k : ℕ) (m : Octets) → ByRow (OfRow (CameFor c k m)) end → (x : Arrived) × IsIn x (listed k added) × (x.message ≡ m)
  came_then k m b = go (was (OfRow (CameFor c k m)) b)
    where
      go : OfRow (CameFor c k m) end ⊎ ByRow (OfRow (CameFor c k m)) past → (x : Arrived) × IsIn x (listed k added) × (x.message ≡ m)
      go (inl w) = let z = coming_for k m (at_past (λ past. CameFor c k m past (newest end) end) w) in ((news_of (not excused) f z.coming).arrived, listed_then k m z, z.is_message)
      go (inr b) = let x = kf.came k m b in (x.0, still_listed k x.0 (all_news (not excused) f xs) f x.1, x.2)

  counted_then : (k : ℕ) → ByRow (OfRow (SomeCame c k)) end → (x : Arrived) × IsIn x (listed k added) × (x.counts ≡ true)
  counted_then k b = go (was (OfRow (SomeCame c k)) b)
    where
      here : SomeCame c k past (newest end) end → (d : Bool) → excused ≡ d → (x : Arrived) × IsIn x (listed k added) × (x.counts ≡ true)
      here w true e = absurd (w.counts (excused_so w.came.place w.came.id w.came.via w.message w.came.matches.comes.first e))
      here w false e = let z = coming_for k w.message w.came in ((news_of (not excused) f z.coming).arrived, listed_then k w.message z, ap not e)

      go : OfRow (SomeCame c k) end ⊎ ByRow (OfRow (SomeCame c k)) past → (x : Arrived) × IsIn x (listed k added) × (x.counts ≡ true)
      go (inl w) = here (at_past (λ past. SomeCame c k past (newest end) end) w) excused refl
      go (inr b) = let x = kf.counted k b in (x.0, still_listed k x.0 (all_news (not excused) f xs) f x.1, x.2)

  first_then : (k : ℕ) (m : Octets) → ByRow (FirstRow c k m) end → (x : Arrived) × IsIn x (listed k added) × (x.message ≡ m) × (x.first ≡ true)
  first_then k m b = go (was (FirstRow c k m) b)
    where
      uncounted : (EarlierRow (OfRow (SomeCame c k)) end → ⊥) → (d : Bool) → counted k f ≡ d → d ≡ false
      uncounted none false e = refl
      uncounted none true e = absurd (none (before_rows (OfRow (SomeCame c k)) row past (some_counted e)))
        where
          some_counted : counted k f ≡ true → ByRow (OfRow (SomeCame c k)) past
          some_counted e = let x = counts_so (listed k f) e in (kf.so k x.0 x.1).counted x.2

      go : FirstRow c k m end ⊎ ByRow (FirstRow c k m) past → (x : Arrived) × IsIn x (listed k added) × (x.message ≡ m) × (x.first ≡ true)
      go (inl w) =
          let z = coming_for k m (at_past (λ past. CameFor c k m past (newest end) end) w.0) in
          ((news_of (not excused) f z.coming).arrived, listed_then k m z, z.is_message, ap not (ap (λ k. counted k f) z.is_request ∙ uncounted w.1 (counted k f) refl))
      go (inr b) = let x = kf.first k m b in (x.0, still_listed k x.0 (all_news (not excused) f xs) f x.1, x.2, x.3)

  known_then : Known c end added
  known_then = record { so = so_then; came = came_then; counted = counted_then; first = first_then }

none_at_first : (c : Conf) (k : ℕ) (m : Octets) → OfRow (CameFor c k m) [] → ⊥
none_at_first c k m w = absurd (let z = w.matches.comes.is_open.stands.asked.1 in cc)

none_first : (c : Conf) (k : ℕ) (P : History → Type 0) → (P [] → ⊥) → ByRow P [] → ⊥
none_first c k P fails (inl p) = fails p
none_first c k P fails (inr e) = e

pub goes_on : GoesOn
unfolding excused
goes_on = record {
  begins = λ c. record {
    so = λ k x i. absurd i;
    came = λ k m b. absurd (none_first c k (OfRow (CameFor c k m)) (none_at_first c k m) b);
    counted = λ k b. absurd (none_first c k (OfRow (SomeCame c k)) (λ w. none_at_first c k w.message w.came) b);
    first = λ k m b. absurd (none_first c k (FirstRow c k m) (λ w. none_at_first c k m w.0) b);
  };
  row = λ c past row l l' t o xs f kl kl' kt ko cs kf. known_then c past row l l' t o xs f kl kl' kt ko cs kf;
}
