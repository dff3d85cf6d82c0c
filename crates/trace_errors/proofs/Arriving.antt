-- What came for requests in a row, and what is kept of it, is what the definitions say.
use Rattle.std.proofs.Common.{◌≡◌, ℕ, ◌==◌, ◌&&◌, ◌⊎◌, inl, inr, not, Bool, true, false, if◌then◌else◌, List, [], ◌∷◌, Option, Some, None, refl, sym, ap, ◌∙◌, subst}
use Rattle.std.specs.Prelude.{is_some}
use Rattle.number_table.specs.Entries.{puts, entry_at}
use Rattle.client_request.specs.Request.{Request}
use Rattle.client_request.specs.declared.event.{Row.Row, Via.Via}
use Rattle.client_request.specs.declared.event.Via.TheVariants.{Dgram, Stream}
use Rattle.right_trace.specs.Trace.{History, Conf, after}
use Rattle.right_trace.specs.Time.{now, newest, row_before, OfRow}
use Rattle.right_trace.specs.{Settings.Settings, Parts.IsIn, Frames.came, Keys.is_cacheable, Timers.ReadTimerIsDue, Errors.CameWithoutValidity}
use Rattle.right_trace.specs.Messages.{Octets, answers, truncated}
use Rattle.right_trace.specs.Requests.{Asking, asking}
use Rattle.right_trace.specs.Places.{site, is_of_kind}
use Rattle.right_trace.specs.Validity.{validity_of_message, is_deferred}
use Rattle.right_trace.specs.Exchanges.{Matches, is_whole, first_of}
use Rattle.right_trace.specs.Coming.{IsExcused, SomeCame}
use Rattle.trace_tables.specs.declared.places.Place.{Place}
use Rattle.trace_tables.specs.Known.{site_seen}
use Rattle.trace_tables.proofs.Tables.{at_puts}
use Rattle.trace_tables.specs.declared.frames.here.Here.{Here}
use Rattle.trace_tables.specs.declared.frames.ledger.Ledger.{Ledger}
use Rattle.trace_tables.specs.frames.Here.{closed_seen}
use Rattle.trace_tables.specs.frames.Ledger as ledger
use Rattle.trace_tables.specs.frames.Here as here_outs
use Rattle.trace_points.specs.declared.due.timers.Timers.{Timers}
use Rattle.trace_points.specs.due.Timers as timers
use Rattle.trace_points.specs.due.Due.{read_due}
use Rattle.trace_points.proofs.lemmas.due.ReadTimers.{both, all, tells_read_timer}
use Rattle.trace_points.specs.declared.exchanges.coming.Coming.{Coming}
use Rattle.trace_points.specs.exchanges.Coming.{is_wanted, AllComing}
use Rattle.trace_errors.specs.promptness.Heard.{is_passed_over}
use Rattle.trace_errors.specs.promptness.Prompt.{is_uncut, matches, is_stream, excused_in}
use Rattle.trace_errors.proofs.lemmas.promptness.Hearing.{before_row, brought_to}
use Rattle.trace_errors.proofs.lemmas.promptness.Delaying.{not_true}
use Rattle.trace_errors.specs.declared.arrivals.Arrivals.{Arrivals}
use Rattle.trace_errors.specs.Rows.{ByRow}
use Rattle.trace_errors.specs.Arrivals.{Marked, marks_if, mark_all, come, lacks_validity, is_unkept, is_unkept_later, after_row, is_marked, UnkeptCame, Known, GoesOn}
use Rattle.trace_errors.proofs.Rows.{same_number, own, row_later, row_was}

-- marks

marked_puts : (k j : ℕ) (t : Marked) → is_marked k (puts j tt t) ≡ (if j == k then true else is_marked k t)
marked_puts k j t = ap is_some (at_puts j tt k t) ∙ go (j == k)
  where
    go : (b : Bool) → is_some (if b then Some tt else entry_at k t) ≡ (if b then true else is_marked k t)
    go true = refl
    go false = refl

marks_kept : (k j : ℕ) (b : Bool) (t : Marked) → is_marked k t ≡ true → is_marked k (marks_if b j t) ≡ true
marks_kept k j false t e = e
marks_kept k j true t e = marked_puts k j t ∙ go (j == k)
  where
    go : (b : Bool) → (if b then true else is_marked k t) ≡ true
    go true = refl
    go false = e

marks_new : (k j : ℕ) (b : Bool) (t : Marked) → is_marked k (marks_if b j t) ≡ true → (is_marked k t ≡ true) ⊎ ((b ≡ true) × (j ≡ k))
marks_new k j false t e = inl e
marks_new k j true t e = go (j == k) refl (sym (marked_puts k j t) ∙ e)
  where
    go : (b : Bool) → (j == k) ≡ b → (if b then true else is_marked k t) ≡ true → (is_marked k t ≡ true) ⊎ (Path Bool true true × (j ≡ k))
    go true i e = inr (refl, same_number j k i)
    go false i e = inl e

new_marks : (j : ℕ) (b : Bool) (t : Marked) → b ≡ true → is_marked j (marks_if b j t) ≡ true
new_marks j true t e = marked_puts j j t ∙ ap (λ b. if b then true else is_marked j t) (own j)
new_marks j false t e = absurd (cc)

pub record Passing (f : Coming → Bool) (k : ℕ) (xs : List Coming) : Type 0 where
  pub coming : Coming
  pub there : IsIn coming xs
  pub is_request : coming.request ≡ k
  pub passes : f coming ≡ true

module _ (f : Coming → Bool) where
  all_kept : (k : ℕ) (xs : List Coming) (t : Marked) → is_marked k t ≡ true → is_marked k (mark_all f xs t) ≡ true
  all_kept k [] t e = e
  all_kept k (x ∷ xs) t e = all_kept k xs (marks_if (f x) x.request t) (marks_kept k x.request (f x) t e)

  all_new : (k : ℕ) (xs : List Coming) (t : Marked) → is_marked k (mark_all f xs t) ≡ true → (is_marked k t ≡ true) ⊎ Passing f k xs
  all_new k [] t e = inl e
  all_new k (x ∷ xs) t e = go (all_new k xs (marks_if (f x) x.request t) e)
    where
      first : (is_marked k t ≡ true) ⊎ ((f x ≡ true) × (x.request ≡ k)) → (is_marked k t ≡ true) ⊎ Passing f k (x ∷ xs)
      first (inl e) = inl e
      first (inr q) = inr (record { coming = x; there = inl refl; is_request = q.1; passes = q.0 })

      go : (is_marked k (marks_if (f x) x.request t) ≡ true) ⊎ Passing f k xs → (is_marked k t ≡ true) ⊎ Passing f k (x ∷ xs)
      go (inl e) = first (marks_new k x.request (f x) t e)
      go (inr p) = inr (record { coming = p.coming; there = inr p.there; is_request = p.is_request; passes = p.passes })

  new_all : (y : Coming) (xs : List Coming) (t : Marked) → IsIn y xs → f y ≡ true → is_marked y.request (mark_all f xs t) ≡ true
  new_all y [] t i e = absurd i
  new_all y (x ∷ xs) t (inl s) e = all_kept y.request xs (marks_if (f x) x.request t) (subst (λ (y : Coming). is_marked y.request (marks_if (f x) x.request t) ≡ true) s (new_marks x.request (f x) t (ap f s ∙ e)))
  new_all y (x ∷ xs) t (inr i) e = new_all y xs (marks_if (f x) x.request t) i e

  all_marked : (k : ℕ) (xs : List Coming) (t : Marked) → Passing f k xs → is_marked k (mark_all f xs t) ≡ true
  all_marked k xs t p = subst (λ k. is_marked k (mark_all f xs t) ≡ true) p.is_request (new_all p.coming xs t p.there p.passes)

-- messages

uncut_is : (v : Via) (m : Octets) → is_uncut v m ≡ is_whole v m
unfolding truncated
uncut_is Dgram m = refl
uncut_is Stream m = refl

stream_is : (o : Option Place) → is_stream o ≡ is_of_kind Stream (site_seen o)
stream_is None = refl
stream_is (Some x) = refl

none_is : (o : Option ℕ) → is_some o ≡ false → o ≡ None
none_is None e = refl
none_is (Some n) e = absurd (cc)

module _ (c : Conf) (want : Option ℕ) (past h : History) (xs : List Coming) (cs : AllComing c want past h xs) where
  matching : (z : Coming) (there : IsIn z xs) → matches z ≡ true → (r : Request) × Matches c r z.via z.server z.place z.request z.id z.message past (newest h) h
  matching z there e =
      let is = cs.so z there in
      let q = both z.agrees (is_uncut z.via z.message) e in
      (is.asked_as, record { comes = is.comes; agrees = sym is.agreeing ∙ q.0; whole = sym (uncut_is z.via z.message) ∙ q.1 })

  matches_is : (r : Request) (v : Via) (s p k id : ℕ) (m : Octets) → Matches c r v s p k id m past (newest h) h → matches (record { request = k; via = v; server = s; place = p; id = id; message = m; agrees = answers r id m }) ≡ true
  matches_is r v s p k id m d = all (answers r id m) (is_uncut v m) d.agrees (uncut_is v m ∙ d.whole)

  -- without a validity
  module _ (s : Settings) (k : ℕ) (askings : List (ℕ × Asking)) (known : (k : ℕ) → entry_at k askings ≡ asking k past) where
    pub unkept_so : (z : Coming) → IsIn z xs → z.request ≡ k → is_unkept s askings z ≡ true → CameWithoutValidity c s k z.message past (newest h) h
    unkept_so z there e u =
        let q = both (matches z) (lacks_validity s z.message (entry_at z.request askings)) u in
        let d = matching z there q.0 in
        let a = d.1.comes.is_open.stands.asked in
        let l : lacks_validity s z.message (Some (record { request = d.0; moment = a.0 })) ≡ true = ap (lacks_validity s z.message) (sym (known z.request ∙ a.1)) ∙ q.1 in
        let b = both (is_cacheable d.0) (not (is_some (validity_of_message s z.message))) l in
        record {
          request = d.0;
          via = z.via;
          server = z.server;
          place = z.place;
          id = z.id;
          cacheable = b.0;
          matches = subst (λ k. Matches c d.0 z.via z.server z.place k z.id z.message past (newest h) h) e d.1;
          none = none_is (validity_of_message s z.message) (not_true (is_some (validity_of_message s z.message)) b.1);
        }

    pub so_unkept : is_wanted want k ≡ true → (m : Octets) → CameWithoutValidity c s k m past (newest h) h → (z : Coming) × IsIn z xs × (z.request ≡ k) × (z.message ≡ m) × (is_unkept s askings z ≡ true)
    so_unkept wanted m d =
        let z : Coming = record { request = k; via = d.via; server = d.server; place = d.place; id = d.id; message = m; agrees = answers d.request d.id m } in
        let there = cs.back d.request d.via d.server d.place k d.id m wanted d.matches.comes in
        let a = d.matches.comes.is_open.stands.asked in
        let l : lacks_validity s m (entry_at k askings) ≡ true = ap (lacks_validity s m) (known k ∙ a.1) ∙ all (is_cacheable d.request) (not (is_some (validity_of_message s m))) d.cacheable (ap (λ o. not (is_some o)) d.none) in
        (z, there, refl, refl, all (matches z) (lacks_validity s m (entry_at k askings)) (matches_is d.request d.via d.server d.place k d.id m d.matches) l)

  -- what may be passed over
  module _ (l l' : Ledger) (t : Timers) (o : Here) (before : row_before h ≡ past) (kl : ledger.Known past l) (kl' : ledger.Known h l') (kt : timers.Known c past t) (ko : here_outs.Known l.books.places h o) where
    due : (p : ℕ) → (read_due c p l'.books.requests.clock l t ≡ true → ReadTimerIsDue c p (now h) past) × (ReadTimerIsDue c p (now h) past → read_due c p l'.books.requests.clock l t ≡ true)
    due p = subst (λ n. (read_due c p l'.books.requests.clock l t ≡ true → ReadTimerIsDue c p n past) × (ReadTimerIsDue c p n past → read_due c p l'.books.requests.clock l t ≡ true)) kl'.books.requests.time
        (tells_read_timer c p l'.books.requests.clock l t (read_due c p l'.books.requests.clock l t) refl past kl kt)

    excused : Bool
    excused = excused_in c l'.frames.brought l'.books.requests.clock l t l' o

    excused_at : (p id : ℕ) (v : Via) (m : Octets) → first_of c v id (came p (newest h) past) ≡ Some m → excused ≡ (is_passed_over c p l'.books.requests.clock l t o && is_of_kind Stream (site p h))
    unfolding excused
    excused_at p id v m first =
        let b = brought_to c l' h p id v m past kl' before first in
        ap (λ b. excused_in c b l'.books.requests.clock l t l' o) b.1
        ∙ (ap (λ p. is_passed_over c p l'.books.requests.clock l t o && is_stream (entry_at p l'.books.places)) b.2
        ∙ ap (λ b. is_passed_over c p l'.books.requests.clock l t o && b) (stream_is (entry_at p l'.books.places) ∙ ap (is_of_kind Stream) (kl'.books.places.sites p)))

    excused_so : (p : ℕ) → (is_passed_over c p l'.books.requests.clock l t o && is_of_kind Stream (site p h)) ≡ true → IsExcused c p past (newest h) h
    unfolding IsExcused
    excused_so p e =
        let q = both (is_passed_over c p l'.books.requests.clock l t o) (is_of_kind Stream (site p h)) e in
        let r = both (closed_seen p o) (read_due c p l'.books.requests.clock l t) q.0 in
        (sym (ko.closes p) ∙ r.0, (due p).0 r.1, q.1)

    so_excused : (p : ℕ) → IsExcused c p past (newest h) h → (is_passed_over c p l'.books.requests.clock l t o && is_of_kind Stream (site p h)) ≡ true
    unfolding IsExcused
    so_excused p d = all (is_passed_over c p l'.books.requests.clock l t o) (is_of_kind Stream (site p h)) (all (closed_seen p o) (read_due c p l'.books.requests.clock l t) (ko.closes p ∙ d.0) ((due p).1 d.1)) d.2

    pub came_so : (k : ℕ) → excused_in c l'.frames.brought l'.books.requests.clock l t l' o ≡ false → Passing matches k xs → SomeCame c k past (newest h) h
    unfolding excused
    came_so k non p =
        let z = p.coming in
        let d = matching z p.there p.passes in
        record {
          message = z.message;
          came = record { request = d.0; via = z.via; server = z.server; place = z.place; id = z.id; matches = subst (λ k. Matches c d.0 z.via z.server z.place k z.id z.message past (newest h) h) p.is_request d.1 };
          counts = λ x. (let y = excused_at z.place z.id z.via z.message d.1.comes.first ∙ so_excused z.place x in let w : true ≡ false = sym y ∙ non in cc);
        }

    pub so_came : (k : ℕ) → is_wanted want k ≡ true → SomeCame c k past (newest h) h → (excused_in c l'.frames.brought l'.books.requests.clock l t l' o ≡ false) × Passing matches k xs
    unfolding excused
    so_came k wanted d =
        let a = d.came in
        let z : Coming = record { request = k; via = a.via; server = a.server; place = a.place; id = a.id; message = d.message; agrees = answers a.request a.id d.message } in
        (go excused refl, record { coming = z; there = cs.back a.request a.via a.server a.place k a.id d.message wanted a.matches.comes; is_request = refl; passes = matches_is a.request a.via a.server a.place k a.id d.message a.matches })
      where
        go : (b : Bool) → excused ≡ b → excused ≡ false
        go false e = e
        go true e = absurd (d.counts (excused_so d.came.place (sym (excused_at d.came.place d.came.id d.came.via d.message d.came.matches.comes.first) ∙ e)))

-- a row

module _ (c : Conf) (s : Settings) (past : History) (row : Row) (l l' : Ledger) (t : Timers) (o : Here) (xs : List Coming) (a : Arrivals) (kl : ledger.Known past l) (kl' : ledger.Known (after row past) l') (kt : timers.Known c past t) (ko : here_outs.Known l.books.places (after row past) o) (cs : AllComing c None past (after row past) xs) (ka : Known c s past a) where
  abbrev Is : (k : ℕ) → History → Type 0
  Is k = OfRow (SomeCame c k)

  abbrev IsUnkept : (k : ℕ) → Octets → History → Type 0
  IsUnkept k m = OfRow (CameWithoutValidity c s k m)

  row_now : (k : ℕ) → SomeCame c k past (newest (after row past)) (after row past) → Is k (after row past)
  row_now k d = subst (λ x. SomeCame c k x (newest (after row past)) (after row past)) (sym (before_row row past)) d

  now_row : (k : ℕ) → Is k (after row past) → SomeCame c k past (newest (after row past)) (after row past)
  now_row k d = subst (λ x. SomeCame c k x (newest (after row past)) (after row past)) (before_row row past) d

  came_row : (k : ℕ) (b : Bool) → excused_in c l'.frames.brought l'.books.requests.clock l t l' o ≡ b → is_marked k (come b xs a.came) ≡ true → ByRow (Is k) (after row past)
  came_row k true x e = row_later (Is k) row past (ka.came_so k e)
  came_row k false x e = go (all_new matches k xs a.came e)
    where
      go : (is_marked k a.came ≡ true) ⊎ Passing matches k xs → ByRow (Is k) (after row past)
      go (inl e) = row_later (Is k) row past (ka.came_so k e)
      go (inr p) = inl (row_now k (came_so c None past (after row past) xs cs l l' t o (before_row row past) kl kl' kt ko k x p))

  row_came : (k : ℕ) (b : Bool) → excused_in c l'.frames.brought l'.books.requests.clock l t l' o ≡ b → ByRow (Is k) (after row past) → is_marked k (come b xs a.came) ≡ true
  row_came k b x w = go b x (row_was (Is k) row past w)
    where
      go : (b : Bool) → excused_in c l'.frames.brought l'.books.requests.clock l t l' o ≡ b → Is k (after row past) ⊎ ByRow (Is k) past → is_marked k (come b xs a.came) ≡ true
      go true x (inr w) = ka.so_came k w
      go false x (inr w) = all_kept matches k xs a.came (ka.so_came k w)
      go true x (inl d) = absurd (let q = (so_came c None past (after row past) xs cs l l' t o (before_row row past) kl kl' kt ko k refl (now_row k d)).0 in let z : true ≡ false = sym x ∙ q in cc)
      go false x (inl d) = all_marked matches k xs a.came (so_came c None past (after row past) xs cs l l' t o (before_row row past) kl kl' kt ko k refl (now_row k d)).1

  unkept_row : (k : ℕ) → is_marked k (mark_all (is_unkept_later s l.books.requests.askings) xs a.unkept) ≡ true → UnkeptCame c s k (after row past)
  unkept_row k e = go (all_new (is_unkept_later s l.books.requests.askings) k xs a.unkept e)
    where
      go : (is_marked k a.unkept ≡ true) ⊎ Passing (is_unkept_later s l.books.requests.askings) k xs → UnkeptCame c s k (after row past)
      go (inl e) = (let u = ka.unkept_so k e in record { message = u.message; deferred = u.deferred; came = row_later (IsUnkept k u.message) row past u.came })
      go (inr p) =
          let z = p.coming in
          let q = both (is_deferred s z.message) (is_unkept s l.books.requests.askings z) p.passes in
          let d = unkept_so c None past (after row past) xs cs s k l.books.requests.askings kl.books.requests.askings z p.there p.is_request q.1 in
          record { message = z.message; deferred = q.0; came = inl (subst (λ x. CameWithoutValidity c s k z.message x (newest (after row past)) (after row past)) (sym (before_row row past)) d) }

  row_unkept : (k : ℕ) → UnkeptCame c s k (after row past) → is_marked k (mark_all (is_unkept_later s l.books.requests.askings) xs a.unkept) ≡ true
  row_unkept k u = go (row_was (IsUnkept k u.message) row past u.came)
    where
      go : IsUnkept k u.message (after row past) ⊎ ByRow (IsUnkept k u.message) past → is_marked k (mark_all (is_unkept_later s l.books.requests.askings) xs a.unkept) ≡ true
      go (inr w) = all_kept (is_unkept_later s l.books.requests.askings) k xs a.unkept (ka.so_unkept k (record { message = u.message; deferred = u.deferred; came = w }))
      go (inl d) =
          let d = subst (λ x. CameWithoutValidity c s k u.message x (newest (after row past)) (after row past)) (before_row row past) d in
          let z = so_unkept c None past (after row past) xs cs s k l.books.requests.askings kl.books.requests.askings refl u.message d in
          all_marked (is_unkept_later s l.books.requests.askings) k xs a.unkept (record { coming = z.0; there = z.1; is_request = z.2; passes = all (is_deferred s z.0.message) (is_unkept s l.books.requests.askings z.0) (ap (is_deferred s) z.3 ∙ u.deferred) z.4 })

  pub arrivals_row : Known c s (after row past) (after_row c s l t l' o xs a)
  arrivals_row = record {
    came_so = λ k e. came_row k (excused_in c l'.frames.brought l'.books.requests.clock l t l' o) refl e;
    so_came = λ k w. row_came k (excused_in c l'.frames.brought l'.books.requests.clock l t l' o) refl w;
    unkept_so = unkept_row;
    so_unkept = row_unkept;
  }

pub none_came : (c : Conf) (k : ℕ) → ByRow (OfRow (SomeCame c k)) [] → ⊥
none_came c k (inl d) = (let e : None ≡ Some d.message = first_none d.came.via d.came.id d.message d.came.matches.comes.first in cc)
  where
    first_none : (v : Via) (id : ℕ) (m : Octets) → first_of c v id [] ≡ Some m → Path (Option Octets) None (Some m)
    first_none Dgram id m e = e
    first_none Stream id m e = e
none_came c k (inr n) = n

pub none_unkept : (c : Conf) (s : Settings) (k : ℕ) (m : Octets) → ByRow (OfRow (CameWithoutValidity c s k m)) [] → ⊥
none_unkept c s k m (inl d) = none_came c k (inl (record { message = m; came = record { request = d.request; via = d.via; server = d.server; place = d.place; id = d.id; matches = d.matches }; counts = λ x. (let e = first_none d.via d.id d.matches.comes.first in absurd (cc)) }))
  where
    first_none : (v : Via) (id : ℕ) → first_of c v id [] ≡ Some m → Path (Option Octets) None (Some m)
    first_none Dgram id e = e
    first_none Stream id e = e
none_unkept c s k m (inr n) = n

pub goes_on : GoesOn
goes_on = record {
  begins = λ c s. record { came_so = λ k e. absurd (cc); so_came = λ k w. absurd (none_came c k w); unkept_so = λ k e. absurd (cc); so_unkept = λ k u. absurd (none_unkept c s k u.message u.came) };
  row = λ c s past row l l' t o xs a kl kl' kt ko cs ka. arrivals_row c s past row l l' t o xs a kl kl' kt ko cs ka;
}
