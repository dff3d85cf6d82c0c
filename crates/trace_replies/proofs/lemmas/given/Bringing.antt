-- Whether a message came for a request is found among what came.
use Rattle.std.proofs.Common.{◌≡◌, ℕ, ◌==◌, ◌&&◌, ◌||◌, inl, inr, Bool, true, false, List, [], ◌∷◌, refl, sym, ap, ◌∙◌, subst}
use Rattle.std.specs.Prelude.{Some}
use Rattle.client_request.specs.declared.event.Via.{Via}
use Rattle.client_request.specs.declared.event.Via.TheVariants.{Dgram, Stream}
use Rattle.right_trace.specs.Trace.{History, Conf}
use Rattle.right_trace.specs.{Time.newest, Parts.IsIn, Coming.CameFor}
use Rattle.right_trace.specs.Messages.{Octets, answers, truncated}
use Rattle.right_trace.specs.Exchanges.{Comes, Matches, is_whole}
use Rattle.message_judging.specs.matching.Shapes.{same_octets}
use Rattle.message_judging.proofs.lemmas.matching.Names.{both, all, same_number, number_same, octets_same, same_octets_are}
use Rattle.trace_tables.specs.declared.books.Books.{Books}
use Rattle.trace_tables.specs.declared.frames.ledger.Ledger.{Ledger}
use Rattle.trace_points.specs.declared.exchanges.coming.Coming.{Coming}
use Rattle.trace_points.specs.exchanges.Open.{Open}
use Rattle.trace_points.specs.exchanges.Coming.{IsComing, AllComing, TellsComing}
use Rattle.trace_errors.specs.promptness.Prompt.{is_uncut, matches}
use Rattle.trace_replies.specs.given.Coming.{brings, some_brings, TellsCame}

uncut_is : (v : Via) (m : Octets) → is_uncut v m ≡ is_whole v m
unfolding truncated
uncut_is Dgram m = refl
uncut_is Stream m = refl

some_so : (k : ℕ) (m : Octets) (xs : List Coming) → some_brings k m xs ≡ true → (z : Coming) × IsIn z xs × (brings k m z ≡ true)
some_so k m [] e = absurd (cc)
some_so k m (x ∷ xs) e = go (brings k m x) refl e (some_so k m xs)
  where
    go : (b : Bool) → brings k m x ≡ b → (b || some_brings k m xs) ≡ true → (some_brings k m xs ≡ true → (z : Coming) × IsIn z xs × (brings k m z ≡ true)) → (z : Coming) × IsIn z (x ∷ xs) × (brings k m z ≡ true)
    go true i e rest = (x, inl refl, i)
    go false i e rest = let r = rest e in (r.0, inr r.1, r.2)

so_some : (k : ℕ) (m : Octets) (z : Coming) (xs : List Coming) → IsIn z xs → brings k m z ≡ true → some_brings k m xs ≡ true
so_some k m z [] i e = absurd i
so_some k m z (x ∷ xs) (inl q) e = ap (λ b. b || some_brings k m xs) (ap (brings k m) q ∙ e)
so_some k m z (x ∷ xs) (inr i) e = go (brings k m x) (so_some k m z xs i e)
  where
    go : (b : Bool) → some_brings k m xs ≡ true → (b || some_brings k m xs) ≡ true
    go true e = refl
    go false e = e

-- what comes and is one of these
came_so : (c : Conf) (k : ℕ) (m : Octets) (past h : History) (z : Coming) → IsComing c past h z → brings k m z ≡ true → CameFor c k m past (newest h) h
came_so c k m past h z is e =
    let p = both (z.request == k) _ e in
    let q = both (matches z) (same_octets z.message m) p.1 in
    let r = both z.agrees (is_uncut z.via z.message) q.0 in
    let comes = subst (λ j. Comes c is.asked_as z.via z.server z.place j z.id z.message past (newest h) h) (number_same z.request k p.0) is.comes in
    let matching : Matches c is.asked_as z.via z.server z.place k z.id z.message past (newest h) h = record { comes = comes; agrees = sym is.agreeing ∙ r.0; whole = sym (uncut_is z.via z.message) ∙ r.1 } in
    record {
      request = is.asked_as;
      via = z.via;
      server = z.server;
      place = z.place;
      id = z.id;
      matches = subst (λ m. Matches c is.asked_as z.via z.server z.place k z.id m past (newest h) h) (octets_same z.message m q.1) matching;
    }

so_came : (c : Conf) (k : ℕ) (m : Octets) (past h : History) (xs : List Coming) → AllComing c (Some k) past h xs → CameFor c k m past (newest h) h → some_brings k m xs ≡ true
so_came c k m past h xs cs f =
    let i = cs.back f.request f.via f.server f.place k f.id m (same_number k k refl) f.matches.comes in
    so_some k m (record { request = k; via = f.via; server = f.server; place = f.place; id = f.id; message = m; agrees = answers f.request f.id m }) xs i
    (all (k == k) _ (same_number k k refl)
    (all (answers f.request f.id m && is_uncut f.via m) (same_octets m m) (all (answers f.request f.id m) (is_uncut f.via m) f.matches.agrees (uncut_is f.via m ∙ f.matches.whole)) (same_octets_are m m refl)))

pub tells_came : (c : Conf) (k : ℕ) (m : Octets) (past : Books) (sent : Open) (here : Ledger) (xs : List Coming) (b : Bool) → TellsComing c (Some k) past sent here xs → b ≡ some_brings k m xs → TellsCame c k m past sent here b
tells_came c k m past sent here xs b cs e x h before kp ks kh =
    let a = cs x h before kp ks kh in
    ((λ u. (let s = some_so k m xs (sym e ∙ u) in came_so c k m x h s.0 (a.so s.0 s.1) s.2)), (λ f. e ∙ so_came c k m x h xs a f))
