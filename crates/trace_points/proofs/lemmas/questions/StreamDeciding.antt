-- What is asked of what is written is what the definitions say.
use Rattle.std.proofs.Common.{◌≡◌, ℕ, suc, ◌==◌, ◌&&◌, Bool, true, false, not, length, Option, Some, None, List, [], ◌∷◌, refl, sym, ap, ◌∙◌, arith}
use Rattle.std.proofs.lemmas.Bool.Decides.{nat_tests}
use Rattle.std.specs.Prelude.{is_some}
use Rattle.number_table.specs.Entries.{entry_at}
use Rattle.client_request.specs.Request.{Request}
use Rattle.client_request.specs.declared.event.Via.TheVariants.{Stream}
use Rattle.right_trace.specs.Trace.{History, Conf}
use Rattle.right_trace.specs.Messages.{Octets, CarriesBy}
use Rattle.right_trace.specs.Requests.{Asking, asking}
use Rattle.right_trace.specs.{Places.site, Orderly.MayWrite}
use Rattle.right_trace.specs.Writes.{Written, waiting_with}
use Rattle.trace_tables.specs.declared.books.Books.{Books}
use Rattle.trace_tables.specs.Books as books
use Rattle.trace_tables.specs.Requests.{replied_seen, started_seen}
use Rattle.trace_tables.specs.declared.frames.ledger.Ledger.{Ledger}
use Rattle.trace_tables.specs.frames.Ledger as ledger
use Rattle.trace_tables.specs.frames.Waiting.{is_empty, waiting_seen, free_seen}
use Rattle.message_judging.proofs.lemmas.matching.Requests.{carries_so, so_carries}
use Rattle.trace_points.specs.questions.Outs.{alive_server, carried}
use Rattle.trace_points.specs.questions.Streams.{writes_to, write_seen, TellsWrite}
use Rattle.trace_points.proofs.lemmas.questions.Deciding.{both, all, not_true, server_there, there_server}

empty_is : (ws : List Written) → is_empty ws ≡ true → ws ≡ []
empty_is [] e = refl
empty_is (w ∷ ws) e = absurd (some (length ws) e)
  where
    some : (n : ℕ) → (suc n == 0) ≡ true → ⊥
    some n e = grind (arith, nat_tests)

module _ (c : Conf) (past h : History) (b : Books) (l : Ledger) (k p id : ℕ) (o : Octets) (kp : books.Known past b) (kh : ledger.Known h l) where
  asked_there : (a : Option Asking) → asking k h ≡ a → carried c Stream o id a ≡ true → (r : Request) × ((t : ℕ) × (asking k h ≡ Some (record { request = r; moment = t }))) × CarriesBy c Stream o r id
  asked_there None i e = absurd (cc)
  asked_there (Some a) i e = (a.request, (a.moment, i), carries_so c Stream o a.request id e)

  writes_so : (s : Option ℕ) → alive_server Stream (entry_at p l.books.places) ≡ s → writes_to c b l k p id o s ≡ true → MayWrite c k p id o past h
  writes_so None i e = absurd (cc)
  writes_so (Some s) i e =
      let x = both (not (replied_seen k b.requests)) _ e in
      let y = both (started_seen k s Stream l.books.requests) _ x.1 in
      let z = both (free_seen p id l.waiting) (carried c Stream o id (entry_at k l.books.requests.askings)) y.1 in
      let there = server_there Stream s (entry_at p l.books.places) i in
      let r = asked_there (asking k h) refl (ap (carried c Stream o id) (sym (kh.books.requests.askings k)) ∙ z.1) in
      record {
        waits = sym (kp.requests.replies k) ∙ not_true (replied_seen k b.requests) x.0;
        server = s;
        at = sym (kh.books.places.sites p) ∙ there.0;
        alive = sym (kh.books.places.stands p) ∙ there.1;
        begun = ap is_some (sym (kh.books.requests.starts k s Stream)) ∙ y.0;
        request = r.0;
        asked = r.1;
        carries = r.2;
        free = sym (kh.waiting.waits p id) ∙ empty_is (waiting_seen p id l.waiting) z.0;
      }

  so_writes : MayWrite c k p id o past h → write_seen c b l k p id o ≡ true
  so_writes m =
      let s = m.server in
      ap (writes_to c b l k p id o) (there_server Stream s (entry_at p l.books.places) (kh.books.places.sites p ∙ m.at) (kh.books.places.stands p ∙ m.alive))
      ∙ all (not (replied_seen k b.requests)) _ (ap not (kp.requests.replies k ∙ m.waits))
      (all (started_seen k s Stream l.books.requests) _ (ap is_some (kh.books.requests.starts k s Stream) ∙ m.begun)
      (all (free_seen p id l.waiting) (carried c Stream o id (entry_at k l.books.requests.askings)) (ap is_empty (kh.waiting.waits p id ∙ m.free))
      (ap (carried c Stream o id) (kh.books.requests.askings k ∙ m.asked.1) ∙ so_carries c Stream o m.request id m.carries)))

pub tells_write : (c : Conf) (past : Books) (here : Ledger) (k p id : ℕ) (o : Octets) (t : Bool) → t ≡ write_seen c past here k p id o → TellsWrite c past here k p id o t
tells_write c past here k p id o t e x h kx kh = ((λ u. writes_so c x h past here k p id o kx kh (alive_server Stream (entry_at p here.books.places)) refl (sym e ∙ u)), (λ m. e ∙ so_writes c x h past here k p id o kx kh m))
