-- What the datagrams posted is given, where no answer was cut.
use Rattle.std.proofs.Common.{◌≡◌, ℕ, false, List, [], ◌∷◌, ◌++◌, Option, Some, None, refl, sym, ap, subst, ◌∙◌, append-nil, append_assoc}
use Rattle.std.specs.Prelude.{option_and_then, option_map}
use mathlib.Core.Path.{fun_ext}
use Rattle.client_request.specs.Numbered.{frees}
use Rattle.client_request.specs.Request.{Request}
use Rattle.client_request.specs.View.{View, Transport, answers}
use Rattle.client_request.specs.declared.board.Posted.{Posted}
use Rattle.client_dgram.specs.Plain as dgram
use Rattle.client_stream.specs.Plain as stream
use Rattle.client_multi.specs.Fallback.{Tables, Parts, is_truncated, onto, with_tables, without_at, waiting_at, settles_at, settles_whole, settles, settles_all}
use Rattle.proof_right.specs.machine.Part.{Post}
use Rattle.right_trace.specs.Updates.{with_at}
use Rattle.proof_right.specs.machine.Dgrams.{Dgrams}
use Rattle.proof_parts.specs.Chains.{part_of, Gives}
use Rattle.proof_dgram.specs.Waiting.{AreWaiting, number_in, numbers_of, ticket_at}
use Rattle.proof_dgram.proofs.Admitting.{less_waiting, less_numbers}
use Rattle.proof_dgram.proofs.Handing.{gives_as}

-- no result is an answer that was cut
abbrev pub AllWhole : List Post → Type 0
AllWhole [] = Unit {0}
AllWhole (x ∷ xs) = (is_truncated (part_of x.result) ≡ false) × AllWhole xs

module _ (server : ℕ) {S : Type 0} (t : Transport Request S stream.Asked) where
  abbrev pub Two : Type 0
  Two = Parts Request (dgram.Dgram Request) S dgram.Asked stream.Asked

  -- What was posted is on the board, and who had a result waits no more.
  pub record AreSettled (d : Dgrams) (by_stream left : ℕ → Option ℕ) (ticket : ℕ) (posts : List Posted) (p : Two) (board : List Posted) (v : View) (xs : List Post) : Type 0 where
    pub tables : Tables Request dgram.Asked stream.Asked
    pub posted : List Posted
    pub is : settles_all server t posts p board v ≡ Some ((with_tables tables p, board), onto (v.board ++ posted) v)
    pub gives : Gives (numbers_of p.tables by_stream) posted xs (numbers_of tables by_stream)
    pub waiting : AreWaiting ticket_at tables d left by_stream ticket

  module _ (d : Dgrams) (by_stream left : ℕ → Option ℕ) (ticket : ℕ) (board : List Posted) where
    pub settled_so : (posts : List Posted) (xs : List Post) (p : Two) (v : View) (by_dgram : ℕ → Option ℕ) → AreWaiting ticket_at p.tables d by_dgram by_stream ticket → Gives by_dgram posts xs left → AllWhole xs → AreSettled d by_stream left ticket posts p board v xs
    settled_so [] [] p v by_dgram f g whole = record {
      tables = p.tables;
      posted = [];
      is = ap (λ b. Some ((p, board), onto b v)) (sym (append-nil v.board));
      gives = λ i. refl;
      waiting = subst (λ names. AreWaiting ticket_at p.tables d names by_stream ticket) (fun_ext (λ i. sym (g i))) f;
    }
    settled_so [] (x ∷ xs) p v by_dgram f g whole = absurd g
    settled_so (q ∷ qs) [] p v by_dgram f g whole = absurd g
    settled_so (q ∷ qs) (x ∷ xs) p v by_dgram f g whole =
        let h = f.dgrams q.ticket x.request g.0 in
        let u = h.0 in
        let r = h.1 in
        let z = h.2 in
        let fewer : Tables Request dgram.Asked stream.Asked = record { jobs = frees u p.tables.jobs; tickets = frees q.ticket p.tables.tickets } in
        let first : Posted = record { ticket = u; part = q.part; is_stale = false } in
        let one : settles server t q p board v ≡ Some ((with_tables fewer p, board), answers u q.part v) =
        ap (λ o. settles_at server t q.part (with_tables (without_at o (record p.tables { tickets = frees q.ticket p.tables.tickets })) p) board v (waiting_at p.tables o)) (f.below u _ h.3)
        ∙ (ap (λ o. settles_at server t q.part (with_tables fewer p) board v (option_map (λ job. (u, job)) o)) h.3
        ∙ ap (λ b. settles_whole server t u x.request r q.part (with_tables fewer p) board v b) (ap is_truncated g.1 ∙ whole.0)) in
        let rest = settled_so qs xs (with_tables fewer p) (answers u q.part v) (with_at q.ticket None by_dgram) (less_waiting p.tables d by_dgram by_stream ticket f u q.ticket x.request r z h.3) g.2 whole.1 in
        record {
          tables = rest.tables;
          posted = first ∷ rest.posted;
          is = ap (option_and_then (λ y. settles_all server t qs y.0.0 y.0.1 y.1)) one ∙ (rest.is ∙ ap (λ b. Some ((with_tables rest.tables p, board), onto b v)) (append_assoc v.board (first ∷ []) rest.posted));
          gives = (ap (λ o. option_and_then (number_in by_stream) o) h.3, g.1, gives_as (numbers_of fewer by_stream) (with_at u None (numbers_of p.tables by_stream)) (numbers_of rest.tables by_stream) rest.posted xs (less_numbers p.tables d by_dgram by_stream ticket f u q.ticket x.request r z h.3) rest.gives);
          waiting = rest.waiting;
        }
