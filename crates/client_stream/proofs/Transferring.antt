-- Of the messages that come a transfer gets what those with its id give.
use Rattle.std.proofs.Common.{◌≡◌, ℕ, ◌+◌, Bool, true, false, Option, Some, None, List, [], ◌∷◌, ◌++◌, Ok, length, map, refl, sym, ◌∙◌, ap, subst, arith, append_assoc}
use Rattle.std.specs.Prelude.{if◌then◌else◌, ◌==◌, ◌&&◌, IfSome, option_and_then}
use Rattle.std.proofs.lemmas.Bool.Decides.{nat_tests}
use Rattle.client_request.specs.Board.{Part, posted}
use Rattle.client_request.specs.Numbered.{frees, entry_at}
use Rattle.client_request.specs.Requests.{Requests}
use Rattle.client_request.specs.Timers.{can_draw, with_timer}
use Rattle.client_request.specs.View.{View, sets_timer, answers, asks}
use Rattle.client_request.specs.declared.board.Posted.{Posted}
use Rattle.client_request.specs.declared.error.Error.{Error}
use Rattle.client_request.specs.declared.error.Error.TheVariants as errors
use Rattle.client_request.specs.declared.event.Out.TheVariants.{Close}
use Rattle.client_transfer.specs.States.{Checked, checked}
use Rattle.client_transfer.specs.Transfers as fold
use Rattle.client_transfer.specs.Transfers.{Transfer, part_given, begun, transferred, brings}
use Rattle.client_transfer.specs.declared.state.XfrState.{XfrState}
use Rattle.client_stream.specs.IdTable.{inserted_at, removed}
use Rattle.client_stream.specs.Plain as plain
use Rattle.client_stream.specs.Plain.{Line, After, message_id}
use Rattle.client_stream.specs.Transfers.{parts_for, with_id, is_under, all_come, TransferLaw}
use Rattle.client_stream.specs.declared.request.Holder.{Holder}
use Rattle.client_stream.specs.declared.request.Holder.TheVariants.{Waits, Transfers, GivenUp}
use Rattle.client_stream.specs.declared.request.QueuedRequest.{QueuedRequest}
use Rattle.client_stream.specs.declared.line.LineStage.{LineStage}
use Rattle.client_stream.specs.declared.line.LineStage.TheVariants as stage
use Rattle.client_stream.proofs.HeldIds.{IsTable, put_entry, freed_entry, freed_same, table_new, table_removed, table_over}

-- A part that is put stands behind those of its ticket, and is none of another.
part_put : (ticket own : ℕ) (part : Part) (ps : List Posted) → parts_for ticket (posted own part ps) ≡ parts_for ticket ps ++ (if own == ticket then part ∷ [] else [])
part_put ticket own part [] = go (own == ticket)
  where
    go : (b : Bool) → (if b then part ∷ [] else []) ≡ [] ++ (if b then part ∷ [] else [])
    go true = refl
    go false = refl
part_put ticket own part (p ∷ ps) = go (p.ticket == ticket) (part_put ticket own part ps)
  where
    go : (b : Bool) → parts_for ticket (posted own part ps) ≡ parts_for ticket ps ++ (if own == ticket then part ∷ [] else [])
        → (if b then p.part ∷ parts_for ticket (posted own part ps) else parts_for ticket (posted own part ps)) ≡ (if b then p.part ∷ parts_for ticket ps else parts_for ticket ps) ++ (if own == ticket then part ∷ [] else [])
    go true ih = ap (λ xs. p.part ∷ xs) ih
    go false ih = ih

put_own : (ticket : ℕ) (part : Part) (ps : List Posted) → parts_for ticket (posted ticket part ps) ≡ parts_for ticket ps ++ part ∷ []
put_own ticket part ps =
    let same : (ticket == ticket) ≡ true = grind (arith, nat_tests) in
    part_put ticket ticket part ps ∙ ap (λ b. parts_for ticket ps ++ (if b then part ∷ [] else [])) same

append_none : {A : Type 0} (xs : List A) → xs ++ [] ≡ xs
append_none [] = refl
append_none (x ∷ xs) = ap (λ ys. x ∷ ys) (append_none xs)

put_other : (ticket own : ℕ) (part : Part) (ps : List Posted) → (own == ticket) ≡ false → parts_for ticket (posted own part ps) ≡ parts_for ticket ps
put_other ticket own part ps h = part_put ticket own part ps ∙ ap (λ b. parts_for ticket ps ++ (if b then part ∷ [] else [])) h ∙ append_none (parts_for ticket ps)

-- The board is not changed by timers and outs.
set_board : (due : ℕ) (u w : View) → sets_timer due u ≡ Some w → w.board ≡ u.board
set_board due u w e = go (can_draw u.timers.next) refl
  where
    go : (b : Bool) → can_draw u.timers.next ≡ b → w.board ≡ u.board
    go true h = let x : sets_timer due u ≡ Some (record u { timers = with_timer due u.timers }) = rw h refl in let is : w ≡ record u { timers = with_timer due u.timers } = cc in ap (λ w. w.board) is
    go false h = absurd (let x : sets_timer due u ≡ None = rw h refl in cc)

stop_board : (at : LineStage) (v : View) → (plain.drops_own_timer at v).board ≡ v.board
stop_board stage.New v = refl
stop_board (stage.Active timer since) v = refl
stop_board (stage.Idle timer) v = refl
stop_board stage.Ended v = refl

none_of : {A : Type 0} (xs : List A) → (length xs == 0) ≡ true → xs ≡ []
none_of [] h = refl
none_of (x ∷ xs) h = absurd (let l : length (x ∷ xs) ≡ 0 = grind (arith, nat_tests) in omega arith)

and_both : (a b : Bool) → (a && b) ≡ true → (a ≡ true) × (b ≡ true)
and_both true true h = (refl, refl)
and_both true false h = absurd (cc)
and_both false b h = absurd (cc)

module _ {R M : Type 0} where
  fails_none : (error : Error) (queue : List (ℕ × QueuedRequest R M)) (held : List (ℕ × Holder R M)) (board : List Posted) → queue ≡ [] → held ≡ [] → plain.fails_queued queue (plain.fails_holders error (map (λ entry. entry.1) held) board) ≡ board
  fails_none error queue held board q h = rw (q, h) refl

module _ {R M : Type 0} (one : Requests R) (several : Requests M) (ticket : ℕ) (request : M) (base : List Part) where
  abbrev held_by : Transfer → Option (Holder R M)
  held_by t = if t.ended then None else Some (Transfers ticket request t.state)

  -- What is held, and what stands for the ticket, tells what became of the transfer by now.
  record Tells (id : ℕ) (t : Transfer) (s : Line R M) (v : View) : Type 0 where
    table : IsTable s.held
    own : entry_at id s.held.held ≡ held_by t
    alone : (k : ℕ) → (k == id) ≡ false → is_under ticket (entry_at k s.held.held) ≡ false
    parts : parts_for ticket v.board ≡ base ++ t.parts

  abbrev TellsAll : ℕ → Transfer → After R M → Type 0
  TellsAll id t after = IfSome after (λ x. Tells id t x.0 x.1)

  -- a step that changes neither who holds ids nor the board
  still : (id : ℕ) (t : Transfer) (s : Line R M) (v : View) (s' : Line R M) (v' : View) → s'.held ≡ s.held → v'.board ≡ v.board → Tells id t s v → Tells id t s' v'
  still id t s v s' v' h b k = record {
    table = subst (λ t. IsTable t) (sym h) k.table;
    own = ap (λ t. entry_at id t.held) h ∙ k.own;
    alone = λ j f. ap (λ t. is_under ticket (entry_at j t.held)) h ∙ k.alone j f;
    parts = ap (parts_for ticket) b ∙ k.parts;
  }

  timed : (id : ℕ) (t : Transfer) (to : LineStage) (s : Line R M) (v : View) (o : Option View) → ((w : View) → o ≡ Some w → w.board ≡ v.board) → Tells id t s v → TellsAll id t (option_and_then (λ w. Some (record s { stage = to }, w)) o)
  timed id t to s v None h k = tt
  timed id t to s v (Some w) h k = still id t s v (record s { stage = to }) w refl (h w refl) k

  becomes : (id : ℕ) (t : Transfer) (to : ℕ → LineStage) (due : ℕ) (s : Line R M) (v : View) → Tells id t s v → TellsAll id t (plain.becomes to due s v)
  becomes id t to due s v k = timed id t (to v.timers.next) s v (sets_timer due (plain.drops_own_timer s.stage v)) (λ w e. set_board due (plain.drops_own_timer s.stage v) w e ∙ stop_board s.stage v) k

  ends : (id place : ℕ) (t : Transfer) (error : Error) (s : Line R M) (v : View) → s.queue ≡ [] → s.held.held ≡ [] → Tells id t s v → TellsAll id t (plain.ends place error s v)
  ends id place t error s v q h k = record {
    table = table_new;
    own = ap (λ es. entry_at id es) (sym h) ∙ k.own;
    alone = λ j f. refl;
    parts = ap (parts_for ticket) (fails_none error s.queue s.held.held _ q h ∙ stop_board s.stage (asks (Close place) v)) ∙ k.parts;
  }

  settles : (id place : ℕ) (t : Transfer) (s : Line R M) (v : View) → Tells id t s v → TellsAll id t (plain.becomes_idle_if_unused place s v)
  settles id place t s v k = go (plain.has_nothing s) refl (s.idle_time == 0)
    where
      go : (b : Bool) → plain.has_nothing s ≡ b → (c : Bool) → TellsAll id t (if b then (if c then plain.ends place errors.StreamReceiveError s v else plain.becomes_idle s v) else Some (s, v))
      go true e true =
          let both = and_both (length s.held.held == 0) (length s.queue == 0) e in
          ends id place t errors.StreamReceiveError s v (none_of s.queue both.1) (none_of s.held.held both.0) k
      go true e false = becomes id t stage.Idle (v.now + s.idle_time) s v k
      go false e c = k

  -- the transfer's own id
  own_goes_on : (message : List ℕ) (t : Transfer) (s : Line R M) (v : View) → entry_at (message_id message) s.held.held ≡ Some (Transfers ticket request t.state) → Tells (message_id message) t s v → (c : Checked)
      → let x = plain.ends_or_holds_again message ticket request c.1 (record s { held = removed (message_id message) s.held }) (answers ticket (part_given message c.2) v) c.0 in Tells (message_id message) (fold.goes_on t message c) x.0 x.1
  own_goes_on message t s v e k (true, next, taken) = record {
    table = table_removed (message_id message) s.held k.table;
    own = freed_same (message_id message) s.held k.table;
    alone = λ j f. ap (is_under ticket) (freed_entry j (message_id message) s.held.held f) ∙ k.alone j f;
    parts =
        put_own ticket (Ok None) (posted ticket (part_given message taken) v.board)
        ∙ ap (λ xs. xs ++ Ok None ∷ []) (put_own ticket (part_given message taken) v.board ∙ ap (λ xs. xs ++ part_given message taken ∷ []) k.parts)
        ∙ append_assoc (base ++ t.parts) (part_given message taken ∷ []) (Ok None ∷ [])
        ∙ append_assoc base t.parts (part_given message taken ∷ Ok None ∷ []);
  }
  own_goes_on message t s v e k (false, next, taken) = record {
    table = table_over (message_id message) (Transfers ticket request next) (Transfers ticket request t.state) s.held k.table e;
    own = (let same : (message_id message == message_id message) ≡ true = grind (arith, nat_tests) in
        put_entry (message_id message) (message_id message) (Transfers ticket request next) (frees (message_id message) s.held.held)
        ∙ ap (λ b. if b then Some (Transfers ticket request next) else entry_at (message_id message) (frees (message_id message) s.held.held)) same);
    alone = λ j f.
        ap (is_under ticket) (put_entry j (message_id message) (Transfers ticket request next) (frees (message_id message) s.held.held)
        ∙ ap (λ b. if b then Some (Transfers ticket request next) else entry_at j (frees (message_id message) s.held.held)) f
        ∙ freed_entry j (message_id message) s.held.held f)
        ∙ k.alone j f;
    parts =
        put_own ticket (part_given message taken) v.board ∙ ap (λ xs. xs ++ part_given message taken ∷ []) k.parts
        ∙ append_assoc base t.parts (part_given message taken ∷ []);
  }

  -- Another id is freed, and nothing is put for the ticket.
  other_freed : (id m : ℕ) (t : Transfer) (s : Line R M) (v : View) (s' : Line R M) (v' : View) → (m == id) ≡ false → s'.held ≡ removed m s.held → parts_for ticket v'.board ≡ parts_for ticket v.board → Tells id t s v → Tells id t s' v'
  other_freed id m t s v s' v' n h p k = record {
    table = subst (λ t. IsTable t) (sym h) (table_removed m s.held k.table);
    own = ap (λ t. entry_at id t.held) h ∙ freed_entry id m s.held.held (grind (arith, nat_tests)) ∙ k.own;
    alone = λ j f. ap (λ t. is_under ticket (entry_at j t.held)) h ∙ go j f (j == m) refl;
    parts = p ∙ k.parts;
  }
    where
      go : (j : ℕ) → (j == id) ≡ false → (b : Bool) → (j == m) ≡ b → is_under ticket (entry_at j (frees m s.held.held)) ≡ false
      go j f true e =
          let same : j ≡ m = grind (arith, nat_tests) in
          ap (λ i. is_under ticket (entry_at i (frees m s.held.held))) same ∙ ap (is_under ticket) (freed_same m s.held k.table)
      go j f false e = ap (is_under ticket) (freed_entry j m s.held.held e) ∙ k.alone j f

  -- Another id is held on.
  other_over : (id m : ℕ) (t : Transfer) (s : Line R M) (v : View) (s' : Line R M) (v' : View) (x y : Holder R M) → (m == id) ≡ false → entry_at m s.held.held ≡ Some y → is_under ticket (Some x) ≡ false
      → s'.held ≡ inserted_at m x (removed m s.held) → parts_for ticket v'.board ≡ parts_for ticket v.board → Tells id t s v → Tells id t s' v'
  other_over id m t s v s' v' x y n e u h p k = record {
    table = subst (λ t. IsTable t) (sym h) (table_over m x y s.held k.table e);
    own = ap (λ t. entry_at id t.held) h ∙ put_entry id m x (frees m s.held.held)
        ∙ ap (λ b. if b then Some x else entry_at id (frees m s.held.held)) apart ∙ freed_entry id m s.held.held apart ∙ k.own;
    alone = λ j f. ap (λ t. is_under ticket (entry_at j t.held)) h ∙ ap (is_under ticket) (put_entry j m x (frees m s.held.held)) ∙ go j f (j == m) refl;
    parts = p ∙ k.parts;
  }
    where
      apart : (id == m) ≡ false
      apart = grind (arith, nat_tests)

      go : (j : ℕ) → (j == id) ≡ false → (b : Bool) → (j == m) ≡ b → is_under ticket (if b then Some x else entry_at j (frees m s.held.held)) ≡ false
      go j f true g = u
      go j f false g = ap (is_under ticket) (freed_entry j m s.held.held g) ∙ k.alone j f

  other_goes_on : (id : ℕ) (message : List ℕ) (own : ℕ) (theirs : M) (next : XfrState) (taken : Bool) (t : Transfer) (s : Line R M) (v : View) (y : Holder R M) → (message_id message == id) ≡ false
      → entry_at (message_id message) s.held.held ≡ Some y → (own == ticket) ≡ false → Tells id t s v → (b : Bool)
      → let x = plain.ends_or_holds_again message own theirs next (record s { held = removed (message_id message) s.held }) (answers own (part_given message taken) v) b in Tells id t x.0 x.1
  other_goes_on id message own theirs next taken t s v y n e u k true =
      other_freed id (message_id message) t s v _ _ n refl (put_other ticket own (Ok None) (posted own (part_given message taken) v.board) u ∙ put_other ticket own (part_given message taken) v.board u) k
  other_goes_on id message own theirs next taken t s v y n e u k false =
      other_over id (message_id message) t s v _ _ (Transfers own theirs next) y n e u refl (put_other ticket own (part_given message taken) v.board u) k

  other_given : (id : ℕ) (message : List ℕ) (t : Transfer) (s : Line R M) (v : View) (holder : Holder R M) → (message_id message == id) ≡ false → entry_at (message_id message) s.held.held ≡ Some holder
      → is_under ticket (Some holder) ≡ false → Tells id t s v
      → let x = plain.delivers one several message (record s { held = removed (message_id message) s.held }) v holder in Tells id t x.0 x.1
  other_given id message t s v GivenUp n e u k = other_freed id (message_id message) t s v _ _ n refl refl k
  other_given id message t s v (Waits own theirs) n e u k = other_freed id (message_id message) t s v _ _ n refl (put_other ticket own _ v.board u) k
  other_given id message t s v (Transfers own theirs state) n e u k =
      let c = checked several theirs state message in other_goes_on id message own theirs c.1 c.2 t s v (Transfers own theirs state) n e u k c.0

  other_comes : (id place : ℕ) (message : List ℕ) (t : Transfer) (s : Line R M) (v : View) → (message_id message == id) ≡ false → Tells id t s v → (o : Option (Holder R M)) → entry_at (message_id message) s.held.held ≡ o
      → TellsAll id t (plain.frees_id one several place message s v o)
  other_comes id place message t s v n k None e = k
  other_comes id place message t s v n k (Some holder) e =
      let x = plain.delivers one several message (record s { held = removed (message_id message) s.held }) v holder in
      settles id place t x.0 x.1 (other_given id message t s v holder n e (ap (is_under ticket) (sym e) ∙ k.alone (message_id message) n) k)

  own_comes : (place : ℕ) (message : List ℕ) (t : Transfer) (s : Line R M) (v : View) → Tells (message_id message) t s v → (b : Bool) → t.ended ≡ b
      → TellsAll (message_id message) (if b then t else fold.goes_on t message (checked several request t.state message)) (plain.frees_id one several place message s v (if b then None else Some (Transfers ticket request t.state)))
  own_comes place message t s v k true e = k
  own_comes place message t s v k false e =
      let c = checked several request t.state message in
      let x = plain.delivers one several message (record s { held = removed (message_id message) s.held }) v (Transfers ticket request t.state) in
      let held : entry_at (message_id message) s.held.held ≡ Some (Transfers ticket request t.state) = k.own ∙ ap (λ b. if b then None else Some (Transfers ticket request t.state)) e in
      settles (message_id message) place (fold.goes_on t message c) x.0 x.1 (own_goes_on message t s v held k c)

  released : (id place : ℕ) (message : List ℕ) (t : Transfer) (s : Line R M) (v : View) → Tells id t s v → (b : Bool) → (message_id message == id) ≡ b
      → TellsAll id (if b then brings several request t message else t) (plain.releases one several place message s v)
  released id place message t s v k false n = other_comes id place message t s v n k (entry_at (message_id message) s.held.held) refl
  released id place message t s v k true n =
      let same : message_id message ≡ id = grind (arith, nat_tests) in
      subst (λ i. Tells i t s v → TellsAll i (brings several request t message) (plain.releases one several place message s v)) same
      (λ k. subst (λ o. TellsAll (message_id message) (brings several request t message) (plain.frees_id one several place message s v o)) (sym k.own) (own_comes place message t s v k t.ended refl)) k

  timed_then : (id place : ℕ) (message : List ℕ) (to : LineStage) (t : Transfer) (s : Line R M) (v : View) (o : Option View) → ((w : View) → o ≡ Some w → w.board ≡ v.board) → Tells id t s v
      → TellsAll id (if message_id message == id then brings several request t message else t)
      (option_and_then (λ (x : Line R M × View). plain.releases one several place message x.0 x.1) (option_and_then (λ w. Some (record s { stage = to }, w)) o))
  timed_then id place message to t s v None h k = tt
  timed_then id place message to t s v (Some w) h k = released id place message t (record s { stage = to }) w (still id t s v (record s { stage = to }) w refl (h w refl) k) (message_id message == id) refl

  comes : (id place : ℕ) (message : List ℕ) (t : Transfer) (s : Line R M) (v : View) → Tells id t s v → TellsAll id (if message_id message == id then brings several request t message else t) (plain.message_comes one several place message s v)
  comes id place message t s v k =
      timed_then id place message (stage.Active v.timers.next v.now) t (record s { idle_time = _ }) v (sets_timer (v.now + s.timeout + 1) (plain.drops_own_timer s.stage v))
      (λ w e. set_board (v.now + s.timeout + 1) (plain.drops_own_timer s.stage v) w e ∙ stop_board s.stage v) (still id t s v (record s { idle_time = _ }) v refl refl k)

  abbrev Gets : ℕ → List (List ℕ) → Transfer → After R M → Type 0
  Gets id messages t after = IfSome after (λ x. parts_for ticket x.1.board ≡ base ++ (transferred several request t (with_id id messages)).parts)

  all : (id place : ℕ) (messages : List (List ℕ)) (t : Transfer) (s : Line R M) (v : View) → Tells id t s v → Gets id messages t (all_come one several place messages s v)
  all id place [] t s v k = k.parts
  all id place (message ∷ messages) t s v k = go (message_id message == id) (plain.message_comes one several place message s v) (comes id place message t s v k) (λ t s v k. all id place messages t s v k)
    where
      go : (b : Bool) (after : After R M) → TellsAll id (if b then brings several request t message else t) after → ((t : Transfer) (s : Line R M) (v : View) → Tells id t s v → Gets id messages t (all_come one several place messages s v))
          → IfSome (option_and_then (λ x. all_come one several place messages x.0 x.1) after) (λ x. parts_for ticket x.1.board ≡ base ++ (transferred several request t (if b then message ∷ with_id id messages else with_id id messages)).parts)
      go b None k ih = tt
      go true (Some x) k ih = ih (brings several request t message) x.0 x.1 k
      go false (Some x) k ih = ih t x.0 x.1 k

pub transfer_law : {R M : Type 0} (one : Requests R) (several : Requests M) → TransferLaw one several
transfer_law one several place id ticket request state messages s v u =
    all one several ticket request (parts_for ticket v.board) id place messages (begun state) s v record {
      table = record { slots = u.slots; is = (let h = u.held in let m = u.mark in rw (h, m) refl) };
      own = u.own;
      alone = u.alone;
      parts = sym (append_none (parts_for ticket v.board));
    }
