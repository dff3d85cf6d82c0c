-- Frames are taken alike wherever their octets are cut.
use Rattle.std.proofs.Common.{◌≡◌, ℕ, zero, suc, ◌+◌, ◌≤◌, Bool, true, false, Option, Some, None, List, [], ◌++◌, length, refl, sym, ◌∙◌, ap, subst, arith, length-append, length-drop, append_assoc}
use Rattle.std.specs.Prelude.{if◌then◌else◌, ◌==◌, option_and_then, IfSome, nat_le}
use Rattle.std.proofs.lemmas.Bool.Decides.{nat_tests}
use Rattle.client_request.specs.Numbered.{entry_at}
use Rattle.client_request.specs.Requests.{Requests}
use Rattle.client_request.specs.Timers.{can_draw, with_timer}
use Rattle.client_request.specs.View.{View, told, sets_timer, asks, answers}
use Rattle.client_request.specs.declared.error.Error.{Error}
use Rattle.client_request.specs.declared.error.Error.TheVariants as errors
use Rattle.client_request.specs.declared.event.What.TheVariants.{Bytes}
use Rattle.client_transfer.specs.States.{checked}
use Rattle.client_transfer.specs.Transfers.{part_given}
use Rattle.client_transfer.specs.declared.state.XfrState.{XfrState}
use Rattle.client_stream.specs.Cutting.{takes_more, brings, CuttingLaw}
use Rattle.client_stream.specs.Frames.{body_size, has_frame}
use Rattle.client_stream.specs.IdTable.{removed}
use Rattle.client_stream.specs.Plain as plain
use Rattle.client_stream.specs.Plain.{Line, Stream, After, AfterAll, has_ended, message_id, octets_left}
use Rattle.client_stream.specs.declared.request.Holder.{Holder}
use Rattle.client_stream.specs.declared.request.Holder.TheVariants.{Waits, Transfers, GivenUp}
use Rattle.client_stream.specs.declared.line.LineStage.{LineStage}
use Rattle.client_stream.specs.declared.line.LineStage.TheVariants as stage
use Rattle.client_stream.proofs.Frames.{body, behind, whole, still_whole, same_body, same_behind}

same_place : (n : ℕ) → (n == n) ≡ true
same_place n = grind (arith, nat_tests)

-- What is said of frames is not changed by taking one.
set_more : (due : ℕ) (u w : View) → sets_timer due u ≡ Some w → w.more ≡ u.more
set_more due u w e = go (can_draw u.timers.next) refl
  where
    go : (b : Bool) → can_draw u.timers.next ≡ b → w.more ≡ u.more
    go true h = let x : sets_timer due u ≡ Some (record u { timers = with_timer due u.timers }) = rw h refl in let is : w ≡ record u { timers = with_timer due u.timers } = cc in ap (λ w. w.more) is
    go false h = absurd (let x : sets_timer due u ≡ None = rw h refl in cc)

stop_more : (at : LineStage) (v : View) → (plain.drops_own_timer at v).more ≡ v.more
stop_more stage.New v = refl
stop_more (stage.Active timer since) v = refl
stop_more (stage.Idle timer) v = refl
stop_more stage.Ended v = refl

module _ {R M : Type 0} where
  abbrev SaysSame : Bool → After R M → Type 0
  SaysSame m after = IfSome after (λ x. x.1.more ≡ m)

  timed : (to : LineStage) (s : Line R M) (m : Bool) (o : Option View) → ((w : View) → o ≡ Some w → w.more ≡ m) → SaysSame m (option_and_then (λ w. Some (record s { stage = to }, w)) o)
  timed to s m None h = tt
  timed to s m (Some w) h = h w refl

  becomes : (to : ℕ → LineStage) (due : ℕ) (s : Line R M) (v : View) → SaysSame v.more (plain.becomes to due s v)
  becomes to due s v = timed (to v.timers.next) s v.more (sets_timer due (plain.drops_own_timer s.stage v)) (λ w e. set_more due (plain.drops_own_timer s.stage v) w e ∙ stop_more s.stage v)

  ends : (place : ℕ) (error : Error) (s : Line R M) (v : View) → SaysSame v.more (plain.ends place error s v)
  ends place error s v = stop_more s.stage (asks _ v)

  settles : (place : ℕ) (s : Line R M) (v : View) → SaysSame v.more (plain.becomes_idle_if_unused place s v)
  settles place s v = go (plain.has_nothing s) (s.idle_time == 0)
    where
      go : (b c : Bool) → SaysSame v.more (if b then (if c then plain.ends place errors.StreamReceiveError s v else plain.becomes_idle s v) else Some (s, v))
      go true true = ends place errors.StreamReceiveError s v
      go true false = becomes stage.Idle (v.now + s.idle_time) s v
      go false c = refl

module _ {R M : Type 0} (one : Requests R) (several : Requests M) (place : ℕ) where
  goes_on : (message : List ℕ) (ticket : ℕ) (request : M) (state : XfrState) (s : Line R M) (v : View) (ends : Bool) → (plain.ends_or_holds_again message ticket request state s v ends).1.more ≡ v.more
  goes_on message ticket request state s v true = refl
  goes_on message ticket request state s v false = refl

  given : (message : List ℕ) (s : Line R M) (v : View) (holder : Holder R M) → (plain.delivers one several message s v holder).1.more ≡ v.more
  given message s v GivenUp = refl
  given message s v (Waits ticket request) = refl
  given message s v (Transfers ticket request state) =
      let c = checked several request state message in goes_on message ticket request c.1 s (answers ticket (part_given message c.2) v) c.0

  frees_id : (message : List ℕ) (s : Line R M) (v : View) (o : Option (Holder R M)) → SaysSame v.more (plain.frees_id one several place message s v o)
  frees_id message s v None = refl
  frees_id message s v (Some holder) =
      let s' : Line R M = record s { held = removed (message_id message) s.held } in
      let x = plain.delivers one several message s' v holder in
      subst (λ m. SaysSame m (plain.becomes_idle_if_unused place x.0 x.1)) (given message s' v holder) (settles place x.0 x.1)

  timed_then : (message : List ℕ) (to : LineStage) (s : Line R M) (m : Bool) (o : Option View) → ((w : View) → o ≡ Some w → w.more ≡ m)
      → SaysSame m (option_and_then (λ (x : Line R M × View). plain.releases one several place message x.0 x.1) (option_and_then (λ w. Some (record s { stage = to }, w)) o))
  timed_then message to s m None h = tt
  timed_then message to s m (Some w) h =
      subst (λ m. SaysSame m (plain.releases one several place message (record s { stage = to }) w)) (h w refl) (frees_id message (record s { stage = to }) w (entry_at (message_id message) s.held.held))

  comes : (message : List ℕ) (s : Line R M) (v : View) → SaysSame v.more (plain.message_comes one several place message s v)
  comes message s v = timed_then message (stage.Active v.timers.next v.now) (record s { idle_time = _ }) v.more (sets_timer (v.now + s.timeout + 1) (plain.drops_own_timer s.stage v))
      (λ w e. set_more (v.now + s.timeout + 1) (plain.drops_own_timer s.stage v) w e ∙ stop_more s.stage v)

  frame_comes : (frame : List ℕ) (s : Line R M) (v : View) → SaysSame v.more (plain.frame_comes one several place frame s v)
  frame_comes frame s v = go (nat_le 12 (length frame))
    where
      go : (b : Bool) → SaysSame v.more (if b then plain.message_comes one several place frame s v else plain.ends place errors.ShortMessage s v)
      go true = comes frame s v
      go false = ends place errors.ShortMessage s v

module _ {R M : Type 0} (one : Requests R) (several : Requests M) where
  -- the frames that stand are taken, up to so many
  abbrev all_taken : ℕ → Stream R M → View → AfterAll R M
  all_taken zero s v = Some (s, v)
  all_taken (suc n) s v = if has_frame s.octets then option_and_then (λ x. all_taken n x.0 x.1) (plain.frame_taken one several s v) else Some (s, v)

  -- what the first frame does
  abbrev framed : Stream R M → View → After R M
  framed s v = plain.frame_comes one several s.place (body s.octets) s.line v

  abbrev moved : Stream R M → List ℕ → Line R M → Stream R M
  moved s octets line = record s { line = line; octets = octets_left line.stage octets }

  taken_is : (s : Stream R M) (v : View) → has_frame s.octets ≡ true → plain.frame_taken one several s v ≡ plain.with_line s (behind s.octets) (framed s v)
  taken_is s v h =
      ap (λ b. plain.takes_frame one several s v (if b then Some (body s.octets) else None)) h
      ∙ ap (λ b. plain.with_line s (if b then behind s.octets else s.octets) (framed s v)) h

  all_none : (n : ℕ) (s : Stream R M) (v : View) → has_frame s.octets ≡ false → all_taken n s v ≡ Some (s, v)
  all_none zero s v h = refl
  all_none (suc n) s v h = rw h refl

  all_one : (n : ℕ) (s : Stream R M) (v : View) → has_frame s.octets ≡ true → all_taken (suc n) s v ≡ option_and_then (λ x. all_taken n x.0 x.1) (plain.with_line s (behind s.octets) (framed s v))
  all_one n s v h =
      ap (λ b. if b then option_and_then (λ x. all_taken n x.0 x.1) (plain.frame_taken one several s v) else Some (s, v)) h
      ∙ ap (option_and_then (λ x. all_taken n x.0 x.1)) (taken_is s v h)

  -- A connection that has ended has no octets.
  abbrev IsClean : Stream R M → Type 0
  IsClean s = has_ended s.line.stage ≡ true → s.octets ≡ []

  left_clean : (at : LineStage) (octets : List ℕ) → has_ended at ≡ true → octets_left at octets ≡ []
  left_clean at octets e = rw e refl

  left_short : (at : LineStage) (octets : List ℕ) → length (octets_left at octets) ≤ length octets
  left_short at octets = go (has_ended at)
    where
      go : (b : Bool) → length (if b then [] else octets) ≤ length octets
      go true = omega arith
      go false = omega arith

  going : (s : Stream R M) → IsClean s → has_frame s.octets ≡ true → has_ended s.line.stage ≡ false
  going s c h = go (has_ended s.line.stage) refl
    where
      go : (b : Bool) → has_ended s.line.stage ≡ b → b ≡ false
      go false e = refl
      go true e = absurd (let none : has_frame s.octets ≡ false = ap has_frame (c e) in cc)

  behind_short : (s : Stream R M) (line : Line R M) → has_frame s.octets ≡ true → length (moved s (behind s.octets) line).octets + 2 ≤ length s.octets
  behind_short s line h =
      let a = left_short line.stage (behind s.octets) in
      let w = whole s.octets h in
      let l = length-drop (2 + body_size s.octets) s.octets in
      omega arith

  steady_more : (n m : ℕ) (s : Stream R M) (v : View) → length s.octets ≤ suc n → length s.octets ≤ m → ((m : ℕ) (s : Stream R M) (v : View) → length s.octets ≤ n → length s.octets ≤ m → all_taken n s v ≡ all_taken m s v)
      → (b : Bool) → has_frame s.octets ≡ b → all_taken (suc n) s v ≡ all_taken m s v
  steady_more n m s v p q ih false h = all_none (suc n) s v h ∙ sym (all_none m s v h)
  steady_more n zero s v p q ih true h = absurd (let w = whole s.octets h in omega arith)
  steady_more n (suc m) s v p q ih true h = all_one n s v h ∙ go (framed s v) ∙ sym (all_one m s v h)
    where
      go : (o : After R M) → option_and_then (λ x. all_taken n x.0 x.1) (plain.with_line s (behind s.octets) o) ≡ option_and_then (λ x. all_taken m x.0 x.1) (plain.with_line s (behind s.octets) o)
      go None = refl
      go (Some y) = let l = behind_short s y.0 h in ih m (moved s (behind s.octets) y.0) y.1 (omega arith) (omega arith)

  no_frame : (s : Stream R M) → length s.octets ≤ 0 → has_frame s.octets ≡ false
  no_frame s p = grind (arith, nat_tests)

  steady : (n m : ℕ) (s : Stream R M) (v : View) → length s.octets ≤ n → length s.octets ≤ m → all_taken n s v ≡ all_taken m s v
  steady zero m s v p q = sym (all_none m s v (no_frame s p))
  steady (suc n) m s v p q = steady_more n m s v p q (steady n) (has_frame s.octets) refl

  -- Taking frames while the view says that one stands takes all.
  idle_more : (n : ℕ) (s : Stream R M) (v : View) → v.more ≡ false → takes_more one several n s v ≡ Some (s, v)
  idle_more zero s v e = refl
  idle_more (suc n) s v e = rw e refl

  unsaid : (v : View) → v.more ≡ false → record v { more = false } ≡ v
  unsaid v e = ap (λ m. record v { more = m }) (sym e)

  step_more : (n : ℕ) (s : Stream R M) (v : View) → has_ended s.line.stage ≡ false → v.more ≡ false → takes_more one several (suc n) s (record v { more = true }) ≡ option_and_then (λ x. takes_more one several n x.0 x.1) (plain.reads one several s v)
  step_more n s v e m = rw (e, same_place s.place) (ap (λ v. option_and_then (λ x. takes_more one several n x.0 x.1) (plain.reads one several s v)) (unsaid v m))

  reads_none : (s : Stream R M) (v : View) → has_frame s.octets ≡ false → plain.reads one several s v ≡ Some (s, v)
  reads_none s v h =
      ap (λ b. plain.says_if_more (plain.takes_frame one several s v (if b then Some (body s.octets) else None))) h
      ∙ ap (λ b. Some (s, (if b then record v { more = true } else v))) h

  reads_one : (s : Stream R M) (v : View) → has_frame s.octets ≡ true → plain.reads one several s v ≡ plain.says_if_more (plain.with_line s (behind s.octets) (framed s v))
  reads_one s v h = ap plain.says_if_more (taken_is s v h)

  abbrev Reads : ℕ → Type 0
  Reads n = (s : Stream R M) (v : View) → IsClean s → v.more ≡ false → length s.octets ≤ n → option_and_then (λ x. takes_more one several n x.0 x.1) (plain.reads one several s v) ≡ all_taken (suc n) s v

  next_taken : (n : ℕ) (s : Stream R M) (v : View) → IsClean s → v.more ≡ false → length s.octets + 2 ≤ n → ((k : ℕ) → n ≡ suc k → Reads k) → (b : Bool) → has_frame s.octets ≡ b
      → takes_more one several n s (if b then record v { more = true } else v) ≡ all_taken n s v
  next_taken n s v c m l ih false h = idle_more n s v m ∙ sym (all_none n s v h)
  next_taken zero s v c m l ih true h = absurd (omega arith)
  next_taken (suc n) s v c m l ih true h = step_more n s v (going s c h) m ∙ ih n refl s v c m (omega arith)

  reading : (n : ℕ) → ((k : ℕ) → n ≡ suc k → Reads k) → Reads n
  reading n ih s v c m l = go (has_frame s.octets) refl
    where
      taken : has_frame s.octets ≡ true → (o : After R M) → SaysSame v.more o → option_and_then (λ x. takes_more one several n x.0 x.1) (plain.says_if_more (plain.with_line s (behind s.octets) o)) ≡ option_and_then (λ x. all_taken n x.0 x.1) (plain.with_line s (behind s.octets) o)
      taken h None k = refl
      taken h (Some y) k =
          let b = behind_short s y.0 h in
          next_taken n (moved s (behind s.octets) y.0) y.1 (left_clean y.0.stage (behind s.octets)) (k ∙ m) (omega arith) ih (has_frame (moved s (behind s.octets) y.0).octets) refl

      go : (b : Bool) → has_frame s.octets ≡ b → option_and_then (λ x. takes_more one several n x.0 x.1) (plain.reads one several s v) ≡ all_taken (suc n) s v
      go false h = ap (option_and_then (λ x. takes_more one several n x.0 x.1)) (reads_none s v h) ∙ idle_more n s v m ∙ sym (all_none (suc n) s v h)
      go true h = ap (option_and_then (λ x. takes_more one several n x.0 x.1)) (reads_one s v h) ∙ taken h (framed s v) (frame_comes one several s.place (body s.octets) s.line v) ∙ sym (all_one n s v h)

  reads_all : (n : ℕ) → Reads n
  reads_all zero = reading zero (λ k e. absurd (omega arith))
  reads_all (suc n) = reading (suc n) (λ k e. subst Reads (let is : n ≡ k = omega arith in is) (reads_all n))

  -- Octets that come behind others.
  abbrev adds : List ℕ → Stream R M → Stream R M
  adds b s = if has_ended s.line.stage then s else record s { octets = s.octets ++ b }

  adds_long : (b : List ℕ) (s : Stream R M) → length (adds b s).octets ≤ length s.octets + length b
  adds_long b s = go (has_ended s.line.stage)
    where
      go : (c : Bool) → length (if c then s else record s { octets = s.octets ++ b }).octets ≤ length s.octets + length b
      go true = omega arith
      go false = let l = length-append s.octets b in omega arith

  adds_moved : (b : List ℕ) (s : Stream R M) (octets : List ℕ) (line : Line R M) → adds b (moved s octets line) ≡ moved s (octets ++ b) line
  adds_moved b s octets line = go (has_ended line.stage) refl
    where
      go : (c : Bool) → has_ended line.stage ≡ c → adds b (moved s octets line) ≡ moved s (octets ++ b) line
      go true e = rw e refl
      go false e = rw e refl

  abbrev Adds : ℕ → List ℕ → Type 0
  Adds n b = (m k : ℕ) (s : Stream R M) (v : View) → IsClean s → length s.octets ≤ n → length s.octets + length b ≤ m → length s.octets + length b ≤ k
      → all_taken m (adds b s) v ≡ option_and_then (λ x. all_taken k (adds b x.0) x.1) (all_taken n s v)

  added : (n : ℕ) (b : List ℕ) → ((j : ℕ) → n ≡ suc j → Adds j b) → Adds n b
  added n b ih m k s v c p q r = go n m ih p q (has_frame s.octets) refl
    where
      first : (j i : ℕ) → Adds j b → has_frame s.octets ≡ true → length s.octets ≤ suc j → length s.octets + length b ≤ suc i → (o : After R M)
          → option_and_then (λ x. all_taken i x.0 x.1) (plain.with_line s (behind s.octets ++ b) o) ≡ option_and_then (λ x. all_taken k (adds b x.0) x.1) (option_and_then (λ x. all_taken j x.0 x.1) (plain.with_line s (behind s.octets) o))
      first j i ih h p q None = refl
      first j i ih h p q (Some y) =
          let l = behind_short s y.0 h in
          ap (λ s. all_taken i s y.1) (sym (adds_moved b s (behind s.octets) y.0)) ∙ ih i k (moved s (behind s.octets) y.0) y.1 (left_clean y.0.stage (behind s.octets)) (omega arith) (omega arith) (omega arith)

      longer : has_frame s.octets ≡ true → (i : ℕ) → all_taken (suc i) (adds b s) v ≡ option_and_then (λ x. all_taken i x.0 x.1) (plain.with_line s (behind s.octets ++ b) (framed s v))
      longer h i =
          let s' : Stream R M = record s { octets = s.octets ++ b } in
          ap (λ c. all_taken (suc i) (if c then s else s') v) (going s c h)
          ∙ all_one i s' v (still_whole s.octets b h)
          ∙ ap (λ o. option_and_then (λ x. all_taken i x.0 x.1) (plain.with_line s o (plain.frame_comes one several s.place (body (s.octets ++ b)) s.line v))) (same_behind s.octets b h)
          ∙ ap (λ f. option_and_then (λ x. all_taken i x.0 x.1) (plain.with_line s (behind s.octets ++ b) (plain.frame_comes one several s.place f s.line v))) (same_body s.octets b h)

      go : (n m : ℕ) → ((j : ℕ) → n ≡ suc j → Adds j b) → length s.octets ≤ n → length s.octets + length b ≤ m → (x : Bool) → has_frame s.octets ≡ x
          → all_taken m (adds b s) v ≡ option_and_then (λ x. all_taken k (adds b x.0) x.1) (all_taken n s v)
      go n m ih p q false h =
          let l = adds_long b s in
          steady m k (adds b s) v (omega arith) (omega arith) ∙ sym (ap (option_and_then (λ x. all_taken k (adds b x.0) x.1)) (all_none n s v h))
      go zero m ih p q true h = absurd (let w = whole s.octets h in omega arith)
      go (suc j) zero ih p q true h = absurd (let w = whole s.octets h in omega arith)
      go (suc j) (suc i) ih p q true h =
          longer h i ∙ first j i (ih j refl) h p q (framed s v) ∙ sym (ap (option_and_then (λ x. all_taken k (adds b x.0) x.1)) (all_one j s v h))

  adds_all : (n : ℕ) (b : List ℕ) → Adds n b
  adds_all zero b = added zero b (λ j e. absurd (omega arith))
  adds_all (suc n) b = added (suc n) b (λ j e. subst (λ n. Adds n b) (let is : n ≡ j = omega arith in is) (adds_all n b))

  -- What taking frames leaves: no more octets than before, nothing said, and nothing of a connection that has ended.
  record IsLeft (n : ℕ) (x : Stream R M × View) : Type 0 where
    clean : IsClean x.0
    short : length x.0.octets ≤ n
    said : x.1.more ≡ false

  leaves : (n k : ℕ) (s : Stream R M) (v : View) → IsClean s → length s.octets ≤ k → v.more ≡ false → IfSome (all_taken n s v) (IsLeft k)
  leaves zero k s v c l m = record { clean = c; short = l; said = m }
  leaves (suc n) k s v c l m = go (has_frame s.octets) refl (λ s v. leaves n k s v)
    where
      first : has_frame s.octets ≡ true → (o : After R M) → SaysSame v.more o → ((s : Stream R M) (v : View) → IsClean s → length s.octets ≤ k → v.more ≡ false → IfSome (all_taken n s v) (IsLeft k))
          → IfSome (option_and_then (λ x. all_taken n x.0 x.1) (plain.with_line s (behind s.octets) o)) (IsLeft k)
      first h None x ih = tt
      first h (Some y) x ih = let b = behind_short s y.0 h in ih (moved s (behind s.octets) y.0) y.1 (left_clean y.0.stage (behind s.octets)) (omega arith) (x ∙ m)

      go : (b : Bool) → has_frame s.octets ≡ b → ((s : Stream R M) (v : View) → IsClean s → length s.octets ≤ k → v.more ≡ false → IfSome (all_taken n s v) (IsLeft k)) → IfSome (all_taken (suc n) s v) (IsLeft k)
      go false h ih = subst (λ o. IfSome o (IsLeft k)) (sym (all_none (suc n) s v h)) (record { clean = c; short = l; said = m })
      go true h ih = subst (λ o. IfSome o (IsLeft k)) (sym (all_one n s v h)) (first h (framed s v) (frame_comes one several s.place (body s.octets) s.line v) ih)

  -- what a piece brings
  brings_ended : (b : List ℕ) (s : Stream R M) (v : View) → has_ended s.line.stage ≡ true → brings one several b s v ≡ Some (s, record v { more = false })
  brings_ended b s v e =
      ap (λ c. option_and_then (λ x. takes_more one several (length (s.octets ++ b)) x.0 x.1) (if c then Some (s, record v { more = false }) else plain.hears one several (told (Bytes s.place b)) s (record v { more = false }))) e
      ∙ idle_more (length (s.octets ++ b)) s (record v { more = false }) refl

  brings_going : (b : List ℕ) (s : Stream R M) (v : View) → has_ended s.line.stage ≡ false → brings one several b s v ≡ all_taken (suc (length (s.octets ++ b))) (record s { octets = s.octets ++ b }) (record v { more = false })
  brings_going b s v e =
      ap (λ c. option_and_then (λ x. takes_more one several (length (s.octets ++ b)) x.0 x.1) (if c then Some (s, record v { more = false }) else plain.hears one several (told (Bytes s.place b)) s (record v { more = false }))) e
      ∙ ap (λ c. option_and_then (λ x. takes_more one several (length (s.octets ++ b)) x.0 x.1) (if c then plain.reads one several (record s { octets = s.octets ++ b }) (record v { more = false }) else Some (s, record v { more = false }))) (same_place s.place)
      ∙ reads_all (length (s.octets ++ b)) (record s { octets = s.octets ++ b }) (record v { more = false }) (λ x. absurd (cc)) refl (omega arith)

  second : (b : List ℕ) (k n : ℕ) (x : Stream R M × View) → IsLeft n x → n + length b ≤ k → (c : Bool) → has_ended x.0.line.stage ≡ c → all_taken k (adds b x.0) x.1 ≡ brings one several b x.0 x.1
  second b k n x l le true e =
      ap (λ c. all_taken k (if c then x.0 else record x.0 { octets = x.0.octets ++ b }) x.1) e
      ∙ all_none k x.0 x.1 (ap has_frame (l.clean e))
      ∙ sym (brings_ended b x.0 x.1 e ∙ ap (λ v. Some (x.0, v)) (unsaid x.1 l.said))
  second b k n x l le false e =
      let long = length-append x.0.octets b in
      let short = l.short in
      ap (λ c. all_taken k (if c then x.0 else record x.0 { octets = x.0.octets ++ b }) x.1) e
      ∙ steady k (suc (length (x.0.octets ++ b))) (record x.0 { octets = x.0.octets ++ b }) x.1 (omega arith) (omega arith)
      ∙ ap (λ v. all_taken (suc (length (x.0.octets ++ b))) (record x.0 { octets = x.0.octets ++ b }) v) (sym (unsaid x.1 l.said))
      ∙ sym (brings_going b x.0 x.1 e)

  seconds : (b : List ℕ) (k n : ℕ) → n + length b ≤ k → (o : AfterAll R M) → IfSome o (IsLeft n) → option_and_then (λ x. all_taken k (adds b x.0) x.1) o ≡ option_and_then (λ x. brings one several b x.0 x.1) o
  seconds b k n le None l = refl
  seconds b k n le (Some x) l = second b k n x l le (has_ended x.0.line.stage) refl

  pub cutting : CuttingLaw one several
  cutting a b s v = go (has_ended s.line.stage) refl
    where
      go : (c : Bool) → has_ended s.line.stage ≡ c → brings one several (a ++ b) s v ≡ option_and_then (λ x. brings one several b x.0 x.1) (brings one several a s v)
      go true e =
          brings_ended (a ++ b) s v e
          ∙ sym (ap (option_and_then (λ x. brings one several b x.0 x.1)) (brings_ended a s v e) ∙ brings_ended b s (record v { more = false }) e)
      go false e =
          let s1 : Stream R M = record s { octets = s.octets ++ a } in
          let w : View = record v { more = false } in
          let n : ℕ = length (s.octets ++ a) in
          let k : ℕ = n + length b in
          let l1 = length-append (s.octets ++ a) b in
          let l2 : length (s.octets ++ (a ++ b)) ≡ length ((s.octets ++ a) ++ b) = ap length (sym (append_assoc s.octets a b)) in
          let clean : IsClean s1 = λ x. absurd (cc) in
          brings_going (a ++ b) s v e
          ∙ ap (λ o. all_taken (suc (length (s.octets ++ (a ++ b)))) (record s { octets = o }) w) (sym (append_assoc s.octets a b))
          ∙ ap (λ c. all_taken (suc (length (s.octets ++ (a ++ b)))) (if c then s1 else record s1 { octets = s1.octets ++ b }) w) (sym e)
          ∙ adds_all (suc n) b (suc (length (s.octets ++ (a ++ b)))) k s1 w clean (omega arith) (omega arith) (omega arith)
          ∙ seconds b k n (omega arith) (all_taken (suc n) s1 w) (leaves (suc n) n s1 w clean (omega arith) refl)
          ∙ ap (option_and_then (λ x. brings one several b x.0 x.1)) (sym (brings_going a s v e))
