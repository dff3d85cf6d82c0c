-- What is recorded, one row more at a time.
use Rattle.std.proofs.Common.{arith, ◌≡◌, ◌≤◌, ◌+◌, ℕ, Bool, true, false, ◌&&◌, List, [], ◌∷◌, ◌++◌, length, length-append, take, Option, Some, None, refl, sym, ap, ◌∙◌, subst, append_assoc, append-nil}
use Rattle.std.specs.List.{AllByRecursion}
use Rattle.std.specs.Prelude.{is_some, nat_lt}
use Rattle.std.proofs.lemmas.Bool.Decides.{nat_tests}
use Rattle.client_core.proofs.Replaying.{row_event}
use Rattle.client_loop.proofs.Rows.{event_behind, leads_on, plain_of}
use Rattle.client_loop.specs.Turns.{events_of}
use Rattle.client_request.specs.Words.{listed}
use Rattle.client_request.specs.declared.event.Event.{Event}
use Rattle.client_request.specs.declared.event.Row.{Row}
use Rattle.client_steps.specs.Client.{plain_rows, row_step}
use Rattle.client_steps.specs.Whole.{Client, Whole, client_with, machine, plain_step, started_with}
use Rattle.dns_record.specs.Recording.{EndsIf, GoesOn, HasEnded, IsRecord, Keeps, NotedSo, Opening, Recorded, RecordedSo, Recording, Takes, end_for, lost_after, script_of_rows, text_of_rows, told_conf, with_end}
use Rattle.dns_record.specs.declared.ended.Ended.{Ended}
use Rattle.dns_record.proofs.Cutting.{cut_record}
use Rattle.dns_record.proofs.Starting.{same_start}
use Rattle.dns_script.specs.Lines.{event_line}
use Rattle.dns_script.specs.Told.{tells_well}
use Rattle.dns_values.specs.Sink.{with_octets}
use Rattle.dns_values.specs.Source.{one_more}
use Rattle.script_printing.specs.CanBeTold.{IsEvent, are_told_events}
use Rattle.script_printing.specs.Texts.{script_of, script_text_of}
use Rattle.script_printing.proofs.Scripts.{one_more_line, scripts_are_read_back}

octets_joined : (xs ys : List ℕ) (held : Option (List ℕ)) → with_octets ys (with_octets xs held) ≡ with_octets (xs ++ ys) held
octets_joined xs ys None = refl
octets_joined xs ys (Some zs) = ap Some (append_assoc zs xs ys)

told_behind : (b : Bool) (before after : Bool) → (before ≡ true → after ≡ true) → (b && before) ≡ true → (b && after) ≡ true
told_behind true before after more h = more h
told_behind false before after more h = h

told_more : (events : List Event) (event : Event) → are_told_events events ≡ true → tells_well event.what ≡ true → are_told_events (events ++ event ∷ []) ≡ true
told_more [] event h one = ap (λ b. b && true) one
told_more (e ∷ events) event h one = told_behind (tells_well e.what) (are_told_events events) (are_told_events (events ++ event ∷ [])) (λ k. told_more events event k one) h

range_more : (events : List Event) (event : Event) → AllByRecursion IsEvent events → IsEvent event → AllByRecursion IsEvent (events ++ event ∷ [])
range_more [] event h one = (one, tt)
range_more (e ∷ events) event h one = (h.0, range_more events event h.1 one)

text_more : (o : Opening) (rows : List Row) (row : Row) → text_of_rows o (rows ++ row ∷ []) ≡ text_of_rows o rows ++ event_line row.event
text_more o rows row =
    ap (λ events. script_text_of (script_of (told_conf o.conf) o.redundant o.cache o.transports o.words events)) (event_behind rows row)
    ∙ one_more_line (told_conf o.conf) o.redundant o.cache o.transports o.words (events_of rows) row.event

-- what is recorded so far is a record
pub is_record : (o : Opening) (rows : List Row) (held : Option (List ℕ)) (left : List ℕ) (size : ℕ) (client : Whole) → GoesOn o rows held left size client → IsRecord (text_of_rows o rows) rows
is_record o rows held left size client h =
    let t : ℕ = o.conf.options.timeout in
    record {
      script = script_of_rows o rows;
      is_script = scripts_are_read_back (script_of_rows o rows) h.told h.range;
      fits = subst (λ n. n ≤ 16777216) h.size_is h.fits;
      replay =
          ap (λ (w : Whole). plain_rows machine t (events_of rows) (client_with (listed o.words) w)) (same_start o.transports o.redundant o.cache o.conf h.alike)
          ∙ plain_of t (client_with (listed o.words) (started_with o.transports o.redundant o.cache o.conf)) (client_with (listed left) client) rows h.leads;
    }

-- where it ends here, behind at most the first of a line
ended_at : (o : Opening) (rows later : List Row) (held after : Option (List ℕ)) (left : List ℕ) (size : ℕ) (client : Whole) (cut : List ℕ) → GoesOn o rows held left size client → after ≡ with_octets cut held → HasEnded o (rows ++ later) after
ended_at o rows later held after left size client cut h written = record {
  first = rows;
  later = later;
  rows_are = refl;
  cut = cut;
  written = written ∙ ap (with_octets cut) h.written ∙ octets_joined (text_of_rows o rows) cut o.held;
  is_record = is_record o rows held left size client h;
  cuts = λ n behind. cut_record o rows held left size client n h behind;
}

nothing_more : (held : Option (List ℕ)) → held ≡ with_octets [] held
nothing_more None = refl
nothing_more (Some xs) = ap Some (sym (append-nil xs))

-- nothing of a line was written
pub nothing_written : (line : List ℕ) (held : Option (List ℕ)) → (n : ℕ) × (held ≡ with_octets (take n line) held)
nothing_written line held = (0, nothing_more held)

-- a row more while it goes on
pub row_recorded : (o : Opening) (rows : List Row) (held after : Option (List ℕ)) (left right : List ℕ) (size next : ℕ) (ended : Option Ended) (client moved : Whole) (event : Event) (row : Row)
    → plain_step (listed left) event client ≡ Some (row, client_with (listed right) moved) → moved.timeout ≡ client.timeout → IsEvent row.event → NotedSo row.event held after size next ended
    → GoesOn o rows held left size client → RecordedSo o (rows ++ row ∷ []) after right next ended moved
row_recorded o rows held after left right size next (Some why) client moved event row step timeout range noted h =
    ended_at o rows (row ∷ []) held after left size client (take noted.0 (event_line row.event)) h noted.1
row_recorded o rows held after left right size next None client moved event row step timeout range noted h =
    let t : ℕ = o.conf.options.timeout in
    let before : Client = client_with (listed left) client in
    let behind : Client = client_with (listed right) moved in
    let text = text_more o rows row in
    let is : row.event ≡ event = row_event machine client.timeout row event before behind step in
    let stepped : row_step machine t row.event before ≡ Some (row, behind) =
    subst (λ n. row_step machine n row.event before ≡ Some (row, behind)) h.timeout (subst (λ e. row_step machine client.timeout e before ≡ Some (row, behind)) (sym is) step) in
    let events = event_behind rows row in
    record {
      alike = h.alike;
      told = record { servers = h.told.servers; options = h.told.options; settings = h.told.settings; transports = h.told.transports; lane = refl; events = subst (λ es. are_told_events es ≡ true) (sym events) (told_more (events_of rows) row.event h.told.events noted.3) };
      range = record { addresses = h.range.addresses; timeout = h.range.timeout; sizes = h.range.sizes; words = h.range.words; events = subst (AllByRecursion IsEvent) (sym events) (range_more (events_of rows) row.event h.range.events range) };
      written = noted.0 ∙ ap (with_octets (event_line row.event)) h.written ∙ octets_joined (text_of_rows o rows) (event_line row.event) o.held ∙ ap (λ x. with_octets x o.held) (sym text);
      size_is = noted.1 ∙ ap (λ n. n + length (event_line row.event)) h.size_is ∙ sym (length-append (text_of_rows o rows) (event_line row.event)) ∙ ap length (sym text);
      fits = noted.2;
      timeout = timeout ∙ h.timeout;
      leads = leads_on t (client_with (listed o.words) (started_with o.transports o.redundant o.cache o.conf)) before behind rows row h.leads stepped;
    }

-- the same by why it ended
pub one_more_row : (o : Opening) (rows : List Row) (held after : Option (List ℕ)) (left right : List ℕ) (size next : ℕ) (was ended : Option Ended) (client moved : Whole) (event : Event) (row : Row)
    → was ≡ None → plain_step (listed left) event client ≡ Some (row, client_with (listed right) moved) → moved.timeout ≡ client.timeout → IsEvent row.event → NotedSo row.event held after size next ended
    → RecordedSo o rows held left size was client → RecordedSo o (rows ++ row ∷ []) after right next ended moved
one_more_row o rows held after left right size next None ended client moved event row was step timeout range noted h = row_recorded o rows held after left right size next ended client moved event row step timeout range noted h
one_more_row o rows held after left right size next (Some why) ended client moved event row was step timeout range noted h = absurd cc

-- a row behind the end
pub ended_row : (o : Opening) (rows : List Row) (held : Option (List ℕ)) (left right : List ℕ) (size next : ℕ) (why : Ended) (client moved : Whole) (row : Row)
    → RecordedSo o rows held left size (Some why) client → RecordedSo o (rows ++ row ∷ []) held right next (Some why) moved
ended_row o rows held left right size next why client moved row h = record {
  first = h.first;
  later = h.later ++ row ∷ [];
  rows_are = ap (λ rs. rs ++ row ∷ []) h.rows_are ∙ append_assoc h.first h.later (row ∷ []);
  cut = h.cut;
  written = h.written;
  is_record = h.is_record;
  cuts = h.cuts;
}

-- where it ends between two rows
pub ends_here : (o : Opening) (rows : List Row) (held : Option (List ℕ)) (left : List ℕ) (size : ℕ) (ended : Option Ended) (client : Whole) → RecordedSo o rows held left size ended client → HasEnded o rows held
ends_here o rows held left size None client h = subst (λ rs. HasEnded o rs held) (append-nil rows) (ended_at o rows [] held held left size client [] h (nothing_more held))
ends_here o rows held left size (Some why) client h = h

-- why it has not ended
none_of : (ended : Option Ended) → is_some ended ≡ false → ended ≡ None
none_of None e = refl
none_of (Some why) e = absurd cc

-- it goes on
pub goes_on : (r : Recording) (some : Bool) → some ≡ is_some r.ended → some ≡ false → r.ended ≡ None
goes_on r some is off = none_of r.ended (sym is ∙ off)

passed_so : (o : Opening) (rows : List Row) (held : Option (List ℕ)) (left right : List ℕ) (size next : ℕ) (ended : Option Ended) (client moved : Whole) (row : Row) → is_some ended ≡ true
    → RecordedSo o rows held left size ended client → RecordedSo o (rows ++ row ∷ []) held right next ended moved
passed_so o rows held left right size next None client moved row e h = absurd cc
passed_so o rows held left right size next (Some why) client moved row e h = ended_row o rows held left right size next why client moved row h

-- a row comes behind the end
pub passes : (r s : Recording) (some : Bool) (client moved : Whole) (held : Option (List ℕ)) (row : Row) → some ≡ is_some r.ended → some ≡ true → s.ended ≡ r.ended → Keeps (row ∷ []) held r client held s moved
passes r s some client moved held row is on same o rows h =
    subst (λ (e : Option Ended). RecordedSo o (rows ++ row ∷ []) held s.words s.size e moved) (sym same) (passed_so o rows held r.words s.words r.size s.size r.ended client moved row (sym is ∙ on) h)

-- it is counted
lost_some : (ended : Option Ended) (lost : ℕ) → is_some ended ≡ true → one_more lost ≡ lost_after ended lost
lost_some None lost e = absurd cc
lost_some (Some why) lost e = refl

pub counts : (r s : Recording) (some : Bool) → some ≡ is_some r.ended → some ≡ true → s ≡ record r { lost = one_more r.lost } → s.lost ≡ lost_after s.ended r.lost
counts r s some is on same =
    ap (λ (t : Recording). t.lost) same ∙ lost_some r.ended r.lost (sym is ∙ on) ∙ ap (λ (t : Recording). lost_after t.ended r.lost) (sym same)

-- it had ended
not_none : (ended : Option Ended) → is_some ended ≡ true → ended ≡ None → ⊥
not_none ended on none = let off : is_some ended ≡ false = ap is_some none in absurd cc

pub had_ended : (ended : Option Ended) (some : Bool) → some ≡ is_some ended → some ≡ true → ended ≡ None → ⊥
had_ended ended some is on none = not_none ended (sym is ∙ on) none

-- a client takes an event behind the end
takes_ended : (ended : Option Ended) (written left : List ℕ) (words rest : ℕ → ℕ) (event : Event) (old : Whole) (row : Row) (new : Whole) → is_some ended ≡ true
    → plain_step words event old ≡ Some (row, client_with rest new) → left ≡ written → Takes ended written left words rest event old row new
takes_ended None written left words rest event old row new on step same = absurd cc
takes_ended (Some why) written left words rest event old row new on step same = (step, same)

pub takes_behind : (r s : Recording) (some : Bool) (words rest : ℕ → ℕ) (event : Event) (old : Whole) (row : Row) (new : Whole) → some ≡ is_some r.ended → some ≡ true
    → plain_step words event old ≡ Some (row, client_with rest new) → s.words ≡ r.words → Takes r.ended r.words s.words words rest event old row new
takes_behind r s some words rest event old row new is on step same = takes_ended r.ended r.words s.words words rest event old row new (sym is ∙ on) step same

-- and while it goes on
pub kept_step : (words : ℕ → ℕ) (event : Event) (old : Whole) (row noted : Row) (new : Whole) (taken left : List ℕ) → noted ≡ row → left ≡ taken
    → plain_step words event old ≡ Some (row, client_with (listed taken) new) → plain_step words event old ≡ Some (noted, client_with (listed left) new)
kept_step words event old row noted new taken left same is step =
    step ∙ ap (λ (x : Row). Some (x, client_with (listed taken) new)) (sym same) ∙ ap (λ (ws : List ℕ). Some (noted, client_with (listed ws) new)) (sym is)

takes_none : (ended : Option Ended) (written left : List ℕ) (words : ℕ → ℕ) (event : Event) (old : Whole) (row : Row) (new : Whole) → is_some ended ≡ false
    → plain_step (listed written) event old ≡ Some (row, client_with (listed left) new) → Takes ended written left words words event old row new
takes_none None written left words event old row new off step = (step, refl)
takes_none (Some why) written left words event old row new off step = absurd cc

pub takes_on : (r b s : Recording) (some : Bool) (words : ℕ → ℕ) (event : Event) (old : Whole) (row noted : Row) (new : Whole) → some ≡ is_some r.ended → some ≡ false
    → plain_step (listed r.words) event old ≡ Some (row, client_with (listed b.words) new) → noted ≡ row → s.words ≡ b.words → Takes r.ended r.words s.words words words event old noted new
takes_on r b s some words event old row noted new is off step same left =
    takes_none r.ended r.words s.words words event old noted new (sym is ∙ off) (kept_step (listed r.words) event old row noted new b.words s.words same left step)

-- why it ended, said of what was before the client took the event
pub ends_so : (r b s : Recording) (row noted : Row) (faults after : ℕ) → b ≡ record r { words = b.words } → s.words ≡ b.words → noted ≡ row
    → EndsIf s.ended row.event b faults after → EndsIf s.ended noted.event (record r { words = s.words }) faults after
ends_so r b s row noted faults after stands words same h =
    subst (λ (x : Row). EndsIf s.ended x.event (record r { words = s.words }) faults after) (sym same)
    (subst (λ (ws : List ℕ). EndsIf s.ended row.event (record r { words = ws }) faults after) (sym words)
    (subst (λ (t : Recording). EndsIf s.ended row.event t faults after) stands h))

pub counts_on : (r b s : Recording) → b ≡ record r { words = b.words } → s.lost ≡ lost_after s.ended b.lost → s.lost ≡ lost_after s.ended r.lost
counts_on r b s stands counted = counted ∙ ap (λ (t : Recording). lost_after s.ended t.lost) stands

-- a row comes while it goes on: r before the client took the event, b behind that, and s once the row was noted
pub notes : (r b s : Recording) (some : Bool) (client moved : Whole) (event : Event) (row noted : Row) (held after : Option (List ℕ)) → some ≡ is_some r.ended → some ≡ false
    → plain_step (listed r.words) event client ≡ Some (row, client_with (listed b.words) moved) → moved.timeout ≡ client.timeout → b ≡ record r { words = b.words }
    → noted ≡ row → IsEvent row.event → s.words ≡ b.words → NotedSo row.event held after b.size s.size s.ended → Keeps (noted ∷ []) held r client after s moved
notes r b s some client moved event row noted held after is off step timeout stands same range words is_noted o rows h =
    let drawn : plain_step (listed r.words) event client ≡ Some (row, client_with (listed s.words) moved) = subst (λ (ws : List ℕ). plain_step (listed r.words) event client ≡ Some (row, client_with (listed ws) moved)) (sym words) step in
    let size : b.size ≡ r.size = ap (λ (t : Recording). t.size) stands in
    let told : NotedSo row.event held after r.size s.size s.ended = subst (λ (n : ℕ). NotedSo row.event held after n s.size s.ended) size is_noted in
    subst (λ (x : Row). Recorded o (rows ++ x ∷ []) after s moved) (sym same)
    (one_more_row o rows held after r.words s.words r.size s.size r.ended s.ended client moved event row (goes_on r some is off) drawn timeout range told h)

ended_so : (why : Ended) (o : Opening) (rows : List Row) (held : Option (List ℕ)) (left : List ℕ) (size : ℕ) (ended : Option Ended) (client moved : Whole)
    → RecordedSo o rows held left size ended client → RecordedSo o rows held left size (end_for why ended) moved
ended_so why o rows held left size None client moved h = ends_here o rows held left size None client h
ended_so why o rows held left size (Some other) client moved h = h

-- it ends between two rows
pub ends : (why : Ended) (r s : Recording) (client moved : Whole) → s ≡ with_end why r → (o : Opening) (rows : List Row) (held : Option (List ℕ)) → Recorded o rows held r client → Recorded o rows held s moved
ends why r s client moved same o rows held h = subst (λ (t : Recording). Recorded o rows held t moved) (sym same) (ended_so why o rows held r.words r.size r.ended client moved h)

-- what is recorded from where the client drew its words
pub keeps_back : (r b s : Recording) (row noted : Row) (held after : Option (List ℕ)) (client moved : Whole) → b ≡ record r { words = b.words } → noted ≡ row
    → Keeps (row ∷ []) held (record b { words = r.words }) client after s moved → Keeps (noted ∷ []) held r client after s moved
keeps_back r b s row noted held after client moved stands same h =
    let back : record b { words = r.words } ≡ r = ap (λ (t : Recording). record t { words = r.words }) stands in
    subst (λ (x : Row). Keeps (x ∷ []) held r client after s moved) (sym same) (subst (λ (t : Recording). Keeps (row ∷ []) held t client after s moved) back h)

-- a row more behind others
pub keeps_more : (rows : List Row) (row : Row) (held mid after : Option (List ℕ)) (r s t : Recording) (client middle moved : Whole)
    → Keeps rows held r client mid s middle → Keeps (row ∷ []) mid s middle after t moved → Keeps (rows ++ row ∷ []) held r client after t moved
keeps_more rows row held mid after r s t client middle moved h k o before is =
    subst (λ (rs : List Row). Recorded o rs after t moved) (append_assoc before rows (row ∷ [])) (k o (before ++ rows) (h o before is))

-- words are enough where they are not few
pub are_enough : (few : Bool) (words most : ℕ) → few ≡ nat_lt words most → few ≡ false → most ≤ words
are_enough few words most is off = let less : nat_lt words most ≡ false = sym is ∙ off in grind (arith, nat_tests)
