-- The plain machine of a datagram transport.
--
--   take ──► Queued ──slot──► Opening ──Opened──► Sent ──answer or fault──► result, slot given on
--                               ▲                  │
--                               └── next try ── read timer ── last try ──► result, slot given on
use Rattle.std.specs.Prelude.{ℕ, zero, suc, ◌+◌, ◌-◌, ◌%◌, ◌&&◌, nat_lt, nat_le, Bool, true, false, if◌then◌else◌, List, [], ◌∷◌, length, take, Option, None, Some, option_and_then, Result, Ok, Err}
use Rattle.std.specs.Ordering.{nat_cmp}
use Rattle.std.specs.BTreeMap.{is_at}
use Rattle.std.specs.BTreeSet.{insert_key}
use Rattle.std.specs.Set.{remove_key}
use Rattle.client_request.specs.Board.{Part}
use Rattle.client_request.specs.Numbered.{puts, frees, entry_at}
use Rattle.client_request.specs.Requests.{Requests}
use Rattle.client_request.specs.Response as response
use Rattle.client_request.specs.View.{View, Heard, Transport, told, more_at, due_timer, word, drawn, asks, answers, sets_timer, drops_timer, draws_ticket, draws_place}
use Rattle.client_request.specs.declared.error.Error.{Error}
use Rattle.client_request.specs.declared.error.Error.TheVariants as errors
use Rattle.client_request.specs.declared.error.QueryError.TheVariants as query
use Rattle.client_request.specs.declared.fault.Fault.TheVariants as fault
use Rattle.client_request.specs.declared.event.Out.TheVariants.{OpenDgram, Send, Close}
use Rattle.client_request.specs.declared.event.What.{What}
use Rattle.client_request.specs.declared.event.What.TheVariants.{Opened, OpenFailed, Datagram, SendFailed, ShortSend, RecvFailed}
use Rattle.client_settings.specs.Dgram.{Settings}
use Rattle.client_dgram.specs.declared.job.Job.{Job}
use Rattle.client_dgram.specs.declared.job.Stage.{Stage}
use Rattle.client_dgram.specs.declared.job.Stage.TheVariants.{Queued, Opening, Sent}

-- The jobs by ticket, the ticket of each live place and of each read timer, the tickets that wait for a slot in the order in which they came, and how many slots are held.
pub record Tables (R : Type 0) : Type 0 where
  pub jobs : List (ℕ × Job R)
  pub places : List (ℕ × ℕ)
  pub timers : List (ℕ × ℕ)
  pub queue : List ℕ
  pub used : ℕ

abbrev pub has_minimum : List ℕ → Bool
has_minimum octets = nat_le 12 (length octets)

-- what a step leaves of the tables and of the view
abbrev pub After : Type 0 → Type 0
After R = Option (Tables R × View)

abbrev pub closes : ℕ → ℕ → View → View
closes place timer v = drops_timer timer (asks (Close place) v)

module _ {R : Type 0} where
  -- what goes on with the job of a place
  abbrev pub at_job : (ℕ → Job R → Tables R → View → After R) → ℕ → Tables R → View → Option (Job R) → After R
  at_job f ticket s v None = Some (s, v)
  at_job f ticket s v (Some job) = f ticket job s v

  abbrev pub at_ticket : (ℕ → Job R → Tables R → View → After R) → Tables R → View → Option ℕ → After R
  at_ticket f s v None = Some (s, v)
  at_ticket f s v (Some ticket) = at_job f ticket s v (entry_at ticket s.jobs)

  abbrev pub at_place : (ℕ → Job R → Tables R → View → After R) → ℕ → Tables R → View → After R
  at_place f place s v = at_ticket f s v (entry_at place s.places)

  -- a place where a request was sent is closed, and its read timer dropped
  abbrev pub leaves : ℕ → ℕ → ℕ → Tables R → Tables R
  leaves place ticket timer s = record s { jobs = frees ticket s.jobs; places = frees place s.places; timers = frees timer s.timers }

module _ {R : Type 0} (server : ℕ) where
  -- the next try of a job opens a place
  abbrev pub tries_at : ℕ → Job R → Tables R → ℕ → View → Tables R × View
  tries_at ticket job s place v = (
    record s { jobs = puts ticket (record job { stage = Opening place }) s.jobs; places = puts place ticket s.places },
    asks (OpenDgram place server) v,
  )

  abbrev pub tries : ℕ → Job R → Tables R → View → After R
  tries ticket job s v = option_and_then (λ w. Some (tries_at ticket job s v.place w)) (draws_place v)

  -- the slot of a request that has its result is given on to the one that waits longest
  abbrev pub gives_job : ℕ → Tables R → View → Option (Job R) → After R
  gives_job ticket s v None = Some (s, v)
  gives_job ticket s v (Some job) = tries ticket job (record s { jobs = frees ticket s.jobs }) v

  abbrev pub gives_to : Tables R → View → List ℕ → After R
  gives_to s v [] = Some (record s { used = s.used - 1 }, v)
  gives_to s v (ticket ∷ queue) = gives_job ticket (record s { queue = queue }) v (entry_at ticket s.jobs)

  abbrev pub gives_on : Tables R → View → After R
  gives_on s v = gives_to s v s.queue

  -- the result of a job, which is in no table any more
  abbrev pub finishes : ℕ → Part → Tables R → View → After R
  finishes ticket part s v = gives_on s (answers ticket part v)

  -- The place could not be opened.
  abbrev pub open_failed_stage : Error → ℕ → ℕ → Tables R → View → Stage → After R
  open_failed_stage error place ticket s v (Opening _) =
      finishes ticket (Err error) (record s { jobs = frees ticket s.jobs; places = frees place s.places }) v
  open_failed_stage error place ticket s v Queued = Some (s, v)
  open_failed_stage error place ticket s v (Sent _ _) = Some (s, v)

  abbrev pub open_fails : Error → ℕ → Tables R → View → After R
  open_fails error place s v = at_place (λ ticket job s v. open_failed_stage error place ticket s v job.stage) place s v

  -- What came where the request was sent is its result.
  abbrev pub ends_stage : Part → ℕ → ℕ → Tables R → View → Stage → After R
  ends_stage part place ticket s v (Sent _ timer) = finishes ticket part (leaves place ticket timer s) (closes place timer v)
  ends_stage part place ticket s v Queued = Some (s, v)
  ends_stage part place ticket s v (Opening _) = Some (s, v)

  abbrev pub breaks : Error → ℕ → Tables R → View → After R
  breaks error place s v = at_place (λ ticket job s v. ends_stage (Err error) place ticket s v job.stage) place s v

  -- The read timer of a try fired: its place is closed, and the next one opens, or the result is that no answer came.
  abbrev pub again : ℕ → Job R → Tables R → View → ℕ → After R
  again ticket job s v zero = finishes ticket (Err (errors.Dgram query.Timeout)) s v
  again ticket job s v (suc left) = tries ticket (record job { left = left }) s v

  abbrev pub late_stage : ℕ → Job R → Tables R → View → Stage → After R
  late_stage ticket job s v (Sent place _) =
      again ticket job (record s { jobs = frees ticket s.jobs; places = frees place s.places }) (asks (Close place) v) job.left
  late_stage ticket job s v Queued = Some (s, v)
  late_stage ticket job s v (Opening _) = Some (s, v)

  abbrev pub late : ℕ → Tables R → View → After R
  late timer s v = at_ticket (λ ticket job s v. late_stage ticket job s v job.stage) (record s { timers = frees timer s.timers }) v (entry_at timer s.timers)

  -- A request is given up.
  abbrev pub drops_stage : ℕ → Tables R → View → Stage → After R
  drops_stage ticket s v Queued = Some (record s { jobs = frees ticket s.jobs; queue = remove_key (is_at (nat_cmp ticket)) s.queue }, v)
  drops_stage ticket s v (Opening place) = gives_on (record s { jobs = frees ticket s.jobs; places = frees place s.places }) (asks (Close place) v)
  drops_stage ticket s v (Sent place timer) = gives_on (leaves place ticket timer s) (closes place timer v)

  abbrev pub drops : ℕ → Tables R → View → After R
  drops ticket s v = at_job (λ ticket job s v. drops_stage ticket s v job.stage) ticket s v (entry_at ticket s.jobs)

module _ {R : Type 0} (requests : Requests R) where
  -- What answers the request of a place, once it is cut: it has a header and answers.
  abbrev pub answer_of : List ℕ → Job R → Option (List ℕ)
  answer_of octets job = if has_minimum octets && requests.is_answered octets job.request then Some octets else None

  abbrev pub answer_in : List ℕ → Option (Job R) → Option (List ℕ)
  answer_in octets job = option_and_then (answer_of octets) job

module _ {R : Type 0} (requests : Requests R) (server : ℕ) (settings : Settings) where
  -- A request is taken on.
  abbrev pub takes_at : ℕ → Job R → Tables R → View → Bool → After R
  takes_at ticket job s v true = tries server ticket job (record s { used = s.used + 1 }) v
  takes_at ticket job s v false = Some (record s { jobs = puts ticket job s.jobs; queue = insert_key nat_cmp s.queue ticket }, v)

  abbrev pub newcomer : R → View → Job R
  newcomer request v = record { number = v.request; request = request; left = settings.max_retries; stage = Queued }

  abbrev pub takes : R → Tables R → View → After R
  takes request s v = option_and_then (λ w. takes_at v.ticket (newcomer request v) s w (nat_lt s.used settings.max_parallel)) (draws_ticket v)

  -- Its place is open: it is sent there under the next word's id.
  abbrev pub with_size : Option ℕ → R → R
  with_size None request = request
  with_size (Some size) request = requests.with_payload_size size request

  abbrev pub prepared : ℕ → R → R
  prepared id request = with_size settings.udp_payload_size (requests.with_id id request)

  abbrev pub sent_at : ℕ → ℕ → ℕ → Job R → R → List ℕ → Tables R → ℕ → View → Tables R × View
  sent_at place ticket id job request octets s timer v = (
    record s { jobs = puts ticket (record job { request = request; stage = Sent place timer }) s.jobs; timers = puts timer ticket s.timers },
    asks (Send place job.number id octets) v,
  )

  abbrev pub sends_composed : ℕ → ℕ → ℕ → Job R → R → Tables R → View → Result (List ℕ) Error → After R
  sends_composed place ticket id job request s v (Ok octets) =
      option_and_then (λ w. Some (sent_at place ticket id job request octets s v.timers.next w)) (sets_timer (v.now + settings.read_timeout) v)
  sends_composed place ticket id job request s v (Err error) =
      finishes server ticket (Err error) (record s { places = frees place s.places }) (asks (Close place) v)

  abbrev pub sends : ℕ → ℕ → ℕ → Job R → R → Tables R → View → After R
  sends place ticket id job request s v = sends_composed place ticket id job request s v (requests.composed request)

  abbrev pub opened_stage : ℕ → ℕ → Job R → Tables R → View → Stage → After R
  opened_stage place ticket job s v (Opening _) =
      sends place ticket (word v % 65536) job (prepared (word v % 65536) job.request) (record s { jobs = frees ticket s.jobs }) (drawn v)
  opened_stage place ticket job s v Queued = Some (s, v)
  opened_stage place ticket job s v (Sent _ _) = Some (s, v)

  abbrev pub opens : ℕ → Tables R → View → After R
  opens place s v = at_place (λ ticket job s v. opened_stage place ticket job s v job.stage) place s v

  -- A datagram is cut, and taken where it answers the request that was sent at its place.
  abbrev pub comes_answer : ℕ → ℕ → ℕ → Tables R → View → Option (List ℕ) → After R
  comes_answer place ticket timer s v None = Some (s, v)
  comes_answer place ticket timer s v (Some message) =
      finishes server ticket (Ok (Some message)) (leaves place ticket timer s) (closes place timer v)

  abbrev pub comes_stage : List ℕ → ℕ → ℕ → Job R → Tables R → View → Stage → After R
  comes_stage octets place ticket job s v (Sent _ timer) = comes_answer place ticket timer s v (answer_of requests octets job)
  comes_stage octets place ticket job s v Queued = Some (s, v)
  comes_stage octets place ticket job s v (Opening _) = Some (s, v)

  abbrev pub comes : List ℕ → ℕ → Tables R → View → After R
  comes octets place s v = at_place (λ ticket job s v. comes_stage (take settings.recv_size octets) place ticket job s v job.stage) place s v

  abbrev pub tells : What → Tables R → View → After R
  tells (Opened place) s v = opens place s v
  tells (OpenFailed place f) s v = open_fails server (errors.Dgram (query.Connect f)) place s v
  tells (SendFailed place f) s v = breaks server (errors.Dgram (query.Send f)) place s v
  tells (ShortSend place) s v = breaks server (errors.Dgram (query.Send fault.ShortSend)) place s v
  tells (RecvFailed place f) s v = breaks server (errors.Dgram (query.Receive f)) place s v
  tells (Datagram place octets) s v = comes octets place s v
  tells _ s v = Some (s, v)

  abbrev pub hears : Heard → Tables R → View → After R
  hears (told what) s v = tells what s v
  hears (more_at place) s v = Some (s, v)
  hears (due_timer timer) s v = late server timer s v

-- the whole machine: a server's number, the settings and the tables; and whether it gave up
pub record Dgram (R : Type 0) : Type 0 where
  pub server : ℕ
  pub settings : Settings
  pub tables : Tables R
  pub failed : Bool

-- what stands for the result of a request
abbrev pub Asked : Type 0
Asked = response.Asked

module _ {R : Type 0} where
  abbrev pub fresh : Tables R
  fresh = record { jobs = []; places = []; timers = []; queue = []; used = 0 }

  abbrev pub started : ℕ → Settings → Dgram R
  started server settings = record { server = server; settings = settings; tables = fresh; failed = false }

  abbrev pub with_tables : Dgram R → Option (Tables R × View) → Option (Dgram R × View)
  with_tables s after = option_and_then (λ x. Some (record s { tables = x.0 }, x.1)) after

  abbrev pub plain_cancel : ℕ → Dgram R → View → Option (Dgram R × View)
  plain_cancel ticket s v = with_tables s (drops s.server ticket s.tables v)

  module _ (requests : Requests R) where
    abbrev pub plain_send : R → Dgram R → View → Option (Dgram R × View)
    plain_send request s v = with_tables s (takes requests s.server s.settings request s.tables v)

    abbrev pub plain_step : Heard → Dgram R → View → Option (Dgram R × View)
    plain_step h s v = with_tables s (hears requests s.server s.settings h s.tables v)

    abbrev pub transport : Transport R (Dgram R) Asked
    transport = record {
      send = plain_send;
      step = plain_step;
      cancel = λ asked. plain_cancel asked.ticket;
      response = λ request s v. record { ticket = v.ticket; given = false };
    }
