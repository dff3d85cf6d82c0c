-- When an id is open on a connection, and that no open id is written again.
use Rattle.std.specs.Prelude.{◌≡◌, ℕ, ◌+◌, ◌==◌, ◌&&◌, ◌||◌, not, nat_lt, Bool, true, false, if◌then◌else◌, List, [], ◌∷◌, ◌++◌, Option, Some, None, is_some, IfSome}
use Rattle.client_request.specs.Numbered.{entry_at}
use Rattle.client_request.specs.Requests.{Requests}
use Rattle.client_request.specs.View.{View, Heard, told, more_at, due_timer}
use Rattle.client_request.specs.declared.event.Out.{Out}
use Rattle.client_request.specs.declared.event.Out.TheVariants.{Write}
use Rattle.client_request.specs.declared.event.What.{What}
use Rattle.client_request.specs.declared.event.What.TheVariants.{Bytes}
use Rattle.client_stream.specs.Frames.{first_frame}
use Rattle.client_stream.specs.Plain.{Line, Stream, AfterAll, has_ended, message_id, started, plain_send, plain_step, plain_cancel}
use Rattle.client_settings.specs.Stream.{Settings}
use Rattle.client_stream.specs.declared.request.AnyRequest.{AnyRequest}

-- a call of a connection: a request is taken on, something is heard, or the request with a ticket is given up
pub data Act (R M : Type 0) : Type 0 where
  asks_for : AnyRequest R M → Act R M
  hears_of : Heard → Act R M
  gives_up_on : ℕ → Act R M

-- how often an id is written at a place
abbrev pub is_write : ℕ → ℕ → Out → Bool
is_write place id (Write at _ written _) = place == at && id == written
is_write place id _ = false

abbrev pub writes_of : ℕ → ℕ → List Out → ℕ
writes_of place id [] = 0
writes_of place id (out ∷ outs) = (if is_write place id out then 1 else 0) + writes_of place id outs

-- A call has written the id where there are more writes of it than before.
abbrev pub writes_id : ℕ → ℕ → View → View → Bool
writes_id place id before after = nat_lt (writes_of place id before.outs) (writes_of place id after.outs)

-- a frame that is taken, if one is, has the id
abbrev pub has_id : ℕ → Option (List ℕ) → Bool
has_id id None = false
has_id id (Some frame) = message_id frame == id

module _ {R M : Type 0} where
  -- the first frame of the octets that stand once an event or a `More` came at its place
  abbrev pub frame_told : What → Stream R M → Option (List ℕ)
  frame_told (Bytes at octets) s = if s.place == at then first_frame (s.octets ++ octets) else None
  frame_told _ s = None

  abbrev pub frame_heard : Heard → Stream R M → Option (List ℕ)
  frame_heard (told what) s = frame_told what s
  frame_heard (more_at place) s = if s.place == place then first_frame s.octets else None
  frame_heard (due_timer timer) s = None

  abbrev pub frame_taken_by : Act R M → Stream R M → Option (List ℕ)
  frame_taken_by (asks_for request) s = None
  frame_taken_by (hears_of h) s = frame_heard h s
  frame_taken_by (gives_up_on ticket) s = None

  -- something holds the id
  abbrev pub is_held : ℕ → Line R M → Bool
  is_held id line = is_some (entry_at id line.held.held)

  -- An id is open from the call that writes it until a frame with it is taken that frees it, or the connection ends.
  abbrev pub open_after : ℕ → Bool → Act R M → Stream R M → View → Stream R M → View → Bool
  open_after id is_open act s v s' v' = not (has_ended s'.line.stage) && (writes_id s.place id v v' || (is_open && (is_held id s'.line || not (has_id id (frame_taken_by act s)))))

  module _ (one : Requests R) (several : Requests M) where
    abbrev pub does : Act R M → Stream R M → View → AfterAll R M
    does (asks_for request) s v = plain_send one several request s v
    does (hears_of h) s v = plain_step one several h s v
    does (gives_up_on ticket) s v = plain_cancel ticket s v

    -- No call of a run writes an id that is open. What the view of each call has besides is free, since others use it too.
    abbrev pub WritesFreeIds : ℕ → Bool → List (Act R M × View) → Stream R M → Type 0
    WritesFreeIds id is_open [] s = Unit {0}
    WritesFreeIds id is_open (call ∷ calls) s = IfSome (does call.0 s call.1) (λ x.
        (is_open ≡ true → writes_id s.place id call.1 x.1 ≡ false) × WritesFreeIds id (open_after id is_open call.0 s call.1 x.0 x.1) calls x.0)

    -- From the start on an id that was written is not written again until a frame with it freed it or the connection ended.
    abbrev pub IdsLaw : Type 0
    IdsLaw = (place : ℕ) (settings : Settings) (id : ℕ) (calls : List (Act R M × View)) → WritesFreeIds id false calls (started place settings)
