-- Each result that a client gives is an error or a message that came, where what comes is octets: of one server's part, and of all moves that neither take an asking nor put a reply out.
use Rattle.std.specs.Prelude.{◌≡◌, ℕ, ◌⊎◌, List, Some, Result}
use Rattle.std.specs.List.{AllByRecursion}
use Rattle.client_request.specs.Request.{Request}
use Rattle.client_request.specs.declared.error.Error.{Error}
use Rattle.client_request.specs.declared.event.Event.{Event}
use Rattle.right_trace.specs.Trace.{Conf}
use Rattle.right_trace.specs.Messages.{Octets}
use Rattle.right_trace.specs.Frames.{Reading, Length, LengthAfter, Body}
use Rattle.right_trace.specs.Parts.{IsIn}
use Rattle.proof_right.specs.machine.Part.{Post, Act, ServerPart}
use Rattle.proof_right.specs.machine.Dgrams.{Tryer, Ending}
use Rattle.proof_right.specs.machine.Streams.{Conn}
use Rattle.proof_right.specs.machine.Served.{Served}
use Rattle.proof_right.specs.machine.Client.{Posted, Given, Waiting, Leaving, Upper}
use Rattle.right_trace.specs.InOctets.{AreOctets, IsInOctets}
use Rattle.proof_cache.specs.Standing.{IsResult}

-- each is an error or a message
abbrev pub AllResults : List Post → Type 0
AllResults = AllByRecursion (λ (x : Post). IsResult x.result)

-- A server's part posts nothing but errors and messages, as long as what comes is octets. `Sane` is what it keeps for that.
pub record GivesMessages {c : Conf} (P : ServerPart c) (Sane : P.State → Type 0) : Type 0 where
  pub fresh : Sane P.fresh
  pub begins : (e : Event) (a : P.State) → IsInOctets e.what → Sane a → Sane (P.begin e a)
  pub acts : (s place : ℕ) (a : P.State) (d : Act P.State) → Sane a → P.Acts s place a d → Sane d.state × AllResults d.posts
  pub starts : (s place k : ℕ) (r : Request) (a : P.State) (d : Act P.State) → Sane a → P.Starts s place k r a d → Sane d.state × AllResults d.posts
  pub cancels : (s place k : ℕ) (a : P.State) (d : Act P.State) → Sane a → P.Cancels s place k a d → Sane d.state × AllResults d.posts

-- what is read of a frame is octets
abbrev pub IsReadInOctets : Reading → Type 0
IsReadInOctets Length = Unit {0}
IsReadInOctets (LengthAfter high) = Unit {0}
IsReadInOctets (Body missing got) = AreOctets got

-- What one server keeps: its event and the frames that are still to be taken are octets, what its connections read too, and each result that is to be given is an error or a message.
pub record SaneServed (u : Served) : Type 0 where
  pub pending : IsInOctets u.pending
  pub frames : AllByRecursion AreOctets u.frames
  pub reads : (p : ℕ) (x : Conn) → u.server.by_stream.conns p ≡ Some x → IsReadInOctets x.got
  pub ends : (k : ℕ) (a : Tryer) (y : Result Octets Error) → u.server.by_dgram.held k ≡ Some a → a.stage ≡ Ending y → IsResult y

module _ {U : Type 0} (Sane : U → Type 0) where
  -- Each result that the machine has is an error or a message, and each of its servers is sane.
  pub record Sanely (x : Upper U) : Type 0 where
    pub ups : (i : ℕ) → Sane (x.ups i)
    pub board : (y : Posted) → IsIn y x.board → IsResult y.result
    pub held : (k : ℕ) (a : Waiting) → x.held k ≡ Some a → (g : Given) → IsIn g a.kept_back → IsResult g.result

  -- who leaves was tried, and leaves with an error or a message
  pub record LeavesWithResult (x : Upper U) (z : Leaving) : Type 0 where
    pub result : IsResult z.result
    pub waiting : Waiting
    pub held : x.held z.request ≡ Some waiting
    pub asked : z.asked ≡ waiting.request

  -- Moves from x led to y: who is tried was tried with the same request, and who leaves left already or was tried.
  pub record WentOn (x y : Upper U) : Type 0 where
    pub sane : Sanely y
    pub requests : (k : ℕ) (b : Waiting) → y.held k ≡ Some b → (a : Waiting) × (x.held k ≡ Some a) × (b.request ≡ a.request)
    pub leaving : (z : Leaving) → IsIn z y.leaving → IsIn z x.leaving ⊎ LeavesWithResult x z
