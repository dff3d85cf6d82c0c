-- One connection of the plain transport with the octets that it keeps, beside one of the machine with the frames that are still to be taken.
use Rattle.std.specs.Prelude.{◌≡◌, ℕ, Bool, true, false, List, [], ◌∷◌, ◌++◌, Option}
use Rattle.client_request.specs.Request.{Request}
use Rattle.client_request.specs.Requests.{for_one, for_several}
use Rattle.client_request.specs.View.{View, told, more_at}
use Rattle.client_request.specs.declared.event.What.TheVariants.{Bytes}
use Rattle.client_stream.specs.Plain.{has_ended, plain_step}
use Rattle.right_trace.specs.Frames.{fed}
use Rattle.right_trace.specs.Messages.{Octets}
use Rattle.right_trace.specs.Time.{response_timeout}
use Rattle.proof_right.specs.machine.Streams.{Conn, Multi, fed_by, set_conn}
use Rattle.client_multi.specs.Links.{Link}
use Rattle.proof_parts.specs.Connections.{dues, HasHeard, IsSettled}
use Rattle.proof_parts.specs.Lines.{IsLineAt}
use Rattle.proof_parts.specs.PartTie.{Leads}
use Rattle.proof_parts.specs.Reading.{Keeps}
use Rattle.proof_parts.specs.Sights.{IsFair}
use Rattle.right_trace.specs.Trace.{Conf}

-- It is the connection at p, and these frames stand whole in what it keeps.
pub record IsLinkAt (c : Conf) (p : ℕ) (names : ℕ → Option ℕ) (l : Link Request) (m : Multi) (x : Conn) (frames : List Octets) (dues : ℕ → Option ℕ) (ticket : ℕ) : Type 0 where
  pub place : l.place ≡ p
  pub timeout : l.settings.response_timeout ≡ response_timeout c
  pub line : IsLineAt c p names l.line m x dues ticket
  pub settled : IsSettled l.line
  pub keeps : Keeps l.octets frames x.got

-- Whether another frame stands is said of a connection that lives on.
abbrev pub says : (ended : Bool) → List Octets → View → Bool
says true fs v = v.more
says false [] v = v.more
says false (f ∷ fs) v = true

-- The first of the frames that stand is taken, or none stands and all is as it was.
pub data HasRead (c : Conf) (p : ℕ) (names : ℕ → Option ℕ) (m : Multi) (x : Conn) (l : Link Request) (v : View) : List Octets → Link Request → View → Type 0 where
  ReadsNone : (k : Link Request) (w : View) → k ≡ l → w ≡ v → HasRead c p names m x l v [] k w
  ReadsOne : (f : Octets) (fs : List Octets) (k : Link Request) (u w : View) → HasHeard c p names m x l.line v f k.line u → w ≡ record u { more = says (has_ended k.line.stage) fs u } → k.place ≡ l.place → k.settings ≡ l.settings
      → (has_ended k.line.stage ≡ false → Keeps k.octets fs x.got) → (has_ended k.line.stage ≡ true → k.octets ≡ []) → HasRead c p names m x l v (f ∷ fs) k w

-- Octets come, and the frames behind the first are taken one by one.
pub record LinksRead (c : Conf) : Type 0 where
  pub comes : (p : ℕ) (names : ℕ → Option ℕ) (m : Multi) (x : Conn) (l : Link Request) (v : View) → IsLinkAt c p names l m x [] (dues v) v.ticket → IsFair v → (octets : Octets)
      → Leads (HasRead c p names (set_conn p (fed_by octets x) m) (fed_by octets x) (record l { octets = l.octets ++ octets }) v (fed x.got octets).frames) (plain_step for_one for_several (told (Bytes p octets)) l v)
  pub more : (p : ℕ) (names : ℕ → Option ℕ) (m : Multi) (x : Conn) (l : Link Request) (v : View) (frames : List Octets) → IsLinkAt c p names l m x frames (dues v) v.ticket → IsFair v
      → Leads (HasRead c p names m x l v frames) (plain_step for_one for_several (more_at p) l v)
