-- What a connection writes for a request.
use Rattle.std.specs.Prelude.{◌≡◌, ℕ, ◌<◌, ◌≤◌, Bool, false, List, length, Some, None}
use Rattle.client_request.specs.Carries.{IsOfOctets}
use Rattle.client_request.specs.Request.{Request, is_answered}
use Rattle.client_request.specs.Requests.{for_one}
use Rattle.client_stream.specs.Plain.{frame_of, readied}
use Rattle.right_trace.specs.Messages.{CarriesInFrame, answers, is_valid}

-- A request as it is written under an id: its frame carries it, what answers it answers what was asked under that id, and none is made only where it is not valid.
pub record FramesCarry : Type 0 where
  pub carries : (r : Request) (id : ℕ) (had : Bool) (octets : List ℕ) → IsOfOctets r → id < 65536 → frame_of for_one (readied for_one id had r) ≡ Some octets → CarriesInFrame octets r id
  pub some : (r : Request) (octets : List ℕ) → frame_of for_one r ≡ Some octets → 2 ≤ length octets
  pub none : (r : Request) (id : ℕ) (had : Bool) → IsOfOctets r → frame_of for_one (readied for_one id had r) ≡ None → is_valid r ≡ false
  pub answered : (r : Request) (id : ℕ) (had : Bool) (octets : List ℕ) → id < 65536 → is_answered octets (readied for_one id had r) ≡ answers r id octets
