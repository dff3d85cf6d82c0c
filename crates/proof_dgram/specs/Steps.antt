-- Moves of a server by datagrams, one after another, each with the result that it gives at once.
use Rattle.std.specs.Prelude.{◌≡◌, ℕ, [], ◌∷◌, Some, Result}
use Rattle.client_request.specs.declared.error.Error.{Error}
use Rattle.right_trace.specs.Messages.{Octets}
use Rattle.proof_right.specs.machine.Part.{Act}
use Rattle.proof_right.specs.machine.Streams as multi
use Rattle.proof_right.specs.machine.Dgrams.{Ending, Tryer, Dgrams, forget, Tries}
use Rattle.proof_right.specs.machine.Served.{IsSettled, place_after, outs_of, posts_of}
use Rattle.proof_parts.specs.Chains.{still, then_act}
use Rattle.right_trace.specs.Trace.{Conf}

-- what a small move makes
abbrev pub made_by : (place : ℕ) → multi.Act → Dgrams → Act Dgrams
made_by place x d = record { state = d; place = place_after x place; outs = outs_of x; posts = posts_of x }

-- What follows at once: nothing, or the result of a request that has one.
pub data AtOnce (place : ℕ) (x : multi.Act) (d : Dgrams) : Act Dgrams → Type 0 where
  AsItIs : IsSettled d → AtOnce place x d (made_by place x d)
  WithResult : (k : ℕ) (a : Tryer) (y : Result Octets Error) → d.held k ≡ Some a → a.stage ≡ Ending y → AtOnce place x d (record { state = forget k d; place = place_after x place; outs = outs_of x; posts = record { request = k; result = y } ∷ [] })

-- of server s, at moment n
pub data Steps (c : Conf) (s n : ℕ) : (place : ℕ) → Dgrams → Act Dgrams → Type 0 where
  Rests : (place : ℕ) (d : Dgrams) → Steps c s n place d (still place d)
  Steps_on : (place : ℕ) (d : Dgrams) (x : multi.Act) (k : Dgrams) (e g : Act Dgrams) → Tries c s n place d x k → AtOnce place x k e → Steps c s n e.place e.state g → Steps c s n place d (then_act e g)
