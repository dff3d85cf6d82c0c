-- Octets that come in two pieces at one moment, and what they do in one.
use Rattle.std.specs.Prelude.{◌≡◌, ℕ, zero, suc, false, if◌then◌else◌, List, ◌++◌, length, Some, option_and_then}
use Rattle.client_request.specs.Requests.{Requests}
use Rattle.client_request.specs.View.{View, told, more_at}
use Rattle.client_request.specs.declared.event.What.TheVariants.{Bytes}
use Rattle.client_stream.specs.Plain.{Stream, AfterAll, plain_step}

module _ {R M : Type 0} (one : Requests R) (several : Requests M) where
  -- up to so many more frames are taken, one by one, while the view says that one stands
  abbrev pub takes_more : ℕ → Stream R M → View → AfterAll R M
  takes_more zero s v = Some (s, v)
  takes_more (suc n) s v =
      if v.more then option_and_then (λ x. takes_more n x.0 x.1) (plain_step one several (more_at s.place) s (record v { more = false })) else Some (s, v)

  -- Octets come at its place, and then each whole frame is taken. There are no more frames than octets.
  abbrev pub brings : List ℕ → Stream R M → View → AfterAll R M
  brings piece s v =
      option_and_then (λ x. takes_more (length (s.octets ++ piece)) x.0 x.1) (plain_step one several (told (Bytes s.place piece)) s (record v { more = false }))

  abbrev pub CuttingLaw : Type 0
  CuttingLaw = (a b : List ℕ) (s : Stream R M) (v : View) → brings (a ++ b) s v ≡ option_and_then (λ x. brings b x.0 x.1) (brings a s v)
