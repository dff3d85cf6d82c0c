-- Faults that differ make errors that differ.
use Rattle.std.proofs.Common.{◌≡◌, Bool, Option, Some, ap}
use Rattle.client_request.specs.declared.fault.Fault.{Fault}
use Rattle.client_request.specs.declared.error.Error.{Error}
use Rattle.client_request.specs.declared.error.Error.TheVariants as errors
use Rattle.client_request.specs.declared.error.QueryError.TheVariants as query
use Rattle.trace_points.specs.questions.Outs.{Tells}

pub sending_told : (a f : Fault) (b : Bool) → Tells (a ≡ f) b → Tells (errors.Dgram (query.Send a) ≡ errors.Dgram (query.Send f)) b
sending_told a f b t = ((λ u. ap (λ f. errors.Dgram (query.Send f)) (t.0 u)), (λ q. t.1 (let z : a ≡ f = cc in z)))

pub receiving_told : (a f : Fault) (b : Bool) → Tells (a ≡ f) b → Tells (errors.Dgram (query.Receive a) ≡ errors.Dgram (query.Receive f)) b
receiving_told a f b t = ((λ u. ap (λ f. errors.Dgram (query.Receive f)) (t.0 u)), (λ q. t.1 (let z : a ≡ f = cc in z)))

pub some_told : (a e : Error) (b : Bool) → Tells (a ≡ e) b → Tells (Path (Option Error) (Some a) (Some e)) b
some_told a e b t = ((λ u. ap Some (t.0 u)), (λ q. t.1 (let z : a ≡ e = cc in z)))
