-- Reconnection is tied.
use Rattle.std.proofs.Common.{◌≡◌, ℕ, false, refl}
use Rattle.client_request.specs.View.{View, told}
use Rattle.client_request.specs.declared.event.What.{What}
use Rattle.client_request.specs.declared.event.What.TheVariants.{Ask, Opened, OpenFailed, SendFailed, ShortSend, Datagram, RecvFailed, Wrote, WriteFailed, Bytes, ReadFailed, Ended, Tick}
use Rattle.right_trace.specs.Trace.{Conf}
use Rattle.proof_right.specs.machine.Served.{Served, served}
use Rattle.proof_parts.specs.Chains.{Chain}
use Rattle.proof_parts.specs.PartTie.{Leads, Tells, MayLeave}
use Rattle.proof_parts.specs.Sights.{sight, IsFair}
use Rattle.proof_multi.specs.Servers.{desk_of}
use Rattle.proof_multi.specs.Tied.{Streams, by_streams, IsUntold, AreEarly, TiedAs, names_of, owns, StreamsAreTiedAs}
use Rattle.proof_multi.proofs.Coming.{octets_come, frame_taken}
use Rattle.proof_multi.proofs.Fields.{begins_fresh, stays_same, has_set, is_named, is_held, none_due, row_begins, it_rests}
use Rattle.proof_multi.proofs.Hearing.{tells_one}
use Rattle.proof_multi.proofs.Passing.{takes_on, gives_up}
use Rattle.proof_multi.proofs.Tying.{timer_fires}

told_of : (c : Conf) (s : ℕ) (u : Streams) (v : View) (a : Served) (w : What) → IsUntold c s w u (sight v) a → IsFair v → AreEarly (desk_of u.tables) (sight v) → v.more ≡ false → Leads (Tells (served c) (TiedAs c s) names_of owns (Chain (served c) s v.place a) u v (MayLeave w)) (by_streams.step (told w) u v)
told_of c s u v a (Ask r) t fair early calm = tells_one c s u v a (Ask r) t fair early calm (λ p o e. cc)
told_of c s u v a (Opened p) t fair early calm = tells_one c s u v a (Opened p) t fair early calm (λ q o e. cc)
told_of c s u v a (OpenFailed p f) t fair early calm = tells_one c s u v a (OpenFailed p f) t fair early calm (λ q o e. cc)
told_of c s u v a (SendFailed p f) t fair early calm = tells_one c s u v a (SendFailed p f) t fair early calm (λ q o e. cc)
told_of c s u v a (ShortSend p) t fair early calm = tells_one c s u v a (ShortSend p) t fair early calm (λ q o e. cc)
told_of c s u v a (Datagram p x) t fair early calm = tells_one c s u v a (Datagram p x) t fair early calm (λ q o e. cc)
told_of c s u v a (RecvFailed p f) t fair early calm = tells_one c s u v a (RecvFailed p f) t fair early calm (λ q o e. cc)
told_of c s u v a (Wrote p n) t fair early calm = tells_one c s u v a (Wrote p n) t fair early calm (λ q o e. cc)
told_of c s u v a (WriteFailed p f) t fair early calm = tells_one c s u v a (WriteFailed p f) t fair early calm (λ q o e. cc)
told_of c s u v a (Bytes p x) t fair early calm = octets_come c s u v a p x t fair early calm
told_of c s u v a (ReadFailed p f) t fair early calm = tells_one c s u v a (ReadFailed p f) t fair early calm (λ q o e. cc)
told_of c s u v a (Ended p) t fair early calm = tells_one c s u v a (Ended p) t fair early calm (λ q o e. cc)
told_of c s u v a Tick t fair early calm = tells_one c s u v a Tick t fair early calm (λ q o e. cc)

pub streams_are_tied : StreamsAreTiedAs
streams_are_tied c s several used = record {
  fresh = λ x now. begins_fresh c s several x now;
  same = λ phase u x y a t now due timer ticket place. stays_same c s phase u x y a t now due timer ticket place;
  set = λ phase u x a i t o. has_set c s phase u x a i t o;
  named = λ phase u x a i k t e. is_named c s phase u x a i k t e;
  held = λ phase u x a k t e. is_held c s phase u x a k t e;
  response = λ r u v. refl;
  quiet = λ phase u x a was t. none_due c s phase u x a was t;
  begins = λ phase u x a e end t. row_begins c s phase u x a e end t;
  rests = λ phase u v a end early t. it_rests c s phase u v a end early t;
  fires = λ u v a w i due t fair set late. timer_fires c s u v a w i due t fair set late;
  sends = λ phase u v a r calm t fair octets free. takes_on c s used phase u v a r calm t fair octets free;
  cancels = λ phase u v a r k calm t fair named. gives_up c s phase u v a r k calm t fair named;
  tells = λ u v a w t fair early calm. told_of c s u v a w t fair early calm;
  takes = λ u v a p n t fair early calm. frame_taken c s u v a p n t fair early calm;
}
