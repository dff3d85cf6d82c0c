-- Parts that are compared as equal are equal, and each part is equal to itself.
use Rattle.std.specs.Prelude.{if◌then◌else◌}
use Rattle.std.proofs.Common.{◌≡◌, ℕ, Bool, true, false, ◌==◌, ◌&&◌, List, Option, Some, None, refl, sym, ap, subst, ◌∙◌}
use Rattle.dns_base.specs.OptRecord.{OptFields}
use Rattle.client_request.specs.Request.{Request}
use Rattle.client_request.specs.declared.fault.Fault.{Fault}
use Rattle.client_request.specs.declared.fault.Fault.TheVariants as fault
use Rattle.client_request.specs.declared.event.{Event.Event, Moment.Moment, What.What}
use Rattle.client_request.specs.declared.event.What.TheVariants.{Ask, Opened, OpenFailed, SendFailed, ShortSend, Datagram, RecvFailed, Wrote, WriteFailed, Bytes, ReadFailed, Ended, Tick}
use Rattle.message_judging.specs.matching.Shapes.{same_octets}
use Rattle.message_judging.proofs.lemmas.matching.Names.{number_same, same_number, octets_same, same_octets_are}
use Rattle.trace_points.specs.questions.Outs.{Tells}
use Rattle.trace_points.proofs.lemmas.questions.Deciding.{both, all}
use Rattle.trace_points.specs.events.Same.{same_fields, same_opt, same_request, number_of, same_fault, same_what, same_event, TellsSame}

own_number : (n : ℕ) → (n == n) ≡ true
own_number n = same_number n n refl

own_octets : (xs : List ℕ) → same_octets xs xs ≡ true
own_octets xs = same_octets_are xs xs refl

made_fields : (s t x y v u f g : ℕ) (o p : List ℕ) → s ≡ t → x ≡ y → v ≡ u → f ≡ g → o ≡ p
    → (let a : OptFields = record { udp_payload_size = s; ext_rcode = x; version = v; flags = f; options = o } in a) ≡ record { udp_payload_size = t; ext_rcode = y; version = u; flags = g; options = p }
made_fields s t x y v u f g o p a b c d e = cc

fields_same : (a b : OptFields) → same_fields a b ≡ true → a ≡ b
fields_same a b e =
    let size = both _ _ e in let ext = both _ _ size.1 in let version = both _ _ ext.1 in let flags = both _ _ version.1 in
    made_fields a.udp_payload_size b.udp_payload_size a.ext_rcode b.ext_rcode a.version b.version a.flags b.flags a.options b.options
    (number_same a.udp_payload_size b.udp_payload_size size.0)
    (number_same a.ext_rcode b.ext_rcode ext.0)
    (number_same a.version b.version version.0)
    (number_same a.flags b.flags flags.0)
    (octets_same a.options b.options flags.1)

own_fields : (a : OptFields) → same_fields a a ≡ true
own_fields a =
    all _ _ (own_number a.udp_payload_size)
    (all _ _ (own_number a.ext_rcode) (all _ _ (own_number a.version) (all _ _ (own_number a.flags) (own_octets a.options))))

opt_same : (a b : Option OptFields) → same_opt a b ≡ true → a ≡ b
opt_same None None e = refl
opt_same None (Some b) e = absurd (cc)
opt_same (Some a) None e = absurd (cc)
opt_same (Some a) (Some b) e = ap Some (fields_same a b e)

own_opt : (a : Option OptFields) → same_opt a a ≡ true
own_opt None = refl
own_opt (Some a) = own_fields a

made_request : (b c h i : List ℕ) (o p : Option OptFields) → b ≡ c → h ≡ i → o ≡ p → (let r : Request = record { base = b; header = h; opt = o } in r) ≡ record { base = c; header = i; opt = p }
made_request b c h i o p x y z = cc

request_same : (a b : Request) → same_request a b ≡ true → a ≡ b
request_same a b e =
    let base = both _ _ e in let header = both _ _ base.1 in
    made_request a.base b.base a.header b.header a.opt b.opt (octets_same a.base b.base base.0) (octets_same a.header b.header header.0) (opt_same a.opt b.opt header.1)

own_request : (a : Request) → same_request a a ≡ true
own_request a = all _ _ (own_octets a.base) (all _ _ (own_octets a.header) (own_opt a.opt))

-- the fault of a number
fault_of : ℕ → Fault
fault_of n = if n == 0 then fault.Refused else (if n == 1 then fault.Reset else (if n == 2 then fault.Unreachable else (if n == 3 then fault.InUse else (if n == 4 then fault.Broken else (if n == 5 then fault.Other else (if n == 6 then fault.Expired else (if n == 7 then fault.ShortSend else (if n == 8 then fault.NothingTaken else fault.EndOfData))))))))

numbered : (f : Fault) → fault_of (number_of f) ≡ f
unfolding fault_of
numbered fault.Refused = refl
numbered fault.Reset = refl
numbered fault.Unreachable = refl
numbered fault.InUse = refl
numbered fault.Broken = refl
numbered fault.Other = refl
numbered fault.Expired = refl
numbered fault.ShortSend = refl
numbered fault.NothingTaken = refl
numbered fault.EndOfData = refl

fault_same : (f g : Fault) → same_fault f g ≡ true → f ≡ g
fault_same f g e = sym (numbered f) ∙ (ap fault_of (number_same (number_of f) (number_of g) e) ∙ numbered g)

own_fault : (f : Fault) → same_fault f f ≡ true
own_fault f = own_number (number_of f)

-- at the same place with the same fault
placed_fault : (make : ℕ → Fault → What) (p q : ℕ) (f g : Fault) → ((p == q) && same_fault f g) ≡ true → make p f ≡ make q g
placed_fault make p q f g e = let x = both (p == q) (same_fault f g) e in let y = number_same p q x.0 in let z = fault_same f g x.1 in cc

placed_octets : (make : ℕ → List ℕ → What) (p q : ℕ) (o u : List ℕ) → ((p == q) && same_octets o u) ≡ true → make p o ≡ make q u
placed_octets make p q o u e = let x = both (p == q) (same_octets o u) e in let y = number_same p q x.0 in let z = octets_same o u x.1 in cc

placed_number : (make : ℕ → ℕ → What) (p q n m : ℕ) → ((p == q) && (n == m)) ≡ true → make p n ≡ make q m
placed_number make p q n m e = let x = both (p == q) (n == m) e in let y = number_same p q x.0 in let z = number_same n m x.1 in cc

what_same : (a b : What) → same_what a b ≡ true → a ≡ b
what_same (Ask r) (Ask s) e = ap Ask (request_same r s e)
what_same (Opened p) (Opened q) e = ap Opened (number_same p q e)
what_same (OpenFailed p f) (OpenFailed q g) e = placed_fault OpenFailed p q f g e
what_same (SendFailed p f) (SendFailed q g) e = placed_fault SendFailed p q f g e
what_same (ShortSend p) (ShortSend q) e = ap ShortSend (number_same p q e)
what_same (Datagram p o) (Datagram q u) e = placed_octets Datagram p q o u e
what_same (RecvFailed p f) (RecvFailed q g) e = placed_fault RecvFailed p q f g e
what_same (Wrote p n) (Wrote q m) e = placed_number Wrote p q n m e
what_same (WriteFailed p f) (WriteFailed q g) e = placed_fault WriteFailed p q f g e
what_same (Bytes p o) (Bytes q u) e = placed_octets Bytes p q o u e
what_same (ReadFailed p f) (ReadFailed q g) e = placed_fault ReadFailed p q f g e
what_same (Ended p) (Ended q) e = ap Ended (number_same p q e)
what_same Tick Tick e = refl
what_same _ _ e = absurd (cc)

own_what : (a : What) → same_what a a ≡ true
own_what (Ask r) = own_request r
own_what (Opened p) = own_number p
own_what (OpenFailed p f) = all _ _ (own_number p) (own_fault f)
own_what (SendFailed p f) = all _ _ (own_number p) (own_fault f)
own_what (ShortSend p) = own_number p
own_what (Datagram p o) = all _ _ (own_number p) (own_octets o)
own_what (RecvFailed p f) = all _ _ (own_number p) (own_fault f)
own_what (Wrote p n) = all _ _ (own_number p) (own_number n)
own_what (WriteFailed p f) = all _ _ (own_number p) (own_fault f)
own_what (Bytes p o) = all _ _ (own_number p) (own_octets o)
own_what (ReadFailed p f) = all _ _ (own_number p) (own_fault f)
own_what (Ended p) = own_number p
own_what Tick = refl

made_event : (m n : Moment) (v w : What) → m.0 ≡ n.0 → v ≡ w → (let e : Event = record { moment = m; what = v } in e) ≡ record { moment = n; what = w }
made_event m n v w x y = ap (λ (t : ℕ). let e : Event = record { moment = record { 0 = t }; what = v } in e) x ∙ ap (λ (u : What). let e : Event = record { moment = n; what = u } in e) y

event_same : (a b : Event) → same_event a b ≡ true → a ≡ b
event_same a b e =
    let x = both (a.moment.0 == b.moment.0) (same_what a.what b.what) e in
    made_event a.moment b.moment a.what b.what (number_same a.moment.0 b.moment.0 x.0) (what_same a.what b.what x.1)

pub tells_same : (a b : Event) (t : Bool) → t ≡ same_event a b → TellsSame a b t
tells_same a b t e = (λ y. event_same a b (sym e ∙ y), λ same. e ∙ (ap (same_event a) (sym same) ∙ all _ _ (own_number a.moment.0) (own_what a.what)))
