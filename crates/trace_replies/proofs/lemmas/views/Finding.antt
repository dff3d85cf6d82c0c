-- What is found among the replies to a question is what the definitions say of all earlier requests.
use Rattle.std.proofs.Common.{◌≡◌, ◌≤◌, ◌<◌, ℕ, suc, ◌+◌, ◌-◌, ◌==◌, ◌&&◌, Bool, true, false, List, [], ◌∷◌, refl, sym, ap, ap₂, ◌∙◌, subst, arith}
use Rattle.std.specs.Prelude.{Option, Some, None, Ok, nat_lt, if◌then◌else◌}
use Rattle.std.proofs.lemmas.Bool.Decides.{nat_tests}
use Rattle.number_table.specs.Entries.{entry_at}
use Rattle.client_request.specs.Request.{Request}
use Rattle.client_request.specs.declared.event.What.{What}
use Rattle.right_trace.specs.Trace.{History, Conf, Came, Put}
use Rattle.right_trace.specs.Time.{now, newest, Ever}
use Rattle.right_trace.specs.{Messages.Octets, Settings.Settings, Parts.IsIn}
use Rattle.right_trace.specs.Requests.{Asking, asking, asks, is_ask, is_asked_here}
use Rattle.right_trace.specs.Keys.{Key, KeysCover, Covers, Plain, key_of, is_cacheable}
use Rattle.right_trace.specs.Validity.{is_above, validity_of_message}
use Rattle.trace_tables.specs.declared.requests.Requests.{Requests}
use Rattle.trace_tables.specs.Requests as requests
use Rattle.trace_points.specs.questions.Outs.{Tells}
use Rattle.trace_replies.specs.declared.given.asks.Asks.{Asks}
use Rattle.trace_replies.specs.declared.given.earlier.Earlier.{Earlier}
use Rattle.trace_replies.specs.given.Asks.{IsAsked, common}
use Rattle.trace_replies.specs.given.Earlier.{Table, replies_to, IsGiven}
use Rattle.trace_replies.specs.given.Earlier as earlier
use Rattle.trace_replies.specs.declared.views.serving.Manner.{Manner}
use Rattle.trace_replies.specs.declared.views.serving.Manner.TheVariants.{Valid, Expired}
use Rattle.trace_replies.specs.views.Among.{Yes, No, TellsSome}
use Rattle.trace_replies.proofs.lemmas.views.Among.{none_there}
use Rattle.trace_replies.specs.views.Serving.{IsGivenOf, Gives, asked_here_seen, IsFound, TellsFound, TellsView, TellsSupplied}

pub same_asking : (o : Option Asking) (a b : Asking) → o ≡ Some a → o ≡ Some b → a ≡ b
same_asking o a b p q = let z : Some a ≡ Some b = sym p ∙ q in cc

pub none_some : (o : Option Asking) (a : Asking) → o ≡ None → o ≡ Some a → ⊥
none_some o a p q = absurd (let z : None ≡ Some a = sym p ∙ q in cc)

-- what is given has a validity
worth_of : (u : Manner) (s : Settings) (q r : Request) (kept : Octets) (age : ℕ) (m : Octets) → IsGivenOf u s q r kept age m → is_above (validity_of_message s kept) ≡ true
worth_of Valid s q r kept age m v = ap is_above v.valid.is_validity ∙ above v.valid.validity v.valid.kept
  where
    above : (n : ℕ) → 0 < n → nat_lt 0 n ≡ true
    above n lt = grind (arith, nat_tests)
worth_of Expired s q r kept age m v = ap is_above v.valid.is_validity ∙ above v.valid.validity v.valid.kept
  where
    above : (n : ℕ) → 0 < n → nat_lt 0 n ≡ true
    above n lt = grind (arith, nat_tests)

pub common_same : (q r : Key) → KeysCover q r → common q ≡ common r
common_same q r c = parts c.name c.rtype c.class c.cd
  where
    parts : q.name ≡ r.name → q.rtype ≡ r.rtype → q.class ≡ r.class → q.cd ≡ r.cd
        → Path Key (record { name = q.name; rtype = q.rtype; class = q.class; flags = Plain; cd = q.cd; rd = false }) (record { name = r.name; rtype = r.rtype; class = r.class; flags = Plain; cd = r.cd; rd = false })
    parts n t d e = cc

asked_as : (a : Asking) → Path Asking a (record { request = a.request; moment = a.moment })
asked_as a = refl

age_is : (t n : ℕ) → t ≤ n → t + (n - t) ≡ n
age_is t n le = omega arith

age_of : (t age n : ℕ) → t + age ≡ n → age ≡ n - t
age_of t age n e = omega arith

module _ (u : Manner) (s : Settings) (k : ℕ) (m : Octets) (r : Requests) (t : Table) (c : Conf) (h : History) (kr : requests.Known h r) (kt : earlier.Known c s h t) where
  -- the request was asked, and its results are kept
  module _ (a : Asking) (its : Asks) (is : entry_at k r.askings ≡ Some a) (asked : IsAsked a.request its) where
    was_asked : asking k h ≡ Some a
    was_asked = sym (kr.askings k) ∙ is

    supply : (e : Earlier) → IsIn e (replies_to its.key t) → Yes (Gives u s k r.clock m) its e → IsFound u c s k m h
    supply e i holds =
        let q = kt.so its.key e i in
        let g = holds q.asked_as.request a.request asked q.key q.flags in
        let at = kr.time in
        record {
          first = q.asked_as.request;
          request = a.request;
          message = g.kept;
          age = r.clock - e.moment;
          supplied = record {
            number = e.request;
            earlier = record { asked = (a.moment, was_asked); below = g.below; first_asked = (q.asked_as.moment, q.asked); covering = record { first = q.cacheable; second = asked.cacheable; keys = g.covers } };
            moment = e.moment;
            got = subst (λ x. Ever (IsGiven c s e.request x e.moment) h) g.is q.got;
            is_age = age_is e.moment r.clock (let p = q.past in omega arith) ∙ at;
          };
          given = g.given;
        }

    module _ (f : IsFound u c s k m h) where
      same_request : f.request ≡ a.request
      same_request = ap (λ (a : Asking). a.request) (same_asking (asking k h) (record { request = f.request; moment = f.supplied.earlier.asked.0 }) a f.supplied.earlier.asked.1 was_asked)

      covering : Covers f.first a.request
      covering = subst (Covers f.first) same_request f.supplied.earlier.covering

      given : IsGivenOf u s f.first a.request f.message (r.clock - f.supplied.moment) m
      given = subst (λ n. IsGivenOf u s f.first a.request f.message n m) (age_of f.supplied.moment f.age (now h) f.supplied.is_age ∙ ap (λ n. n - f.supplied.moment) (sym kr.time))
          (subst (λ r. IsGivenOf u s f.first r f.message f.age m) same_request f.given)

      abbrev first_asking : Asking
      first_asking = record { request = f.first; moment = f.supplied.earlier.first_asked.0 }

      among : earlier.IsAmong first_asking f.supplied.number (Ok f.message) f.supplied.moment (replies_to (common (key_of f.first)) t)
      among = kt.back f.supplied.number (Ok f.message) f.supplied.moment first_asking f.supplied.got (worth_of u s f.first a.request f.message (r.clock - f.supplied.moment) m given) f.supplied.earlier.first_asked.1 covering.first

      -- a reply that gives it is among those to the question
      none_found : ((e : Earlier) → IsIn e (replies_to its.key t) → No (Gives u s k r.clock m) its e) → ⊥
      none_found fails =
          let same : common (key_of f.first) ≡ its.key = common_same (key_of f.first) (key_of a.request) covering.keys ∙ sym asked.key in
          let it : Earlier = record { request = f.supplied.number; flags = among.flags; moment = f.supplied.moment; outcome = Ok f.message } in
          fails it (subst (λ k. IsIn it (replies_to k t)) same among.there)
          f.first a.request asked same among.has
          (record { below = f.supplied.earlier.below; covers = covering.keys; kept = f.message; is = refl; given = given })

    told : (b : Bool) → TellsSome (Gives u s k r.clock m) its (replies_to its.key t) b → Tells (IsFound u c s k m h) b
    told b tells = ((λ e. (let x = tells.so e in supply x.0 x.1 x.2)), (λ f. go b refl f))
      where
        go : (d : Bool) → b ≡ d → IsFound u c s k m h → b ≡ true
        go true e f = e
        go false e f = absurd (none_found f (tells.non e (now h) (kt.order its.key)))

  not_asked : entry_at k r.askings ≡ None → Tells (IsFound u c s k m h) false
  not_asked none = ((λ e. absurd (cc)), (λ f. absurd (none_some (asking k h) (record { request = f.request; moment = f.supplied.earlier.asked.0 }) (sym (kr.askings k) ∙ none) f.supplied.earlier.asked.1)))

  not_kept : (a : Asking) → entry_at k r.askings ≡ Some a → is_cacheable a.request ≡ false → Tells (IsFound u c s k m h) false
  not_kept a is fails = (
    (λ e. absurd (cc)),
    (λ f. absurd (
        let same = ap (λ (a : Asking). a.request) (same_asking (asking k h) (record { request = f.request; moment = f.supplied.earlier.asked.0 }) a f.supplied.earlier.asked.1 (sym (kr.askings k) ∙ is)) in
        let z : true ≡ false = sym f.supplied.earlier.covering.second ∙ (ap is_cacheable same ∙ fails) in
        cc)),
  )

module _ (u : Manner) (s : Settings) (k : ℕ) (m : Octets) (r : Requests) (t : Table) where
  pub found_none : entry_at k r.askings ≡ None → TellsFound u s k m r t false
  found_none none c h kr kt = not_asked u s k m r t c h kr kt none

  pub found_unkept : (a : Asking) → entry_at k r.askings ≡ Some a → is_cacheable a.request ≡ false → TellsFound u s k m r t false
  found_unkept a is fails c h kr kt = not_kept u s k m r t c h kr kt a is fails

  pub found_some : (a : Asking) (its : Asks) (b : Bool) → entry_at k r.askings ≡ Some a → IsAsked a.request its → TellsSome (Gives u s k r.clock m) its (replies_to its.key t) b → TellsFound u s k m r t b
  found_some a its b is asked tells c h kr kt = told u s k m r t c h kr kt a its is asked b tells

  pub found_no_reply : (a : Asking) (its : Asks) → entry_at k r.askings ≡ Some a → IsAsked a.request its → [] ≡ replies_to its.key t → TellsFound u s k m r t false
  found_no_reply a its is asked none = found_some a its false is asked (none_there (Gives u s k r.clock m) its (replies_to its.key t) (sym none))

  pub found_among : (a : Asking) (its : Asks) (es : List Earlier) (b : Bool) → entry_at k r.askings ≡ Some a → IsAsked a.request its → es ≡ replies_to its.key t → TellsSome (Gives u s k r.clock m) its es b → TellsFound u s k m r t b
  found_among a its es b is asked same tells = found_some a its b is asked (subst (λ es. TellsSome (Gives u s k r.clock m) its es b) same tells)

-- ---- the row of the asking

asked_here_is : (k : ℕ) (h : History) → is_asked_here k h ≡ (is_ask (newest h) && (asks h == k + 1))
asked_here_is k [] = refl
asked_here_is k (Came e ∷ h) = go (is_ask e.what)
  where
    go : (b : Bool) → (b && (asks h == k)) ≡ (b && ((if b then suc (asks h) else asks h) == k + 1))
    go true = same (asks h)
      where
        same : (n : ℕ) → (n == k) ≡ (suc n == k + 1)
        same n = grind (arith, nat_tests)
    go false = refl
asked_here_is k (Put o ∷ h) = asked_here_is k h

pub here_is : (k : ℕ) (w : What) (r : Requests) (h : History) → newest h ≡ w → requests.Known h r → asked_here_seen k w r ≡ is_asked_here k h
here_is k w r h is kr = ap₂ (λ w n. is_ask w && (n == k + 1)) (sym is) kr.count ∙ sym (asked_here_is k h)

pub not_here : (s : Settings) (k : ℕ) (m : Octets) (w : What) (r : Requests) (t : Table) → asked_here_seen k w r ≡ false → TellsView s k m w r t false
not_here s k m w r t fails c h is kr kt = ((λ e. absurd (cc)), (λ v. absurd (let z : true ≡ false = sym v.asked_here ∙ (sym (here_is k w r h is kr) ∙ fails) in cc)))

pub view_told : (s : Settings) (k : ℕ) (m : Octets) (w : What) (r : Requests) (t : Table) (b : Bool) → asked_here_seen k w r ≡ true → TellsFound Valid s k m r t b → TellsView s k m w r t b
view_told s k m w r t b holds tells c h is kr kt = (
  (λ e. (
      let f = (tells c h kr kt).0 e in
      record { asked_here = sym (here_is k w r h is kr) ∙ holds; first = f.first; request = f.request; message = f.message; age = f.age; supplied = f.supplied; parts = f.given.parts; valid = f.given.valid; says = f.given.says })),
  (λ v. (tells c h kr kt).1 (record { first = v.first; request = v.request; message = v.message; age = v.age; supplied = v.supplied; given = record { parts = v.parts; valid = v.valid; says = v.says } })),
)

pub supplied_told : (s : Settings) (k : ℕ) (m : Octets) (r : Requests) (t : Table) (b : Bool) → TellsFound Expired s k m r t b → TellsSupplied s k m r t b
supplied_told s k m r t b tells c h kr kt = (
  (λ e. (let f = (tells c h kr kt).0 e in record { first = f.first; request = f.request; message = f.message; age = f.age; supplied = f.supplied; parts = f.given.parts; valid = f.given.valid; says = f.given.says })),
  (λ v. (tells c h kr kt).1 (record { first = v.first; request = v.request; message = v.message; age = v.age; supplied = v.supplied; given = record { parts = v.parts; valid = v.valid; says = v.says } })),
)
