-- What is found of errors among the replies to a question is what the definitions say of all earlier requests.
use Rattle.std.proofs.Common.{◌≡◌, ◌≤◌, ◌<◌, ℕ, ◌+◌, Bool, true, false, List, [], refl, sym, ap, ◌∙◌, subst, arith}
use Rattle.std.specs.Prelude.{Some, None, Err, is_ok, nat_lt, not}
use Rattle.std.proofs.lemmas.Bool.Decides.{nat_tests}
use Rattle.number_table.specs.Entries.{entry_at}
use Rattle.client_request.specs.declared.error.Error.{Error}
use Rattle.client_request.specs.declared.event.What.{What}
use Rattle.right_trace.specs.Trace.{History, Conf}
use Rattle.right_trace.specs.Time.{now, Ever}
use Rattle.right_trace.specs.{Settings.Settings, Parts.IsIn, Errors.is_deadline}
use Rattle.right_trace.specs.Requests.{Asking, asking}
use Rattle.right_trace.specs.Keys.{Covers, key_of, is_cacheable}
use Rattle.trace_tables.specs.declared.requests.Requests.{Requests}
use Rattle.trace_tables.specs.Requests as requests
use Rattle.trace_points.specs.questions.Outs.{Tells}
use Rattle.trace_replies.specs.declared.given.asks.Asks.{Asks}
use Rattle.trace_replies.specs.declared.given.earlier.Earlier.{Earlier}
use Rattle.trace_replies.specs.given.Asks.{IsAsked, common, covers_flags}
use Rattle.trace_replies.specs.given.Earlier.{Table, replies_to, IsGiven}
use Rattle.trace_replies.specs.given.Earlier as earlier
use Rattle.trace_replies.proofs.lemmas.given.Asking.{covers_so, so_covers}
use Rattle.trace_replies.specs.views.Among.{Yes, No, TellsOne, TellsSome}
use Rattle.trace_replies.specs.views.{Serving.asked_here_seen, Telling.same_error}
use Rattle.trace_replies.specs.views.Errors.{GivesError, IsRecent, IsFound, TellsFound, TellsKept}
use Rattle.trace_replies.proofs.lemmas.views.Among.{never, none_there}
use Rattle.trace_replies.proofs.lemmas.views.Numbering.{errors_same, same_errors}
use Rattle.trace_replies.proofs.lemmas.views.Finding.{same_asking, none_some, common_same, here_is}

module _ (s : Settings) (k : ℕ) (a : Asks) (n : ℕ) (x : Error) (e : Earlier) where
  pub a_message : is_ok e.outcome ≡ true → No (GivesError s k n x) a e
  a_message is q r asked key has g = absurd (let z : true ≡ false = sym is ∙ ap is_ok g.is in cc)

  pub not_below : k ≤ e.request → No (GivesError s k n x) a e
  not_below le q r asked key has g = absurd (let lt = g.below in omega arith)

  pub not_covered : covers_flags e.flags a.flags a.key.rtype ≡ false → No (GivesError s k n x) a e
  not_covered f q r asked key has g = never (covers_flags e.flags a.flags a.key.rtype) (so_covers q r e.flags a.flags a.key (sym key) asked.key has asked.flags g.covers) f

  pub another : (y : Error) → e.outcome ≡ Err y → (y ≡ x → ⊥) → No (GivesError s k n x) a e
  another y is differs q r asked key has g = differs (let z : Err x ≡ Err y = sym g.is ∙ is in cc)

  pub the_error : IsRecent s n e → e.outcome ≡ Err x → e.request < k → covers_flags e.flags a.flags a.key.rtype ≡ true → Yes (GivesError s k n x) a e
  the_error recent is below covers q r asked key has = record { below = below; covers = covers_so q r e.flags a.flags a.key (sym key) asked.key has asked.flags covers; is = is; recent = recent }

  pub error_told : (y : Error) (b : Bool) → e.outcome ≡ Err y → e.request < k → covers_flags e.flags a.flags a.key.rtype ≡ true → b ≡ same_error y x → IsRecent s n e → TellsOne (GivesError s k n x) a e b
  error_told y b is below covers same recent = record {
    so = λ holds. the_error recent (subst (λ (y : Error). e.outcome ≡ Err y) (errors_same y x (sym same ∙ holds)) is) below covers;
    non = λ fails. another y is (λ alike. never b (same ∙ same_errors y x alike) fails);
  }

below : (a b : ℕ) → nat_lt a b ≡ true → a < b
below a b e = grind (arith, nat_tests)

pub too_old : (s : Settings) (k : ℕ) (a : Asks) (n : ℕ) (x : Error) (t : ℕ) → nat_lt (t + s.transport_failure_duration) n ≡ true → (e : Earlier) → e.moment ≤ t → No (GivesError s k n x) a e
too_old s k a n x t past e le q r asked key has g = absurd (let lt = below (t + s.transport_failure_duration) n past in let recent = g.recent in omega arith)

pub still_recent : (s : Settings) (e : Earlier) (n : ℕ) → nat_lt (e.moment + s.transport_failure_duration) n ≡ false → IsRecent s n e
still_recent s e n past = no_less (e.moment + s.transport_failure_duration) n past
  where
    no_less : (a b : ℕ) → nat_lt a b ≡ false → b ≤ a
    no_less a b e = grind (arith, nat_tests)

module _ (s : Settings) (k : ℕ) (x : Error) (r : Requests) (t : Table) (c : Conf) (h : History) (kept : is_deadline x ≡ false) (kr : requests.Known h r) (kt : earlier.Known c s h t) where
  module _ (a : Asking) (its : Asks) (is : entry_at k r.askings ≡ Some a) (asked : IsAsked a.request its) where
    was_asked : asking k h ≡ Some a
    was_asked = sym (kr.askings k) ∙ is

    found : (e : Earlier) → IsIn e (replies_to its.key t) → Yes (GivesError s k r.clock x) its e → IsFound c s k x h
    found e i holds =
        let q = kt.so its.key e i in
        let g = holds q.asked_as.request a.request asked q.key q.flags in
        record {
          number = e.request;
          first = q.asked_as.request;
          request = a.request;
          earlier = record { asked = (a.moment, was_asked); below = g.below; first_asked = (q.asked_as.moment, q.asked); covering = record { first = q.cacheable; second = asked.cacheable; keys = g.covers } };
          moment = e.moment;
          got = subst (λ x. Ever (IsGiven c s e.request x e.moment) h) g.is q.got;
          recent = (let at = kr.time in let recent = g.recent in omega arith);
        }

    module _ (f : IsFound c s k x h) where
      covering : Covers f.first a.request
      covering = subst (Covers f.first) (ap (λ (a : Asking). a.request) (same_asking (asking k h) (record { request = f.request; moment = f.earlier.asked.0 }) a f.earlier.asked.1 was_asked)) f.earlier.covering

      abbrev first_asking : Asking
      first_asking = record { request = f.first; moment = f.earlier.first_asked.0 }

      among : earlier.IsAmong first_asking f.number (Err x) f.moment (replies_to (common (key_of f.first)) t)
      among = kt.back f.number (Err x) f.moment first_asking f.got (ap not kept) f.earlier.first_asked.1 covering.first

      none_found : ((e : Earlier) → IsIn e (replies_to its.key t) → No (GivesError s k r.clock x) its e) → ⊥
      none_found fails =
          let same : common (key_of f.first) ≡ its.key = common_same (key_of f.first) (key_of a.request) covering.keys ∙ sym asked.key in
          let it : Earlier = record { request = f.number; flags = among.flags; moment = f.moment; outcome = Err x } in
          fails it (subst (λ k. IsIn it (replies_to k t)) same among.there)
          f.first a.request asked same among.has
          (record { below = f.earlier.below; covers = covering.keys; is = refl; recent = (let at = kr.time in let recent = f.recent in omega arith) })

    told : (b : Bool) → TellsSome (GivesError s k r.clock x) its (replies_to its.key t) b → Tells (IsFound c s k x h) b
    told b tells = ((λ e. (let y = tells.so e in found y.0 y.1 y.2)), (λ f. go b refl f))
      where
        go : (d : Bool) → b ≡ d → IsFound c s k x h → b ≡ true
        go true e f = e
        go false e f = absurd (none_found f (tells.non e (now h) (kt.order its.key)))

  not_asked : entry_at k r.askings ≡ None → Tells (IsFound c s k x h) false
  not_asked none = ((λ e. absurd (cc)), (λ f. absurd (none_some (asking k h) (record { request = f.request; moment = f.earlier.asked.0 }) (sym (kr.askings k) ∙ none) f.earlier.asked.1)))

  not_kept : (a : Asking) → entry_at k r.askings ≡ Some a → is_cacheable a.request ≡ false → Tells (IsFound c s k x h) false
  not_kept a is fails = (
    (λ e. absurd (cc)),
    (λ f. absurd (
        let same = ap (λ (a : Asking). a.request) (same_asking (asking k h) (record { request = f.request; moment = f.earlier.asked.0 }) a f.earlier.asked.1 (sym (kr.askings k) ∙ is)) in
        let z : true ≡ false = sym f.earlier.covering.second ∙ (ap is_cacheable same ∙ fails) in
        cc)),
  )

module _ (s : Settings) (k : ℕ) (x : Error) (r : Requests) (t : Table) where
  pub found_none : entry_at k r.askings ≡ None → TellsFound s k x r t false
  found_none none c h kept kr kt = not_asked s k x r t c h kept kr kt none

  pub found_unkept : (a : Asking) → entry_at k r.askings ≡ Some a → is_cacheable a.request ≡ false → TellsFound s k x r t false
  found_unkept a is fails c h kept kr kt = not_kept s k x r t c h kept kr kt a is fails

  pub found_some : (a : Asking) (its : Asks) (b : Bool) → entry_at k r.askings ≡ Some a → IsAsked a.request its → TellsSome (GivesError s k r.clock x) its (replies_to its.key t) b → TellsFound s k x r t b
  found_some a its b is asked tells c h kept kr kt = told s k x r t c h kept kr kt a its is asked b tells

  pub found_no_reply : (a : Asking) (its : Asks) → entry_at k r.askings ≡ Some a → IsAsked a.request its → [] ≡ replies_to its.key t → TellsFound s k x r t false
  found_no_reply a its is asked none = found_some a its false is asked (none_there (GivesError s k r.clock x) its (replies_to its.key t) (sym none))

  pub found_among : (a : Asking) (its : Asks) (es : List Earlier) (b : Bool) → entry_at k r.askings ≡ Some a → IsAsked a.request its → es ≡ replies_to its.key t → TellsSome (GivesError s k r.clock x) its es b → TellsFound s k x r t b
  found_among a its es b is asked same tells = found_some a its b is asked (subst (λ es. TellsSome (GivesError s k r.clock x) its es b) same tells)

-- ---- the row of the asking

pub not_here : (s : Settings) (k : ℕ) (x : Error) (w : What) (r : Requests) (t : Table) → asked_here_seen k w r ≡ false → TellsKept s k x w r t false
not_here s k x w r t fails c h is kr kt = ((λ e. absurd (cc)), (λ v. absurd (let z : true ≡ false = sym v.asked_here ∙ (sym (here_is k w r h is kr) ∙ fails) in cc)))

pub never_kept : (s : Settings) (k : ℕ) (x : Error) (w : What) (r : Requests) (t : Table) → is_deadline x ≡ true → TellsKept s k x w r t false
never_kept s k x w r t holds c h is kr kt = ((λ e. absurd (cc)), (λ v. absurd (let z : true ≡ false = sym holds ∙ v.is_kept_at_all in cc)))

pub kept_told : (s : Settings) (k : ℕ) (x : Error) (w : What) (r : Requests) (t : Table) (b : Bool) → asked_here_seen k w r ≡ true → is_deadline x ≡ false → TellsFound s k x r t b → TellsKept s k x w r t b
kept_told s k x w r t b holds kept tells c h is kr kt = (
  (λ e. (
      let f = (tells c h kept kr kt).0 e in
      record { asked_here = sym (here_is k w r h is kr) ∙ holds; is_kept_at_all = kept; number = f.number; first = f.first; request = f.request; earlier = f.earlier; moment = f.moment; got = f.got; recent = f.recent })),
  (λ v. (tells c h kept kr kt).1 (record { number = v.number; first = v.first; request = v.request; earlier = v.earlier; moment = v.moment; got = v.got; recent = v.recent })),
)
