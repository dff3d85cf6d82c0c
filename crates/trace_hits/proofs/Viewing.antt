-- What is found of a message is whether it says the view of a kept one, at any age.
use Rattle.std.proofs.Common.{◌≡◌, ◌/◌, ℕ, Bool, refl, sym, ap, ap₂, ◌∙◌, subst}
use Rattle.std.specs.Prelude.{Some, min}
use Rattle.dns_names.specs.Name.{Labels}
use Rattle.dns_base.specs.Data.{Data}
use Rattle.client_request.specs.Request.{Request}
use Rattle.client_request.proofs.Writable.{AreOctets}
use Rattle.right_trace.specs.{Messages.Octets, Validity.second}
use Rattle.right_trace.specs.Keys.{FlagClass, Key, key_of, spelled_name}
use Rattle.right_trace.specs.Parts.{Parts, known_parts, Says}
use Rattle.right_trace.specs.Views.{viewed, view_of}
use Rattle.cache_rules.specs.Key.{flag_class}
use Rattle.message_judging.specs.declared.views.serving.Flags.{Flags}
use Rattle.message_judging.specs.views.Serving.{HasFlags, seconds_of, TellsAged}
use Rattle.trace_replies.specs.declared.given.asks.Asks.{Asks}
use Rattle.trace_replies.specs.given.Asks.{common}
use Rattle.trace_replies.specs.given.Asks as given
use Rattle.trace_hits.specs.declared.question.Question.{Question}
use Rattle.trace_hits.specs.Question.{whole, IsAsked}
use Rattle.trace_hits.specs.{Views.TellsGiven, Kept.TellsGivenTo}
use Rattle.trace_hits.proofs.Short.{parts_short, late_view}

-- ---- views

seconds_are : (age : ℕ) → seconds_of age ≡ min (age / second) 4294967295
unfolding second
seconds_are age = refl

same_view : (q r : Request) (name : Labels) (age : ℕ) (kept : Octets) (x : Parts Data) → AreOctets kept → spelled_name r ≡ name → known_parts kept ≡ Some x → viewed (key_of q) (key_of r) name (seconds_of age) x ≡ view_of q r age x
same_view q r name age kept x octets is known =
    let short = parts_short kept octets x known in
    ap₂ (λ n name. viewed (key_of q) (key_of r) name n x) (seconds_are age) (sym is) ∙ late_view (key_of q) (key_of r) (spelled_name r) (age / second) x short.answer short.authority short.additional

pub given_told : (kept given : Octets) (from to : Flags) (name : Labels) (age n : ℕ) (b : Bool) → AreOctets kept → n ≡ seconds_of age → TellsAged kept from to name n given b → TellsGiven kept from to name age given b
given_told kept given from to name age n b octets is t q r x f g named known =
    let same : viewed (key_of q) (key_of r) name n x ≡ view_of q r age x = ap (λ n. viewed (key_of q) (key_of r) name n x) is ∙ same_view q r name age kept x octets named known in
    ((λ e. subst (Says given) same (t.so q r x f g known e)), (λ says. t.back q r x f g known (subst (Says given) (sym same) says)))

flags_same : (p r : Request) (f : Flags) → key_of p ≡ key_of r → HasFlags r f → HasFlags p f
flags_same p r f same h = record { class = ap (λ (k : Key). k.flags) same ∙ h.class; rd = ap (λ (k : Key). k.rd) same ∙ h.rd }

pub given_to : (q : Question) (age n : ℕ) (kept given : Octets) (b : Bool) → n ≡ age → TellsGiven kept q.flags q.flags q.name n given b → TellsGivenTo q age kept given b
given_to q age n kept given b is t r asked p x same known =
    subst (λ n. TellsGiven kept q.flags q.flags q.name n given b) is t p r x (flags_same p r q.flags same asked.flags) asked.flags asked.name known

-- ---- questions

whole_is : (k : Key) (c : FlagClass) (b : Bool) → k.flags ≡ c → k.rd ≡ b → Path Key (record { name = k.name; rtype = k.rtype; class = k.class; flags = c; cd = k.cd; rd = b }) k
whole_is k c b p q = ap₂ (λ c b. record { name = k.name; rtype = k.rtype; class = k.class; flags = c; cd = k.cd; rd = b }) (sym p) (sym q)

pub question_told : (r : Request) (a : Asks) (key : Key) → given.IsAsked r a → key ≡ whole a.flags a.key → IsAsked r (record { key = key; flags = a.flags; name = a.name })
question_told r a key asked is = record {
  cacheable = asked.cacheable;
  key = is ∙ (ap (whole a.flags) asked.key ∙ whole_is (key_of r) (flag_class a.flags.class) a.flags.rd asked.flags.class asked.flags.rd);
  flags = asked.flags;
  name = asked.name;
}
