-- What an entry of the table gives is what the machine gives at once from the entry that it stands for.
use Rattle.std.proofs.Common.{◌≡◌, ℕ, ◌+◌, ◌-◌, ◌/◌, ◌≤◌, Bool, true, false, inl, List, [], ◌∷◌, refl, arith, sym, ◌∙◌, ap, ap₂, subst}
use Rattle.std.specs.Prelude.{Some, None, Result, Ok, Err, if◌then◌else◌, map, min, nat_le}
use Rattle.std.proofs.lemmas.Bool.{leb-true}
use Rattle.dns_names.specs.Name.{Labels, lowered}
use Rattle.dns_names.proofs.Heads.{none_some}
use Rattle.dns_base.specs.Data.{Data}
use Rattle.dns_base.specs.Draft.{fresh, with_header}
use Rattle.dns_base.specs.Message as message
use Rattle.dns_base.specs.Knowing.{lowered_asked}
use Rattle.client_request.specs.Request.{Request}
use Rattle.client_request.specs.Composed.{Copied, ◌>>◌, message_of, error_of}
use Rattle.client_request.specs.declared.error.Error.{Error}
use Rattle.client_request.specs.declared.error.Error.TheVariants as errors
use Rattle.client_settings.specs.Settings.{seconds}
use Rattle.right_trace.specs.Trace.{Conf}
use Rattle.right_trace.specs.Messages.{Octets}
use Rattle.right_trace.specs.Settings.{Settings}
use Rattle.right_trace.specs.Keys.{Key, KeysCover, KeyCovers, key_of, spelled_name}
use Rattle.right_trace.specs.Parts.{IsIn, Parts, flags_in, known_parts, lowered_parts, Says}
use Rattle.right_trace.specs.Validity.{second, validity_of_parts}
use Rattle.right_trace.specs.Views.{viewed_header, with_name, leaves_out, viewed, view_of}
use Rattle.proof_right.specs.machine.Client as machine
use Rattle.proof_right.specs.machine.Client.{AtOnce, Viewed, Repeated}
use Rattle.cache_rules.specs.Viewing.{carries_all, carried, octets_by, view_octets, IsViewable}
use Rattle.cache_rules.specs.declared.copying.Ttls.{Ttls}
use Rattle.cache_rules.specs.declared.copying.Ttls.TheVariants.{Lessened}
use Rattle.cache_rules.proofs.Saying.{view_made, view_refused}
use Rattle.client_cache.specs.Keeping.{Stored, Entry, Asked, Outcome, serves, shown, seconds_of}
use Rattle.proof_cache.specs.Standing.{KeepsMessage, KeepsResult, Message, Fault, Stands, IsAskedBy}
use Rattle.proof_cache.specs.Laws.{unstored}
use Rattle.proof_cache.proofs.Views.{covers_itself, parts_header, one_rcode, is_view, view_valid, kept_limited, known_now}

-- ---- names and seconds

names_alike : (n o : Labels) (qs : List message.Asked) → lowered n ≡ lowered o → map lowered_asked (map (with_name n) qs) ≡ map lowered_asked (map (with_name o) qs)
names_alike n o [] e = refl
names_alike n o (q ∷ qs) e = ap₂ (λ (l : Labels) (t : List message.Asked). record { name = l; rtype = q.rtype; class = q.class } ∷ t) e (names_alike n o qs e)

pub view_alike : (q k : Key) (n o : Labels) (t : ℕ) (x : Parts Data) → lowered n ≡ lowered o → lowered_parts (viewed q k n t x) ≡ lowered_parts (viewed q k o t x)
view_alike q k n o t x e = ap (λ (z : List message.Asked). record (lowered_parts (viewed q k n t x)) { questions = z }) (names_alike n o x.questions e)

second_is : second ≡ 1000000
unfolding second
second_is = refl

least_is : (n m : ℕ) → n ≤ m → min n m ≡ n
least_is n m le = omega (arith, le)

seconds_are : (age : ℕ) → age ≤ seconds 4294967295 → seconds_of age ≡ age / second
seconds_are age le = least_is (age / 1000000) 4294967295 (omega (arith, le)) ∙ ap (λ n. age / n) (sym second_is)

-- ---- what can't be read

pub refused : (h : List ℕ) (name : Labels) (b : Bool) (n : Ttls) (m : Octets) (e : Error) → IsViewable h name m → octets_by h name b n m ≡ Err e → (e ≡ errors.MessageParseError) × (known_parts m ≡ None)
unfolding octets_by carried
refused h name b n m e ok is = go (carries_all name b n m (fresh None)) refl is
  where
    go : (o : Copied) → carries_all name b n m (fresh None) ≡ o → message_of (o >> (λ all. Ok (with_header h all))) ≡ Err e → (e ≡ errors.MessageParseError) × (known_parts m ≡ None)
    go (Ok d) q f = absurd cc
    go (Err x) q f = let why = view_refused h name b n m x ok q in let same : error_of x ≡ e = cc in (sym same ∙ why.0, why.1)

-- ---- what is shown

-- What is given of a message says the view of the first message at its age.
pub record IsShown (first r : Request) (m : Octets) (age : ℕ) (y : Octets) : Type 0 where
  pub parts : Parts Data
  pub known : known_parts m ≡ Some parts
  pub says : Says y (view_of first r age parts)

module _ (s : Settings) (r : Request) (a : Asked) (asked : IsAskedBy r a) (limited : s.max_validity ≤ seconds 4294967295) (first : Request) (m : Octets) (age validity : ℕ) (x : Stored) (in_time : age ≤ validity)
    (covers : KeysCover (key_of first) a.key) (keeps : KeepsMessage s (key_of first) a.key m validity x) where
  abbrev pub seen : Outcome
  seen = view_octets x.header a.name (leaves_out a.key a.key) (seconds_of age) x.message

  pub viewable : IsViewable x.header a.name x.message
  viewable = record { octets = keeps.own.octets; long = keeps.own.long; header_is = keeps.header; legal = asked.legal }

  pub shows : (y : Octets) → seen ≡ Ok y → IsShown first r m age y
  shows y made =
      let q = key_of first in
      let v = view_made x.header a.name (leaves_out a.key a.key) (Lessened (seconds_of age)) x.message y viewable made in
      let w = is_view s q a.key m validity x keeps covers x.header v.parts v.known in
      let says = v.says a.key a.key refl (one_rcode s q a.key m validity x keeps covers) in
      let flags : flags_in x.header ≡ viewed_header q a.key w.first.header = keeps.flags ∙ ap (viewed_header q a.key) (sym (parts_header m w.first w.known)) in
      let view = w.is a.key a.name (seconds_of age) y (covers_itself a.key) flags says in
      let long = kept_limited s q a.key m validity x keeps covers in
      let spelled : Says y (viewed q a.key (spelled_name r) (seconds_of age) w.first) = view ∙ ap Some (view_alike q a.key a.name (spelled_name r) (seconds_of age) w.first asked.name) in
      let aged : Says y (viewed q a.key (spelled_name r) (age / second) w.first) = subst (λ t. Says y (viewed q a.key (spelled_name r) t w.first)) (seconds_are age (omega (arith, in_time, long, limited))) spelled in
      record { parts = w.first; known = w.known; says = subst (λ k. Says y (viewed q k (spelled_name r) (age / second) w.first)) asked.key aged }

  pub unshown : (e : Error) → seen ≡ Err e → (e ≡ errors.MessageParseError) × (known_parts x.message ≡ None)
  unshown e made = refused x.header a.name (leaves_out a.key a.key) (Lessened (seconds_of age)) x.message e viewable made

-- ---- what is given

module _ (c : Conf) (s : Settings) (compose : Request → Outcome) (now number : ℕ) (r : Request) (a : Asked) (asked : IsAskedBy r a) (composed : (o : Octets) × (compose r ≡ Ok o)) (limited : s.max_validity ≤ seconds 4294967295) (stored : List machine.Entry) where
  abbrev Gives : Outcome → Type 0
  Gives o = AtOnce c s compose now number stored r (unstored number r o)

  module _ (first : machine.Entry) (there : IsIn first stored) (covering : KeyCovers first.under r) (m : Octets) (its : first.result ≡ Ok m) (age validity : ℕ) (x : Stored) (is_age : first.moment + age ≡ now) (in_time : age ≤ validity)
      (covers : KeysCover (key_of first.first) a.key) (keeps : KeepsMessage s (key_of first.first) a.key m validity x) where
    abbrev q : Key
    q = key_of first.first

    given : (y : Octets) → view_octets x.header a.name (leaves_out a.key a.key) (seconds_of age) x.message ≡ Ok y → Gives (Ok y)
    given y made =
        let w = shows s r a asked limited first.first m age validity x in_time covers keeps y made in
        let n = keeps.valid in
        let valid = subst (λ k. validity_of_parts s (viewed q k (spelled_name r) 0 w.parts) ≡ validity) asked.key (view_valid s q a.key m validity x keeps covers (spelled_name r) w.parts w.known) in
        Viewed first m y w.parts age composed there its covering is_age
        (record { known = w.known; validity = n.0; is_validity = n.1; kept = n.2; in_time = subst (λ v. age ≤ v) (sym valid) in_time })
        w.says

    -- its data is read
    unread : (e : Error) → view_octets x.header a.name (leaves_out a.key a.key) (seconds_of age) x.message ≡ Err e → Gives (Err e)
    unread e made =
        absurd (known_now s q a.key m validity x keeps covers (unshown s r a asked limited first.first m age validity x in_time covers keeps e made).1)

    shown_so : (o v : Outcome) → view_octets x.header a.name (leaves_out a.key a.key) (seconds_of age) x.message ≡ v → v ≡ o → Gives o
    shown_so o (Ok y) made is = subst Gives is (given y made)
    shown_so o (Err e) made is = subst Gives is (unread e made)

  -- the entry under the request's own key serves it
  pub served : (first : machine.Entry) → IsIn first stored → (e : Entry) → Stands s now a.key e first → (o : Outcome) → serves a now e ≡ Some o → Gives o
  served first there e st o given = tested (nat_le (now - e.moment) e.validity) refl given
    where
      covering : KeyCovers first.under r
      covering = record { cacheable = asked.cacheable; keys = subst (λ k. KeysCover k (key_of r)) (sym (st.under ∙ asked.key)) (covers_itself (key_of r)) }

      is_age : first.moment + (now - e.moment) ≡ now
      is_age = let p = st.past in let m = st.moment in omega (arith, p, m)

      by : (f : Outcome) (x : Result Stored Error) → first.result ≡ f → KeepsResult s (key_of first.first) a.key e.validity f x → now - e.moment ≤ e.validity → shown a (now - e.moment) x ≡ o → Gives o
      by _ _ its (Message m x keeps) in_time is = shown_so first there covering m its (now - e.moment) e.validity x is_age in_time st.covers keeps o _ refl is
      by _ _ its (Fault err valid) in_time is = subst Gives is (Repeated first err composed there its covering (let p = st.past in let m = st.moment in omega (arith, p, m, valid, in_time)))

      tested : (b : Bool) → nat_le (now - e.moment) e.validity ≡ b → (if b then Some (shown a (now - e.moment) e.outcome) else None) ≡ Some o → Gives o
      tested false t g = none_some g
      tested true t g = by first.result e.outcome refl st.result (leb-true (now - e.moment) e.validity t) (cc)
