-- What a request has to spare of the entry under its own key is what the machine may put in the place of a result that fails.
use Rattle.std.proofs.Common.{◌≡◌, ◌≢◌, ℕ, ◌+◌, ◌-◌, ◌<◌, ◌≤◌, Bool, true, false, List, [], ◌∷◌, refl, arith, sym, ◌∙◌, ap, ap₂, subst, eq-eqb, ◌==◌}
use Rattle.std.specs.Prelude.{◌/◌, Option, Some, None, Result, Ok, Err, if◌then◌else◌, map, nat_le, option_map}
use Rattle.std.proofs.lemmas.Bool.{eqb-true, le-leb, leb-true}
use Rattle.dns_names.specs.Name.{Labels, lowered}
use Rattle.dns_base.specs.Data.{Data}
use Rattle.dns_base.specs.OptRecord.{opt_rcode}
use Rattle.client_request.specs.Request.{Request}
use Rattle.client_request.specs.declared.error.Error.{Error}
use Rattle.client_settings.specs.Settings.{CacheSettings}
use Rattle.right_trace.specs.Keys.{Key, KeysCover, key_of, spelled_name}
use Rattle.right_trace.specs.Messages.{Octets}
use Rattle.right_trace.specs.Parts.{Header, Item, Parts, flags_in, known_parts, read_parts, lowered_item, lowered_parts, Says}
use Rattle.right_trace.specs.Settings.{Settings}
use Rattle.right_trace.specs.Validity.{second, validity_of_parts}
use Rattle.right_trace.specs.Views.{all_with_ttl, mostly_with_ttl, stale_of, tells_of_name, view_of, view_validity, viewed, viewed_header, with_ttl}
use Rattle.right_trace.proofs.Deriving.{viewed_twice}
use Rattle.proof_right.specs.machine.Client as machine
use Rattle.proof_right.specs.machine.Client.{Revived}
use Rattle.proof_right.specs.machine.Exact.{MayRevive}
use Rattle.cache_rules.specs.declared.copying.Ttls.TheVariants.{Stale}
use Rattle.cache_rules.specs.Validity.{with_cache}
use Rattle.cache_rules.specs.Viewing.{drops_signing, under_header, IsViewable}
use Rattle.cache_rules.proofs.Saying.{says_expired, what_is_known}
use Rattle.cache_rules.proofs.ViewLaws.{view_same, view_laws}
use Rattle.client_cache.specs.Keeping.{Asked, Entry, Outcome, Spare, Stored, expired, expired_of, message_in, spare_of, spare_stands_in, stands_in}
use Rattle.proof_parts.specs.ClientTie.{StandsIn}
use Rattle.proof_cache.specs.Caching.{IsSpare}
use Rattle.proof_cache.specs.Standing.{Anew, IsAskedBy, IsKept, KeepsMessage, KeepsResult, Message, Fault, Stands, Whole}
use Rattle.proof_cache.proofs.Serving.{refused, view_alike}
use Rattle.proof_cache.proofs.Views.{covers_itself, header_twice, known_now, one_rcode, parts_header, read_valid, said_parts, view_valid}

-- ---- parts with one TTL, but for case

ttl_lowered : (n : ℕ) (xs : List (Item Data)) → map lowered_item (map (with_ttl n) xs) ≡ map (with_ttl n) (map lowered_item xs)
ttl_lowered n [] = refl
ttl_lowered n (x ∷ xs) = ap (λ t. lowered_item (with_ttl n x) ∷ t) (ttl_lowered n xs)

mostly_ttl_lowered : (n : ℕ) (xs : List (Item Data)) → map lowered_item (map (mostly_with_ttl n) xs) ≡ map (mostly_with_ttl n) (map lowered_item xs)
mostly_ttl_lowered n [] = refl
mostly_ttl_lowered n (x ∷ xs) = ap₂ (λ a t. a ∷ t) (go (x.rtype == 41)) (mostly_ttl_lowered n xs)
  where
    go : (b : Bool) → lowered_item (if b then x else with_ttl n x) ≡ (if b then lowered_item x else with_ttl n (lowered_item x))
    go true = refl
    go false = refl

all_lowered : (n : ℕ) (x : Parts Data) → lowered_parts (all_with_ttl n x) ≡ all_with_ttl n (lowered_parts x)
all_lowered n x = same (ttl_lowered n x.answer) (ttl_lowered n x.authority) (mostly_ttl_lowered n x.additional)
  where
    same : {a1 a2 u1 u2 d1 d2 : List (Item Data)} → a1 ≡ a2 → u1 ≡ u2 → d1 ≡ d2
        → Path (Parts Data) (record (lowered_parts x) { answer = a1; authority = u1; additional = d1 }) (record (lowered_parts x) { answer = a2; authority = u2; additional = d2 })
    same a u d = cc

ttl_same : (n : ℕ) (x y : Parts Data) → lowered_parts x ≡ lowered_parts y → lowered_parts (all_with_ttl n x) ≡ lowered_parts (all_with_ttl n y)
ttl_same n x y e = all_lowered n x ∙ (ap (all_with_ttl n) e ∙ sym (all_lowered n y))

-- ---- what octets say is what they are known as

same_some : {A : Type 0} (o : Option A) (x y : A) → o ≡ Some x → o ≡ Some y → x ≡ y
same_some o x y p q = let both : Some x ≡ Some y = sym p ∙ q in cc

said_of : (octets : Octets) (d x : Parts Data) → known_parts octets ≡ Some d → Says octets x → lowered_parts d ≡ lowered_parts x
said_of octets d x known says = let both : Some (lowered_parts d) ≡ Some (lowered_parts x) = sym (ap (option_map lowered_parts) known) ∙ says in cc

-- the response code of a message
code_of : (m : Octets) (x : Parts Data) → known_parts m ≡ Some x → x.code ≡ opt_rcode m
code_of m x known = let k = what_is_known m x known in sym (ap (λ (p : Parts Data). p.code) k.parts_are)

module _ (s : Settings) (q k : Key) (m : Octets) (validity : ℕ) (x : Stored) (keeps : KeepsMessage s q k m validity x) (covers : KeysCover q k) where
  -- What is kept has the response code of the first message.
  one_code : (first : Parts Data) → known_parts m ≡ Some first → opt_rcode x.message ≡ first.code
  one_code first known = go keeps.kept
    where
      go : IsKept s q k m validity x → opt_rcode x.message ≡ first.code
      go (Whole same none valid) = ap opt_rcode same ∙ sym (code_of m first known)
      go (Anew w name its to_w from_w none its_known says valid) =
          let d = said_parts x.message (viewed q w name 0 its) says in
          sym (code_of x.message d.0 d.1) ∙ (ap (λ (p : Parts Data). p.code) (said_of x.message d.0 (viewed q w name 0 its) d.1 says) ∙ ap (λ (p : Parts Data). p.code) (same_some (known_parts m) its first its_known known))

  -- What is given of it once it has expired says that of the first message.
  record IsExpired (name : Labels) (given : Octets) : Type 0 where
    first : Parts Data
    known : known_parts m ≡ Some first
    says : Says given (all_with_ttl 30 (viewed q k name 0 first))

  is_expired : (name : Labels) (given : Octets) (own : Parts Data) → known_parts x.message ≡ Some own → Says given (under_header x.header (all_with_ttl 30 (viewed k k name 0 own))) → IsExpired name given
  is_expired name given own known view = go keeps.kept
    where
      flags : (first : Parts Data) → known_parts m ≡ Some first → flags_in x.header ≡ viewed_header q k first.header
      flags first is = keeps.flags ∙ ap (viewed_header q k) (sym (parts_header m first is))

      go : IsKept s q k m validity x → IsExpired name given
      go (Whole same none valid) =
          let is : known_parts m ≡ Some own = subst (λ o. known_parts o ≡ Some own) same known in
          record {
            first = own;
            known = is;
            says = subst (λ (p : Parts Data). Says given (all_with_ttl 30 p)) (view_laws.under_headers q k k x.header name 0 own covers (covers_itself k) none (flags own is)) view;
          }
      go (Anew w spelled first to_w from_w none first_known says valid) =
          let d = said_parts x.message (viewed q w spelled 0 first) says in
          let head : own.header ≡ viewed_header q w first.header = ap (λ (p : Parts Data). p.header) (same_some (known_parts x.message) own d.0 known d.1) ∙ d.2 in
          let under : under_header x.header (viewed k k name 0 own) ≡ viewed w k name 0 own =
          view_laws.under_headers w k k x.header name 0 own from_w (covers_itself k) none
          (flags first first_known ∙ (sym (header_twice q w k first.header to_w from_w) ∙ ap (viewed_header w k) (sym head))) in
          let low : lowered_parts (viewed w k name 0 own) ≡ lowered_parts (viewed q k name 0 first) =
          view_same w k name 0 own (viewed q w spelled 0 first) (said_of x.message own (viewed q w spelled 0 first) known says) ∙ ap lowered_parts (viewed_twice q w k spelled name 0 first to_w from_w) in
          record {
            first = first;
            known = first_known;
            says = subst (λ (p : Parts Data). Says given (all_with_ttl 30 p)) under view ∙ ap Some (ttl_same 30 (viewed w k name 0 own) (viewed q k name 0 first) low);
          }

no_seconds : 0 / second ≡ 0
unfolding second
no_seconds = refl

module _ (cache : CacheSettings) (s : Settings) (now : ℕ) (r : Request) (a : Asked) (asked : IsAskedBy r a) (e : Entry) (old : machine.Entry) (st : Stands (with_cache cache s) now a.key e old) where
  abbrev its : Settings
  its = with_cache cache s

  abbrev q : Key
  q = key_of (old.first)

  -- nothing may be given of it
  abbrev Never : ℕ → Type 0
  Never later = MayRevive its later r (Some old) → ⊥

  -- what it is, if it may be given
  its_entry : (later : ℕ) (y : MayRevive its later r (Some old)) → y.entry ≡ old
  its_entry later y = let both : Some old ≡ Some y.entry = y.there in cc

  never_error : (f : Error) → old.result ≡ Err f → (later : ℕ) → Never later
  never_error f is later y = let its : y.entry ≡ old = its_entry later y in let p : (y.entry).result ≡ Ok y.message = y.is in let both : Err f ≡ Ok y.message = sym is ∙ (ap (λ (z : machine.Entry). z.result) (sym its) ∙ p) in cc

  module _ (m : Octets) (is : old.result ≡ Ok m) (x : Stored) (keeps : KeepsMessage its q a.key m e.validity x) (later : ℕ) (on : now ≤ later) where
    its_message : (y : MayRevive its later r (Some old)) → m ≡ y.message
    its_message y = let both : Ok m ≡ Ok y.message = sym is ∙ (ap (λ (z : machine.Entry). z.result) (sym (its_entry later y)) ∙ y.is) in cc

    never_told : tells_of_name (opt_rcode x.message) ≡ false → Never later
    never_told untold y =
        let known : known_parts m ≡ Some y.known = subst (λ o. known_parts o ≡ Some y.known) (sym (its_message y)) y.is_known in
        not_both (ap tells_of_name (one_code its q a.key m e.validity x keeps st.covers y.known known)) y.tells untold
      where
        not_both : {b c : Bool} → b ≡ c → c ≡ true → b ≡ false → ⊥
        not_both same is is_not = cc

    -- its age
    abbrev age : ℕ
    age = later - e.moment

    past : e.moment + age ≡ later
    past = let p = st.past in omega (arith, p, on)

    never_late : nat_le (later - e.moment - e.validity) cache.stale_for ≡ false → Never later
    never_late late y = not_both (le-leb (later - e.moment - e.validity) cache.stale_for few) late
      where
        not_both : {b : Bool} → b ≡ true → b ≡ false → ⊥
        not_both p q = cc

        valid : view_validity its (y.entry).first r y.parts ≡ e.validity
        valid =
            ap (λ (z : machine.Entry). view_validity its z.first r y.parts) (its_entry later y)
            ∙ (subst (λ k. validity_of_parts its (viewed q k (spelled_name r) 0 y.parts) ≡ e.validity) asked.key
            (read_valid its q a.key m e.validity x keeps st.covers (spelled_name r) y.parts (subst (λ o. read_parts o ≡ Some y.parts) (sym (its_message y)) y.read)))

        few : later - e.moment - e.validity ≤ cache.stale_for
        few =
            let in_time : y.age ≤ e.validity + cache.stale_for = subst (λ n. y.age ≤ n + cache.stale_for) valid y.in_time in
            let at : e.moment + y.age ≡ later = ap (λ n. n + y.age) (sym st.moment ∙ ap (λ (z : machine.Entry). z.moment) (sym (its_entry later y))) ∙ y.is_age in
            omega (arith, in_time, at)

    viewable : IsViewable x.header a.name x.message
    viewable = record { octets = keeps.own.octets; long = keeps.own.long; header_is = keeps.header; legal = asked.legal }

    -- what is given says what the machine may put in the place of a result
    gives : cache.stale_for ≢ 0 → nat_le (later - e.moment - e.validity) cache.stale_for ≡ true → tells_of_name (opt_rcode x.message) ≡ true → (y : Octets) → expired a.key.flags a.name x ≡ Ok y → Revived its later old r y
    gives some few tells y made =
        let said = says_expired x.header a.key.flags a.name x.message (Ok y) viewable made in
        let w = is_expired its q a.key m e.validity x keeps st.covers a.name y said.parts said.known (said.says a.key refl (one_rcode its q a.key m e.validity x keeps st.covers)) in
        let spelled : lowered_parts (viewed q a.key a.name 0 w.first) ≡ lowered_parts (viewed q a.key (spelled_name r) 0 w.first) = view_alike q a.key a.name (spelled_name r) 0 w.first asked.name in
        record {
          message = m;
          is = is;
          parts = w.first;
          known = w.known;
          tells = ap tells_of_name (sym (one_code its q a.key m e.validity x keeps st.covers w.first w.known)) ∙ tells;
          age = age;
          is_age = ap (λ n. n + age) st.moment ∙ past;
          allowed = above cache.stale_for some;
          in_time = subst (λ n. age ≤ n + cache.stale_for) (sym (subst (λ k. validity_of_parts its (viewed q k (spelled_name r) 0 w.first) ≡ e.validity) asked.key (view_valid its q a.key m e.validity x keeps st.covers (spelled_name r) w.first w.known)))
              (let f = leb-true (later - e.moment - e.validity) cache.stale_for few in omega (arith, f));
          says = subst (λ n. Says y (all_with_ttl 30 (viewed q (key_of r) (spelled_name r) n w.first))) (sym no_seconds)
              (subst (λ k. Says y (all_with_ttl 30 (viewed q k (spelled_name r) 0 w.first))) asked.key
              (w.says ∙ ap Some (ttl_same 30 (viewed q a.key a.name 0 w.first) (viewed q a.key (spelled_name r) 0 w.first) spelled)));
        }
      where
        above : (n : ℕ) → n ≢ 0 → 0 < n
        above n ne = omega (arith, ne)

    abbrev Stood : Option Octets → Type 0
    Stood o = StandsIn its later r (Some old) o

    spared : e.outcome ≡ Ok x → (cache.stale_for == 0) ≡ false → tells_of_name (opt_rcode x.message) ≡ true → Stood (stands_in cache later (record { class = a.key.flags; name = a.name; entry = e }))
    spared outcome some tells =
        subst (λ b. Stood (if b then None else (if nat_le (later - e.moment - e.validity) cache.stale_for then expired_of a.key.flags a.name e.outcome else None))) (sym some)
        (by_age (nat_le (later - e.moment - e.validity) cache.stale_for) refl)
      where
        not_zero : cache.stale_for ≢ 0
        not_zero zero = not_both (eq-eqb cache.stale_for 0 zero) some
          where
            not_both : {b : Bool} → b ≡ true → b ≡ false → ⊥
            not_both p q = cc

        made_so : nat_le (later - e.moment - e.validity) cache.stale_for ≡ true → (v : Outcome) → expired a.key.flags a.name x ≡ v → Stood (message_in v)
        made_so few (Ok y) made = (old, refl, gives not_zero few tells y made)
        made_so few (Err f) made = λ y. known_now its q a.key m e.validity x keeps st.covers (refused x.header a.name (drops_signing a.key.flags a.key.flags) Stale x.message f viewable made).1

        by_age : (b : Bool) → nat_le (later - e.moment - e.validity) cache.stale_for ≡ b → Stood (if b then expired_of a.key.flags a.name e.outcome else None)
        by_age false late = never_late late
        by_age true few = subst (λ o. Stood (expired_of a.key.flags a.name o)) (sym outcome) (made_so few (expired a.key.flags a.name x) refl)

  -- What is spared of it is what the machine has.
  pub spare_is : IsSpare its cache now r (if cache.stale_for == 0 then None else spare_of a e e.outcome) (Some old)
  spare_is later on = by_time (cache.stale_for == 0) refl
    where
      Stands_in : Option Spare → Type 0
      Stands_in spare = StandsIn its later r (Some old) (spare_stands_in cache later spare)

      by : (cache.stale_for == 0) ≡ false → (f : Outcome) (o : Result Stored Error) → old.result ≡ f → e.outcome ≡ o → KeepsResult its q a.key e.validity f o → Stands_in (spare_of a e o)
      by some _ _ is outcome (Fault f valid) = never_error f is later
      by some _ _ is outcome (Message m x keeps) = by_code (tells_of_name (opt_rcode x.message)) refl
        where
          by_code : (b : Bool) → tells_of_name (opt_rcode x.message) ≡ b → Stands_in (if b then Some (record { class = a.key.flags; name = a.name; entry = e }) else None)
          by_code false untold = never_told m is x keeps later on untold
          by_code true told = spared m is x keeps later on outcome some told

      never_allowed : (n : ℕ) → (n == 0) ≡ true → 0 < n → ⊥
      never_allowed n is lt = let z = eqb-true n 0 is in omega (arith, z, lt)

      by_time : (b : Bool) → (cache.stale_for == 0) ≡ b → Stands_in (if b then None else spare_of a e e.outcome)
      by_time true none = λ y. never_allowed cache.stale_for none y.allowed
      by_time false some = by some old.result e.outcome refl refl st.result
