-- What a composed message asks is what its request asks.
use Rattle.std.proofs.Common.{◌≡◌, ℕ, ◌+◌, Bool, true, List, length, inl, inr, refl, sym, ◌∙◌, ap, subst, ◌==◌}
use Rattle.std.specs.Prelude.{Option, Some, None, nat_le}
use Rattle.dns_names.specs.Name.{Labels, Found, lowered, name_at, IsLegal, AreOctets}
use Rattle.dns_names.proofs.Heads.{then_ok, chosen, none_some}
use Rattle.dns_names.proofs.NameLaws.{read_legal}
use Rattle.dns_base.specs.Header.{opcode_of}
use Rattle.dns_base.specs.Message as message
use Rattle.dns_base.specs.Message.{question_at, sole_question}
use Rattle.dns_base.specs.Numbers.{u16_at}
use Rattle.client_request.specs.Request.{Request, is_dnssec_ok}
use Rattle.client_request.specs.Carries.{IsOfOctets}
use Rattle.right_trace.specs.Messages.{Octets}
use Rattle.right_trace.specs.Keys.{Key, key_of, is_cacheable, question_of, question_or, spelled_name}
use Rattle.cache_rules.specs.Key.{key_in, asked_key}
use Rattle.cache_rules.specs.Laws.{kept_key}
use Rattle.cache_rules.proofs.KeyLaws.{keys_are_of_requests}
use Rattle.cache_rules.proofs.WhatIsMet.{some_inside}
use Rattle.client_cache.specs.Keeping.{Asked}
use Rattle.proof_cache.specs.Laws.{AskedAreOfRequests}
use Rattle.proof_cache.proofs.Octets.{by_index}
use Rattle.proof_cache.proofs.ReadOctets.{read_octets, alike_octets}

-- what each name of a message has that is read, the name of its question has
module _ (P : Labels → Type 0) (o : Octets) (read : (at : ℕ) (f : Found) → name_at o at ≡ Some f → P f.labels) where
  asked_at : (at : ℕ) (x : message.Asked × ℕ) → question_at o at ≡ Some x → P x.0.name
  unfolding question_at
  asked_at at x e =
      let f = then_ok (name_at o at) _ x e in
      elim (chosen (nat_le (f.0.end + 4) (length o)) _ _ (Some x) f.2) [
        | inl some ↦ (let is : record { name = f.0.labels; rtype = u16_at o f.0.end; class = u16_at o (f.0.end + 2) } ≡ x.0 = (let both = some.1 in cc) in subst (λ (q : message.Asked). P q.name) is (read at f.0 f.1))
        | inr none ↦ none_some none.1
      ]

  asked_alone : (q : message.Asked) → sole_question o ≡ Some q → P q.name
  unfolding sole_question
  asked_alone q e = elim (chosen (u16_at o 4 == 1) _ _ (Some q) e) [
    | inl one ↦ (let x = some_inside (λ (x : message.Asked × ℕ). x.0) (question_at o 12) q one.1 in subst (λ (q : message.Asked). P q.name) x.2 (asked_at 12 x.0 x.1))
    | inr none ↦ none_some none.1
  ]

-- a request of octets spells its name in octets
spelled_octets : (r : Request) → IsOfOctets r → AreOctets (spelled_name r)
unfolding question_of
spelled_octets r octets = go (sole_question r.base) refl
  where
    go : (o : Option message.Asked) → sole_question r.base ≡ o → AreOctets (question_or o).name
    go None e = tt
    go (Some q) e = asked_alone AreOctets r.base (λ at f. read_octets r.base at f (by_index r.base octets.base)) q e

-- the key of a question has its name in lower case
record OfQuestion (o : Option message.Asked) (k : Key) : Type 0 where
  question : message.Asked
  is : o ≡ Some question
  name : k.name ≡ lowered question.name

of_question : (header : List ℕ) (d : Bool) (o : Option message.Asked) (k : Key) → asked_key header d o ≡ Some k → OfQuestion o k
of_question header d None k e = none_some e
of_question header d (Some q) k e = elim (chosen (q.class == 1) _ _ (Some k) e) [
  | inl some ↦ record { question = q; is = refl; name = (let both = some.1 in cc) }
  | inr none ↦ none_some none.1
]

-- a request whose results are kept has this key
kept_so : (r : Request) (k : Key) → kept_key r ≡ Some k → (is_cacheable r ≡ true) × (k ≡ key_of r)
kept_so r k e = elim (chosen (is_cacheable r) _ _ (Some k) e) [
  | inl some ↦ (let both = some.1 in (some.0, (cc)))
  | inr none ↦ none_some none.1
]

lowered_key : (r : Request) → (key_of r).name ≡ lowered (spelled_name r)
unfolding key_of
lowered_key r = refl

pub asked_are_of_requests : AskedAreOfRequests
asked_are_of_requests r m a octets says asked =
    let k = some_inside (λ (k : Key). record { key = k; name = (question_or (sole_question m)).name }) (key_in r.header (is_dnssec_ok r) m) a asked in
    let kept = kept_so r k.0 (sym (keys_are_of_requests.of_message r m octets says) ∙ k.1) in
    elim (chosen (opcode_of r.header == 0) _ _ (Some k.0) k.1) [
      | inl query ↦
          let q = of_question r.header (is_dnssec_ok r) (sole_question m) k.0 query.1 in
          let name : q.question.name ≡ a.name = sym (ap (λ o. (question_or o).name) q.is) ∙ ap (λ (x : Asked). x.name) k.2 in
          let key : k.0 ≡ a.key = ap (λ (x : Asked). x.key) k.2 in
          let alike : lowered a.name ≡ lowered (spelled_name r) = ap lowered (sym name) ∙ (sym q.name ∙ (ap (λ (k : Key). k.name) kept.1 ∙ lowered_key r)) in
          record {
            cacheable = kept.0;
            key = sym key ∙ kept.1;
            name = alike;
            legal = subst IsLegal name (asked_alone IsLegal m (read_legal m) q.question q.is);
            octets = alike_octets a.name (spelled_name r) alike (spelled_octets r octets);
          }
      | inr none ↦ none_some none.1
    ]
