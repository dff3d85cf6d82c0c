-- What a request asks is found of its base, and tells which replies may serve it.
use Rattle.std.proofs.Common.{◌≡◌, true, false, ◌&&◌, ◌||◌, refl, sym, ap, ap₂, ◌∙◌}
use Rattle.std.specs.Prelude.{Option, Some, None, not, if◌then◌else◌, option_map, ◌==◌}
use Rattle.std.specs.Option.{option_map_or}
use Rattle.dns_names.specs.Name.{Labels}
use Rattle.dns_base.specs.Header.{opcode_of}
use Rattle.dns_base.specs.Message.{Asked, sole_question}
use Rattle.client_request.specs.Request.{Request}
use Rattle.right_trace.specs.Messages.{base_is_read}
use Rattle.right_trace.specs.Keys.{Key, KeysCover, key_of, question_or, question_of, spelled_name, is_cacheable, is_do, is_signing, flags_cover}
use Rattle.message_judging.proofs.lemmas.matching.Names.{both, all}
use Rattle.cache_rules.specs.Key.{flag_class}
use Rattle.cache_rules.proofs.KeyLaws.{keys_are_of_requests}
use Rattle.message_judging.specs.declared.views.serving.Flags.{Flags}
use Rattle.message_judging.specs.views.Serving.{HasFlags}
use Rattle.trace_replies.specs.declared.given.asks.Asks.{Asks}
use Rattle.trace_replies.specs.given.Asks.{common, key_shown, name_shown, IsAsked, covers_flags}

read_base : (r : Request) → is_cacheable r ≡ true → base_is_read r ≡ true
unfolding is_cacheable
read_base r e = (both (base_is_read r) _ e).0

-- the key that its base shows
shown : (r : Request) → is_cacheable r ≡ true → key_shown r ≡ Some (key_of r)
shown r e = keys_are_of_requests.of_base r (read_base r e) ∙ ap (λ b. if b then Some (key_of r) else None) e

pub no_key : (r : Request) (k : Option Key) → is_cacheable r ≡ true → k ≡ key_shown r → k ≡ None → is_cacheable r ≡ false
no_key r k e is none = absurd (let z : None ≡ Some (key_of r) = sym none ∙ (is ∙ shown r e) in cc)

-- it has one question
no_question : (o : Option Asked) → option_map (λ q. q.name) o ≡ None → o ≡ None
no_question None e = refl
no_question (Some q) e = absurd (cc)

one_question : (r : Request) → is_cacheable r ≡ true → sole_question r.base ≡ None → ⊥
unfolding is_cacheable
one_question r e none =
    let z = (both (opcode_of r.header == 0) _ (both (base_is_read r) _ e).1).1 in
    absurd (let w : false ≡ true = sym (ap (λ o. option_map_or (λ q. q.class == 1) o false) none) ∙ z in cc)

pub no_name : (r : Request) (n : Option Labels) → is_cacheable r ≡ true → n ≡ name_shown r → n ≡ None → is_cacheable r ≡ false
no_name r n e is none = absurd (one_question r e (no_question (sole_question r.base) (sym is ∙ none)))

named : (o : Option Asked) (name : Labels) → option_map (λ q. q.name) o ≡ Some name → (question_or o).name ≡ name
named None name e = absurd (cc)
named (Some q) name e = cc

spelled : (r : Request) (name : Labels) → name_shown r ≡ Some name → spelled_name r ≡ name
unfolding question_of
spelled r name e = named (sole_question r.base) name e

-- what it asks is what was found of it
pub asked_told : (r : Request) (a : Asks) (k : Option Key) (key : Key) (n : Option Labels) (name : Labels) → is_cacheable r ≡ true → k ≡ key_shown r → k ≡ Some key → n ≡ name_shown r → n ≡ Some name
    → a.key ≡ common key → flag_class a.flags.class ≡ key.flags → a.flags.rd ≡ key.rd → a.name ≡ name → IsAsked r a
asked_told r a k key n name cacheable key_is some_key name_is some_name is_key is_class is_rd is_name =
    let z : Some key ≡ Some (key_of r) = sym some_key ∙ (key_is ∙ shown r cacheable) in
    let same : key ≡ key_of r = cc in
    record {
      cacheable = cacheable;
      key = is_key ∙ ap common same;
      flags = record { class = sym (is_class ∙ ap (λ (k : Key). k.flags) same); rd = sym (is_rd ∙ ap (λ (k : Key). k.rd) same) };
      name = spelled r name (sym name_is ∙ some_name) ∙ sym is_name;
    }

-- which replies may serve it
module _ (q r : Request) (f g : Flags) (k : Key) (at_q : k ≡ common (key_of q)) (at_r : k ≡ common (key_of r)) (has_f : HasFlags q f) (has_g : HasFlags r g) where
  same : common (key_of q) ≡ common (key_of r)
  same = sym at_q ∙ at_r

  pub covers_so : covers_flags f g k.rtype ≡ true → KeysCover (key_of q) (key_of r)
  covers_so e =
      let a = both (f.rd || not g.rd) _ e in
      let b = both (flags_cover (flag_class f.class) (flag_class g.class)) _ a.1 in
      record {
        name = ap (λ (k : Key). k.name) same;
        rtype = ap (λ (k : Key). k.rtype) same;
        class = ap (λ (k : Key). k.class) same;
        cd = ap (λ (k : Key). k.cd) same;
        rd = ap₂ (λ a b. a || not b) has_f.rd has_g.rd ∙ a.0;
        flags = ap₂ flags_cover has_f.class has_g.class ∙ b.0;
        signing = signs ∙ b.1;
      }
    where
      signs : (not (is_do (key_of q).flags && is_signing (key_of q).rtype) || is_do (key_of r).flags) ≡ (not (is_do (flag_class f.class) && is_signing k.rtype) || is_do (flag_class g.class))
      signs = ap₂ (λ a b. not (is_do a && is_signing (key_of q).rtype) || is_do b) has_f.class has_g.class ∙ ap (λ t. not (is_do (flag_class f.class) && is_signing t) || is_do (flag_class g.class)) (sym (ap (λ (k : Key). k.rtype) at_q))

  pub so_covers : KeysCover (key_of q) (key_of r) → covers_flags f g k.rtype ≡ true
  so_covers c =
      all (f.rd || not g.rd) _ (sym (ap₂ (λ a b. a || not b) has_f.rd has_g.rd) ∙ c.rd)
      (all (flags_cover (flag_class f.class) (flag_class g.class)) _ (sym (ap₂ flags_cover has_f.class has_g.class) ∙ c.flags)
      (sym (ap (λ t. not (is_do (flag_class f.class) && is_signing t) || is_do (flag_class g.class)) (sym (ap (λ (k : Key). k.rtype) at_q))) ∙ (sym (ap₂ (λ a b. not (is_do a && is_signing (key_of q).rtype) || is_do b) has_f.class has_g.class) ∙ c.signing)))
