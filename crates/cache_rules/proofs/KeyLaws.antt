-- The key that a message shows is that of the request which it says, and equal keys are told.
use Rattle.std.proofs.Common.{◌≡◌, ℕ, Bool, true, false, List, [], ◌∷◌, refl, ap, sym, subst, ◌∙◌, ◌&&◌, ◌==◌}
use Rattle.std.specs.Prelude.{Option, Some, None, is_some, if◌then◌else◌}
use Rattle.std.specs.Option.{option_map_or}
use Rattle.std.specs.List.{AllZip}
use Rattle.dns_names.specs.Name.{lowered}
use Rattle.dns_names.proofs.Heads.{then_ok}
use Rattle.dns_values.specs.declared.numbers.Section.TheVariants.{Answer, Authority, Additional}
use Rattle.dns_base.specs.Header.{opcode_of, cd_of, rd_of}
use Rattle.dns_base.specs.Knowing.{lowered_asked}
use Rattle.dns_base.specs.Message.{Asked, sole_question, all_read}
use Rattle.dns_base.specs.Answering.{question_items}
use Rattle.dns_base.specs.Holding.{Contents, AskedReadsAs}
use Rattle.dns_base.proofs.Readings.{reading_laws}
use Rattle.client_request.specs.Request.{Request, is_dnssec_ok}
use Rattle.client_request.specs.Carries.{SaysRequest, IsOfOctets, contents_of, records_of}
use Rattle.client_request.proofs.SoleQuestion.{only, sole_is}
use Rattle.right_trace.specs.Messages.{Octets, base_is_read}
use Rattle.right_trace.specs.Keys.{key_of, is_cacheable, question_of, question_or, TellsKeys}
use Rattle.cache_rules.specs.Key.{key_in, asked_key, class_in, same_key, same_is_equal, same_key_laws}
use Rattle.cache_rules.specs.Laws.{kept_key, KeysAreOfRequests}

-- the key of one question, or of none, where the base is read
of_question : (header : List ℕ) (d z : Bool) (o : Option Asked)
    → (if z then asked_key header d o else None) ≡ (if true && (z && option_map_or (λ q. q.class == 1) o false) then Some (record {
      name = lowered (question_or o).name;
      rtype = (question_or o).rtype;
      class = (question_or o).class;
      flags = class_in header d;
      cd = cd_of header;
      rd = rd_of header;
    }) else None)
of_question header d false o = refl
of_question header d true None = refl
of_question header d true (Some q) = refl

of_base : (r : Request) → base_is_read r ≡ true → key_in r.header (is_dnssec_ok r) r.base ≡ kept_key r
unfolding is_cacheable key_of question_of
of_base r read =
    of_question r.header (is_dnssec_ok r) (opcode_of r.header == 0) (sole_question r.base)
    ∙ ap (λ b. if b && (opcode_of r.header == 0 && option_map_or (λ q. q.class == 1) (sole_question r.base) false) then Some (key_of r) else None) (sym read)

-- a key knows no case
case_lost : (header : List ℕ) (d : Bool) (a b : Asked) → lowered_asked a ≡ lowered_asked b → asked_key header d (Some a) ≡ asked_key header d (Some b)
case_lost header d a b e = ap (λ (z : Asked). if z.class == 1 then Some (record { name = z.name; rtype = z.rtype; class = z.class; flags = class_in header d; cd = cd_of header; rd = rd_of header }) else None) e

alike : (header : List ℕ) (d : Bool) (xs ys : List Asked) → AllZip AskedReadsAs xs ys → asked_key header d (only xs) ≡ asked_key header d (only ys)
unfolding only
alike header d [] [] z = refl
alike header d [] (b ∷ ys) z = absurd z
alike header d (a ∷ xs) [] z = absurd z
alike header d (a ∷ []) (b ∷ []) z = case_lost header d a b z.0
alike header d (a ∷ []) (b ∷ c ∷ ys) z = absurd z.1
alike header d (a ∷ c ∷ xs) (b ∷ []) z = absurd z.1
alike header d (a ∷ c ∷ xs) (b ∷ e ∷ ys) z = refl

of_message : (r : Request) (m : Octets) → IsOfOctets r → SaysRequest m r → key_in r.header (is_dnssec_ok r) m ≡ kept_key r
unfolding contents_of base_is_read
of_message r m octets says =
    let q = then_ok (all_read (question_items r.base)) _ says.contents says.are in
    let a = then_ok (records_of Answer r.base) _ says.contents q.2 in
    let u = then_ok (records_of Authority r.base) _ says.contents a.2 in
    let x = then_ok (records_of Additional r.base) _ says.contents u.2 in
    let read : base_is_read r ≡ true = ap is_some (reading_laws.read_is_items r.base q.0 a.0 u.0 x.0 octets.long (record { questions_are = q.1; answer_is = a.1; authority_is = u.1; additional_is = x.1 })) in
    let same : says.contents.questions ≡ q.0 = ap (λ (o : Option Contents). option_map_or (λ c. c.questions) o []) (sym x.2) in
    let zip : AllZip AskedReadsAs says.reading.questions q.0 = subst (λ qs. AllZip AskedReadsAs says.reading.questions qs) same says.agree.questions in
    let mine = sole_is m says.reading.questions (reading_laws.items_are_read m says.reading says.read).questions_are in
    let base = sole_is r.base q.0 q.1 in
    ap (λ o. if opcode_of r.header == 0 then asked_key r.header (is_dnssec_ok r) o else None) mine
    ∙ (ap (λ k. if opcode_of r.header == 0 then k else None) (alike r.header (is_dnssec_ok r) says.reading.questions q.0 zip)
    ∙ (ap (λ o. if opcode_of r.header == 0 then asked_key r.header (is_dnssec_ok r) o else None) (sym base) ∙ of_base r read))

pub keys_are_of_requests : KeysAreOfRequests
keys_are_of_requests = record { of_base = of_base; of_message = of_message }

pub keys_are_told : TellsKeys same_key
keys_are_told = record {
  itself = same_key_laws.refl;
  back = λ a b e. same_key_laws.symm b a ∙ e;
  on = λ a b d e f. same_key_laws.congr a b d e ∙ f;
  equal = same_is_equal;
}
