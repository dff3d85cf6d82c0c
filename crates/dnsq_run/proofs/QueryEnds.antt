-- What a query ends with, by its status.
use Rattle.std.proofs.Common.{◌≡◌, ◌≢◌, ◌⊎◌, inl, inr, ℕ, List, [], true, false, Option, Some, None, Result, refl, ap, ◌∙◌, arith}
use Rattle.std.specs.Prelude.{IfSome}
use Rattle.client_request.specs.declared.error.Error.{Error}
use Rattle.dns_values.specs.Sink.{with_octets}
use Rattle.dns_values.specs.declared.numbers.Status.{Status}
use Rattle.command_parts.specs.Conf.{Configures}
use Rattle.command_parts.specs.Ends.{IsBegun, IsSaid}
use Rattle.dnsq_run.specs.Program.{EndsByLine, IsRefused, RefusalIsSaid, numbers_line}
use Rattle.dnsq_run.specs.Query.{EndsSo, IsAsked, IsDue, StopsAsking, World, answer_line, is_answer, is_message, is_refusal, stops}
use Rattle.dnsq_run.specs.declared.query_words.Query.{Query}
use Rattle.dnsq_run.specs.declared.usage.Command.TheVariants.{Conf}
use Rattle.resolv_conf.specs.declared.conf.ResolvConf.{ResolvConf}

-- the statuses of an answer that is written
abbrev pub Written : ℕ → Type 0
Written n = (n ≡ 0) ⊎ ((n ≡ 4) ⊎ ((n ≡ 5) ⊎ (n ≡ 6)))

not_written : (n : ℕ) → Written n → (n ≢ 1) × (n ≢ 2) × (n ≢ 7)
not_written n (inl e) = (λ h. omega arith, λ h. omega arith, λ h. omega arith)
not_written n (inr (inl e)) = (λ h. omega arith, λ h. omega arith, λ h. omega arith)
not_written n (inr (inr (inl e))) = (λ h. omega arith, λ h. omega arith, λ h. omega arith)
not_written n (inr (inr (inr e))) = (λ h. omega arith, λ h. omega arith, λ h. omega arith)

-- of the statuses at which a line tells why nothing else is written, an answer that is written has that of no message alone
pub by_reply : {P : Type 0} (n : ℕ) → Written n → (n ≡ 5 → P) → EndsByLine n → P
by_reply n w f (inl e) = absurd ((not_written n w).0 e)
by_reply n w f (inr (inl e)) = absurd ((not_written n w).1 e)
by_reply n w f (inr (inr (inl e))) = f e
by_reply n w f (inr (inr (inr e))) = absurd ((not_written n w).2 e)

-- what is said of the configuration of a source that was read to its end
pub configured : (told left : Option (List ℕ)) (conf : ResolvConf) → IfSome told (λ text. Configures text conf × (left ≡ Some [])) → IfSome told (λ text. Configures text conf)
configured None left conf h = tt
configured (Some text) left conf h = h.0

told_to : (told : Option (List ℕ)) (P Q : List ℕ → Type 0) → ((text : List ℕ) → P text → Q text) → IfSome told P → IfSome told Q
told_to None P Q f h = h
told_to (Some text) P Q f h = f text h

module _ (q : Query) (told left : Option (List ℕ)) (old new : World) (held after : Option (List ℕ)) (faults faults_after : ℕ) where
  begun_due : (answer : Option (Result (List ℕ) Error)) → IsAsked q told old new answer
      → (after ≡ held) ⊎ IsBegun (answer_line answer) held after → (after ≡ held) ⊎ ((line : List ℕ) × IsDue q told old new line × IsBegun line held after)
  begun_due answer asked (inl same) = inl same
  begun_due answer asked (inr begun) = inr (answer_line answer, is_answer answer asked refl, begun)

  -- an answer was written
  pub answer_ends : (n : ℕ) (answer : Option (Result (List ℕ) Error)) → IsAsked q told old new answer → IfSome told (λ _. left ≡ Some []) → Written n
      → ((n ≡ 0) ⊎ (n ≡ 4) → is_message answer ≡ true) → (n ≡ 5 → is_message answer ≡ false)
      → (n ≡ 0 → after ≡ with_octets (answer_line answer) held) → (n ≡ 5 → IsSaid (answer_line answer) held after faults faults_after)
      → (n ≡ 4 → IsBegun (answer_line answer) held after) → (n ≡ 6 → (after ≡ held) ⊎ IsBegun (answer_line answer) held after)
      → EndsSo q n told left old new held after faults faults_after
  answer_ends n answer asked whole written good bad done said cut begun = record {
    done = λ zero. record { answer = answer; asked = asked; is = good (inl zero); so = done zero };
    refused = λ one. absurd ((not_written n written).0 one);
    asks = (not_written n written).1;
    cut = λ four. record { answer = answer; asked = asked; is = good (inr four); so = cut four };
    no_reply = λ five. record { answer = answer; asked = asked; is = bad five; so = said five };
    memory = λ six. begun_due answer asked (begun six);
    numbers = λ seven. absurd ((not_written n written).2 seven);
    whole = λ ends. whole;
  }

  due : (n : ℕ) (line : List ℕ) → (n ≡ 1) ⊎ (n ≡ 7) → (n ≡ 1 → IfSome told (λ text. IsRefused Conf text line)) → (n ≡ 7 → StopsAsking q told old new)
      → (n ≡ 7 → line ≡ numbers_line) → IsDue q told old new line
  due n line (inl one) refused numbers says = is_refusal (refused one)
  due n line (inr seven) refused numbers says = stops (numbers seven) (says seven)

  -- a line told why there is no answer
  pub line_ends : (status ended : Status) (line : List ℕ) → (status.0 ≡ 1) ⊎ (status.0 ≡ 7) → (ended ≡ status) ⊎ (ended.0 ≡ 6)
      → (status.0 ≡ 1 → IfSome told (λ text. IsRefused Conf text line)) → (status.0 ≡ 7 → StopsAsking q told old new) → (status.0 ≡ 7 → line ≡ numbers_line)
      → IsBegun line held after → (ended.0 ≢ 6 → IsSaid line held after faults faults_after) → EndsSo q ended.0 told left old new held after faults faults_after
  line_ends status ended line early (inr six) refused numbers says begun said = record {
    done = λ zero. absurd (omega arith);
    refused = λ one. absurd (omega arith);
    asks = λ two. omega arith;
    cut = λ four. absurd (omega arith);
    no_reply = λ five. absurd (omega arith);
    memory = λ _. inr (line, due status.0 line early refused numbers says, begun);
    numbers = λ seven. absurd (omega arith);
    whole = λ ends. absurd (none ends);
  }
    where
      none : (ended.0 ≡ 0) ⊎ (ended.0 ≡ 5) → ⊥
      none (inl e) = omega arith
      none (inr e) = omega arith
  line_ends status ended line (inl one) (inl same) refused numbers says begun said =
      let is : ended.0 ≡ 1 = ap (λ (s : Status). s.0) same ∙ one in
      record {
        done = λ zero. absurd (omega arith);
        refused = λ _. told_to told (λ text. IsRefused Conf text line) (λ text. RefusalIsSaid Conf text held after faults faults_after) (λ text r. record { line = line; refusal = r; said = said (λ six. omega arith) }) (refused one);
        asks = λ two. omega arith;
        cut = λ four. absurd (omega arith);
        no_reply = λ five. absurd (omega arith);
        memory = λ six. absurd (omega arith);
        numbers = λ seven. absurd (omega arith);
        whole = λ ends. absurd (none is ends);
      }
    where
      none : ended.0 ≡ 1 → (ended.0 ≡ 0) ⊎ (ended.0 ≡ 5) → ⊥
      none is (inl e) = omega arith
      none is (inr e) = omega arith
  line_ends status ended line (inr seven) (inl same) refused numbers says begun said =
      let is : ended.0 ≡ 7 = ap (λ (s : Status). s.0) same ∙ seven in
      record {
        done = λ zero. absurd (omega arith);
        refused = λ one. absurd (omega arith);
        asks = λ two. omega arith;
        cut = λ four. absurd (omega arith);
        no_reply = λ five. absurd (omega arith);
        memory = λ six. absurd (omega arith);
        numbers = λ _. numbers seven;
        whole = λ ends. absurd (none is ends);
      }
    where
      none : ended.0 ≡ 7 → (ended.0 ≡ 0) ⊎ (ended.0 ≡ 5) → ⊥
      none is (inl e) = omega arith
      none is (inr e) = omega arith
