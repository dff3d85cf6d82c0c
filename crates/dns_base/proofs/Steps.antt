-- What each step of writing changes.
use Rattle.std.proofs.Common.{◌≡◌, ℕ, ◌+◌, ◌≤◌, List, ◌++◌, length, take, drop, refl, ap, sym, ◌∙◌, arith, length-append}
use Rattle.std.specs.Int.{w16, to_be_bytes}
use Rattle.std.proofs.lemmas.List.{length-drop, length-take-le, take_at, take-append-le, take-append-drop}
use Rattle.std.proofs.lemmas.Bool.{eq-eqb, ne_eqb}
use Rattle.dns_base.specs.Header.{Counts}
use Rattle.dns_base.specs.Sections.{counts_spelling}
use Rattle.dns_base.specs.Draft.{Draft, fresh, with_header, pushed_question, pushed_record, cleared, finished, size, limit_of, counts_in, refusal}
use Rattle.dns_base.specs.Compression.{with_question, with_record}
use Rattle.dns_base.specs.Holding.{header_in}
use Rattle.dns_base.specs.DraftSteps.{CountSteps, LimitSteps, SizeSteps, HeaderSteps, RefusalSteps, DraftSteps}
use Rattle.dns_base.proofs.Sizes.{begins_long, data_long, head_stays, question_continues, question_at_most, record_continues, record_at_most}

count_steps : CountSteps
unfolding fresh with_header pushed_question pushed_record cleared counts_in
count_steps = record {
  fresh = λ limit. refl;
  header = λ header d. refl;
  question = λ q d. refl;
  any_record = λ section w d. refl;
  cleared = λ d. refl;
}

limit_steps : LimitSteps
unfolding fresh with_header pushed_question pushed_record cleared limit_of
limit_steps = record {
  fresh = λ limit. refl;
  header = λ header d. refl;
  question = λ q d. refl;
  any_record = λ section w d. refl;
  cleared = λ d. refl;
}

eight : (counts : Counts) → length (counts_spelling counts) ≡ 8
unfolding counts_spelling
eight counts = refl

finished_size : (octets counts : List ℕ) → 12 ≤ length octets → length counts ≡ 8 → length (take 4 octets ++ counts ++ drop 12 octets) ≡ length octets
finished_size octets counts h e =
    omega (arith, length-append (take 4 octets ++ counts) (drop 12 octets), length-append (take 4 octets) counts, length-take-le 4 octets (omega arith), length-drop 12 octets)

size_steps : SizeSteps
unfolding fresh with_header pushed_question pushed_record cleared finished size
size_steps = record {
  fresh = λ limit. refl;
  header = λ header d e h. omega (arith, length-append header (drop 4 d.target.octets), length-drop 4 d.target.octets);
  question = λ q d. begins_long d.target.octets (with_question q d.target).octets (question_continues q d.target).octets;
  question_at_most = λ q d. question_at_most q d.target;
  any_record = λ section w d. begins_long d.target.octets (with_record w d.target).octets (record_continues w d.target).octets;
  record_at_most = λ section w d. record_at_most w d.target;
  content = data_long;
  cleared = λ d h. length-take-le 12 d.target.octets h;
  finished = λ d h. finished_size d.target.octets (counts_spelling d.counts) h (eight d.counts);
}

header_steps : HeaderSteps
unfolding fresh with_header pushed_question pushed_record cleared size header_in
header_steps = record {
  fresh = λ limit. refl;
  header = λ header d e. take_at header (drop 4 d.target.octets) 4 e;
  question = λ q d h. head_stays 4 d.target.octets (with_question q d.target).octets (omega arith) (question_continues q d.target).octets;
  any_record = λ section w d h. head_stays 4 d.target.octets (with_record w d.target).octets (omega arith) (record_continues w d.target).octets;
  cleared = λ d h. sym (take-append-le 4 (take 12 d.target.octets) (drop 12 d.target.octets) (omega (arith, length-take-le 12 d.target.octets h))) ∙ ap (take 4) (take-append-drop 12 d.target.octets);
}

refusal_steps : RefusalSteps
unfolding refusal limit_of
refusal_steps = record {
  full = λ entries d more full. rw (eq-eqb entries 65535 full) refl;
  room = λ entries d more room none. rw (ne_eqb entries 65535 room, none) refl;
}

pub draft_steps : DraftSteps
draft_steps = record { counts = count_steps; limits = limit_steps; sizes = size_steps; headers = header_steps; refusals = refusal_steps }
