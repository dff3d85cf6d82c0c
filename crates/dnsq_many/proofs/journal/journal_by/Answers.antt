use Rattle.std.proofs.Common.{◌≡◌, List, ℕ, length, Err, ap, sym, subst, ◌∙◌}
use Rattle.client_request.specs.Words.{listed}
use Rattle.client_request.specs.declared.error.Error.TheVariants.{NumbersUsed}
use Rattle.proof_client.specs.Above.{AreWords}
use Rattle.proof_client.specs.Ties.{AreHandedIn}
use Rattle.proof_shared.specs.Histories.{events_of}
use Rattle.dnsq_many.proofs.Journals.{numbered_length, run_of, made_of, stopped_of}
use Rattle.dnsq_many.proofs.journal.journal_by.Goals as goal

pub run_lanes-result-requires-after_bounds : goal.run_lanes-result-requires-after_bounds
run_lanes-result-requires-after_bounds g c κs within =
    let callers = c.in-Ok.ensures.1 ∙ c.len.ensures in
    let passes = c.as_mut_slice.ensures.value ∙ c.in_ok-shared.ensures.passes in
    c.as_slice-2.ensures.len ∙ (sym callers ∙ (sym (numbered_length c.in-Ok.callers) ∙ sym (ap length passes)))

pub returns-in-Ok-result-clause-made : goal.returns-in-Ok-result-clause-made
returns-in-Ok-result-clause-made g c =
    let octets = rw c.as_slice-3.ensures at c.are_in_octets.ensures in
    let handed : AreHandedIn c.args.script.cache (listed c.args.script.words) (events_of c.in-Ok-close.closed.journal) = record {
      limited = c.max_validity_is_limited.ensures;
      small = subst (λ (ws : List ℕ). AreWords (listed ws)) c.as_slice.ensures c.words_are_short.ensures;
      asked = octets.0;
      octets = octets.1;
    } in
    let run = run_of _ c.args.script _ _ _ _ _ _ _ _ _ _ _ _ c.requires.opening c.as_slice-2.ensures.value c.into_vec-lanes.ensures c.as_slice-2.ensures.len c.len.ensures c.in-Ok.ensures.1
    c.as_mut_slice.ensures.value c.in_ok-shared.ensures.passes c.run_lanes-result.auto.passes c.as_mut_slice.ensures.len c.in-Ok-close.ensures.passes c.in_ok-shared.ensures.shared c.in-Ok-close.ensures.callers in
    made_of _ c.legal_histories.ensures c.args.script _ _ _ _ _ _ _ _ run c.in-Ok-result.ensures.whole c.in-Ok-close.ensures.legal handed c.in-Ok-close.ensures.words

pub returns-clause-numbers : goal.returns-clause-numbers
returns-clause-numbers g c = λ is.
    let used : c.in-Err.error ≡ NumbersUsed = cc is in
    let run = run_of _ c.args.script _ _ _ _ _ _ _ _ _ _ _ _ c.requires.opening c.as_slice-2.ensures.value c.into_vec-lanes.ensures c.as_slice-2.ensures.len c.len.ensures c.in-Ok.ensures.1
    c.as_mut_slice.ensures.value c.in_ok-shared.ensures.passes c.run_lanes-result.auto.passes c.as_mut_slice.ensures.len c.in-Ok-close.ensures.passes c.in_ok-shared.ensures.shared c.in-Ok-close.ensures.callers in
    stopped_of _ c.legal_histories.ensures c.args.script _ _ _ _ _ _ run c.in-Err.ensures.begun (c.in-Err.ensures.numbers (ap Err used))
