-- How the program ends, and what is told then.
use Rattle.std.specs.Prelude.{◌≡◌, ℕ, false, List, Option, codes}
use Rattle.command_parts.specs.Ends.{IsBegun, IsSaid}
use Rattle.dns_values.specs.{Sink.with_octets, Source.Rose}
use Rattle.program_words.specs.Pages.{version_line}
use Rattle.program_words.specs.declared.page.Page.{Page}
use Rattle.program_words.specs.declared.page.Page.TheVariants.{Help, Version}
use Rattle.trace_audit_run.specs.Lines.{right_line, usage_line}
use Rattle.trace_audit_run.specs.Program.{IsAudited, IsGood, IsStop, NoIsSaid, RoseAt, over}
use Rattle.trace_audit_run.specs.Sentences.{Names, answer_sentence, stop_sentence, unwritten_sentence, usage_sentence}
use Rattle.trace_audit_run.specs.Stops.{Tells, line_of, status_of}
use Rattle.trace_audit_run.specs.Words.{are_two, asked_by, names_among}
use Rattle.trace_audit_run.specs.declared.stop.Stop.{Stop}
use Rattle.trace_audit_run.specs.declared.texts.Answer.{Answer}

-- what it comes to: the words name no two texts, or nothing is said of the trace, or this is, or it is right, or the sink failed
pub data End : Type 0 where
  misused : End
  stopped : Stop → End
  denied : Answer → End
  approved : End
  unwritten : End

-- How it ends, by its status, where this is what is told at each end, this what holds of the two texts, and this of a text that can't be read.
pub data AuditEnds (words : Names) (Of : (List ℕ → List ℕ → Type 0) → Type 0) (Rises : Stop → Type 0) (Told : End → Type 0) (status : ℕ) : Type 0 where
  out_of_memory : status ≡ 6 → AuditEnds words Of Rises Told status
  is_misused : are_two (names_among words) ≡ false → status ≡ 2 → Told misused → AuditEnds words Of Rises Told status
  is_stopped : (stop : Stop) → Of (λ a b. IsStop a b stop) → Rises stop → status ≡ status_of stop → Told (stopped stop) → AuditEnds words Of Rises Told status
  is_denied : (said : Answer) → Of (λ a b. IsAudited (asked_by words) a b said) → status ≡ 5 → Told (denied said) → AuditEnds words Of Rises Told status
  is_approved : (said : Answer) → Of (λ a b. IsAudited (asked_by words) a b said) → IsGood said → status ≡ 0 → Told approved → AuditEnds words Of Rises Told status
  is_unwritten : (said : Answer) → Of (λ a b. IsAudited (asked_by words) a b said) → status ≡ 4 → Told unwritten → AuditEnds words Of Rises Told status

-- What a sink of lines and one of sentences hold then: the line and the sentence that says why; or `right`, and no sentence; or not the whole
-- of it, since its sink failed, which a sentence says.
abbrev pub TellsBySentence : {K L : Type 0} → (K → Option (List ℕ)) → (K → ℕ) → (L → Option (List ℕ)) → (L → ℕ) → Names → (before after : K × L) → End → Type 0
TellsBySentence held faults said counts names before after misused =
    IsSaid usage_line (held before.0) (held after.0) (faults before.0) (faults after.0) × IsSaid (usage_sentence names) (said before.1) (said after.1) (counts before.1) (counts after.1)
TellsBySentence held faults said counts names before after (stopped stop) =
    Tells (line_of stop) (held before.0) (held after.0) (faults before.0) (faults after.0) × IsSaid (stop_sentence names stop) (said before.1) (said after.1) (counts before.1) (counts after.1)
TellsBySentence held faults said counts names before after (denied answer) =
    NoIsSaid answer (held before.0) (held after.0) (faults before.0) (faults after.0) × IsSaid (answer_sentence names answer) (said before.1) (said after.1) (counts before.1) (counts after.1)
TellsBySentence held faults said counts names before after approved = (held after.0 ≡ with_octets right_line (held before.0)) × (said after.1 ≡ said before.1)
TellsBySentence held faults said counts names before after unwritten =
    Rose (faults before.0) (faults after.0) × (IsBegun right_line (held before.0) (held after.0) × IsSaid unwritten_sentence (said before.1) (said after.1) (counts before.1) (counts after.1))

-- how it ends, by what two sources and two sinks tell before and after
abbrev pub EndsBySentence : {S T K L : Type 0} → (S → Option (List ℕ)) → (S → ℕ) → (T → Option (List ℕ)) → (T → ℕ) → (K → Option (List ℕ)) → (K → ℕ) → (L → Option (List ℕ)) → (L → ℕ) → Names → (status : ℕ) → (old new : S × T × K × L) → Type 0
EndsBySentence left faults left' faults' held failed said counts words status old new =
    AuditEnds words (λ P. over left left' old.0 old.1 P) (RoseAt (faults old.0) (faults new.0) (faults' old.1) (faults' new.1)) (TellsBySentence held failed said counts (names_among words) (old.2, old.3) (new.2, new.3)) status

-- the help, or the line of a release
abbrev pub page_text : (help : List ℕ) → Page → List ℕ
page_text help Help = help
page_text help Version = version_line (codes "trace_audit")
