-- An input has one outcome.
use Rattle.std.proofs.Common.{◌≡◌, ◌≢◌, ℕ, List, false, Option, Some, None, Result, Ok, Err, sym, ap, ◌∙◌, arith}
use Rattle.client_request.specs.declared.event.Row.{Row}
use Rattle.dns_script.specs.TextLaws.{ScriptLaws}
use Rattle.dns_script.specs.TraceText.{trace_text_of}
use Rattle.resolv_conf.specs.Final.{finalized}
use Rattle.resolv_conf.specs.LineLaws.{LineLaws}
use Rattle.resolv_conf.specs.Parse.{ParseAnswers}
use Rattle.resolv_conf.specs.Show.{conf_text}
use Rattle.resolv_conf.specs.Words.{lines_of}
use Rattle.resolv_conf.specs.declared.conf.ResolvConf.{ResolvConf}
use Rattle.resolv_conf.specs.declared.error.Error.{Error}
use Rattle.resolv_conf.specs.declared.error.Error.TheVariants as errors
use Rattle.resolv_conf.specs.declared.error.IoFault.TheVariants as faults
use Rattle.command_parts.specs.Conf.{RefusesConfLine, has_bad_line, is_too_long, no_conf, not_utf8, outside_the_grammar}
use Rattle.dnsq_run.specs.Program.{IsOutput, IsRefused, IsReplayed, IsTaken, RefusesLineOf, StopsForNumbers, rows_of}
use Rattle.dnsq_run.specs.declared.usage.Command.{Command}
use Rattle.dnsq_run.specs.declared.usage.Command.TheVariants.{Replay, Conf}

abbrev answer_of : Error → Result (Unit {0}) Error
answer_of e = Err e

abbrev good : Result (Unit {0}) Error
good = Ok tt

not_bad : (e : Error) → good ≡ answer_of e → ⊥
not_bad e is = cc

has_memory : good ≢ answer_of errors.NoMemory
has_memory is = not_bad errors.NoMemory is

bad_line_only : (n : ℕ) → answer_of (errors.ParseError n) ≢ answer_of errors.NoMemory
bad_line_only n is = cc

bad_text_only : (n : ℕ) → answer_of (errors.Io (faults.NotUtf8 n)) ≢ answer_of errors.NoMemory
bad_text_only n is = cc

good_conf : LineLaws → (text : List ℕ) (conf : ResolvConf) (n : ℕ) → ParseAnswers text no_conf (Ok tt) conf → ¬ (RefusesConfLine text n)
good_conf laws text conf n h (outside_the_grammar other bad) =
    not_bad (errors.ParseError n) (laws.one_answer 1 (lines_of text) no_conf conf other good (answer_of (errors.ParseError n)) h.1 bad.1 has_memory (bad_line_only n)).0
good_conf laws text conf n h (not_utf8 other bad) =
    not_bad (errors.Io (faults.NotUtf8 n)) (laws.one_answer 1 (lines_of text) no_conf conf other good (answer_of (errors.Io (faults.NotUtf8 n))) h.1 bad.1 has_memory (bad_text_only n)).0

no_bad_line : ScriptLaws → LineLaws → (command : Command) (text : List ℕ) (n : ℕ) → IsTaken command text → ¬ (RefusesLineOf command text n)
no_bad_line scripts lines Replay text n h bad = scripts.script_is_taken false text h.reads.0 n h.reads.1 bad
no_bad_line scripts lines Conf text n h bad = good_conf lines text h.reads.0 n h.reads.1 bad

pub taken_or_refused : ScriptLaws → LineLaws → (command : Command) (text line : List ℕ) → IsTaken command text → ¬ (IsRefused command text line)
taken_or_refused scripts lines command text line h (is_too_long long says) = absurd (let fits = h.fits in omega arith)
taken_or_refused scripts lines command text line h (has_bad_line n fits bad says) = no_bad_line scripts lines command text n h bad

same_rows : (o : Option (List Row)) (xs ys : List Row) → o ≡ Some xs → o ≡ Some ys → xs ≡ ys
same_rows o xs ys e f = cc

pub one_output : ScriptLaws → LineLaws → (command : Command) (text a b : List ℕ) → IsOutput command text a → IsOutput command text b → a ≡ b
one_output scripts lines Replay text a b h k =
    let same : k.script ≡ h.script = scripts.script_is_one false text k.script h.script k.is_script h.is_script in
    let rows : h.told.rows ≡ k.told.rows = same_rows (rows_of h.script) h.told.rows k.told.rows h.told.plain (ap rows_of (sym same) ∙ k.told.plain) in
    h.told.says ∙ ap trace_text_of rows ∙ sym k.told.says
one_output scripts lines Conf text a b h k =
    let same : h.conf ≡ k.conf = (lines.one_answer 1 (lines_of text) no_conf h.conf k.conf good good h.parses.1 k.parses.1 has_memory has_memory).1 in
    h.says ∙ ap (λ (c : ResolvConf). conf_text (finalized c)) same ∙ sym k.says

not_stopped : ScriptLaws → (text out : List ℕ) (command : Command) → IsReplayed text out → ¬ (StopsForNumbers command text)
not_stopped scripts text out command h k =
    let same : h.script ≡ k.script = scripts.script_is_one false text h.script k.script h.is_script k.is_script in
    let none : None ≡ Some h.told.rows = sym k.stops ∙ ap rows_of (sym same) ∙ h.told.plain in
    cc

not_conf : Conf ≡ Replay → ⊥
not_conf is = cc

pub written_or_stopped : ScriptLaws → (command : Command) (text out : List ℕ) → IsOutput command text out → ¬ (StopsForNumbers command text)
written_or_stopped scripts Replay text out h k = not_stopped scripts text out Replay h k
written_or_stopped scripts Conf text out h k = not_conf k.replays
