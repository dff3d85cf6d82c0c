-- Why an input is refused.
use Rattle.std.proofs.Common.{◌≡◌, ℕ, ◌<◌, ◌≤◌, List, ◌++◌, length, [], false, Option, None, Some, subst}
use Rattle.std.specs.Prelude.{IfSome, codes}
use Rattle.std.specs.Fmt.{decimal}
use Rattle.dns_script.specs.ScriptReading.{RefusesLine}
use Rattle.command_parts.specs.Conf.{is_too_long, has_bad_line}
use Rattle.command_parts.specs.Ends.{line_of, status_of}
use Rattle.dnsq_run.specs.Program.{IsRefused}
use Rattle.command_parts.specs.declared.ending.Ending.{Ending}
use Rattle.dnsq_run.specs.declared.usage.Command.{Command}
use Rattle.dnsq_run.specs.declared.usage.Command.TheVariants.{Replay}

pub too_long_line : (command : Command) (text : List ℕ) (e : Ending) → 16777216 < length text
    → line_of e ≡ codes "input too long\n" → IsRefused command text (line_of e)
too_long_line command text e h is = is_too_long h is

pub bad_script_line : (text : List ℕ) (e : Ending) (n : ℕ) → length text ≤ 16777216 → RefusesLine false text n
    → line_of e ≡ codes "line " ++ decimal n ++ codes " refused\n" → IsRefused Replay text (line_of e)
bad_script_line text e n fits h is = has_bad_line n fits h is

-- the octets read are what the source had
pub told_refusal : (told after : Option (List ℕ)) (octets : List ℕ) (e : Ending)
    → IfSome told (λ text. (octets ≡ text) × (after ≡ Some []))
    → length octets ≤ 16777216
    → (length octets ≤ 16777216 → status_of e ≡ 1 → IsRefused Replay octets (line_of e))
    → status_of e ≡ 1 → IfSome told (λ text. IsRefused Replay text (line_of e))
told_refusal None after octets e whole fits h is_one = whole
told_refusal (Some text) after octets e whole fits h is_one =
    subst (λ (xs : List ℕ). IsRefused Replay xs (line_of e)) whole.0 (h fits is_one)
