-- Why a configuration is refused.
use Rattle.std.proofs.Common.{◌≡◌, ℕ, ◌++◌, Option, None, Some, Err, List, subst}
use Rattle.std.specs.Prelude.{IfSome, codes}
use Rattle.std.specs.Fmt.{decimal}
use Rattle.resolv_conf.specs.Parse.{ParseAnswers}
use Rattle.resolv_conf.specs.declared.conf.ResolvConf.{ResolvConf}
use Rattle.resolv_conf.specs.declared.error.Error.TheVariants as errors
use Rattle.resolv_conf.specs.declared.error.IoFault.TheVariants as faults
use Rattle.command_parts.specs.Conf.{IsConfRefused, has_bad_line, no_conf, not_utf8, outside_the_grammar}
use Rattle.command_parts.specs.Ends.{line_of}
use Rattle.command_parts.specs.declared.ending.Ending.{Ending}

pub bad_conf_line : (told : Option (List ℕ)) (old conf : ResolvConf) (e : Ending) (n : ℕ) → old ≡ no_conf
    → IfSome told (λ text. ParseAnswers text old (Err (errors.ParseError n)) conf)
    → line_of e ≡ codes "line " ++ decimal n ++ codes " refused\n" → IfSome told (λ text. IsConfRefused text (line_of e))
bad_conf_line None old conf e n begins h is = h
bad_conf_line (Some text) old conf e n begins h is =
    has_bad_line n h.0 (outside_the_grammar conf (subst (λ (c : ResolvConf). ParseAnswers text c (Err (errors.ParseError n)) conf) begins h)) is

pub bad_conf_text : (told : Option (List ℕ)) (old conf : ResolvConf) (e : Ending) (n : ℕ) → old ≡ no_conf
    → IfSome told (λ text. ParseAnswers text old (Err (errors.Io (faults.NotUtf8 n))) conf)
    → line_of e ≡ codes "line " ++ decimal n ++ codes " refused\n" → IfSome told (λ text. IsConfRefused text (line_of e))
bad_conf_text None old conf e n begins h is = h
bad_conf_text (Some text) old conf e n begins h is =
    has_bad_line n h.0 (not_utf8 conf (subst (λ (c : ResolvConf). ParseAnswers text c (Err (errors.Io (faults.NotUtf8 n))) conf) begins h)) is
