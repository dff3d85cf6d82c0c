use Rattle.command_parts.proofs.Refusals.{bad_conf_line, bad_conf_text}
use Rattle.command_parts.proofs.conf.configuration.Goals as goal

pub returns-in-Err-ParseError-clause-refused : goal.returns-in-Err-ParseError-clause-refused
returns-in-Err-ParseError-clause-refused g c =
    λ is_one. bad_conf_line _ _ c.parse.new.self c.refused_line.result c.in-Err-ParseError.line c.new-conf.ensures (rw c.in-Err-ParseError.field-0-is at c.in-Err-ParseError.ensures.answer) (c.refused_line.ensures.line is_one)

pub returns-in-Err-Io-NotUtf8-clause-refused : goal.returns-in-Err-Io-NotUtf8-clause-refused
returns-in-Err-Io-NotUtf8-clause-refused g c =
    λ is_one. bad_conf_text _ _ c.parse.new.self c.refused_line-in-Err-Io-NotUtf8.result c.in-Err-Io-NotUtf8.line c.new-conf.ensures (rw (c.in-Err-Io-NotUtf8.field-0-is, c.in-Err-Io-NotUtf8.field-0-0-is) at c.in-Err-Io-NotUtf8.ensures.answer) (c.refused_line-in-Err-Io-NotUtf8.ensures.line is_one)
