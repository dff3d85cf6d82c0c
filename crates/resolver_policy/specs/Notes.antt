-- What is told of lines.
use Rattle.std.specs.Prelude.{ℕ, List, ◌++◌, codes}
use Rattle.std.specs.Fmt.{decimal}
use Rattle.resolver_policy.specs.declared.note.Note.{Note}
use Rattle.resolver_policy.specs.declared.note.Why.{Why}
use Rattle.resolver_policy.specs.declared.note.Why.TheVariants as whys

abbrev pub why_text : Why → List ℕ
why_text whys.NotUtf8 = codes "skipped, since it is not UTF-8"
why_text whys.Server = codes "has something else than one address behind nameserver"
why_text whys.Zone = codes "has a zone identifier, which is dropped with what stands behind it"
why_text whys.Domain = codes "has something else than one name behind domain"
why_text whys.Search = codes "skipped, since it has something else than names behind search"
why_text whys.Option = codes "has an option without its number, which is skipped"
why_text whys.Keyword = codes "skipped, since its first word is not known"

abbrev pub note_text : Note → List ℕ
note_text note = codes "line " ++ decimal note.line ++ codes " " ++ why_text note.why
