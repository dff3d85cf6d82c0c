-- The sentences that tell why no answer is written.
use Rattle.std.specs.Prelude.{ℕ, List, [], ◌++◌, codes, Option, None, Some, Ok, Err, Result}
use Rattle.client_request.specs.ErrorText.{error_text}
use Rattle.client_request.specs.declared.error.Error.{Error}
use Rattle.command_parts.specs.declared.ending.Ending.{Ending}
use Rattle.command_parts.specs.declared.ending.Ending.TheVariants.{Says, Silent}
use Rattle.dns_lookup_pages.specs.declared.short.Lacking.{Lacking}
use Rattle.dns_lookup_pages.specs.declared.short.Lacking.TheVariants as lacks
use Rattle.dns_values.specs.NumberNames.{rcode_text}

-- why there is no answer: an error, or none came
abbrev pub unanswered_text : Option Error → List ℕ
unanswered_text None = codes "dns_lookup: no answer came; another @SERVER, +tcp or a longer +time= may help\n"
unanswered_text (Some error) = codes "dns_lookup: no answer: " ++ (error_text error ++ codes "; another @SERVER, +tcp or a longer +time= may help\n")

-- why an answer is none; of a message nothing is told
abbrev pub answer_text : Option (Result (List ℕ) Error) → List ℕ
answer_text None = unanswered_text None
answer_text (Some (Err error)) = unanswered_text (Some error)
answer_text (Some (Ok message)) = []

abbrev pub unread_text : List ℕ
unread_text = codes "dns_lookup: /etc/resolv.conf could not be read, which has the servers where no @SERVER is named, and the suffixes of +search\n"

-- why a configuration is refused, which a line says
abbrev pub refused_text : List ℕ → List ℕ
refused_text line = codes "dns_lookup: /etc/resolv.conf: " ++ line

-- why there is no configuration
abbrev pub conf_text : Ending → List ℕ
conf_text (Says status line) = refused_text line.items
conf_text (Silent status) = unread_text

abbrev pub numbers_text : List ℕ
numbers_text = codes "dns_lookup: numbers are used up\n"

-- the sink of a page failed
abbrev pub unwritten_text : List ℕ
unwritten_text = codes "dns_lookup: writing to standard output failed\n"

-- why an answer had no data to write
abbrev pub lack_text : Lacking → List ℕ
lack_text lacks.Name = codes "dns_lookup: there is no such name (NXDOMAIN)\n"
lack_text lacks.Data = codes "dns_lookup: the name is there, and has no records of this type\n"
lack_text (lacks.Service code) = codes "dns_lookup: no answer: the server said " ++ (rcode_text code ++ codes "\n")

-- the statuses of that
abbrev pub lack_status : Option Lacking → ℕ
lack_status None = 0
lack_status (Some lacks.Name) = 9
lack_status (Some lacks.Data) = 10
lack_status (Some (lacks.Service code)) = 11
