-- The lines behind what a server said.
use Rattle.std.specs.Prelude.{ℕ, List, ◌++◌, codes, decimal, Option, Some, None}
use Rattle.dns_names.specs.Name.{Labels}
use Rattle.dns_names.specs.Text.{name_text}
use Rattle.dns_values.specs.Address.{address_text}
use Rattle.dns_values.specs.declared.address.IpAddr.{IpAddr}
use Rattle.dns_values.specs.NumberNames.{rcode_text}
use Rattle.dns_lookup_walk.specs.declared.server.NameServer.{NameServer}
use Rattle.dns_lookup_walk.specs.declared.verdict.Failure.{Failure}
use Rattle.dns_lookup_walk.specs.declared.verdict.Failure.TheVariants.{Silent, Refuses, Misleads, Lame}

-- the name of a server, or its address where it is known by that alone
abbrev pub named_text : IpAddr → Option Labels → List ℕ
named_text ip None = address_text ip
named_text ip (Some name) = name_text name

abbrev pub host_text : NameServer → List ℕ
host_text server = named_text server.ip server.name

-- why the next server is asked
abbrev pub failure_text : Failure → List ℕ
failure_text Silent = codes "no answer came"
failure_text (Refuses code) = codes "the server said " ++ rcode_text code.0
failure_text Misleads = codes "BAD REFERRAL"
failure_text Lame = codes "the server said nothing"

-- that nothing came from whom, and why
abbrev pub silent_line : (port : ℕ) → NameServer → (why : List ℕ) → List ℕ
silent_line port server why =
    codes ";; No answer from " ++ (address_text server.ip ++ (codes "#" ++ (decimal port ++ (codes "(" ++ (host_text server ++ (codes "): " ++ (why ++ codes "\n")))))))

-- how many octets came from whom in which time, as dig has it
abbrev pub received_line : (octets port : ℕ) → NameServer → (millis : ℕ) → List ℕ
received_line octets port server millis =
    codes ";; Received " ++ (decimal octets ++ (codes " bytes from " ++ (address_text server.ip ++ (codes "#" ++ (decimal port ++ (codes "(" ++ (host_text server ++ (codes ") in " ++ (decimal millis ++ codes " ms\n")))))))))
