use Rattle.std.proofs.Common.{◌≡◌, ◌<◌, ◌≤◌, List, length, get_or, ap, ◌∙◌, arith}
use Rattle.dns_base.specs.declared.suffixes.Known.{Known}
use Rattle.dns_base.proofs.Neighbours.{shared_none, shared_one}
use Rattle.dns_base.proofs.suffixes.Suffixes.shared_at.Goals as goal

pub returns-in-None : goal.returns-in-None
returns-in-None c = λ octets places labels known is.
    let names = c.args.self.now.names.items in
    let past : length names ≤ c.args.at = omega (arith, ap length c.deref.ensures.value, c.in-None.ensures.lookup.3) in
    shared_none octets places labels names c.args.at past

pub returns-in-Some : goal.returns-in-Some
returns-in-Some c = λ octets places labels known is.
    let names = c.args.self.now.names.items in
    let here = c.in-Some.known.now in
    let found = c.in-Some.ensures.lookup in
    let within : c.args.at < length names = omega (arith, ap length c.deref.ensures.value, found.3.0) in
    let there : here ≡ get_or names c.args.at here = found.1 ∙ ap (λ (x : List Known). get_or x c.args.at here) c.deref.ensures.value in
    shared_one octets places labels names c.args.at here c.shared.result.now within there known (λ its. c.shared.ensures octets places labels its is)
