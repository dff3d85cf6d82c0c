use Rattle.std.proofs.Common.{◌≡◌, ◌<◌, List, ℕ, Bool, true, false, arith}
use Rattle.std.specs.Prelude.{not}
use Rattle.dns_base.proofs.OtherLabels.{other_label, octet_there}
use Rattle.dns_base.proofs.place.is_other_label.Goals as goal

not_both : {A : Type 0} (b : Bool) → b ≡ true → not b ≡ true → A
not_both true p q = absurd cc
not_both false p q = absurd cc

pub returns : goal.returns
returns c = λ other rest.
    let found = c.in-Some.ensures.lookup.3 in
    let there = octet_there c.args.octets.now c.args.place c.in-Some.count.now found.0 (found.1 0) in
    let some : 0 < c.in-Some.count.now = omega arith in
    let few : c.in-Some.count.now < 64 = omega arith in
    other_label c.args.octets.now c.args.place c.in-Some.count.now c.args.label.now rest there some few (λ e. not_both c.eq_ignore_ascii_case.result (c.eq_ignore_ascii_case.ensures.test.1 e) other)
