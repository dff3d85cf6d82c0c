use Rattle.std.proofs.Common.{◌≡◌, ◌++◌, arith}
use Rattle.client_request.specs.Request.{option_octets}
use Rattle.client_request.proofs.Options.{option_added, option_long}
use Rattle.client_request.proofs.recorded_opt.RecordedOpt.add_option.Goals as goal

pub invariant_of-self : goal.invariant_of-self
invariant_of-self c =
    let whole = option_added c.self.inside.options.items c.args.code c.args.octets.now c.self.invariant.0 (omega arith) in
    let items = c.in-Ok.ensures.items in
    let added = c.in_ok-option.ensures in
    let given = c.deref.ensures.value in
    let all : c.extend_from_slice.new.self.items ≡ c.self.inside.options.items ++ option_octets c.args.code c.args.octets.now = cc in
    (rw all whole, rw all (omega (arith, option_long c.self.inside.options.items c.args.code c.args.octets.now)))
