-- Each digit is written before those that stand.
use Rattle.std.proofs.Common.{◌≡◌, ◌≤◌, ◌<◌, drop, take, slice_set, ◌-◌, ◌+◌, ◌%◌, [], ◌∷◌, ◌++◌, rules, arith, ap, sym, ◌∙◌, append_assoc, length-set}
use Rattle.std.specs.Fmt.{decimal}
use Rattle.dns_script.proofs.WrittenNumbers.{digit_written, first_written, longest, one_digit_more, two_digits}
use Rattle.dns_script.proofs.words.push_long_number.Goals as goal

pub loop-left-init : goal.loop-left-init
loop-left-init c = search (rules, longest c.args.number c.ranges.number.fits)

pub overflow_sub-at-in-loop-left : goal.overflow_sub-at-in-loop-left
overflow_sub-at-in-loop-left c =
    omega (arith, c.loop-left.invariant.room, two_digits c.loop-left.left (omega (arith, c.loop-left-test.true)) c.loop-left.auto.left-fits.fits)

pub loop-left-preserved : goal.loop-left-preserved
loop-left-preserved c =
    let l = c.loop-left in
    let more : 10 ≤ l.left = omega (arith, c.loop-left-test.true) in
    let wide = l.auto.left-fits.fits in
    let within = l.invariant.within in
    let size = l.invariant.size in
    let room = l.invariant.room in
    let longer = one_digit_more l.left more wide in
    let two = two_digits l.left more wide in
    let same : l.at - 1 + 1 ≡ l.at = omega arith in record {
      size = omega (arith, length-set l.digits l.at (48 + l.left % 10));
      within = omega arith;
      room = omega arith;
      written = rw same (digit_written l.left l.digits l.at more wide (omega arith) ∙ l.invariant.written);
    }

pub returns : goal.returns
returns c =
    let l = c.loop-left in
    let size = l.invariant.size in
    let within = l.invariant.within in
    let few : l.left < 10 = omega (arith, c.loop-left-test.false) in
    let first : take (21 - l.at) (drop l.at (slice_set l.digits l.at (48 + l.left))) ≡ decimal l.left ++ drop (l.at + 1) l.digits = rw size at (first_written l.left l.digits l.at few (omega arith)) in
    c.in_ok-extend_from_slice.ensures.items ∙ ap (λ more. c.args.text.now.items ++ more) (first ∙ l.invariant.written)
    ∙ sym (append_assoc c.args.text.now.items (decimal c.args.number) (c.args.behind ∷ []))
