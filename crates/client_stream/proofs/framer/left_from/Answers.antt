use Rattle.std.proofs.Common.{◌≡◌, ◌+◌, ◌-◌, ℕ, Bool, true, false, suc, List, length, drop, take, ap, sym, ◌∙◌, arith, length-drop}
use Rattle.std.proofs.lemmas.List.{drop-drop, take_rest}
use Rattle.client_stream.specs.Frames.{body_size, has_frame, behind_frames}
use Rattle.client_stream.proofs.Frames.{stops, goes, whole}
use Rattle.client_stream.proofs.framer.left_from.Goals as goal

-- what a test of the octets from a place on says
at_place : (octets : List ℕ) (at : ℕ) (r b : Bool) → r ≡ b → r ≡ has_frame (take (length octets - at) (drop at octets)) → has_frame (drop at octets) ≡ b
at_place octets at r b is e = ap has_frame (sym (take_rest octets at)) ∙ sym e ∙ is

pub returns-then-not-has_frame-clause-value : goal.returns-then-not-has_frame-clause-value
returns-then-not-has_frame-clause-value c =
    let o = c.args.octets.now in
    let h : has_frame (drop c.loop.at o) ≡ false = at_place o c.loop.at _ false c.if-not-has_frame.true c.has_frame.ensures in
    sym (stops (length o - c.loop.counter) (drop c.loop.at o) h) ∙ c.loop.invariant.same

pub loop-preserved : goal.loop-preserved
loop-preserved c =
    let o = c.args.octets.now in
    let n = length o - (c.loop.counter + 1) in
    let h : has_frame (drop c.loop.at o) ≡ true = at_place o c.loop.at _ true c.if-not-has_frame.false c.has_frame.ensures in
    let size : c.body_size.result ≡ body_size (drop c.loop.at o) = c.body_size.ensures.value ∙ ap body_size (take_rest o c.loop.at) in
    let w = whole (drop c.loop.at o) h in
    let l = length-drop c.loop.at o in
    let e : length o - c.loop.counter ≡ suc n = omega arith in
    let on : drop (c.loop.at + (2 + c.body_size.result)) o ≡ drop (2 + body_size (drop c.loop.at o)) (drop c.loop.at o) =
    ap (λ s. drop (c.loop.at + (2 + s)) o) size ∙ sym (drop-drop (2 + body_size (drop c.loop.at o)) c.loop.at o) in
    record {
      within = omega arith;
      same = ap (behind_frames n) on ∙ sym (goes n (drop c.loop.at o) h) ∙ sym (ap (λ k. behind_frames k (drop c.loop.at o)) e) ∙ c.loop.invariant.same;
    }
