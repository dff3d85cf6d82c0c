use Rattle.std.proofs.Common.{◌≡◌, ◌+◌, sym, ap, ◌∙◌, arith, ℕ, List, slice_index}
use Rattle.std.specs.Int.{w32, to_be_bytes}
use Rattle.cache_rules.specs.Viewing.{ttl_by}
use Rattle.message_patching.specs.Patching.{put_over, ttl_put}
use Rattle.message_patching.proofs.Finding.{one_more_put}
use Rattle.message_patching.proofs.writes.put_ttls.Goals as goal

pub loop-place-preserved : goal.loop-place-preserved
loop-place-preserved c =
    let at : ℕ = slice_index c.args.places.now c.loop-place.place-index in
    let new : c.to_be_bytes.result ≡ (ttl_put c.args.ttls c.args.first.now at).1 = c.to_be_bytes.ensures ∙ ap (to_be_bytes w32) (c.ttl_by-ttl.ensures ∙ ap (ttl_by c.args.ttls) c.u32_at.ensures) in (
      c.put_over.ensures.put ∙ ap (λ x. put_over at x c.loop-place.octets.items) new ∙ ap (put_over at (ttl_put c.args.ttls c.args.first.now at).1) c.loop-place.invariant.0
          ∙ sym (one_more_put (ttl_put c.args.ttls c.args.first.now) c.args.places.now c.loop-place.place-index c.args.octets.now.items (omega arith)),
      c.put_over.ensures.len ∙ c.loop-place.invariant.1,
    )
