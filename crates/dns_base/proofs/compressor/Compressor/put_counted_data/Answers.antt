use Rattle.std.proofs.Common.{◌≡◌, ◌+◌, ◌≤◌, ◌∷◌, [], ℕ, length, ap, sym, refl, subst, ◌∙◌, arith}
use Rattle.std.specs.Int.{w16, to_be_bytes}
use Rattle.dns_base.specs.Data.{Data}
use Rattle.dns_base.specs.RecordData.{data_view}
use Rattle.dns_base.specs.Compression.{Compressed, with_data, with_u16, counted, with_counted_data, Continues}
use Rattle.dns_base.proofs.Compressing.{continues_on}
use Rattle.dns_base.proofs.Sizes.{appended_long, data_at_most, begins_long, counted_continues}
use Rattle.dns_base.proofs.compressor.Compressor.put_counted_data.Goals as goal

pub put_count-requires-clause-long : goal.put_count-requires-clause-long
put_count-requires-clause-long c =
    let before : Compressed = c.args.self.now in
    let gap = begins_long _ _ c.put_data.ensures.kept.octets in
    omega (arith, c.len-at.ensures.count, ap (λ (x : Compressed). length x.octets) c.in_ok-put_u16.ensures.ok, appended_long (to_be_bytes w16 0) before, gap)

pub put_count-requires-clause-few : goal.put_count-requires-clause-few
put_count-requires-clause-few c =
    let before : Compressed = c.args.self.now in
    let content : Data = data_view c.args.rdata.now in
    let written = ap (λ (x : Compressed). length x.octets) c.in_ok-put_data.ensures.ok in
    omega (arith, c.len-at.ensures.count, ap (λ (x : Compressed). length x.octets) c.in_ok-put_u16.ensures.ok, appended_long (to_be_bytes w16 0) before, written, data_at_most content c.put_u16.new.self, c.requires)

pub returns-clause-ok : goal.returns-clause-ok
unfolding with_counted_data
returns-clause-ok c =
    let content : Data = data_view c.args.rdata.now in
    c.put_count.ensures ∙ ap (λ n. counted n c.put_data.new.self) c.len-at.ensures.count ∙ ap (λ x. counted (length c.args.self.now.octets) x) (c.in_ok-put_data.ensures.ok ∙ ap (with_data content) c.in_ok-put_u16.ensures.ok)

pub returns-clause-kept : goal.returns-clause-kept
returns-clause-kept c =
    let before : Compressed = c.args.self.now in
    let kept = continues_on before c.put_u16.new.self c.put_data.new.self c.put_u16.ensures.kept c.put_data.ensures.kept in
    let gap = begins_long _ _ c.put_data.ensures.kept.octets in
    let long : length before.octets + 2 ≤ length c.put_data.new.self.octets =
    omega (arith, ap (λ (x : Compressed). length x.octets) c.in_ok-put_u16.ensures.ok, appended_long (to_be_bytes w16 0) before, gap) in
    let is = c.put_count.ensures ∙ ap (λ n. counted n c.put_data.new.self) c.len-at.ensures.count in
    subst (Continues before) (sym is) (counted_continues before c.put_data.new.self long kept)
