use Rattle.std.proofs.Common.{◌≡◌, ℕ, ◌+◌, ◌≤◌, length, arith, ap, sym, ◌∙◌, subst}
use Rattle.dns_base.specs.Entries.{record_of}
use Rattle.dns_base.specs.Message.{Written}
use Rattle.dns_base.specs.Compression.{Compressed, with_record}
use Rattle.dns_base.specs.Draft.{Draft, IsWithin, size, limit_of}
use Rattle.dns_base.proofs.Sizes.{head_kept, still_fits, record_continues, record_at_most}
use Rattle.dns_base.proofs.builder.Builder.push_record.Goals as goal

pub returns-clause-head : goal.returns-clause-head
returns-clause-head g c =
    let d : Draft = c.args.self.now in
    let w : Written = record_of c.parsed-owner.result c.args.rtype c.args.class c.args.ttl c.args.rdata.now in
    let is = c.self-2.view_is ∙ c.in_ok-write_record.ensures.ok in
    let long : 12 ≤ length d.target.octets = subst (λ (x : Draft). 12 ≤ length x.target.octets) c.self.view_is c.self.invariant in
    head_kept d _ (with_record w d.target) long (record_continues w d.target) (ap (λ (x : Draft). x.target) is) (ap (λ (x : Draft). x.limit) is)

pub returns-clause-fits : goal.returns-clause-fits
unfolding size limit_of
returns-clause-fits g c =
    let d : Draft = c.args.self.now in
    let w : Written = record_of c.parsed-owner.result c.args.rtype c.args.class c.args.ttl c.args.rdata.now in
    let is = c.self-2.view_is ∙ c.in_ok-write_record.ensures.ok in
    let more : ℕ = c.name_size.result + 10 + c.data_size.result in
    let few : length (with_record w d.target).octets ≤ length d.target.octets + more = omega (arith, record_at_most w d.target, c.name_size.ensures.all, c.data_size.ensures) in
    still_fits c.self-2.inside.limit d.limit c.self-2.inside.target d.target (with_record w d.target) more c.in_ok-refuse.ensures.fits few (ap (λ (x : Draft). x.target) is) (ap (λ (x : Draft). x.limit) is)
