use Rattle.std.proofs.Common.{◌≡◌, ℕ, ◌+◌, ◌≤◌, length, arith, ap, sym, ◌∙◌, subst}
use Rattle.dns_base.specs.Entries.{question_of}
use Rattle.dns_base.specs.Message.{Asked}
use Rattle.dns_base.specs.Compression.{Compressed, with_question}
use Rattle.dns_base.specs.Draft.{Draft, IsWithin, size, limit_of}
use Rattle.dns_base.proofs.Sizes.{head_kept, still_fits, question_continues, question_at_most}
use Rattle.dns_base.proofs.builder.Builder.push_question.Goals as goal

pub returns-clause-head : goal.returns-clause-head
returns-clause-head g c =
    let d : Draft = c.args.self.now in
    let q : Asked = question_of c.parsed-name.result c.args.rtype c.args.class in
    let is = c.self-2.view_is ∙ c.in_ok-write_question.ensures.ok in
    let long : 12 ≤ length d.target.octets = subst (λ (x : Draft). 12 ≤ length x.target.octets) c.self.view_is c.self.invariant in
    head_kept d _ (with_question q d.target) long (question_continues q d.target) (ap (λ (x : Draft). x.target) is) (ap (λ (x : Draft). x.limit) is)

pub returns-clause-fits : goal.returns-clause-fits
unfolding size limit_of
returns-clause-fits g c =
    let d : Draft = c.args.self.now in
    let q : Asked = question_of c.parsed-name.result c.args.rtype c.args.class in
    let is = c.self-2.view_is ∙ c.in_ok-write_question.ensures.ok in
    let more : ℕ = c.name_size.result + 4 in
    let few : length (with_question q d.target).octets ≤ length d.target.octets + more = omega (arith, question_at_most q d.target, c.name_size.ensures.all) in
    still_fits c.self-2.inside.limit d.limit c.self-2.inside.target d.target (with_question q d.target) more c.in_ok-refuse.ensures.fits few (ap (λ (x : Draft). x.target) is) (ap (λ (x : Draft). x.limit) is)
