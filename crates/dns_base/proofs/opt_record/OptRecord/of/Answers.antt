use Rattle.std.proofs.Common.{◌≡◌, rules, false}
use Rattle.std.specs.Result.{is_err}
use Rattle.dns_base.specs.RecordData.{data_view}
use Rattle.dns_base.proofs.Whole.{read_whole}
use Rattle.dns_base.proofs.opt_record.OptRecord.of.Goals as goal

pub invariant_of-result : goal.invariant_of-result
invariant_of-result c =
    let entry = c.args.entry.now.entry in
    let opt : entry.rtype ≡ 41 = search rules in
    let read : is_err c.data.result ≡ false = search rules in
    (rw c.raw_data.ensures.all (read_whole data_view c.data.result entry.octets _ (c.data.ensures.options opt) c.data.ensures.says read), c.raw_data.ensures.short)
