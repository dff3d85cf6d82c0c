use Rattle.std.proofs.Common.{List, [], ℕ, append-nil, map, rules, subst}
use Rattle.std.specs.String.{string_bytes}
use Rattle.dns_lookup_files.specs.Files.{HaveWords}
use Rattle.dns_lookup_files.proofs.Reading.{goes_on, none_left}
use Rattle.dns_lookup_files.proofs.filed.words_of_files.Goals as goal

pub loop-name-preserved : goal.loop-name-preserved
loop-name-preserved g c =
    goes_on g.O.OpenFile.files (map string_bytes c.args.files.now) c.args.opener.now (map string_bytes c.loop-name.words.items) (map string_bytes c.push_file.new.words.items)
    c.loop-name.rest.now c.in-Some.later.now c.in-Some.name.now c.as_str.result.now c.loop-name.opener c.push_file.new.opener c.loop-name.invariant (search rules) (search rules) c.in_ok-push_file.ensures.added

pub returns : goal.returns
returns g c =
    subst (λ (words : List (List ℕ)). HaveWords g.O.OpenFile.files (map string_bytes c.args.files.now) words c.args.opener.now c.loop-name.opener)
    (append-nil (map string_bytes c.loop-name.words.items))
    (c.loop-name.invariant [] c.loop-name.opener (none_left g.O.OpenFile.files c.loop-name.rest.now c.loop-name.opener c.in_default.ensures.cases))
