use Rattle.std.proofs.Common.{◌≡◌, map, take}
use Rattle.std.specs.List.{flat_map}
use Rattle.stub_resolver.specs.All.{is_asked, request_in}
use Rattle.stub_resolver.proofs.all.requests_of.Given as goal

abbrev pub invariant-loop-question : goal.invariant-loop-question
invariant-loop-question l = record {
  asked : l.asked.items ≡ map is_asked (take l.question-index l.questions);
  requests : l.requests.items ≡ flat_map request_in (take l.question-index l.questions);
}
