use Rattle.std.proofs.Common.{◌≡◌, take}
use Rattle.stub_resolver.specs.All.{host_questions}
use Rattle.stub_resolver.proofs.lookups.host_questions.Given as goal

abbrev pub invariant-loop-name : goal.invariant-loop-name
invariant-loop-name l = l.questions.items ≡ host_questions (take l.name-index l.names)
