use Rattle.std.proofs.Common.{◌≡◌, take}
use Rattle.std.specs.String.{string_bytes}
use Rattle.forward_conf.specs.Sentences.{addresses_text}
use Rattle.forward_conf.proofs.sentences.addresses_text.Given as goal

abbrev pub invariant-loop-ip : goal.invariant-loop-ip
invariant-loop-ip l = string_bytes l.text ≡ addresses_text (take l.ip-index l.listened)
