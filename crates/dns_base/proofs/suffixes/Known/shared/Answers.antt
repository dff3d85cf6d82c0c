use Rattle.std.proofs.Common.{◌≡◌, ◌-◌, length, take, drop, ap, ◌∙◌, arith, length-drop}
use Rattle.std.proofs.lemmas.List.{take_all}
use Rattle.dns_base.proofs.Neighbours.{shared_with}
use Rattle.dns_base.proofs.suffixes.Known.shared.Goals as goal

pub returns : goal.returns
returns c = λ octets places labels known is.
    let k = c.args.self.now in
    let count = c.shared_labels-count.result in
    let from = c.saturating_sub.result in
    let firsts : c.deref-2.result.now ≡ k.firsts.items = cc in
    let at : from ≡ length k.firsts.items - count = cc in
    let its : take (length c.deref-2.result.now - from) (drop from c.deref-2.result.now) ≡ drop (length k.firsts.items - count) k.firsts.items =
    take_all _ (drop from c.deref-2.result.now) (omega (arith, length-drop from c.deref-2.result.now)) ∙ ap (drop from) firsts ∙ ap (λ n. drop n k.firsts.items) at in
    shared_with octets places c.args.key.now labels k count _ known is (λ a b e f. c.shared_labels-count.ensures.common a b e (cc)) its
