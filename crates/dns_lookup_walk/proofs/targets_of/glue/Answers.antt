use Rattle.std.proofs.Common.{◌≡◌, ◌<◌, ◌+◌, ◌++◌, ◌∙◌, ◌∷◌, [], ℕ, List, ap, append-nil, get_or, length, sym, take}
use Rattle.std.specs.List.{flat_map}
use Rattle.std.proofs.lemmas.Grind.{flat_map-append}
use Rattle.std.proofs.lemmas.List.{take_more}
use Rattle.dns_base.specs.Message.{additional_items}
use Rattle.dns_lookup_walk.specs.Records.{found_in}
use Rattle.dns_lookup_walk.specs.Targets.{glue_of}
use Rattle.dns_lookup_walk.proofs.targets_of.glue.Goals as goal

-- one piece more, of the next item
one_more : {X A : Type 0} (f : X → List A) (xs : List X) (i : ℕ) (x : X) (before after : List A) → i < length xs → x ≡ get_or xs i x
    → before ≡ flat_map f (take i xs) → after ≡ before ++ f x → after ≡ flat_map f (take (i + 1) xs)
one_more f xs i x before after within is so more =
    more ∙ ap (λ b. b ++ f x) so ∙ ap (λ p. flat_map f (take i xs) ++ p) (sym (append-nil (f x))) ∙ sym (flat_map-append f (take i xs) (x ∷ []))
    ∙ ap (λ l. flat_map f l) (ap (λ y. take i xs ++ y ∷ []) is ∙ sym (take_more xs i x within))

pub loop-name-preserved : goal.loop-name-preserved
loop-name-preserved c =
    one_more (glue_of c.args.zone.now (found_in (additional_items c.args.message.now))) c.args.names.now c.loop-name.name-index c.name-item.result c.loop-name.servers c.push_glue.new.servers
    c.loop-name-test.true c.name-item.is c.loop-name.invariant c.in_ok-push_glue.ensures
