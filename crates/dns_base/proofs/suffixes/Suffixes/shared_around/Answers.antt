use Rattle.std.proofs.Common.{◌≡◌, ℕ, ◌-◌, [], take, drop, subst, arith}
use Rattle.dns_base.specs.Suffixes.{IsShared}
use Rattle.dns_base.proofs.Neighbours.{shared_around, shared_by_none}
use Rattle.dns_base.proofs.suffixes.Suffixes.shared_around.Goals as goal

pub returns-then-at-eq0 : goal.returns-then-at-eq0
returns-then-at-eq0 c = λ octets places labels known is.
    let names = c.args.self.now.names.items in
    let behind = c.shared_at-behind.ensures octets places labels known is in
    let first : c.args.at ≡ 0 = omega arith in
    shared_around octets places c.args.key.now labels names c.args.at [] c.shared_at-behind.result.now c.shared_at-behind.result.now c.requires.rise c.requires.place is
    (λ i e. absurd (omega arith)) behind (shared_by_none octets places labels _ _ behind) (omega arith) (omega arith)

pub returns-then-before-behind : goal.returns-then-before-behind
returns-then-before-behind c = λ octets places labels known is.
    let names = c.args.self.now.names.items in
    let behind = c.shared_at-behind.ensures octets places labels known is in
    let before = c.shared_at-before.ensures octets places labels known is in
    let few = c.if-before-behind.true in
    shared_around octets places c.args.key.now labels names c.args.at c.shared_at-before.result.now c.shared_at-behind.result.now c.shared_at-behind.result.now c.requires.rise c.requires.place is
    (λ i e. let at : c.args.at - 1 ≡ i = omega arith in subst (λ (n : ℕ). IsShared octets places labels (take 1 (drop n names)) c.shared_at-before.result.now) at before)
    behind (shared_by_none octets places labels _ _ behind) (omega arith) (omega arith)

pub returns-else-before-behind : goal.returns-else-before-behind
returns-else-before-behind c = λ octets places labels known is.
    let names = c.args.self.now.names.items in
    let behind = c.shared_at-behind.ensures octets places labels known is in
    let before = c.shared_at-before.ensures octets places labels known is in
    let few = c.if-before-behind.false in
    shared_around octets places c.args.key.now labels names c.args.at c.shared_at-before.result.now c.shared_at-behind.result.now c.shared_at-before.result.now c.requires.rise c.requires.place is
    (λ i e. let at : c.args.at - 1 ≡ i = omega arith in subst (λ (n : ℕ). IsShared octets places labels (take 1 (drop n names)) c.shared_at-before.result.now) at before)
    behind (shared_by_none octets places labels _ _ before) (omega arith) (omega arith)
