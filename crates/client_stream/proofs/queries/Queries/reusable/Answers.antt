use Rattle.std.proofs.Common.{◌≡◌, ◌∙◌, ap, arith}
use Rattle.client_stream.specs.IdTable.{full_front}
use Rattle.client_stream.proofs.IdTable.{reuse_some, reuse_none}
use Rattle.client_stream.proofs.queries.Queries.reusable.Goals as goal

pub returns-then-id-len : goal.returns-then-id-len
returns-then-id-len g c =
    let s = c.self.inside.slots.items in
    let id : c.first_free-id.result ≡ full_front s = c.first_free-id.ensures ∙ ap full_front c.deref.ensures.value in
    let count = c.self.invariant.0 in
    reuse_some c.self.inside.held c.first_free-id.result s c.args.self.now c.self.view_is c.self.invariant.0 (omega arith) id (omega arith)

pub returns-else-id-len : goal.returns-else-id-len
returns-else-id-len g c =
    let s = c.self.inside.slots.items in
    let id : c.first_free-id.result ≡ full_front s = c.first_free-id.ensures ∙ ap full_front c.deref.ensures.value in
    reuse_none c.first_free-id.result s c.args.self.now c.self.view_is id (omega arith)
