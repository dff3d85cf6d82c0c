-- What is received, and what is sent in order, step by step.
use Rattle.std.proofs.Common.{◌≡◌, ◌+◌, ◌-◌, ◌<◌, ℕ, Bool, suc, false, true, List, Option, [], ◌∷◌, subst, sym, arith}
use Rattle.socket_places.specs.Told.{after_one}
use Rattle.socket_places.specs.declared.socket.Answer.{Answer}
use Rattle.listener_peers.specs.Batches.{Batch, Receives, ReceivesOne, SendsAll, asked_enough, at_once, gave_none, gave_one, sent_next, sent_none}
use Rattle.listener_peers.specs.declared.batch.Outgoing.{Outgoing}
use Rattle.listener_peers.specs.declared.listener.Post.{Post}
use Rattle.listener_peers.specs.declared.listener.Post.TheVariants.{Went}

-- what was sent first, and then the others
pub sends_next : (unsent more : List Outgoing) (next : Outgoing) (answer : Answer ℕ) (old mid new : Option (List Post)) → unsent ≡ next ∷ more
    → mid ≡ after_one (Went next.to next.octets answer) old → SendsAll more mid new → SendsAll unsent old new
sends_next unsent more next answer old mid new first went sent =
    subst (λ (u : List Outgoing). SendsAll u old new) (sym first) (sent_next next more answer old new (subst (λ (p : Option (List Post)). SendsAll more p new) went sent))

-- where nothing is unsent
pub sends_none : (unsent : List Outgoing) (posts : Option (List Post)) → unsent ≡ [] → SendsAll unsent posts posts
sends_none unsent posts none = subst (λ (u : List Outgoing). SendsAll u posts posts) (sym none) (sent_none posts)

-- asked so often, what is received from here on is received behind what was
abbrev pub ReceivesBehind : Batch → Batch → ℕ → Type 0
ReceivesBehind first here count = (new : Batch) → Receives (at_once - count) here new → Receives at_once first new

-- one that gave a datagram
pub receives_more : (first here next : Batch) (count : ℕ) (gave : Bool) → count < at_once → gave ≡ true → ReceivesBehind first here count → ReceivesOne here next gave
    → ReceivesBehind first next (count + 1)
receives_more first here next count gave few one_more behind one = λ new more.
    let left : at_once - count ≡ suc (at_once - (count + 1)) = omega arith in
    let given : ReceivesOne here next true = subst (ReceivesOne here next) one_more one in
    behind new (subst (λ (most : ℕ). Receives most here new) (sym left) (gave_one (at_once - (count + 1)) here next new given more))

-- one that gave none
pub receives_last : (first here new : Batch) (count : ℕ) (gave : Bool) → count < at_once → gave ≡ false → ReceivesBehind first here count → ReceivesOne here new gave
    → Receives at_once first new
receives_last first here new count gave few none behind one =
    let left : at_once - count ≡ suc (at_once - (count + 1)) = omega arith in
    let given : ReceivesOne here new false = subst (ReceivesOne here new) none one in
    behind new (subst (λ (most : ℕ). Receives most here new) (sym left) (gave_none (at_once - (count + 1)) here new given))

-- as many as may be
pub receives_enough : (first here : Batch) (count : ℕ) → count ≡ at_once → ReceivesBehind first here count → Receives at_once first here
receives_enough first here count full behind =
    let left : at_once - count ≡ 0 = omega arith in
    behind here (subst (λ (most : ℕ). Receives most here here) (sym left) (asked_enough here))
