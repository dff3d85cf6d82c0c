-- Replies are the same whatever was put out before.
use Rattle.std.proofs.Common.{◌≡◌, ℕ, zero, suc, Bool, true, false, Option, Some, None, List, [], ◌∷◌, length, Ok, Err, refl, ◌∙◌, ap, arith}
use Rattle.client_request.specs.Numbered.{entry_at}
use Rattle.client_request.specs.View.{View, asks, drops_timer}
use Rattle.client_request.specs.declared.board.Posted.{Posted}
use Rattle.client_request.specs.declared.event.Out.{Out}
use Rattle.client_request.specs.declared.error.Error.TheVariants.{TimedOut}
use Rattle.client_request.specs.declared.event.Out.TheVariants.{Stale, Reply}
use Rattle.client_steps.specs.Client.{Asked, result_of, marks, late_reply, without_request, replies_to, replies_one, replies_first, replies_many, replies}
use Rattle.client_steps.specs.declared.asked.Waiting.{Waiting}
use Rattle.proof_cutting.specs.Pieces.{like}
use Rattle.proof_cutting.proofs.Views.{asks_like}

-- with an empty board there is nothing to reply
pub nothing_to_reply : {P : Type 0} (a : Asked P) (v : View) → v.board ≡ [] → replies (a, v) ≡ (a, v)
nothing_to_reply a v none = ap (λ (board : List Posted). replies_many (length board) (a, v)) none

module _ (before : List Out) (more : Bool) (request : ℕ) where
  -- a reply is marked alike
  marks_like : (stale : Bool) (number : ℕ) (v : View) → marks stale number (like before more request v) ≡ like before more request (marks stale number v)
  marks_like true number v = asks_like before more request (Stale number) v
  marks_like false number v = refl

  -- what is put out where a deadline passed
  pub late_like : (number : ℕ) (instead : Option (List ℕ)) (v : View) → late_reply number instead (like before more request v) ≡ like before more request (late_reply number instead v)
  late_like number None v = asks_like before more request (Reply number (Err TimedOut)) v
  late_like number (Some message) v =
      ap (asks (Reply number (Ok message))) (asks_like before more request (Stale number) v)
      ∙ asks_like before more request (Reply number (Ok message)) (asks (Stale number) v)

module _ {P : Type 0} (before : List Out) (more : Bool) (request : ℕ) where
  abbrev pub asked_like : Asked P × View → Asked P × View
  asked_like x = (x.0, like before more request x.1)

  replied : (p : Posted) (a : Asked P) (v : View) (w : Option (Waiting P)) → replies_to p a (like before more request v) w ≡ asked_like (replies_to p a v w)
  replied p a v None = refl
  replied p a v (Some w) =
      ap (λ (y : View). (without_request p.ticket (Some w) a, y))
      (ap (asks (Reply w.number (result_of p.part))) (marks_like before more request p.is_stale w.number (drops_timer w.timer v)) ∙ asks_like before more request (Reply w.number (result_of p.part)) (marks p.is_stale w.number (drops_timer w.timer v)))

  one_replied : (a : Asked P) (v : View) (ps : List Posted) → replies_one a (like before more request v) ps ≡ asked_like (replies_one a v ps)
  one_replied a v [] = refl
  one_replied a v (first ∷ rest) = replied first a (record v { board = rest }) (entry_at first.ticket a.waiting)

  many_replied : (n : ℕ) (x : Asked P × View) → replies_many n (asked_like x) ≡ asked_like (replies_many n x)
  many_replied zero x = refl
  many_replied (suc n) x = ap (replies_many n) (one_replied x.0 x.1 x.1.board) ∙ many_replied n (replies_first x)

  -- What is replied does not depend on what was put out.
  pub replies_like : (x : Asked P × View) → replies (asked_like x) ≡ asked_like (replies x)
  replies_like x = many_replied (length x.1.board) x

-- What replies leave as it is.
pub record Kept (v w : View) : Type 0 where
  pub timer : w.timers.next ≡ v.timers.next
  pub now : w.now ≡ v.now
  pub more : w.more ≡ v.more

-- So does what is put out where a deadline passed, and the board too.
pub late_keeps : (number : ℕ) (instead : Option (List ℕ)) (v : View) → Kept v (late_reply number instead v)
late_keeps number None v = record { timer = refl; now = refl; more = refl }
late_keeps number (Some message) v = record { timer = refl; now = refl; more = refl }

pub late_board : (number : ℕ) (instead : Option (List ℕ)) (v : View) → (late_reply number instead v).board ≡ v.board
late_board number None v = refl
late_board number (Some message) v = refl

empty : (ps : List Posted) → length ps ≡ zero → ps ≡ []
empty [] e = refl
empty (first ∷ rest) e = absurd (omega arith)

module _ {P : Type 0} where
  one_keeps : (p : Posted) (a : Asked P) (v : View) (w : Option (Waiting P)) → Kept v (replies_to p a v w).1
  one_keeps p a v None = record { timer = refl; now = refl; more = refl }
  one_keeps p a v (Some w) = by p.is_stale
    where
      by : (stale : Bool) → Kept v (asks (Reply w.number (result_of p.part)) (marks stale w.number (drops_timer w.timer v)))
      by true = record { timer = refl; now = refl; more = refl }
      by false = record { timer = refl; now = refl; more = refl }

  first_keeps : (a : Asked P) (v : View) (ps : List Posted) → Kept v (replies_one a v ps).1
  first_keeps a v [] = record { timer = refl; now = refl; more = refl }
  first_keeps a v (first ∷ rest) = let k = one_keeps first a (record v { board = rest }) (entry_at first.ticket a.waiting) in record { timer = k.timer; now = k.now; more = k.more }

  many_keep : (n : ℕ) (x : Asked P × View) → Kept x.1 (replies_many n x).1
  many_keep zero x = record { timer = refl; now = refl; more = refl }
  many_keep (suc n) x =
      let f = first_keeps x.0 x.1 x.1.board in
      let m = many_keep n (replies_first x) in
      record { timer = m.timer ∙ f.timer; now = m.now ∙ f.now; more = m.more ∙ f.more }

  pub replies_keep : (x : Asked P × View) → Kept x.1 (replies x).1
  replies_keep x = many_keep (length x.1.board) x

  one_taken : (p : Posted) (a : Asked P) (v : View) (w : Option (Waiting P)) → (replies_to p a v w).1.board ≡ v.board
  one_taken p a v None = refl
  one_taken p a v (Some w) = by p.is_stale
    where
      by : (stale : Bool) → (marks stale w.number (drops_timer w.timer v)).board ≡ v.board
      by true = refl
      by false = refl

  first_taken : (n : ℕ) (a : Asked P) (v : View) (ps : List Posted) → length ps ≡ suc n → length (replies_one a v ps).1.board ≡ n
  first_taken n a v [] e = absurd (omega arith)
  first_taken n a v (first ∷ rest) e = ap (λ (b : List Posted). length b) (one_taken first a (record v { board = rest }) (entry_at first.ticket a.waiting)) ∙ less
    where
      less : length rest ≡ n
      less = omega arith

  all_taken : (n : ℕ) (x : Asked P × View) → length x.1.board ≡ n → (replies_many n x).1.board ≡ []
  all_taken zero x e = empty x.1.board e
  all_taken (suc n) x e = all_taken n (replies_first x) (first_taken n x.0 x.1 x.1.board e)

  -- Nothing is left on the board.
  pub replies_empty : (x : Asked P × View) → (replies x).1.board ≡ []
  replies_empty x = all_taken (length x.1.board) x refl
