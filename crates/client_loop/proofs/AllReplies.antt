-- Replies to requests that are asked together, by an out and by a row more.
use Rattle.std.proofs.Common.{◌≡◌, ℕ, zero, suc, ◌+◌, ◌<◌, ◌≤◌, List, [], ◌∷◌, ◌++◌, if◌then◌else◌, Bool, true, false, length, Option, Some, None, Result, refl, ap, sym, ◌∙◌, arith, slice_index_or, slice_set}
use Rattle.std.specs.Prelude.{is_some}
use Rattle.std.proofs.lemmas.Bool.{eq-eqb, ne_eqb}
use Rattle.client_request.specs.declared.error.Error.{Error}
use Rattle.client_request.specs.declared.event.Out.{Out}
use Rattle.client_request.specs.declared.event.Out.TheVariants as variants
use Rattle.client_request.specs.declared.event.Row.{Row}
use Rattle.client_loop.specs.All.{first_replies, of_each, or_each, there}
use Rattle.client_loop.specs.Replies.{first_reply, or_later, reply_in, reply_of}
use Rattle.client_loop.proofs.BothTurning.{or_assoc, or_none, reply_more}

abbrev Reply : Type 0
Reply = Option (Result (List ℕ) Error)

-- nothing is said of any of them
pub unsaid : (said : ℕ → Reply) (number : ℕ) (replies : List Reply) → ((k : ℕ) → number ≤ k → said k ≡ None) → replies ≡ or_each replies (of_each said number (length replies))
unsaid said number [] none = refl
unsaid said number (r ∷ replies) none =
    let behind : (k : ℕ) → number + 1 ≤ k → said k ≡ None = λ k h. none k (omega arith) in
    ap (λ (o : Reply). o ∷ replies) (sym (or_none r) ∙ ap (λ (o : Reply). or_later r o) (sym (none number (omega arith))))
    ∙ ap (λ (rs : List Reply). or_later r (said number) ∷ rs) (unsaid said (number + 1) replies behind)

-- an out that replies to another request, and one that is no reply
pub other : (request k : ℕ) (reply : Result (List ℕ) Error) → (request ≡ k → ⊥) → reply_of k (variants.Reply request reply) ≡ None
other request k reply differs = ap (λ (b : Bool). if b then Some reply else None) (ne_eqb request k differs)

pub no_reply : (out : Out) → ((request : ℕ) (reply : Result (List ℕ) Error) → out ≡ variants.Reply request reply → ⊥) → (k : ℕ) → reply_of k out ≡ None
no_reply (variants.Reply request reply) none k = absurd (none request reply refl)
no_reply (variants.Send a b c d) none k = refl
no_reply (variants.Write a b c d) none k = refl
no_reply (variants.Resume a b) none k = refl
no_reply (variants.Start a b c) none k = refl
no_reply (variants.OpenDgram a b) none k = refl
no_reply (variants.OpenStream a b) none k = refl
no_reply (variants.Close a) none k = refl
no_reply (variants.Stale a) none k = refl

-- an out replies to an earlier request
pub earlier : (number request : ℕ) (reply : Result (List ℕ) Error) (replies : List Reply) → request < number → replies ≡ or_each replies (of_each (λ k. reply_of k (variants.Reply request reply)) number (length replies))
earlier number request reply replies h = unsaid (λ k. reply_of k (variants.Reply request reply)) number replies (λ k behind. other request k reply (λ e. omega arith))

-- it replies to one that has no reply yet
pub taken : (number request d : ℕ) (reply : Result (List ℕ) Error) (replies : List Reply) → request ≡ number + d → d < length replies → None ≡ slice_index_or replies d None
    → slice_set replies d (Some reply) ≡ or_each replies (of_each (λ k. reply_of k (variants.Reply request reply)) number (length replies))
taken number request d reply [] is within at = absurd (omega arith)
taken number request zero reply (r ∷ replies) is within at =
    let here : reply_of number (variants.Reply request reply) ≡ Some reply = ap (λ (b : Bool). if b then Some reply else None) (eq-eqb request number (omega arith)) in
    ap (λ (o : Reply). o ∷ replies) (sym here ∙ ap (λ (o : Reply). or_later o (reply_of number (variants.Reply request reply))) at)
    ∙ ap (λ (rs : List Reply). or_later r (reply_of number (variants.Reply request reply)) ∷ rs) (earlier (number + 1) request reply replies (omega arith))
taken number request (suc d) reply (r ∷ replies) is within at =
    ap (λ (o : Reply). o ∷ slice_set replies d (Some reply)) (sym (or_none r) ∙ ap (λ (o : Reply). or_later r o) (sym (other request number reply (λ e. omega arith))))
    ∙ ap (λ (rs : List Reply). or_later r (reply_of number (variants.Reply request reply)) ∷ rs) (taken (number + 1) request d reply replies (omega arith) (omega arith) at)

-- it replies to one that has a reply, or to one behind them
pub kept : (number request d : ℕ) (reply : Result (List ℕ) Error) (replies : List Reply) → request ≡ number + d → (d < length replies → is_some (slice_index_or replies d None) ≡ true)
    → replies ≡ or_each replies (of_each (λ k. reply_of k (variants.Reply request reply)) number (length replies))
kept number request d reply [] is has = refl
kept number request zero reply (r ∷ replies) is has =
    ap (λ (o : Reply). o ∷ replies) (has_one r (reply_of number (variants.Reply request reply)) (has (omega arith)))
    ∙ ap (λ (rs : List Reply). or_later r (reply_of number (variants.Reply request reply)) ∷ rs) (earlier (number + 1) request reply replies (omega arith))
  where
    has_one : (o p : Reply) → is_some o ≡ true → o ≡ or_later o p
    has_one None p e = absurd (cc)
    has_one (Some x) p e = refl
kept number request (suc d) reply (r ∷ replies) is has =
    ap (λ (o : Reply). o ∷ replies) (sym (or_none r) ∙ ap (λ (o : Reply). or_later r o) (sym (other request number reply (λ e. omega arith))))
    ∙ ap (λ (rs : List Reply). or_later r (reply_of number (variants.Reply request reply)) ∷ rs) (kept (number + 1) request d reply replies (omega arith) (λ within. has (omega arith)))

-- what stands within a list stands there whatever else is given behind it
pub index_same : (replies : List Reply) (d : ℕ) (a b : Reply) → d < length replies → slice_index_or replies d a ≡ slice_index_or replies d b
index_same [] d a b within = absurd (omega arith)
index_same (r ∷ replies) zero a b within = refl
index_same (r ∷ replies) (suc d) a b within = index_same replies d a b (omega arith)

pub none_of : (o : Reply) → is_some o ≡ false → o ≡ None
none_of None e = refl
none_of (Some reply) e = absurd (cc)

-- of what is said twice the earlier one
pub said_twice : (f g : ℕ → Reply) (number count : ℕ) → or_each (of_each f number count) (of_each g number count) ≡ of_each (λ k. or_later (f k) (g k)) number count
said_twice f g number zero = refl
said_twice f g number (suc count) = ap (λ (rs : List Reply). or_later (f number) (g number) ∷ rs) (said_twice f g (number + 1) count)

pub same_said : (f g : ℕ → Reply) (number count : ℕ) → ((k : ℕ) → f k ≡ g k) → of_each f number count ≡ of_each g number count
same_said f g number zero same = refl
same_said f g number (suc count) same = ap (λ (o : Reply). o ∷ of_each f (number + 1) count) (same number) ∙ ap (λ (rs : List Reply). g number ∷ rs) (same_said f g (number + 1) count same)

pub said_count : (f : ℕ → Reply) (number count : ℕ) → length (of_each f number count) ≡ count
said_count f number zero = refl
said_count f number (suc count) = ap suc (said_count f (number + 1) count)

-- one row more
pub row_more : (number count : ℕ) (rows : List Row) (row : Row) → or_each (first_replies number count rows) (of_each (λ k. reply_in k row.outs) number count) ≡ first_replies number count (rows ++ row ∷ [])
row_more number count rows row =
    said_twice (λ k. first_reply k rows) (λ k. reply_in k row.outs) number count
    ∙ same_said (λ k. or_later (first_reply k rows) (reply_in k row.outs)) (λ k. first_reply k (rows ++ row ∷ [])) number count (λ k. sym (reply_more k rows row))

-- an out, and those behind it
pub outs_more : (number : ℕ) (out : Out) (outs : List Out) (replies : List Reply)
    → or_each (or_each replies (of_each (λ k. reply_of k out) number (length replies))) (of_each (λ k. reply_in k outs) number (length replies)) ≡ or_each replies (of_each (λ k. reply_in k (out ∷ outs)) number (length replies))
outs_more number out outs [] = refl
outs_more number out outs (r ∷ replies) =
    ap (λ (o : Reply). o ∷ or_each (or_each replies (of_each (λ k. reply_of k out) (number + 1) (length replies))) (of_each (λ k. reply_in k outs) (number + 1) (length replies))) (or_assoc r (reply_of number out) (reply_in number outs))
    ∙ ap (λ (rs : List Reply). or_later r (or_later (reply_of number out) (reply_in number outs)) ∷ rs) (outs_more (number + 1) out outs replies)

pub or_count : (replies later : List Reply) → length (or_each replies later) ≡ length replies
or_count [] later = refl
or_count (r ∷ replies) [] = refl
or_count (r ∷ replies) (s ∷ later) = ap suc (or_count replies later)

-- what was taken of an out, and what those behind it still give
pub put_more : (number : ℕ) (out : Out) (outs left : List Out) (replies later final : List Reply) → later ≡ or_each replies (of_each (λ k. reply_of k out) number (length replies)) → left ≡ out ∷ outs
    → or_each replies (of_each (λ k. reply_in k left) number (length replies)) ≡ final → or_each later (of_each (λ k. reply_in k outs) number (length later)) ≡ final
put_more number out outs left replies later final is at all =
    let many : length later ≡ length replies = ap length is ∙ or_count replies (of_each (λ k. reply_of k out) number (length replies)) in
    ap (λ (n : ℕ). or_each later (of_each (λ k. reply_in k outs) number n)) many
    ∙ ap (λ (rs : List Reply). or_each rs (of_each (λ k. reply_in k outs) number (length replies))) is
    ∙ outs_more number out outs replies
    ∙ ap (λ (os : List Out). or_each replies (of_each (λ k. reply_in k os) number (length replies))) (sym at)
    ∙ all

pub put_all : (number : ℕ) (left : List Out) (replies final : List Reply) → left ≡ [] → or_each replies (of_each (λ k. reply_in k left) number (length replies)) ≡ final → replies ≡ final
put_all number left replies final is all =
    unsaid (λ k. reply_in k []) number replies (λ k behind. refl)
    ∙ ap (λ (os : List Out). or_each replies (of_each (λ k. reply_in k os) number (length replies))) (sym is)
    ∙ all

-- one more of which nothing is said
nones_behind : (number count : ℕ) → of_each (λ k. None) number (suc count) ≡ of_each (λ k. None) number count ++ None ∷ []
nones_behind number zero = refl
nones_behind number (suc count) = ap (λ (rs : List Reply). None ∷ rs) (nones_behind (number + 1) count)

pub nones_more : (number count more : ℕ) → more ≡ count + 1 → of_each (λ k. None) number more ≡ of_each (λ k. None) number count ++ None ∷ []
nones_more number count more is = let e : more ≡ suc count = omega arith in ap (λ (n : ℕ). of_each (λ k. None) number n) e ∙ nones_behind number count

-- how many are there
pub there_most : (replies : List Reply) → there replies ≤ length replies
there_most [] = omega arith
there_most (Some reply ∷ replies) = let h = there_most replies in omega arith
there_most (None ∷ replies) = omega arith

pub there_more : (replies : List Reply) (n : ℕ) → n ≤ there replies → n < length replies → is_some (slice_index_or replies n None) ≡ true → n + 1 ≤ there replies
there_more [] n h within some = absurd (omega arith)
there_more (Some reply ∷ replies) zero h within some = omega arith
there_more (Some reply ∷ replies) (suc n) h within some = let more = there_more replies n (omega arith) (omega arith) some in omega arith
there_more (None ∷ replies) zero h within some = absurd (cc)
there_more (None ∷ replies) (suc n) h within some = absurd (omega arith)

pub there_here : (replies : List Reply) (n : ℕ) → n ≤ there replies → n < length replies → is_some (slice_index_or replies n None) ≡ false → n ≡ there replies
there_here [] n h within none = absurd (omega arith)
there_here (Some reply ∷ replies) zero h within none = absurd (cc)
there_here (Some reply ∷ replies) (suc n) h within none = ap suc (there_here replies n (omega arith) (omega arith) none)
there_here (None ∷ replies) zero h within none = refl
there_here (None ∷ replies) (suc n) h within none = absurd (omega arith)

pub there_kept : (replies later : List Reply) → there replies ≤ there (or_each replies later)
there_kept [] later = omega arith
there_kept (None ∷ replies) later = omega arith
there_kept (Some reply ∷ replies) [] = omega arith
there_kept (Some reply ∷ replies) (s ∷ later) = let h = there_kept replies later in omega arith
