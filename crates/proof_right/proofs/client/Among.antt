-- What an out of a row is, and where it stands among others.
use Rattle.std.proofs.Common.{◌≡◌, ℕ, ◌+◌, Bool, true, false, ◌⊎◌, inl, inr, Option, Some, List, [], ◌∷◌, ◌++◌, refl, arith, ◌∙◌, ap, subst, ◌==◌, ◌||◌}
use Rattle.std.specs.Prelude.{Ok}
use Rattle.std.proofs.lemmas.Bool.{or_right}
use Rattle.std.proofs.lemmas.Bool.Decides.{nat_tests}
use Rattle.client_request.specs.Request.{Request}
use Rattle.client_request.specs.declared.event.What.{What}
use Rattle.client_request.specs.declared.event.Out.{Out}
use Rattle.client_request.specs.declared.event.Out.TheVariants.{Start, OpenDgram, OpenStream, Send, Write, Resume, Close, Reply, Stale}
use Rattle.right_trace.specs.Trace.{History, Conf, Came, Put}
use Rattle.right_trace.specs.Time.{row_before, Ever, OfRow}
use Rattle.right_trace.specs.Messages.{Octets}
use Rattle.right_trace.specs.Requests.{asks, Asking, asking, is_asked_here, is_reply, replied}
use Rattle.right_trace.specs.Right.{Among, ServerOutRight}
use Rattle.right_trace.specs.Settings.{Settings}
use Rattle.right_trace.specs.Coming.{CameFor}
use Rattle.right_trace.specs.Replies.{IsFresh, InThisRow, Deferred, IsFreshReply}
use Rattle.right_trace.specs.Hit.{is_some_reply, other_replies}
use Rattle.right_trace.proofs.Asked.{asking_below, here_asks, earlier_known}

-- a message that came can't be of a request asked in this row
pub fresh_not_here : (c : Conf) (s : Settings) (k : ℕ) (m : Octets) (past : History) (w : What) (h : History) → IsFresh c s k m past w h → row_before h ≡ past → is_asked_here k h ≡ true → ⊥
fresh_not_here c s k m past w h f row here = go f
  where
    last : asks past ≡ k
    last = subst (λ g. asks g ≡ k) row (here_asks k h here)

    never : (a : Asking) → asking k past ≡ Some a → ⊥
    never a e = (let lt = asking_below k a past e in let n = last in omega arith)

    go : IsFresh c s k m past w h → ⊥
    go (InThisRow x) = (let a = x.matches.comes.is_open.stands.asked in never (record { request = x.request; moment = a.0 }) a.1)
    go (Deferred d x) = (let a = earlier_known (OfRow (CameFor c k m)) k h (λ e q. (record { request = q.request; moment = q.matches.comes.is_open.stands.asked.0 }, q.matches.comes.is_open.stands.asked.1)) x in never (a.0) (subst (λ g. asking k g ≡ Some (a.0)) row a.1))

pub ever_replied : (c : Conf) (s : Settings) (j n : ℕ) (m : Octets) (h : History) → Ever (IsFreshReply c s j m n) h → replied j h ≡ true
ever_replied c s j n m [] x = absurd x
ever_replied c s j n m (Came e ∷ h) (inl x) = (let z : Path History (Came e ∷ h) (Put (Reply j (Ok m)) ∷ x.before) = x.put in absurd (cc))
ever_replied c s j n m (Came e ∷ h) (inr x) = ever_replied c s j n m h x
ever_replied c s j n m (Put o ∷ h) (inl x) = here (is_reply j o) (ap (is_reply j) (same x.put) ∙ own)
  where
    same : Path History (Put o ∷ h) (Put (Reply j (Ok m)) ∷ x.before) → o ≡ Reply j (Ok m)
    same q = (let z : Put o ≡ Put (Reply j (Ok m)) = cc in cc)

    own : (j == j) ≡ true
    own = grind (arith, nat_tests)

    here : (b : Bool) → b ≡ true → (b || replied j h) ≡ true
    here true e = refl
    here false e = absurd (cc)
ever_replied c s j n m (Put o ∷ h) (inr x) = or_right (is_reply j o) (replied j h) (ever_replied c s j n m h x)

-- an out that is no reply
abbrev pub NoReply : Out → Type 0
NoReply o = ((j : ℕ) → is_reply j o ≡ false) × (is_some_reply o ≡ false)

pub no_reply : (c : Conf) (past : History) (w : What) (h end : History) (o : Out) → ServerOutRight c past w h end o → NoReply o
no_reply c past w h end (Start k i v) r = (λ j. refl, refl)
no_reply c past w h end (OpenDgram q i) r = (λ j. refl, refl)
no_reply c past w h end (OpenStream q i) r = (λ j. refl, refl)
no_reply c past w h end (Send p k id o) r = (λ j. refl, refl)
no_reply c past w h end (Write p k id o) r = (λ j. refl, refl)
no_reply c past w h end (Resume p o) r = (λ j. refl, refl)
no_reply c past w h end (Stale l) r = (λ j. refl, refl)
no_reply c past w h end (Close p) r = (λ j. refl, refl)
no_reply c past w h end (Reply k x) r = absurd r

pub same_ask : (r q : Request) (t u : ℕ) → Path (Option Asking) (Some (record { request = r; moment = t })) (Some (record { request = q; moment = u })) → r ≡ q
same_ask r q t u e = (let z : record { request = r; moment = t } ≡ record { request = q; moment = u } = cc in ap (λ (x : Asking). x.request) z)

pub others_more : (k : ℕ) (xs ys : List Out) → other_replies k (xs ++ ys) ≡ other_replies k xs + other_replies k ys
others_more k [] ys = omega arith
others_more k (x ∷ xs) ys = (let i = others_more k xs ys in omega arith)

pub among_left : (o : Out) (xs ys : List Out) → Among o xs → Among o (xs ++ ys)
among_left o [] ys i = absurd i
among_left o (x ∷ xs) ys i = elim i [ inl e ↦ inl e | inr i ↦ inr (among_left o xs ys i) ]

pub among_right : (o : Out) (xs ys : List Out) → Among o ys → Among o (xs ++ ys)
among_right o [] ys i = i
among_right o (x ∷ xs) ys i = inr (among_right o xs ys i)

pub among_either : (o : Out) (xs ys : List Out) → Among o (xs ++ ys) → Among o xs ⊎ Among o ys
among_either o [] ys i = inr i
among_either o (x ∷ xs) ys i = elim i [ inl e ↦ inl (inl e) | inr j ↦ elim (among_either o xs ys j) [ inl l ↦ inl (inr l) | inr r ↦ inr r ] ]
