-- Traces with the cache, and with two servers, that are not right.
use Rattle.std.proofs.Common.{◌≡◌, ℕ, ◌+◌, ◌≤◌, Bool, true, false, inl, inr, Option, Some, None, List, [], ◌∷◌, ◌++◌, refl, arith, sym, ap, subst, subst₂, ◌∙◌}
use Rattle.std.specs.Prelude.{min, option_map, Ok, Err}
use Rattle.dns_names.specs.Name.{name_at, walk, head_at}
use Rattle.dns_base.specs.Data.{Data, data_at, data_spelling}
use Rattle.dns_base.specs.Message.{question_at, record_at, list_at, items_at, questions_of, answer_of, authority_of, additional_of, answer_items, authority_items, additional_items, first_question, sole_question, reads}
use Rattle.dns_base.specs.Knowing.{knows}
use Rattle.dns_base.specs.OptRecord.{opt_of, opt_rcode}
use Rattle.client_request.specs.Request.{Request}
use Rattle.client_request.specs.declared.error.Error.{Error}
use Rattle.client_request.specs.declared.fault.Fault.TheVariants.{Refused}
use Rattle.client_request.specs.declared.event.What.TheVariants.{Ask, OpenFailed, SendFailed, ShortSend, RecvFailed, Datagram}
use Rattle.client_request.specs.declared.event.Out.TheVariants.{Close, Reply}
use Rattle.right_trace.specs.Trace.{History, Conf, Item, Came, Put}
use Rattle.right_trace.specs.Time.{now, newest, row_before, Ever}
use Rattle.right_trace.specs.Messages.{Octets, base_is_read}
use Rattle.right_trace.specs.Requests.{asking}
use Rattle.right_trace.specs.Settings.{Settings, first_settings}
use Rattle.right_trace.specs.Keys.{Covers, key_of, question_of}
use Rattle.right_trace.specs.Parts.{Item as Entry, Parts, Says, known_parts, lowered_parts}
use Rattle.right_trace.specs.Validity.{second}
use Rattle.right_trace.specs.Views.{view_of, view_validity}
use Rattle.right_trace.specs.Replies.{InThisRow, Deferred, OkIsRight, Fresh, View, IsView, IsFreshReply}
use Rattle.right_trace.specs.Causes.{ServerCause, NotOpened, NotSent, SentShort, NotReceived, NoAnswer, WrongReply, StreamSilence, NotRead, NotComposed}
use Rattle.right_trace.specs.Errors.{DirectCause, Deadline, NoServer, ByServer, NoValidity, Here, Earlier, IsErrorReply, HasCause, Own, Kept}
use Rattle.right_trace.specs.Right.{Right}
use Rattle.proof_right.specs.examples.Messages.{plain_request, ad_request, as_datagram, answer, answer_with_z, failing}
use Rattle.proof_right.specs.examples.Rows.{at, so_far, two_servers, deferring}
use Rattle.proof_right.specs.examples.Cache.{answered_at_once, refused_twice}
use Rattle.proof_right.specs.examples.Servers.{failing_server}
use Rattle.proof_right.specs.examples.Wrong.{invented, asked_then, refused_again, refused_thrice, failing_at_once}
use Rattle.proof_right.proofs.client.Promptness.{none_first}
use Rattle.proof_right.proofs.wrong.Dgrams.{same_asked}
use Rattle.proof_right.proofs.worked.Servers.{defers_it}
use Rattle.proof_right.proofs.wrong.Marks.{unmarked}
use Rattle.client_request.specs.declared.error.Error.TheVariants as errors
use Rattle.client_request.specs.declared.error.QueryError.TheVariants as query

-- A message that nobody got before

not_invented : (c : Conf) (s : Settings) (r : Request) (m : Octets) → OkIsRight c s 0 m [] (Ask r) (Came (record { moment = record { 0 = 0 }; what = Ask r }) ∷ []) → ⊥
not_invented c s r m (Fresh (InThisRow f) d) = none_first c f.via f.id m f.matches.comes.first
not_invented c s r m (Fresh (Deferred d (inl z)) g) = none_first c z.via z.id m z.matches.comes.first
not_invented c s r m (Fresh (Deferred d (inr z)) g) = z
not_invented c s r m (View v) = (let lt = v.supplied.earlier.below in omega arith)

pub invents : (c : Conf) (s : Settings) (r : Request) (m : Octets) → Right c s (invented r m) → ⊥
invents c s r m h = not_invented c s r m (unmarked c s 0 m _ _ _ refl h.0.outs.0.1)

-- Views of the answer of 100 seconds

abbrev first_answer : Octets
first_answer = answer 18 52 100

-- a request that was sent as these octets got this answer; then another one is asked, and has a reply
module _ (q : Request) (o first : Octets) (c : Conf) (s : Settings) (n : ℕ) (r : Request) (m : Octets) where
  abbrev then_asked : History
  then_asked = Came (record { moment = record { 0 = n }; what = Ask r }) ∷ so_far 3 (answered_at_once q o first)

  -- nothing came for the second request before it was asked
  is_view : OkIsRight c s 1 m (so_far 3 (answered_at_once q o first)) (Ask r) then_asked → IsView c s 1 m then_asked
  is_view (Fresh (InThisRow f) d) = absurd (none_first c f.via f.id m f.matches.comes.first)
  is_view (Fresh (Deferred d (inl z)) g) = absurd (let y = z.matches.comes.is_open.stands.asked.1 in cc)
  is_view (Fresh (Deferred d (inr (inl z))) g) = absurd (none_first c z.via z.id m z.matches.comes.first)
  is_view (Fresh (Deferred d (inr (inr (inl z)))) g) = absurd (none_first c z.via z.id m z.matches.comes.first)
  is_view (Fresh (Deferred d (inr (inr (inr (inl z))))) g) = absurd (none_first c z.via z.id m z.matches.comes.first)
  is_view (Fresh (Deferred d (inr (inr (inr (inr z))))) g) = absurd z
  is_view (View v) = v

  same_put : (a b : ℕ) (x y : Octets) (g h : History) → Path History (Put (Reply a (Ok x)) ∷ g) (Put (Reply b (Ok y)) ∷ h) → x ≡ y
  same_put a b x y g h e = cc

  -- the one message that was given before
  the_message : (k : ℕ) (x : Octets) (t : ℕ) → Ever (IsFreshReply c s k x t) then_asked → (first ≡ x) × (0 ≡ t)
  the_message k x t (inl y) = absurd (let z : Path History then_asked (Put (Reply k (Ok x)) ∷ y.before) = y.put in cc)
  the_message k x t (inr (inl y)) = (same_put 0 k first x _ y.before y.put, y.at)
  the_message k x t (inr (inr (inl y))) = absurd (let z = y.put in cc)
  the_message k x t (inr (inr (inr (inl y)))) = absurd (let z = y.put in cc)
  the_message k x t (inr (inr (inr (inr (inl y))))) = absurd (let z = y.put in cc)
  the_message k x t (inr (inr (inr (inr (inr (inl y)))))) = absurd (let z = y.put in cc)
  the_message k x t (inr (inr (inr (inr (inr (inr (inl y))))))) = absurd (let z = y.put in cc)
  the_message k x t (inr (inr (inr (inr (inr (inr (inr (inl y)))))))) = absurd (let z = y.put in cc)
  the_message k x t (inr (inr (inr (inr (inr (inr (inr (inr (inl y))))))))) = absurd (let z = y.put in cc)
  the_message k x t (inr (inr (inr (inr (inr (inr (inr (inr (inr y))))))))) = absurd y

  -- the view is one of that message, for this request, at this age
  pub record IsOfIt : Type 0 where
    pub parts : Parts Data
    pub known : known_parts first ≡ Some parts
    pub covers : Covers q r
    pub in_time : n ≤ view_validity s q r parts
    pub says : Says m (view_of q r n parts)

  of_it : IsView c s 1 m then_asked → IsOfIt
  of_it v =
      let g = the_message v.supplied.number v.message v.supplied.moment v.supplied.got in
      let low : v.supplied.number ≡ 0 = (let lt = v.supplied.earlier.below in omega arith) in
      let asked_first : q ≡ v.first = same_asked q v.first 0 v.supplied.earlier.first_asked.0 (subst (λ k. asking k then_asked ≡ Some (record { request = v.first; moment = v.supplied.earlier.first_asked.0 })) low v.supplied.earlier.first_asked.1) in
      let asked : r ≡ v.request = same_asked r v.request (now then_asked) v.supplied.earlier.asked.0 v.supplied.earlier.asked.1 in
      let age : v.age ≡ n = (let a = v.supplied.is_age in let b = g.1 in omega arith) in
      record {
        parts = v.parts;
        known = ap known_parts g.0 ∙ v.valid.known;
        covers = subst₂ (λ p r. Covers p r) (sym asked_first) (sym asked) v.supplied.earlier.covering;
        in_time = subst (λ a. a ≤ view_validity s q r v.parts) age (subst₂ (λ p r. v.age ≤ view_validity s p r v.parts) (sym asked_first) (sym asked) v.valid.in_time);
        says = subst (λ a. Says m (view_of q r a v.parts)) age (subst₂ (λ p r. Says m (view_of p r v.age v.parts)) (sym asked_first) (sym asked) v.says);
      }

  pub is_of_it : Right c s (answered_at_once q o first ++ at n (Ask r) (Reply 1 (Ok m) ∷ []) ∷ []) → IsOfIt
  is_of_it h = of_it (is_view (unmarked c s 1 m _ _ _ refl h.1.1.1.0.outs.0.1))

-- the TTL of the first record, as it is read
abbrev first_ttl : List (Entry Data) → ℕ
first_ttl [] = 0
first_ttl (x ∷ xs) = x.ttl

abbrev ttl_in : Option (Parts Data) → ℕ
ttl_in None = 0
ttl_in (Some x) = first_ttl x.answer

-- bit Z of the header
abbrev z_in : Option (Parts Data) → Bool
z_in None = false
z_in (Some x) = x.header.z

-- what is computed of the answer: its TTL is 100, and 70 half a minute later; as a view it is valid for 100 seconds at most
record Bounded : Type 0 where
  pub parts : Parts Data
  pub is : known_parts first_answer ≡ Some parts
  pub first : ttl_in (option_map lowered_parts (known_parts first_answer)) ≡ 100
  pub later : ttl_in (Some (lowered_parts (view_of plain_request plain_request 30000000 parts))) ≡ 70
  pub bound : (s : Settings) → view_validity s plain_request plain_request parts ≤ 100000000
  pub clear : z_in (Some (lowered_parts (view_of plain_request plain_request 30000000 parts))) ≡ false
  pub set : z_in (option_map lowered_parts (known_parts (answer_with_z 18 52 70))) ≡ true

least_of : (a b : ℕ) → min a b ≤ b
least_of a b = omega arith

bounded : Bounded
unfolding name_at walk head_at data_at data_spelling question_at record_at list_at items_at questions_of answer_of authority_of additional_of answer_items authority_items additional_items first_question sole_question reads knows opt_of opt_rcode base_is_read question_of key_of known_parts second
bounded = record { parts = _; is = refl; first = refl; later = refl; bound = λ s. least_of _ 100000000; clear = refl; set = refl }

other_ttl : (x : Parts Data) → known_parts first_answer ≡ Some x → Says first_answer (view_of plain_request plain_request 30000000 x) → ⊥
other_ttl x known says =
    let same : bounded.parts ≡ x = (let z = sym bounded.is ∙ known in cc) in
    let at : ttl_in (Some (lowered_parts (view_of plain_request plain_request 30000000 x))) ≡ 70 = subst (λ x. ttl_in (Some (lowered_parts (view_of plain_request plain_request 30000000 x))) ≡ 70) same bounded.later in
    let z = ap ttl_in says in
    let first = bounded.first in
    omega arith

-- its first TTLs half a minute later
pub first_ttls : (c : Conf) (s : Settings) → Right c s (asked_then 30000000 plain_request first_answer) → ⊥
first_ttls c s h = (let x = is_of_it plain_request (as_datagram 18 52) first_answer c s 30000000 plain_request first_answer h in other_ttl x.parts x.known x.says)

other_z : (x : Parts Data) → known_parts first_answer ≡ Some x → Says (answer_with_z 18 52 70) (view_of plain_request plain_request 30000000 x) → ⊥
other_z x known says =
    let same : bounded.parts ≡ x = (let z = sym bounded.is ∙ known in cc) in
    let clear : z_in (Some (lowered_parts (view_of plain_request plain_request 30000000 x))) ≡ false = subst (λ x. z_in (Some (lowered_parts (view_of plain_request plain_request 30000000 x))) ≡ false) same bounded.clear in
    let set = bounded.set in
    let y : true ≡ false = sym set ∙ (ap z_in says ∙ clear) in
    absurd (cc)

-- the view of that moment, but for bit Z
pub with_z : (c : Conf) (s : Settings) → Right c s (asked_then 30000000 plain_request (answer_with_z 18 52 70)) → ⊥
with_z c s h = (let x = is_of_it plain_request (as_datagram 18 52) first_answer c s 30000000 plain_request (answer_with_z 18 52 70) h in other_z x.parts x.known x.says)

too_old : (s : Settings) (x : Parts Data) → known_parts first_answer ≡ Some x → 101000000 ≤ view_validity s plain_request plain_request x → ⊥
too_old s x known le =
    let same : bounded.parts ≡ x = (let z = sym bounded.is ∙ known in cc) in
    let b : view_validity s plain_request plain_request x ≤ 100000000 = subst (λ x. view_validity s plain_request plain_request x ≤ 100000000) same (bounded.bound s) in
    omega arith

-- a view past its validity
pub past_validity : (c : Conf) (s : Settings) (m : Octets) → Right c s (asked_then 101000000 plain_request m) → ⊥
past_validity c s m h = (let x = is_of_it plain_request (as_datagram 18 52) first_answer c s 101000000 plain_request m h in too_old s x.parts x.known x.in_time)

not_for_ad : Covers plain_request ad_request → ⊥
unfolding key_of
not_for_ad x = (let z : false ≡ true = x.keys.flags in cc)

-- a view for a request that asks for more
pub other_flags : (c : Conf) (s : Settings) (n : ℕ) (m : Octets) → Right c s (asked_then n ad_request m) → ⊥
other_flags c s n m h = not_for_ad (is_of_it plain_request (as_datagram 18 52) first_answer c s n ad_request m h).covers

-- Kept errors

abbrev refused : Error
refused = errors.Dgram (query.Connect Refused)

not_opened_by_ask : (c : Conf) (k : ℕ) (past h : History) (e : Error) → e ≡ refused → ServerCause c k past (Ask plain_request) h e → ⊥
not_opened_by_ask c k past h _ e (NotOpened g x) = (let z : Ask plain_request ≡ OpenFailed x.place g = x.told in absurd (cc))
not_opened_by_ask c k past h _ e (NotSent g x) = (let z : Ask plain_request ≡ SendFailed x.place g = x.is_told in absurd (cc))
not_opened_by_ask c k past h _ e (SentShort x) = (let z : Ask plain_request ≡ ShortSend x.place = x.is_told in absurd (cc))
not_opened_by_ask c k past h _ e (NotReceived g x) = (let z : Ask plain_request ≡ RecvFailed x.place g = x.is_told in absurd (cc))
not_opened_by_ask c k past h _ e (NoAnswer x) = absurd (cc)
not_opened_by_ask c k past h _ e (WrongReply x) = absurd (cc)
not_opened_by_ask c k past h _ e (StreamSilence x) = absurd (cc)
not_opened_by_ask c k past h _ e (NotRead x) = absurd (cc)
not_opened_by_ask c k past h _ e (NotComposed x) = absurd (cc)

no_direct : (c : Conf) (k : ℕ) (past h : History) (e : Error) → e ≡ refused → DirectCause c first_settings k past (Ask plain_request) h e → ⊥
no_direct c k past h _ e (Deadline x) = absurd (cc)
no_direct c k past h _ e (NoServer n x) = absurd (cc)
no_direct c k past h _ e (ByServer v (Here x)) = not_opened_by_ask c k past h v e x
no_direct c k past h _ e (ByServer v (Earlier q x)) = absurd (cc)
no_direct c k past h _ e (NoValidity m x) = absurd (cc)

abbrev then_refused : ℕ → History
then_refused n = Came (record { moment = record { 0 = n }; what = Ask plain_request }) ∷ so_far 2 refused_twice

-- past its time
too_late : (c : Conf) → HasCause c first_settings refused 1 (so_far 2 refused_twice) (Ask plain_request) (then_refused 30000001) → ⊥
too_late c (Own x d) = no_direct c 1 (so_far 2 refused_twice) (then_refused 30000001) refused refl x
too_late c (Kept x) = go x.got
  where
    recent : 30000001 ≤ x.moment + 30000000
    recent = x.recent

    go : Ever (IsErrorReply c first_settings x.number refused x.moment) (then_refused 30000001) → ⊥
    go (inl r) = (let q : Path History (then_refused 30000001) (Put (Reply x.number (Err refused)) ∷ r.before) = r.put in absurd (cc))
    go (inr (inl r)) = (let z : 0 ≡ x.moment = r.at in omega arith)
    go (inr (inr (inl r))) = (let z : 0 ≡ x.moment = r.at in omega arith)
    go (inr (inr (inr (inl r)))) = (let z : 0 ≡ x.moment = r.at in omega arith)
    go (inr (inr (inr (inr (inl r))))) = (let z : 0 ≡ x.moment = r.at in omega arith)
    go (inr (inr (inr (inr (inr (inl r)))))) = (let z : 0 ≡ x.moment = r.at in omega arith)
    go (inr (inr (inr (inr (inr (inr z)))))) = z

pub error_past_its_time : (c : Conf) → Right c first_settings (refused_again 30000001) → ⊥
error_past_its_time c h = too_late c h.1.1.0.outs.0.1

-- counted from its repeat
abbrev asked_thrice : History
asked_thrice = Came (record { moment = record { 0 = 31000000 }; what = Ask plain_request }) ∷ so_far 3 refused_twice

from_its_repeat : (c : Conf) → HasCause c first_settings refused 2 (so_far 3 refused_twice) (Ask plain_request) asked_thrice → ⊥
from_its_repeat c (Own x d) = no_direct c 2 (so_far 3 refused_twice) asked_thrice refused refl x
from_its_repeat c (Kept x) = go x.got
  where
    recent : 31000000 ≤ x.moment + 30000000
    recent = x.recent

    tail : (a b : Item) (g k : History) → Path History (a ∷ g) (b ∷ k) → g ≡ k
    tail a b g k q = cc

    go : Ever (IsErrorReply c first_settings x.number refused x.moment) asked_thrice → ⊥
    go (inl r) = (let q : Path History asked_thrice (Put (Reply x.number (Err refused)) ∷ r.before) = r.put in absurd (cc))
    go (inr (inl r)) = (let q : then_refused 30000000 ≡ r.before = tail (Put (Reply 1 (Err refused))) (Put (Reply x.number (Err refused))) (then_refused 30000000) r.before r.put in
        no_direct c x.number (row_before (then_refused 30000000)) (then_refused 30000000) refused refl (subst (λ g. DirectCause c first_settings x.number (row_before g) (newest g) g refused) (sym q) r.cause))
    go (inr (inr (inl r))) = (let q : Path History (then_refused 30000000) (Put (Reply x.number (Err refused)) ∷ r.before) = r.put in absurd (cc))
    go (inr (inr (inr (inl r)))) = (let z : 0 ≡ x.moment = r.at in omega arith)
    go (inr (inr (inr (inr (inl r))))) = (let z : 0 ≡ x.moment = r.at in omega arith)
    go (inr (inr (inr (inr (inr (inl r)))))) = (let z : 0 ≡ x.moment = r.at in omega arith)
    go (inr (inr (inr (inr (inr (inr (inl r))))))) = (let z : 0 ≡ x.moment = r.at in omega arith)
    go (inr (inr (inr (inr (inr (inr (inr (inl r)))))))) = (let z : 0 ≡ x.moment = r.at in omega arith)
    go (inr (inr (inr (inr (inr (inr (inr (inr z)))))))) = z

pub error_from_its_repeat : (c : Conf) → Right c first_settings refused_thrice → ⊥
error_from_its_repeat c h = from_its_repeat c h.1.1.1.0.outs.0.1

-- A deferred message, while a server was never tried

not_before_all : OkIsRight two_servers deferring 0 failing (so_far 2 failing_server) (Datagram 0 failing) (Put (Close 0) ∷ Came (record { moment = record { 0 = 10000 }; what = Datagram 0 failing }) ∷ so_far 2 failing_server) → ⊥
not_before_all (Fresh x d) = (let z = (d defers_it).0.handed 0 (omega arith) in absurd (cc))
not_before_all (View x) = (let z : false ≡ true = x.asked_here in absurd (cc))

pub before_all_failed : Right two_servers deferring failing_at_once → ⊥
before_all_failed h = not_before_all (unmarked two_servers deferring 0 failing _ _ _ refl h.1.1.0.outs.1.0.1)
