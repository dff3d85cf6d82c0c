-- Questions that are asked at once, one more at a time, and the replies that they get.
use Rattle.std.proofs.Common.{◌≡◌, ℕ, ◌+◌, ◌<◌, if◌then◌else◌, Bool, true, false, List, [], ◌∷◌, ◌++◌, length, get_or, map, take, drop, Result, Ok, Err, ap, subst, sym, refl, ◌∙◌, append_assoc, append-nil, inl, inr, ◌⊎◌}
use Rattle.std.specs.List.{flat_map}
use Rattle.std.specs.Prelude.{IfOk, OnOk}
use Rattle.std.proofs.lemmas.Grind.{flat_map-append}
use Rattle.std.proofs.lemmas.List.{map-append, take_more, drop_more}
use Rattle.client_request.specs.Request.{Request}
use Rattle.client_request.specs.declared.error.Error.{Error}
use Rattle.client_request.specs.declared.error.Error.TheVariants as errors
use Rattle.client_loop.specs.All.{AllReplied, answered, no_request}
use Rattle.client_loop.specs.Asking.{Scene}
use Rattle.resolv_lookup.specs.Asked.{Got, octets_in}
use Rattle.resolv_lookup.specs.Hosts.{Hosts, hosts_found}
use Rattle.resolv_lookup.specs.declared.fault.HostFault.{HostFault}
use Rattle.resolv_lookup.specs.declared.fault.QueryFault.TheVariants.{Client}
use Rattle.stub_resolver.specs.All.{GetAll, GetBy, ReplyAll, SettleAll, all_found, gots_of, is_asked, next_reply, request_in, requests_of, settled, unread}
use Rattle.stub_resolver.specs.declared.all.Question.{Question}
use Rattle.stub_resolver.specs.Queries.{Reply, got_of, is_formerr}
use Rattle.stub_resolver.proofs.BothReplying.{octets_same}

-- the questions up to one more
one_more : (questions : List Question) (i : ℕ) (q : Question) → i < length questions → q ≡ get_or questions i q → take (i + 1) questions ≡ take i questions ++ q ∷ []
one_more questions i q within at = take_more questions i q within ∙ ap (λ (x : Question). take i questions ++ x ∷ []) (sym at)

pub asked_more : (questions : List Question) (i : ℕ) (q : Question) (before after : List Bool) → i < length questions → q ≡ get_or questions i q → before ≡ map is_asked (take i questions)
    → after ≡ before ++ is_asked q ∷ [] → after ≡ map is_asked (take (i + 1) questions)
asked_more questions i q before after within at so_far longer =
    longer ∙ ap (λ (bs : List Bool). bs ++ is_asked q ∷ []) so_far ∙ sym (map-append is_asked (take i questions) (q ∷ []))
    ∙ ap (λ (qs : List Question). map is_asked qs) (sym (one_more questions i q within at))

pub requests_more : (questions : List Question) (i : ℕ) (q : Question) (before after : List Request) → i < length questions → q ≡ get_or questions i q → before ≡ flat_map request_in (take i questions)
    → after ≡ before ++ request_in q → after ≡ flat_map request_in (take (i + 1) questions)
requests_more questions i q before after within at so_far longer =
    longer ∙ ap (λ (rs : List Request). rs ++ request_in q) so_far ∙ ap (λ (rs : List Request). flat_map request_in (take i questions) ++ rs) (sym (append-nil (request_in q)))
    ∙ sym (flat_map-append request_in (take i questions) (q ∷ [])) ∙ ap (λ (qs : List Question). flat_map request_in qs) (sym (one_more questions i q within at))

-- the replies from one on
from_one : (replies : List Reply) (i : ℕ) (reply : Reply) → i < length replies → reply ≡ get_or replies i reply → drop i replies ≡ reply ∷ drop (i + 1) replies
from_one replies i reply within at = drop_more replies i reply within ∙ ap (λ (o : Reply). o ∷ drop (i + 1) replies) (sym at)

-- one more of the requests that are asked again, if its reply says that it could not be read
pub unread_more : (whole all more requests left : List Request) (request : Request) (replies : List Reply) (i : ℕ) (reply : Reply) → whole ≡ all ++ unread requests (drop i replies) → requests ≡ request ∷ left
    → i < length replies → reply ≡ get_or replies i reply → more ≡ all ++ (if is_formerr reply then request ∷ [] else []) → whole ≡ more ++ unread left (drop (i + 1) replies)
unread_more whole all more requests left request replies i reply so_far first within at longer =
    let rest : List Reply = drop (i + 1) replies in
    so_far ∙ ap (λ (rs : List Request). all ++ unread rs (drop i replies)) first ∙ ap (λ (os : List Reply). all ++ unread (request ∷ left) os) (from_one replies i reply within at)
    ∙ by (is_formerr reply) (unread left rest) ∙ ap (λ (rs : List Request). rs ++ unread left rest) (sym longer)
  where
    by : (b : Bool) (u : List Request) → all ++ (if b then request ∷ u else u) ≡ (all ++ (if b then request ∷ [] else [])) ++ u
    by true u = sym (append_assoc all (request ∷ []) u)
    by false u = ap (λ (rs : List Request). rs ++ u) (sym (append-nil all))

-- no request is left
pub none_left : (whole all requests : List Request) (replies : List Reply) → whole ≡ all ++ unread requests replies → requests ≡ [] → all ≡ whole
none_left whole all requests replies so_far none =
    sym (so_far ∙ ap (λ (rs : List Request). all ++ unread rs replies) none ∙ ap (λ (rs : List Request). all ++ rs) (nothing replies) ∙ append-nil all)
  where
    nothing : (os : List Reply) → unread [] os ≡ []
    nothing [] = refl
    nothing (o ∷ os) = refl

-- no reply is left
pub all_read : (whole all requests : List Request) (replies : List Reply) → whole ≡ all ++ unread requests replies → replies ≡ [] → all ≡ whole
all_read whole all requests replies so_far none = sym (so_far ∙ ap (λ (os : List Reply). all ++ unread requests os) none ∙ append-nil all)

-- one reply more, or the next of the later ones in its place
pub settled_more : (whole all more early left later behind : List Reply) (reply one : Reply) → whole ≡ all ++ settled early later → early ≡ reply ∷ left
    → one ≡ (if is_formerr reply then next_reply later else reply) → behind ≡ (if is_formerr reply then drop 1 later else later) → more ≡ all ++ one ∷ [] → whole ≡ more ++ settled left behind
settled_more whole all more early left later behind reply one so_far first at rest longer =
    so_far ∙ ap (λ (os : List Reply). all ++ settled os later) first ∙ by (is_formerr reply)
    ∙ ap (λ (o : Reply). (all ++ o ∷ []) ++ settled left (if is_formerr reply then drop 1 later else later)) (sym at) ∙ ap (λ (os : List Reply). (all ++ one ∷ []) ++ settled left os) (sym rest)
    ∙ ap (λ (os : List Reply). os ++ settled left behind) (sym longer)
  where
    by : (b : Bool) → all ++ (if b then next_reply later ∷ settled left (drop 1 later) else reply ∷ settled left later)
        ≡ (all ++ (if b then next_reply later else reply) ∷ []) ++ settled left (if b then drop 1 later else later)
    by true = sym (append_assoc all (next_reply later ∷ []) (settled left (drop 1 later)))
    by false = sym (append_assoc all (reply ∷ []) (settled left later))

pub settled_all : (whole all early later : List Reply) → whole ≡ all ++ settled early later → early ≡ [] → all ≡ whole
settled_all whole all early later so_far none = sym (so_far ∙ ap (λ (os : List Reply). all ++ settled os later) none ∙ append-nil all)

-- what one question more gets
pub got_more : (whole all more : List Got) (asked : List Bool) (i : ℕ) (b default : Bool) (replies left : List Reply) (got : Got) → whole ≡ all ++ gots_of (drop i asked) replies → i < length asked
    → b ≡ get_or asked i default → got ≡ (if b then got_of (next_reply replies) else Err (Client errors.FormError)) → left ≡ (if b then drop 1 replies else replies) → more ≡ all ++ got ∷ [] → whole ≡ more ++ gots_of (drop (i + 1) asked) left
got_more whole all more asked i b default replies left got so_far within at says rest longer =
    let others : List Bool = drop (i + 1) asked in
    so_far ∙ ap (λ (bs : List Bool). all ++ gots_of bs replies) (drop_more asked i default within ∙ ap (λ (x : Bool). x ∷ others) (sym at)) ∙ by b others
    ∙ ap (λ (g : Got). (all ++ g ∷ []) ++ gots_of others (if b then drop 1 replies else replies)) (sym says) ∙ ap (λ (os : List Reply). (all ++ got ∷ []) ++ gots_of others os) (sym rest)
    ∙ ap (λ (gs : List Got). gs ++ gots_of others left) (sym longer)
  where
    by : (c : Bool) (bs : List Bool) → all ++ gots_of (c ∷ bs) replies
        ≡ (all ++ (if c then got_of (next_reply replies) else Err (Client errors.FormError)) ∷ []) ++ gots_of bs (if c then drop 1 replies else replies)
    by true bs = sym (append_assoc all (got_of (next_reply replies) ∷ []) (gots_of bs (drop 1 replies)))
    by false bs = sym (append_assoc all (Err (Client errors.FormError) ∷ []) (gots_of bs replies))

-- A client that has not failed hasn't after requests either, and one that has had before.
not_empty : (earlier : List Request) (last : Request) → [] ≡ earlier ++ last ∷ [] → ⊥
not_empty [] last h = absurd (cc)
not_empty (r ∷ rs) last h = absurd (cc)

pub still_lasts : (number : ℕ) (requests : List Request) (replies : List Reply) (old new : Scene) → AllReplied number requests replies old new → (requests ≡ []) ⊎ (new.client.failed ≡ false)
    → old.client.failed ≡ false → new.client.failed ≡ false
still_lasts number requests replies old new all (inr lasts) good = lasts
still_lasts number requests replies old new (no_request none empty same) (inl e) good = ap (λ (s : Scene). s.client.failed) same ∙ good
still_lasts number requests replies old new (answered all) (inl e) good = absurd (not_empty all.all.earlier all.all.last (sym e ∙ all.all.requests_are))

pub failed_before : (number : ℕ) (requests : List Request) (replies : List Reply) (old new : Scene) → AllReplied number requests replies old new → (requests ≡ []) ⊎ (new.client.failed ≡ false)
    → new.client.failed ≡ true → old.client.failed ≡ true
failed_before number requests replies old new all (inr lasts) bad = absurd (let both : false ≡ true = sym lasts ∙ bad in cc)
failed_before number requests replies old new (no_request none empty same) (inl e) bad = sym (ap (λ (s : Scene). s.client.failed) same) ∙ bad
failed_before number requests replies old new (answered all) (inl e) bad = absurd (not_empty all.all.earlier all.all.last (sym e ∙ all.all.requests_are))

-- what holds behind two steps
pub reply_all : {V : Type 0} (result : Result V Error) (items : V → List Reply) (requests copies : List Request) (early : List Reply) (old middle new : Scene) → copies ≡ requests
    → AllReplied old.client.asked.next requests early old middle → middle.client.timeout ≡ old.client.timeout → IfOk result (λ v. SettleAll copies early (items v) middle new)
    → IfOk result (λ v. ReplyAll requests (items v) old new)
reply_all (Ok v) items requests copies early old middle new same said timeout settle =
    record { early = early; middle = middle; answered = said; timeout = timeout; settle = subst (λ (rs : List Request). SettleAll rs early (items v) middle new) same settle }
reply_all (Err error) items requests copies early old middle new same said timeout settle = settle

pub lasts_then : {V : Type 0} (result : Result V Error) (old middle new : Scene) → (old.client.failed ≡ false → middle.client.failed ≡ false)
    → OnOk result (middle.client.failed ≡ false → new.client.failed ≡ false) → OnOk result (old.client.failed ≡ false → new.client.failed ≡ false)
lasts_then (Ok v) old middle new first second = λ good. second (first good)
lasts_then (Err error) old middle new first second = second

-- what is found of one host more
pub found_more : (whole found more : List (Result Hosts HostFault)) (left middle rest : List Got) (a aaaa : Got) (one : Result Hosts HostFault) → whole ≡ found ++ all_found left → left ≡ a ∷ middle → middle ≡ aaaa ∷ rest
    → one ≡ hosts_found (octets_in (λ o. o) aaaa) (octets_in (λ o. o) a) → more ≡ found ++ one ∷ [] → whole ≡ more ++ all_found rest
found_more whole found more left middle rest a aaaa one so_far first second made longer =
    let is : one ≡ hosts_found aaaa a = made ∙ ap (λ (x : Got). hosts_found x (octets_in (λ o. o) a)) (octets_same aaaa) ∙ ap (λ (x : Got). hosts_found aaaa x) (octets_same a) in
    so_far ∙ ap (λ (gs : List Got). found ++ all_found gs) (first ∙ ap (λ (gs : List Got). a ∷ gs) second) ∙ sym (append_assoc found (hosts_found aaaa a ∷ []) (all_found rest))
    ∙ ap (λ (x : Result Hosts HostFault). (found ++ x ∷ []) ++ all_found rest) (sym is) ∙ ap (λ (xs : List (Result Hosts HostFault)). xs ++ all_found rest) (sym longer)

pub found_all : (whole found : List (Result Hosts HostFault)) (left : List Got) → whole ≡ found ++ all_found left → left ≡ [] → found ≡ whole
found_all whole found left so_far none = sym (so_far ∙ ap (λ (gs : List Got). found ++ all_found gs) none ∙ append-nil found)

-- half of a host's results
pub found_half : (whole found : List (Result Hosts HostFault)) (left middle : List Got) (a : Got) → whole ≡ found ++ all_found left → left ≡ a ∷ middle → middle ≡ [] → found ≡ whole
found_half whole found left middle a so_far first none = sym (so_far ∙ ap (λ (gs : List Got). found ++ all_found gs) (first ∙ ap (λ (gs : List Got). a ∷ gs) none) ∙ append-nil found)

-- what questions get, by their own requests
pub get_all : {V : Type 0} (result : Result V Error) (items : V → List Got) (questions : List Question) (asked shown : List Bool) (requests : List Request) (old new : Scene) → shown ≡ asked → asked ≡ map is_asked questions
    → requests ≡ requests_of questions → IfOk result (λ v. GetBy shown requests (items v) old new) → IfOk result (λ v. GetAll questions (items v) old new)
get_all (Ok v) items questions asked shown requests old new same first second got =
    subst (λ (rs : List Request). GetBy (map is_asked questions) rs (items v) old new) second (subst (λ (bs : List Bool). GetBy bs requests (items v) old new) (same ∙ first) got)
get_all (Err error) items questions asked shown requests old new same first second got = got
