-- What ties the upper machine's state to the history, at each point between two moves.
use Rattle.std.proofs.Common.{◌≡◌, ℕ, ◌+◌, ◌<◌, ◌≤◌, Bool, true, false, ◌⊎◌, Option, Some, None, List, [], ◌∷◌, length, is_some, ◌&&◌, ◌||◌}
use Rattle.std.specs.Prelude.{Result, Ok, Err}
use Rattle.client_request.specs.Request.{Request}
use Rattle.client_request.specs.Carries.{IsOfOctets}
use Rattle.client_request.specs.declared.error.Error.{Error}
use Rattle.client_request.specs.declared.event.What.{What}
use Rattle.client_request.specs.declared.event.What.TheVariants.{Ask}
use Rattle.client_request.specs.declared.event.Via.{Via}
use Rattle.client_request.specs.declared.event.Via.TheVariants.{Dgram}
use Rattle.right_trace.specs.Trace.{History, Conf}
use Rattle.right_trace.specs.Time.{now, newest, one_if, row_before, Ever, EarlierRow, OfRow}
use Rattle.right_trace.specs.Messages.{Octets}
use Rattle.right_trace.specs.Requests.{asks, Asking, asking, is_ask, is_asked_here, is_marked, replied, waits, started, handed}
use Rattle.right_trace.specs.Places.{is_at, reach}
use Rattle.right_trace.specs.Exchanges.{Matches}
use Rattle.right_trace.specs.Settings.{Settings}
use Rattle.right_trace.specs.Keys.{KeysCover, KeyCovers, key_of, is_cacheable}
use Rattle.right_trace.specs.Validity.{validity_of_message, is_deferred, waits_for_others}
use Rattle.right_trace.specs.Owed.{IsOwed}
use Rattle.right_trace.specs.Coming.{IsExcused, SomeCame, CameFirst}
use Rattle.right_trace.specs.Replies.{IsFresh, IsFreshReply, Supplies}
use Rattle.right_trace.specs.Errors.{HereOrEarlier, DirectCause, IsErrorReply, is_deadline, is_of_server, is_failing, FailsSo}
use Rattle.right_trace.specs.Right.{ReplyRight, HasServer}
use Rattle.right_trace.specs.Views.{stale_of, IsValidStale}
use Rattle.dns_base.specs.Data.{Data}
use Rattle.proof_right.proofs.PartLaws.{PostRight, Part}
use Rattle.proof_right.specs.machine.Client.{Posted, Given, Waiting, Leaving, Entry, Upper, first_message}
use Rattle.right_trace.specs.Parts.{IsIn, Parts, Says}

-- a reply with this result is given only when every server is done with the request
abbrev pub needs_all : Settings → Result Octets Error → Bool
needs_all s (Ok m) = is_deferred s m
needs_all s (Err e) = is_of_server e && s.defers_errors

-- so it is with what leaves, or with what was given
abbrev pub needs_for : Settings → Leaving → Bool
needs_for s y = needs_all s y.result || needs_all s y.given

-- the history tells of request k what is held of it
pub record RequestFits (k : ℕ) (a : Waiting) (n : ℕ) (h : History) : Type 0 where
  pub asked : asking k h ≡ Some (record { request = a.request; moment = a.moment })
  pub below : k < n
  pub unreplied : replied k h ≡ false
  pub octets : IsOfOctets a.request
  pub tried : (i : ℕ) → a.tried i ≡ handed k i h

-- a request leaves
abbrev pub Leaves : (k : ℕ) → List Leaving → Type 0
Leaves k xs = (x : Leaving) × IsIn x xs × (x.request ≡ k)

-- each leaves once
abbrev pub AllDiffer : List Leaving → Type 0
AllDiffer [] = Unit {0}
AllDiffer (x ∷ xs) = (Leaves x.request xs → ⊥) × AllDiffer xs

abbrev pub IsOnBoard : (i k : ℕ) → List Posted → Type 0
IsOnBoard i k xs = (x : Posted) × IsIn x xs × (x.server ≡ i) × (x.request ≡ k)

abbrev pub HasGiven : (i : ℕ) → List Given → Type 0
HasGiven i xs = (x : Given) × IsIn x xs × (x.server ≡ i)

-- what is to be stored has its cause of its own
abbrev pub MayStore : (c : Conf) (s : Settings) (k : ℕ) (past : History) (w : What) (h : History) → Result Octets Error → Type 0
MayStore c s k past w h (Ok m) = IsFresh c s k m past w h × ((n : ℕ) × (validity_of_message s m ≡ Some n) × (0 < n))
MayStore c s k past w h (Err e) = DirectCause c s k past w h e × (is_deadline e ≡ false)

-- what is stored was a reply
abbrev pub WasReply : (c : Conf) (s : Settings) (k moment : ℕ) (h : History) → Result Octets Error → Type 0
WasReply c s k n h (Ok m) = Ever (IsFreshReply c s k m n) h × ((v : ℕ) × (validity_of_message s m ≡ Some v) × (0 < v))
WasReply c s k n h (Err e) = Ever (IsErrorReply c s k e n) h × (is_deadline e ≡ false)

pub record EntryFits (c : Conf) (s : Settings) (e : Entry) (n : ℕ) (h : History) : Type 0 where
  pub cacheable : is_cacheable e.first ≡ true
  pub covers : KeysCover (key_of e.first) e.under
  pub below : e.number < n
  pub asked : (t : ℕ) × (asking e.number h ≡ Some (record { request = e.first; moment = t }))
  pub moment : e.moment ≤ now h
  pub was : WasReply c s e.number e.moment h e.result

-- what had expired when request k was asked may serve it
pub record OldFits (c : Conf) (s : Settings) (k : ℕ) (e : Entry) (n : ℕ) (h : History) : Type 0 where
  pub fits : EntryFits c s e k h
  pub below : k < n
  pub covers : (r : Request) (t : ℕ) → asking k h ≡ Some (record { request = r; moment = t }) → KeyCovers e.under r
  pub server : HasServer c

-- what is put in the place of a result that fails is what an expired message says
pub record StaleFits (c : Conf) (s : Settings) (expired : ℕ → Option Entry) (y : Leaving) (m : Octets) (h : History) : Type 0 where
  pub unstored : y.is_stored ≡ false
  pub fails : is_failing y.given ≡ true
  pub old : is_some (expired y.request) ≡ true
  pub server : HasServer c
  pub first : Request
  pub request : Request
  pub message : Octets
  pub age : ℕ
  pub supplied : Supplies c s y.request first request message age h
  pub parts : Parts Data
  pub valid : IsValidStale s first request message parts age
  pub says : Says m (stale_of first request parts)

-- an asking that was not answered or taken on yet
pub record Pending (k n : ℕ) (r : Request) (h : History) : Type 0 where
  pub asked : asking k h ≡ Some (record { request = r; moment = n })
  pub here : is_asked_here k h ≡ true
  pub octets : IsOfOctets r

pub record ToCome (held : ℕ → Option Waiting) (k : ℕ) (h : History) : Type 0 where
  pub unheld : held k ≡ None
  pub unreplied : replied k h ≡ false
  pub unhanded : (i : ℕ) → handed k i h ≡ false

pub record Nothing (i : ℕ) (h : History) : Type 0 where
  pub no_place : (p : ℕ) → is_at Dgram i p h ≡ false
  pub no_start : (k : ℕ) (v : Via) → started k i v h ≡ false

module _ (c : Conf) (s : Settings) (P : Part c) where
  -- what a server holds was handed to it; it is tried, or leaves, or has its reply in this row
  pub record HeldFits (past : History) (held : ℕ → Option Waiting) (leaving : List Leaving) (i k : ℕ) (h : History) : Type 0 where
    pub handed_over : handed k i h ≡ true
    pub not_before : replied k past ≡ false
    pub known : (is_some (held k) ≡ true) ⊎ (Leaves k leaving ⊎ (replied k h ≡ true))

  pub record PostFits (past : History) (w : What) (ups : ℕ → P.State) (y : Posted) (h : History) : Type 0 where
    pub server : y.server < length c.servers
    pub handed_over : handed y.request y.server h ≡ true
    pub right : PostRight c y.request y.result past w h
    pub over : IsOwed c y.server y.request past w h → ⊥
    pub unheld : P.holds (ups y.server) y.request ≡ false

  pub record GivenFits (past : History) (w : What) (ups : ℕ → P.State) (k : ℕ) (g : Given) (h : History) : Type 0 where
    pub server : g.server < length c.servers
    pub handed_over : handed k g.server h ≡ true
    pub waits : waits_for_others s g.result ≡ true
    pub right : HereOrEarlier true (PostRight c k g.result) past w h
    pub over : IsOwed c g.server k past w h → ⊥
    pub unheld : P.holds (ups g.server) k ≡ false

  pub record LeavingFits (past : History) (w : What) (held : ℕ → Option Waiting) (ups : ℕ → P.State) (n : ℕ) (y : Leaving) (h : History) : Type 0 where
    pub unheld : held y.request ≡ None
    pub below : y.request < n
    pub asked : (t : ℕ) × (asking y.request h ≡ Some (record { request = y.asked; moment = t }))
    pub unreplied : replied y.request h ≡ false
    pub right : ReplyRight c s past w h y.request y.result
    pub free : needs_for s y ≡ true → (i : ℕ) → i < length c.servers → P.holds (ups i) y.request ≡ false
    pub stores : y.is_stored ≡ true → (is_cacheable y.asked ≡ true) × MayStore c s y.request past w h y.result
    pub unstored : y.stale ≡ None → y.is_stored ≡ false → (m : Octets) → y.result ≡ Ok m → is_cacheable y.asked ≡ true → (n : ℕ) → validity_of_message s m ≡ Some n → 0 < n → is_asked_here y.request h ≡ true

  -- of what was kept back the first message came first
  pub record IsFirstOf (k : ℕ) (a : Waiting) (past : History) (w : What) (h : History) : Type 0 where
    pub none : first_message a.kept_back ≡ None → EarlierRow (OfRow (SomeCame c k)) h → ⊥
    pub first : (m : Octets) → first_message a.kept_back ≡ Some (Ok m) → CameFirst c k m past w h

  -- a message that came in this row for a request that is tried is expected, on the board, kept back, or excused
  pub data IsTold (past : History) (w : What) (ups : ℕ → P.State) (board : List Posted) (i p k : ℕ) (m : Octets) (a : Waiting) (h : History) : Type 0 where
    IsExpected : P.Expects (ups i) p k m → IsTold past w ups board i p k m a h
    IsPosted : IsIn (record { server = i; request = k; result = Ok m }) board → IsTold past w ups board i p k m a h
    IsKeptBack : (g : Given) → IsIn g a.kept_back → g.result ≡ Ok m → IsTold past w ups board i p k m a h
    IsPassedOver : IsExcused c p past w h → IsTold past w ups board i p k m a h

  -- Everything.
  pub record Kept (past : History) (w : What) (x : Upper P.State) (h : History) : Type 0 where
    pub clock : x.now ≡ now h
    pub place : x.place ≡ reach h
    pub count : x.asked + one_if (is_ask x.pending) ≡ asks h
    pub pending : (r : Request) → x.pending ≡ Ask r → Pending x.asked x.now r h
    pub newest : newest h ≡ w
    pub row : row_before h ≡ past
    pub before : (k : ℕ) → replied k h ≡ false → replied k past ≡ false
    pub known : (k : ℕ) (a : Asking) → asking k past ≡ Some a → asking k h ≡ Some a
    pub to_come : (k : ℕ) → x.asked ≤ k → ToCome x.held k h
    pub reqs : (k : ℕ) (a : Waiting) → x.held k ≡ Some a → RequestFits k a x.asked h
    pub holders : (i k : ℕ) → i < length c.servers → P.holds (x.ups i) k ≡ true → HeldFits past x.held x.leaving i k h
    pub gave : (i k : ℕ) (a : Waiting) → i < length c.servers → x.held k ≡ Some a → handed k i h ≡ true → (P.holds (x.ups i) k ≡ true) ⊎ (IsOnBoard i k x.board ⊎ HasGiven i a.kept_back)
    pub posts : (y : Posted) → IsIn y x.board → PostFits past w x.ups y h
    pub back : (k : ℕ) (a : Waiting) (g : Given) → x.held k ≡ Some a → IsIn g a.kept_back → GivenFits past w x.ups k g h
    pub firsts : (k : ℕ) (a : Waiting) → x.held k ≡ Some a → IsFirstOf k a past w h
    pub told : (r : Request) (v : Via) (i p k id : ℕ) (m : Octets) (a : Waiting) → Matches c r v i p k id m past w h → x.held k ≡ Some a → IsTold past w x.ups x.board i p k m a h
    pub leaves : (y : Leaving) → IsIn y x.leaving → LeavingFits past w x.held x.ups x.asked y h
    pub differ : AllDiffer x.leaving
    pub waited : (k : ℕ) → waits k h ≡ true → (is_some (x.held k) ≡ true) ⊎ (Leaves k x.leaving ⊎ ((is_ask x.pending ≡ true) × (k ≡ x.asked)))
    pub entries : (e : Entry) → IsIn e x.stored → EntryFits c s e x.asked h
    pub olds : (k : ℕ) (e : Entry) → x.expired k ≡ Some e → OldFits c s k e x.asked h
    pub own : (y : Leaving) → IsIn y x.leaving → is_some (x.expired y.request) ≡ true → is_failing y.given ≡ true → FailsSo c s y.request past w h y.given
    pub revived : (y : Leaving) (m : Octets) → IsIn y x.leaving → y.stale ≡ Some m → StaleFits c s x.expired y m h
    pub unmarked : (k : ℕ) → is_marked k h ≡ false
    pub parts : (i : ℕ) → i < length c.servers → P.Fits i past w (x.ups i) h
    pub beyond : (i : ℕ) → length c.servers ≤ i → Nothing i h
