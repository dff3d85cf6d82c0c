-- What a lookup ends with, by what its requests came to.
use Rattle.std.proofs.Common.{◌≡◌, ◌≢◌, ◌⊎◌, ◌+◌, ◌<◌, ◌≤◌, ◌++◌, ◌==◌, ◌&&◌, not, if◌then◌else◌, ℕ, suc, Bool, true, false, List, [], ◌∷◌, length, map, refl, ap, sym, subst, ◌∙◌, inl, inr, arith, append-nil, length-append, lit≤, Option, None, Some, Result, Ok, Err}
use Rattle.std.proofs.lemmas.List.Elements.{All-append, All-cons, All-nil}
use Rattle.std.proofs.lemmas.Bool.{false≢true}
use Rattle.std.proofs.lemmas.Bool.Decides.{nat_tests}
use Rattle.std.specs.List.{All}
use Rattle.std.specs.Prelude.{nat_lt, IfOk, IfSome, IsErrOf}
use Rattle.client_core.specs.declared.edge.Deed.{Deed}
use Rattle.client_core.specs.declared.edge.Deed.TheVariants.{Learned}
use Rattle.client_loop.specs.Asking.{IsAnswered, Scene, rows_of, scene}
use Rattle.client_loop.specs.Turns.{after_deeds}
use Rattle.client_request.specs.declared.error.Error.{Error}
use Rattle.client_request.specs.declared.error.Error.TheVariants.{NumbersUsed}
use Rattle.client_request.specs.declared.event.Row.{Row}
use Rattle.client_steps.specs.Whole.{Whole}
use Rattle.command_parts.specs.Ends.{IsSaid}
use Rattle.dns_lookup_pages.specs.declared.short.Lacking.{Lacking}
use Rattle.dns_lookup_pages.specs.declared.short.Lacking.TheVariants as lacks
use Rattle.dns_record.specs.Asking.{IsAnsweredAnd}
use Rattle.dns_values.specs.Source.{Rose}
use Rattle.dns_lookup_run.specs.Reports.{tells, told_of}
use Rattle.dns_lookup_run.specs.Worlds.{World, begun, client_for, is_message, said}
use Rattle.dns_lookup_run.specs.declared.watched_edge.Opened.{Opened}
use Rattle.resolv_conf.specs.declared.server.ServerConf.{ServerConf}
use Rattle.resolv_conf.specs.declared.conf.ResolvConf.{ResolvConf}
use Rattle.dns_lookup_run.specs.Asking.{Answer, AreAnswered, Brought, Gave, HasBegun, Stopped, all_asked, lack_in, lack_of, one_asked, or_lack, request_for}
use Rattle.dns_lookup_run.specs.Ends.{EndsSo, HasPage, IsDone, IsOfAsking, IsOfLack, IsOfRequest, LackTold, TellsWhy}
use Rattle.dns_lookup_run.specs.Making.{AreMade, IsMadeFor, none_made, one_made}
use Rattle.dns_lookup_run.specs.Search.{names_of, searched_names, suffixes_in, tries_by, tries_of}
use Rattle.dns_lookup_run.specs.declared.search.Try.{Try}
use Rattle.resolv_lookup.specs.Search.{chained}
use Rattle.resolv_conf.specs.declared.options.ResolvOptions.{ResolvOptions}
use Rattle.dns_names.specs.Name.{Labels}
use Rattle.dns_lookup_run.specs.Sentences.{answer_text, lack_status, lack_text}
use Rattle.dns_lookup_run.specs.Walks.{Walks, behind_tries, is_no_name, passes_by, passes_of, walk_begins, walk_passes, walk_tells}
use Rattle.dns_lookup_run.specs.declared.asking.Outcome.{Outcome}
use Rattle.dns_lookup_words.specs.declared.lookup.Lookup.{Lookup}
use Rattle.dns_lookup_words.specs.declared.manner.Ask.{Ask}

-- a new client, whose edge learned the servers, stands where the first request is asked
pub begins : (lookup : Lookup) (conf : ResolvConf) (client : Whole) (old : World) (deeds : Option (List Deed)) (waits : Option (List ℕ)) (polls : ℕ)
    → HasBegun lookup conf client old.deeds deeds old.polls polls → scene client old.words deeds waits polls old.moments ≡ begun lookup conf old waits
begins lookup conf client old deeds waits polls h =
    ap (λ m. scene m old.words deeds waits polls old.moments) h.made
    ∙ ap (λ d. scene (client_for lookup conf) old.words d waits polls old.moments) h.learned
    ∙ ap (λ p. scene (client_for lookup conf) old.words (after_deeds (map (λ server. Learned server) conf.servers) old.deeds) waits p old.moments) h.polled

-- where a request begins, and where one ends
abbrev pub leaves : Whole → World → Option (List Deed) → (waits : Option (List ℕ)) → ℕ → Scene
leaves client old deeds waits polls = scene client old.words deeds waits polls old.moments

abbrev pub arrives : Whole → World → (waits : Option (List ℕ)) → Scene
arrives left new waits = scene left new.words new.deeds waits new.polls new.moments

-- One ask more was asked, behind these.
answered_more : (n k : ℕ) (asks : List Ask) (answers : List Answer) (ask : Ask) (answer : Answer) (old mid new : Scene) → k ≡ n + length asks
    → AreAnswered n asks answers old mid → IsAnswered k 1000000 (request_for ask) mid new answer → AreAnswered n (asks ++ ask ∷ []) (answers ++ answer ∷ []) old new
answered_more _ k _ _ ask answer _ _ new is (all_asked m s) h =
    let same : k ≡ m = omega (arith, is) in
    one_asked m ask [] answer [] s new new (subst (λ (j : ℕ). IsAnswered j 1000000 (request_for ask) s new answer) same h) (all_asked (m + 1) new)
answered_more _ k _ _ ask answer _ _ new is (one_asked m first more reply replies old mid end one rest) h =
    let next : k ≡ m + 1 + length more = omega (arith, is) in
    one_asked m first (more ++ ask ∷ []) reply (replies ++ answer ∷ []) old mid new one (answered_more (m + 1) k more replies ask answer mid end new next rest h)

-- what is passed by is a message, and behind it stands another try
both_true : (a b : Bool) → (a && b) ≡ true → (a ≡ true) × (b ≡ true)
both_true true b h = (refl, h)
both_true false b h = absurd (false≢true h)

no_name_message : (answer : Answer) → is_no_name answer ≡ true → is_message answer ≡ true
no_name_message (Some (Ok message)) h = refl
no_name_message (Some (Err error)) h = absurd (false≢true h)
no_name_message None h = absurd (false≢true h)

pub passed_message : (one : Try) (later : List Try) (came : Result Outcome Error) → passes_of one later came ≡ true → Brought true came
passed_message one later (Ok o) h = no_name_message o.answer (both_true (one.more && not (length later == 0)) (is_no_name o.answer) h).1
passed_message one later (Err e) h = absurd (false≢true h)

some_left : (later : List Try) → not (length later == 0) ≡ true → 0 < length later
some_left later h = grind (arith, nat_tests)

pub passed_left : (one : Try) (later : List Try) (came : Result Outcome Error) → passes_of one later came ≡ true → 0 < length later
passed_left one later (Ok o) h =
    some_left later (both_true one.more (not (length later == 0)) (both_true (one.more && not (length later == 0)) (is_no_name o.answer) h).0).1
passed_left one later (Err e) h = absurd (false≢true h)

-- what is left behind tries is no more
pub behind_fewer : (more : Bool) (later : List Try) → length (behind_tries more later) ≤ length later
behind_fewer false later = omega arith
behind_fewer true [] = lit≤ tt
behind_fewer true (one ∷ later) = omega (arith, behind_fewer one.more later)

pub some_of : (rest tries : List Try) → rest ≡ tries → 0 < length tries → 0 < length rest
some_of rest tries is some = omega (arith, ap length is, some)

-- one is asked, and so many are left
pub one_less : (number all : ℕ) (rest : List Try) (one : Try) (later : List Try) → rest ≡ one ∷ later → number + length rest ≤ all → number + 1 + length later ≤ all
one_less number all rest one later is counted = let long : length rest ≡ suc (length later) = ap length is in omega (arith, long, counted)

pub one_less_behind : (number all : ℕ) (rest : List Try) (one : Try) (later left : List Try) → rest ≡ one ∷ later → left ≡ behind_tries one.more later
    → number + length rest ≤ all → number + 1 + length left ≤ all
one_less_behind number all rest one later left is behind counted =
    let long : length rest ≡ suc (length later) = ap length is in
    let same : length left ≡ length (behind_tries one.more later) = ap length behind in
    omega (arith, long, same, behind_fewer one.more later, counted)

module _ {A : Type 0} (made : A → Whole → List Row → A → Whole → Type 0) where
  made_more : (n k : ℕ) (asks : List Ask) (answers : List Answer) (rows : List Row) (ask : Ask) (answer : Answer) (a b c : A) (old mid new : Scene) → k ≡ n + length asks
      → AreMade made n asks answers rows a b old mid → IsAnsweredAnd (λ rows. made b mid.client rows c new.client) k 1000000 (request_for ask) answer mid new
      → (all : List Row) × AreMade made n (asks ++ ask ∷ []) (answers ++ answer ∷ []) all a c old new
  made_more _ k _ _ _ ask answer _ _ c _ _ new is (none_made m a s) h =
      let same : k ≡ m = omega (arith, is) in
      let one : IsAnsweredAnd (λ rows. made a s.client rows c new.client) m 1000000 (request_for ask) answer s new =
      subst (λ (j : ℕ). IsAnsweredAnd (λ rows. made a s.client rows c new.client) j 1000000 (request_for ask) answer s new) same h in
      let all : List Row = rows_of one.answered.asked.asking one.answered.asked.turns ++ [] in
      (all, one_made m ask [] answer [] [] all a c c s new new one (none_made (m + 1) c new) refl)
  made_more _ k _ _ _ ask answer _ _ c _ _ new is (one_made m first more reply replies later whole a x b old mid end one rest all_is) h =
      let next : k ≡ m + 1 + length more = omega (arith, is) in
      let r : (all : List Row) × AreMade made (m + 1) (more ++ ask ∷ []) (replies ++ answer ∷ []) all x c mid new = made_more (m + 1) k more replies later ask answer x b c mid end new next rest h in
      let all : List Row = rows_of one.answered.asked.asking one.answered.asked.turns ++ r.0 in
      (all, one_made m first (more ++ ask ∷ []) reply (replies ++ answer ∷ []) r.0 all a x c old mid new one r.1 refl)

-- what is so before the next of all asks: these are left, this many were asked, and the first answer without data was this
pub record SoFar {A : Type 0} (made : A → Whole → List Row → A → Whole → Type 0) (all : List Try) (lookup : Lookup) (conf : ResolvConf) (old : World) (first : A) (rest : List Try) (number : ℕ) (lack : Option Lacking) (last : A) (at : Scene) : Type 0 where
  pub asks : List Ask
  pub answers : List Answer
  pub rows : List Row
  pub waits : Option (List ℕ)
  pub walks : Walks all asks answers lack rest
  pub count : number ≡ length asks
  pub answered : AreAnswered 0 asks answers (begun lookup conf old waits) at
  pub are_made : AreMade made 0 asks answers rows first last (begun lookup conf old waits) at
  pub messages : All (λ (answer : Answer). is_message answer ≡ true) answers

-- the same where the first that is left is named
pub at_first : {A : Type 0} (made : A → Whole → List Row → A → Whole → Type 0) (all : List Try) (lookup : Lookup) (conf : ResolvConf) (old : World) (first : A) (rest : List Try) (one : Try) (later : List Try) (number : ℕ) (lack : Option Lacking) (last : A) (at : Scene)
    → rest ≡ one ∷ later → SoFar made all lookup conf old first rest number lack last at → SoFar made all lookup conf old first (one ∷ later) number lack last at
at_first made all lookup conf old first rest one later number lack last at is so = subst (λ (left : List Try). SoFar made all lookup conf old first left number lack last at) is so

-- where none is left, what holds behind each that was told holds
pub none_left : (left : ℕ) (P : Type 0) → left ≡ 0 → (0 < left) ⊎ P → P
none_left left P none (inl some) = absurd (omega (arith, none, some))
none_left left P none (inr holds) = holds

-- in place of an ask one is tried at least
one_of : (b : Bool) (x y : List Labels) → 0 < length x → 0 < length y → 0 < length (if b then x else y)
one_of true x y h k = h
one_of false x y h k = k

searched_some : (options : ResolvOptions) (name : Labels) → 0 < length (searched_names options name)
searched_some options name =
    one_of (nat_lt options.ndots (length name)) (name ∷ chained name (suffixes_in options.search)) (chained name (suffixes_in options.search) ++ name ∷ []) (omega arith)
    (omega (arith, length-append (chained name (suffixes_in options.search)) (name ∷ [])))

names_some : (searched : Bool) (options : ResolvOptions) (ask : Ask) → 0 < length (names_of searched options ask)
names_some searched options ask = one_of (searched && not ask.rooted) (searched_names options ask.name) (ask.name ∷ []) (searched_some options ask.name) (omega arith)

tries_by_some : (ask : Ask) (names : List Labels) → 0 < length names → 0 < length (tries_by ask names)
tries_by_some ask [] some = absurd (omega (arith, some))
tries_by_some ask (name ∷ names) some = omega arith

pub tries_some : (searched : Bool) (options : ResolvOptions) (asks : List Ask) → 0 < length asks → 0 < length (tries_of searched options asks)
tries_some searched options [] some = absurd (omega (arith, some))
tries_some searched options (ask ∷ asks) some =
    omega (arith, length-append (tries_by ask (names_of searched options ask)) (tries_of searched options asks), tries_by_some ask (names_of searched options ask) (names_some searched options ask))

-- statuses that are others
six_not_done : IsDone 6 → ⊥
six_not_done (inl e) = absurd (omega arith)
six_not_done (inr (inl e)) = absurd (omega arith)
six_not_done (inr (inr (inl e))) = absurd (omega arith)
six_not_done (inr (inr (inr e))) = absurd (omega arith)

fails_not_done : (n : ℕ) → IsOfRequest n → 0 < n → IsDone n → ⊥
fails_not_done n of some (inl e) = omega (arith, some, e)
fails_not_done n (inl a) some (inr (inl e)) = omega (arith, some, a, e)
fails_not_done n (inl a) some (inr (inr (inl e))) = omega (arith, some, a, e)
fails_not_done n (inl a) some (inr (inr (inr e))) = omega (arith, some, a, e)
fails_not_done n (inr (inl a)) some (inr (inl e)) = omega (arith, some, a, e)
fails_not_done n (inr (inl a)) some (inr (inr (inl e))) = omega (arith, some, a, e)
fails_not_done n (inr (inl a)) some (inr (inr (inr e))) = omega (arith, some, a, e)
fails_not_done n (inr (inr (inl a))) some (inr (inl e)) = omega (arith, some, a, e)
fails_not_done n (inr (inr (inl a))) some (inr (inr (inl e))) = omega (arith, some, a, e)
fails_not_done n (inr (inr (inl a))) some (inr (inr (inr e))) = omega (arith, some, a, e)
fails_not_done n (inr (inr (inr (inl a)))) some (inr (inl e)) = omega (arith, some, a, e)
fails_not_done n (inr (inr (inr (inl a)))) some (inr (inr (inl e))) = omega (arith, some, a, e)
fails_not_done n (inr (inr (inr (inl a)))) some (inr (inr (inr e))) = omega (arith, some, a, e)
fails_not_done n (inr (inr (inr (inr a)))) some (inr (inl e)) = omega (arith, some, a, e)
fails_not_done n (inr (inr (inr (inr a)))) some (inr (inr (inl e))) = omega (arith, some, a, e)
fails_not_done n (inr (inr (inr (inr a)))) some (inr (inr (inr e))) = omega (arith, some, a, e)

lack_done : (lack : Option Lacking) → IsDone (lack_status lack)
lack_done None = inl refl
lack_done (Some lacks.Name) = inr (inl refl)
lack_done (Some lacks.Data) = inr (inr (inl refl))
lack_done (Some (lacks.Service code)) = inr (inr (inr refl))

done_only : (n : ℕ) → IsDone n → (n ≢ 2) × (n ≢ 3) × (n ≢ 4) × (n ≢ 5) × (n ≢ 6) × (n ≢ 7)
done_only n (inl e) = (λ h. omega (arith, e, h), λ h. omega (arith, e, h), λ h. omega (arith, e, h), λ h. omega (arith, e, h), λ h. omega (arith, e, h), λ h. omega (arith, e, h))
done_only n (inr (inl e)) = (λ h. omega (arith, e, h), λ h. omega (arith, e, h), λ h. omega (arith, e, h), λ h. omega (arith, e, h), λ h. omega (arith, e, h), λ h. omega (arith, e, h))
done_only n (inr (inr (inl e))) = (λ h. omega (arith, e, h), λ h. omega (arith, e, h), λ h. omega (arith, e, h), λ h. omega (arith, e, h), λ h. omega (arith, e, h), λ h. omega (arith, e, h))
done_only n (inr (inr (inr e))) = (λ h. omega (arith, e, h), λ h. omega (arith, e, h), λ h. omega (arith, e, h), λ h. omega (arith, e, h), λ h. omega (arith, e, h), λ h. omega (arith, e, h))

done_as : (n : ℕ) (lack : Option Lacking) → n ≡ lack_status lack → IsDone n
done_as n lack is = subst IsDone (sym is) (lack_done lack)

-- an ending that tells of what lacks has no status of another
pub last_only : (n : ℕ) (lack : Option Lacking) → (n ≡ lack_status lack) ⊎ (n ≡ 6) → (n ≢ 2) × (n ≢ 3) × (n ≢ 4) × (n ≢ 5) × (n ≢ 7)
last_only n lack (inl is) = let o = done_only n (done_as n lack is) in (o.0, o.1, o.2, o.3, o.5)
last_only n lack (inr six) = (λ h. omega (arith, six, h), λ h. omega (arith, six, h), λ h. omega (arith, six, h), λ h. omega (arith, six, h), λ h. omega (arith, six, h))

-- and its sentence is handed on
pub last_flushed : (n : ℕ) (lack : Option Lacking) (P : Type 0) → (n ≡ lack_status lack) ⊎ (n ≡ 6) → (IsOfLack n → P) → TellsWhy n → P
last_flushed n lack P is flushed (inl two) = absurd ((last_only n lack is).0 two)
last_flushed n lack P is flushed (inr (inl three)) = absurd ((last_only n lack is).1 three)
last_flushed n lack P is flushed (inr (inr (inl four))) = absurd ((last_only n lack is).2 four)
last_flushed n lack P is flushed (inr (inr (inr (inl five)))) = absurd ((last_only n lack is).3 five)
last_flushed n lack P is flushed (inr (inr (inr (inr (inl seven))))) = absurd ((last_only n lack is).4 seven)
last_flushed n lack P is flushed (inr (inr (inr (inr (inr of))))) = flushed of

lack_said : (n : ℕ) (lack : Option Lacking) → (n ≡ lack_status lack) ⊎ (n ≡ 6) → IsDone n → n ≡ lack_status lack
lack_said n lack (inl is) done = is
lack_said n lack (inr six) done = absurd (six_not_done (subst IsDone six done))

done_of : (n : ℕ) → IsDone n → IsOfAsking n
done_of n (inl e) = inl (inl e)
done_of n (inr lack) = inr lack

pub last_of : (n : ℕ) (lack : Option Lacking) → (n ≡ lack_status lack) ⊎ (n ≡ 6) → IsOfAsking n
last_of n lack (inr six) = inl (inr (inr (inr (inl six))))
last_of n lack (inl is) = done_of n (done_as n lack is)

-- memory ran out before a request was asked
pub memory_ends : (lookup : Lookup) (conf : ResolvConf) (Told : List ℕ → Type 0) (old new : World) → EndsSo lookup conf 6 Told old new
memory_ends lookup conf Told old new = record { done = λ e. absurd (six_not_done e); cut = λ e. absurd (omega arith); no_reply = λ e. absurd (omega arith); numbers = λ e. absurd (omega arith) }

abbrev IsMessage : Answer → Type 0
IsMessage answer = is_message answer ≡ true

with_message : (answers : List Answer) (answer : Answer) → All IsMessage answers → is_message answer ≡ true → All IsMessage (answers ++ answer ∷ [])
with_message answers answer all is = All-append IsMessage answers (answer ∷ []) all (All-cons IsMessage answer [] is (All-nil IsMessage))

-- an outcome with a message, or with none
came : (one : Try) (later : List Try) (n : ℕ) (message : Bool) (outcome : Result Outcome Error) (old new : Scene) → passes_of one later outcome ≡ false
    → IfOk outcome (λ o. Gave one.ask n o.answer old new) → Brought message outcome
    → (answer : Answer) × (is_message answer ≡ message) × Gave one.ask n answer old new × (passes_by one later answer ≡ false)
came one later n message (Ok o) old new passes gave brought = (o.answer, brought, gave, passes)
came one later n message (Err e) old new passes gave brought = absurd brought

-- an outcome without a message, and what is told of it
failed : (one : Try) (later : List Try) (n : ℕ) (Told : List ℕ → Type 0) (outcome : Result Outcome Error) (old new : Scene) → passes_of one later outcome ≡ false
    → IfOk outcome (λ o. Gave one.ask n o.answer old new) → Brought false outcome → IfOk outcome (λ o. Told (answer_text o.answer))
    → (answer : Answer) × (is_message answer ≡ false) × Gave one.ask n answer old new × Told (answer_text answer) × (passes_by one later answer ≡ false)
failed one later n Told (Ok o) old new passes gave brought said = (o.answer, brought, gave, said, passes)
failed one later n Told (Err e) old new passes gave brought said = absurd brought

-- what holds of an outcome that is not passed by
with_told : (one : Try) (later : List Try) (came : Result Outcome Error) (P : Outcome → Type 0) → passes_of one later came ≡ false → IfOk came P
    → IfOk came (λ o. P o × (passes_by one later o.answer ≡ false))
with_told one later (Ok o) P passes h = (h, passes)
with_told one later (Err e) P passes h = h

-- where it was told of an outcome, there is one
told_of_one : (came : Result Outcome Error) (n : ℕ) (P : Outcome → Type 0) → IsOfRequest n → (HasPage n → Brought true came) → (n ≡ 5 → Brought false came) → n ≢ 6 → n ≢ 7
    → IfOk came P → (o : Outcome) × P o
told_of_one (Ok o) n P of good bad no_six no_seven h = (o, h)
told_of_one (Err e) n P (inl zero) good bad no_six no_seven h = absurd (good (inl zero))
told_of_one (Err e) n P (inr (inl four)) good bad no_six no_seven h = absurd (good (inr four))
told_of_one (Err e) n P (inr (inr (inl five))) good bad no_six no_seven h = absurd (bad five)
told_of_one (Err e) n P (inr (inr (inr (inl six)))) good bad no_six no_seven h = absurd (no_six six)
told_of_one (Err e) n P (inr (inr (inr (inr seven)))) good bad no_six no_seven h = absurd (no_seven seven)

-- nothing is told of no places
pub told_alone : {L : Type 0} (held : L → Option (List ℕ)) (faults : L → ℕ) (servers : List ServerConf) (old new : L) (line : List ℕ) → said held faults old new line → tells held faults servers old new line
told_alone held faults servers old new line h = ([], subst (λ (l : List ℕ). said held faults old new l) (sym (append-nil line)) h)

module _ {A : Type 0} (made : A → Whole → List Row → A → Whole → Type 0) (lookup : Lookup) (conf : ResolvConf) (old : World) (first : A) where
  -- nothing was asked yet
  pub so_begins : (client : Whole) (deeds : Option (List Deed)) (waits : Option (List ℕ)) (polls : ℕ) (rest : List Try) → HasBegun lookup conf client old.deeds deeds old.polls polls → rest ≡ tries_of lookup.search conf.options lookup.asks
      → SoFar made (tries_of lookup.search conf.options lookup.asks) lookup conf old first rest 0 None first (leaves client old deeds waits polls)
  so_begins client deeds waits polls rest begin is =
      let at : begun lookup conf old waits ≡ leaves client old deeds waits polls = sym (begins lookup conf client old deeds waits polls begin) in
      record {
        asks = [];
        answers = [];
        rows = [];
        waits = waits;
        walks = subst (λ (left : List Try). Walks (tries_of lookup.search conf.options lookup.asks) [] [] None left) (sym is) walk_begins;
        count = refl;
        answered = subst (λ (s : Scene). AreAnswered 0 [] [] (begun lookup conf old waits) s) at (all_asked 0 (begun lookup conf old waits));
        are_made = subst (λ (s : Scene). AreMade made 0 [] [] [] first first (begun lookup conf old waits) s) at (none_made 0 first (begun lookup conf old waits));
        messages = All-nil IsMessage;
      }

  module _ (one : Try) (later : List Try) (number : ℕ) (lack : Option Lacking) (middle last : A) (mid end : Scene) (so : SoFar made (tries_of lookup.search conf.options lookup.asks) lookup conf old first (one ∷ later) number lack middle mid) where
    -- the next was asked, and a message was answered
    so_next : (next : Option Lacking) (left : List Try) (o : Outcome) → is_message o.answer ≡ true
        → IsAnsweredAnd (λ rows. made middle mid.client rows last end.client) number 1000000 (request_for one.ask) o.answer mid end
        → Walks (tries_of lookup.search conf.options lookup.asks) (so.asks ++ one.ask ∷ []) (so.answers ++ o.answer ∷ []) next left
        → SoFar made (tries_of lookup.search conf.options lookup.asks) lookup conf old first left (number + 1) next last end
    so_next next left o brought gave walks =
        let m : (all : List Row) × AreMade made 0 (so.asks ++ one.ask ∷ []) (so.answers ++ o.answer ∷ []) all first last (begun lookup conf old so.waits) end =
        made_more made 0 number so.asks so.answers so.rows one.ask o.answer first middle last (begun lookup conf old so.waits) mid end (omega (arith, so.count)) so.are_made gave in
        record {
          asks = so.asks ++ one.ask ∷ [];
          answers = so.answers ++ o.answer ∷ [];
          rows = m.0;
          waits = so.waits;
          walks = walks;
          count = omega (arith, so.count, length-append so.asks (one.ask ∷ []));
          answered = answered_more 0 number so.asks so.answers one.ask o.answer (begun lookup conf old so.waits) mid end (omega (arith, so.count)) so.answered gave.answered;
          are_made = m.1;
          messages = with_message so.answers o.answer so.messages brought;
        }

    -- it was passed by
    pub so_passed : (outcome : Result Outcome Error)
        → IfOk outcome (λ o. IsAnsweredAnd (λ rows. made middle mid.client rows last end.client) number 1000000 (request_for one.ask) o.answer mid end)
        → passes_of one later outcome ≡ true → SoFar made (tries_of lookup.search conf.options lookup.asks) lookup conf old first later (number + 1) lack last end
    so_passed (Err e) gave passes = absurd (false≢true passes)
    so_passed (Ok o) gave passes =
        so_next lack later o (passed_message one later (Ok o) passes) gave (walk_passes so.asks so.answers lack one later o.answer so.walks passes)

    -- or it was told
    pub so_told : (next : Option Lacking) (left : List Try) (outcome : Result Outcome Error) → Brought true outcome
        → IfOk outcome (λ o. IsAnsweredAnd (λ rows. made middle mid.client rows last end.client) number 1000000 (request_for one.ask) o.answer mid end)
        → passes_of one later outcome ≡ false → next ≡ or_lack lack (lack_of one.ask outcome) → left ≡ behind_tries one.more later
        → SoFar made (tries_of lookup.search conf.options lookup.asks) lookup conf old first left (number + 1) next last end
    so_told next left (Err e) brought gave passes is left_is = absurd brought
    so_told next left (Ok o) brought gave passes is left_is =
        so_next next left o brought gave
        (subst (λ (l : Option Lacking). Walks (tries_of lookup.search conf.options lookup.asks) (so.asks ++ one.ask ∷ []) (so.answers ++ o.answer ∷ []) l left) (sym is)
        (subst (λ (r : List Try). Walks (tries_of lookup.search conf.options lookup.asks) (so.asks ++ one.ask ∷ []) (so.answers ++ o.answer ∷ []) (or_lack lack (lack_in one.ask o.answer)) r) (sym left_is)
        (walk_tells so.asks so.answers lack one later o.answer so.walks passes)))

    -- the rows with those of the next
    pub so_made : (gave : (o : Outcome) × IsAnsweredAnd (λ rows. made middle mid.client rows last end.client) number 1000000 (request_for one.ask) o.answer mid end)
        → passes_by one later gave.0.answer ≡ false → (new : World) (left : Whole) (later_waits : Option (List ℕ)) → end ≡ arrives left new later_waits → IsMadeFor made lookup conf first last old new
    so_made gave passes new left later_waits end_is =
        let m : (all : List Row) × AreMade made 0 (so.asks ++ one.ask ∷ []) (so.answers ++ gave.0.answer ∷ []) all first last (begun lookup conf old so.waits) end =
        made_more made 0 number so.asks so.answers so.rows one.ask gave.0.answer first middle last (begun lookup conf old so.waits) mid end (omega (arith, so.count)) so.are_made gave.1 in
        record {
          asks = so.asks ++ one.ask ∷ [];
          answers = so.answers ++ gave.0.answer ∷ [];
          lack = or_lack lack (lack_in one.ask gave.0.answer);
          later = behind_tries one.more later;
          walks = walk_tells so.asks so.answers lack one later gave.0.answer so.walks passes;
          rows = m.0;
          left = left;
          waits = so.waits;
          later_waits = later_waits;
          are_made = subst (λ (s : Scene). AreMade made 0 (so.asks ++ one.ask ∷ []) (so.answers ++ gave.0.answer ∷ []) m.0 first last (begun lookup conf old so.waits) s) end_is m.1;
        }

  -- where the next ends it, its rows are there
  pub fails_made : (one : Try) (later : List Try) (number : ℕ) (lack : Option Lacking) (middle last : A) (mid : Scene) (left : Whole) (new : World) (later_waits : Option (List ℕ)) (status : ℕ) (outcome : Result Outcome Error)
      → SoFar made (tries_of lookup.search conf.options lookup.asks) lookup conf old first (one ∷ later) number lack middle mid → passes_of one later outcome ≡ false
      → IfOk outcome (λ o. IsAnsweredAnd (λ rows. made middle mid.client rows last left) number 1000000 (request_for one.ask) o.answer mid (arrives left new later_waits))
      → IsOfRequest status → (HasPage status → Brought true outcome) → (status ≡ 5 → Brought false outcome) → status ≢ 6 → status ≢ 7
      → IsMadeFor made lookup conf first last old new
  fails_made one later number lack middle last mid left new later_waits status outcome so passes gave of good bad no_six no_seven =
      let t = told_of_one outcome status (λ o. IsAnsweredAnd (λ rows. made middle mid.client rows last left) number 1000000 (request_for one.ask) o.answer mid (arrives left new later_waits) × (passes_by one later o.answer ≡ false)) of good bad no_six no_seven
      (with_told one later outcome (λ o. IsAnsweredAnd (λ rows. made middle mid.client rows last left) number 1000000 (request_for one.ask) o.answer mid (arrives left new later_waits)) passes gave) in
      so_made one later number lack middle last mid (arrives left new later_waits) so (t.0, t.1.0) t.1.1 new left later_waits refl

  -- The next ends it: it had no message, or writing it failed.
  pub fails_ends : (one : Try) (later : List Try) (number : ℕ) (lack : Option Lacking) (middle : A) (mid : Scene) (left : Whole) (new : World) (later_waits : Option (List ℕ)) (status : ℕ) (Told : List ℕ → Type 0) (outcome : Result Outcome Error)
      → SoFar made (tries_of lookup.search conf.options lookup.asks) lookup conf old first (one ∷ later) number lack middle mid → passes_of one later outcome ≡ false
      → IfOk outcome (λ o. Gave one.ask number o.answer mid (arrives left new later_waits)) → (IsErrOf outcome NumbersUsed → Stopped one.ask mid (arrives left new later_waits))
      → IsOfRequest status → 0 < status → (HasPage status → Brought true outcome) → (status ≡ 5 → Brought false outcome) → (status ≡ 5 → IfOk outcome (λ o. Told (answer_text o.answer)))
      → (status ≡ 7 → IsErrOf outcome NumbersUsed) → EndsSo lookup conf status Told old new
  fails_ends one later number lack middle mid left new later_waits status Told outcome so passes gave stopped of some good bad said numbers = record {
    done = λ e. absurd (fails_not_done status of some e);
    cut = λ four.
        let c = came one later number true outcome mid (arrives left new later_waits) passes gave (good (inr four)) in
        record {
          asks = so.asks ++ one.ask ∷ [];
          answers = so.answers ++ c.0 ∷ [];
          lack = or_lack lack (lack_in one.ask c.0);
          later = behind_tries one.more later;
          walks = walk_tells so.asks so.answers lack one later c.0 so.walks c.3;
          asked = record {
            left = left;
            waits = so.waits;
            later_waits = later_waits;
            answered = answered_more 0 number so.asks so.answers one.ask c.0 (begun lookup conf old so.waits) mid (arrives left new later_waits) (omega (arith, so.count)) so.answered c.2;
          };
          messages = with_message so.answers c.0 so.messages c.1;
        };
    no_reply = λ five.
        let c = failed one later number Told outcome mid (arrives left new later_waits) passes gave (bad five) (said five) in
        record {
          asks = so.asks ++ one.ask ∷ [];
          answers = so.answers;
          last = c.0;
          lack = or_lack lack (lack_in one.ask c.0);
          later = behind_tries one.more later;
          walks = walk_tells so.asks so.answers lack one later c.0 so.walks c.4;
          asked = record {
            left = left;
            waits = so.waits;
            later_waits = later_waits;
            answered = answered_more 0 number so.asks so.answers one.ask c.0 (begun lookup conf old so.waits) mid (arrives left new later_waits) (omega (arith, so.count)) so.answered c.2;
          };
          messages = so.messages;
          no_message = c.1;
          said = c.3;
        };
    numbers = λ seven. record {
      asks = so.asks;
      answers = so.answers;
      lack = lack;
      one = one;
      later = later;
      walks = so.walks;
      waits = so.waits;
      mid = mid;
      answered = so.answered;
      left = left;
      later_waits = later_waits;
      stops = stopped (numbers seven);
    };
  }

  -- all was answered
  whole_is : (rest : List Try) (asks : List Ask) (answers : List Answer) (lack : Option Lacking) → Walks (tries_of lookup.search conf.options lookup.asks) asks answers lack rest → length rest ≡ 0
      → Walks (tries_of lookup.search conf.options lookup.asks) asks answers lack []
  whole_is [] asks answers lack walks none = walks
  whole_is (one ∷ rest) asks answers lack walks none = absurd (omega (arith, none))

  pub whole_made : (rest : List Try) (number : ℕ) (lack : Option Lacking) (last : A) (left : Whole) (new : World) (later_waits : Option (List ℕ))
      → SoFar made (tries_of lookup.search conf.options lookup.asks) lookup conf old first rest number lack last (arrives left new later_waits) → IsMadeFor made lookup conf first last old new
  whole_made rest number lack last left new later_waits so =
      record { asks = so.asks; answers = so.answers; lack = lack; later = rest; walks = so.walks; rows = so.rows; left = left; waits = so.waits; later_waits = later_waits; are_made = so.are_made }

  pub whole_ends : (rest : List Try) (number : ℕ) (lack : Option Lacking) (last : A) (left : Whole) (new : World) (later_waits : Option (List ℕ)) (status : ℕ) (Told : List ℕ → Type 0)
      → SoFar made (tries_of lookup.search conf.options lookup.asks) lookup conf old first rest number lack last (arrives left new later_waits) → length rest ≡ 0
      → (status ≡ lack_status lack) ⊎ (status ≡ 6) → (status ≢ 6 → LackTold Told lack) → EndsSo lookup conf status Told old new
  whole_ends rest number lack last left new later_waits status Told so none is told =
      let only = last_only status lack is in
      record {
        done = λ e. record {
          asks = so.asks;
          answers = so.answers;
          lack = lack;
          walks = whole_is rest so.asks so.answers lack so.walks none;
          asked = record { left = left; waits = so.waits; later_waits = later_waits; answered = so.answered };
          messages = so.messages;
          ends = lack_said status lack is e;
          told = told ((done_only status e).4);
        };
        cut = λ four. absurd (only.2 four);
        no_reply = λ five. absurd (only.3 five);
        numbers = λ seven. absurd (only.4 seven);
      }

-- a fault of the sink after another write
pub rose_later : (a b c : ℕ) → a ≤ b → Rose b c → Rose a c
rose_later a b c h rose = (omega (arith, rose.0), λ ne. grind (arith, rose.0, rose.1))

-- the same of what is told with nothing told before
pub told_later : (held mid after : Option (List ℕ)) (faults mid_faults faults_after : ℕ) (line : List ℕ) → mid ≡ held → mid_faults ≡ faults
    → IsSaid line mid after mid_faults faults_after → IsSaid line held after faults faults_after
told_later held mid after faults mid_faults faults_after line same same_faults h =
    subst (λ (n : ℕ). IsSaid line held after n faults_after) same_faults (subst (λ (m : Option (List ℕ)). IsSaid line m after mid_faults faults_after) same h)

-- what is told of some places
pub told_by : {L : Type 0} (held : L → Option (List ℕ)) (faults : L → ℕ) (servers : List ServerConf) (places : List Opened) (old new : L) (outcome : Result Outcome Error)
    → IfOk outcome (λ o. said held faults old new (answer_text o.answer ++ told_of servers places)) → IfOk outcome (λ o. tells held faults servers old new (answer_text o.answer))
told_by held faults servers places old new (Ok o) h = (places, h)
told_by held faults servers places old new (Err e) h = h

-- what is told of an answer without data, with nothing told before
pub lack_told : {L : Type 0} (held : L → Option (List ℕ)) (faults : L → ℕ) (servers : List ServerConf) (old mid new : L) (lack : Option Lacking) → held mid ≡ held old → faults mid ≡ faults old
    → IfSome lack (λ l. IsSaid (lack_text l) (held mid) (held new) (faults mid) (faults new)) → LackTold (tells held faults servers old new) lack
lack_told held faults servers old mid new None same same_faults h = tt
lack_told held faults servers old mid new (Some lack) same same_faults h =
    told_alone held faults servers old new (lack_text lack) (told_later (held old) (held mid) (held new) (faults old) (faults mid) (faults new) (lack_text lack) same same_faults h)
