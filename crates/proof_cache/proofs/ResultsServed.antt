-- One server by datagrams and streams posts nothing but errors and messages.
use Rattle.std.proofs.Common.{◌≡◌, ℕ, zero, suc, ◌+◌, ◌-◌, ◌*◌, ◌≤◌, ◌<◌, Bool, true, false, List, [], ◌∷◌, ◌++◌, length, take, refl, sym, ◌∙◌, ap, subst, arith, ◌==◌}
use Rattle.std.specs.Prelude.{Option, Some, None, Result, Ok, Err, reverse, slice_index, if◌then◌else◌, pred, nat_lt}
use Rattle.std.specs.List.{AllByRecursion}
use Rattle.std.proofs.lemmas.Bool.Decides.{nat_tests}
use Rattle.std.proofs.lemmas.List.{get_or-reverse, get_or_past, length-reverse}
use Rattle.client_request.specs.Request.{Request}
use Rattle.client_request.specs.declared.error.Error.{Error}
use Rattle.client_request.specs.declared.event.What.{What}
use Rattle.right_trace.specs.Frames.{Reading, Length, LengthAfter, Body, Fed, settled, fed_one, fed, is_bad}
use Rattle.right_trace.specs.Messages.{Octets, answers, truncated, id_in}
use Rattle.right_trace.specs.Time.{recv_size}
use Rattle.right_trace.specs.Trace.{Conf}
use Rattle.proof_right.specs.machine.Part.{Act}
use Rattle.proof_right.specs.machine.Dgrams.{Stage, Tryer, Dgrams, stage_of}
use Rattle.proof_right.specs.machine.Streams.{Conn, Multi, result_of, TakesFrame, unheard, begin_row}
use Rattle.right_trace.specs.Updates.{with_at}
use Rattle.proof_right.specs.machine.Served.{Served, served, posts_of, Settles, AsItIs, WithResult, Acts, ByDgram, ByStream, FallsBack, TellsDgrams, TellsStreams, Reads, TakesOne, ClosesFirst, Starts, IsHanded, Cancels, IsGivenUp}
use Rattle.proof_right.specs.machine.Server as server
use Rattle.proof_right.specs.machine.Streams as multi
use Rattle.proof_right.specs.machine.Dgrams as dgrams
use Rattle.client_request.specs.declared.error.Error.TheVariants as errors
use Rattle.right_trace.specs.InOctets.{AreOctets, IsInOctets}
use Rattle.proof_cache.specs.Standing.{IsMessage, IsResult}
use Rattle.proof_cache.specs.Results.{AllResults, GivesMessages, IsReadInOctets, SaneServed}

-- ---- octets

more_octets : (b : ℕ) (o : Octets) → b < 256 → AreOctets o → AreOctets (b ∷ o)
more_octets b o small rest zero = small
more_octets b o small rest (suc i) = rest i

reversed : (o : Octets) → AreOctets o → AreOctets (reverse o)
reversed o all i = go (nat_lt i (length o)) refl
  where
    go : (b : Bool) → nat_lt i (length o) ≡ b → slice_index (reverse o) i < 256
    go true e =
        let lt : i < length o = grind (arith, nat_tests) in
        subst (λ n. n < 256) (sym (get_or-reverse o i 0 lt)) (all (length o - 1 - i))
    go false e =
        let le : length o ≤ i = grind (arith, nat_tests) in
        let far : length (reverse o) ≤ i = subst (λ n. n ≤ i) (sym (length-reverse o)) le in
        subst (λ n. n < 256) (sym (get_or_past (reverse o) i 0 far)) (omega arith)

taken : (n : ℕ) (o : Octets) → AreOctets o → AreOctets (take n o)
taken zero o all i = omega arith
taken (suc n) [] all i = omega arith
taken (suc n) (b ∷ o) all zero = all 0
taken (suc n) (b ∷ o) all (suc i) = taken n o (λ j. all (suc j)) i

-- what is left to be read, and what is complete, is octets
record AreInOctets (x : Fed) : Type 0 where
  pub left : IsReadInOctets x.left
  pub frames : AllByRecursion AreOctets x.frames

both : (xs ys : List Octets) → AllByRecursion AreOctets xs → AllByRecursion AreOctets ys → AllByRecursion AreOctets (xs ++ ys)
both [] ys a b = b
both (x ∷ xs) ys a b = (a.0, both xs ys a.1 b)

settled_octets : (n : ℕ) (got : Octets) → AreOctets got → AreInOctets (settled n got)
settled_octets zero got all = record { left = tt; frames = (reversed got all, tt) }
settled_octets (suc n) got all = record { left = all; frames = tt }

one_octets : (x : Reading) (b : ℕ) → IsReadInOctets x → b < 256 → AreInOctets (fed_one x b)
one_octets Length b read small = record { left = tt; frames = tt }
one_octets (LengthAfter high) b read small = settled_octets (256 * high + b) [] (λ i. omega arith)
one_octets (Body n got) b read small = settled_octets (pred n) (b ∷ got) (more_octets b got small read)

fed_octets : (x : Reading) (o : Octets) → IsReadInOctets x → AreOctets o → AreInOctets (fed x o)
fed_octets x [] read all = record { left = read; frames = tt }
fed_octets x (b ∷ bs) read all =
    let first = one_octets x b read (all 0) in
    let rest = fed_octets (fed_one x b).left bs first.left (λ i. all (suc i)) in
    record { left = rest.left; frames = both (fed_one x b).frames (fed (fed_one x b).left bs).frames first.frames rest.frames }

-- ---- datagrams

-- each result that is to be given is an error or a message
abbrev Ends : (ℕ → Option Tryer) → Type 0
Ends held = (k : ℕ) (a : Tryer) (y : Result Octets Error) → held k ≡ Some a → a.stage ≡ dgrams.Ending y → IsResult y

-- the same of one request
abbrev EndsAs : Option Tryer → Type 0
EndsAs o = (a : Tryer) (y : Result Octets Error) → o ≡ Some a → a.stage ≡ dgrams.Ending y → IsResult y

ends_at : (k : ℕ) (o : Option Tryer) (held : ℕ → Option Tryer) → EndsAs o → Ends held → Ends (with_at k o held)
ends_at k o held this ends j = go (k == j)
  where
    go : (b : Bool) → EndsAs (if b then o else held j)
    go true = this
    go false = ends j

ends_none : EndsAs None
ends_none a y e f = absurd cc

-- a request with this stage
abbrev StageEnds : Stage → Type 0
StageEnds stage = (y : Result Octets Error) → stage ≡ dgrams.Ending y → IsResult y

ends_some : (a : Tryer) → StageEnds a.stage → EndsAs (Some a)
ends_some a stage b y e f = (let same : a ≡ b = cc in stage y (ap (λ (t : Tryer). t.stage) same ∙ f))

ending : (y : Result Octets Error) → IsResult y → StageEnds (dgrams.Ending y)
ending y is z e = (let same : y ≡ z = cc in subst IsResult same is)

answered : (m : Octets) → IsMessage m → StageEnds (stage_of m)
answered m is = go (truncated m)
  where
    go : (b : Bool) → StageEnds (if b then dgrams.Cut else dgrams.Ending (Ok m))
    go true = λ y e. absurd cc
    go false = ending (Ok m) is

tries_ends : (conf : Conf) (s n next : ℕ) (d : Dgrams) (x : multi.Act) (e : Dgrams) → Ends d.held → dgrams.Tries conf s n next d x e → Ends e.held × AllResults (posts_of x)
tries_ends conf s n next d _ _ ends (dgrams.Opens k a held stage few) = (ends_at k _ d.held (ends_some _ (λ y e. absurd cc)) ends, tt)
tries_ends conf s n next d _ _ ends (dgrams.Retries k a p id t held stage late few) = (ends_at k _ d.held (ends_some _ (λ y e. absurd cc)) ends, tt)
tries_ends conf s n next d _ _ ends (dgrams.StopsTrying k a p id t held stage late many) = (ends_at k _ d.held (ends_some _ (ending _ tt)) ends, tt)
tries_ends conf s n next d _ _ ends (dgrams.Ends k a x held stage) = (ends_at k None d.held ends_none ends, (ends k a x held stage, tt))

meets_ends : (conf : Conf) (n : ℕ) (d : Dgrams) (w : What) (x : multi.Act) (e : Dgrams) → IsInOctets w → Ends d.held → dgrams.Meets conf n d w x e → Ends e.held × AllResults (posts_of x)
meets_ends conf n d _ _ _ octets ends (dgrams.IsSent k a p id o at held stage carries) = (ends_at k _ d.held (ends_some _ (λ y e. absurd cc)) ends, tt)
meets_ends conf n d _ _ _ octets ends (dgrams.CannotBeSent k a p e at held stage fault) = (ends_at k _ d.held (ends_some _ (ending _ tt)) ends, tt)
meets_ends conf n d _ _ _ octets ends (dgrams.DoesNotOpen k a p f at held stage) = (ends_at k _ d.held (ends_some _ (ending _ tt)) ends, tt)
meets_ends conf n d _ _ _ octets ends (dgrams.NotSent k a p id t f at held stage) = (ends_at k _ d.held (ends_some _ (ending _ tt)) ends, tt)
meets_ends conf n d _ _ _ octets ends (dgrams.SentShort k a p id t at held stage) = (ends_at k _ d.held (ends_some _ (ending _ tt)) ends, tt)
meets_ends conf n d _ _ _ octets ends (dgrams.NotReceived k a p id t f at held stage) = (ends_at k _ d.held (ends_some _ (ending _ tt)) ends, tt)
meets_ends conf n d _ _ _ octets ends (dgrams.IsAnswered k a p id t o at held stage long answers) =
    (ends_at k _ d.held (ends_some _ (answered (take (recv_size conf) o) (record { octets = taken (recv_size conf) o octets; long = long }))) ends, tt)

-- ---- streams

-- what each connection reads is octets
abbrev AllRead : (ℕ → Option Conn) → Type 0
AllRead conns = (p : ℕ) (x : Conn) → conns p ≡ Some x → IsReadInOctets x.got

abbrev ReadsAs : Option Conn → Type 0
ReadsAs o = (x : Conn) → o ≡ Some x → IsReadInOctets x.got

reads_at : (p : ℕ) (o : Option Conn) (conns : ℕ → Option Conn) → ReadsAs o → AllRead conns → AllRead (with_at p o conns)
reads_at p o conns this reads q = go (p == q)
  where
    go : (b : Bool) → ReadsAs (if b then o else conns q)
    go true = this
    go false = reads q

reads_none : ReadsAs None
reads_none x e = absurd cc

reads_some : (x : Conn) → IsReadInOctets x.got → ReadsAs (Some x)
reads_some x read y e = (let same : x.got ≡ y.got = cc in subst IsReadInOctets same read)

moves_reads : (conf : Conf) (s n next : ℕ) (m : Multi) (x : multi.Act) (e : Multi) → AllRead m.conns → multi.Moves conf s n next m x e → AllRead e.conns × AllResults (posts_of x)
moves_reads conf s n next m _ _ reads (multi.Joins k a p x asks phase conn) = (reads, tt)
moves_reads conf s n next m _ _ reads (multi.Expects k a p asks phase opening) = (reads, tt)
moves_reads conf s n next m _ _ reads (multi.Opens k a asks phase opening full) = (reads, tt)
moves_reads conf s n next m _ _ reads (multi.Meets k a until asks phase calm late soon) = (reads, tt)
moves_reads conf s n next m _ _ reads (multi.BacksOff k a until asks phase late soon) = (reads, tt)
moves_reads conf s n next m _ _ reads (multi.Writes k a p x id o asks phase conn left heard free carries some) = (reads_at p _ m.conns (reads_some _ (reads p x conn)) reads, tt)
moves_reads conf s n next m _ _ reads (multi.CannotWrite k a p x asks phase conn left invalid) = (reads_at p _ m.conns (reads_some _ (reads p x conn)) reads, tt)
moves_reads conf s n next m _ _ reads (multi.FindsNoId k a p x asks phase conn left full) = (reads, tt)
moves_reads conf s n next m _ _ reads (multi.GoesOn k a until asks phase late) = (reads, tt)
moves_reads conf s n next m _ _ reads (multi.TimesOut k a asks late) = (reads, (tt, tt))
moves_reads conf s n next m _ _ reads (multi.ReadsNothing p x since conn mode late) = (reads_at p None m.conns reads_none reads, tt)
moves_reads conf s n next m _ _ reads (multi.RestsTooLong p x since conn mode late lined) = (reads_at p None m.conns reads_none reads, tt)

takes_reads : (conf : Conf) (n : ℕ) (m : Multi) (w : What) (x : multi.Act) (e : Multi) → IsInOctets w → AllRead m.conns → multi.Takes conf n m w x e → AllRead e.conns × AllResults (posts_of x)
takes_reads conf n m _ _ _ octets reads (multi.ItOpens p opening) = (reads_at p _ m.conns (reads_some _ tt) reads, tt)
takes_reads conf n m _ _ _ octets reads (multi.ItDoesNotOpen p f calm opening soon) = (reads, tt)
takes_reads conf n m _ _ _ octets reads (multi.ItFails w p x conn told) = (reads_at p None m.conns reads_none reads, tt)
takes_reads conf n m _ _ _ octets reads (multi.SomeWritten p c x o conn some) = (reads_at p _ m.conns (reads_some _ (reads p x conn)) reads, tt)
takes_reads conf n m _ _ _ octets reads (multi.AllWritten p c x conn some all) = (reads_at p _ m.conns (reads_some _ (reads p x conn)) reads, tt)
takes_reads conf n m _ _ _ octets reads (multi.NothingToWrite p c x conn none) = (reads_at p _ m.conns (reads_some _ (reads p x conn)) reads, tt)
takes_reads conf n m _ _ _ octets reads (multi.OctetsCome p o x conn) = (reads_at p _ m.conns (reads_some _ (fed_octets x.got o (reads p x conn) octets).left) reads, tt)

long_enough : (f : Octets) → is_bad f ≡ false → 12 ≤ length f
unfolding is_bad
long_enough f e = grind (arith, nat_tests)

a_result : (r : Request) (id : ℕ) (f : Octets) → AreOctets f → is_bad f ≡ false → IsResult (result_of r id f)
a_result r id f octets whole = go (answers r id f)
  where
    go : (b : Bool) → IsResult (if b then Ok f else Err errors.WrongReplyForQuery)
    go true = record { octets = octets; long = long_enough f whole }
    go false = tt

frame_reads : (n p : ℕ) (f : Octets) (m : Multi) (x : multi.Act) (e : Multi) → AreOctets f → AllRead m.conns → TakesFrame n p f m x e → AllRead e.conns × AllResults (posts_of x)
frame_reads n p f m _ _ octets reads (multi.IsBad x conn bad) = (reads_at p None m.conns reads_none reads, tt)
frame_reads n p f m _ _ octets reads (multi.IsUnknown x conn whole free) = (reads_at p _ m.conns (reads_some _ (reads p x conn)) reads, tt)
frame_reads n p f m _ _ octets reads (multi.IsLate x y mode conn whole id gone leaves) = (reads_at p _ m.conns (reads_some _ (reads p x conn)) reads, tt)
frame_reads n p f m _ _ octets reads (multi.IsResult x y mode a conn whole id asks phase leaves) =
    (reads_at p _ m.conns (reads_some _ (reads p x conn)) reads, (a_result a.request (id_in f) f octets whole, tt))
frame_reads n p f m _ _ octets reads (multi.IsDropped conn) = (reads, tt)

begin_reads : (m : Multi) → AllRead m.conns → AllRead (begin_row m).conns
begin_reads m reads p = go (m.conns p) (reads p)
  where
    go : (o : Option Conn) → ReadsAs o → ReadsAs (unheard o)
    go None this = reads_none
    go (Some x) this = reads_some _ (this x refl)

-- ---- one server

settles : (s n next : ℕ) (u : Served) (x : multi.Act) (a : Act Served) → SaneServed u → AllResults (posts_of x) → Settles s n next u x a → SaneServed a.state × AllResults a.posts
settles s n next u x _ sane posts (AsItIs settled) = (sane, posts)
settles s n next u x _ sane posts (WithResult k a y held stage) =
    (record { pending = sane.pending; frames = sane.frames; reads = sane.reads; ends = ends_at k None u.server.by_dgram.held ends_none sane.ends }, (sane.ends k a y held stage, tt))

acts : (conf : Conf) (s next : ℕ) (u : Served) (d : Act Served) → SaneServed u → Acts conf s next u d → SaneServed d.state × AllResults d.posts
acts conf s next u _ sane (ByDgram x d a tries after) =
    let t = tries_ends conf s u.clock next u.server.by_dgram x d sane.ends tries in
    settles s u.clock next _ x a (record { pending = sane.pending; frames = sane.frames; reads = sane.reads; ends = t.0 }) t.1 after
acts conf s next u _ sane (ByStream x m moves) =
    let t = moves_reads conf s u.clock next u.server.by_stream x m sane.reads moves in
    (record { pending = sane.pending; frames = sane.frames; reads = t.0; ends = sane.ends }, t.1)
acts conf s next u _ sane (FallsBack k a held stage) =
    (record { pending = sane.pending; frames = sane.frames; reads = sane.reads; ends = ends_at k None u.server.by_dgram.held ends_none sane.ends }, tt)
acts conf s next u _ sane (TellsDgrams x d a untold early meets foreign after) =
    let t = meets_ends conf u.clock u.server.by_dgram u.pending x d sane.pending sane.ends meets in
    settles s u.clock next _ x a (record { pending = tt; frames = tt; reads = sane.reads; ends = t.0 }) t.1 after
acts conf s next u _ sane (TellsStreams x m untold other takes ignored) =
    let t = takes_reads conf u.clock u.server.by_stream u.pending x m sane.pending sane.reads takes in
    (record { pending = tt; frames = tt; reads = t.0; ends = sane.ends }, t.1)
acts conf s next u _ sane (Reads p o x untold pending conn) =
    let octets : AreOctets o = subst IsInOctets pending sane.pending in
    let came = fed_octets x.got o (sane.reads p x conn) octets in
    (record { pending = tt; frames = came.frames; reads = reads_at p _ u.server.by_stream.conns (reads_some _ came.left) sane.reads; ends = sane.ends }, tt)
acts conf s next u _ sane (TakesOne f fs x m frames early takes) =
    let all : AllByRecursion AreOctets (f ∷ fs) = subst (AllByRecursion AreOctets) frames sane.frames in
    let t = frame_reads u.clock u.place f u.server.by_stream x m all.0 sane.reads takes in
    (record { pending = sane.pending; frames = all.1; reads = t.0; ends = sane.ends }, t.1)
acts conf s next u _ sane (ClosesFirst f fs k y m x since frames early takes conn mode late lined) =
    let all : AllByRecursion AreOctets (f ∷ fs) = subst (AllByRecursion AreOctets) frames sane.frames in
    let t = frame_reads u.clock u.place f u.server.by_stream (multi.Gives k y) m all.0 sane.reads takes in
    (record { pending = sane.pending; frames = tt; reads = reads_at u.place None m.conns reads_none t.0; ends = sane.ends }, t.1)

starts : (c : Conf) (s next k : ℕ) (r : Request) (u : Served) (d : Act Served) → SaneServed u → Starts c s next k r u d → SaneServed d.state × AllResults d.posts
starts c s next k r u _ sane (IsHanded how _ _ is (server.ToDgrams by free)) =
    (record { pending = sane.pending; frames = sane.frames; reads = sane.reads; ends = ends_at k _ u.server.by_dgram.held (ends_some _ (λ y e. absurd cc)) sane.ends }, tt)
starts c s next k r u _ sane (IsHanded how _ _ is (server.ToStreams by free)) =
    (record { pending = sane.pending; frames = sane.frames; reads = sane.reads; ends = sane.ends }, tt)

cancels : (s next k : ℕ) (u : Served) (d : Act Served) → SaneServed u → Cancels s next k u d → SaneServed d.state × AllResults d.posts
cancels s next k u _ sane (IsGivenUp _ _ (server.Waits a held stage)) =
    (record { pending = sane.pending; frames = sane.frames; reads = sane.reads; ends = ends_at k None u.server.by_dgram.held ends_none sane.ends }, tt)
cancels s next k u _ sane (IsGivenUp _ _ (server.HasPlace a p held stage)) =
    let left = ends_at k _ u.server.by_dgram.held (ends_some _ (ending _ tt)) sane.ends in
    (record { pending = sane.pending; frames = sane.frames; reads = sane.reads; ends = ends_at k None _ ends_none left }, tt)
cancels s next k u _ sane (IsGivenUp _ _ (server.AtStreams free)) =
    (record { pending = sane.pending; frames = sane.frames; reads = sane.reads; ends = sane.ends }, tt)

pub served_gives_messages : (c : Conf) → GivesMessages (served c) SaneServed
served_gives_messages c = record {
  fresh = record { pending = tt; frames = tt; reads = λ p. reads_none; ends = λ k. ends_none };
  begins = λ e u octets sane. record { pending = octets; frames = tt; reads = begin_reads u.server.by_stream sane.reads; ends = sane.ends };
  acts = acts c;
  starts = starts c;
  cancels = cancels;
}
