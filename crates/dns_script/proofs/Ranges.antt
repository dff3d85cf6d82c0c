-- What is read is in range: numbers, octets and messages are such as the code's types have, and requests may be asked.
use Rattle.std.proofs.Common.{◌≡◌, ℕ, Bool, true, false, not, ◌&&◌, ◌||◌, if◌then◌else◌, cond, nat_lt, eqb, length, List, [], ◌∷◌, ◌++◌, Option, Some, None, Ok, Err, IfSome, codes, refl, sym, subst, arith, option_map, bytes_eq}
use Rattle.std.specs.List.{AllByRecursion}
use Rattle.std.specs.Option.{option_to_list}
use Rattle.std.proofs.lemmas.Bool.{eqb-true, ltb-false}
use Rattle.std.proofs.lemmas.Option.{cond_some, same_Some, some_pair_parts}
use Rattle.dns_names.proofs.Heads.{then_ok, none_some}
use Rattle.dns_base.specs.OptRecord.{OptFields, opt_record}
use Rattle.client_request.specs.Request.{Request, is_misformed}
use Rattle.client_request.specs.declared.fault.Fault.{Fault}
use Rattle.client_request.specs.declared.event.Event.{Event}
use Rattle.client_request.specs.declared.event.What.{What}
use Rattle.client_request.specs.declared.event.What.TheVariants as what
use Rattle.client_request.specs.declared.event.Out.{Out}
use Rattle.client_request.specs.declared.event.Out.TheVariants as out
use Rattle.client_request.specs.declared.event.Row.{Row}
use Rattle.dns_script.specs.declared.names.EventName.{EventName}
use Rattle.dns_script.specs.declared.names.EventName.TheVariants as event_name
use Rattle.dns_script.specs.declared.names.OutName.{OutName}
use Rattle.dns_script.specs.declared.names.OutName.TheVariants as out_name
use Rattle.dns_script.specs.declared.trace_lines.TraceEntry.{TraceEntry}
use Rattle.dns_script.specs.declared.trace_lines.TraceEntry.TheVariants as entry
use Rattle.dns_script.specs.declared.trace_lines.TraceStage.{TraceStage}
use Rattle.dns_script.specs.declared.trace_lines.TraceStage.TheVariants as stage
use Rattle.dns_script.specs.declared.trace_lines.TraceReader.{TraceReader}
use Rattle.dns_script.specs.Names.{event_names, out_names}
use Rattle.dns_script.specs.Reading.{◌>>=◌, Reader, one_word, named, number_of, octets_of, pairs, words_of}
use Rattle.dns_script.specs.Grammar.{one, two, three, four, u64_at, u32_at, u16_at, octets_at, fault_at, via_at, message_of, message_at, header_of, opt_of, request_of, request_at, error_at, result_behind, result_at, out_behind, out_at, what_behind, what_at, event_from, event_at, whole}
use Rattle.dns_script.specs.TextLaws.{AreOctets, AreRows, IsMessage, IsOptRecord, IsOut, IsReply, IsRequest, IsRow, IsU16, IsU32, IsU64, IsWhat}
use Rattle.dns_script.specs.TraceReading.{IsTrace, entry_behind, entry_of, line_at, nothing_read, with_entry, with_line, with_lines}
use Rattle.dns_script.specs.TraceText.{says_stale}
use Rattle.dns_script.proofs.Versions.{not_refused}
use Rattle.dns_script.proofs.Decimals.{kept_unless, number_is_small}
use Rattle.dns_script.proofs.HexWords.{octets_say, pairs_say}
use Rattle.dns_script.proofs.OptTexts.{record_in_range}
use Rattle.dns_script.proofs.PrintedLines.{IsEntry}

-- What a reader gives has a property.
abbrev Gives : {A : Type 0} → Reader A → (A → Type 0) → Type 0
Gives {A} reader Has = (words rest : List (List ℕ)) (x : A) → reader words ≡ Some (x, rest) → Has x

gives_word : {A : Type 0} (f : List ℕ → Option A) (Has : A → Type 0) → ((word : List ℕ) (x : A) → f word ≡ Some x → Has x) → Gives (one_word f) Has
gives_word f Has has [] rest x e = none_some e
gives_word {A} f Has has (word ∷ words) rest x e = go (f word) refl e
  where
    go : (o : Option A) → f word ≡ o → option_map {U = A × List (List ℕ)} (λ y. (y, words)) o ≡ Some (x, rest) → Has x
    go None is e = none_some e
    go (Some y) is e = subst Has (some_pair_parts y x words rest e).0 (has word y is)

gives_one : {A X : Type 0} (make : A → X) (first : Reader A) (Has : A → Type 0) (Is : X → Type 0) → Gives first Has → ((a : A) → Has a → Is (make a)) → Gives (one make first) Is
gives_one make first Has Is has is words rest x e =
    let a = then_ok (first words) _ (x, rest) e in
    subst Is (some_pair_parts (make a.0.0) x a.0.1 rest a.2).0 (is a.0.0 (has words a.0.1 a.0.0 a.1))

gives_two : {A B X : Type 0} (make : A → B → X) (first : Reader A) (second : Reader B) (Has : A → Type 0) (With : B → Type 0) (Is : X → Type 0) → Gives first Has → Gives second With
    → ((a : A) (b : B) → Has a → With b → Is (make a b)) → Gives (two make first second) Is
gives_two make first second Has With Is has its is words rest x e =
    let a = then_ok (first words) _ (x, rest) e in
    gives_one (make a.0.0) second With Is its (λ b k. is a.0.0 b (has words a.0.1 a.0.0 a.1) k) a.0.1 rest x a.2

gives_three : {A B C X : Type 0} (make : A → B → C → X) (first : Reader A) (second : Reader B) (third : Reader C) (Has : A → Type 0) (With : B → Type 0) (And : C → Type 0) (Is : X → Type 0)
    → Gives first Has → Gives second With → Gives third And → ((a : A) (b : B) (c : C) → Has a → With b → And c → Is (make a b c)) → Gives (three make first second third) Is
gives_three make first second third Has With And Is has its more is words rest x e =
    let a = then_ok (first words) _ (x, rest) e in
    gives_two (make a.0.0) second third With And Is its more (λ b c k m. is a.0.0 b c (has words a.0.1 a.0.0 a.1) k m) a.0.1 rest x a.2

gives_four : {A B C D X : Type 0} (make : A → B → C → D → X) (first : Reader A) (second : Reader B) (third : Reader C) (fourth : Reader D)
    (Has : A → Type 0) (With : B → Type 0) (And : C → Type 0) (Last : D → Type 0) (Is : X → Type 0)
    → Gives first Has → Gives second With → Gives third And → Gives fourth Last → ((a : A) (b : B) (c : C) (d : D) → Has a → With b → And c → Last d → Is (make a b c d)) → Gives (four make first second third fourth) Is
gives_four make first second third fourth Has With And Last Is has its more last is words rest x e =
    let a = then_ok (first words) _ (x, rest) e in
    gives_three (make a.0.0) second third fourth With And Last Is its more last (λ b c d k m n. is a.0.0 b c d (has words a.0.1 a.0.0 a.1) k m n) a.0.1 rest x a.2

gives_named : {N A : Type 0} (names : List (List ℕ × N)) (behind : N → Reader A) (Is : A → Type 0) → ((n : N) → Gives (behind n) Is)
    → Gives (λ words. one_word (named names) words >>= (λ name. behind name.0 name.1)) Is
gives_named names behind Is gives words rest x e =
    let name = then_ok (one_word (named names) words) _ (x, rest) e in
    gives name.0.0 name.0.1 rest x name.2

-- of some parts nothing is to be said
abbrev Any : {A : Type 0} → A → Type 0
Any x = Unit {0}

gives_any : {A : Type 0} (reader : Reader A) → Gives reader Any
gives_any reader words rest x e = tt

gives_u64 : Gives u64_at IsU64
gives_u64 = gives_word (number_of 18446744073709551615) IsU64 (λ word n e. omega (arith, number_is_small 18446744073709551615 n word e))

gives_u32 : Gives u32_at IsU32
gives_u32 = gives_word (number_of 4294967295) IsU32 (λ word n e. omega (arith, number_is_small 4294967295 n word e))

gives_u16 : Gives u16_at IsU16
gives_u16 = gives_word (number_of 65535) IsU16 (λ word n e. omega (arith, number_is_small 65535 n word e))

gives_octets : Gives octets_at AreOctets
gives_octets = gives_word octets_of AreOctets (λ word octets e. (octets_say word octets e).1)

message_in_range : (word octets : List ℕ) → message_of word ≡ Some octets → IsMessage octets
message_in_range word octets e =
    let read = then_ok (octets_of word) _ octets e in
    let long = kept_unless (nat_lt (length read.0) 12) (Some read.0) octets read.2 in
    subst IsMessage (same_Some read.0 octets long.1) ((octets_say word read.0 read.1).1, ltb-false (length read.0) 12 long.0)

gives_message : Gives message_at IsMessage
gives_message = gives_word message_of IsMessage message_in_range

abbrev IsHeader : List ℕ → Type 0
IsHeader header = AreOctets header × (length header ≡ 4)

header_in_range : (word octets : List ℕ) → header_of word ≡ Some octets → IsHeader octets
header_in_range word octets e =
    let read = then_ok (pairs word) _ octets e in
    let four = cond_some (eqb (length read.0) 4) read.0 octets read.2 in
    subst IsHeader four.1 ((pairs_say word read.0 read.1).1, eqb-true (length read.0) 4 four.0)

gives_header : Gives (one_word header_of) IsHeader
gives_header = gives_word header_of IsHeader header_in_range

opt_in_range : (word : List ℕ) (opt : Option OptFields) → opt_of word ≡ Some opt → IfSome opt IsOptRecord
opt_in_range word opt e = go (bytes_eq word (codes "-")) e
  where
    recorded : (octets : List ℕ) → octets_of word ≡ Some octets → (o : Option OptFields) → opt_record octets ≡ o → option_map (λ x. Some x) o ≡ Some opt → IfSome opt IsOptRecord
    recorded octets read None is e = none_some e
    recorded octets read (Some fields) is e =
        subst (λ x. IfSome x IsOptRecord) (same_Some (Some fields) opt e) (record_in_range octets fields (octets_say word octets read).1 is)

    go : (b : Bool) → cond b (Some None) (octets_of word >>= (λ octets. option_map (λ x. Some x) (opt_record octets))) ≡ Some opt → IfSome opt IsOptRecord
    go true e = subst (λ x. IfSome x IsOptRecord) (same_Some None opt e) tt
    go false e =
        let read = then_ok (octets_of word) (λ octets. option_map (λ x. Some x) (opt_record octets)) opt e in
        recorded read.0 read.1 (opt_record read.0) refl read.2

request_in_range : (base header word : List ℕ) (r : Request) → IsMessage base → IsHeader header → request_of base header word ≡ Some r → IsRequest r
unfolding request_of
request_in_range base header word r is_base is_header e =
    let kept = kept_unless (is_misformed base) (option_map (λ opt. record { base = base; header = header; opt = opt }) (opt_of word)) r e in
    go kept.0 (opt_of word) refl kept.1
  where
    go : is_misformed base ≡ false → (o : Option (Option OptFields)) → opt_of word ≡ o → option_map {U = Request} (λ opt. record { base = base; header = header; opt = opt }) o ≡ Some r → IsRequest r
    go askable None is e = none_some e
    go askable (Some opt) is e =
        subst IsRequest (same_Some _ r e) (record { base = is_base; askable = askable; header = is_header.0; four = is_header.1; opt = opt_in_range word opt is })

gives_request : Gives request_at IsRequest
gives_request words rest r e =
    let base = then_ok (message_at words) _ (r, rest) e in
    let header = then_ok (one_word header_of base.0.1) _ (r, rest) base.2 in
    gives_word (request_of base.0.0 header.0.0) IsRequest
    (λ word x f. request_in_range base.0.0 header.0.0 word x (gives_message words base.0.1 base.0.0 base.1) (gives_header base.0.1 header.0.1 header.0.0 header.1) f) header.0.1 rest r header.2

gives_result_behind : (name : List ℕ) → Gives (result_behind name) IsReply
gives_result_behind name words rest x e = go (bytes_eq name (codes "ok")) (bytes_eq name (codes "err")) e
  where
    go : (b c : Bool) → cond b (one Ok message_at words) (cond c (one Err error_at words) None) ≡ Some (x, rest) → IsReply x
    go true c e = gives_one Ok message_at IsMessage IsReply gives_message (λ m h. h) words rest x e
    go false true e = gives_one Err error_at Any IsReply (gives_any error_at) (λ m h. tt) words rest x e
    go false false e = none_some e

gives_result : Gives result_at IsReply
gives_result [] rest x e = none_some e
gives_result (name ∷ words) rest x e = gives_result_behind name words rest x e

gives_out_behind : (n : OutName) → Gives (out_behind n) IsOut
gives_out_behind out_name.Start = gives_three out.Start u64_at u32_at via_at IsU64 IsU32 Any IsOut gives_u64 gives_u32 (gives_any via_at) (λ a b c h k m. (h, k))
gives_out_behind out_name.OpenDgram = gives_two out.OpenDgram u64_at u32_at IsU64 IsU32 IsOut gives_u64 gives_u32 (λ a b h k. (h, k))
gives_out_behind out_name.OpenStream = gives_two out.OpenStream u64_at u32_at IsU64 IsU32 IsOut gives_u64 gives_u32 (λ a b h k. (h, k))
gives_out_behind out_name.Send = gives_four out.Send u64_at u64_at u16_at octets_at IsU64 IsU64 IsU16 AreOctets IsOut gives_u64 gives_u64 gives_u16 gives_octets (λ a b c d h k m n. (h, k, m, n))
gives_out_behind out_name.Write = gives_four out.Write u64_at u64_at u16_at octets_at IsU64 IsU64 IsU16 AreOctets IsOut gives_u64 gives_u64 gives_u16 gives_octets (λ a b c d h k m n. (h, k, m, n))
gives_out_behind out_name.Resume = gives_two out.Resume u64_at octets_at IsU64 AreOctets IsOut gives_u64 gives_octets (λ a b h k. (h, k))
gives_out_behind out_name.Close = gives_one out.Close u64_at IsU64 IsOut gives_u64 (λ a h. h)
gives_out_behind out_name.Stale = gives_one out.Stale u64_at IsU64 IsOut gives_u64 (λ a h. h)
gives_out_behind out_name.Reply = gives_two out.Reply u64_at result_at IsU64 IsReply IsOut gives_u64 gives_result (λ a b h k. (h, k))

gives_out : Gives out_at IsOut
gives_out = gives_named out_names out_behind IsOut gives_out_behind

gives_place : (make : ℕ → What) → ((place : ℕ) → IsU64 place → IsWhat (make place)) → Gives (one make u64_at) IsWhat
gives_place make is = gives_one make u64_at IsU64 IsWhat gives_u64 is

gives_failed : (make : ℕ → Fault → What) → ((place : ℕ) (f : Fault) → IsU64 place → IsWhat (make place f)) → Gives (two make u64_at fault_at) IsWhat
gives_failed make is = gives_two make u64_at fault_at IsU64 Any IsWhat gives_u64 (gives_any fault_at) (λ a b h k. is a b h)

gives_came : (make : ℕ → List ℕ → What) → ((place : ℕ) (octets : List ℕ) → IsU64 place → AreOctets octets → IsWhat (make place octets)) → Gives (two make u64_at octets_at) IsWhat
gives_came make is = gives_two make u64_at octets_at IsU64 AreOctets IsWhat gives_u64 gives_octets is

gives_tick : Gives (what_behind event_name.Tick) IsWhat
gives_tick words rest x e = subst IsWhat (some_pair_parts what.Tick x words rest e).0 tt

gives_what_behind : (n : EventName) → Gives (what_behind n) IsWhat
gives_what_behind event_name.Ask = gives_one what.Ask request_at IsRequest IsWhat gives_request (λ r h. h)
gives_what_behind event_name.Opened = gives_place what.Opened (λ a h. h)
gives_what_behind event_name.OpenFailed = gives_failed what.OpenFailed (λ a b h. h)
gives_what_behind event_name.SendFailed = gives_failed what.SendFailed (λ a b h. h)
gives_what_behind event_name.ShortSend = gives_place what.ShortSend (λ a h. h)
gives_what_behind event_name.Datagram = gives_came what.Datagram (λ a b h k. (h, k))
gives_what_behind event_name.RecvFailed = gives_failed what.RecvFailed (λ a b h. h)
gives_what_behind event_name.Wrote = gives_two what.Wrote u64_at u64_at IsU64 IsU64 IsWhat gives_u64 gives_u64 (λ a b h k. (h, k))
gives_what_behind event_name.WriteFailed = gives_failed what.WriteFailed (λ a b h. h)
gives_what_behind event_name.Bytes = gives_came what.Bytes (λ a b h k. (h, k))
gives_what_behind event_name.ReadFailed = gives_failed what.ReadFailed (λ a b h. h)
gives_what_behind event_name.Ended = gives_place what.Ended (λ a h. h)
gives_what_behind event_name.Tick = gives_tick

gives_what : Gives what_at IsWhat
gives_what = gives_named event_names what_behind IsWhat gives_what_behind

abbrev IsEvent : Event → Type 0
IsEvent event = IsU64 event.moment.0 × IsWhat event.what

gives_event : Gives event_at IsEvent
gives_event = gives_two event_from u64_at what_at IsU64 IsWhat IsEvent gives_u64 gives_what (λ a b h k. (h, k))

gives_entry_behind : (name : List ℕ) → Gives (entry_behind name) IsEntry
gives_entry_behind name words rest x e = go (bytes_eq name (codes "at")) (bytes_eq name (codes ">")) (bytes_eq name (codes "end")) e
  where
    go : (b c d : Bool) → cond b (one entry.Came event_at words) (cond c (one entry.Put out_at words) (cond d (Some (entry.End, words)) None)) ≡ Some (x, rest) → IsEntry x
    go true c d e = gives_one entry.Came event_at IsEvent IsEntry gives_event (λ m h. h) words rest x e
    go false true d e = gives_one entry.Put out_at IsOut IsEntry gives_out (λ m h. h) words rest x e
    go false false true e = subst IsEntry (some_pair_parts entry.End x words rest e).0 tt
    go false false false e = none_some e

entry_in_range : (l : List ℕ) (x : TraceEntry) → entry_of l ≡ Some x → IsEntry x
unfolding entry_of
entry_in_range l x e = go (words_of l) e
  where
    go : (words : List (List ℕ)) → one_word (λ name. Some name) words >>= (λ name. entry_behind name.0 name.1 >>= whole) ≡ Some x → IsEntry x
    go [] e = none_some e
    go (name ∷ words) e =
        let read = then_ok (entry_behind name words) whole x e in
        subst IsEntry (cond_some (eqb (length read.0.1) 0) read.0.0 x read.2).1 (gives_entry_behind name words read.0.1 read.0.0 read.1)

all_behind : {X : Type 0} (P : X → Type 0) (xs ys : List X) → AllByRecursion P xs → AllByRecursion P ys → AllByRecursion P (xs ++ ys)
all_behind P [] ys h k = k
all_behind P (x ∷ xs) ys h k = (h.0, all_behind P xs ys h.1 k)

abbrev IsLast : Option Row → Type 0
IsLast row = IfSome row IsRow

last_row : (row : Option Row) → IsLast row → AreRows (option_to_list row)
last_row None h = tt
last_row (Some row) h = (h, tt)

abbrev IsReader : TraceReader → Type 0
IsReader r = AreRows r.rows × IsLast r.row

-- what was put out joins the row that is being read
abbrev put_more : Out → TraceReader → Option Row → Option TraceReader
put_more out s o = option_map {U = TraceReader} (λ row. record s { row = Some (record row { outs = row.outs ++ out ∷ [] }); has_stale = s.has_stale || says_stale out }) o

entry_kept : (x : TraceEntry) (s t : TraceReader) → IsEntry x → IsReader s → with_entry x s ≡ Some t → IsReader t
entry_kept (entry.Came event) s t h k e =
    subst IsReader (same_Some _ t e) (all_behind IsRow s.rows (option_to_list s.row) k.0 (last_row s.row k.1), record { moment = h.0; what = h.1; outs = tt })
entry_kept (entry.Put out) s t h k e = go s.row k.1 (not_refused (says_stale out && not s.is_second) (put_more out s s.row) t e).1
  where
    go : (o : Option Row) → IsLast o → put_more out s o ≡ Some t → IsReader t
    go None last e = none_some e
    go (Some row) last e =
        subst IsReader (same_Some _ t e) (k.0, record { moment = last.moment; what = last.what; outs = all_behind IsOut row.outs (out ∷ []) last.outs (h, tt) })
entry_kept entry.End s t h k e = subst IsReader (same_Some _ t (not_refused (s.is_second && not s.has_stale) (Some (record s { stage = stage.Ended; rows = s.rows ++ option_to_list s.row; row = None })) t e).1) (all_behind IsRow s.rows (option_to_list s.row) k.0 (last_row s.row k.1), tt)

line_kept : (g : TraceStage) (l : List ℕ) (s t : TraceReader) → IsReader s → line_at g l s ≡ Some t → IsReader t
line_kept stage.Begin l s t k e = by (bytes_eq l (codes "trace 1")) (bytes_eq l (codes "trace 2")) e
  where
    by : (b c : Bool) → (if b then Some (record s { stage = stage.Inside }) else (if c then Some (record s { stage = stage.Inside; is_second = true }) else None)) ≡ Some t → IsReader t
    by true c e = subst IsReader (same_Some _ t e) k
    by false true e = subst IsReader (same_Some _ t e) k
    by false false e = none_some e
line_kept stage.Inside l s t k e =
    let x = then_ok (entry_of l) (λ x. with_entry x s) t e in
    entry_kept x.0 s t (entry_in_range l x.0 x.1) k x.2
line_kept stage.Ended l s t k e = none_some e

lines_kept : (lines : List (List ℕ)) (s t : TraceReader) → IsReader s → with_lines lines s ≡ Some t → IsReader t
lines_kept [] s t k e = subst IsReader (same_Some s t e) k
lines_kept (l ∷ lines) s t k e =
    let next = then_ok (with_line l s) (with_lines lines) t e in
    lines_kept lines next.0 t (line_kept s.stage l s next.0 k next.1) next.2

-- the rows of a trace are such as are written
pub read_is_in_range : (text : List ℕ) (rows : List Row) → IsTrace text rows → AreRows rows
read_is_in_range text rows h = subst AreRows (sym h.says) (lines_kept h.lines nothing_read h.reader (tt, tt) h.read).0
