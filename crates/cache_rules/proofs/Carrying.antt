-- A kept message is copied into a draft without a limit until its data can't be read: no section has more than 65535 entries, so no push is refused.
use Rattle.std.proofs.Common.{◌≡◌, ℕ, zero, suc, ◌+◌, ◌-◌, ◌<◌, ◌≤◌, ◌⊎◌, Bool, true, false, inl, inr, List, [], ◌∷◌, ◌++◌, length, refl, ap, ap₂, sym, subst, ◌∙◌, arith, ◌&&◌, ◌==◌, append_assoc, append-nil, ◌^◌}
use Rattle.std.specs.Prelude.{Option, Some, None, Result, Ok, Err, map, option_map, option_and_then, if◌then◌else◌}
use Rattle.std.specs.List.{AllByRecursion}
use Rattle.dns_names.specs.Name.{Labels, IsLegal}
use Rattle.dns_names.proofs.Heads.{none_some}
use Rattle.dns_values.specs.declared.error.ParseError.{ParseError}
use Rattle.dns_values.specs.declared.numbers.Section.{Section}
use Rattle.dns_values.specs.declared.numbers.Section.TheVariants.{Answer, Authority, Additional}
use Rattle.dns_base.specs.Numbers.{u16_at}
use Rattle.dns_base.specs.Header.{Counts}
use Rattle.dns_base.specs.Data.{Data}
use Rattle.dns_base.specs.Message.{Asked, Entry, Known, Written, all_read, question_at, record_at, item_then, items_at, items_behind, questions_of, answer_of, authority_of, answer_items, authority_items, additional_items}
use Rattle.dns_base.specs.Knowing.{meanings_of}
use Rattle.dns_base.specs.Answering.{question_items}
use Rattle.dns_base.specs.Sections.{HasNoRecords, HasNoneAfter, one_more_in, entries_in}
use Rattle.dns_base.specs.Draft.{Draft, counts_in, limit_of, refusal, fresh, pushed_question, pushed_record, question_size, record_size}
use Rattle.dns_base.specs.Holding.{Contents, no_contents, with_question, with_record, IsAskable, IsWritable, Holds}
use Rattle.dns_base.proofs.Lists.{items_few}
use Rattle.dns_base.proofs.Holding.{draft_laws}
use Rattle.dns_base.proofs.Steps.{draft_steps}
use Rattle.client_request.specs.declared.error.CopyRecordsError.TheVariants.{Parse}
use Rattle.client_request.specs.Composed.{Copied, ◌>>◌, asks, adds, unless, each, section_items, content_of, written_from}
use Rattle.client_request.proofs.Writable.{AreOctets, question_askable, record_writable}
use Rattle.right_trace.specs.Messages.{Octets}
use Rattle.right_trace.specs.Keys.{is_signing}
use Rattle.right_trace.specs.Views.{with_name}
use Rattle.right_trace.proofs.Copying.{number_small, room_left}
use Rattle.cache_rules.specs.declared.copying.Ttls.{Ttls}
use Rattle.cache_rules.specs.declared.copying.Ttls.TheVariants.{Lessened, Stale}
use Rattle.cache_rules.specs.Viewing.{ttl_by, ttl_then, written_then, asks_under, carries_data, carries, carries_found, carries_section, carries_all}
use Rattle.cache_rules.proofs.DataBack.{Lies, record_lies, Comes}

-- what is read of a list of items has a property
abbrev pub Each : {A : Type 0} → (A → Type 0) → List (Result A ParseError) → Type 0
Each P [] = Unit {0}
Each P (Ok x ∷ items) = P x × Each P items
Each P (Err e ∷ items) = Each P items

module _ {A : Type 0} (P : A → Type 0) (one : ℕ → Option (A × ℕ)) (good : (at end : ℕ) (x : A) → one at ≡ Some (x, end) → P x) where
  item_good : (others : ℕ → List (Result A ParseError)) → ((end : ℕ) → Each P (others end)) → (at : ℕ) (o : Option (A × ℕ)) → one at ≡ o → Each P (item_then others o)
  item_good others h at None e = tt
  item_good others h at (Some x) e = (good at x.1 x.0 e, h x.1)

  pub items_good : (n at : ℕ) → Each P (items_at one n at)
  unfolding items_at
  items_good zero at = tt
  items_good (suc n) at = item_good (λ end. items_at one n end) (λ end. items_good n end) at (one at) refl

-- the records of a section have what each record that is read has, and are few
module _ (P : Known → Type 0) (m : Octets) (good : (at end : ℕ) (k : Known) → record_at m at ≡ Some (k, end) → P k) where
  behind_good : (count : ℕ) {A : Type 0} (before : Option (List A × ℕ)) (items : List (Result Known ParseError)) → items_behind m count before ≡ Some items → Each P items
  behind_good count None items e = none_some e
  behind_good count (Some x) items e = let same : items_at (record_at m) count x.1 ≡ items = cc in subst (Each P) same (items_good P (record_at m) good count x.1)

  pub section_good : (s : Section) (items : List (Result Known ParseError)) → section_items s m ≡ Some items → Each P items
  unfolding answer_items authority_items additional_items
  section_good Answer items e = behind_good (u16_at m 6) (questions_of m) items e
  section_good Authority items e = behind_good (u16_at m 8) (answer_of m) items e
  section_good Additional items e = behind_good (u16_at m 10) (authority_of m) items e

behind_few : (m : Octets) (count : ℕ) {A : Type 0} (before : Option (List A × ℕ)) (items : List (Result Known ParseError)) → count < 65536 → items_behind m count before ≡ Some items → length items ≤ 65535
behind_few m count None items small e = absurd cc
behind_few m count (Some x) items small e =
    let same : items_at (record_at m) count x.1 ≡ items = cc in
    rw (← same) (omega (arith, items_few (record_at m) count x.1))

section_few : (s : Section) (m : Octets) (items : List (Result Known ParseError)) → AreOctets m → section_items s m ≡ Some items → length items ≤ 65535
unfolding answer_items authority_items additional_items
section_few Answer m items h e = behind_few m (u16_at m 6) (questions_of m) items (number_small m 6 h) e
section_few Authority m items h e = behind_few m (u16_at m 8) (answer_of m) items (number_small m 8 h) e
section_few Additional m items h e = behind_few m (u16_at m 10) (authority_of m) items (number_small m 10 h) e

-- what can't be read stops the copying
pub record Stopped {A : Type 0} (read : Option A) (o : Copied) : Type 0 where
  pub error : ParseError
  pub at : o ≡ Err (Parse error)
  pub unread : read ≡ None

-- questions

record Asking (d e : Draft) : Type 0 where
  unlimited : limit_of e ≡ None
  order : HasNoRecords (counts_in e)
  entries : (counts_in e).questions ≡ (counts_in d).questions + 1

question_pushed : (q : Asked) (d : Draft) → limit_of d ≡ None → HasNoRecords (counts_in d) → Asking d (pushed_question q d)
question_pushed q d unlimited order =
    let is = draft_steps.counts.question q d in
    record {
      unlimited = draft_steps.limits.question q d ∙ unlimited;
      order = subst HasNoRecords (sym is) order;
      entries = ap (λ (n : Counts). n.questions) is;
    }

-- all questions are read, and asked under a name
pub record AsksAll (name : Labels) (items : List (Result Asked ParseError)) (c : Contents) (o : Copied) : Type 0 where
  pub draft : Draft
  pub done : o ≡ Ok draft
  pub questions : List Asked
  pub read : all_read items ≡ Some questions
  pub unlimited : limit_of draft ≡ None
  pub order : HasNoRecords (counts_in draft)
  pub holds : Holds draft (record c { questions = c.questions ++ map (with_name name) questions })

renamed : (name : Labels) (q : Asked) → IsLegal name → IsAskable q → IsAskable (with_name name q)
renamed name q legal h = record { name = legal; rtype = h.rtype; class = h.class }

asking : (name : Labels) (items : List (Result Asked ParseError)) (d : Draft) (c : Contents) → IsLegal name → Each IsAskable items → limit_of d ≡ None → HasNoRecords (counts_in d)
    → (counts_in d).questions + length items ≤ 65535 → Holds d c → Stopped (all_read items) (each (asks_under name) items d) ⊎ AsksAll name items c (each (asks_under name) items d)
asking name [] d c legal good unlimited order few h =
    inr (record { draft = d; done = refl; questions = []; read = refl; unlimited = unlimited; order = order; holds = subst (λ qs. Holds d (record c { questions = qs })) (sym (append-nil c.questions)) h })
asking name (Err e ∷ items) d c legal good unlimited order few h = inl (record { error = e; at = refl; unread = refl })
asking name (Ok q ∷ items) d c legal good unlimited order few h =
    let p = with_name name q in
    let next = question_pushed p d unlimited order in
    let room : refusal (counts_in d).questions d (question_size p) ≡ None = room_left (counts_in d).questions (question_size p) d unlimited (omega arith) in
    let pushed : asks p d ≡ Ok (pushed_question p d) = rw room refl in
    let there : each (asks_under name) (Ok q ∷ items) d ≡ each (asks_under name) items (pushed_question p d) = rw pushed refl in
    let held = draft_laws.question_holds p d c (renamed name q legal good.0) order (λ full. omega arith) h in
    elim (asking name items (pushed_question p d) (with_question p c) legal good.1 next.unlimited next.order (omega (arith, next.entries)) held) [
      | inl s ↦ inl (record { error = s.error; at = there ∙ s.at; unread = ap (option_map (λ qs. q ∷ qs)) s.unread })
      | inr a ↦ inr (record {
        draft = a.draft;
        done = there ∙ a.done;
        questions = q ∷ a.questions;
        read = ap (option_map (λ qs. q ∷ qs)) a.read;
        unlimited = a.unlimited;
        order = a.order;
        holds = subst (λ qs. Holds a.draft (record c { questions = qs })) (append_assoc c.questions (p ∷ []) (map (with_name name) a.questions)) a.holds;
      })
    ]

-- records

-- the records that are given of these
abbrev pub given : Section → (drops : Bool) → (ttls : Ttls) → List Written → List Written
given s b n [] = []
given s b n (w ∷ ws) = if b && is_signing w.rtype then given s b n ws else record w { ttl = ttl_then s n w.rtype w.ttl } ∷ given s b n ws

-- these records are in a section behind those that are there
abbrev pub with_all : Section → List Written → Contents → Contents
with_all Answer ws c = record c { answer = c.answer ++ ws }
with_all Authority ws c = record c { authority = c.authority ++ ws }
with_all Additional ws c = record c { additional = c.additional ++ ws }

none_added : (s : Section) (d : Draft) (c : Contents) → Holds d c → Holds d (with_all s [] c)
none_added Answer d c h = subst (λ ws. Holds d (record c { answer = ws })) (sym (append-nil c.answer)) h
none_added Authority d c h = subst (λ ws. Holds d (record c { authority = ws })) (sym (append-nil c.authority)) h
none_added Additional d c h = subst (λ ws. Holds d (record c { additional = ws })) (sym (append-nil c.additional)) h

one_added : (s : Section) (w : Written) (ws : List Written) (d : Draft) (c : Contents) → Holds d (with_all s ws (with_record s w c)) → Holds d (with_all s (w ∷ ws) c)
one_added Answer w ws d c h = subst (λ vs. Holds d (record c { answer = vs })) (append_assoc c.answer (w ∷ []) ws) h
one_added Authority w ws d c h = subst (λ vs. Holds d (record c { authority = vs })) (append_assoc c.authority (w ∷ []) ws) h
one_added Additional w ws d c h = subst (λ vs. Holds d (record c { additional = vs })) (append_assoc c.additional (w ∷ []) ws) h

record Adding (s : Section) (d e : Draft) : Type 0 where
  unlimited : limit_of e ≡ None
  order : HasNoneAfter s (counts_in e)
  entries : entries_in s (counts_in e) ≡ entries_in s (counts_in d) + 1

one_more : (s : Section) (counts : Counts) → HasNoneAfter s counts → HasNoneAfter s (one_more_in s counts) × (entries_in s (one_more_in s counts) ≡ entries_in s counts + 1)
one_more Answer counts h = (h, refl)
one_more Authority counts h = (h, refl)
one_more Additional counts h = (h, refl)

record_pushed : (s : Section) (w : Written) (d : Draft) → limit_of d ≡ None → HasNoneAfter s (counts_in d) → Adding s d (pushed_record s w d)
record_pushed s w d unlimited order =
    let is = draft_steps.counts.any_record s w d in
    let next = one_more s (counts_in d) order in
    record {
      unlimited = draft_steps.limits.any_record s w d ∙ unlimited;
      order = subst (HasNoneAfter s) (sym is) next.0;
      entries = ap (entries_in s) is ∙ next.1;
    }

-- what the records of these items mean, where all are read by their types
abbrev pub meanings_in : List (Result Known ParseError) → Option (List Written)
meanings_in items = option_and_then meanings_of (all_read items)

-- a record as it is read
abbrev pub as_read : Entry → Data → Written
as_read e x = record { owner = e.owner; rtype = e.rtype; class = e.class; ttl = e.ttl; content = x }

means_more : (k : Known) (x : Data) (ks : List Known) (ws : List Written) → k.says ≡ Some x → meanings_of ks ≡ Some ws → meanings_of (k ∷ ks) ≡ Some (as_read k.entry x ∷ ws)
means_more k x ks ws e f = ap₂ (λ o p. option_and_then (λ first. option_and_then (λ rest. Some (first ∷ rest)) p) (option_map (as_read k.entry) o)) e f

means_none_here : (k : Known) (ks : List Known) → k.says ≡ None → meanings_of (k ∷ ks) ≡ None
means_none_here k ks e = ap (λ o. option_and_then (λ first. option_and_then (λ rest. Some (first ∷ rest)) (meanings_of ks)) (option_map (as_read k.entry) o)) e

means_none_later : (k : Known) (ks : List Known) → meanings_of ks ≡ None → meanings_of (k ∷ ks) ≡ None
means_none_later k ks e = ap (λ p. option_and_then (λ first. option_and_then (λ rest. Some (first ∷ rest)) p) (option_map (as_read k.entry) k.says)) e ∙ go k.says
  where
    go : (o : Option Data) → option_and_then (λ first. option_and_then (λ rest. Some (first ∷ rest)) None) (option_map (as_read k.entry) o) ≡ None
    go None = refl
    go (Some x) = refl

none_of_items : (k : Known) (items : List (Result Known ParseError)) → ((ks : List Known) → all_read items ≡ Some ks → meanings_of (k ∷ ks) ≡ None) → meanings_in (Ok k ∷ items) ≡ None
none_of_items k items h = go (all_read items) refl
  where
    go : (o : Option (List Known)) → all_read items ≡ o → option_and_then meanings_of (option_map (λ ks. k ∷ ks) o) ≡ None
    go None e = refl
    go (Some ks) e = h ks e

-- all these records are read by their types, and those that are given are in the draft
pub record CarriesAll (s : Section) (b : Bool) (n : Ttls) (items : List (Result Known ParseError)) (c : Contents) (o : Copied) : Type 0 where
  pub draft : Draft
  pub done : o ≡ Ok draft
  pub records : List Known
  pub read : all_read items ≡ Some records
  pub written : List Written
  pub mean : meanings_of records ≡ Some written
  pub comes : AllByRecursion (λ (w : Written). Comes w.rtype w.content) written
  pub unlimited : limit_of draft ≡ None
  pub order : HasNoneAfter s (counts_in draft)
  pub holds : Holds draft (with_all s (given s b n written) c)

-- a record of these octets that could be written
record IsSound (m : Octets) (k : Known) : Type 0 where
  writable : IsWritable (written_from k)
  lies : Lies m k

short_ttl : (n : Ttls) (ttl : ℕ) → ttl < 2 ^ 32 → ttl_by n ttl < 2 ^ 32
short_ttl (Lessened n) ttl lt = omega arith
short_ttl Stale ttl lt = omega arith

-- it is written in 32 bits
ttl_short : (s : Section) (n : Ttls) (t ttl : ℕ) → ttl < 2 ^ 32 → ttl_then s n t ttl < 2 ^ 32
ttl_short Answer n t ttl lt = short_ttl n ttl lt
ttl_short Authority n t ttl lt = short_ttl n ttl lt
ttl_short Additional n t ttl lt = go (t == 41)
  where
    go : (b : Bool) → (if b then ttl else ttl_by n ttl) < 2 ^ 32
    go true = lt
    go false = short_ttl n ttl lt

read_writable : (k : Known) (x : Data) → k.says ≡ Some x → IsWritable (written_from k) → IsWritable (as_read k.entry x)
read_writable k x e h = subst (λ o. IsWritable (as_read k.entry (content_of k.entry o))) e h

then_writable : (s : Section) (n : Ttls) (e : Entry) (x : Data) → IsWritable (as_read e x) → IsWritable (written_then s n e x)
then_writable s n e x h = record {
  owner = h.owner;
  rtype = h.rtype;
  class = h.class;
  ttl = ttl_short s n e.rtype e.ttl h.ttl;
  typed = h.typed;
  short = h.short;
  content = h.content;
}

module _ (s : Section) (b : Bool) (n : Ttls) (m : Octets) where
  -- one record more in front
  in_front : (k : Known) (x : Data) (items : List (Result Known ParseError)) (c : Contents) (o : Copied) → k.says ≡ Some x → IsSound m k
      → (a : CarriesAll s b n items c o) → (p : Copied) → p ≡ o → (f : Contents) → Holds a.draft (with_all s (given s b n (as_read k.entry x ∷ a.written)) f) → CarriesAll s b n (Ok k ∷ items) f p
  in_front k x items c o e sound a p same f held = record {
    draft = a.draft;
    done = same ∙ a.done;
    records = k ∷ a.records;
    read = ap (option_map (λ ks. k ∷ ks)) a.read;
    written = as_read k.entry x ∷ a.written;
    mean = means_more k x a.records a.written e a.mean;
    comes = (record { from = m; at = sound.lies.at; end = sound.lies.end; is = sym sound.lies.says ∙ e }, a.comes);
    unlimited = a.unlimited;
    order = a.order;
    holds = held;
  }

  later_stops : (k : Known) (items : List (Result Known ParseError)) (o p : Copied) → p ≡ o → Stopped (meanings_in items) o → Stopped (meanings_in (Ok k ∷ items)) p
  later_stops k items o p same x = record {
    error = x.error;
    at = same ∙ x.at;
    unread = none_of_items k items (λ ks e. means_none_later k ks (sym (ap (option_and_then meanings_of) e) ∙ x.unread));
  }

  -- what comes of the items behind
  abbrev Behind : List (Result Known ParseError) → Type 0
  Behind items = (d : Draft) (c : Contents) → limit_of d ≡ None → HasNoneAfter s (counts_in d) → entries_in s (counts_in d) + length items ≤ 65535 → Holds d c
      → Stopped (meanings_in items) (each (carries s b n) items d) ⊎ CarriesAll s b n items c (each (carries s b n) items d)

  pushing : (k : Known) (items : List (Result Known ParseError)) (d : Draft) (c : Contents) (x : Data) → k.says ≡ Some x → (b && is_signing k.entry.rtype) ≡ false → IsSound m k → Behind items
      → limit_of d ≡ None → HasNoneAfter s (counts_in d) → entries_in s (counts_in d) + (1 + length items) ≤ 65535 → Holds d c
      → Stopped (meanings_in (Ok k ∷ items)) (carries s b n k d >> each (carries s b n) items) ⊎ CarriesAll s b n (Ok k ∷ items) c (carries s b n k d >> each (carries s b n) items)
  pushing k items d c x e kept sound behind unlimited order few h =
      let w : Written = written_then s n k.entry x in
      let next = record_pushed s w d unlimited order in
      let room : refusal (entries_in s (counts_in d)) d (record_size w) ≡ None = room_left (entries_in s (counts_in d)) (record_size w) d unlimited (omega arith) in
      let pushed : carries s b n k d ≡ Ok (pushed_record s w d) =
      ap (λ o. carries_data s b n k.entry o d) e ∙ (ap (λ z. if z then Ok d else adds s w d) kept ∙ ap (λ o. unless o (pushed_record s w d)) room) in
      let there : (carries s b n k d >> each (carries s b n) items) ≡ each (carries s b n) items (pushed_record s w d) = ap (λ o. o >> each (carries s b n) items) pushed in
      let writable = then_writable s n k.entry x (read_writable k x e sound.writable) in
      let held = draft_laws.record_holds s w d c writable order (λ full. omega arith) h in
      elim (behind (pushed_record s w d) (with_record s w c) next.unlimited next.order (omega (arith, next.entries)) held) [
        | inl stop ↦ inl (later_stops k items _ _ there stop)
        | inr a ↦ inr (in_front k x items (with_record s w c) _ e sound a _ there c
            (subst (λ z. Holds a.draft (with_all s (if z then given s b n a.written else w ∷ given s b n a.written) c)) (sym kept) (one_added s w (given s b n a.written) a.draft c a.holds)))
      ]

  dropping : (k : Known) (items : List (Result Known ParseError)) (d : Draft) (c : Contents) (x : Data) → k.says ≡ Some x → (b && is_signing k.entry.rtype) ≡ true → IsSound m k → Behind items
      → limit_of d ≡ None → HasNoneAfter s (counts_in d) → entries_in s (counts_in d) + (1 + length items) ≤ 65535 → Holds d c
      → Stopped (meanings_in (Ok k ∷ items)) (carries s b n k d >> each (carries s b n) items) ⊎ CarriesAll s b n (Ok k ∷ items) c (carries s b n k d >> each (carries s b n) items)
  dropping k items d c x e left sound behind unlimited order few h =
      let w : Written = written_then s n k.entry x in
      let dropped : carries s b n k d ≡ Ok d = ap (λ o. carries_data s b n k.entry o d) e ∙ ap (λ z. if z then Ok d else adds s w d) left in
      let there : (carries s b n k d >> each (carries s b n) items) ≡ each (carries s b n) items d = ap (λ o. o >> each (carries s b n) items) dropped in
      elim (behind d c unlimited order (omega arith) h) [
        | inl stop ↦ inl (later_stops k items _ _ there stop)
        | inr a ↦ inr (in_front k x items c _ e sound a _ there c (subst (λ z. Holds a.draft (with_all s (if z then given s b n a.written else w ∷ given s b n a.written) c)) (sym left) a.holds))
      ]

  one_then : (k : Known) (items : List (Result Known ParseError)) (d : Draft) (c : Contents) → IsSound m k → Behind items
      → limit_of d ≡ None → HasNoneAfter s (counts_in d) → entries_in s (counts_in d) + (1 + length items) ≤ 65535 → Holds d c → (o : Option Data) → k.says ≡ o → (z : Bool) → (b && is_signing k.entry.rtype) ≡ z
      → Stopped (meanings_in (Ok k ∷ items)) (carries s b n k d >> each (carries s b n) items) ⊎ CarriesAll s b n (Ok k ∷ items) c (carries s b n k d >> each (carries s b n) items)
  one_then k items d c sound behind unlimited order few h None e z f = inl (record {
    error = record {};
    at = ap (λ o. carries_data s b n k.entry o d >> each (carries s b n) items) e;
    unread = none_of_items k items (λ ks f. means_none_here k ks e);
  })
  one_then k items d c sound behind unlimited order few h (Some x) e true f = dropping k items d c x e f sound behind unlimited order few h
  one_then k items d c sound behind unlimited order few h (Some x) e false f = pushing k items d c x e f sound behind unlimited order few h

  carrying : (items : List (Result Known ParseError)) → Each (IsSound m) items → Behind items
  carrying [] good d c unlimited order few h =
      inr (record { draft = d; done = refl; records = []; read = refl; written = []; mean = refl; comes = tt; unlimited = unlimited; order = order; holds = none_added s d c h })
  carrying (Err e ∷ items) good d c unlimited order few h = inl (record { error = e; at = refl; unread = refl })
  carrying (Ok k ∷ items) good d c unlimited order few h = one_then k items d c good.0 (carrying items good.1) unlimited order (omega arith) h k.says refl (b && is_signing k.entry.rtype) refl

-- sections

-- what the records of a section mean, where it and those before it are read by their types
abbrev pub section_means : Section → Octets → Option (List Written)
section_means s m = option_and_then meanings_in (section_items s m)

pub record CarriesSection (s : Section) (b : Bool) (n : Ttls) (m : Octets) (c : Contents) (o : Copied) : Type 0 where
  pub items : List (Result Known ParseError)
  pub are : section_items s m ≡ Some items
  pub all : CarriesAll s b n items c o

record_sound : (m : Octets) → AreOctets m → (at end : ℕ) (k : Known) → record_at m at ≡ Some (k, end) → IsSound m k
record_sound m octets at end k e = record { writable = record_writable m at end k octets e; lies = record_lies m at end k e }

section_carries : (s : Section) (b : Bool) (n : Ttls) (m : Octets) (d : Draft) (c : Contents) → AreOctets m → limit_of d ≡ None → HasNoneAfter s (counts_in d) → entries_in s (counts_in d) ≡ 0 → Holds d c
    → Stopped (section_means s m) (carries_section s b n m d) ⊎ CarriesSection s b n m c (carries_section s b n m d)
section_carries s b n m d c octets unlimited order empty h = found (section_items s m) refl
  where
    found : (o : Option (List (Result Known ParseError))) → section_items s m ≡ o → Stopped (option_and_then meanings_in o) (carries_found s b n o d) ⊎ CarriesSection s b n m c (carries_found s b n o d)
    found None e = inl (record { error = record {}; at = refl; unread = refl })
    found (Some items) e =
        elim (carrying s b n m items (section_good (IsSound m) m (record_sound m octets) s items e) d c unlimited order (omega (arith, empty, section_few s m items octets e)) h) [
          | inl stop ↦ inl stop
          | inr all ↦ inr (record { items = items; are = e; all = all })
        ]

-- the whole message

-- a section whose records are read by their types
pub record Means (s : Section) (m : Octets) : Type 0 where
  pub records : List Known
  pub read : option_and_then all_read (section_items s m) ≡ Some records
  pub written : List Written
  pub mean : meanings_of records ≡ Some written
  pub comes : AllByRecursion (λ (w : Written). Comes w.rtype w.content) written

abbrev means_of : (s : Section) (b : Bool) (n : Ttls) (m : Octets) (c : Contents) (o : Copied) → CarriesSection s b n m c o → Means s m
means_of s b n m c o x = record {
  records = x.all.records;
  read = ap (option_and_then all_read) x.are ∙ x.all.read;
  written = x.all.written;
  mean = x.all.mean;
  comes = x.all.comes;
}

-- all is read, and given
pub record AllCarried (name : Labels) (b : Bool) (n : Ttls) (m : Octets) (o : Copied) : Type 0 where
  pub draft : Draft
  pub done : o ≡ Ok draft
  pub questions : List Asked
  pub asked : all_read (question_items m) ≡ Some questions
  pub answer : Means Answer m
  pub authority : Means Authority m
  pub additional : Means Additional m
  pub holds : Holds draft (record {
    questions = map (with_name name) questions;
    answer = given Answer b n answer.written;
    authority = given Authority b n authority.written;
    additional = given Additional b n additional.written;
  })

-- a part that is not read
pub data Unread (m : Octets) : Type 0 where
  UnreadQuestions : all_read (question_items m) ≡ None → Unread m
  UnreadSection : (s : Section) → section_means s m ≡ None → Unread m

pub record NotCarried (m : Octets) (o : Copied) : Type 0 where
  pub error : ParseError
  pub at : o ≡ Err (Parse error)
  pub unread : Unread m

fresh_order : HasNoRecords (counts_in (fresh None))
fresh_order = subst HasNoRecords (sym (draft_steps.counts.fresh None)) (refl, refl, refl)

fresh_empty : (counts_in (fresh None)).questions ≡ 0
fresh_empty = ap (λ (n : Counts). n.questions) (draft_steps.counts.fresh None)

questions_few : (m : Octets) → AreOctets m → length (question_items m) ≤ 65535
questions_few m octets = omega (arith, items_few (question_at m) (u16_at m 4) 12, number_small m 4 octets)

pub carrying_all : (name : Labels) (b : Bool) (n : Ttls) (m : Octets) → IsLegal name → AreOctets m → NotCarried m (carries_all name b n m (fresh None)) ⊎ AllCarried name b n m (carries_all name b n m (fresh None))
carrying_all name b n m legal octets =
    elim (asking name (question_items m) (fresh None) no_contents legal (items_good IsAskable (question_at m) (λ at end q e. question_askable m at end q octets e) (u16_at m 4) 12)
    (draft_steps.limits.fresh None) fresh_order (omega (arith, fresh_empty, questions_few m octets)) (draft_laws.holds_nothing None)) [
      | inl stop ↦ inl (record { error = stop.error; at = ap (λ o. o >> carries_section Answer b n m >> carries_section Authority b n m >> carries_section Additional b n m) stop.at; unread = UnreadQuestions stop.unread })
      | inr q ↦
          let c1 : Contents = record no_contents { questions = map (with_name name) q.questions } in
          let first : carries_all name b n m (fresh None) ≡ (carries_section Answer b n m q.draft >> carries_section Authority b n m >> carries_section Additional b n m) =
          ap (λ o. o >> carries_section Answer b n m >> carries_section Authority b n m >> carries_section Additional b n m) q.done in
          elim (section_carries Answer b n m q.draft c1 octets q.unlimited (q.order.1, q.order.2) q.order.0 q.holds) [
            | inl stop ↦ inl (record { error = stop.error; at = first ∙ ap (λ o. o >> carries_section Authority b n m >> carries_section Additional b n m) stop.at; unread = UnreadSection Answer stop.unread })
            | inr a ↦
                let c2 : Contents = record c1 { answer = given Answer b n a.all.written } in
                let second : carries_all name b n m (fresh None) ≡ (carries_section Authority b n m a.all.draft >> carries_section Additional b n m) =
                first ∙ ap (λ o. o >> carries_section Authority b n m >> carries_section Additional b n m) a.all.done in
                elim (section_carries Authority b n m a.all.draft c2 octets a.all.unlimited a.all.order.1 a.all.order.0 a.all.holds) [
                  | inl stop ↦ inl (record { error = stop.error; at = second ∙ ap (λ o. o >> carries_section Additional b n m) stop.at; unread = UnreadSection Authority stop.unread })
                  | inr u ↦
                      let c3 : Contents = record c2 { authority = given Authority b n u.all.written } in
                      let third : carries_all name b n m (fresh None) ≡ carries_section Additional b n m u.all.draft = second ∙ ap (λ o. o >> carries_section Additional b n m) u.all.done in
                      elim (section_carries Additional b n m u.all.draft c3 octets u.all.unlimited tt u.all.order u.all.holds) [
                        | inl stop ↦ inl (record { error = stop.error; at = third ∙ stop.at; unread = UnreadSection Additional stop.unread })
                        | inr d ↦ inr (record {
                          draft = d.all.draft;
                          done = third ∙ d.all.done;
                          questions = q.questions;
                          asked = q.read;
                          answer = means_of Answer b n m c1 _ a;
                          authority = means_of Authority b n m c2 _ u;
                          additional = means_of Additional b n m c3 _ d;
                          holds = d.all.holds;
                        })
                      ]
                ]
          ]
    ]
