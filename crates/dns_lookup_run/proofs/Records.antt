-- What a lookup ends with that is recorded.
use Rattle.std.proofs.Common.{◌≡◌, ◌≢◌, ◌⊎◌, inl, inr, ℕ, ◌<◌, ◌≤◌, List, [], Option, String, Global, Ok, Err, ap, subst, arith}
use Rattle.client_request.specs.Words.{listed}
use Rattle.client_settings.specs.declared.settings.Settings.{Settings}
use Rattle.client_steps.specs.Whole.{Whole, started_with}
use Rattle.client_loop.specs.Asking.{scene}
use Rattle.dns_record.specs.Asking.{left_of}
use Rattle.dns_record.specs.Laws.{RecordLaw}
use Rattle.dns_record.specs.Recording.{IsRefused, Opening, Recorded, Recording, drawn, opening}
use Rattle.dns_record.specs.declared.ended.Refused.{Refused}
use Rattle.resolv_conf.specs.declared.conf.ResolvConf.{ResolvConf}
use Rattle.dns_values.specs.Source.{Rose}
use Rattle.dns_lookup_run.specs.Ends.{EndsTold, IsDone, IsOfAsking, TellsWhy}
use Rattle.dns_lookup_run.specs.Making.{IsMadeFor}
use Rattle.dns_lookup_run.specs.Recorded.{AskedEnd, IsRecordedFor, RecordedEnd, Recordings, asked, keeps_by, no_conf, no_memory, not_recorded, refused, unrecorded_line, words_ahead}
use Rattle.dns_lookup_run.specs.Sentences.{numbers_text, unwritten_text}
use Rattle.dns_lookup_run.specs.Worlds.{World, at_words, begun, client_for, said, settings_for}
use Rattle.dns_lookup_run.proofs.Endings.{rose_later}
use Rattle.dns_lookup_run.proofs.Making.{all_kept}
use Rattle.dns_lookup_run.proofs.Runs.{of_asking}
use Rattle.dns_lookup_words.specs.Words.{LookupGives}
use Rattle.dns_lookup_words.specs.declared.lookup.Lookup.{Lookup}
use Rattle.dns_lookup_words.specs.declared.wrong.Refusal.{Refusal}

-- what holds of the words that are drawn ahead, by their count: so many of them are not compared one by one
pub with_ahead : (P : List ℕ → Type 0) (words : ℕ → ℕ) (count : ℕ) → P (drawn count words) → count ≡ 4096 → P (words_ahead words)
unfolding words_ahead
with_ahead P words count h is = subst P (ap (λ (n : ℕ). drawn n words) is) h

module _ {L R : Type 0} (held : L → Option (List ℕ)) (faults : L → ℕ) (kept : R → Option (List ℕ)) (file_faults : R → ℕ) (lookup : Lookup) (conf : ResolvConf) (status : ℕ) (before after : L) (first last : R) (old new : World)
    (settings : Settings) (set : settings ≡ settings_for lookup conf) where
  -- the client with these settings, and with what its record begins
  abbrev first_with : Settings → Whole
  first_with s = started_with s.transports s.redundant s.cache conf

  abbrev opening_with : Settings → Opening
  opening_with s = opening conf s.redundant s.cache s.transports (words_ahead old.words) (kept first)

  -- nothing can be recorded
  pub refused_end : (why : Refused) → IsRefused why conf settings.redundant settings.cache settings.transports (words_ahead old.words) (file_faults first) (file_faults last) → (status ≡ 8) ⊎ (status ≡ 6)
      → (status ≡ 8 → said held faults before after (unrecorded_line why)) → AskedEnd held faults kept file_faults lookup conf status before after first last old new
  refused_end why is (inl eight) told =
      not_recorded why (subst (λ (s : Settings). IsRefused why conf s.redundant s.cache s.transports (words_ahead old.words) (file_faults first) (file_faults last)) set is) (told eight) eight
  refused_end why is (inr six) told = no_memory six

  -- it is asked, and recorded
  recorded_for : (r s : Recording) (middle : R) → r.words ≡ words_ahead old.words → Recorded (opening_with settings) [] (kept middle) r (first_with settings) → RecordLaw
      → IsMadeFor (keeps_by kept) lookup conf (record { recorder = r; sink = middle }) (record { recorder = s; sink = last }) (at_words (left_of r) old) (at_words (left_of s) new)
      → IsRecordedFor kept lookup conf (words_ahead old.words) r s first middle last (at_words (listed (words_ahead old.words)) old) (at_words (left_of s) new)
  recorded_for r s middle words begins law made =
      let start : World = at_words (listed (words_ahead old.words)) old in
      let end : World = at_words (left_of s) new in
      let m : IsMadeFor (keeps_by kept) lookup conf (record { recorder = r; sink = middle }) (record { recorder = s; sink = last }) start end =
      subst (λ (ws : List ℕ). IsMadeFor (keeps_by kept) lookup conf (record { recorder = r; sink = middle }) (record { recorder = s; sink = last }) (at_words (listed ws) old) end) words made in
      let o = opening_with (settings_for lookup conf) in
      let b : Recorded o [] (kept middle) r (client_for lookup conf) = subst (λ (s : Settings). Recorded (opening_with s) [] (kept middle) r (first_with s)) set begins in
      let all : Recorded o m.rows (kept last) s m.left =
      all_kept kept 0 m.asks m.answers m.rows (record { recorder = r; sink = middle }) (record { recorder = s; sink = last }) (begun lookup conf start m.waits)
      (scene m.left end.words end.deeds m.later_waits end.polls end.moments) m.are_made o [] b in
      record { made = m; has = law o m.rows (kept last) s.words s.size s.ended m.left all }

  pub asked_end : (r : Recording) (middle : R) (end : Recordings R) → end.sink ≡ last → r.words ≡ words_ahead old.words
      → Recorded (opening_with settings) [] (kept middle) r (first_with settings) → RecordLaw → IsOfAsking status
      → EndsTold held faults lookup conf status before after (at_words (left_of r) old) (at_words (left_of end.recorder) new)
      → (status ≡ 0 → held after ≡ held before) → (status ≡ 4 → said held faults before after unwritten_text) → (status ≡ 7 → said held faults before after numbers_text)
      → (status ≢ 6 → status ≢ 7 → IsMadeFor (keeps_by kept) lookup conf (record { recorder = r; sink = middle }) end (at_words (left_of r) old) (at_words (left_of end.recorder) new))
      → AskedEnd held faults kept file_faults lookup conf status before after first last old new
  asked_end r middle end same words begins law of ends quiet unwritten stops made =
      let last_is : record { recorder = end.recorder; sink = end.sink } ≡ record { recorder = end.recorder; sink = last } = ap (λ (k : R). record { recorder = end.recorder; sink = k }) same in
      asked r end.recorder middle of
      (subst (λ (ws : List ℕ). EndsTold held faults lookup conf status before after (at_words (listed ws) old) (at_words (left_of end.recorder) new)) words ends)
      (record { quiet = quiet; unwritten = unwritten; stops = stops })
      (λ no_six no_seven. recorded_for r end.recorder middle words begins law
      (subst (λ (b : Recordings R). IsMadeFor (keeps_by kept) lookup conf (record { recorder = r; sink = middle }) b (at_words (left_of r) old) (at_words (left_of end.recorder) new)) last_is (made no_six no_seven)))

-- the statuses of it
pub of_recorded : (n : ℕ) → IsOfAsking n ⊎ (n ≡ 8) → (n ≢ 1) × (n < 12)
of_recorded n (inl of) = ((of_asking n of).0.0, (of_asking n of).0.2)
of_recorded n (inr e) = (λ h. omega (arith, e, h), omega (arith, e))

module _ {L R : Type 0} (held : L → Option (List ℕ)) (faults : L → ℕ) (kept : R → Option (List ℕ)) (file_faults : R → ℕ) (words : List (String Global)) (told : Option (List ℕ)) (status : ℕ) (before after : L) (first last : R) (old new : World) where
  pub refused_ends : (refusal : Refusal) → LookupGives words (Err refusal) → (status ≡ 2) ⊎ (status ≡ 6) → RecordedEnd held faults kept file_faults words told status before after first last old new
  refused_ends refusal judged (inl two) = refused refusal judged two
  refused_ends refusal judged (inr six) = no_memory six

  pub conf_ends : (lookup : Lookup) → LookupGives words (Ok lookup) → (status ≡ 3) ⊎ (status ≡ 6) → RecordedEnd held faults kept file_faults words told status before after first last old new
  conf_ends lookup judged (inl three) = no_conf lookup judged three
  conf_ends lookup judged (inr six) = no_memory six

-- the statuses of a refusal
pub refused_status : (n : ℕ) → (n ≡ 8) ⊎ (n ≡ 6) → IsOfAsking n ⊎ (n ≡ 8)
refused_status n (inl eight) = inr eight
refused_status n (inr six) = inl (inl (inr (inr (inr (inl six)))))

-- and at no other status is it
pub told_only : (n one other : ℕ) (P : Type 0) → (n ≡ one) ⊎ (n ≡ 6) → one ≢ other → 6 ≢ other → n ≡ other → P
told_only n one other P (inl is) not_one not_six same = absurd (omega arith)
told_only n one other P (inr six) not_one not_six same = absurd (omega arith)

-- a refusal is no end of an asking
pub told_done : (n : ℕ) (P : Type 0) → (n ≡ 8) ⊎ (n ≡ 6) → IsDone n → P
told_done n P (inl is) (inl e) = absurd (omega (arith, is, e))
told_done n P (inl is) (inr (inl e)) = absurd (omega (arith, is, e))
told_done n P (inl is) (inr (inr (inl e))) = absurd (omega (arith, is, e))
told_done n P (inl is) (inr (inr (inr e))) = absurd (omega (arith, is, e))
told_done n P (inr is) (inl e) = absurd (omega (arith, is, e))
told_done n P (inr is) (inr (inl e)) = absurd (omega (arith, is, e))
told_done n P (inr is) (inr (inr (inl e))) = absurd (omega (arith, is, e))
told_done n P (inr is) (inr (inr (inr e))) = absurd (omega (arith, is, e))

-- where memory ran out no sentence is owed
no_sentence : (n : ℕ) → n ≡ 6 → TellsWhy n ⊎ (n ≡ 8) → ⊥
no_sentence n six (inl (inl two)) = omega arith
no_sentence n six (inl (inr (inl three))) = omega arith
no_sentence n six (inl (inr (inr (inl four)))) = omega arith
no_sentence n six (inl (inr (inr (inr (inl five))))) = omega arith
no_sentence n six (inl (inr (inr (inr (inr (inl seven)))))) = omega arith
no_sentence n six (inl (inr (inr (inr (inr (inr (inl nine))))))) = omega arith
no_sentence n six (inl (inr (inr (inr (inr (inr (inr (inl ten)))))))) = omega arith
no_sentence n six (inl (inr (inr (inr (inr (inr (inr (inr eleven)))))))) = omega arith
no_sentence n six (inr eight) = omega arith

-- a sentence that is told at one status is handed on
pub told_flushed : (n one : ℕ) (P : Type 0) → (n ≡ one) ⊎ (n ≡ 6) → (n ≡ one → P) → TellsWhy n ⊎ (n ≡ 8) → P
told_flushed n one P (inl is) flushed why = flushed is
told_flushed n one P (inr six) flushed why = absurd (no_sentence n six why)

-- an asking does not end as one that can't be recorded
pub not_eight : (n : ℕ) → IsOfAsking n → n ≢ 8
not_eight n of = (of_asking n of).0.1

-- the sentence of an asking is handed on
pub asking_flushed : (n : ℕ) (P : Type 0) → IsOfAsking n → (TellsWhy n → P) → TellsWhy n ⊎ (n ≡ 8) → P
asking_flushed n P of flushed (inl why) = flushed why
asking_flushed n P of flushed (inr eight) = absurd (not_eight n of eight)

-- the same behind another sentence
pub flushed_later : (a b c : ℕ) (P : Type 0) → a ≤ b → P ⊎ Rose b c → P ⊎ Rose a c
flushed_later a b c P count (inl flushed) = inl flushed
flushed_later a b c P count (inr rose) = inr (rose_later a b c count rose)
