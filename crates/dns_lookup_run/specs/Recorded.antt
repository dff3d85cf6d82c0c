-- What a lookup ends with that is recorded.
use Rattle.std.specs.Prelude.{◌≡◌, ◌≢◌, ◌⊎◌, ℕ, List, ◌++◌, Option, String, Ok, Err, codes}
use Rattle.std.specs.Fmt.{decimal}
use Rattle.std.specs.declared.alloc.Global.{Global}
use Rattle.client_request.specs.Words.{listed}
use Rattle.client_request.specs.declared.event.Row.{Row}
use Rattle.client_settings.specs.Settings.{default_cache}
use Rattle.client_steps.specs.Whole.{Whole}
use Rattle.dns_record.specs.Asking.{left_of}
use Rattle.dns_record.specs.Recording.{HasEnded, IsRefused, Keeps, Recording, drawn, opening}
use Rattle.dns_record.specs.Sentences.{ended_text, refused_text}
use Rattle.dns_record.specs.declared.ended.Ended.{Ended}
use Rattle.dns_record.specs.declared.ended.Refused.{Refused}
use Rattle.resolver_policy.specs.Practice.{practical_choice}
use Rattle.resolver_policy.specs.declared.found.Found.{Found}
use Rattle.resolv_conf.specs.declared.conf.ResolvConf.{ResolvConf}
use Rattle.dns_lookup_run.specs.Conf.{IsConfOf}
use Rattle.dns_lookup_run.specs.Ends.{EndsTold, IsOfAsking, IsToldSo, TellsWhy}
use Rattle.dns_lookup_run.specs.Making.{IsMadeFor}
use Rattle.dns_lookup_run.specs.Reports.{notes_text}
use Rattle.dns_lookup_run.specs.Worlds.{World, at_words, said, transports_for}
use Rattle.dns_lookup_run.specs.declared.recorded.Recorded.{Recorded}
use Rattle.dns_lookup_words.specs.Words.{LookupGives}
use Rattle.dns_lookup_words.specs.declared.lookup.Lookup.{Lookup}
use Rattle.dns_lookup_words.specs.declared.wrong.Refusal.{Refusal}

-- the words that are drawn ahead and stand in the record
unfoldable pub words_ahead : (ℕ → ℕ) → List ℕ
words_ahead words = drawn 4096 words

-- a recorder and its sink
pub record Recordings (R : Type 0) : Type 0 where
  pub recorder : Recording
  pub sink : R

-- rows are recorded, where this is what a sink holds
abbrev pub keeps_by : {R : Type 0} → (R → Option (List ℕ)) → Recordings R → Whole → List Row → Recordings R → Whole → Type 0
keeps_by kept a client rows b moved = Keeps rows (kept a.sink) a.recorder client (kept b.sink) b.recorder moved

-- a sentence tells why it ended so
abbrev pub IsTold : (status : ℕ) → Type 0
IsTold status = TellsWhy status ⊎ (status ≡ 8)

abbrev pub unrecorded_line : Refused → List ℕ
unrecorded_line refused = codes "dns_lookup: nothing is recorded: " ++ (refused_text refused ++ codes "\n")

abbrev pub ended_line : Ended → ℕ → List ℕ
ended_line ended lost = codes "dns_lookup: the record ended: " ++ (ended_text ended ++ (codes "; events behind it: " ++ (decimal lost ++ codes "\n")))

-- What a client put out that was asked the first asks of a lookup, and the sink holds the record of the first of these rows.
pub record IsRecordedFor {R : Type 0} (kept : R → Option (List ℕ)) (lookup : Lookup) (conf : ResolvConf) (words : List ℕ) (r s : Recording) (first middle last : R) (old new : World) : Type 0 where
  pub made : IsMadeFor (keeps_by kept) lookup conf (record { recorder = r; sink = middle }) (record { recorder = s; sink = last }) old new
  pub has : HasEnded (opening conf practical_choice default_cache (transports_for lookup conf) words (kept first)) made.rows (kept last)

-- What it ends with to ask a lookup with 4096 words that come first: nothing can be recorded and it is told why, or it is asked as ever with these
-- words, and recorded.
pub data AskedEnd {L R : Type 0} (held : L → Option (List ℕ)) (faults : L → ℕ) (kept : R → Option (List ℕ)) (file_faults : R → ℕ) (lookup : Lookup) (conf : ResolvConf) (status : ℕ) (before after : L) (first last : R) (old new : World) : Type 0 where
  no_memory : status ≡ 6 → AskedEnd held faults kept file_faults lookup conf status before after first last old new
  not_recorded : (why : Refused) → IsRefused why conf practical_choice default_cache (transports_for lookup conf) (words_ahead old.words) (file_faults first) (file_faults last)
      → said held faults before after (unrecorded_line why) → status ≡ 8 → AskedEnd held faults kept file_faults lookup conf status before after first last old new
  asked : (r s : Recording) (middle : R) → IsOfAsking status
      → EndsTold held faults lookup conf status before after (at_words (listed (words_ahead old.words)) old) (at_words (left_of s) new) → IsToldSo held faults status before after
      → (status ≢ 6 → status ≢ 7 → IsRecordedFor kept lookup conf (words_ahead old.words) r s first middle last (at_words (listed (words_ahead old.words)) old) (at_words (left_of s) new))
      → AskedEnd held faults kept file_faults lookup conf status before after first last old new

-- the same of how it ended
abbrev pub AsksTo : {L R : Type 0} → (L → Option (List ℕ)) → (L → ℕ) → (R → Option (List ℕ)) → (R → ℕ) → Lookup → ResolvConf → (before after : L) → R → Recorded R → (old new : World) → Type 0
AsksTo held faults kept file_faults lookup conf before after first r old new = AskedEnd held faults kept file_faults lookup conf r.status.0 before after first r.sink old new

-- What words end with: they are refused, or a lookup whose configuration can't be had, or that is recorded, once it was told of which lines of the configuration were
-- not taken as they stand.
pub data RecordedEnd {L R : Type 0} (held : L → Option (List ℕ)) (faults : L → ℕ) (kept : R → Option (List ℕ)) (file_faults : R → ℕ) (words : List (String Global)) (told : Option (List ℕ)) (status : ℕ) (before after : L) (first last : R) (old new : World) : Type 0 where
  no_memory : status ≡ 6 → RecordedEnd held faults kept file_faults words told status before after first last old new
  refused : (refusal : Refusal) → LookupGives words (Err refusal) → status ≡ 2 → RecordedEnd held faults kept file_faults words told status before after first last old new
  no_conf : (lookup : Lookup) → LookupGives words (Ok lookup) → status ≡ 3 → RecordedEnd held faults kept file_faults words told status before after first last old new
  asked : (lookup : Lookup) (conf : Found) (left : ℕ → ℕ) (mid : L) → LookupGives words (Ok lookup) → IsConfOf lookup told old.words conf left
      → said held faults before mid (notes_text conf.notes) → AskedEnd held faults kept file_faults lookup conf.conf status mid after first last (at_words left old) new
      → RecordedEnd held faults kept file_faults words told status before after first last old new

abbrev pub Ran : {L R : Type 0} → (L → Option (List ℕ)) → (L → ℕ) → (R → Option (List ℕ)) → (R → ℕ) → List (String Global) → Option (List ℕ) → (before after : L) → R → Recorded R → (old new : World) → Type 0
Ran held faults kept file_faults words told before after first r old new = RecordedEnd held faults kept file_faults words told r.status.0 before after first r.sink old new
