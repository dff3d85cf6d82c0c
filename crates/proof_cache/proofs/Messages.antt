-- What is written of a kept message is a message again.
use Rattle.std.proofs.Common.{◌≡◌, ℕ, zero, suc, ◌-◌, ◌<◌, Bool, true, false, List, [], ◌∷◌, length, refl, subst, arith, ◌&&◌}
use Rattle.std.specs.Prelude.{Option, Some, None, IfSome, Result, Ok, Err, bit_and, not, if◌then◌else◌, slice_index, slice_set}
use Rattle.std.proofs.lemmas.Nat.{and_le_r}
use Rattle.dns_values.specs.declared.error.ParseError.{ParseError}
use Rattle.dns_values.specs.declared.numbers.Section.{Section}
use Rattle.dns_values.specs.declared.numbers.Section.TheVariants.{Answer, Authority, Additional}
use Rattle.dns_names.specs.Name.{Labels, IsLegal, AreOctets, spelling}
use Rattle.dns_base.specs.declared.push_error.PushError.{PushError}
use Rattle.dns_base.specs.Header.{with_flag, with_aa}
use Rattle.dns_base.specs.Data.{Data, data_spelling}
use Rattle.dns_base.specs.Message.{Asked, Entry, Known, header_of}
use Rattle.dns_base.specs.Answering.{question_items}
use Rattle.dns_base.specs.Draft.{Draft, fresh, with_header, finished, pushed_question, pushed_record}
use Rattle.client_request.specs.declared.error.CopyRecordsError.{CopyRecordsError}
use Rattle.client_request.specs.declared.error.CopyRecordsError.TheVariants.{Parse, Push}
use Rattle.client_request.specs.Composed.{Copied, ◌>>◌, unless, adds, each, section_items, message_of}
use Rattle.right_trace.specs.Messages.{Octets}
use Rattle.right_trace.specs.Keys.{FlagClass, is_plain, is_signing}
use Rattle.right_trace.specs.Views.{with_name}
use Rattle.cache_rules.specs.Viewing.{header_between, written_then, asks_under, carries_data, carries, carries_found, carries_section, carries_all, carried, octets_by}
use Rattle.cache_rules.specs.declared.copying.Ttls.{Ttls}
use Rattle.cache_rules.proofs.Carrying.{Each, section_good}
use Rattle.proof_cache.specs.Standing.{IsMessage}
use Rattle.proof_cache.proofs.Octets.{OfOctets, by_index, at_index, taken}
use Rattle.proof_cache.proofs.ReadOctets.{ReadsSpelled, record_reads, name_spelled}
use Rattle.proof_cache.proofs.WrittenOctets.{HoldsOctets, fresh_octets, question_octets, record_octets, finished_octets, finished_long}

-- ---- headers

-- octets, as a message is said to be of them
abbrev pub AreBytes : List ℕ → Type 0
AreBytes h = (i : ℕ) → slice_index h i < 256

set_octets : (xs : List ℕ) (i x : ℕ) → x < 256 → OfOctets xs → OfOctets (slice_set xs i x)
set_octets [] i x few h = tt
set_octets (y ∷ ys) zero x few h = (few, h.1)
set_octets (y ∷ ys) (suc i) x few h = (h.0, set_octets ys i x few h.1)

-- a flag is cleared
cleared : (place bit : ℕ) (h : List ℕ) → OfOctets h → OfOctets (with_flag place bit false h)
cleared place bit h octets = set_octets h place (bit_and (slice_index h place) (255 - bit)) (omega (arith, and_le_r (slice_index h place) (255 - bit))) octets

cleared_if : (b : Bool) (place bit : ℕ) (h : List ℕ) → OfOctets h → OfOctets (if b then with_flag place bit false h else h)
cleared_if true place bit h octets = cleared place bit h octets
cleared_if false place bit h octets = octets

-- as it is given to a request of others
pub between_octets : (from to : FlagClass) (b : Bool) (h : List ℕ) → AreBytes h → AreBytes (header_between from to b h)
between_octets from to b h bytes = at_index _ (cleared_if b 2 1 _ (cleared_if (is_plain to && not (is_plain from)) 3 32 _ (cleared 2 4 h (by_index h bytes))))

-- that of a message, without AA
pub first_header : (m : Octets) → IsMessage m → AreBytes (with_aa false (header_of m))
first_header m own = at_index (with_aa false (header_of m)) (cleared 2 4 (header_of m) (taken 4 m (by_index m own.octets)))

-- ---- entries

-- what is done with a draft of octets leaves one
abbrev Keeps : Copied → Type 0
Keeps o = (e : Draft) → o ≡ Ok e → HoldsOctets e

done : (d : Draft) → HoldsOctets d → Keeps (Ok d)
done d h e is = let same : d ≡ e = cc in subst HoldsOctets same h

stopped : (x : CopyRecordsError) → Keeps (Err x)
stopped x e is = absurd cc

unless_refused : (o : Option PushError) (d : Draft) → HoldsOctets d → Keeps (unless o d)
unless_refused None d h = done d h
unless_refused (Some x) d h = stopped (Push x)

after : (a : Copied) (next : Draft → Copied) → Keeps a → ((d : Draft) → HoldsOctets d → Keeps (next d)) → Keeps (a >> next)
after (Ok d) next h f = f d (h d refl)
after (Err x) next h f = stopped x

module _ {A : Type 0} (P : A → Type 0) (one : A → Draft → Copied) (good : (x : A) (d : Draft) → P x → HoldsOctets d → Keeps (one x d)) where
  each_keeps : (items : List (Result A ParseError)) (d : Draft) → Each P items → HoldsOctets d → Keeps (each one items d)
  each_keeps [] d all h = done d h
  each_keeps (Ok x ∷ items) d all h = after (one x d) (each one items) (good x d all.0 h) (λ e. each_keeps items e all.1)
  each_keeps (Err x ∷ items) d all h = stopped (Parse x)

module _ (name : Labels) (spelled : OfOctets (spelling name)) (b : Bool) (n : Ttls) (m : Octets) (octets : OfOctets m) where
  asked : (q : Asked) (d : Draft) → HoldsOctets d → Keeps (asks_under name q d)
  asked q d h = unless_refused _ (pushed_question (with_name name q) d) (question_octets (with_name name q) d h spelled)

  data_carried : (s : Section) (e : Entry) (o : Option Data) (d : Draft) → OfOctets (spelling e.owner) → IfSome o (λ x. OfOctets (data_spelling x)) → HoldsOctets d → Keeps (carries_data s b n e o d)
  data_carried s e None d owner content h = stopped (Parse (record {}))
  data_carried s e (Some x) d owner content h = go (b && is_signing e.rtype)
    where
      go : (z : Bool) → Keeps (if z then Ok d else adds s (written_then s n e x) d)
      go true = done d h
      go false = unless_refused _ (pushed_record s (written_then s n e x) d) (record_octets s (written_then s n e x) d h (record { owner = owner; content = content }))

  section_carried : (s : Section) (d : Draft) → HoldsOctets d → Keeps (carries_section s b n m d)
  section_carried s d h = go (section_items s m) refl
    where
      go : (o : Option (List (Result Known ParseError))) → section_items s m ≡ o → Keeps (carries_found s b n o d)
      go None e = stopped (Parse (record {}))
      go (Some items) e =
          each_keeps (ReadsSpelled m octets) (carries s b n) (λ k d good. data_carried s k.entry k.says d good.owner good.content) items d
          (section_good (ReadsSpelled m octets) m (record_reads m octets) s items e) h

  all_carried : Keeps (carries_all name b n m (fresh None))
  all_carried =
      after _ _ (after _ _ (after _ _ (each_keeps (λ q. Unit {0}) (asks_under name) (λ q d good. asked q d) (question_items m) (fresh None) (any (question_items m)) (fresh_octets None))
      (section_carried Answer)) (section_carried Authority)) (section_carried Additional)
    where
      any : (items : List (Result Asked ParseError)) → Each (λ q. Unit {0}) items
      any [] = tt
      any (Ok x ∷ items) = (tt, any items)
      any (Err x ∷ items) = any items

-- ---- messages

-- What is written has twelve octets at least: the header, and four counts.
pub view_is_message : (header : List ℕ) (name : Labels) (b : Bool) (n : Ttls) (m y : Octets) → length header ≡ 4 → AreBytes header → IsLegal name → AreOctets name → IsMessage m → octets_by header name b n m ≡ Ok y → IsMessage y
unfolding octets_by carried
view_is_message header name b n m y four bytes legal octets own made = go (carries_all name b n m (fresh None)) refl made
  where
    go : (o : Copied) → carries_all name b n m (fresh None) ≡ o → message_of (o >> (λ all. Ok (with_header header all))) ≡ Ok y → IsMessage y
    go (Ok d) e f =
        let held = all_carried name (name_spelled name legal octets) b n m (by_index m own.octets) d e in
        let same : finished (with_header header d) ≡ y = cc in
        subst IsMessage same (record { octets = at_index _ (finished_octets header d (by_index header bytes) held); long = finished_long header d four })
    go (Err x) e f = absurd cc
