-- What is written of a zone, piece by piece.
use Rattle.std.proofs.Common.{◌≡◌, ◌≢◌, ℕ, ◌≤◌, ◌<◌, List, [], ◌∷◌, ◌++◌, length, take, drop, Bool, true, false, Option, None, Some, Result, Ok, Err, OnOk, refl, ap, sym, subst, ◌∙◌, append_assoc, append-nil, arith}
use Rattle.std.proofs.Math.Seq.{take-append_seam}
use Rattle.std.proofs.lemmas.List.{take-append-drop}
use Rattle.std.proofs.lemmas.List.Concat.{flat_map-append}
use Rattle.command_parts.specs.Ends.{IsBegun}
use Rattle.dns_values.specs.Sink.{with_octets}
use Rattle.dns_values.specs.Source.{Rose, last_count}
use Rattle.dns_values.specs.declared.sink.SinkFault.{SinkFault}
use Rattle.zone_fetch_run.specs.Lines.{BeginsZone, IsZoneText, WritesZone}
use Rattle.zone_records.specs.declared.record.ZoneRecord.{ZoneRecord}
use Rattle.zone_text.specs.Lines.{Writes, WritesFront}
use Rattle.zone_text.specs.Numbers.{numbers_text, record_line}

pub nil_right : (xs : List ℕ) → xs ++ [] ≡ xs
nil_right [] = refl
nil_right (x ∷ xs) = ap (λ (ys : List ℕ). x ∷ ys) (nil_right xs)

pub nothing_more : (held : Option (List ℕ)) → with_octets [] held ≡ held
nothing_more None = refl
nothing_more (Some xs) = ap Some (nil_right xs)

then_more : (xs ys : List ℕ) (held : Option (List ℕ)) → with_octets ys (with_octets xs held) ≡ with_octets (xs ++ ys) held
then_more xs ys None = refl
then_more xs ys (Some zs) = ap Some (append_assoc zs xs ys)

-- These octets were written behind those that were there, and with the lines of the records that are left they are those of all.
pub record WrittenSoFar (left all : List ZoneRecord) (start held : Option (List ℕ)) : Type 0 where
  pub done : List ℕ
  pub held_is : held ≡ with_octets done start
  pub whole : done ++ numbers_text left ≡ numbers_text all

pub none_yet : (left all : List ZoneRecord) (start : Option (List ℕ)) → left ≡ all → WrittenSoFar left all start start
none_yet left all start same = record { done = []; held_is = sym (nothing_more start); whole = ap numbers_text same }

-- the lines of a piece of them more
pub piece_more : (left piece rest all : List ZoneRecord) (start before after : Option (List ℕ)) → left ≡ piece ++ rest → after ≡ with_octets (numbers_text piece) before
    → WrittenSoFar left all start before → WrittenSoFar rest all start after
piece_more left piece rest all start before after is step h = record {
  done = h.done ++ numbers_text piece;
  held_is = step ∙ ap (with_octets (numbers_text piece)) h.held_is ∙ then_more h.done (numbers_text piece) start;
  whole =
      append_assoc h.done (numbers_text piece) (numbers_text rest)
      ∙ ap (λ (text : List ℕ). h.done ++ text) (sym (ap numbers_text is ∙ flat_map-append record_line piece rest)) ∙ h.whole;
}

-- none is left
pub all_written : (left all : List ZoneRecord) (start held : Option (List ℕ)) → length left ≡ 0 → WrittenSoFar left all start held → held ≡ with_octets (numbers_text all) start
all_written [] all start held none h = h.held_is ∙ ap (λ (text : List ℕ). with_octets text start) (sym (nil_right h.done) ∙ h.whole)
all_written (item ∷ left) all start held none h = absurd (omega arith)

first_of : (front behind all : List ℕ) → front ++ behind ≡ all → take (length front) all ≡ front
first_of front behind all is = ap (take (length front)) (sym is) ∙ take-append_seam front behind

begun_by : (done behind all : List ℕ) (start held : Option (List ℕ)) → held ≡ with_octets done start → done ++ behind ≡ all → IsBegun all start held
begun_by done behind all start held is whole = record { count = length done; written = is ∙ ap (λ (text : List ℕ). with_octets text start) (sym (first_of done behind all whole)) }

pub begun_so_far : (left all : List ZoneRecord) (start held : Option (List ℕ)) → WrittenSoFar left all start held → IsBegun (numbers_text all) start held
begun_so_far left all start held h = begun_by h.done (numbers_text left) (numbers_text all) start held h.held_is h.whole

-- and the first octets of the next piece
pub begun_in_piece : (left piece rest all : List ZoneRecord) (text : List ℕ) (start before after : Option (List ℕ)) → text ≡ numbers_text piece → left ≡ piece ++ rest
    → ((n : ℕ) × (after ≡ with_octets (take n text) before)) → WrittenSoFar left all start before → IsBegun (numbers_text all) start after
begun_in_piece left piece rest all text start before after text_is is front h =
    let first = take front.0 text in
    begun_by (h.done ++ first) (drop front.0 text ++ numbers_text rest) (numbers_text all) start after
    (front.1 ∙ ap (with_octets first) h.held_is ∙ then_more h.done first start)
    (append_assoc h.done first (drop front.0 text ++ numbers_text rest)
    ∙ ap (λ (xs : List ℕ). h.done ++ xs) (sym (append_assoc first (drop front.0 text) (numbers_text rest)) ∙ ap (λ (xs : List ℕ). xs ++ numbers_text rest) (take-append-drop front.0 text ∙ text_is))
    ∙ ap (λ (xs : List ℕ). h.done ++ xs) (sym (ap numbers_text is ∙ flat_map-append record_line piece rest)) ∙ h.whole)

pub begun_then : (line : List ℕ) (before mid after : Option (List ℕ)) → after ≡ mid → IsBegun line before mid → IsBegun line before after
begun_then line before mid after same h = subst (IsBegun line before) (sym same) h

pub rose_later : (a b c : ℕ) → a ≤ b → Rose b c → Rose a c
rose_later a b c h r = (let x : b ≤ c = r.0 in omega arith, λ e. above e)
  where
    above : a ≢ last_count → a < c
    above e = grind arith

-- ---- in either form

module _ (is_loaded : Bool) (records : List ZoneRecord) (before after : Option (List ℕ)) where
  pub writes_loaded : (r : Result (Unit {0}) SinkFault) → is_loaded ≡ true → OnOk r (Writes records before after) → OnOk r (WritesZone is_loaded records before after)
  writes_loaded (Ok u) is h = record { text = h.text; is_text = subst (λ (b : Bool). IsZoneText b records h.text) (sym is) h.is_text; written = h.after_is }
  writes_loaded (Err e) is h = h

  pub begins_loaded : is_loaded ≡ true → WritesFront records before after → BeginsZone is_loaded records before after
  begins_loaded is h = record {
    text = h.text;
    is_front = record { first = h.first; behind = h.behind; records_are = h.records_are; is_text = subst (λ (b : Bool). IsZoneText b h.first h.text) (sym is) h.is_text };
    begun = record { count = h.count; written = h.after_is };
  }

  in_numbers : is_loaded ≡ false → IsZoneText is_loaded records (numbers_text records)
  in_numbers is = subst (λ (b : Bool). IsZoneText b records (numbers_text records)) (sym is) refl

  pub writes_numbers : (r : Result (Unit {0}) SinkFault) → is_loaded ≡ false → OnOk r (after ≡ with_octets (numbers_text records) before) → OnOk r (WritesZone is_loaded records before after)
  writes_numbers (Ok u) is h = record { text = numbers_text records; is_text = in_numbers is; written = h }
  writes_numbers (Err e) is h = h

  pub begins_numbers : is_loaded ≡ false → IsBegun (numbers_text records) before after → BeginsZone is_loaded records before after
  begins_numbers is h = record {
    text = numbers_text records;
    is_front = record { first = records; behind = []; records_are = sym (append-nil records); is_text = in_numbers is };
    begun = h;
  }
