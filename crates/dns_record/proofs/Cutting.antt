-- A record that is cut anywhere.
use Rattle.std.proofs.Common.{arith, ◌≡◌, ◌≤◌, ◌+◌, ◌-◌, ℕ, List, [], ◌∷◌, ◌++◌, length, length-append, take, Option, Some, None, refl, sym, ap, ◌∙◌, subst, append_assoc, append-nil}
use Rattle.std.specs.List.{AllByRecursion, flat_map}
use Rattle.std.specs.Prelude.{option_and_then, option_map}
use Rattle.std.proofs.lemmas.Grind.{flat_map-append}
use Rattle.std.proofs.lemmas.List.{map-append}
use Rattle.client_loop.proofs.Rows.{plain_of}
use Rattle.client_loop.specs.Turns.{events_of}
use Rattle.client_request.specs.Words.{listed}
use Rattle.client_request.specs.declared.event.Event.{Event}
use Rattle.client_request.specs.declared.event.Row.{Row}
use Rattle.client_steps.specs.Client.{plain_rows, row_step, then_rows}
use Rattle.client_steps.specs.Whole.{Client, Whole, client_with, machine, started_with}
use Rattle.dns_record.specs.Recording.{GoesOn, IsCutRecord, IsRecord, Opening, script_of_rows, text_of_rows, told_conf}
use Rattle.dns_record.proofs.Starting.{same_start}
use Rattle.dns_script.specs.Lines.{event_line}
use Rattle.script_printing.specs.CanBeTold.{IsEvent}
use Rattle.script_printing.specs.Texts.{head_text, script_of, script_text_of}
use Rattle.script_printing.proofs.Cuts.{CutLines, behind_head, cut_lines, first_in_range, first_told}
use Rattle.script_printing.proofs.EventLines.{event_plain, event_text}
use Rattle.script_printing.proofs.Plain.{IsPlain}
use Rattle.script_printing.proofs.Scripts.{scripts_are_read_back}

-- the first of the rows of the plain client
rows_before : (t : ℕ) (first later : List Row) (c : Client) → plain_rows machine t (events_of (first ++ later)) c ≡ Some (first ++ later) → plain_rows machine t (events_of first) c ≡ Some first
rows_before t [] later c h = refl
rows_before t (row ∷ first) later c h = by (row_step machine t row.event c) (rows_before t first later) h
  where
    one : (made : Row) (rest : Option (List Row)) → option_map (λ more. made ∷ more) rest ≡ Some (row ∷ (first ++ later)) → (made ≡ row) × (rest ≡ Some (first ++ later))
    one made None h = absurd cc
    one made (Some more) h = (cc, cc)

    by : (o : Option (Row × Client)) → ((d : Client) → plain_rows machine t (events_of (first ++ later)) d ≡ Some (first ++ later) → plain_rows machine t (events_of first) d ≡ Some first)
        → option_and_then (then_rows (plain_rows machine t (events_of (first ++ later)))) o ≡ Some (row ∷ (first ++ later))
        → option_and_then (then_rows (plain_rows machine t (events_of first))) o ≡ Some (row ∷ first)
    by None before h = absurd cc
    by (Some x) before h =
        let both : (x.0 ≡ row) × (plain_rows machine t (events_of (first ++ later)) x.1 ≡ Some (first ++ later)) = one x.0 (plain_rows machine t (events_of (first ++ later)) x.1) h in
        ap (λ (o : Option (List Row)). option_map (λ more. x.0 ∷ more) o) (before x.1 both.1) ∙ ap (λ (r : Row). Some (r ∷ first)) both.0

row_lines : (rows : List Row) → flat_map event_line (events_of rows) ≡ flat_map (λ row. event_line row.event) rows
row_lines [] = refl
row_lines (row ∷ rows) = ap (λ (t : List ℕ). event_line row.event ++ t) (row_lines rows)

rows_plain : (rows : List Row) → AllByRecursion IsEvent (events_of rows) → AllByRecursion (λ row. IsPlain (event_text row.event)) rows
rows_plain [] h = tt
rows_plain (row ∷ rows) h = (event_plain row.event h.0, rows_plain rows h.1)

module _ (o : Opening) where
  start : Client
  start = client_with (listed o.words) (started_with o.transports o.redundant o.cache o.conf)

  text_split : (rows first later : List Row) → events_of rows ≡ events_of first ++ events_of later → text_of_rows o rows ≡ text_of_rows o first ++ flat_map event_line (events_of later)
  text_split rows first later split =
      let head : List ℕ = head_text (told_conf o.conf) o.redundant o.cache o.transports o.words in
      ap (λ (es : List Event). script_text_of (script_of (told_conf o.conf) o.redundant o.cache o.transports o.words es)) split
      ∙ ap (λ (t : List ℕ). head ++ t) (flat_map-append event_line (events_of first) (events_of later))
      ∙ sym (append_assoc head (flat_map event_line (events_of first)) (flat_map event_line (events_of later)))

  -- the first of the rows that are recorded so far
  first_is_record : (rows first later : List Row) (held : Option (List ℕ)) (left : List ℕ) (size : ℕ) (client : Whole) → rows ≡ first ++ later → GoesOn o rows held left size client
      → IsRecord (text_of_rows o first) first
  unfolding start
  first_is_record rows first later held left size client all h =
      let t : ℕ = o.conf.options.timeout in
      let split : events_of rows ≡ events_of first ++ events_of later = ap events_of all ∙ map-append (λ (r : Row). r.event) first later in
      let longer : length (text_of_rows o rows) ≡ length (text_of_rows o first) + length (flat_map event_line (events_of later)) =
      ap length (text_split rows first later split) ∙ length-append (text_of_rows o first) (flat_map event_line (events_of later)) in
      let fits : size ≤ 16777216 = h.fits in
      let size_is : size ≡ length (text_of_rows o rows) = h.size_is in
      let whole : plain_rows machine t (events_of rows) start ≡ Some rows = plain_of t start (client_with (listed left) client) rows h.leads in
      let both : plain_rows machine t (events_of (first ++ later)) start ≡ Some (first ++ later) =
      subst (λ (rs : List Row). plain_rows machine t (events_of rs) start ≡ Some rs) all whole in
      record {
        script = script_of_rows o first;
        is_script =
            scripts_are_read_back (script_of_rows o first)
            (first_told (told_conf o.conf) o.redundant o.cache o.transports o.words (events_of rows) (events_of first) (events_of later) split h.told)
            (first_in_range (told_conf o.conf) o.redundant o.cache o.transports o.words (events_of rows) (events_of first) (events_of later) split h.range);
        fits = omega arith;
        replay =
            ap (λ (w : Whole). plain_rows machine t (events_of first) (client_with (listed o.words) w)) (same_start o.transports o.redundant o.cache o.conf h.alike)
            ∙ rows_before t first later start both;
      }

  pub cut_record : (rows : List Row) (held : Option (List ℕ)) (left : List ℕ) (size : ℕ) (client : Whole) (n : ℕ) → GoesOn o rows held left size client → length (text_of_rows o []) ≤ n
      → IsCutRecord o rows (take n (text_of_rows o rows))
  cut_record rows held left size client n h behind =
      let head : List ℕ = head_text (told_conf o.conf) o.redundant o.cache o.transports o.words in
      let more : length head ≤ n = subst (λ (t : List ℕ). length t ≤ n) (append-nil head) behind in
      let c : CutLines (λ row. event_line row.event) rows (take (n - length head) (flat_map (λ row. event_line row.event) rows)) =
      cut_lines (λ row. event_text row.event) rows (n - length head) (rows_plain rows h.range.events) in
      record {
        first = c.first;
        later = c.later;
        rows_are = c.all;
        rest = c.rest;
        octets_are =
            behind_head head (flat_map event_line (events_of rows)) n more
            ∙ ap (λ (t : List ℕ). head ++ take (n - length head) t) (row_lines rows)
            ∙ ap (λ (t : List ℕ). head ++ t) c.octets_are
            ∙ sym (append_assoc head (flat_map (λ row. event_line row.event) c.first) c.rest)
            ∙ ap (λ (t : List ℕ). (head ++ t) ++ c.rest) (sym (row_lines c.first));
        no_line = c.no_line;
        is_record = first_is_record rows c.first c.later held left size client c.all h;
      }
