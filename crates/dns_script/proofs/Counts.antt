-- What the rows before one are counted to, and that one.
use Rattle.std.proofs.Common.{◌≡◌, ℕ, ◌+◌, ◌<◌, List, [], ◌∷◌, Bool, true, length, take, drop, drop-cons, add-one, get_or, arith, ap, sym, refl, ◌∙◌}
use Rattle.std.specs.Prelude.{if◌then◌else◌}
use Rattle.std.proofs.lemmas.Grind.{common_steps}
use Rattle.std.specs.List.{count_by, sum_by}
use Rattle.std.proofs.lemmas.List.{drop_all, take_all}
use Rattle.std.proofs.lemmas.List.Sums.{sum_by_more}
use Rattle.client_request.specs.declared.event.Out.{Out}
use Rattle.client_request.specs.declared.event.Row.{Row}
use Rattle.dns_script.specs.Summary.{asks_of, closes, hits_at, hits_behind, is_ask, is_error, is_ok, is_ok_of, nothing_counted, opens_dgram, opens_stream, outs_by, summarized, with_outs, with_row}
use Rattle.dns_script.specs.declared.summary.Summary.{Summary}

count_more : (p : Out → Bool) (n : ℕ) (outs : List Out) (i : ℕ) (d : Out) → i < length outs
    → (n + count_by p (take i outs)) + count_by p (get_or outs i d ∷ []) ≡ n + count_by p (take (i + 1) outs)
count_more p n outs i d inside = grind (arith, common_steps)

same_counts : {a a' b b' c c' d d' e e' : ℕ} (s : Summary) → a ≡ a' → b ≡ b' → c ≡ c' → d ≡ d' → e ≡ e'
    → record s { ok = a; errors = b; dgram_opens = c; stream_opens = d; closes = e } ≡ record s { ok = a'; errors = b'; dgram_opens = c'; stream_opens = d'; closes = e' }
same_counts s p q r t u = λ i. record s { ok = p i; errors = q i; dgram_opens = r i; stream_opens = t i; closes = u i }

pub outs_more : (s : Summary) (outs : List Out) (i : ℕ) (d : Out) → i < length outs
    → with_outs (get_or outs i d ∷ []) (with_outs (take i outs) s) ≡ with_outs (take (i + 1) outs) s
outs_more s outs i d inside =
    same_counts s (count_more is_ok s.ok outs i d inside) (count_more is_error s.errors outs i d inside) (count_more opens_dgram s.dgram_opens outs i d inside)
    (count_more opens_stream s.stream_opens outs i d inside) (count_more closes s.closes outs i d inside)

abbrev summary : (asks ok errors rows dgram_opens stream_opens closes hits : ℕ) → Summary
summary asks ok errors rows dgram_opens stream_opens closes hits = record {
  asks = asks;
  ok = ok;
  errors = errors;
  rows = rows;
  dgram_opens = dgram_opens;
  stream_opens = stream_opens;
  closes = closes;
  hits = hits;
}

same_summary : {a a' b b' c c' d d' e e' f f' g g' h h' : ℕ} → a ≡ a' → b ≡ b' → c ≡ c' → d ≡ d' → e ≡ e' → f ≡ f' → g ≡ g' → h ≡ h'
    → summary a b c d e f g h ≡ summary a' b' c' d' e' f' g' h'
same_summary p q r t u v w x = λ i. summary (p i) (q i) (r i) (t i) (u i) (v i) (w i) (x i)

-- a row that asks, and one that does not
pub row_asked : (row : Row) (old s : Summary) (asks hits : ℕ) → is_ask row.event.what ≡ true → s ≡ with_outs row.outs (record old { rows = old.rows + 1 })
    → hits ≡ s.hits + count_by (is_ok_of s.asks) row.outs → asks ≡ s.asks + 1 → record s { asks = asks; hits = hits } ≡ with_row row old
row_asked row old s asks hits is counted more one =
    let once : asks_of row ≡ 1 = ap (λ (b : Bool). if b then 1 else 0) is in
    let found : hits_at old.asks row ≡ count_by (is_ok_of old.asks) row.outs = ap (λ (b : Bool). if b then count_by (is_ok_of old.asks) row.outs else 0) is in
    let before : s.asks ≡ old.asks = ap (λ (t : Summary). t.asks) counted in
    let held : s.hits ≡ old.hits = ap (λ (t : Summary). t.hits) counted in
    let those : count_by (is_ok_of s.asks) row.outs ≡ count_by (is_ok_of old.asks) row.outs = ap (λ n. count_by (is_ok_of n) row.outs) before in
    same_summary (omega arith) (ap (λ (t : Summary). t.ok) counted) (ap (λ (t : Summary). t.errors) counted) (ap (λ (t : Summary). t.rows) counted) (ap (λ (t : Summary). t.dgram_opens) counted)
    (ap (λ (t : Summary). t.stream_opens) counted) (ap (λ (t : Summary). t.closes) counted) (omega arith)

-- what the first rows are counted to
pub record HasCounted (all : List Row) (i : ℕ) (s : Summary) : Type 0 where
  pub asks : s.asks ≡ sum_by asks_of (take i all)
  pub ok : s.ok ≡ outs_by is_ok (take i all)
  pub errors : s.errors ≡ outs_by is_error (take i all)
  pub rows : s.rows ≡ i
  pub dgram_opens : s.dgram_opens ≡ outs_by opens_dgram (take i all)
  pub stream_opens : s.stream_opens ≡ outs_by opens_stream (take i all)
  pub closes : s.closes ≡ outs_by closes (take i all)
  pub hits : s.hits + hits_behind s.asks (drop i all) ≡ hits_behind 0 all

pub nothing_yet : (all : List Row) → HasCounted all 0 nothing_counted
nothing_yet all = record { asks = refl; ok = refl; errors = refl; rows = refl; dgram_opens = refl; stream_opens = refl; closes = refl; hits = omega arith }

drop_next : (all : List Row) (i : ℕ) (d : Row) → i < length all → drop i all ≡ get_or all i d ∷ drop (i + 1) all
drop_next all i d inside = drop-cons all i d inside ∙ ap (λ n. get_or all i d ∷ drop n all) (sym (add-one i))

pub row_more : (all : List Row) (i : ℕ) (s : Summary) (d : Row) → i < length all → HasCounted all i s → HasCounted all (i + 1) (with_row (get_or all i d) s)
row_more all i s d inside h = record {
  asks = omega (arith, sum_by_more asks_of all i d inside, h.asks);
  ok = omega (arith, sum_by_more (λ row. count_by is_ok row.outs) all i d inside, h.ok);
  errors = omega (arith, sum_by_more (λ row. count_by is_error row.outs) all i d inside, h.errors);
  rows = omega (arith, h.rows);
  dgram_opens = omega (arith, sum_by_more (λ row. count_by opens_dgram row.outs) all i d inside, h.dgram_opens);
  stream_opens = omega (arith, sum_by_more (λ row. count_by opens_stream row.outs) all i d inside, h.stream_opens);
  closes = omega (arith, sum_by_more (λ row. count_by closes row.outs) all i d inside, h.closes);
  hits =
      let next : hits_behind s.asks (drop i all) ≡ hits_at s.asks (get_or all i d) + hits_behind (s.asks + asks_of (get_or all i d)) (drop (i + 1) all) =
      ap (λ rows. hits_behind s.asks rows) (drop_next all i d inside) in
      omega (arith, h.hits);
}

pub all_counted : (all : List Row) (i : ℕ) (s : Summary) → i ≡ length all → HasCounted all i s → s ≡ summarized all
all_counted all i s is h =
    let whole : take i all ≡ all = take_all i all (omega (arith, is)) in
    let none : drop i all ≡ [] = drop_all i all (omega (arith, is)) in
    let hits : s.hits + hits_behind s.asks [] ≡ hits_behind 0 all = ap (λ rows. s.hits + hits_behind s.asks rows) (sym none) ∙ h.hits in
    same_summary (h.asks ∙ ap (λ rows. sum_by asks_of rows) whole) (h.ok ∙ ap (λ rows. outs_by is_ok rows) whole) (h.errors ∙ ap (λ rows. outs_by is_error rows) whole) (h.rows ∙ is)
    (h.dgram_opens ∙ ap (λ rows. outs_by opens_dgram rows) whole) (h.stream_opens ∙ ap (λ rows. outs_by opens_stream rows) whole) (h.closes ∙ ap (λ rows. outs_by closes rows) whole)
    (omega (arith, hits))
