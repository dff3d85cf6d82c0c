-- What is composed of simple records: the draft grows by their own octets.
use Rattle.std.proofs.Common.{◌≡◌, ℕ, zero, suc, ◌+◌, ◌<◌, ◌≤◌, List, [], ◌∷◌, ◌++◌, length, take, drop, refl, ap, sym, subst, ◌∙◌, arith, append_assoc, Bool, true, false, ◌==◌}
use Rattle.std.specs.Prelude.{Some, None, is_some, Ok, slice_range, slice_get, replicate, if◌then◌else◌}
use Rattle.std.specs.Option.{option_or}
use Rattle.std.specs.Int.{w16, to_be_bytes}
use Rattle.std.specs.Cmp.Lexicographic.{pointwise}
use Rattle.std.proofs.lemmas.Bool.{le-leb, eqb-true, not-true, false_from_ne_true}
use Rattle.std.proofs.lemmas.Bool.Decides.{Decides-eqb}
use Rattle.std.proofs.lemmas.List.{take-append-drop, length-take-le}
use Rattle.std.proofs.lemmas.List.Folds.{drop_split}
use Rattle.std.proofs.lemmas.Option.{slice_get-get_or}
use Rattle.std.proofs.lemmas.Slice.Eq.{slice_eq-Decides}
use Rattle.std.specs.Bool.{Decides}
use Rattle.dns_values.specs.declared.numbers.Section.{Section}
use Rattle.dns_values.specs.declared.numbers.Section.TheVariants.{Answer, Authority, Additional}
use Rattle.dns_names.proofs.Heads.{then_ok}
use Rattle.dns_names.proofs.NameLaws.{name_is_read, read_is_name}
use Rattle.dns_names.specs.Name.{Labels, IsLegal, at_pointer, lowered, name_at, octet_count, same_name, says_pointer, spelling}
use Rattle.dns_base.proofs.Lists.{list_step}
use Rattle.dns_base.proofs.Stands.{name_stands}
use Rattle.dns_base.specs.Compression.{Compressed, found_at, stands_at, with_record}
use Rattle.dns_base.specs.Data.{is_one_name, data_at}
use Rattle.dns_base.specs.Forms.{form_of}
use Rattle.dns_base.specs.Draft.{Draft, counts_in, pushed_record, refusal}
use Rattle.dns_base.specs.Header.{Counts}
use Rattle.dns_base.specs.Message.{Known, items_at, list_at, record_at}
use Rattle.dns_base.specs.Numbers.{u16_at, u32_at}
use Rattle.dns_base.specs.OptRecord.{first_opt, opt_in}
use Rattle.dns_base.specs.Sections.{entries_in, one_more_in}
use Rattle.client_request.proofs.Writable.{AreOctets}
use Rattle.client_request.specs.Composed.{Copied, ◌>>◌, copies, each, is_replaced, written_from}
use Rattle.front_queries.proofs.Copied.{IsSimple, means_simple, neither, data_copies, pointed, behind_owner, record_is}
use Rattle.front_queries.proofs.Pieces.{joined, range_long, u16_again, u32_again, two_range}
use Rattle.front_queries.specs.Simple.{is_copied, simple_end, simple_ends}

-- A name that has labels stands spelled out behind the header.
pub record Named (m : List ℕ) (name : Labels) : Type 0 where
  pub legal : IsLegal name
  pub some : 0 < length name
  pub is : slice_range m 12 (12 + octet_count name) ≡ spelling name
  pub octets : AreOctets m

-- octets of zero, and those of a message behind its header up to a place; the name behind the header can be pointed to
abbrev pub up_to : (m places : List ℕ) (p : ℕ) → Compressed
up_to m places p = record { octets = replicate 12 0 ++ slice_range m 12 p; places = 12 ∷ places }

abbrev pub drafted : (m : List ℕ) (counts : Counts) (places : List ℕ) (p : ℕ) → Draft
drafted m counts places p = record { target = up_to m places p; counts = counts; limit = None }

-- the name is read, and found

read_among : (m : List ℕ) (name : Labels) (p : ℕ) → Named m name → 12 + octet_count name ≤ p
    → name_at (replicate 12 0 ++ slice_range m 12 p) 12 ≡ Some (record { labels = name; end = 12 + octet_count name; pointers = 0 })
read_among m name p h behind =
    let e : ℕ = 12 + octet_count name in
    let is : slice_range m 12 p ≡ spelling name ++ slice_range m e p = sym (joined m 12 e p (omega arith) behind) ∙ ap (λ x. x ++ slice_range m e p) h.is in
    name_stands (replicate 12 0 ++ slice_range m 12 p) name 12
    (record { front = replicate 12 0; back = slice_range m e p; is = ap (λ x. replicate 12 0 ++ x) is; long = refl }) h.legal

pub read_here : (m : List ℕ) (name : Labels) → Named m name → 12 + octet_count name ≤ length m
    → name_at m 12 ≡ Some (record { labels = name; end = 12 + octet_count name; pointers = 0 })
read_here m name h within =
    let e : ℕ = 12 + octet_count name in
    let is : drop 12 m ≡ spelling name ++ drop e m = drop_split m 12 e (omega arith) ∙ ap (λ x. x ++ drop e m) h.is in
    name_stands m name 12
    (record { front = take 12 m; back = drop e m; is = sym (take-append-drop 12 m) ∙ ap (λ x. take 12 m ++ x) is; long = length-take-le 12 m (omega (arith, within)) }) h.legal

decides_labels : (a b : Labels) → Decides (pointwise (pointwise ◌==◌) a b) (a ≡ b)
decides_labels a b = slice_eq-Decides (λ (x y : List ℕ). slice_eq-Decides Decides-eqb x y (pointwise ◌==◌ x y) refl) a b (pointwise (pointwise ◌==◌) a b) refl

same_itself : (a : Labels) → same_name a a ≡ true
same_itself a = (decides_labels (lowered a) (lowered a)).1 refl

found_first : (m : List ℕ) (name : Labels) (places : List ℕ) (p : ℕ) → Named m name → 12 + octet_count name ≤ p
    → found_at (up_to m places p).octets (up_to m places p).places name ≡ Some 12
found_first m name places p h behind =
    let O : List ℕ = replicate 12 0 ++ slice_range m 12 p in
    let stands : stands_at O name 12 ≡ true = rw (read_among m name p h behind) (same_itself name) in
    ap (λ (t : Bool). if t then Some 12 else found_at O places name) stands

-- a simple record, as it is read
abbrev pub known_at : (m : List ℕ) (name : Labels) (p e : ℕ) → Known
known_at m name p e = record {
  entry = record { owner = name; rtype = u16_at m (p + 2); class = u16_at m (p + 2 + 2); ttl = u32_at m (p + 2 + 4); octets = slice_range m (p + 2 + 10) e };
  says = data_at (u16_at m (p + 2)) m (p + 2 + 10) e;
}

some_count : (labels : Labels) → 0 < octet_count labels
some_count [] = omega arith
some_count (label ∷ labels) = omega arith

pub record_read : (m : List ℕ) (name : Labels) (p e : ℕ) → Named m name → 12 + octet_count name ≤ p → IsSimple m p e → record_at m p ≡ Some (known_at m name p e, e)
unfolding record_at
record_read m name p e h behind s =
    let here = read_here m name h (omega (arith, s.room, behind)) in
    let i = read_is_name m 12 _ here in
    let high : slice_get m p ≡ Some (192 + 0) = slice_get-get_or m p 0 (omega (arith, s.room)) ∙ ap (λ x. Some x) s.high in
    let low : slice_get m (p + 1) ≡ Some 12 = slice_get-get_or m (p + 1) 0 (omega (arith, s.room)) ∙ ap (λ x. Some x) s.low in
    let says = says_pointer 0 12 12 high low refl (omega (arith, behind, some_count name)) in
    let owner : name_at m p ≡ Some (record { labels = name; end = p + 2; pointers = 1 }) =
    name_is_read m p name (p + 2) 1 (at_pointer p 12 name (12 + octet_count name) 0 says i.0) (omega arith) h.legal.1 in
    rw (owner, le-leb (p + 2 + 10) (length m) (omega (arith, s.room)), s.end, le-leb e (length m) s.within) refl

-- its octets

pub put : (m : List ℕ) (a b c : ℕ) (x y : List ℕ) → x ≡ slice_range m a b → y ≡ slice_range m b c → a ≤ b → b ≤ c → x ++ y ≡ slice_range m a c
put m a b c x y f g first second = ap (λ z. z ++ y) f ∙ ap (λ z. slice_range m a b ++ z) g ∙ joined m a b c first second

own_octets : (m : List ℕ) (p e : ℕ) → AreOctets m → IsSimple m p e
    → (192 ∷ 12 ∷ []) ++ behind_owner (u16_at m (p + 2)) (u16_at m (p + 2 + 2)) (u32_at m (p + 2 + 4)) (slice_range m (p + 2 + 10) e) ≡ slice_range m p e
own_octets m p e h s =
    let D : List ℕ = slice_range m (p + 2 + 10) e in
    let long : length D ≡ u16_at m (p + 2 + 8) = range_long m (p + 2 + 10) e (u16_at m (p + 2 + 8)) s.within s.end in
    let count = ap (to_be_bytes w16) long ∙ u16_again m (p + 2 + 8) (p + 2 + 10) h (omega (arith, s.room)) (omega arith) in
    let behind : p + 2 + 10 ≤ e = omega (arith, s.end) in
    let d = put m (p + 2 + 8) (p + 2 + 10) e _ D count refl (omega arith) behind in
    let l = put m (p + 2 + 4) (p + 2 + 8) e _ _ (u32_again m (p + 2 + 4) (p + 2 + 8) h (omega (arith, s.room)) (omega arith)) d (omega arith) (omega (arith, behind)) in
    let c = put m (p + 2 + 2) (p + 2 + 4) e _ _ (u16_again m (p + 2 + 2) (p + 2 + 4) h (omega (arith, s.room)) (omega arith)) l (omega arith) (omega (arith, behind)) in
    let t = put m (p + 2) (p + 2 + 2) e _ _ (u16_again m (p + 2) (p + 2 + 2) h (omega (arith, s.room)) refl) c (omega arith) (omega (arith, behind)) in
    put m p (p + 2) e (192 ∷ 12 ∷ []) _ (sym (two_range m p (p + 2) 192 12 (omega (arith, s.room)) refl s.high s.low)) t (omega arith) (omega (arith, behind))

record_written : (m : List ℕ) (name : Labels) (places : List ℕ) (p e : ℕ) → Named m name → 12 + octet_count name ≤ p → IsSimple m p e
    → with_record (written_from (known_at m name p e)) (up_to m places p) ≡ up_to m places e
record_written m name places p e h behind s =
    let c : Compressed = up_to m places p in
    let known : Known = known_at m name p e in
    let is = record_is (written_from known) c (192 ∷ 12 ∷ []) (slice_range m (p + 2 + 10) e) (pointed c name h.some (found_first m name places p h behind))
    (data_copies known.entry (u16_at m (p + 2)) m (p + 2 + 10) e s.kind refl) in
    let more : (replicate 12 0 ++ slice_range m 12 p) ++ slice_range m p e ≡ replicate 12 0 ++ slice_range m 12 e =
    append_assoc (replicate 12 0) (slice_range m 12 p) (slice_range m p e) ∙ ap (λ x. replicate 12 0 ++ x) (joined m 12 p e (omega (arith, behind)) (omega (arith, s.end))) in
    is ∙ ap (λ x. record c { octets = c.octets ++ x }) (own_octets m p e h.octets s) ∙ ap (λ x. record c { octets = x }) more

-- one record, and many

unfoldable pub more : Section → ℕ → Counts → Counts
more Answer n counts = record counts { answer = counts.answer + n }
more Authority n counts = record counts { authority = counts.authority + n }
more Additional n counts = record counts { additional = counts.additional + n }

pub more_none : (section : Section) (counts : Counts) → more section 0 counts ≡ counts
unfolding more
more_none Answer counts = ap (λ k. record counts { answer = k }) (omega arith)
more_none Authority counts = ap (λ k. record counts { authority = k }) (omega arith)
more_none Additional counts = ap (λ k. record counts { additional = k }) (omega arith)

pub more_next : (section : Section) (n : ℕ) (counts : Counts) → more section n (one_more_in section counts) ≡ more section (suc n) counts
unfolding more
more_next Answer n counts = ap (λ k. record counts { answer = k }) (omega arith)
more_next Authority n counts = ap (λ k. record counts { authority = k }) (omega arith)
more_next Additional n counts = ap (λ k. record counts { additional = k }) (omega arith)

one_in : (section : Section) (counts : Counts) → entries_in section (one_more_in section counts) ≡ entries_in section counts + 1
one_in Answer counts = refl
one_in Authority counts = refl
one_in Additional counts = refl

is_no_opt : (rtype : ℕ) → is_copied rtype ≡ true → (rtype == 41) ≡ false
is_no_opt rtype kind =
    let t1 = neither (is_one_name rtype) _ (not-true _ kind) in
    let t2 = neither (rtype == 6) _ t1.1 in
    let t3 = neither (rtype == 14) _ t2.1 in
    let t4 = neither (rtype == 15) _ t3.1 in
    let t5 = neither (rtype == 33) _ t4.1 in
    (neither (rtype == 41) (is_some (form_of rtype)) t5.1).0

stays : (section : Section) (known : Known) → (known.entry.rtype == 41) ≡ false → is_replaced section known ≡ false
stays Answer known e = refl
stays Authority known e = refl
stays Additional known e = e

pub has_room : (n : ℕ) → n < 65535 → (n == 65535) ≡ false
has_room n few = false_from_ne_true (n == 65535) (λ e. absurd (omega (arith, eqb-true n 65535 e, few)))

pub copied_one : (section : Section) (m : List ℕ) (name : Labels) (counts : Counts) (places : List ℕ) (p e : ℕ) → Named m name → 12 + octet_count name ≤ p → IsSimple m p e
    → entries_in section counts < 65535 → copies section (known_at m name p e) (drafted m counts places p) ≡ Ok (drafted m (one_more_in section counts) places e)
unfolding refusal counts_in pushed_record
copied_one section m name counts places p e h behind s few =
    rw (stays section (known_at m name p e) (is_no_opt _ s.kind), has_room _ few, record_written m name places p e h behind s) refl

-- So many records, of which some are left then: they are read and copied, and no OPT record is among them.
pub record Ran (m : List ℕ) (name : Labels) (n left count p e : ℕ) : Type 0 where
  pub records : List Known
  pub read : list_at (record_at m) n p ≡ Some (records, e)
  pub behind : p ≤ e
  pub opt : first_opt (items_at (record_at m) count p) ≡ first_opt (items_at (record_at m) left e)
  pub copied : (section : Section) (counts : Counts) (places : List ℕ) → entries_in section counts + n ≤ 65535
      → each (copies section) (items_at (record_at m) count p) (drafted m counts places p)
      ≡ each (copies section) (items_at (record_at m) left e) (drafted m (more section n counts) places e)

pub items_next : (m : List ℕ) (known : Known) (left count p e : ℕ) → record_at m p ≡ Some (known, e) → count ≡ suc left
    → items_at (record_at m) count p ≡ Ok known ∷ items_at (record_at m) left e
unfolding items_at
items_next m known left count p e read is = rw (is, read) refl

none_in : (m : List ℕ) (name : Labels) (p e : ℕ) → IsSimple m p e → opt_in (known_at m name p e) ≡ None
none_in m name p e s = rw (is_no_opt _ s.kind) refl

pub run : (m : List ℕ) (name : Labels) (n left count p e : ℕ) → Named m name → 12 + octet_count name ≤ p → count ≡ n + left → simple_ends m n p ≡ Some e → Ran m name n left count p e
unfolding simple_ends list_at
run m name zero left count p e h behind sum is =
    let same : p ≡ e = cc in
    let all : count ≡ left = omega (arith, sum) in
    let P : ℕ → Type 0 = λ x. Ran m name 0 left count p x in
    subst P same (record {
      records = [];
      read = refl;
      behind = omega arith;
      opt = ap (λ k. first_opt (items_at (record_at m) k p)) all;
      copied = λ section counts places few.
          ap (λ k. each (copies section) (items_at (record_at m) k p) (drafted m counts places p)) all
          ∙ ap (λ c. each (copies section) (items_at (record_at m) left p) (drafted m c places p)) (sym (more_none section counts));
    })
run m name (suc n) left count p e h behind sum is =
    let found = then_ok (simple_end m p) (simple_ends m n) e is in
    let mid : ℕ = found.0 in
    let s : IsSimple m p mid = means_simple m p mid found.1 in
    let further : p ≤ mid = omega (arith, s.end) in
    let rest = run m name n left (n + left) mid e h (omega (arith, behind, further)) refl found.2 in
    let read = record_read m name p mid h behind s in
    let known : Known = known_at m name p mid in
    let items = items_next m known (n + left) count p mid read (omega (arith, sum)) in
    record {
      records = known ∷ rest.records;
      read = list_step (record_at m) n p mid e known rest.records read rest.read;
      behind = omega (arith, rest.behind, further);
      opt = ap first_opt items ∙ ap (λ o. option_or o (first_opt (items_at (record_at m) (n + left) mid))) (none_in m name p mid s) ∙ rest.opt;
      copied = λ section counts places few.
          ap (λ xs. each (copies section) xs (drafted m counts places p)) items
          ∙ ap (λ (x : Copied). x >> each (copies section) (items_at (record_at m) (n + left) mid)) (copied_one section m name counts places p mid h behind s (omega (arith, few)))
          ∙ rest.copied section (one_more_in section counts) places (omega (arith, few, one_in section counts))
          ∙ ap (λ c. each (copies section) (items_at (record_at m) left e) (drafted m c places e)) (more_next section n counts);
    }
