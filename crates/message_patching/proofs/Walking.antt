-- Records that were pushed, as they are found by their names' ends: the places of their TTLs.
use Rattle.std.proofs.Common.{◌≡◌, ℕ, zero, suc, ◌+◌, ◌≤◌, inl, inr, List, [], ◌∷◌, ◌++◌, length, drop, refl, ap, sym, subst, ◌∙◌, arith, Bool, true, false, length-append, append_assoc, append-nil}
use Rattle.std.specs.Prelude.{Option, Some, None, map, nat_le, if◌then◌else◌, slice_range}
use Rattle.std.specs.List.{AllByRecursion}
use Rattle.std.specs.Int.{w16, w32, to_be_bytes}
use Rattle.std.proofs.lemmas.Option.{some_pair_parts}
use Rattle.dns_values.specs.declared.numbers.Section.{Section}
use Rattle.dns_names.specs.Name.{Found, name_at}
use Rattle.dns_names.proofs.Heads.{then_ok, chosen, none_some}
use Rattle.dns_base.specs.Numbers.{u16_at, u32_at}
use Rattle.dns_base.specs.Data.{data_at}
use Rattle.dns_base.specs.Message.{Written, Entry, Known, record_at, list_at}
use Rattle.dns_base.specs.Compression.{Compressed, with_name, with_octets, with_u16, with_u32, with_fields, with_record}
use Rattle.dns_base.specs.Holding.{ArePlaces, IsWritable}
use Rattle.dns_base.proofs.Stands.{Shows, grown}
use Rattle.dns_base.proofs.Sizes.{appended_long, record_continues}
use Rattle.dns_base.proofs.Places.{name_read}
use Rattle.dns_base.proofs.EntriesBack.{record_back}
use Rattle.dns_base.proofs.Lists.{list_step}
use Rattle.cache_rules.specs.declared.copying.Ttls.{Ttls}
use Rattle.cache_rules.specs.Viewing.{ttl_by}
use Rattle.message_patching.specs.Patching.{Mark, mark_at, has_ttl, ttl_places, ttl_put, section_places}
use Rattle.message_patching.proofs.Twins.{Twins, Reads, before_ttl, same_of, name_reads, there_more, twins_octets, twins_counted, record_reads}
use Rattle.message_patching.proofs.Mending.{all_records, ttl_writes}

-- A record that is read is found by its owner's end.
record Marked (o : List ℕ) (at : ℕ) (k : Known) (end : ℕ) : Type 0 where
  owner : Found
  named : name_at o at ≡ Some owner
  found : mark_at o at ≡ Some (record { place = owner.end + 4; rtype = k.entry.rtype }, end)
  ttl : u32_at o (owner.end + 4) ≡ k.entry.ttl

mark_found : (o : List ℕ) (at : ℕ) (f : Found) → name_at o at ≡ Some f → nat_le (f.end + 10) (length o) ≡ true
    → mark_at o at ≡ Some (record { place = f.end + 4; rtype = u16_at o f.end }, f.end + 10 + u16_at o (f.end + 8))
unfolding mark_at
mark_found o at f n p = rw (n, p) refl

marked : (o : List ℕ) (at end : ℕ) (k : Known) → record_at o at ≡ Some (k, end) → Marked o at k end
unfolding record_at
marked o at end k e =
    let owner = then_ok (name_at o at) _ (k, end) e in
    let after : ℕ = owner.0.end in
    let from : ℕ = after + 10 in
    let last : ℕ = from + u16_at o (after + 8) in
    let entry : Entry = record { owner = owner.0.labels; rtype = u16_at o after; class = u16_at o (after + 2); ttl = u32_at o (after + 4); octets = slice_range o from last } in
    let got : Known = record { entry = entry; says = data_at (u16_at o after) o from last } in
    elim (chosen (nat_le (after + 10) (length o)) _ None (Some (k, end)) owner.2) [
      | inl p ↦
          elim (chosen (nat_le last (length o)) (Some (got, last)) None (Some (k, end)) p.1) [
            | inl q ↦
                let is = some_pair_parts got k last end q.1 in
                subst (λ k. Marked o at k end) is.0 (subst (λ end. Marked o at got end) is.1 (record { owner = owner.0; named = owner.1; found = mark_found o at owner.0 owner.1 p.0; ttl = refl }))
            | inr q ↦ none_some q.1
          ]
      | inr p ↦ none_some p.1
    ]

-- what comes behind the first octets of a draft
itself_twins : (c : Compressed) → Reads c → Twins c c c.octets c.octets
itself_twins c own = record { back = []; first = sym (append-nil c.octets); second = sym (append-nil c.octets); long = refl; places = refl; seen = same_of c.octets c.octets c.places own; mine = own; other = own }

behind_owner : (w : Written) (c : Compressed) → IsWritable w → Reads c → (back : List ℕ) × ((with_record w c).octets ≡ (with_name w.owner c).octets ++ back)
unfolding with_record with_fields
behind_owner w c h own =
    let x : Compressed = with_name w.owner c in
    let t = twins_octets (to_be_bytes w32 w.ttl) _ _ _ _ (twins_octets (to_be_bytes w16 w.class) _ _ _ _ (twins_octets (to_be_bytes w16 w.rtype) x x x.octets x.octets (itself_twins x (name_reads w.owner c h.owner own)))) in
    let all = twins_counted w.content (with_fields w c) (with_fields w c) x.octets x.octets h.content t in
    (all.back, all.first)

record_grows : (w : Written) (c : Compressed) → (back : List ℕ) × ((with_record w c).octets ≡ c.octets ++ back)
record_grows w c = (drop (length c.octets) (with_record w c).octets, grown c.octets (with_record w c).octets (record_continues w c).octets)

pub records_grow : (ws : List Written) (c : Compressed) → (back : List ℕ) × ((all_records ws c).octets ≡ c.octets ++ back)
records_grow [] c = ([], sym (append-nil c.octets))
records_grow (w ∷ ws) c =
    let one = record_grows w c in
    let more = records_grow ws (with_record w c) in
    (one.0 ++ more.0, more.1 ∙ ap (λ x. x ++ more.0) one.1 ∙ append_assoc c.octets one.0 more.0)

shown_first : (a more : List ℕ) → Shows 0 a (a ++ more)
shown_first a more = record { front = []; back = more; is = refl; long = refl }

-- a record behind others, whatever follows
record Standing (w : Written) (c : Compressed) (o : List ℕ) : Type 0 where
  found : mark_at o (length c.octets) ≡ Some (record { place = length (before_ttl w c).octets; rtype = w.rtype }, length (with_record w c).octets)
  ttl : u32_at o (length (before_ttl w c).octets) ≡ w.ttl

standing : (w : Written) (c : Compressed) (more : List ℕ) → IsWritable w → Reads c → Standing w c ((with_record w c).octets ++ more)
standing w c more h own =
    let all : List ℕ = (with_record w c).octets in
    let o : List ℕ = all ++ more in
    let one = record_grows w c in
    let is : c.octets ++ (one.0 ++ more) ≡ o = sym (append_assoc c.octets one.0 more) ∙ ap (λ x. x ++ more) (sym one.1) in
    let places : ArePlaces c.octets o c.places = subst (λ x. ArePlaces c.octets x c.places) is (there_more c.octets c.octets (one.0 ++ more) c.places own) in
    let back = record_back w 0 c o (omega arith) h places (shown_first all more) in
    let m = marked o (length c.octets) (length all) back.known back.read in
    let behind = behind_owner w c h own in
    let named : List ℕ = (with_name w.owner c).octets in
    let there : named ++ (behind.0 ++ more) ≡ o = sym (append_assoc named behind.0 more) ∙ ap (λ x. x ++ more) (sym behind.1) in
    let name = name_read w.owner 0 c o (omega arith) h.owner places (subst (Shows 0 named) there (shown_first named (behind.0 ++ more))) in
    let same : Some m.owner ≡ Some (record { labels = name.back; end = length named; pointers = name.pointers }) = sym m.named ∙ name.read in
    let end : m.owner.end ≡ length named = cc in
    let at : m.owner.end + 4 ≡ length (before_ttl w c).octets =
    omega (arith, end, appended_long (to_be_bytes w16 w.class) (with_u16 w.rtype (with_name w.owner c)), appended_long (to_be_bytes w16 w.rtype) (with_name w.owner c)) in
    record {
      found = m.found ∙ ap (λ t. Some (record { place = m.owner.end + 4; rtype = t }, length all)) back.reads_as.rtype ∙ ap (λ p. Some (record { place = p; rtype = w.rtype }, length all)) at;
      ttl = ap (u32_at o) (sym at) ∙ m.ttl ∙ back.reads_as.ttl;
    }

abbrev pub marks : List Written → Compressed → List Mark
marks [] c = []
marks (w ∷ ws) c = record { place = length (before_ttl w c).octets; rtype = w.rtype } ∷ marks ws (with_record w c)

-- all records of a list behind others, whatever follows
pub record Found_all (s : Section) (ws : List Written) (c : Compressed) (o : List ℕ) : Type 0 where
  pub found : list_at (mark_at o) (length ws) (length c.octets) ≡ Some (marks ws c, length (all_records ws c).octets)
  pub puts : (n : Ttls) → map (ttl_put n o) (ttl_places s (marks ws c)) ≡ ttl_writes s n ws c

pub found_all : (s : Section) (ws : List Written) (c : Compressed) (more : List ℕ) → AllByRecursion IsWritable ws → Reads c → Found_all s ws c ((all_records ws c).octets ++ more)
unfolding list_at
found_all s [] c more h own = record { found = refl; puts = λ n. refl }
found_all s (w ∷ ws) c more h own =
    let next : Compressed = with_record w c in
    let last : List ℕ = (all_records ws next).octets in
    let o : List ℕ = last ++ more in
    let rest = found_all s ws next more h.1 (record_reads w c h.0 own) in
    let grow = records_grow ws next in
    let is : next.octets ++ (grow.0 ++ more) ≡ o = sym (append_assoc next.octets grow.0 more) ∙ ap (λ x. x ++ more) (sym grow.1) in
    let one = subst (Standing w c) is (standing w c (grow.0 ++ more) h.0 own) in
    record {
      found = list_step (mark_at o) (length ws) (length c.octets) (length next.octets) (length last) _ (marks ws next) one.found rest.found;
      puts = λ n. both n (has_ttl s w.rtype) o rest.puts one.ttl;
    }
  where
    next1 : Compressed
    next1 = with_record w c

    at : ℕ
    at = length (before_ttl w c).octets

    both : (n : Ttls) (b : Bool) (o : List ℕ) → ((n : Ttls) → map (ttl_put n o) (ttl_places s (marks ws next1)) ≡ ttl_writes s n ws next1) → u32_at o at ≡ w.ttl
        → map (ttl_put n o) (if b then at ∷ ttl_places s (marks ws next1) else ttl_places s (marks ws next1))
        ≡ (if b then (at, to_be_bytes w32 (ttl_by n w.ttl)) ∷ ttl_writes s n ws next1 else ttl_writes s n ws next1)
    both n true o rest e = ap (λ t. (at, to_be_bytes w32 (ttl_by n t)) ∷ map (ttl_put n o) (ttl_places s (marks ws next1))) e ∙ ap (λ x. (at, to_be_bytes w32 (ttl_by n w.ttl)) ∷ x) (rest n)
    both n false o rest e = rest n
