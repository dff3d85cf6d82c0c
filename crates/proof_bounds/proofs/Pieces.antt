-- Two events of a stream at one moment come to what one does.
use Rattle.std.proofs.Common.{◌≡◌, ℕ, List, [], ◌∷◌, ◌++◌, length, Option, Some, None, Ordering, Less, Equal, Greater, nat_cmp, cond, Bool, true, false, refl, sym, ap, ◌∙◌, arith, append_assoc}
use Rattle.std.specs.Prelude.{◌==◌, max, if◌then◌else◌}
use Rattle.std.specs.Ordering.{match_ordering, is_eq}
use Rattle.std.proofs.lemmas.Cmp.{nat_cmp_total, tied_itself}
use Rattle.number_table.specs.Entries.{puts, frees, entry_at}
use Rattle.client_stream.specs.Frames.{has_frame}
use Rattle.client_steps.specs.Whole.{started_with}
use Rattle.front_peers.specs.Items.{Brought, Streams, at_moment, brings, of_frames}
use Rattle.front_peers.specs.declared.items.Item.{Item}
use Rattle.front_peers.specs.declared.peers.Stream.{Stream}
use Rattle.front_steps.specs.Steps.{beginning}
use Rattle.right_trace.specs.Time.{one_if}
use Rattle.proof_bounds.specs.Cuts.{EventIsCut, EveryEventMayBeCut, has_drop, of_octets, then_more}
use Rattle.proof_bounds.proofs.Weighing.{free_weighs, is_same, weighs}
use Rattle.proof_bounds.proofs.Frames.{enough, octets_are_cut}
use Rattle.proof_bounds.proofs.Little.{NoneWhole, Table, all_rows, freed_apart, of_key, same_key, whole_of}

put_here : (k : ℕ) (v : Stream) (es : Table) → entry_at k (puts k v es) ≡ Some v
put_here k v [] = ap (λ (o : Ordering). cond (is_eq o) (Some v) None) (tied_itself nat_cmp_total k)
put_here k v (e ∷ es) = go (nat_cmp k e.0) refl (put_here k v es)
  where
    go : (r : Ordering) → nat_cmp k e.0 ≡ r → entry_at k (puts k v es) ≡ Some v → entry_at k (match_ordering r ((k, v) ∷ e ∷ es) ((e.0, v) ∷ es) (e ∷ puts k v es)) ≡ Some v
    go Less is ih = ap (λ (o : Ordering). cond (is_eq o) (Some v) (entry_at k (e ∷ es))) (tied_itself nat_cmp_total k)
    go Equal is ih = ap (λ (o : Ordering). cond (is_eq o) (Some v) (entry_at k es)) is
    go Greater is ih = ap (λ (o : Ordering). cond (is_eq o) (Some e.1) (entry_at k (puts k v es))) is ∙ ih

-- what was put where nothing was is taken out again
put_freed : (k : ℕ) (v : Stream) (es : Table) → weighs (of_key k) es ≡ 0 → frees k (puts k v es) ≡ es
put_freed k v [] none = ap (λ (o : Ordering). cond {A = Table} (is_eq o) [] ((k, v) ∷ [])) (tied_itself nat_cmp_total k)
put_freed k v (e ∷ es) none = go (nat_cmp k e.0) refl (put_freed k v es)
  where
    go : (r : Ordering) → nat_cmp k e.0 ≡ r → (weighs (of_key k) es ≡ 0 → frees k (puts k v es) ≡ es) → frees k (match_ordering r ((k, v) ∷ e ∷ es) ((e.0, v) ∷ es) (e ∷ puts k v es)) ≡ e ∷ es
    go Less is ih = ap (λ (o : Ordering). cond {A = Table} (is_eq o) (e ∷ es) ((k, v) ∷ frees k (e ∷ es))) (tied_itself nat_cmp_total k)
    go Equal is ih = (
        let here : one_if (e.0 == k) ≡ 1 = ap one_if (is_same e.0 k (sym (same_key k e.0 is))) in
        absurd (omega arith))
    go Greater is ih = ap (λ (o : Ordering). cond {A = Table} (is_eq o) (puts k v es) (e ∷ frees k (puts k v es))) is ∙ ap (λ (xs : Table). e ∷ xs) (ih (omega arith))

twice_now : (a m : ℕ) → max (max a m) m ≡ max a m
twice_now a m = omega arith

-- a stream that keeps these octets, and was heard at a moment, with others
abbrev keeping : (peer : ℕ) → Option ℕ → (moment : ℕ) → List ℕ → Table → Streams
keeping peer last moment octets es = record { streams = puts peer (record { framer = octets; heard = moment }) es; last = last; moment = moment }

more_if : (b : Bool) → b ≡ false → (peer : ℕ) (one : Brought) (second : List ℕ) → (if◌then◌else◌ {A = Brought} b (one.0, one.1 ++ second) (one.0 ++ (of_octets peer (one.1 ++ second)).0, (of_octets peer (one.1 ++ second)).1))
    ≡ (one.0 ++ (of_octets peer (one.1 ++ second)).0, (of_octets peer (one.1 ++ second)).1)
more_if false is peer one second = refl
more_if true is peer one second = absurd (cc)

ends_if : (b : Bool) → b ≡ true → (one : Brought) (x y : Brought) → x.0 ≡ one.0 → (if◌then◌else◌ {A = Brought} b x y).0 ≡ one.0
ends_if true is one x y same = same
ends_if false is one x y same = absurd (cc)

module _ (moment : ℕ) (peer : ℕ) (first second : List ℕ) (before : Streams) (none : NoneWhole before) where
  abbrev s : Streams
  s = at_moment moment before

  module _ (t : Stream) (is : entry_at peer s.streams ≡ Some t) where
    abbrev one : Brought
    one = of_frames (length first) peer (t.framer ++ first)

    abbrev whole : Brought
    whole = of_frames (length (first ++ second)) peer (t.framer ++ (first ++ second))

    kept_none : has_frame t.framer ≡ false
    kept_none = go (has_frame t.framer) refl
      where
        go : (b : Bool) → has_frame t.framer ≡ b → b ≡ false
        go true at = (
            let freed = free_weighs whole_of peer t s.streams is in
            let here : whole_of (peer, t) ≡ 1 = ap one_if at in
            absurd (omega (arith, none.1)))
        go false at = refl

    one_is : one ≡ of_octets peer (t.framer ++ first)
    one_is = enough peer t.framer first kept_none

    whole_is : whole ≡ then_more peer one second
    whole_is =
        enough peer t.framer (first ++ second) kept_none
        ∙ ap (of_octets peer) (sym (append_assoc t.framer first second))
        ∙ octets_are_cut.cut peer (t.framer ++ first) second
        ∙ sym (ap (λ (b : Brought). then_more peer b second) one_is)

    here_ends : has_drop one.0 ≡ true → whole.0 ≡ one.0
    here_ends drop = ap (λ (b : Brought). b.0) whole_is ∙ ends_if (has_drop one.0) drop one (one.0, one.1 ++ second) (one.0 ++ (of_octets peer (one.1 ++ second)).0, (of_octets peer (one.1 ++ second)).1) refl

    module _ (stays : has_drop one.0 ≡ false) where
      abbrev kept : Stream
      kept = record { framer = one.1; heard = s.moment }

      abbrev after : Streams
      after = at_moment moment (brings peer first s (Some t)).1

      abbrev two : Brought
      two = of_frames (length second) peer (one.1 ++ second)

      abbrev behind_one : Brought → Brought
      behind_one b = (one.0 ++ b.0, b.1)

      -- what is done behind these octets
      abbrev left_by : (now : ℕ) → Brought → Table → List Item × Streams
      left_by now b es = (b.0, keeping peer s.last now b.1 es)

      abbrev behind_items : List Item × Streams → List Item × Streams
      behind_items x = (one.0 ++ x.0, x.1)

      left_none : has_frame one.1 ≡ false
      left_none =
          ap (λ (b : Brought). has_frame b.1) one_is
          ∙ octets_are_cut.none_left peer (t.framer ++ first) (sym (ap (λ (b : Brought). has_drop b.0) one_is) ∙ stays)

      both : whole ≡ (one.0 ++ two.0, two.1)
      both =
          whole_is ∙ more_if (has_drop one.0) stays peer one second
          ∙ sym (ap behind_one (enough peer one.1 second left_none))

      again : frees peer (puts peer kept (frees peer s.streams)) ≡ frees peer s.streams
      again = put_freed peer kept (frees peer s.streams) (freed_apart peer s.streams none.0)

      second_is : brings peer second after (entry_at peer after.streams) ≡ left_by s.moment two (frees peer s.streams)
      second_is =
          ap (brings peer second after) (put_here peer kept (frees peer s.streams))
          ∙ ap (left_by after.moment two) again
          ∙ ap (λ (m : ℕ). left_by m two (frees peer s.streams)) (twice_now before.moment moment)

      in_two : brings peer (first ++ second) s (Some t) ≡ ((brings peer first s (Some t)).0 ++ (brings peer second after (entry_at peer after.streams)).0, (brings peer second after (entry_at peer after.streams)).1)
      in_two =
          ap (λ (b : Brought). left_by s.moment b (frees peer s.streams)) both
          ∙ sym (ap behind_items second_is)

  abbrev InTwo : Option Stream → Type 0
  InTwo o =
      has_drop (brings peer first s o).0 ≡ false
      → brings peer (first ++ second) s o
      ≡ (
        (brings peer first s o).0 ++ (brings peer second (at_moment moment (brings peer first s o).1) (entry_at peer (brings peer first s o).1.streams)).0,
        (brings peer second (at_moment moment (brings peer first s o).1) (entry_at peer (brings peer first s o).1.streams)).1,
      )

  abbrev nothing_at : (now : ℕ) → List Item × Streams
  nothing_at now = ([], record s { moment = now })

  nothing_twice : entry_at peer s.streams ≡ None → InTwo None
  nothing_twice is stays =
      ap nothing_at (sym (twice_now before.moment moment))
      ∙ sym (ap (λ (o : Option Stream). brings peer second (at_moment moment s) o) is)

  goes_on : (o : Option Stream) → entry_at peer s.streams ≡ o → InTwo o
  goes_on None is = nothing_twice is
  goes_on (Some t) is = in_two t is

  ends : (o : Option Stream) → entry_at peer s.streams ≡ o → has_drop (brings peer first s o).0 ≡ true → (brings peer (first ++ second) s o).0 ≡ (brings peer first s o).0
  ends None is drop = refl
  ends (Some t) is drop = here_ends t is drop

  pub cut_in_two : EventIsCut moment peer first second before
  cut_in_two = record { goes_on = goes_on (entry_at peer s.streams) refl; ends = ends (entry_at peer s.streams) refl }

pub every_event_may_be_cut : EveryEventMayBeCut
every_event_may_be_cut given redundant cache conf words rows trace last left forwards all moment peer first second =
    cut_in_two moment peer first second last.desk.streams (all_rows (beginning (started_with given redundant cache conf)) words rows trace last left (tt, omega arith, omega arith) all forwards)
