-- Whose results are taken next, between two calls.
use Rattle.std.proofs.Common.{◌≡◌, ℕ, ◌<◌, Some, slice_get, refl, sym, subst, ◌∙◌, arith, length}
use Rattle.std.proofs.lemmas.Option.{slice_get_within}
use Rattle.proof_parts.specs.PartTie.{IsOpen}
use Rattle.proof_parts.proofs.Keys.{each_number}
use Rattle.proof_choice.specs.Choosing.{Choosing}
use Rattle.proof_choice.specs.Doing.{TurningAway, TurningTo}
use Rattle.proof_choice.proofs.Firing.{none_past}

not_below : (n : ℕ) → n < n → ⊥
not_below n lt = omega arith

pub turning_away : (g : Choosing) → TurningAway g
turning_away g others phase s left named c v x is_still may_call =
    let st = is_still.stands in
    record {
      stands = record {
        servers = st.servers;
        quiet = st.quiet;
        is_named = λ q e at ne i. each_number (λ q. slice_get c.servers q ≡ Some e → named q i ≡ g.names e.upstream i) s
            (λ at. is_still.names i ∙ sym (st.still e at i)) (λ q ne at. st.is_named q e at ne i) q at;
        still = λ e at i. absurd (not_below (length (g.c).servers) (subst (λ n. length (g.c).servers < n) st.servers.count (slice_get_within c.servers (length (g.c).servers) e at)));
        less = λ i k is. is;
        kept = st.kept;
        foreign = st.foreign;
        timers = st.timers;
        calm = λ at frames told t job i due is timer set late. (let k = st.kept.kept t job is in record {
          aside = λ m. none_past (length (g.c).servers) job.left k.ask.tried k.left m;
          clear = λ b m r p same. not_below (length (g.c).servers) (subst (λ n. n < length (g.c).servers) (sym same) (k.waits b m r p).within);
        });
        is_open = λ q lt ne. each_number (λ q. q < length (g.c).servers → IsOpen (phase q) v.place) s (λ lt. may_call) (λ q ne lt. st.is_open q lt ne) q lt;
        drawn = st.drawn;
        due = st.due;
        own = st.own;
        far = st.far;
      };
      names = λ i. refl;
      sorted = is_still.sorted;
      board = is_still.board;
    }

pub turning_to : (g : Choosing) → TurningTo g
turning_to g others phase s left named c v x lt is_still =
    let st = is_still.stands in
    record {
      stands = record {
        servers = st.servers;
        quiet = st.quiet;
        is_named = λ q e at ne i. st.is_named q e at (elsewhere q (subst (λ n. q < n) st.servers.count (slice_get_within c.servers q e at))) i;
        still = λ e at i. sym (st.is_named s e at (elsewhere s (subst (λ n. s < n) st.servers.count (slice_get_within c.servers s e at))) i);
        less = λ i k is. is;
        kept = st.kept;
        foreign = st.foreign;
        timers = st.timers;
        calm = λ at frames told. absurd (subst (λ f. IsOpen f v.place) told (st.is_open s lt (elsewhere s lt)));
        is_open = λ q lt ne. st.is_open q lt (elsewhere q lt);
        drawn = st.drawn;
        due = st.due;
        own = st.own;
        far = st.far;
      };
      names = λ i. refl;
      sorted = is_still.sorted;
      board = is_still.board;
    }
  where
    elsewhere : (q : ℕ) → q < length (g.c).servers → length (g.c).servers ≡ q → ⊥
    elsewhere q lt same = not_below q (subst (λ n. q < n) same lt)
