-- What a server takes no notice of.
use Rattle.std.proofs.Common.{◌≡◌, ℕ, ◌<◌, [], length, Some, sym, ap, subst, ◌∙◌}
use Rattle.std.specs.Prelude.{option_and_then}
use Rattle.client_request.specs.Request.{Request}
use Rattle.client_request.specs.View.{View, Heard, told, more_at, due_timer}
use Rattle.client_choice.specs.Choice.{Choice, settles_all}
use Rattle.client_choice.specs.Servers.{hears_at}
use Rattle.proof_right.specs.machine.Client.{with_up}
use Rattle.client_request.specs.declared.event.What.{What}
use Rattle.proof_parts.specs.PartTie.{Told, Passed, IsOpen}
use Rattle.proof_parts.proofs.Keys.{each_number}
use Rattle.proof_choice.specs.Choosing.{Choosing}
use Rattle.proof_choice.specs.Doing.{IsNothing, IgnoringIsNothing}
use Rattle.proof_choice.proofs.Leading.{up_here, up_other}
use Rattle.proof_choice.proofs.ServerCalls.{event_passes, frame_passes, passed_tied, timer_passes, gone_timer_passes}

some_is : (a b : ℕ) → Some a ≡ Some b → a ≡ b
some_is a b e = cc

not_told : (w : What) (at frames : ℕ) → Passed w ≡ Told at frames → ⊥
not_told w at frames e = cc

nothing_so : (g : Choosing) (s : ℕ) (h : Heard) (c : Choice Request g.U g.R) (v : View) → hears_at g.below s h c.servers v ≡ Some (([], c.servers), v) → IsNothing g s h c v
nothing_so g s h c v is = ap (λ o. option_and_then (λ x. settles_all g.below g.settings s x.0.0 (record c { servers = x.0.1 }) x.1) o) is

pub ignoring_is_nothing : (g : Choosing) → IgnoringIsNothing g
ignoring_is_nothing g = record {
  events = λ phase s a what p c v x t at quiet untold place none early. record {
    nothing = nothing_so g s (told what) c v (event_passes g phase c.servers v x s a t at quiet what p place untold none);
    tied = passed_tied g phase c.servers v x s a t at quiet what p place untold none early;
  };
  frames = λ phase s a what p c v x t at quiet passed place. nothing_so g s (more_at p) c v (frame_passes g phase c.servers v x s a t at quiet what p place passed);
  timers = λ phase s a i c v x t at quiet none. (
    nothing_so g s (due_timer i) c v (timer_passes g phase c.servers v x s a t at quiet i none),
    nothing_so g s (due_timer i) c _ (gone_timer_passes g phase c.servers v x s a t at quiet i none),
  );
  stands = λ others phase s current p what left named c v x is_still tied place below. (let st = is_still.stands in record {
    stands = record {
      servers = tied;
      quiet = st.quiet;
      is_named = st.is_named;
      still = st.still;
      less = st.less;
      kept = st.kept;
      foreign = st.foreign;
      timers = st.timers;
      calm = λ at frames told. st.calm at frames (each_number (λ q. with_up s (Passed what) phase q ≡ Told at frames → phase q ≡ Told at frames) s
          (λ told. absurd (not_told what at frames (sym (up_here s (Passed what) phase) ∙ told))) (λ q other told. sym (up_other s q (Passed what) phase other) ∙ told) current told);
      is_open = λ q lt ne. each_number (λ q. q < length (g.c).servers → (current ≡ q → ⊥) → IsOpen (with_up s (Passed what) phase q) v.place) s
          (λ lt ne. subst (λ f. IsOpen f v.place) (sym (up_here s (Passed what) phase)) (λ r is. subst (λ r. r < v.place) (some_is p r (sym place ∙ is)) below))
          (λ q other lt ne. subst (λ f. IsOpen f v.place) (sym (up_other s q (Passed what) phase other)) (st.is_open q lt ne)) q lt ne;
      drawn = st.drawn;
      due = st.due;
      own = st.own;
      far = st.far;
    };
    names = is_still.names;
    sorted = is_still.sorted;
    board = is_still.board;
  });
}
