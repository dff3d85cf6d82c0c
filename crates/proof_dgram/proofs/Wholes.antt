-- No result that datagrams give is an answer that was cut.
use Rattle.std.proofs.Common.{◌≡◌, ℕ, inl, inr, Bool, true, false, List, [], ◌∷◌, ◌++◌, Some, refl, ap, subst, ◌∙◌}
use Rattle.std.specs.Prelude.{Result, Ok, Err, take, if◌then◌else◌}
use Rattle.client_request.specs.declared.error.Error.{Error}
use Rattle.client_request.specs.declared.event.What.{What}
use Rattle.client_multi.specs.Fallback.{is_truncated}
use Rattle.right_trace.specs.Messages.{Octets, truncated}
use Rattle.proof_right.specs.machine.Part.{Act, Post}
use Rattle.proof_right.specs.machine.Streams as multi
use Rattle.right_trace.specs.Updates.{with_at}
use Rattle.proof_right.specs.machine.Served.{IsSettled, posts_of}
use Rattle.proof_right.specs.machine.Dgrams as dgrams
use Rattle.proof_right.specs.machine.Dgrams.{Ending, Cut, Stage, Tryer, Dgrams, stage_of, forget, Tries, Meets}
use Rattle.proof_parts.specs.Chains.{part_of}
use Rattle.proof_parts.proofs.Keys.{was_there, is_or_was}
use Rattle.proof_dgram.specs.Steps.{AtOnce, AsItIs, WithResult, Steps, Rests, Steps_on}
use Rattle.proof_dgram.proofs.Settling.{AllWhole}
use Rattle.right_trace.specs.Trace.{Conf}
use Rattle.right_trace.specs.Time.{recv_size}

-- who is to have a result is to have none that was cut
abbrev pub IsWhole : Dgrams → Type 0
IsWhole d = (k : ℕ) (a : Tryer) (y : Result Octets Error) → d.held k ≡ Some a → a.stage ≡ Ending y → is_truncated (part_of y) ≡ false

-- so is what comes after this stage
abbrev pub MayCome : Stage → Type 0
MayCome st = (y : Result Octets Error) → st ≡ Ending y → is_truncated (part_of y) ≡ false

fault : (e : Error) → MayCome (Ending (Err e))
fault e y is = (let same : Err e ≡ y = cc in subst (λ (y : Result Octets Error). is_truncated (part_of y) ≡ false) same refl)

answer : (m : Octets) → MayCome (stage_of m)
unfolding truncated
answer m y is = by (truncated m) refl is
  where
    by : (b : Bool) → truncated m ≡ b → (if b then Cut else Ending (Ok m)) ≡ Ending y → is_truncated (part_of y) ≡ false
    by true e is = absurd (cc)
    by false e is = (let z : Ending (Ok m) ≡ Ending y = is in let same : Ok m ≡ y = cc in subst (λ (y : Result Octets Error). is_truncated (part_of y) ≡ false) same e)

pub changed : (d : Dgrams) (k : ℕ) (c : Tryer) → MayCome c.stage → IsWhole d → (j : ℕ) (a : Tryer) (y : Result Octets Error) → with_at k (Some c) d.held j ≡ Some a → a.stage ≡ Ending y → is_truncated (part_of y) ≡ false
changed d k c may w j a y e st = elim (is_or_was k (Some c) d.held j a e) [
  | inl x ↦ (let z : Some c ≡ Some a = x.1 in let same : c ≡ a = cc in may y (ap (λ (a : Tryer). a.stage) same ∙ st))
  | inr x ↦ w j a y x.1 st
]

gone : (d : Dgrams) (k : ℕ) → IsWhole d → IsWhole (forget k d)
gone d k w j a y e st = w j a y (was_there k d.held j a e).1 st

tries_whole : (c : Conf) (s n place : ℕ) (d e : Dgrams) (x : multi.Act) → IsWhole d → Tries c s n place d x e → IsWhole e × AllWhole (posts_of x)
tries_whole c s n place d _ _ w (dgrams.Opens k a held stage few) = (changed d k _ (λ y e. absurd (cc)) w, tt)
tries_whole c s n place d _ _ w (dgrams.Retries k a p id t held stage late few) = (changed d k _ (λ y e. absurd (cc)) w, tt)
tries_whole c s n place d _ _ w (dgrams.StopsTrying k a p id t held stage late six) = (changed d k _ (fault _) w, tt)
tries_whole c s n place d _ _ w (dgrams.Ends k a x held stage) = (gone d k w, (w k a x held stage, tt))

pub meets_whole : (c : Conf) (n : ℕ) (d e : Dgrams) (w : What) (x : multi.Act) → IsWhole d → Meets c n d w x e → IsWhole e × AllWhole (posts_of x)
meets_whole c n d _ _ _ w (dgrams.IsSent k a p id o at held stage carries) = (changed d k _ (λ y e. absurd (cc)) w, tt)
meets_whole c n d _ _ _ w (dgrams.CannotBeSent k a p e at held stage bad) = (changed d k _ (fault _) w, tt)
meets_whole c n d _ _ _ w (dgrams.DoesNotOpen k a p f at held stage) = (changed d k _ (fault _) w, tt)
meets_whole c n d _ _ _ w (dgrams.NotSent k a p id t f at held stage) = (changed d k _ (fault _) w, tt)
meets_whole c n d _ _ _ w (dgrams.SentShort k a p id t at held stage) = (changed d k _ (fault _) w, tt)
meets_whole c n d _ _ _ w (dgrams.NotReceived k a p id t f at held stage) = (changed d k _ (fault _) w, tt)
meets_whole c n d _ _ _ w (dgrams.IsAnswered k a p id t o at held stage long ok) = (changed d k _ (answer (take (recv_size c) o)) w, tt)

pub at_once_whole : (place : ℕ) (x : multi.Act) (d : Dgrams) (e : Act Dgrams) → IsWhole d → AllWhole (posts_of x) → AtOnce place x d e → IsWhole e.state × AllWhole e.posts
at_once_whole place x d _ w all (AsItIs set) = (w, all)
at_once_whole place x d _ w all (WithResult k a y held stage) = (gone d k w, (w k a y held stage, tt))

pub all_then : (xs ys : List Post) → AllWhole xs → AllWhole ys → AllWhole (xs ++ ys)
all_then [] ys a b = b
all_then (x ∷ xs) ys a b = (a.0, all_then xs ys a.1 b)

pub steps_whole : (c : Conf) (s n place : ℕ) (d : Dgrams) (e : Act Dgrams) → IsWhole d → Steps c s n place d e → AllWhole e.posts
steps_whole c s n _ _ _ w (Rests place d) = tt
steps_whole c s n _ _ _ w (Steps_on place d x k e g try at rest) =
    let one = tries_whole c s n place d k x w try in
    let two = at_once_whole place x k e one.0 one.1 at in
    all_then e.posts g.posts two.1 (steps_whole c s n e.place e.state g two.0 rest)

-- who holds no result holds none that was cut
pub whole_at_first : (d : Dgrams) → IsSettled d → IsWhole d
whole_at_first d set k a y held st = absurd (set k a held y st)
