-- After each event and each out what is kept of idle times is what the definitions say.
use Rattle.std.proofs.Common.{◌≡◌, ℕ, zero, suc, ◌+◌, ◌-◌, ◌*◌, ◌<◌, ◌≤◌, ◌==◌, get_or, nat_lt, Bool, true, false, if◌then◌else◌, length, drop, List, [], ◌∷◌, Option, Some, None, refl, sym, ap, ◌∙◌, arith}
use Rattle.std.proofs.lemmas.Bool.Decides.{nat_tests}
use Rattle.number_table.specs.Entries.{puts, entry_at}
use Rattle.client_request.specs.declared.event.{Event.Event, Out.Out}
use Rattle.right_trace.specs.Trace.{History, Came, Put, Conf}
use Rattle.right_trace.specs.Time.{idle_timeout}
use Rattle.right_trace.specs.Messages.{Octets, keepalive_of, keepalive_in, keepalive_option}
use Rattle.right_trace.specs.Frames.{is_bad, came_here}
use Rattle.right_trace.specs.Timers.{told_idle, last_keepalive, idle_with}
use Rattle.trace_tables.proofs.Tables.{at_puts}
use Rattle.trace_tables.specs.declared.frames.frames.{Brought.Brought, Frames.Frames}
use Rattle.trace_tables.specs.frames.Frames.{Known as FramesKnown, frames_of}
use Rattle.trace_tables.specs.idle.Keepalive.{told_by, told_in, or_before, last_told}
use Rattle.trace_tables.specs.idle.Idle.{Idle, time_or, idle_seen, met, Known, GoesOn}

-- the walk over options, one at a time
one_option : (n m : ℕ) (a b c d : ℕ) (os : List ℕ) (f : Option ℕ) → n ≡ suc m → keepalive_in n (a ∷ b ∷ c ∷ d ∷ os) f ≡ keepalive_in m (drop (256 * c + d) os) (keepalive_option (256 * a + b) (256 * c + d) os f)
one_option n m a b c d os f e = ap (λ n. keepalive_in n (a ∷ b ∷ c ∷ d ∷ os) f) e

-- a walk stops where fewer octets than the head of an option are left
pub stops : (n : ℕ) (rest : List ℕ) (f : Option ℕ) → length rest < 4 → keepalive_in n rest f ≡ f
stops zero rest f l = refl
stops (suc n) [] f l = refl
stops (suc n) (a ∷ []) f l = refl
stops (suc n) (a ∷ b ∷ []) f l = refl
stops (suc n) (a ∷ b ∷ c ∷ []) f l = refl
stops (suc n) (a ∷ b ∷ c ∷ d ∷ os) f l = absurd (omega arith)

-- and else goes on behind the option
pub goes_behind : (m n : ℕ) (rest others left : List ℕ) (code count : ℕ) (f next : Option ℕ) → n ≡ suc m → 4 ≤ length rest → others ≡ drop 4 rest → code ≡ 256 * get_or rest 0 0 + get_or rest 1 0 → count ≡ 256 * get_or rest 2 0 + get_or rest 3 0
    → next ≡ keepalive_option code count others f → left ≡ drop count others → keepalive_in m left next ≡ keepalive_in n rest f
goes_behind m n [] others left code count f next e l o x y z w = absurd (omega arith)
goes_behind m n (a ∷ []) others left code count f next e l o x y z w = absurd (omega arith)
goes_behind m n (a ∷ b ∷ []) others left code count f next e l o x y z w = absurd (omega arith)
goes_behind m n (a ∷ b ∷ c ∷ []) others left code count f next e l o x y z w = absurd (omega arith)
goes_behind m n (a ∷ b ∷ c ∷ d ∷ os) others left code count f next e l o x y z w =
    let found : next ≡ keepalive_option (256 * a + b) (256 * c + d) os f =
    z ∙ (ap (λ k. keepalive_option k count others f) x ∙ (ap (λ k. keepalive_option (256 * a + b) k others f) y ∙ ap (λ os. keepalive_option (256 * a + b) (256 * c + d) os f) o)) in
    let behind : left ≡ drop (256 * c + d) os = w ∙ (ap (λ k. drop k others) y ∙ ap (drop (256 * c + d)) o) in
    ap (λ r. keepalive_in m r next) behind ∙ (ap (keepalive_in m (drop (256 * c + d) os)) found ∙ sym (one_option n m a b c d os f e))

-- what a frame says
same_told : (b : Bool) (o : Option ℕ) (n : ℕ) → (if b then n else told_idle o n) ≡ or_before (if b then None else o) n
same_told true o n = refl
same_told false None n = refl
same_told false (Some t) n = refl

frame_tells : (m : Octets) (n : ℕ) → (if is_bad m then n else told_idle (keepalive_of m) n) ≡ or_before (told_in m) n
unfolding is_bad keepalive_of
frame_tells m n = same_told (nat_lt (length m) 12) (told_by m) n

frames_tell : (ms : List Octets) (n : ℕ) → last_keepalive ms n ≡ last_told ms n
frames_tell [] n = refl
frames_tell (m ∷ ms) n = ap (last_keepalive ms) (frame_tells m n) ∙ frames_tell ms (or_before (told_in m) n)

-- what the newest row's frames say is said behind all before
counted : (conf : Conf) (ms : List Octets) (p : ℕ) (h : History) → came_here p h ≡ ms → idle_with conf ms p h ≡ last_keepalive ms (idle_with conf [] p h)
counted conf [] p h e = refl
counted conf (m ∷ ms) p [] e = absurd (cc)
counted conf (m ∷ ms) p (Came e ∷ h) c = refl
counted conf (m ∷ ms) p (Put o ∷ h) e = counted conf (m ∷ ms) p h e

same_place : (p q : ℕ) → (p == q) ≡ true → p ≡ q
same_place p q e = grind (arith, nat_tests)

met_so : (usual : ℕ) (b : Option Brought) (p : ℕ) (t : Idle) → idle_seen usual p (met usual b t) ≡ last_told (frames_of p b) (idle_seen usual p t)
met_so usual None p t = refl
met_so usual (Some b) p t = ap (time_or usual) (at_puts b.place (last_told b.frames (idle_seen usual b.place t)) p t) ∙ go (b.place == p) refl
  where
    go : (c : Bool) → (b.place == p) ≡ c → time_or usual (if c then Some (last_told b.frames (idle_seen usual b.place t)) else entry_at p t) ≡ last_told (if c then b.frames else []) (idle_seen usual p t)
    go true e = ap (λ q. last_told b.frames (idle_seen usual q t)) (same_place b.place p e)
    go false e = refl

event : (conf : Conf) (h : History) (f : Frames) (t : Idle) (e : Event) → FramesKnown h f → Known conf h t → Known conf (Came e ∷ h) (met (idle_timeout conf) f.brought t)
event conf h f t e fs is = record {
  times = λ p. met_so (idle_timeout conf) f.brought p t ∙ (ap (λ ms. last_told ms (idle_seen (idle_timeout conf) p t)) (fs.here p) ∙ (ap (last_told (came_here p h)) (is.times p)
      ∙ (sym (frames_tell (came_here p h) (idle_with conf [] p h)) ∙ sym (counted conf (came_here p h) p h refl))));
}

first_time : (conf : Conf) (p : ℕ) → idle_seen (idle_timeout conf) p [] ≡ idle_with conf [] p []
first_time conf p = refl

pub goes_on : (conf : Conf) → GoesOn conf
goes_on conf = record { begins = record { times = first_time conf }; event = event conf; out = λ h t o is. record { times = is.times } }
