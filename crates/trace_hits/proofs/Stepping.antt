-- Rows, one after another, and which of them is the first that does not keep what it owes.
use Rattle.std.proofs.Common.{◌≡◌, ℕ, zero, suc, ◌+◌, ◌<◌, ◌≤◌, Bool, true, false, Option, Some, None, List, [], ◌∷◌, length, get_or, drop, refl, sym, ap, ◌∙◌, subst, arith}
use Rattle.client_request.specs.Composed.{composed}
use Rattle.client_request.specs.declared.event.{Out.Out, Row.Row}
use Rattle.client_settings.specs.Settings.{CacheSettings}
use Rattle.right_trace.specs.Trace.{History, Conf, Came, after}
use Rattle.right_trace.specs.{Settings.Settings, Hit.AllHit, StaleServed.AllServeStale}
use Rattle.right_trace.specs.Right.{RightAfter, RowRight}
use Rattle.trace_hits.specs.declared.course.Course.{Course}
use Rattle.trace_hits.specs.Course.{met, PutsAll}
use Rattle.trace_hits.specs.Course as course
use Rattle.trace_hits.specs.{Replies.kept_of, Hits.TellsMissedHit, Stale.TellsMissedStale}
use Rattle.trace_hits.specs.Known.{HasCache, BehindRight, Known}
use Rattle.trace_hits.specs.Point as point
use Rattle.trace_hits.specs.Rows.{Owed, Left, FailsAt, TellsAt, Steps}
use Rattle.trace_hits.specs.Row.{room_of, Hit, Whatever}
use Rattle.trace_hits.specs.Serving.{Serve, KnowFailures}
use Rattle.trace_hits.specs.declared.failures.Failures.{Failures}
use Rattle.trace_hits.proofs.Behind.{behind_nothing, behind_row}
use Rattle.trace_hits.proofs.Keeping.{known_event, known_outs}
use Rattle.trace_hits.proofs.Points as points

-- ---- what is left behind so many

none_left : {A : Type 0} (n : ℕ) (xs : List A) → length xs ≤ n → drop n xs ≡ []
none_left zero [] e = refl
none_left (suc n) [] e = refl
none_left zero (y ∷ ys) e = absurd (omega arith)
none_left (suc n) (y ∷ ys) e = none_left n ys (omega arith)

next_at : {A : Type 0} (n : ℕ) (x : A) (xs : List A) → n < length xs → x ≡ get_or xs n x → drop n xs ≡ x ∷ drop (suc n) xs
next_at zero x [] h e = absurd (omega arith)
next_at (suc n) x [] h e = absurd (omega arith)
next_at zero x (y ∷ ys) h e = cc
next_at (suc n) x (y ∷ ys) h e = next_at n x ys (omega arith) e

left_at : {A : Type 0} (n : ℕ) (x : A) (xs : List A) → n < length xs → x ≡ get_or xs n x → drop n xs ≡ x ∷ drop (n + 1) xs
left_at n x xs h e = let same : suc n ≡ n + 1 = omega arith in subst (λ m. drop n xs ≡ x ∷ drop m xs) same (next_at n x xs h e)

-- a row goes by
pub steps : (P : Owed) (E : Left) (cache : CacheSettings) (row : Row) (old mid new : Course) (b : Bool) → ((c : Conf) (s : Settings) (x : History) (rows : List Row) → BehindRight x → RowRight c s x row → E c s x (row ∷ rows) → E c s (after row x) rows)
    → mid ≡ met row.event old → TellsAt P E cache mid row b → PutsAll cache row.outs mid new → Steps P E cache row old new b
steps P E cache row old mid new b on is told puts c s x rows has behind known left right = record {
  behind = behind_row c s x row right behind;
  known = known_outs c s cache has x row.event.what (after row x) row.outs (Came row.event ∷ x) mid new refl refl right.outs puts (subst (Known c s (Came row.event ∷ x)) (sym is) (known_event c s row.event x old behind known));
  left = on c s x rows behind right left;
  answer = told c s x rows old has behind known left is right;
}

pub known_nothing : (c : Conf) (s : Settings) (t : Course) → t.point ≡ point.nothing → t.replies ≡ [] → Known c s [] t
known_nothing c s t at none = record {
  point = subst (point.Known []) (sym at) points.known_nothing;
  so = λ k z e. absurd (let i : None ≡ Some z = sym (ap (λ t. kept_of k t) none) ∙ e in cc);
  back = λ q j u moment n but m asked got. absurd got;
}

-- an answer on rows behind so many
abbrev pub behind : (n : ℕ) → Option ℕ → Option ℕ
behind n None = None
behind n (Some m) = Some (n + m)

-- all rows keep what they owe
abbrev AllKeep : Owed → Conf → Settings → (past : History) → List Row → Type 0
AllKeep P c s past [] = Unit {0}
AllKeep P c s past (row ∷ rows) = P c s past row rows × AllKeep P c s (after row past) rows

abbrev pub IsFirst : Owed → Option ℕ → Conf → Settings → (past : History) → List Row → Type 0
IsFirst P None c s past rows = AllKeep P c s past rows
IsFirst P (Some n) c s past rows = FailsAt P n c s past rows

zero_behind : (o : Option ℕ) → behind 0 o ≡ o
zero_behind None = refl
zero_behind (Some m) = ap Some (omega arith)

two_behind : (n : ℕ) (o : Option ℕ) → behind n (behind 1 o) ≡ behind (n + 1) o
two_behind n None = refl
two_behind n (Some m) = ap Some (omega arith)

module _ (P : Owed) (E : Left) (cache : CacheSettings) where
  -- rows went by up to a point: what is said of those that are left is said of all
  pub record IsAmid (c : Conf) (s : Settings) (rows rest : List Row) (n : ℕ) (t : Course) : Type 0 where
    pub x : History
    pub so_far : BehindRight x
    pub known : Known c s x t
    pub left : E c s x rest
    pub right : RightAfter c s x rest
    pub said : (o : Option ℕ) → IsFirst P o c s x rest → IsFirst P (behind n o) c s [] rows

  abbrev pub Amid : (rows rest : List Row) → (n : ℕ) → Course → Type 0
  Amid rows rest n t = (c : Conf) (s : Settings) → HasCache cache s → RightAfter c s [] rows → E c s [] rows → IsAmid c s rows rest n t

  -- the answer
  abbrev pub TellsFirst : List Row → Option ℕ → Type 0
  TellsFirst rows o = (c : Conf) (s : Settings) → HasCache cache s → RightAfter c s [] rows → E c s [] rows → IsFirst P o c s [] rows

  pub begins : (rows : List Row) (t : Course) → t.point ≡ point.nothing → t.replies ≡ [] → Amid rows rows 0 t
  begins rows t at none c s has right left = record {
    x = [];
    so_far = behind_nothing;
    known = known_nothing c s t at none;
    left = left;
    right = right;
    said = λ o i. subst (λ o. IsFirst P o c s [] rows) (sym (zero_behind o)) i;
  }

  one_more : (c : Conf) (s : Settings) (x : History) (row : Row) (rows : List Row) (o : Option ℕ) → P c s x row rows → IsFirst P o c s (after row x) rows → IsFirst P (behind 1 o) c s x (row ∷ rows)
  one_more c s x row rows None h i = (h, i)
  one_more c s x row rows (Some m) h i = subst (λ n. IsFirst P (Some n) c s x (row ∷ rows)) (next m) (h, i)
    where
      next : (m : ℕ) → suc m ≡ 1 + m
      next m = omega arith

  goes_on : (rows rest : List Row) (n : ℕ) (row : Row) (old new : Course) (b : Bool) → b ≡ false → Steps P E cache row old new b → Amid rows (row ∷ rest) n old → Amid rows rest (n + 1) new
  goes_on rows rest n row old new b e step a c s has right left =
      let i = a c s has right left in
      let d = step c s i.x rest has i.so_far i.known i.left i.right.0 in
      let kept = d.answer.held e in
      record {
        x = after row i.x;
        so_far = d.behind;
        known = d.known;
        left = d.left;
        right = i.right.1;
        said = λ o q. subst (λ o. IsFirst P o c s [] rows) (two_behind n o) (i.said (behind 1 o) (one_more c s i.x row rest o kept q));
      }

  stops : (rows rest : List Row) (n : ℕ) (row : Row) (old new : Course) (b : Bool) → b ≡ true → Steps P E cache row old new b → Amid rows (row ∷ rest) n old → TellsFirst rows (Some n)
  stops rows rest n row old new b e step a c s has right left =
      let i = a c s has right left in
      let d = step c s i.x rest has i.so_far i.known i.left i.right.0 in
      subst (λ m. IsFirst P (Some m) c s [] rows) (same n) (i.said (Some zero) (d.answer.missed e))
    where
      same : (n : ℕ) → n + zero ≡ n
      same n = omega arith

  ends : (rows : List Row) (n : ℕ) (t : Course) → Amid rows [] n t → TellsFirst rows None
  ends rows n t a c s has right left = let i = a c s has right left in i.said None tt

  -- the same by places
  pub goes_on_at : (rows : List Row) (n : ℕ) (row : Row) (old new : Course) (b : Bool) → n < length rows → row ≡ get_or rows n row → b ≡ false → Steps P E cache row old new b → Amid rows (drop n rows) n old → Amid rows (drop (n + 1) rows) (n + 1) new
  goes_on_at rows n row old new b h at e step a = goes_on rows (drop (n + 1) rows) n row old new b e step (subst (λ rest. Amid rows rest n old) (left_at n row rows h at) a)

  pub stops_at : (rows : List Row) (n : ℕ) (row : Row) (old new : Course) (b : Bool) → n < length rows → row ≡ get_or rows n row → b ≡ true → Steps P E cache row old new b → Amid rows (drop n rows) n old → TellsFirst rows (Some n)
  stops_at rows n row old new b h at e step a = stops rows (drop (n + 1) rows) n row old new b e step (subst (λ rest. Amid rows rest n old) (left_at n row rows h at) a)

  pub ends_at : (rows : List Row) (n : ℕ) (t : Course) → length rows ≤ n → Amid rows (drop n rows) n t → TellsFirst rows None
  ends_at rows n t h a = ends rows n t (subst (λ rest. Amid rows rest n t) (none_left n rows h) a)

-- ---- both answers

all_hit : (cache : CacheSettings) (c : Conf) (s : Settings) (x : History) (rows : List Row) → AllKeep (Hit cache) c s x rows → AllHit c s composed (room_of cache) x rows
all_hit cache c s x [] k = tt
all_hit cache c s x (row ∷ rows) k = (k.0, all_hit cache c s (after row x) rows k.1)

pub told_hit : (cache : CacheSettings) (rows : List Row) (o : Option ℕ) → TellsFirst (Hit cache) Whatever cache rows o → TellsMissedHit cache rows o
told_hit cache rows None t c s has right = all_hit cache c s [] rows (t c s has right tt)
told_hit cache rows (Some n) t c s has right = t c s has right tt

all_serve : (cache : CacheSettings) (c : Conf) (s : Settings) (x : History) (rows : List Row) → AllKeep (Serve cache) c s x rows → AllServeStale c s (room_of cache) x rows
all_serve cache c s x [] k = tt
all_serve cache c s x (row ∷ rows) k = (k.0, all_serve cache c s (after row x) rows k.1)

pub told_stale : (c : Conf) (cache : CacheSettings) (f : Failures) (rows : List Row) (o : Option ℕ) → ((s : Settings) → RightAfter c s [] rows → KnowFailures cache f c s [] rows) → TellsFirst (Serve cache) (KnowFailures cache f) cache rows o → TellsMissedStale c cache rows o
told_stale c cache f rows None known t s has right = all_serve cache c s [] rows (t c s has right (known s right))
told_stale c cache f rows (Some n) known t s has right = t c s has right (known s right)

-- outs are put up to a point
abbrev pub Puts : CacheSettings → (outs rest : List Out) → (start now : Course) → Type 0
Puts cache outs rest start now = (new : Course) → PutsAll cache rest now new → PutsAll cache outs start new

pub puts_begin : (cache : CacheSettings) (outs : List Out) (t : Course) → Puts cache outs outs t t
puts_begin cache outs t new p = p

pub puts_more : (cache : CacheSettings) (outs rest : List Out) (o : Out) (start now next : Course) → Puts cache outs (o ∷ rest) start now → course.Puts cache o now next → Puts cache outs rest start next
puts_more cache outs rest o start now next f p new q = f new (next, p, q)

pub puts_end : (cache : CacheSettings) (outs : List Out) (start now : Course) → Puts cache outs [] start now → PutsAll cache outs start now
puts_end cache outs start now f = f now refl

pub puts_more_at : (cache : CacheSettings) (outs : List Out) (n : ℕ) (o : Out) (start now next : Course) → n < length outs → o ≡ get_or outs n o → Puts cache outs (drop n outs) start now → course.Puts cache o now next → Puts cache outs (drop (n + 1) outs) start next
puts_more_at cache outs n o start now next h at f p = puts_more cache outs (drop (n + 1) outs) o start now next (subst (λ rest. Puts cache outs rest start now) (left_at n o outs h at) f) p

pub puts_end_at : (cache : CacheSettings) (outs : List Out) (n : ℕ) (start now : Course) → length outs ≤ n → Puts cache outs (drop n outs) start now → PutsAll cache outs start now
puts_end_at cache outs n start now h f = puts_end cache outs start now (subst (λ rest. Puts cache outs rest start now) (none_left n outs h) f)
