-- What each row owes, and which is the first that does not keep it.
use Rattle.std.specs.Prelude.{◌≡◌, ℕ, zero, suc, Bool, true, false, List, [], ◌∷◌}
use Rattle.client_request.specs.declared.event.Row.{Row}
use Rattle.client_settings.specs.Settings.{CacheSettings}
use Rattle.right_trace.specs.Trace.{History, Conf, after}
use Rattle.right_trace.specs.{Settings.Settings, Right.RowRight}
use Rattle.trace_hits.specs.declared.course.Course.{Course}
use Rattle.trace_hits.specs.Course.{met}
use Rattle.trace_hits.specs.Known.{HasCache, BehindRight, Known}

-- what a row owes, of what happened before it and of the rows behind it
abbrev pub Owed : Type 1
Owed = Conf → Settings → (past : History) → Row → List Row → Type 0

-- row n is the first that does not keep it
abbrev pub FailsAt : Owed → ℕ → Conf → Settings → (past : History) → List Row → Type 0
FailsAt P zero c s past (row ∷ rows) = P c s past row rows → ⊥
FailsAt P (suc n) c s past (row ∷ rows) = P c s past row rows × FailsAt P n c s (after row past) rows
FailsAt P n c s past [] = ⊥

-- the answer whether this is missed
pub record IsAnswer (P : Type 0) (b : Bool) : Type 0 where
  pub missed : b ≡ true → P → ⊥
  pub held : b ≡ false → P

-- what is known of the rows that are left
abbrev pub Left : Type 1
Left = Conf → Settings → (past : History) → List Row → Type 0

-- The answer of a row whose event has come, behind each history that is known and where the row is right.
abbrev pub TellsAt : Owed → Left → CacheSettings → Course → Row → Bool → Type 0
TellsAt P E cache t row b =
    (c : Conf) (s : Settings) (x : History) (rows : List Row) (old : Course) → HasCache cache s → BehindRight x → Known c s x old → E c s x (row ∷ rows) → t ≡ met row.event old → RowRight c s x row → IsAnswer (P c s x row rows) b

-- a row goes by, and it is told whether it keeps what it owes
pub record IsStep (P : Owed) (E : Left) (c : Conf) (s : Settings) (x : History) (row : Row) (rows : List Row) (new : Course) (b : Bool) : Type 0 where
  pub behind : BehindRight (after row x)
  pub known : Known c s (after row x) new
  pub left : E c s (after row x) rows
  pub answer : IsAnswer (P c s x row rows) b

abbrev pub Steps : Owed → Left → CacheSettings → Row → (old new : Course) → Bool → Type 0
Steps P E cache row old new b = (c : Conf) (s : Settings) (x : History) (rows : List Row) → HasCache cache s → BehindRight x → Known c s x old → E c s x (row ∷ rows) → RowRight c s x row → IsStep P E c s x row rows new b
