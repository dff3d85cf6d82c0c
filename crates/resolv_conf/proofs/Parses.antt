-- What taking the lines of a text answers.
use Rattle.std.proofs.Common.{◌≡◌, ◌≤◌, ◌+◌, ℕ, List, [], ◌∷◌, length, refl, sym, subst, Option, Some, None, IfSome, Result, Ok, Err, inr, arith}
use Rattle.dns_values.specs.Source.{most_text}
use Rattle.resolv_conf.specs.declared.conf.ResolvConf.{ResolvConf}
use Rattle.resolv_conf.specs.declared.error.Error.{Error}
use Rattle.resolv_conf.specs.declared.error.Error.TheVariants.{ParseError, Io, TooLong, NoMemory}
use Rattle.resolv_conf.specs.declared.error.IoFault.TheVariants.{Read, NotUtf8}
use Rattle.resolv_conf.specs.Parse.{LineAnswers, LinesAnswer, ParseAnswers, no_line, bad_line, good_line}
use Rattle.resolv_conf.specs.Words.{lines_of}

abbrev Taken : Result (Unit {0}) Error → Type 0
Taken (Ok u) = Unit {0}
Taken (Err (ParseError n)) = Unit {0}
Taken (Err (Io Read)) = ⊥
Taken (Err (Io (NotUtf8 n))) = Unit {0}
Taken (Err TooLong) = ⊥
Taken (Err NoMemory) = Unit {0}

one_taken : (n : ℕ) (line : List ℕ) (conf new : ResolvConf) (e : Error) → LineAnswers n line conf (Err e) new → Taken (Err e)
one_taken n line conf new (ParseError m) h = tt
one_taken n line conf new (Io Read) h = h
one_taken n line conf new (Io (NotUtf8 m)) h = tt
one_taken n line conf new TooLong h = h
one_taken n line conf new NoMemory h = tt

-- lines answer neither that a text is too long nor that it wasn't read
taken : (n : ℕ) (lines : List (List ℕ)) (conf : ResolvConf) (answer : Result (Unit {0}) Error) (new : ResolvConf)
    → LinesAnswer n lines conf answer new → Taken answer
taken n lines conf answer new (no_line m c) = tt
taken n lines conf answer new (bad_line m line more c d e h) = one_taken m line c d e h
taken n lines conf answer new (good_line m line more c mid d a h rest) = taken (m + 1) more mid a d rest

pub not_long : (n : ℕ) (lines : List (List ℕ)) (conf new : ResolvConf) (answer : Result (Unit {0}) Error)
    → LinesAnswer n lines conf answer new → answer ≡ Err TooLong → ⊥
not_long n lines conf new answer h e = subst Taken e (taken n lines conf answer new h)

pub not_unread : (n : ℕ) (lines : List (List ℕ)) (conf new : ResolvConf) (answer : Result (Unit {0}) Error)
    → LinesAnswer n lines conf answer new → answer ≡ Err (Io Read) → ⊥
not_unread n lines conf new answer h e = subst Taken e (taken n lines conf answer new h)

answered : (text : List ℕ) (conf new : ResolvConf) (answer : Result (Unit {0}) Error) → length text ≤ most_text
    → LinesAnswer 1 (lines_of text) conf answer new → ParseAnswers text conf answer new
answered text conf new (Ok u) h l = (h, l)
answered text conf new (Err (ParseError n)) h l = (h, l)
answered text conf new (Err (Io Read)) h l = absurd (not_unread 1 (lines_of text) conf new (Err (Io Read)) l refl)
answered text conf new (Err (Io (NotUtf8 n))) h l = (h, l)
answered text conf new (Err TooLong) h l = absurd (not_long 1 (lines_of text) conf new (Err TooLong) l refl)
answered text conf new (Err NoMemory) h l = inr l

pub told_answer : (left after : Option (List ℕ)) (text : List ℕ) (conf new : ResolvConf) (answer : Result (Unit {0}) Error)
    → length text ≤ most_text → IfSome left (λ xs. (text ≡ xs) × (after ≡ Some []))
    → LinesAnswer 1 (lines_of text) conf answer new → IfSome left (λ xs. ParseAnswers xs conf answer new)
told_answer None after text conf new answer h told l = tt
told_answer (Some xs) after text conf new answer h told l =
    let P : List ℕ → Type 0 = λ t. ParseAnswers t conf answer new in subst P told.0 (answered text conf new answer h l)

pub stops : (n : ℕ) (text line behind : List ℕ) (conf new : ResolvConf) (e : Error) → lines_of text ≡ line ∷ lines_of behind
    → LineAnswers n line conf (Err e) new → LinesAnswer n (lines_of text) conf (Err e) new
stops n text line behind conf new e first h =
    let P : List (List ℕ) → Type 0 = λ ls. LinesAnswer n ls conf (Err e) new in
    subst P (sym first) (bad_line n line (lines_of behind) conf new e h)

pub goes_on : (n : ℕ) (text line behind : List ℕ) (conf mid new : ResolvConf) (answer : Result (Unit {0}) Error)
    → lines_of text ≡ line ∷ lines_of behind → LineAnswers n line conf (Ok tt) mid
    → LinesAnswer (n + 1) (lines_of behind) mid answer new → LinesAnswer n (lines_of text) conf answer new
goes_on n text line behind conf mid new answer first h rest =
    let P : List (List ℕ) → Type 0 = λ ls. LinesAnswer n ls conf answer new in
    subst P (sym first) (good_line n line (lines_of behind) conf mid new answer h rest)

pub ends : (n : ℕ) (text : List ℕ) (conf : ResolvConf) → length text ≡ 0 → LinesAnswer n (lines_of text) conf (Ok tt) conf
ends n [] conf e = no_line n conf
ends n (c ∷ text) conf e = absurd (omega arith)
