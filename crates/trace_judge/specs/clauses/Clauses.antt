-- A right row, clause by clause: its event, what its replies, its errors and its other outs owe, and that it is prompt.
use Rattle.std.specs.Prelude.{◌≡◌, ◌≤◌, true, List, [], ◌∷◌, Result, Ok, Err}
use Rattle.client_request.specs.declared.event.{Event.Event, What.What, Out.Out, Out.TheVariants.Reply, Row.Row}
use Rattle.right_trace.specs.Trace.{History, Conf, Came, Put, after}
use Rattle.right_trace.specs.Settings.{Settings, defers_nothing}
use Rattle.right_trace.specs.{Errors.HasCause, Stale.MessageIsRight, Orderly.PlacesAreMet}
use Rattle.right_trace.specs.Right.{HasServer, IsFirst, WaitingIsBusy, OutRight, MarksStand, Prompt, faults}

-- In what follows `past` is what happened before the row, `w` is the row's event, `h` is what happened up to an out, and `end` is what happened when the row is done.

-- each of these outs owes this, at the point where it is put
abbrev pub EachOwes : (Owes : History → Out → Type 0) → (h : History) → List Out → Type 0
EachOwes Owes h [] = Unit {0}
EachOwes Owes h (o ∷ os) = Owes h o × EachOwes Owes (Put o ∷ h) os

-- what a reply that is a message owes
abbrev pub MessageOwes : Conf → Settings → (past : History) → What → (h : History) → Out → Type 0
MessageOwes c s past w h (Reply k (Ok m)) = MessageIsRight c s k m past w h
MessageOwes c s past w h _ = Unit {0}

-- what each reply owes
abbrev pub ReplyOwesFirst : (h : History) → Out → Type 0
ReplyOwesFirst h (Reply k x) = IsFirst k h
ReplyOwesFirst h _ = Unit {0}

-- what a reply that is an error owes
abbrev pub ErrorOwes : Conf → Settings → (past : History) → What → (h : History) → Out → Type 0
ErrorOwes c s past w h (Reply k (Err e)) = HasCause c s e k past w h
ErrorOwes c s past w h _ = Unit {0}

-- what any other out owes
abbrev pub OtherOwes : Conf → Settings → (past : History) → What → (end h : History) → Out → Type 0
OtherOwes c s past w end h (Reply k x) = Unit {0}
OtherOwes c s past w end h o = OutRight c s past w h end o

-- what all other outs owe, and what requests and places owe when the row is done
pub record OutsAreOrderly (c : Conf) (s : Settings) (past : History) (row : Row) : Type 0 where
  pub outs : EachOwes (OtherOwes c s past row.event.what (after row past)) (Came row.event ∷ past) row.outs
  pub busy : HasServer c → WaitingIsBusy c (after row past)
  pub places : PlacesAreMet c s (after row past)
  pub marks : MarksStand row.outs

-- what all errors owe, alone and together
pub record ErrorsHaveCauses (c : Conf) (s : Settings) (past : History) (row : Row) : Type 0 where
  pub errors : EachOwes (ErrorOwes c s past row.event.what) (Came row.event ∷ past) row.outs
  pub one_fault : defers_nothing s ≡ true → faults row.outs ≤ 1

-- what may be wrong at a row, in the order in which it is asked
pub data Clause : Type 0 where
  Events : Clause
  Messages : Clause
  Firsts : Clause
  Causes : Clause
  Orders : Clause
  Prompts : Clause

-- a row keeps a clause, where this is the script's event
abbrev pub Keeps : Clause → Conf → Settings → (past : History) → Event → Row → Type 0
Keeps Events c s past e row = row.event ≡ e
Keeps Messages c s past e row = EachOwes (MessageOwes c s past row.event.what) (Came row.event ∷ past) row.outs
Keeps Firsts c s past e row = EachOwes ReplyOwesFirst (Came row.event ∷ past) row.outs
Keeps Causes c s past e row = ErrorsHaveCauses c s past row
Keeps Orders c s past e row = OutsAreOrderly c s past row
Keeps Prompts c s past e row = Prompt c s past row
