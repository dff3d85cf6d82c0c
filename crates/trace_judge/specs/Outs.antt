-- What is said of an out where it is put.
use Rattle.std.specs.Prelude.{ℕ, ◌∷◌, Bool, Option}
use Rattle.client_request.specs.declared.event.{Out.Out, Out.TheVariants.Reply, What.What}
use Rattle.right_trace.specs.Trace.{History, Conf, Put, after}
use Rattle.right_trace.specs.{Settings.Settings, Busy.EndsBadly}
use Rattle.trace_points.specs.questions.Outs.{Tells}
use Rattle.trace_outs.specs.busy.Backs.{TellsEnd}
use Rattle.trace_replies.specs.given.Earlier as replies
use Rattle.trace_outs.specs.Outs.{OutOwes}
use Rattle.trace_judge.specs.clauses.Clauses.{MessageOwes, ReplyOwesFirst, ErrorOwes, OtherOwes}
use Rattle.trace_judge.specs.declared.case.{Case.Case, Mark.Mark}
use Rattle.trace_judge.specs.declared.course.Course.{Course}
use Rattle.trace_judge.specs.declared.outs.{Kept.Kept, Said.Said}
use Rattle.trace_judge.specs.Known.{MarkKnown, conf_in, settings_in, event_in}
use Rattle.trace_judge.specs.Replies.{AtPoints}

-- an out is no reply
abbrev pub IsOther : Out → Type 0
IsOther (Reply k x) = ⊥
IsOther _ = Unit {0}

-- which clauses an out keeps, where the row is done at `end`
pub record IsKept (c : Conf) (s : Settings) (x : History) (w : What) (end h : History) (o : Out) (k : Kept) : Type 0 where
  pub messages : Tells (MessageOwes c s x w h o) k.messages
  pub firsts : Tells (ReplyOwesFirst h o) k.firsts
  pub causes : Tells (ErrorOwes c s x w h o) k.causes
  pub orders : Tells (OtherOwes c s x w end h o) k.orders

pub record IsSaid (c : Conf) (s : Settings) (x : History) (w : What) (end h : History) (o : Out) (a : Said) : Type 0 where
  pub kept : IsKept c s x w end h o a.kept
  pub given : replies.IsTold c s o a.given h
  pub bad : TellsEnd c o h a.is_bad
  pub mark : MarkKnown c s x (Put o ∷ h) a.mark

abbrev pub TellsSaid : Case → Course → Out → Said → Type 0
TellsSaid p t o a = AtPoints p t (λ x h. IsSaid (conf_in p) (settings_in p) x (event_in p) (after p.row.now x) h o a)

abbrev pub TellsOut : Case → Course → Out → Bool → Type 0
TellsOut p t o b = AtPoints p t (λ x h. Tells (OutOwes (conf_in p) x (event_in p) h (after p.row.now x) o) b)

abbrev pub TellsBadEnd : Case → Course → (place : ℕ) → Bool → Type 0
TellsBadEnd p t q b = AtPoints p t (λ x h. Tells (EndsBadly (conf_in p) q h) b)

abbrev pub TellsBad : Case → Course → Out → Bool → Type 0
TellsBad p t o b = AtPoints p t (λ x h. TellsEnd (conf_in p) o h b)

abbrev pub TellsMark : Case → Course → Out → Option Mark → Type 0
TellsMark p t o m = AtPoints p t (λ x h. MarkKnown (conf_in p) (settings_in p) x (Put o ∷ h) m)
