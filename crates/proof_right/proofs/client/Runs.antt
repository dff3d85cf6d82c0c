-- A whole run: each row is right and timely.
use Rattle.proof_right.proofs.PartLaws.{machine_of, Part}
use Rattle.std.proofs.Common.{◌≡◌, List, [], ◌∷◌, refl, sym, subst}
use Rattle.std.specs.Prelude.{map, Result}
use Rattle.client_request.specs.Request.{Request}
use Rattle.client_request.specs.declared.error.Error.{Error}
use Rattle.client_request.specs.declared.event.What.{What}
use Rattle.client_request.specs.declared.event.What.TheVariants.{Tick}
use Rattle.client_request.specs.declared.event.Out.{Out}
use Rattle.client_request.specs.declared.event.Row.{Row}
use Rattle.right_trace.specs.Trace.{History, Conf, Came, put_all, after}
use Rattle.right_trace.specs.Messages.{Octets, Composes}
use Rattle.right_trace.specs.Timely.{AllAskedInOctets, IsAskedInOctets, TimelyAfter, Timely}
use Rattle.right_trace.specs.Settings.{Settings}
use Rattle.right_trace.specs.Right.{RowRight, RightAfter, Right}
use Rattle.proof_right.specs.machine.Client.{Upper, Made, IsDone, IsStep, IsRun, Ends, Goes_on, row_begins, begun}
use Rattle.proof_right.proofs.client.Kept.{Kept}
use Rattle.proof_right.proofs.client.Beginning.{begun_kept, begun_done, busy_here, places_here, in_time_here, row_kept}
use Rattle.proof_right.proofs.client.Steps.{moves_do}
use Rattle.proof_right.proofs.client.Promptness.{message_is_reply}
use Rattle.proof_right.proofs.client.Faults.{row_faults}

module _ (c : Conf) (s : Settings) (compose : Request → Result Octets Error) (composes : Composes c compose) (P : Part c) where
  record RowDone (past : History) (row : Row) (x' : Upper P.State) : Type 0 where
    pub right : RowRight c s past row
    pub kept : Kept c s P past row.event.what x' (after row past)
    pub done : IsDone c s compose (machine_of P) x'

  row_done : (old past : History) (u : What) (x : Upper P.State) (row : Row) (x' : Upper P.State) → Kept c s P old u x past → IsDone c s compose (machine_of P) x → IsAskedInOctets row.event.what → IsStep c s compose (machine_of P) x row x' → RowDone past row x'
  row_done old past u x row x' kept done octets step =
      let w : What = row.event.what in
      let h : History = Came row.event ∷ past in
      let k = row_kept c s compose P old u x past kept done row.event octets in
      let d : Made P.State = step.made in
      let a = moves_do c s compose composes P past w (row_begins c s compose (machine_of P) row.event x) h d k step.moves in
      let end : History = put_all d.outs h in
      let go : (outs : List Out) → row.outs ≡ outs → outs ≡ d.outs → RowDone past (record { event = row.event; outs = outs }) d.state = λ outs e f.
      subst (λ o. RowDone past (record { event = row.event; outs = o }) d.state) (sym f)
      (record {
        right = record {
          outs = a.right end (λ k r. r);
          busy = λ served. busy_here c s compose P past w d.state end a.leaves a.done;
          places = places_here c s compose P past w d.state end a.leaves a.done;
          prompt = λ r v i p j id m matches final in_time no_excuse.
              (let st = matches.comes.is_open.stands in
              message_is_reply c s compose composes P past row.event r v i p j id (st.asked.0) m end matches final st.asked.1 in_time old u x d kept done st.waiting k step.moves matches no_excuse);
          marks = a.marks;
          one_fault = λ quiet. row_faults c s compose composes P past w quiet (row_begins c s compose (machine_of P) row.event x) h d k done.board done.leaving step.moves;
        };
        kept = a.leaves;
        done = a.done;
      }) in
      subst (λ z. RowDone past row z) (sym step.leaves) (go row.outs refl step.outs)

  rows_right : (x : Upper P.State) (rows : List Row) (old past : History) (u : What) → Kept c s P old u x past → IsDone c s compose (machine_of P) x → AllAskedInOctets (map (λ row. row.event) rows) → IsRun c s compose (machine_of P) x rows → RightAfter c s past rows × TimelyAfter c past rows
  rows_right _ _ old past u kept done octets (Ends x) = (tt, tt)
  rows_right _ _ old past u kept done octets (Goes_on x row x' rows step more) =
      let d = row_done old past u x row x' kept done octets.0 step in
      let rest = rows_right x' rows past (after row past) row.event.what d.kept d.done octets.1 more in
      ((d.right, rest.0), (in_time_here c s compose P past row.event.what x' (after row past) d.kept d.done, rest.1))

-- Every run of a client over any servers' parts is right and timely, with deferring and the cache, however messages are composed and whatever is chosen.
abbrev pub EveryRunOverPartsIsRight : Type 1
EveryRunOverPartsIsRight = (c : Conf) (s : Settings) (compose : Request → Result Octets Error) (P : Part c) (rows : List Row)
    → Composes c compose → AllAskedInOctets (map (λ row. row.event) rows) → IsRun c s compose (machine_of P) (begun c s compose (machine_of P)) rows → Right c s rows × Timely c rows

pub run_right : EveryRunOverPartsIsRight
run_right c s compose P rows composes octets run = rows_right c s compose composes P (begun c s compose (machine_of P)) rows [] [] Tick (begun_kept c s compose P) (begun_done c s compose P) octets run
