-- Four rows of a history of three threads, and what is done of them: docs/DEFINITIONS.md tells them.
use Rattle.std.proofs.Common.{◌≡◌, ℕ, List, [], ◌∷◌, map, take, Some, refl}
use Rattle.client_request.specs.declared.event.Moment.{Moment}
use Rattle.client_request.specs.declared.event.Out.{Out}
use Rattle.client_request.specs.declared.event.What.TheVariants.{Tick}
use Rattle.forward_run.specs.declared.front.FrontDeed.TheVariants.{Acted, Polled}
use Rattle.front_peers.specs.declared.event.FrontOut.{FrontOut}
use Rattle.front_peers.specs.declared.event.FrontOut.TheVariants as outs
use Rattle.front_peers.specs.declared.event.FrontRow.{FrontRow}
use Rattle.front_peers.specs.declared.event.FrontWhat.{FrontWhat}
use Rattle.front_peers.specs.declared.event.FrontWhat.TheVariants as whats
use Rattle.front_shared.specs.History.{entry_of}
use Rattle.front_shared.specs.Waiting.{waits_after}
use Rattle.front_shared.specs.declared.entry.Entry.{Entry}
use Rattle.front_shared.specs.declared.entry.Item.TheVariants.{Made}
use Rattle.forward_workers.specs.Sharing.{rows_by}
use Rattle.forward_workers.specs.Working.{worker_answers, worker_deeds}

module _ (moment : Moment) (opening : Out) (query answer : List ℕ) where
  abbrev row : FrontWhat → List FrontOut → FrontRow
  row what put_out = record { event = record { moment = moment; what = what }; outs = put_out }

  abbrev came : ℕ → FrontWhat
  came peer = whats.Datagram peer query

  -- worker 1 asks a server, worker 2 is answered at once, nothing came of the first thread's poll, and worker 1 has an answer for two
  abbrev entries : List Entry
  entries =
      entry_of 1 (row (came 7) (outs.Core opening ∷ []))
      ∷ entry_of 2 (row (came 9) (outs.Answer 9 answer ∷ []))
      ∷ entry_of 0 (row (whats.Core Tick) [])
      ∷ entry_of 1 (row (came 7) (outs.Answer 7 answer ∷ outs.Answer 4611686018427387904 answer ∷ []))
      ∷ []

  opening_waits : waits_after (take 2 entries) ≡ outs.Core opening ∷ []
  opening_waits = refl

  first_is_told : waits_after (take 3 entries) ≡ []
  first_is_told = refl

  answer_by_stream_waits : waits_after entries ≡ outs.Answer 4611686018427387904 answer ∷ []
  answer_by_stream_waits = refl

  worker_1_did : worker_deeds (rows_by 1 (map Made entries)) ≡ Polled (Some (came 7)) ∷ Polled (Some (came 7)) ∷ Acted (outs.Answer 7 answer) ∷ []
  worker_1_did = refl

  worker_2_did : worker_deeds (rows_by 2 (map Made entries)) ≡ Polled (Some (came 9)) ∷ Acted (outs.Answer 9 answer) ∷ []
  worker_2_did = refl

  worker_1_answered : worker_answers (rows_by 1 (map Made entries)) ≡ 1
  worker_1_answered = refl
