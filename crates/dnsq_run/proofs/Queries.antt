-- What is asked and answered.
use Rattle.std.proofs.Common.{◌≡◌, ℕ, ◌≤◌, List, map, Option, Result, subst, arith}
use Rattle.client_request.specs.Request.{Request}
use Rattle.client_request.specs.declared.error.Error.{Error}
use Rattle.proof_client.specs.Above.{AreWords}
use Rattle.proof_client.specs.Ties.{EveryPlainTraceIsRight}
use Rattle.client_settings.specs.Settings.{default_cache, default_redundant, seconds}
use Rattle.client_steps.specs.Whole.{Whole, started}
use Rattle.client_core.specs.declared.edge.Deed.{Deed}
use Rattle.client_core.specs.declared.edge.Deed.TheVariants.{Learned}
use Rattle.client_loop.specs.Asking.{IsAnswered, Scene, StopsForNumbers, rows_of, scene}
use Rattle.client_loop.specs.Turns.{after_deeds, events_of}
use Rattle.resolv_conf.specs.declared.conf.ResolvConf.{ResolvConf}
use Rattle.dnsq_run.specs.Query.{IsReplied, Stops, World, begun, request_of}
use Rattle.dnsq_run.specs.declared.query_words.Query.{Query}

-- the default keeps no answer for longer than a week
week : (default_cache).max_validity ≤ seconds 6048000
week = omega arith

-- what was answered to a new client whose edge learned its servers
pub replied : EveryPlainTraceIsRight → (q : Query) (conf : ResolvConf) (old new : World) → AreWords old.words → (client left : Whole) (request : Request) (deeds : Option (List Deed)) (waits later_waits : Option (List ℕ)) (polls : ℕ) (answer : Option (Result (List ℕ) Error))
    → client ≡ started default_redundant default_cache conf → request ≡ request_of q → deeds ≡ after_deeds (map (λ server. Learned server) conf.servers) old.deeds → polls ≡ old.polls
    → IsAnswered 0 1000000 request (scene client old.words deeds waits polls old.moments) (scene left new.words new.deeds later_waits new.polls new.moments) answer → IsReplied q conf old new answer
replied law q conf old new small client left request deeds waits later_waits polls answer is asks learned polled a =
    let same : scene client old.words deeds waits polls old.moments ≡ begun conf old waits = cc in
    let b : IsAnswered 0 1000000 (request_of q) (begun conf old waits) (scene left new.words new.deeds later_waits new.polls new.moments) answer =
    subst (λ (r : Request). IsAnswered 0 1000000 r (begun conf old waits) (scene left new.words new.deeds later_waits new.polls new.moments) answer) asks
    (subst (λ (s : Scene). IsAnswered 0 1000000 request s (scene left new.words new.deeds later_waits new.polls new.moments) answer) same a) in
    record {
      left = left;
      waits = waits;
      later_waits = later_waits;
      answered = b;
      right = (law default_redundant default_cache conf old.words (events_of (rows_of b.asked.asking b.asked.turns)) (rows_of b.asked.asking b.asked.turns) b.plain (record { limited = week; small = small; asked = b.asked.octets; octets = b.asked.comes })).0;
      timely = (law default_redundant default_cache conf old.words (events_of (rows_of b.asked.asking b.asked.turns)) (rows_of b.asked.asking b.asked.turns) b.plain (record { limited = week; small = small; asked = b.asked.octets; octets = b.asked.comes })).1;
    }

-- or a number would have passed 64 bits
pub stopped : (q : Query) (conf : ResolvConf) (old new : World) (client left : Whole) (request : Request) (deeds : Option (List Deed)) (waits later_waits : Option (List ℕ)) (polls : ℕ)
    → client ≡ started default_redundant default_cache conf → request ≡ request_of q → deeds ≡ after_deeds (map (λ server. Learned server) conf.servers) old.deeds → polls ≡ old.polls
    → StopsForNumbers request (scene client old.words deeds waits polls old.moments) (scene left new.words new.deeds later_waits new.polls new.moments) → Stops q conf old new
stopped q conf old new client left request deeds waits later_waits polls is asks learned polled s =
    let same : scene client old.words deeds waits polls old.moments ≡ begun conf old waits = cc in
    record {
      left = left;
      waits = waits;
      later_waits = later_waits;
      stopped =
          subst (λ (r : Request). StopsForNumbers r (begun conf old waits) (scene left new.words new.deeds later_waits new.polls new.moments)) asks
          (subst (λ (b : Scene). StopsForNumbers request b (scene left new.words new.deeds later_waits new.polls new.moments)) same s);
    }
