use Rattle.std.proofs.Common.{rules}
use Rattle.zone_fetch_run.specs.Words.{WordsGive}
use Rattle.zone_fetch_run.proofs.Taken.{ends, goes_on, stops_at}
use Rattle.zone_fetch_run.proofs.command.Said.take_all.Goals as goal

pub returns-in-Err : goal.returns-in-Err
returns-in-Err c =
    stops_at c.loop-word.at c.loop-word.rest.now c.in-Some.word.now c.in-Some.behind.now c.as_str.result.now c.loop-word.self c.take.new.self c.in-Err.fault c.fault_at.result
    (WordsGive 0 c.args.words.now c.args.self.now) (search rules) (search rules) c.fault_at.ensures c.loop-word.invariant.follows c.in-Err.ensures

pub loop-word-preserved : goal.loop-word-preserved
loop-word-preserved c = record {
  counted = (search rules);
  follows = λ answer h. c.loop-word.invariant.follows answer
      (goes_on c.loop-word.at c.loop-word.rest.now c.in-Some.word.now c.in-Some.behind.now c.as_str.result.now c.loop-word.self c.take.new.self answer (search rules) (search rules) c.in-Ok.ensures h);
}

pub returns : goal.returns
returns c = c.loop-word.invariant.follows _ (ends c.loop-word.at c.loop-word.rest.now c.loop-word.self c.in_default.ensures.cases)
