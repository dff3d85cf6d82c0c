use Rattle.std.proofs.Common.{rules, Err, subst, sym, ◌∙◌}
use Rattle.forward_words.specs.Options.{AllAnswer}
use Rattle.forward_words.specs.declared.wrong.Fault.{Fault}
use Rattle.forward_words.proofs.Taken.{goes_on, goes_silent, no_value, no_words, other_word, stops}
use Rattle.forward_words.proofs.taking.take_all.Goals as goal

pub loop-name-preserved-then-is_silent : goal.loop-name-preserved-then-is_silent
loop-name-preserved-then-is_silent c = record {
  counted = search rules;
  follows = λ answer h. c.loop-name.invariant.follows answer
      (goes_silent c.loop-name.at c.loop-name.rest.now c.in-Some.more.now c.in-Some.name.now c.as_str-called.result.now c.loop-name.options answer
      (search rules) (search rules) (sym c.is_silent.ensures ∙ c.if-is_silent.true) h);
}

pub returns-in_default-split_first : goal.returns-in_default-split_first
returns-in_default-split_first c = c.loop-name.invariant.follows _
    (no_value c.loop-name.at c.loop-name.rest.now c.in-Some.more.now c.in-Some.name.now c.as_str-called.result.now c.loop-name.options
    (search rules) (search rules) (sym c.is_silent.ensures ∙ c.if-is_silent.false) c.in_default-split_first.ensures.cases)

pub returns-in_default-kind_of : goal.returns-in_default-kind_of
returns-in_default-kind_of c = c.loop-name.invariant.follows _
    (other_word c.loop-name.at c.loop-name.rest.now c.in-Some.more.now c.in-Some-split_first.behind.now c.in-Some.name.now c.in-Some-split_first.value.now c.as_str-called.result.now c.loop-name.options
    (search rules) (search rules) (search rules) (sym c.is_silent.ensures ∙ c.if-is_silent.false) (search rules))

pub loop-name-preserved : goal.loop-name-preserved
loop-name-preserved c = record {
  counted = search rules;
  follows = λ answer h. c.loop-name.invariant.follows answer
      (goes_on c.loop-name.at c.loop-name.rest.now c.in-Some.more.now c.in-Some-split_first.behind.now c.in-Some.name.now c.in-Some-split_first.value.now c.in-Some-kind_of.kind c.as_str-called.result.now c.as_str.result.now c.loop-name.options c.take.new.self answer
      (search rules) (search rules) (search rules) (search rules) (sym c.is_silent.ensures ∙ c.if-is_silent.false) (search rules) c.in-Ok.ensures h);
}

pub returns-in-Err : goal.returns-in-Err
returns-in-Err c =
    subst (λ (fault : Fault). AllAnswer c.args.words.now c.args.options.now (Err fault) c.take.new.self) (sym c.fault_at.ensures)
    (stops c.loop-name.at c.loop-name.rest.now c.in-Some.more.now c.in-Some-split_first.behind.now c.in-Some.name.now c.in-Some-split_first.value.now c.in-Some-kind_of.kind c.as_str-called.result.now c.as_str.result.now c.loop-name.options c.take.new.self c.in-Err.fault c.args.words.now c.args.options.now
    (search rules) (search rules) (search rules) (search rules) (sym c.is_silent.ensures ∙ c.if-is_silent.false) (search rules) c.loop-name.invariant.follows c.in-Err.ensures)

pub returns : goal.returns
returns c = c.loop-name.invariant.follows _ (no_words c.loop-name.at c.loop-name.rest.now c.loop-name.options c.in_default.ensures.cases)
