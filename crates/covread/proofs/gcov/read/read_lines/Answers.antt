use Rattle.std.proofs.Common.{◌∙◌, arith}
use Rattle.std.proofs.lemmas.Result.{err_from_is_err_and}
use Rattle.covread.specs.GcovSteps.{held_data}
use Rattle.covread.proofs.GcovLoop.{reading_begins, own_more, reading_room, own_stop, reading_end}
use Rattle.covread.proofs.gcov.read.read_lines.Goals as goal

pub loop-line-init : goal.loop-line-init
loop-line-init g c = record {
  reading = reading_begins c.args.test.now c.args.text.now c.into_iter-line-iterator.result (held_data c.new-reader.result) c.new-reader.ensures.held (c.into_iter-line-iterator.ensures.into_iter_gives ∙ c.lines-line-items.ensures.value);
  test = c.new-reader.ensures.test;
}

pub overflow_add-at : goal.overflow_add-at
overflow_add-at g c =
    omega (arith, reading_room c.args.test.now c.args.text.now c.loop-line.line-iterator c.in-Some.line.now c.next.new.self (held_data c.loop-line.reader) c.loop-line.at c.requires c.loop-line.invariant.reading c.in-Some.ensures.steps)

pub loop-line-preserved : goal.loop-line-preserved
loop-line-preserved g c = record {
  reading = own_more c.args.test.now c.loop-line.reader.test.now c.args.text.now c.loop-line.line-iterator c.in-Some.line.now c.next.new.self (held_data c.loop-line.reader) (held_data c.take_line.new.reader) c.loop-line.at
      c.loop-line.invariant.test c.loop-line.invariant.reading c.in-Some.ensures.steps c.in_ok-take_line.ensures.steps;
  test = c.in_ok-take_line.ensures.test ∙ c.loop-line.invariant.test;
}

pub returns-in_err-take_line : goal.returns-in_err-take_line
returns-in_err-take_line g c =
    let p = err_from_is_err_and c.from_residual.result c.from_residual.ensures.1 in
    rw (p.1, p.2) (own_stop c.args.test.now c.loop-line.reader.test.now c.args.text.now c.loop-line.line-iterator c.in-Some.line.now c.next.new.self (held_data c.loop-line.reader) c.loop-line.at c.in_err-take_line.field-0.0
    c.loop-line.invariant.test c.loop-line.invariant.reading c.in-Some.ensures.steps c.in_err-take_line.ensures.steps)

pub returns : goal.returns
returns g c = (reading_end c.args.test.now c.args.text.now c.loop-line.line-iterator (held_data c.loop-line.reader) c.loop-line.at c.loop-line.invariant.reading c.in-None.ensures.steps.0, c.loop-line.invariant.test)
