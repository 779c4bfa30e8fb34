use Rattle.covline.proofs.CountedLines.{counted_form, counted_only, counted_says}
use Rattle.covline.proofs.reader.try_line_count.Goals as goal

pub returns : goal.returns
returns c = record {
  says = counted_says c.front_counted.result c.args.text.now c.front_counted.ensures;
  form = counted_form c.front_counted.result c.args.text.now c.front_counted.ensures;
  only = counted_only c.front_counted.result c.args.text.now c.front_counted.ensures;
}
