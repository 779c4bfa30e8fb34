use Rattle.std.proofs.Common.{ap, length, map, arith}
use Rattle.covline.specs.Lines.{lines_of}
use Rattle.covhtml.specs.RowView.{row_data}
use Rattle.covhtml.proofs.LaterRows.{rows_put, source_row_put}
use Rattle.covhtml.proofs.source_rows.put_rows.Goals as goal

pub loop-text-preserved : goal.loop-text-preserved
loop-text-preserved g c =
    let text = g.P.Printer.text in
    record {
      written =
          source_row_put c.loop-text.line (map row_data c.loop-text.rest.now) (map row_data c.rows_after-rest.result.now) c.in-Some.text.now (lines_of c.loop-text.text-iterator) (lines_of c.next.new.self) (text c.loop-text.out) (text c.put_source_row.new.out) _
          c.in-Some.ensures.steps c.rows_after-rest.ensures c.put_source_row.ensures c.loop-text.invariant.written;
      counted = omega (arith, c.loop-text.invariant.counted, ap length c.in-Some.ensures.steps);
    }

pub returns : goal.returns
returns g c =
    let text = g.P.Printer.text in
    rows_put c.loop-text.line (map row_data c.loop-text.rest.now) (map row_data c.rows_after.result.now) _ (text c.loop-text.out) (text c.put_other_rows.new.out) _
    c.in-None.ensures.steps.0 c.rows_after.ensures c.put_other_rows.ensures c.loop-text.invariant.written
