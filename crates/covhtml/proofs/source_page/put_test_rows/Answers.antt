use Rattle.covhtml.specs.PagesView.{test_totals_data}
use Rattle.covhtml.specs.SourcePage.{test_row}
use Rattle.covhtml.proofs.Texts.{item_put}
use Rattle.covhtml.proofs.source_page.put_test_rows.Goals as goal

pub loop-test-preserved : goal.loop-test-preserved
loop-test-preserved g c =
    let text = g.P.Printer.text in
    item_put test_totals_data test_row c.args.tests.now c.loop-test.test-index c.test-item.result (text c.loop-test.out) (text c.put_test_row.new.out) _
    c.loop-test-test.true c.test-item.is c.put_test_row.ensures c.loop-test.invariant
