use Rattle.covhtml.specs.IndexPage.{file_row}
use Rattle.covhtml.specs.PagesView.{indexed_file_data}
use Rattle.covhtml.proofs.Texts.{item_put}
use Rattle.covhtml.proofs.index_page.put_files.Goals as goal

pub loop-file-preserved : goal.loop-file-preserved
loop-file-preserved g c =
    let text = g.P.Printer.text in
    item_put indexed_file_data file_row c.args.files.now c.loop-file.file-index c.file-item.result (text c.loop-file.out) (text c.put_file.new.out) _
    c.loop-file-test.true c.file-item.is c.put_file.ensures c.loop-file.invariant
