use Rattle.covhtml.specs.DirectoryPages.{directory_row}
use Rattle.covhtml.specs.PagesView.{indexed_directory_data}
use Rattle.covhtml.proofs.Texts.{item_put}
use Rattle.covhtml.proofs.directory_pages.put_rows.Goals as goal

pub loop-directory-preserved : goal.loop-directory-preserved
loop-directory-preserved g c =
    let text = g.P.Printer.text in
    item_put indexed_directory_data directory_row c.args.directories.now c.loop-directory.directory-index c.directory-item.result (text c.loop-directory.out) (text c.put_row.new.out) _
    c.loop-directory-test.true c.directory-item.is c.put_row.ensures c.loop-directory.invariant
