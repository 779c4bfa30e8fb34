use Rattle.covhtml.specs.IndexPage.{directory_part}
use Rattle.covhtml.specs.PagesView.{directory_data}
use Rattle.covhtml.proofs.Texts.{item_put}
use Rattle.covhtml.proofs.index_page.put_directories.Goals as goal

pub loop-directory-preserved : goal.loop-directory-preserved
loop-directory-preserved g c =
    let text = g.P.Printer.text in
    item_put directory_data directory_part c.args.directories.now c.loop-directory.directory-index c.directory-item.result (text c.loop-directory.out) (text c.put_directory.new.out) _
    c.loop-directory-test.true c.directory-item.is c.put_directory.ensures c.loop-directory.invariant
