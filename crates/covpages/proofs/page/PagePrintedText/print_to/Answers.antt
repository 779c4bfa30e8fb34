use Rattle.std.proofs.Common.{[], append-nil, ◌∙◌}
use Rattle.covpages.proofs.page.PagePrintedText.print_to.Goals as goal

pub returns-in-Index-clause-begun : goal.returns-in-Index-clause-begun
returns-in-Index-clause-begun g c = rw c.in-Index.is ([], append-nil (g.P.Printer.text c.put_index_page.new.out) ∙ c.put_index_page.ensures)

pub returns-in-Directories-clause-begun : goal.returns-in-Directories-clause-begun
returns-in-Directories-clause-begun g c = rw c.in-Directories.is ([], append-nil (g.P.Printer.text c.put_directory_index.new.out) ∙ c.put_directory_index.ensures)

pub returns-in-Directory-clause-begun : goal.returns-in-Directory-clause-begun
returns-in-Directory-clause-begun g c = rw c.in-Directory.is ([], append-nil (g.P.Printer.text c.put_directory_page.new.out) ∙ c.put_directory_page.ensures)

pub returns-in-Source-clause-begun : goal.returns-in-Source-clause-begun
returns-in-Source-clause-begun g c = rw c.in-Source.is ([], append-nil (g.P.Printer.text c.put_source_page.new.out) ∙ c.put_source_page.ensures)

pub returns-in-Style-clause-begun : goal.returns-in-Style-clause-begun
returns-in-Style-clause-begun g c = rw c.in-Style.is ([], append-nil (g.P.Printer.text c.put.new.self) ∙ c.put.ensures)
