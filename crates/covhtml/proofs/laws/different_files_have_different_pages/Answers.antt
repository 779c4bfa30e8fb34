use Rattle.covhtml.proofs.NamesApart.{names_apart}
use Rattle.covhtml.proofs.laws.different_files_have_different_pages.Goals as goal

pub returns : goal.returns
returns c = names_apart
