use Rattle.std.proofs.Common.{ap}
use Rattle.std.specs.Ordering.{is_lt}
use Rattle.std.proofs.lemmas.List.Sorted.{answers_always, ranks_by}
use Rattle.covhtml.specs.PagesView.{indexed_file_data}
use Rattle.covhtml.specs.declared.pages.IndexedFile.{IndexedFile}
use Rattle.covpages.specs.Directories.{directory_of}
use Rattle.covpages.proofs.Sorting.{same_files, same_together, sorted_rise}
use Rattle.covtable.proofs.Orders.{names_order}
use Rattle.covpages.proofs.entries.sort.Goals as goal

pub returns : goal.returns
returns c =
    let old = c.args.files.now.items in
    let new = c.sort_by.new.self.items in
    let sorted = c.in_ok-sort_by.ensures in
    let ranks = ranks_by names_order.total (λ (f : IndexedFile). directory_of f.path.now) in
    record {
      rises = sorted_rise indexed_file_data new (sorted.sorted _ ranks (answers_always _ _ _ (λ f a r f' k. ap is_lt k.met)));
      same = same_files indexed_file_data old new (sorted.stable _ ranks (answers_always _ _ _ (λ f a r f' k. ap is_lt k.met)));
      totals = same_together indexed_file_data old new sorted.permutation;
    }
