use Rattle.std.proofs.Common.{◌≡◌, ◌++◌, ℕ, List, [], ◌∷◌, arith, drop, length, length-drop, map, sym, ap, ap₂, ◌∙◌, subst}
use Rattle.std.proofs.lemmas.List.{drop-map, map-append}
use Rattle.covhtml.specs.IndexPage.{DirectoryData, IndexedFileData}
use Rattle.covhtml.specs.PagesView.{directory_data, indexed_file_data}
use Rattle.covpages.specs.Directories.{count_in, first_path, runs_of, totals_together}
use Rattle.covpages.proofs.Runs.{last_directory, next_directory, none_seen, runs_are_directories, some_counted, some_seen}
use Rattle.covpages.proofs.Totals.{parts_fit}
use Rattle.covtable.specs.TotalsExchanged.{FitTotals}
use Rattle.covpages.proofs.entries.directories.Goals as goal

pub first_directory-requires-clause-fits : goal.first_directory-requires-clause-fits
first_directory-requires-clause-fits c = (parts_fit (map indexed_file_data c.loop-rest.rest.now) c.count_in-count.result c.loop-rest.invariant.fits).0

pub loop-rest-preserved : goal.loop-rest-preserved
loop-rest-preserved c =
    let rest = map indexed_file_data c.loop-rest.rest.now in
    let done = map directory_data c.loop-rest.directories.items in
    let count = c.count_in-count.result in
    let after : map indexed_file_data c.files_from-rest.result.now ≡ drop count rest =
    ap (map indexed_file_data) c.files_from-rest.ensures ∙ sym (drop-map indexed_file_data count c.loop-rest.rest.now) in
    let pushed : map directory_data c.push.new.self.items ≡ done ++ directory_data c.first_directory.result ∷ [] =
    ap (map directory_data) c.in_ok-push.ensures.items ∙ map-append directory_data c.loop-rest.directories.items (c.first_directory.result ∷ []) in
    record {
      so_far =
          ap₂ (λ (ds : List DirectoryData) (fs : List IndexedFileData). ds ++ runs_of fs) pushed after
          ∙ next_directory done (runs_of (map indexed_file_data c.args.files.now)) rest c.loop-rest.invariant.so_far count (directory_data c.first_directory.result)
          (some_seen indexed_file_data c.loop-rest.rest.now (sym c.is_empty.ensures ∙ c.loop-rest-test.true))
          (c.count_in-count.ensures.count ∙ ap (λ (p : List ℕ). count_in p rest) c.first_path.ensures) c.first_directory.ensures;
      fits = subst (λ (fs : List IndexedFileData). FitTotals (totals_together fs)) (sym after) (parts_fit rest count c.loop-rest.invariant.fits).1;
    }

pub loop-rest-smaller : goal.loop-rest-smaller
loop-rest-smaller c =
    let rest = map indexed_file_data c.loop-rest.rest.now in
    let count : c.count_in-count.result ≡ count_in (first_path rest) rest =
    c.count_in-count.ensures.count ∙ ap (λ (p : List ℕ). count_in p rest) c.first_path.ensures in
    let some = some_counted rest (some_seen indexed_file_data c.loop-rest.rest.now (sym c.is_empty.ensures ∙ c.loop-rest-test.true)) in
    omega (arith, ap length c.files_from-rest.ensures, length-drop c.count_in-count.result c.loop-rest.rest.now, count, some, c.count_in-count.ensures.within)

pub returns : goal.returns
returns c =
    last_directory (map directory_data c.loop-rest.directories.items) (runs_of (map indexed_file_data c.args.files.now)) (map indexed_file_data c.loop-rest.rest.now)
    c.loop-rest.invariant.so_far (none_seen indexed_file_data c.loop-rest.rest.now (sym c.is_empty.ensures ∙ c.loop-rest-test.false))
    ∙ runs_are_directories (map indexed_file_data c.args.files.now) c.requires.rises
