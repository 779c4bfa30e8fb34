use Rattle.std.proofs.Common.{◌≡◌, ◌+◌, ◌++◌, [], ◌∷◌, length, take, map, sym, ap, ◌∙◌, arith}
use Rattle.std.proofs.lemmas.List.{length-map, length-take-le, map-append, take_more}
use Rattle.covhtml.specs.PagesView.{directory_data}
use Rattle.covhtml.specs.declared.pages.Directory.{Directory}
use Rattle.covpages.specs.View.{linked_data}
use Rattle.covpages.proofs.Progress.{page_added, page_finished, page_linked}
use Rattle.covpages.proofs.writing.write_directory_pages.Goals as goal

pub loop-place-preserved : goal.loop-place-preserved
loop-place-preserved g c =
    let place = c.loop-place.place in
    let directories = c.args.directories.now in
    let directory = c.index-directories-place.result in
    let front = map directory_data (take place directories) in
    let at : length front ≡ place =
    length-map (take place directories) directory_data ∙ length-take-le place directories (omega (arith, c.loop-place-test.true)) in
    let more : map directory_data (take (place + 1) directories) ≡ front ++ directory_data directory ∷ [] =
    ap (map directory_data) (take_more directories place directory c.loop-place-test.true ∙ ap (λ (d : Directory). take place directories ++ d ∷ []) (sym c.index-directories-place.is))
    ∙ map-append directory_data (take place directories) (directory ∷ []) in
    record {
      linked =
          page_linked c.args.number place front _ (directory_data directory) c.in_ok-name.name at more c.in_ok-name.ensures
          (map linked_data c.loop-place.linked.items) (map linked_data c.push_linked.new.linked.items) c.loop-place.invariant.linked c.in_ok-push_linked.ensures;
      finished =
          page_finished c.args.number place front _ (directory_data directory) c.get.result.now at more (c.get.ensures ∙ c.in_ok-name.ensures)
          _ _ _ c.loop-place.invariant.finished c.in_ok-write_page.ensures.finished;
      named =
          page_added c.args.number place front _ (directory_data directory) c.get.result.now at more (c.get.ensures ∙ c.in_ok-name.ensures)
          _ _ _ c.loop-place.invariant.named c.in_ok-write_page.ensures.named;
      none = c.in_ok-write_page.ensures.none;
      good = c.in_ok-write_page.ensures.good ∙ c.loop-place.invariant.good;
    }
