use Rattle.std.proofs.Common.{◌+◌, get_or, refl, take, map, sym, ap, ◌∙◌, subst}
use Rattle.covlist.proofs.Files.{AreAllTotals, all_totals}
use Rattle.covpages.specs.View.{entry_data, work_data}
use Rattle.covpages.proofs.Folders.{bounds_at, more_at}
use Rattle.covpages.proofs.Progress.{goes_on, none_so_far, passes_on}
use Rattle.covtable.specs.ValuesView.{file_totals_data}
use Rattle.covworld.specs.Folder.{folder_data}
use Rattle.covpages.proofs.writing.write_sources.Goals as goal

pub loop-file-init : goal.loop-file-init
loop-file-init g c = record {
  so_far =
      none_so_far (work_data (folder_data g.F.Folder g.F.File.Source c.args.work.now.sources.now) c.args.work.now) (g.T.Table.shown c.args.work.now.table.now).sections _ _
      (ap (map entry_data) c.new-entries.ensures.items) c.new-complaints.ensures;
  none = c.requires.free;
  good = refl;
}

pub write_source-requires-clause-bounds : goal.write_source-requires-clause-bounds
write_source-requires-clause-bounds g c =
    bounds_at file_totals_data c.args.files.now
    (subst AreAllTotals (sym c.requires.files) (all_totals (g.T.Table.shown c.args.work.now.table.now).sections))
    c.loop-file.file-index _ c.loop-file-test.true

pub loop-file-preserved-then-not-takes : goal.loop-file-preserved-then-not-takes
loop-file-preserved-then-not-takes g c =
    let files = c.args.files.now in
    let i = c.loop-file.file-index in
    record {
      so_far =
          passes_on (work_data (folder_data g.F.Folder g.F.File.Source c.args.work.now.sources.now) c.args.work.now) (g.T.Table.shown c.args.work.now.table.now).sections
          (map file_totals_data (take i files)) (map file_totals_data (take (i + 1) files)) (file_totals_data (get_or files i _)) (more_at file_totals_data files i _ c.loop-file-test.true)
          _ _ _ c.loop-file.invariant.so_far (sym c.takes.ensures ∙ c.if-not-takes.true);
      none = c.loop-file.invariant.none;
      good = c.loop-file.invariant.good;
    }

pub loop-file-preserved : goal.loop-file-preserved
loop-file-preserved g c =
    let files = c.args.files.now in
    let i = c.loop-file.file-index in
    record {
      so_far =
          goes_on (work_data (folder_data g.F.Folder g.F.File.Source c.args.work.now.sources.now) c.args.work.now) (g.T.Table.shown c.args.work.now.table.now).sections
          (map file_totals_data (take i files)) (map file_totals_data (take (i + 1) files)) (file_totals_data (get_or files i _)) (more_at file_totals_data files i _ c.loop-file-test.true)
          _ _ _ c.loop-file.invariant.so_far _ _ (sym c.takes.ensures ∙ c.if-not-takes.false) c.in_ok-write_source.ensures.next;
      none = c.in_ok-write_source.ensures.none;
      good = c.in_ok-write_source.ensures.good ∙ c.loop-file.invariant.good;
    }
