use Rattle.covcommand.specs.CommandLine as line
use Rattle.covcommand.proofs.described.described.Goals as goal

pub returns : goal.returns
returns c =
    let with_merge = c.with-merging.ensures line.program line.merge c.program.ensures c.merge.ensures in
    let with_summary = c.with-summing.ensures _ line.summary with_merge c.summary.ensures in
    let with_list = c.with-listing.ensures _ line.list with_summary c.list.ensures in
    let with_extract = c.with-extracting.ensures _ line.extract with_list c.extract.ensures in
    let with_remove = c.with-removing.ensures _ line.remove with_extract c.remove.ensures in
    let with_gcov = c.with-converting.ensures _ line.gcov with_remove c.gcov.ensures in
    let with_check = c.with-checking.ensures _ line.check with_gcov c.check.ensures in
    let with_combine = c.with-combining.ensures _ line.combine with_check c.combine.ensures in
    c.with.ensures _ line.html with_combine c.html.ensures
