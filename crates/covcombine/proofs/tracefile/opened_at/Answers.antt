use Rattle.covworld.specs.Folder.{folder_data}
use Rattle.covcombine.proofs.Stages.{ended_before, opened_before, opens_now}
use Rattle.covcombine.proofs.tracefile.opened_at.Goals as goal

pub returns-in-Unopened-clause-ended : goal.returns-in-Unopened-clause-ended
returns-in-Unopened-clause-ended g c =
    rw c.in-Unopened.is
    (opens_now g.F.File.Source.left g.F.File.Source.failed_reads (folder_data g.F.Folder g.F.File.Source c.args.folder.now) c.args.new_names.now c.args.strictness c.args.name.now
    c.open_file.result c.open_file.ensures.ended)

pub returns-in-Reading-clause-opened : goal.returns-in-Reading-clause-opened
returns-in-Reading-clause-opened g c =
    rw c.in-Reading.is
    (opened_before g.F.File.Source.left g.F.File.Source.failed_reads (folder_data g.F.Folder g.F.File.Source c.args.folder.now) c.args.new_names.now c.args.strictness c.args.name.now c.in-Reading.opened)

pub returns-in-Ended-clause-ended : goal.returns-in-Ended-clause-ended
returns-in-Ended-clause-ended g c =
    rw c.in-Ended.is
    (ended_before g.F.File.Source.left g.F.File.Source.failed_reads (folder_data g.F.Folder g.F.File.Source c.args.folder.now) c.args.new_names.now c.args.strictness c.args.name.now c.in-Ended.note)
