use Rattle.std.proofs.Common.{[]}
use Rattle.covworld.specs.Folder.{folder_data}
use Rattle.covrun.proofs.Checks.{check_ended, says_last}
use Rattle.covrun.proofs.checked.check_files.Goals as goal

pub returns-in-Err : goal.returns-in-Err
returns-in-Err g c =
    check_ended (folder_data g.F.Folder g.F.File.Source c.args.folder.now) c.args.options.now.format c.args.options.now.strictness _ c.in-Err.fault _ _ _ _ c.in-Err.ensures
    c.status_of.ensures c.say.ensures.withheld.0 c.say.ensures.withheld.2
    (says_last _ [] _ c.check_each.new.sinks c.say.new.self c.line_of.ensures c.say.ensures.said c.say.ensures.grows c.say.ensures.few)
