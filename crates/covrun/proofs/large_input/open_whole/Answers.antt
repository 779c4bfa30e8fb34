use Rattle.covrun.proofs.Large.{opened_now}
use Rattle.covrun.proofs.large_input.open_whole.Goals as goal

pub returns-in-Ok-clause-opened : goal.returns-in-Ok-clause-opened
returns-in-Ok-clause-opened g c =
    opened_now g.F.Folder g.F.File.Source c.args.folder.now
    c.args.name.now c.args.version c.args.strictness _ c.begin_large.result c.in-Ok.ensures.opened c.in-Ok.ensures.bytes
    c.begin_large.ensures.whole c.begin_large.ensures.told c.begin_large.ensures.source c.begin_large.ensures.left
