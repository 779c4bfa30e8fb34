use Rattle.std.proofs.Common.{drop, map, take}
use Rattle.covstore.proofs.RenamedTablesLoop.{HasCopied}
use Rattle.covstore.proofs.Settled.{file_name}
use Rattle.covstore.proofs.store.Store.copy_all.Given as goal

abbrev pub invariant-loop-name : goal.invariant-loop-name
invariant-loop-name g l = HasCopied l.old l.new (map file_name (take l.name-index l.names)) (map file_name (drop l.name-index l.names)) l.initial.self l.self
