use Rattle.std.specs.Prelude.{map, take}
use Rattle.std.specs.String.{string_bytes}
use Rattle.covworld.specs.Folder.{folder_data}
use Rattle.covcombine.proofs.Apart.{IsApart, name_in}
use Rattle.covcombine.proofs.work.one_file.Given as goal

-- no two of the names so far are of one file, and the map has their ids
abbrev pub invariant-loop-word : goal.invariant-loop-word
invariant-loop-word g l = IsApart (folder_data g.F.Folder g.F.File.Source l.folder) (map string_bytes (take l.word-index l.names)) (name_in l.seen)
