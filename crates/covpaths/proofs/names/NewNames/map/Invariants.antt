use Rattle.std.proofs.Common.{◌≡◌, drop}
use Rattle.covpaths.specs.Paths.{first_mapped, mapped_from}
use Rattle.covpaths.proofs.names.NewNames.map.Given as goal

-- none of the rules so far applies
abbrev pub invariant-loop-place : goal.invariant-loop-place
invariant-loop-place l = first_mapped l.self.rules l.path ≡ mapped_from l.place (drop l.place l.self.rules) l.path
