use Rattle.std.proofs.Common.{◌≡◌, ◌++◌, drop}
use Rattle.covhtml.specs.PageName.{encoded_path}
use Rattle.covhtml.proofs.names.put_encoded.Given as goal

abbrev pub invariant-loop-byte : goal.invariant-loop-byte
invariant-loop-byte g l = l.name ++ encoded_path (drop l.byte-index l.path) ≡ l.fn.name ++ encoded_path l.path
