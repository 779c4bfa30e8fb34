use Rattle.std.proofs.Common.{◌≡◌, length}
use Rattle.covhtml.specs.IndexPage.{name_in}
use Rattle.covhtml.proofs.index_page.name_of.Given as goal

abbrev pub invariant-loop-byte : goal.invariant-loop-byte
invariant-loop-byte l = name_in l.name l.rest ≡ name_in l.path l.path

abbrev pub decreases-loop-byte : goal.decreases-loop-byte
decreases-loop-byte l = length l.rest
