use Rattle.std.specs.Prelude.{◌≡◌, ◌<◌, ◌≤◌, ◌+◌, ◌-◌, max, ℕ, List, ◌++◌, length}
use Rattle.std.specs.Io.KnownBytes.{Consumes}
use Rattle.covlarge.proofs.piece_text.read_on.Given as goal

-- all bytes that were read so far are in the text, and each round gave at least one byte or wants more
abbrev pub invariant-loop-all : goal.invariant-loop-all
invariant-loop-all g l = record {
  took : (bytes : List ℕ) × Consumes (g.S.Source.left l.initial.source) (g.S.Source.left l.source) bytes × (l.all ≡ l.initial.all ++ bytes);
  some : 0 < l.wanted;
  least : l.fn.least ≤ l.wanted;
  few : l.wanted ≤ l.most + 1;
  front : l.front ≤ length l.all;
  long : length l.all ≤ max (length l.initial.all) l.wanted;
  counted : g.S.Source.reads l.source + length l.initial.all ≤ g.S.Source.reads l.initial.source + length l.all + l.wanted;
  failed : g.S.Source.failed_reads l.source ≡ g.S.Source.failed_reads l.initial.source;
}

abbrev pub decreases-loop-all : goal.decreases-loop-all
decreases-loop-all g l = l.most + 1 - l.wanted
