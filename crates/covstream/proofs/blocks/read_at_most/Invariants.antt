use Rattle.std.specs.Prelude.{◌≡◌, ◌+◌, ◌≤◌, length}
use Rattle.covstream.proofs.ReadBlocks.{HasReadSo}
use Rattle.covstream.proofs.blocks.read_at_most.Given as goal

-- all bytes that were read so far are in the text, and each read gave at least one byte
abbrev pub invariant-loop-room : goal.invariant-loop-room
invariant-loop-room g l = record {
  took : HasReadSo l.most (g.S.Source.left l.initial.source) (g.S.Source.left l.source) l.initial.all l.all l.room;
  reads : g.S.Source.reads l.source + length l.initial.all ≤ g.S.Source.reads l.initial.source + length l.all;
  failed : g.S.Source.failed_reads l.source ≡ g.S.Source.failed_reads l.initial.source;
}

abbrev pub decreases-loop-room : goal.decreases-loop-room
decreases-loop-room g l = l.room
