use Rattle.std.proofs.Common.{◌≡◌, ◌++◌}
use Rattle.std.specs.Slice.Iter.{chunks_rest}
use Rattle.covworld.proofs.block_printer.BlockPrinter.put_further.Given as goal

-- what is printed, what waits and the parts that are left are together the old bytes and the piece
abbrev pub invariant-loop-part : goal.invariant-loop-part
invariant-loop-part g l =
    l.self.printed ++ l.self.waiting ++ chunks_rest l.part-iterator ≡ l.initial.self.printed ++ l.initial.self.waiting ++ l.piece
