use Rattle.std.proofs.Common.{◌≡◌, ◌++◌}
use Rattle.std.specs.Str.Chunks.{utf8_chunks_rest}
use Rattle.covhtml.specs.Shown.{shown}
use Rattle.covhtml.proofs.shown.put_shown.Given as goal

-- what was printed, with the text of the bytes that are left, is the text of all the bytes
abbrev pub invariant-loop-chunk : goal.invariant-loop-chunk
invariant-loop-chunk g l = g.P.Printer.text l.out ++ shown (utf8_chunks_rest l.chunk-iterator) ≡ g.P.Printer.text l.fn.out ++ shown l.text
