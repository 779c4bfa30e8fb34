use Rattle.std.proofs.Common.{◌≡◌, ◌++◌, drop}
use Rattle.std.specs.List.{flat_map}
use Rattle.covhtml.specs.Shown.{shown_byte}
use Rattle.covhtml.proofs.shown.put_bytes.Given as goal

abbrev pub invariant-loop-byte : goal.invariant-loop-byte
invariant-loop-byte g l =
    g.P.Printer.text l.out ++ flat_map shown_byte (drop l.byte-index l.text) ≡ g.P.Printer.text l.fn.out ++ flat_map shown_byte l.text
