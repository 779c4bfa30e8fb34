use Rattle.std.proofs.Common.{◌≡◌, drop}
use Rattle.covsession.specs.Text.{line_after}
use Rattle.covsession.proofs.session.text.with_bytes.Given as goal

abbrev pub invariant-loop-byte : goal.invariant-loop-byte
invariant-loop-byte l = line_after l.line (drop l.byte-index l.bytes) ≡ line_after l.fn.so_far l.bytes
