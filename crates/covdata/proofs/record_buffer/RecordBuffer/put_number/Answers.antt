use Rattle.std.proofs.Common.{rules}
use Rattle.std.proofs.lemmas.Fmt.{length-decimal-le}
use Rattle.std.proofs.lemmas.List.{length-drop, length-append}
use Rattle.covdata.proofs.record_buffer.RecordBuffer.put_number.Goals as goal

-- a number of 64 bits has at most 20 digits, and there is room for them
pub write_digits-self-inside-requires : goal.write_digits-self-inside-requires
write_digits-self-inside-requires c = search (rules, length-drop, length-decimal-le 20)

pub returns-clause-size : goal.returns-clause-size
returns-clause-size c = rw c.write_digits-self-inside.ensures.written (search (rules, length-append, length-decimal-le 20))
