use Rattle.std.proofs.Common.{ℕ, List, OnErr, sym, subst}
use Rattle.covlist.proofs.Begun.{on_err, none_begun, same_in_lines}
use Rattle.covlist.specs.Shown.{HasBegun, shown_in_lines}
use Rattle.covlist.proofs.shown.put_shown_in_lines.Goals as goal

pub returns-then-byte-eq10-clause-err : goal.returns-then-byte-eq10-clause-err
returns-then-byte-eq10-clause-err g c = on_err c.append.result (none_begun (shown_in_lines c.args.byte) c.args.text.now c.append.new.self) c.append.ensures.err

pub returns-clause-err : goal.returns-clause-err
returns-clause-err g c =
    subst (λ (whole : List ℕ). OnErr c.put_shown_byte.result (HasBegun whole c.args.text.now c.put_shown_byte.new.text)) (sym (same_in_lines c.args.byte c.if-byte-eq10.false)) c.put_shown_byte.ensures.err
