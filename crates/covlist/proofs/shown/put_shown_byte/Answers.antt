use Rattle.std.proofs.Common.{ℕ, List, OnErr, sym, subst, ◌∙◌}
use Rattle.covlist.proofs.Begun.{on_err, none_begun, control_is}
use Rattle.covlist.specs.Shown.{HasBegun, shown_byte}
use Rattle.covlist.proofs.shown.put_shown_byte.Goals as goal

pub returns-then-byte-eq92-clause-err : goal.returns-then-byte-eq92-clause-err
returns-then-byte-eq92-clause-err g c = on_err c.append.result (none_begun (shown_byte c.args.byte) c.args.text.now c.append.new.self) c.append.ensures.err

pub returns-then-is_control-clause-err : goal.returns-then-is_control-clause-err
returns-then-is_control-clause-err g c =
    subst (λ (whole : List ℕ). OnErr c.put_control.result (HasBegun whole c.args.text.now c.put_control.new.text))
    (sym (control_is c.args.byte c.if-byte-eq92.false (sym c.is_control.ensures ∙ c.if-is_control.true))) c.put_control.ensures.err

pub returns-clause-err : goal.returns-clause-err
returns-clause-err g c = on_err c.append-2.result (none_begun (shown_byte c.args.byte) c.args.text.now c.append-2.new.self) c.append-2.ensures.err
