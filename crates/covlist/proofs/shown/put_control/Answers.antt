use Rattle.std.proofs.Common.{◌∷◌, [], codes}
use Rattle.hex.specs.Hex.{encode_lower}
use Rattle.covlist.proofs.Begun.{at_err, on_err, none_begun, first_begun}
use Rattle.covlist.specs.Shown.{shown_control}
use Rattle.covlist.proofs.shown.put_control.Goals as goal

pub returns-in_err-append-clause-err : goal.returns-in_err-append-clause-err
returns-in_err-append-clause-err g c = at_err c.from_residual.result (none_begun (shown_control c.args.byte) c.args.text.now c.append.new.self c.in_err-append.ensures.err)

pub returns-clause-err : goal.returns-clause-err
returns-clause-err g c =
    on_err c.put_hexadecimal.result (first_begun (codes "\\x") (encode_lower (c.args.byte ∷ [])) c.args.text.now c.append.new.self c.put_hexadecimal.new.text c.in_ok-append.ensures.ok) c.put_hexadecimal.ensures.err
