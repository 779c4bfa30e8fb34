use Rattle.std.proofs.Common.{◌≡◌, ℕ, List, OnOk, subst}
use Rattle.std.specs.Prelude.{codes}
use Rattle.hex.specs.Hex.{encode_lower}
use Rattle.covlist.proofs.Names.{three_put}
use Rattle.covlist.proofs.json_text.put_hexadecimal_name.Goals as goal

pub returns : goal.returns
returns g c =
    subst (λ (t : List ℕ). OnOk c.append-2.result (c.append-2.new.self ≡ t))
    (three_put c.args.text.now c.append.new.self c.put_hexadecimal.new.text (codes "\"file_hex\":\"") (encode_lower c.args.path.now) (codes "\"") c.in_ok-append.ensures.ok c.in_ok-put_hexadecimal.ensures)
    c.append-2.ensures.ok
