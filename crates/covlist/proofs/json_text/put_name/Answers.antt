use Rattle.std.proofs.Common.{◌≡◌, ℕ, List, ◌++◌, OnOk, sym, ap, ◌∙◌, subst}
use Rattle.covlist.specs.Json.{string_name}
use Rattle.covlist.proofs.Names.{named_by_bytes, named_by_string}
use Rattle.covlist.proofs.json_text.put_name.Goals as goal

pub returns-in-Ok : goal.returns-in-Ok
returns-in-Ok g c =
    let text = c.in-Ok.ensures.cases in
    subst (λ (t : List ℕ). OnOk c.put_string_name.result (c.put_string_name.new.text ≡ c.args.text.now ++ t))
    (ap string_name text.0 ∙ sym (named_by_string c.args.path.now text.1)) c.put_string_name.ensures

pub returns-in-Err : goal.returns-in-Err
returns-in-Err g c =
    subst (λ (t : List ℕ). OnOk c.put_hexadecimal_name.result (c.put_hexadecimal_name.new.text ≡ c.args.text.now ++ t))
    (sym (named_by_bytes c.args.path.now c.in-Err.ensures.cases.0)) c.put_hexadecimal_name.ensures
