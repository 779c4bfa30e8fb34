use Rattle.std.proofs.Common.{◌≡◌, ℕ, List, [], ◌∷◌, ◌++◌, OnOk, ap, ◌∙◌, subst}
use Rattle.json.specs.Token.{Token, string}
use Rattle.json.specs.Print.{quoted}
use Rattle.covlist.proofs.Names.{written}
use Rattle.covlist.proofs.json_text.put_string.Goals as goal

pub returns : goal.returns
returns g c =
    let name = c.args.name.now in
    let done = c.in_ok-string.ensures in
    let same : c.as_slice.result.now ≡ quoted name =
    c.as_slice.ensures.value ∙ c.into_inner.ensures.items
    ∙ written c.string.new.self.before c.string.new.self.tokens name (done.room.0 ∙ c.new-writer.ensures.before ∙ c.new.ensures.items)
    (done.ok ∙ ap (λ (ts : List Token). ts ++ string name ∷ []) c.new-writer.ensures.tokens) in
    subst (λ (t : List ℕ). OnOk c.append.result (c.append.new.self ≡ c.args.text.now ++ t)) same c.append.ensures.ok
