use Rattle.std.proofs.Common.{◌≡◌, ℕ, List, [], ap, subst, ◌∙◌}
use Rattle.covline.specs.Lines.{strip}
use Rattle.covsession.specs.Rename.{IsThere}
use Rattle.covsession.specs.Streams.{moment}
use Rattle.covsession.proofs.SessionRename.{no_name, a_name}
use Rattle.covsession.proofs.session.rename.take_name.Goals as goal

pub returns-then-not-is_there-clause-taken : goal.returns-then-not-is_there-clause-taken
returns-then-not-is_there-clause-taken g c =
    let m = moment c.args.input.now c.args.output.now in
    let n = moment c.take_line.new.self c.take_line.new.output in
    let t = c.in_ok-ending.ensures.taken in
    let same : c.whole.result.now ≡ t.0 = c.whole.ensures [] t.0 (c.in_ok-ending.ensures.limit ∙ c.new-line.ensures.limit) (t.2 [] [] c.new-line.ensures.empty) in
    let P : List ℕ → Type 0 = λ u. IsThere c.is_there.result c.in_ok-ending.ending u in
    no_name m n c.is_there.result t.0 c.in_ok-ending.ending t.1 c.if-not-is_there.true (subst P same c.is_there.ensures)

pub returns-clause-taken : goal.returns-clause-taken
returns-clause-taken g c =
    let m = moment c.args.input.now c.args.output.now in
    let n = moment c.take_line.new.self c.take_line.new.output in
    let t = c.in_ok-ending.ensures.taken in
    let same : c.whole.result.now ≡ t.0 = c.whole.ensures [] t.0 (c.in_ok-ending.ensures.limit ∙ c.new-line.ensures.limit) (t.2 [] [] c.new-line.ensures.empty) in
    let again : c.whole-2.result.now ≡ t.0 = c.whole-2.ensures [] t.0 (c.in_ok-ending.ensures.limit ∙ c.new-line.ensures.limit) (t.2 [] [] c.new-line.ensures.empty) in
    let P : List ℕ → Type 0 = λ u. IsThere c.is_there.result c.in_ok-ending.ending u in
    a_name m n c.is_there.result t.0 c.in_ok-name.name c.in_ok-ending.ending t.1 c.if-not-is_there.false (subst P same c.is_there.ensures)
    (c.in_ok-name.ensures ∙ c.without_returns.ensures ∙ ap strip again)
