use Rattle.std.proofs.Common.{◌≡◌, ℕ, List, codes, option_map, rules, subst}
use Rattle.covsession.specs.Command.{IsWordWith}
use Rattle.covsession.proofs.session.command.word.word_with_argument.Goals as goal

pub returns-then-eq-3 : goal.returns-then-eq-3
returns-then-eq-3 c =
    let P : List ℕ → Type 0 = λ w. IsWordWith c.args.words.now w (option_map (λ p. p.now) c.split_at_space.result.1) in
    let same : c.split_at_space.result.0.now ≡ codes "gcov" = search rules in
    c.test_named.ensures c.args.words.now (codes "gcov") (subst P same c.split_at_space.ensures.whole)

pub returns-then-eq-4 : goal.returns-then-eq-4
returns-then-eq-4 c =
    let P : List ℕ → Type 0 = λ w. IsWordWith c.args.words.now w (option_map (λ p. p.now) c.split_at_space.result.1) in
    let same : c.split_at_space.result.0.now ≡ codes "drop" = search rules in
    c.test_named-then-eq-4.ensures c.args.words.now (codes "drop") (subst P same c.split_at_space.ensures.whole)
