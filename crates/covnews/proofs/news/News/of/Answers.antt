use Rattle.covbook.specs.Step.{IsLegal}
use Rattle.covnews.proofs.Runs.{legal_before}
use Rattle.covnews.proofs.news.News.of.Goals as goal

-- the token's history is a prefix of a noted history, which the rule keeps legal
pub invariant_of-result : goal.invariant_of-result
invariant_of-result g c =
    let legal : IsLegal c.args.snapshot.now.seen.log = legal_before c.args.snapshot.now.seen.log c.learn.new.self.log c.learn.ensures.3 c.learn.ensures.4.1.legal in
    rw c.copy.ensures (c.requires, legal)
