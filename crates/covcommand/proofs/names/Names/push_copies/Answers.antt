use Rattle.std.proofs.Common.{ℕ, List}
use Rattle.std.specs.Borrow.{Bor}
use Rattle.covcommand.proofs.Copied.{appended_more}
use Rattle.covcommand.proofs.names.Names.push_copies.Goals as goal

pub loop-word-preserved : goal.loop-word-preserved
loop-word-preserved c =
    appended_more (λ (w : Bor (List ℕ)). w.now) c.args.words.now c.loop-word.word-index _ c.loop-word-test.true
    c.args.self.now c.loop-word.self c.push.new.self _ c.loop-word.invariant c.in_ok-push.ensures.ok c.in_ok-from_str.ensures.ok
