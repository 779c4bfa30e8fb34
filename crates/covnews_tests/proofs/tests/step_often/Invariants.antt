use Rattle.std.proofs.Common.{◌≡◌}
use Rattle.covnews_tests.proofs.tests.step_often.Given as goal

-- the publisher has noted the book's entries
abbrev pub invariant-loop : goal.invariant-loop
invariant-loop g l = l.publisher.noted ≡ l.book.entries
