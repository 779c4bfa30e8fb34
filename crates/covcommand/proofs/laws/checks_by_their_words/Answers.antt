use Rattle.covcommand.proofs.Calls.{tracefile_asked, before_asked, after_asked, name_asked, lcov2_asked, both_asked, jobs_asked}
use Rattle.covcommand.proofs.laws.checks_by_their_words.Goals as goal

pub returns : goal.returns
returns c = record {
  tracefile = tracefile_asked;
  before = before_asked;
  after = after_asked;
  name = name_asked;
  lcov2 = lcov2_asked;
  both = both_asked;
  jobs = jobs_asked;
}
