use Rattle.covline.proofs.LineLaws.{joined_again, good_lines, good_rest, few_lines, few_bytes, only_returns_off, one_after_other, made_of_lines}
use Rattle.covline.proofs.laws.lines_are_the_text.Goals as goal

pub returns : goal.returns
returns c = record {
  joined = joined_again;
  good_lines = good_lines;
  good_rest = good_rest;
  few_lines = few_lines;
  few_bytes = few_bytes;
  only_returns_off = only_returns_off;
  one_after_other = one_after_other;
  made_of_lines = made_of_lines;
}
