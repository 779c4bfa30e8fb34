use Rattle.covcommand.proofs.Calls.{merge_filter_asked, summary_filter_asked, neither_filter_asked, name_filter_asked}
use Rattle.covcommand.proofs.laws.filters_by_their_words.Goals as goal

pub returns : goal.returns
returns c = record {
  merge = merge_filter_asked;
  summary = summary_filter_asked;
  neither = neither_filter_asked;
  name = name_filter_asked;
}
