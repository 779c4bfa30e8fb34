use Rattle.covcommand.proofs.Calls.{summary_total_asked, functions_total_asked, list_total_asked, name_total_asked}
use Rattle.covcommand.proofs.laws.totals_by_their_words.Goals as goal

pub returns : goal.returns
returns c = record {
  summary = summary_total_asked;
  functions = functions_total_asked;
  list = list_total_asked;
  name = name_total_asked;
}
