use Rattle.covcommand.proofs.Calls.{merge_output_asked, extract_output_asked, remove_output_asked, gcov_output_asked, summary_output_asked, list_output_asked, dash_output_asked, neither_output_asked, name_output_asked, check_output_asked}
use Rattle.covcommand.proofs.laws.outputs_by_their_words.Goals as goal

pub returns : goal.returns
returns c = record {
  merge = merge_output_asked;
  extract = extract_output_asked;
  remove = remove_output_asked;
  gcov = gcov_output_asked;
  summary = summary_output_asked;
  list = list_output_asked;
  dash = dash_output_asked;
  neither = neither_output_asked;
  name = name_output_asked;
  check = check_output_asked;
}
