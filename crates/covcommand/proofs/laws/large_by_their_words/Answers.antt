use Rattle.covcommand.proofs.Calls.{merge_large_asked, summary_large_asked, list_large_asked, extract_large_asked, remove_large_asked, check_large_asked, both_large_asked, merge_without_large_asked, summary_without_large_asked, list_without_large_asked, extract_without_large_asked, remove_without_large_asked, check_without_large_asked, gcov_large_asked, session_large_asked, name_large_asked}
use Rattle.covcommand.proofs.laws.large_by_their_words.Goals as goal

pub returns : goal.returns
returns c = record {
  merge = merge_large_asked;
  summary = summary_large_asked;
  list = list_large_asked;
  extract = extract_large_asked;
  remove = remove_large_asked;
  check = check_large_asked;
  both = both_large_asked;
  merge_without = merge_without_large_asked;
  summary_without = summary_without_large_asked;
  list_without = list_without_large_asked;
  extract_without = extract_without_large_asked;
  remove_without = remove_without_large_asked;
  check_without = check_without_large_asked;
  gcov = gcov_large_asked;
  session = session_large_asked;
  name = name_large_asked;
}
