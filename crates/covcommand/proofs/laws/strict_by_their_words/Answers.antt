use Rattle.covcommand.proofs.Calls.{merge_strict_asked, summary_strict_asked, list_strict_asked, extract_strict_asked, remove_strict_asked, check_strict_asked, merge_without_strict_asked, summary_without_strict_asked, list_without_strict_asked, extract_without_strict_asked, remove_without_strict_asked, check_without_strict_asked, gcov_strict_asked, session_strict_asked, name_strict_asked}
use Rattle.covcommand.proofs.laws.strict_by_their_words.Goals as goal

pub returns : goal.returns
returns c = record {
  merge = merge_strict_asked;
  summary = summary_strict_asked;
  list = list_strict_asked;
  extract = extract_strict_asked;
  remove = remove_strict_asked;
  check = check_strict_asked;
  merge_without = merge_without_strict_asked;
  summary_without = summary_without_strict_asked;
  list_without = list_without_strict_asked;
  extract_without = extract_without_strict_asked;
  remove_without = remove_without_strict_asked;
  check_without = check_without_strict_asked;
  gcov = gcov_strict_asked;
  session = session_strict_asked;
  name = name_strict_asked;
}
