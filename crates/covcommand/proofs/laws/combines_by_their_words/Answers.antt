use Rattle.covcommand.proofs.Calls.{combine_some_asked, combine_few_asked, combine_none_taken, combine_no_jobs_refused, combine_no_files_refused, combine_lcov2_refused, combine_test_twice_refused, combine_list_twice_refused, combine_null_value_refused, combine_no_path_refused, merge_path_refused}
use Rattle.covcommand.proofs.laws.combines_by_their_words.Goals as goal

pub returns : goal.returns
returns c = record {
  some = combine_some_asked;
  few = combine_few_asked;
  none = combine_none_taken;
  no_jobs = combine_no_jobs_refused;
  no_files = combine_no_files_refused;
  lcov2 = combine_lcov2_refused;
  test_twice = combine_test_twice_refused;
  list_twice = combine_list_twice_refused;
  null_value = combine_null_value_refused;
  no_path = combine_no_path_refused;
  merge_path = merge_path_refused;
}
