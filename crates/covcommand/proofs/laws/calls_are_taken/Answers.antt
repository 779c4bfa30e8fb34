use Rattle.covcommand.proofs.Calls.{session_taken, merge_taken, summary_taken, extract_taken, remove_taken, gcov_taken, check_taken, merge_lcov2_taken, summary_lcov2_taken, extract_lcov2_taken, remove_lcov2_taken, check_lcov2_taken, check_jobs_taken, short_jobs_taken, summary_jobs_taken, merge_filters_taken, summary_filters_taken, list_taken, list_options_taken, summary_json_taken, summary_limits_taken, merge_output_taken, summary_output_taken, list_output_taken, extract_output_taken, remove_output_taken, gcov_output_taken, merge_strict_taken, summary_strict_taken, list_strict_taken, extract_strict_taken, remove_strict_taken, check_strict_taken, merge_large_taken, summary_large_taken, list_large_taken, extract_large_taken, remove_large_taken, check_large_taken}
use Rattle.covcommand.proofs.laws.calls_are_taken.Goals as goal

pub returns : goal.returns
returns c = record {
  session = session_taken;
  merge = merge_taken;
  summary = summary_taken;
  extract = extract_taken;
  remove = remove_taken;
  gcov = gcov_taken;
  check = check_taken;
  merge_lcov2 = merge_lcov2_taken;
  summary_lcov2 = summary_lcov2_taken;
  extract_lcov2 = extract_lcov2_taken;
  remove_lcov2 = remove_lcov2_taken;
  check_lcov2 = check_lcov2_taken;
  check_jobs = check_jobs_taken;
  short_jobs = short_jobs_taken;
  summary_jobs = summary_jobs_taken;
  merge_filters = merge_filters_taken;
  summary_filters = summary_filters_taken;
  list = list_taken;
  list_options = list_options_taken;
  summary_json = summary_json_taken;
  summary_limits = summary_limits_taken;
  merge_output = merge_output_taken;
  summary_output = summary_output_taken;
  list_output = list_output_taken;
  extract_output = extract_output_taken;
  remove_output = remove_output_taken;
  gcov_output = gcov_output_taken;
  merge_strict = merge_strict_taken;
  summary_strict = summary_strict_taken;
  list_strict = list_strict_taken;
  extract_strict = extract_strict_taken;
  remove_strict = remove_strict_taken;
  check_strict = check_strict_taken;
  merge_large = merge_large_taken;
  summary_large = summary_large_taken;
  list_large = list_large_taken;
  extract_large = extract_large_taken;
  remove_large = remove_large_taken;
  check_large = check_large_taken;
}
