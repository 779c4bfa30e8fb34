use Rattle.covcommand.proofs.Calls.{jobs_refused, no_jobs_refused, extract_refused, gcov_refused, check_refused, check_jobs_refused, twice_refused, gcov_lcov2_refused, lcov2_twice_refused, extract_include_refused, no_pattern_refused, merge_json_refused, list_limit_refused, list_files_refused, json_twice_refused, limit_twice_refused, no_limit_refused, output_twice_refused, no_output_refused, check_output_refused, session_output_refused, gcov_strict_refused, session_strict_refused, strict_twice_refused, strict_value_refused, gcov_large_refused, session_large_refused, large_twice_refused, large_value_refused, help_refused, version_refused, version_of_one_refused}
use Rattle.covcommand.proofs.laws.calls_are_refused.Goals as goal

pub returns : goal.returns
returns c = record {
  jobs = jobs_refused;
  no_jobs = no_jobs_refused;
  extract = extract_refused;
  gcov = gcov_refused;
  check = check_refused;
  check_jobs = check_jobs_refused;
  twice = twice_refused;
  gcov_lcov2 = gcov_lcov2_refused;
  lcov2_twice = lcov2_twice_refused;
  extract_include = extract_include_refused;
  no_pattern = no_pattern_refused;
  merge_json = merge_json_refused;
  list_limit = list_limit_refused;
  list_files = list_files_refused;
  json_twice = json_twice_refused;
  limit_twice = limit_twice_refused;
  no_limit = no_limit_refused;
  output_twice = output_twice_refused;
  no_output = no_output_refused;
  check_output = check_output_refused;
  session_output = session_output_refused;
  gcov_strict = gcov_strict_refused;
  session_strict = session_strict_refused;
  strict_twice = strict_twice_refused;
  strict_value = strict_value_refused;
  gcov_large = gcov_large_refused;
  session_large = session_large_refused;
  large_twice = large_twice_refused;
  large_value = large_value_refused;
  help = help_refused;
  version = version_refused;
  version_of_one = version_of_one_refused;
}
