use Rattle.covsession.proofs.SessionLaw.{some_session, one_session, read_some, read_one}
use Rattle.covsession.proofs.laws.each_input_has_one_session_text.Goals as goal

pub returns-clause-some : goal.returns-clause-some
returns-clause-some c =
    let trace = c.each_text_has_one_outcome.ensures in
    let gcov = c.each_gcov_text_has_one_outcome.ensures in
    some_session (read_some trace.some gcov.some) (read_one trace.one gcov.one)

pub returns-clause-one : goal.returns-clause-one
returns-clause-one c =
    let trace = c.each_text_has_one_outcome.ensures in
    let gcov = c.each_gcov_text_has_one_outcome.ensures in
    one_session (read_some trace.some gcov.some) (read_one trace.one gcov.one)
