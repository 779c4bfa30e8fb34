use Rattle.covsession.proofs.SessionFaultLaw.{never_refused, input_good}
use Rattle.covline.specs.Lines.{pieces_of}
use Rattle.covsession.proofs.laws.no_session_refuses_a_test.Goals as goal

pub returns : goal.returns
returns c = λ input commands are. never_refused c.lines_are_the_text.ensures.good_rest (pieces_of input) commands (input_good c.lines_are_the_text.ensures.good_lines input) are
