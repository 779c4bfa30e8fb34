use Rattle.covstore.proofs.Words.{not, Option, Some, option_map, sym, ap, ◌∙◌, has_no_points, points_or_none, TestData, test_committed}
use Rattle.covstore.proofs.MapNames.{value_of_named}
use Rattle.covstore.proofs.Settled.{file_name}
use Rattle.covstore.proofs.file.File.has_test.Goals as goal

pub returns-in-Some : goal.returns-in-Some
returns-in-Some g c = rw (← c.self.view_is)
    (ap not (c.is_empty.ensures ∙ ap (λ (found : Option TestData). has_no_points (points_or_none found))
    (ap (λ points. Some (test_committed points)) c.get-in-Some.ensures ∙ ap (option_map test_committed) c.in-Some.ensures.value ∙ sym (value_of_named file_name test_committed c.args.test.now c.self.inside.tests.entries))))

pub returns-in-None : goal.returns-in-None
returns-in-None g c = rw (← c.self.view_is)
    (ap (λ (found : Option TestData). not (has_no_points (points_or_none found)))
    (ap (option_map test_committed) c.in-None.ensures.value ∙ sym (value_of_named file_name test_committed c.args.test.now c.self.inside.tests.entries)))
