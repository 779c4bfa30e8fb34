-- Values of the code, seen as plain data.
use Rattle.std.specs.Prelude.{map}
use Rattle.std.specs.String.{string_bytes}
use Rattle.covlimit.specs.LimitsView.{limits_data}
use Rattle.covreport.specs.ChoiceView.{choice_data}
use Rattle.covcombine.specs.Combine.{EndingData, Fails, Gives, GivenData}
use Rattle.covcombine.specs.Options.{CombineData}
use Rattle.covcombine.specs.declared.ending.Ending.{Ending}
use Rattle.covcombine.specs.declared.ending.Ending.TheVariants as endings
use Rattle.covcombine.specs.declared.ending.Given.{Given}
use Rattle.covcombine.specs.declared.work.Work.{Work}

abbrev pub work_data : Work → CombineData
work_data work = record {
  files = map string_bytes work.files.now;
  new = work.new_names;
  strictness = work.strictness;
  choice = choice_data work.choice;
  overview = work.overview;
  form = work.form;
  limits = limits_data work.limits;
  expected = work.expected;
}

abbrev pub given_data : {T Plan Renaming : Type 0} → Given T Plan Renaming → GivenData
given_data given = record { warnings = given.warnings; tracefile = given.tracefile; overview = given.overview; missed = given.missed }

abbrev pub ending_data : {T Plan Renaming : Type 0} → Ending T Plan Renaming → EndingData
ending_data (endings.Stopped line) = Fails 3 line.now
ending_data (endings.Fails status lines) = Fails status lines
ending_data (endings.Gives given) = Gives (given_data given)
