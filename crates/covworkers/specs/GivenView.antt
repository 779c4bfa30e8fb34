-- What a worker submits, as plain data.
use Rattle.covdata.specs.Row.{SubmissionData}
use Rattle.covworkers.specs.declared.given.Form.{Form}
use Rattle.covworkers.specs.declared.given.Form.TheVariants.{Plain, Packed}

abbrev pub form_data : {A : Type 0} → Form A → SubmissionData
form_data (Plain submission) = submission
form_data (Packed submission) = submission
