-- What a job kept of a history, seen as plain data.
use Rattle.covbook.specs.declared.log.JobLog.{JobLog}
use Rattle.covbook.specs.Gather.{LogData}

abbrev pub log_data : {A : Type 0} → JobLog A → LogData
log_data log = record { job = log.job; receipts = log.receipts; readings = log.readings }
