-- What contracts see of the seat of a job.
use Rattle.std.specs.Prelude.{ℕ, ◌+◌, List, [], ◌∷◌, ◌++◌, map}
use Rattle.std.specs.List.{range_with_len, sum_by}
use Rattle.covbook.specs.Gather.{LogData}
use Rattle.covbook.specs.Op.{ReceiptData}

-- the job, how many of its calls succeeded, the place right after the entry of the last of these calls, or 0 if there is none, and
-- the receipts of these calls, in order. The receipts exist only in proofs
pub record SeatData : Type 0 where
  pub job : ℕ
  pub calls : ℕ
  pub seen : ℕ
  pub receipts : List ReceiptData

-- the seat of a job that has made no call
abbrev pub fresh_seat : ℕ → SeatData
fresh_seat job = record { job = job; calls = 0; seen = 0; receipts = [] }

-- the seats of the jobs from 0 to `jobs - 1`, which have made no call
abbrev pub first_seats : ℕ → List SeatData
first_seats jobs = map fresh_seat (range_with_len 0 jobs)

-- the seat after one more call that succeeded, with this receipt
abbrev pub after_call : SeatData → ReceiptData → SeatData
after_call seat receipt = record { job = seat.job; calls = seat.calls + 1; seen = receipt.place + 1; receipts = seat.receipts ++ receipt ∷ [] }

-- how many calls of all these seats succeeded
abbrev pub calls_in : List SeatData → ℕ
calls_in seats = sum_by (λ s. s.calls) seats

-- the log of a seat: the receipts of its calls, and no readings
abbrev pub log_of : SeatData → LogData
log_of seat = record { job = seat.job; receipts = seat.receipts; readings = [] }

abbrev pub logs_of : List SeatData → List LogData
logs_of seats = map log_of seats
