-- A job keeps the receipt of each of its seat's calls.
use Rattle.std.proofs.Common.{◌≡◌, ◌+◌, List, [], ◌∷◌, ◌++◌, length, ap, arith}
use Rattle.std.proofs.lemmas.List.{length-append}
use Rattle.covbook.specs.Op.{ReceiptData}
use Rattle.covlock.specs.Seat.{SeatData, after_call}
use Rattle.covworkers.specs.Work.{AreReceiptsOf}

pub one_more_kept : (seat : SeatData) (receipts : List ReceiptData) (told : ReceiptData) → AreReceiptsOf seat receipts → AreReceiptsOf (after_call seat told) (receipts ++ told ∷ [])
one_more_kept seat receipts told are =
    let long : length (receipts ++ told ∷ []) ≡ length receipts + 1 = length-append receipts (told ∷ []) in
    record {
      same = ap (λ (rs : List ReceiptData). rs ++ told ∷ []) are.same;
      counted = omega (arith, long, are.counted);
    }
