-- Entries and receipts of the program, seen as plain data.
use Rattle.covbook.specs.declared.entry.Entry.{Entry}
use Rattle.covbook.specs.declared.entry.Receipt.{Receipt}
use Rattle.covbook.specs.Op.{EntryData, ReceiptData}
use Rattle.covbook.specs.View.{op_data, answer_data}

abbrev pub entry_data : {A : Type 0} → Entry A → EntryData
entry_data e = record { job = e.job; op = op_data e.op; answer = answer_data e.answer; after = e.after }

abbrev pub receipt_data : {A : Type 0} → Receipt A → ReceiptData
receipt_data r = record { place = r.place; op = op_data r.op; answer = answer_data r.answer }
