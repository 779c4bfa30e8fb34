-- The rows that a printed report is read as have the content that it was printed from, also together with any other rows.
use Rattle.std.proofs.Common.{◌≡◌, List, ◌++◌}
use Rattle.covtable.specs.Content.{content_of}
use Rattle.covlaws.specs.Printable.{submission_shown}
use Rattle.covdata.specs.Row.{Row, rows_of}
use Rattle.covtable.proofs.Contents.{content-append}
use Rattle.covlaws.proofs.ShownRows.{content_shown}

pub stands_for_rows : (rows others : List Row) → content_of (rows_of (submission_shown (content_of rows)) ++ others) ≡ content_of (rows ++ others)
stands_for_rows rows others = content-append (rows_of (submission_shown (content_of rows))) rows others (content_shown rows)
