use Rattle.covtable.specs.Table.{all_rows}
use Rattle.covtable.proofs.AlikeContents.{content_alike, agree_alike, rows_alike}
use Rattle.covtable.proofs.laws.order_of_submissions_does_not_matter.Goals as goal

pub returns-clause-content : goal.returns-clause-content
returns-clause-content c = λ table others permuted agree. content_alike (all_rows table) (all_rows others) (rows_alike table others permuted) agree

pub returns-clause-agree : goal.returns-clause-agree
returns-clause-agree c = λ table others permuted agree. agree_alike (all_rows table) (all_rows others) (rows_alike table others permuted) agree
