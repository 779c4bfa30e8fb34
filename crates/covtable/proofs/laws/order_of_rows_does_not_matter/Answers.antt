use Rattle.covtable.proofs.Alike.{alike_permuted}
use Rattle.covtable.proofs.AlikeContents.{content_alike, agree_alike}
use Rattle.covtable.proofs.laws.order_of_rows_does_not_matter.Goals as goal

pub returns-clause-content : goal.returns-clause-content
returns-clause-content c = λ rows others permuted agree. content_alike rows others (alike_permuted rows others permuted) agree

pub returns-clause-agree : goal.returns-clause-agree
returns-clause-agree c = λ rows others permuted agree. agree_alike rows others (alike_permuted rows others permuted) agree
