use Rattle.covtable.proofs.Clashes.{first_told, told_first, none_told, agree_none}
use Rattle.covtable.proofs.laws.the_first_clash_is_told.Goals as goal

pub returns-clause-first : goal.returns-clause-first
returns-clause-first c = λ held given clash agree. (first_told held given clash agree, told_first held given clash)

pub returns-clause-none : goal.returns-clause-none
returns-clause-none c = λ held given agree. (none_told held given agree, agree_none held given agree)
