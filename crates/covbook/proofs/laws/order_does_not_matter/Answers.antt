use Rattle.covbook.proofs.Orders.{agreement_stays, none_told, none_told_of, table_is, table_with_all, texts_stay, lists_stay}
use Rattle.covbook.proofs.laws.order_does_not_matter.Goals as goal

pub returns-clause-accepted : goal.returns-clause-accepted
returns-clause-accepted c = none_told c.the_first_clash_is_told.ensures.none

pub returns-clause-table : goal.returns-clause-table
returns-clause-table c = table_is c.the_first_clash_is_told.ensures.none

pub returns-clause-texts : goal.returns-clause-texts
returns-clause-texts c = texts_stay c.the_first_clash_is_told.ensures.none c.order_of_submissions_does_not_matter.ensures.content c.order_of_submissions_does_not_matter.ensures.agree

pub returns-clause-lists : goal.returns-clause-lists
returns-clause-lists c = lists_stay c.the_first_clash_is_told.ensures.none c.order_of_submissions_does_not_matter.ensures.content c.order_of_submissions_does_not_matter.ensures.agree

pub returns-clause-agree : goal.returns-clause-agree
returns-clause-agree c = agreement_stays c.order_of_submissions_does_not_matter.ensures.agree

pub returns-clause-none : goal.returns-clause-none
returns-clause-none c = none_told_of c.the_first_clash_is_told.ensures.none

pub returns-clause-rows : goal.returns-clause-rows
returns-clause-rows c = table_with_all c.the_first_clash_is_told.ensures.none
