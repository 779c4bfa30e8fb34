-- If only staged values differ, a store still represents the table that it represented before.
use Rattle.std.proofs.Common.{◌∙◌}
use Rattle.covstore.specs.Store.{StoreData, SameContent, StandsFor}
use Rattle.covtable.specs.Table.{Table}

pub stands_still : (before after : StoreData) (table : Table) → SameContent before after → StandsFor before table → StandsFor after table
stands_still before after table same stands = record {
  content = same.sections ∙ stands.content;
  members = same.members ∙ stands.members;
  agree = stands.agree;
  few = stands.few;
  small = stands.small;
}
