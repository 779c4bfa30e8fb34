use Rattle.std.proofs.Common.{rules}
use Rattle.covmap.proofs.slots.page.Page.order.Goals as goal

pub returns-in-Some : goal.returns-in-Some
returns-in-Some c = search rules fits 100
