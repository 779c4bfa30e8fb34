use Rattle.std.proofs.Common.{◌∙◌, ap, length}
use Rattle.covmap.proofs.SlotPages.{next_page}
use Rattle.covmap.proofs.entries.EntriesIterator.next.Goals as goal

-- after a page is finished, the next one begins
pub loop-key-preserved : goal.loop-key-preserved
loop-key-preserved g c =
    next_page (λ page. page) c.loop-key.self-inside.page c.slots-self-inside.result c.in_ok-page.page.now c.in_ok-page.pages.now c.loop-key.self-inside.pages.now
    (ap length c.in_default.ensures.none) c.in_ok-page.ensures.cases.0 c.slots-self-inside.ensures
    ∙ c.loop-key.invariant
