use Rattle.std.proofs.Common.{◌≡◌, ◌∙◌, List, subst, sym}
use Rattle.covbook.specs.Op.{EntryData}
use Rattle.covbook.specs.Step.{ComesNext}
use Rattle.covnews_tests.proofs.tests.step.Goals as goal

-- the entry comes next in the book, and the publisher has noted the book's entries
pub note-requires-clause-next : goal.note-requires-clause-next
note-requires-clause-next g c =
    let noted = c.args.publisher.now.noted in
    let same : noted ≡ c.ready.new.self.entries = c.requires ∙ sym c.ready.ensures.same.entries in
    let next : ComesNext noted c.in-Ok.ready.entry = subst (λ (history : List EntryData). ComesNext history c.in-Ok.ready.entry) (sym same) c.in-Ok.ensures.ready.ready.next in
    subst (λ (entry : EntryData). ComesNext noted entry) (sym c.entry.ensures) next
