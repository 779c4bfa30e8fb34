use Rattle.std.proofs.Common.{subst, sym}
use Rattle.covbook.specs.EntryView.{entry_data}
use Rattle.covbook.specs.Step.{ComesNext}
use Rattle.covnews.specs.Publisher.{PublisherData}
use Rattle.covnews.proofs.publisher.Publisher.note.Goals as goal

pub appended-requires-clause-next : goal.appended-requires-clause-next
appended-requires-clause-next g c = subst (λ (p : PublisherData). ComesNext p.noted (entry_data c.args.entry.now)) (sym c.self.view_is) c.requires.next
