use Rattle.std.proofs.Common.{sym, ap, ◌∙◌}
use Rattle.covbook.specs.Op.{EntryData}
use Rattle.covbook.specs.Step.{next_entry}
use Rattle.covbook.proofs.book.Book.finish.Goals as goal

pub note-requires-clause-next : goal.note-requires-clause-next
note-requires-clause-next g c = let is = c.into_parts-entry.ensures.entry in is ∙ c.requires.next ∙ ap (λ (e : EntryData). next_entry c.args.self.now.entries e.job e.op) (sym is)

pub hold-requires-clause-next : goal.hold-requires-clause-next
hold-requires-clause-next g c = let is = c.into_parts-entry.ensures.entry in is ∙ c.requires.next ∙ ap (λ (e : EntryData). next_entry c.args.self.now.entries e.job e.op) (sym is)

pub drop_test-requires-clause-next : goal.drop_test-requires-clause-next
drop_test-requires-clause-next g c = let is = c.into_parts-entry.ensures.entry in is ∙ c.requires.next ∙ ap (λ (e : EntryData). next_entry c.args.self.now.entries e.job e.op) (sym is)

pub rename-requires-clause-next : goal.rename-requires-clause-next
rename-requires-clause-next g c = let is = c.into_parts-entry.ensures.entry in is ∙ c.requires.next ∙ ap (λ (e : EntryData). next_entry c.args.self.now.entries e.job e.op) (sym is)
