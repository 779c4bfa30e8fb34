use Rattle.covstore.proofs.Words.{Vec, ℕ, List, ◌∷◌, sym, ap, ◌∙◌, subst, AllByRecursion, File, file_committed, sections_of_file}
use Rattle.covstore.specs.ContentView.{IsFewOf, sections_left}
use Rattle.covstore.proofs.SeenTests.{all_of_next, next_at_hand, none_at_hand}
use Rattle.covstore.proofs.content.SectionsIterator.next.Goals as goal

pub sections-requires : goal.sections-requires
sections-requires g c =
    let name = λ (key : Vec ℕ g.row.A.Denot). key.items in
    subst (λ (n : List ℕ). AllByRecursion IsFewOf (sections_of_file (n, file_committed c.get.result.now))) (sym c.as_slice.ensures.value)
    (all_of_next IsFewOf name c.loop-next.self-inside.current c.loop-next.self-inside.files (sections_left name c.self.inside.current c.self.inside.files) c.in_ok-name.name.now c.get.result.now c.next.new.self
    (c.in_ok-name.ensures.steps ∙ ap (λ (file : File g.row.A.Denot). (c.in_ok-name.name.now, file) ∷ c.next.new.self) (sym c.get.ensures)) c.loop-next.invariant c.self.invariant)

pub loop-next-preserved : goal.loop-next-preserved
loop-next-preserved g c =
    let name = λ (key : Vec ℕ g.row.A.Denot). key.items in
    let now = c.loop-next.self-inside in
    let file = c.get.result.now in
    next_at_hand name now.current now.files (sections_left name c.self.inside.current c.self.inside.files) c.in_ok-name.name.now file c.next.new.self c.sections.result
    (none_at_hand c.next_of_file-next.result now.current c.next_of_file-next.new.current c.is_some.result c.is_some.ensures c.if-is_some.false c.next_of_file-next.ensures)
    (c.in_ok-name.ensures.steps ∙ ap (λ (file : File g.row.A.Denot). (c.in_ok-name.name.now, file) ∷ c.next.new.self) (sym c.get.ensures)) c.loop-next.invariant
    (c.sections.ensures ∙ ap (λ (n : List ℕ). sections_of_file (n, file_committed file)) c.as_slice.ensures.value)
