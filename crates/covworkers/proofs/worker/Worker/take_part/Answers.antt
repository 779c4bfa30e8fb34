use Rattle.std.proofs.Common.{Option, Some, sym, subst}
use Rattle.covbook.specs.declared.book.BookFault.{BookFault}
use Rattle.covworkers.specs.Late.{chances_of}
use Rattle.covworkers.specs.Work.{IsReading}
use Rattle.covworkers.proofs.Parts.{if_no_fault, part_read, part_taken}
use Rattle.covworkers.proofs.worker.Worker.take_part.Goals as goal

-- something was refused before, so the part is only read
pub returns-in-Some-clause-reading : goal.returns-in-Some-clause-reading
returns-in-Some-clause-reading g c =
    let chances = chances_of g.T.LateInput.may_give g.T.LateInput.may_fail in
    let worker = c.args.self.now in
    subst (λ (first : Option BookFault). IsReading chances c.args.index c.args.input first worker c.in_ok-part.rest (Some c.in-Some.fault) c.parts_in-parts.result worker) (sym c.in-Some.is)
    (part_read chances c.args.index c.args.input c.in_ok-part.part c.in_ok-part.rest c.in-Some.fault c.parts_in-parts.result worker c.in_ok-part.ensures.part c.parts_in-parts.ensures c.in_ok-part.ensures.fails)

-- the part is taken
pub returns-in-None-clause-reading : goal.returns-in-None-clause-reading
returns-in-None-clause-reading g c =
    let chances = chances_of g.T.LateInput.may_give g.T.LateInput.may_fail in
    let old = c.args.self.now in
    let new = c.take.new.self in
    let fault = c.err.result in
    subst (λ (first : Option BookFault). IsReading chances c.args.index c.args.input first old c.in_ok-part.rest fault c.parts_in-parts.result new) (sym c.in-None.is)
    (part_taken chances c.args.index c.args.input c.in_ok-part.part c.in_ok-part.rest fault c.parts_in-parts.result old new c.in_ok-part.ensures.part c.parts_in-parts.ensures c.in_ok-part.ensures.fails
    (if_no_fault c.take.result fault _ c.err.ensures.value c.take.ensures.submits)
    (if_no_fault c.take.result fault _ c.err.ensures.value c.take.ensures.tells)
    (if_no_fault c.take.result fault _ c.err.ensures.value c.take.ensures.read))
