use Rattle.std.proofs.Common.{◌≡◌, List, map, sym, subst, ◌∙◌}
use Rattle.covbook.specs.Op.{SubmitOp}
use Rattle.covbook.specs.Step.{answer_of, table_of}
use Rattle.covdata.specs.Row.{SubmissionData}
use Rattle.covlcov2.specs.LineLaws.{Lcov2LineLaw}
use Rattle.covread.proofs.TraceGrammar.{LineLaw}
use Rattle.covlaws.proofs.ChunkRows.{same_texts, wholes_are}
use Rattle.covlaws.proofs.MergedParts.{all_in}
use Rattle.covlaws.proofs.chunks_count_as_the_whole.Goals as goal

pub returns : goal.returns
returns c = λ version files wholes submitted are same agree op asks.
    let law : LineLaw = record {
      meaning = c.each_line_has_one_meaning.ensures.one_meaning;
      fault = c.each_line_has_one_meaning.ensures.one_fault;
      never_both = c.each_line_has_one_meaning.ensures.no_fault_beside;
      one_of = c.each_line_has_one_meaning.ensures.some;
    } in
    let lcov2 : Lcov2LineLaw = record {
      meaning = c.each_lcov2_line_has_one_meaning.ensures.one_meaning;
      fault = c.each_lcov2_line_has_one_meaning.ensures.one_fault;
      never_both = c.each_lcov2_line_has_one_meaning.ensures.no_fault_beside;
      one_of = c.each_lcov2_line_has_one_meaning.ensures.some;
    } in
    let order = c.order_does_not_matter.ensures in
    let wholes_same = sym (wholes_are law lcov2 version files wholes are) in
    order.lists submitted (all_in files) same agree op asks
    ∙ subst (λ (all : List SubmissionData). answer_of (table_of (map SubmitOp (all_in files))) op ≡ answer_of (table_of (map SubmitOp all)) op) wholes_same
    (same_texts order.rows files (order.agree submitted (all_in files) same agree) op asks)
