use Rattle.std.proofs.Common.{◌≤◌, ◌∙◌, ℕ, List, length, subst, sym}
use Rattle.covline.proofs.Checksums.{after_fits, front_is, no_front, whole_front}
use Rattle.covline.proofs.reader.front_checksum.Goals as goal

pub slice_bounds-checksum-count : goal.slice_bounds-checksum-count
slice_bounds-checksum-count c = subst (λ (rest : List ℕ). length rest ≤ length c.args.text.now) (sym c.after_checksum-rest.ensures) (after_fits c.args.text.now)

pub returns-then-is_empty : goal.returns-then-is_empty
returns-then-is_empty c = no_front _ _ (sym c.is_empty.ensures ∙ c.if-is_empty.true) ∙ front_is c.args.text.now c.after_checksum-rest.result.now c.after_checksum-rest.ensures

pub returns : goal.returns
returns c = whole_front _ _ (sym c.is_empty.ensures ∙ c.if-is_empty.false) ∙ front_is c.args.text.now c.after_checksum-rest.result.now c.after_checksum-rest.ensures
