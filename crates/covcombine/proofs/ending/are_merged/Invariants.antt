use Rattle.std.specs.Prelude.{◌≡◌, drop}
use Rattle.std.specs.List.{list_all}
use Rattle.covcombine.specs.Combine.{is_merged}
use Rattle.covcombine.proofs.ending.are_merged.Given as goal

-- each file so far was merged, so the further files decide the result
abbrev pub invariant-loop-note : goal.invariant-loop-note
invariant-loop-note l = list_all (λ n. is_merged n.fault) (drop l.note-index l.notes) ≡ list_all (λ n. is_merged n.fault) l.notes
