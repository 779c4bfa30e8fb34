use Rattle.std.proofs.Common.{rules, List, sym, subst}
use Rattle.std.proofs.lemmas.List.Sorted.{IsNonDecreasingBy-from_sort_by_key}
use Rattle.std.specs.List.Sorted.{IsNonDecreasingBy}
use Rattle.covworkers.specs.declared.refused.RefusedInput.{RefusedInput}
use Rattle.covworkers.proofs.Written.{all_written}
use Rattle.covworkers.proofs.refused.Refused.sort.Goals as goal

-- the sort's contract is about the slice of all inputs, so the places ascend in the whole list
pub returns-clause-ascending : goal.returns-clause-ascending
returns-clause-ascending g c =
    let new = c.sort_unstable_by_key.new.self in
    subst (λ (xs : List (RefusedInput g.row.F.Denot)). IsNonDecreasingBy (λ (r : RefusedInput g.row.F.Denot). r.index) xs) (sym (all_written c.self.inside.inputs.len new c.self.inside.inputs.items (search rules) (search rules)))
    (IsNonDecreasingBy-from_sort_by_key (λ (r : RefusedInput g.row.F.Denot). r.index) new c.sort_unstable_by_key.ensures.sorted (λ a r f k. search rules))
