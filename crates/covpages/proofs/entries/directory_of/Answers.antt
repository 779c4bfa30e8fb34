use Rattle.std.proofs.Common.{ℕ, ◌-◌, List, length, take, sym, ap, ◌∙◌, arith}
use Rattle.covpages.proofs.DirectoryNames.{before_name, name_short, not_none}
use Rattle.covpages.proofs.entries.directory_of.Goals as goal

pub slice_bounds-front-count : goal.slice_bounds-front-count
slice_bounds-front-count c = omega (arith, ap length c.name_of.ensures, name_short c.args.path.now)

pub returns-else-is_empty : goal.returns-else-is_empty
returns-else-is_empty c =
    let path = c.args.path.now in
    before_name path (take (length path - length c.name_of.result.now) path) (ap (λ (name : List ℕ). take (length path - length name) path) c.name_of.ensures)
    c.in-Some.directory.now c.in-Some.field-0-0.now c.in-Some.ensures.cases.0
    (not_none c.in-Some.directory.now (sym c.is_empty.ensures ∙ c.if-is_empty.false))
