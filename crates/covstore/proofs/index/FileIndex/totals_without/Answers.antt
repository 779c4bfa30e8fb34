use Rattle.covstore.proofs.Words.{map, ◌∙◌, Branch, Function, Line, at}
use Rattle.covstore.proofs.EachKind.{totals_of_tallies}
use Rattle.covstore.proofs.index.FileIndex.totals_without.Goals as goal

pub lines_without-requires : goal.lines_without-requires
lines_without-requires g c = record { follows = c.requires.follows.lines; counted = (map (at Line) c.requires.counted.0, c.requires.counted.1.counts Line) }

pub functions_without-requires : goal.functions_without-requires
functions_without-requires g c = record { follows = c.requires.follows.functions; counted = (map (at Function) c.requires.counted.0, c.requires.counted.1.counts Function) }

pub branches_without-requires : goal.branches_without-requires
branches_without-requires g c = record { follows = c.requires.follows.branches; counted = (map (at Branch) c.requires.counted.0, c.requires.counted.1.counts Branch) }

pub returns : goal.returns
returns g c others rest are own =
    c.totals_of.ensures
    ∙ totals_of_tallies rest.counts c.lines_without.result c.functions_without.result c.branches_without.result
    (c.lines_without.ensures (map (at Line) others) rest.counts.lines (are.counts Line) (own.counts Line))
    (c.functions_without.ensures (map (at Function) others) rest.counts.functions (are.counts Function) (own.counts Function))
    (c.branches_without.ensures (map (at Branch) others) rest.counts.branches (are.counts Branch) (own.counts Branch))
