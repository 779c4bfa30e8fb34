use Rattle.covstore.proofs.Words.{map, AreCounts, Branch, CountsOf, Each, Function, Kind, Line, above_of, at, cmp_of, test_committed}
use Rattle.covstore.proofs.EachKind.{each_kind}
use Rattle.covstore.proofs.FewerHolders.{holders_of_lines}
use Rattle.covstore.proofs.index.FileIndex.uncount_test.Goals as goal

pub uncount_lines-requires : goal.uncount_lines-requires
uncount_lines-requires g c = record { follows = c.requires.follows.lines; counted = (map (at Line) c.requires.counted.0, c.requires.counted.1.counts Line) }

pub uncount_functions-requires : goal.uncount_functions-requires
uncount_functions-requires g c = record { follows = c.requires.follows.functions; counted = (map (at Function) c.requires.counted.0, c.requires.counted.1.counts Function) }

pub uncount_branches-requires : goal.uncount_branches-requires
uncount_branches-requires g c = record { follows = c.requires.follows.branches; counted = (map (at Branch) c.requires.counted.0, c.requires.counted.1.counts Branch) }

pub release_checksums-requires : goal.release_checksums-requires
release_checksums-requires g c = (c.requires.counted.0, holders_of_lines (test_committed c.args.points.now) c.requires.counted.0 c.args.self.now.checksums.committed c.requires.counted.1.holders)

pub returns-clause-committed : goal.returns-clause-committed
returns-clause-committed g c others are =
    let counts : Each CountsOf = record { lines = c.uncount_lines.new.kept.committed; functions = c.uncount_functions.new.kept.committed; branches = c.uncount_branches.new.kept.committed } in
    record {
      counts = each_kind (λ (kind : Kind). AreCounts (cmp_of kind) (above_of kind) (map (at kind) others) (at kind counts))
          (c.uncount_lines.ensures.committed (map (at Line) others) (are.counts Line))
          (c.uncount_functions.ensures.committed (map (at Function) others) (are.counts Function))
          (c.uncount_branches.ensures.committed (map (at Branch) others) (are.counts Branch));
      holders = c.release_checksums.ensures.committed others (holders_of_lines (test_committed c.args.points.now) others c.args.self.now.checksums.committed are.holders);
    }
