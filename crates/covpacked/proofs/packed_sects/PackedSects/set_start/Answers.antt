use Rattle.covpacked.proofs.Starts.{has_numbers, started_ok, started_open, started_sects}
use Rattle.covpacked.proofs.packed_sects.PackedSects.set_start.Goals as goal

pub set_line-requires : goal.set_line-requires
set_line-requires g c =
    let before = c.self.inside in
    has_numbers before.numbers.items before.texts.items before.words.items before.sects.items before.closed c.self.invariant c.args.self.now c.self.view_is c.args.at c.index-word.result.now c.requires c.index-word.ensures

pub invariant_of-self : goal.invariant_of-self
invariant_of-self g c =
    let before = c.self.inside in
    started_ok before.numbers.items before.texts.items before.words.items before.sects.items before.closed c.self.invariant c.args.self.now c.self.view_is c.args.at c.index-word.result.now c.requires c.index-word.ensures
    c.args.line c.set_line.new.numbers.items c.set_line.ensures

pub returns-clause-sects : goal.returns-clause-sects
returns-clause-sects g c =
    let before = c.self.inside in
    started_sects before.numbers.items before.texts.items before.words.items before.sects.items before.closed c.self.invariant c.args.self.now c.self.view_is c.args.at c.index-word.result.now c.requires c.index-word.ensures
    c.args.line c.set_line.new.numbers.items c.set_line.ensures

pub returns-clause-items : goal.returns-clause-items
returns-clause-items g c =
    let before = c.self.inside in
    started_open before.numbers.items before.texts.items before.words.items before.sects.items before.closed c.self.invariant c.args.self.now c.self.view_is c.args.at c.index-word.result.now c.requires c.index-word.ensures
    c.args.line c.set_line.new.numbers.items c.set_line.ensures
