use Rattle.std.proofs.Common.{◌≡◌, List, ℕ, suc, ◌+◌, Bool, ◌<◌, length, take, ap, ap₂, ◌∙◌, arith}
use Rattle.covdata.specs.Row.{SectData}
use Rattle.covpaths.specs.Names.{marked, used_after}
use Rattle.covpaths.specs.Paths.{first_mapped}
use Rattle.covpaths.specs.Steps.{file_in, mapped_sect, mapped_set}
use Rattle.covpaths.proofs.Partly.{file_next, mapped_next, partly, partly_all, partly_length, used_next}
use Rattle.covpaths.proofs.renaming.map_files.Goals as goal

pub map_file-requires : goal.map_file-requires
map_file-requires c =
    let same = ap (λ (sects : List SectData). length sects) c.loop-index.invariant.sects ∙ partly_length (mapped_sect c.args.names.now.rules) c.loop-index.index c.args.sects.now.sects in
    omega (arith, same)

pub loop-index-preserved : goal.loop-index-preserved
loop-index-preserved c =
    let rules = c.args.names.now.rules in
    let index = c.loop-index.index in
    let sects = c.args.sects.now.sects in
    let within : index < length sects = omega arith in
    let more : suc index ≡ index + 1 = omega arith in
    let file = ap (λ (sects : List SectData). file_in index sects) c.loop-index.invariant.sects ∙ file_next rules index sects in
    record {
      sects = c.in_ok-map_file.ensures.mapped
          ∙ ap₂ (λ (file : List ℕ) (sects : List SectData). mapped_set index (first_mapped rules file) sects) file c.loop-index.invariant.sects
          ∙ mapped_next rules index sects within
          ∙ ap (λ (n : ℕ). partly (mapped_sect rules) n sects) more;
      used = c.in_ok-map_file.ensures.used
          ∙ ap₂ (λ (used : List Bool) (file : List ℕ). marked used (first_mapped rules file)) c.loop-index.invariant.used file
          ∙ used_next rules c.args.used.now index sects within
          ∙ ap (λ (n : ℕ). used_after rules c.args.used.now (take n sects)) more;
    }

pub returns-clause-mapped : goal.returns-clause-mapped
returns-clause-mapped c =
    let all : c.loop-index.index ≡ length c.args.sects.now.sects = omega arith in
    c.loop-index.invariant.sects
    ∙ ap (λ (n : ℕ). partly (mapped_sect c.args.names.now.rules) n c.args.sects.now.sects) all
    ∙ partly_all (mapped_sect c.args.names.now.rules) c.args.sects.now.sects
