use Rattle.std.specs.Prelude.{◌≡◌, map, take}
use Rattle.std.specs.String.{string_bytes}
use Rattle.covpaths.specs.Names.{AreGoodNames}
use Rattle.covcombine.specs.Options.{AreRulesOf}
use Rattle.covcombine.proofs.work.new_names_of.Given as goal

-- the words so far gave these rules
abbrev pub invariant-loop-word : goal.invariant-loop-word
invariant-loop-word l = record {
  rules : AreRulesOf (map string_bytes (take l.word-index l.words)) l.names.rules;
  test : l.names.test ≡ l.initial.names.test;
  good : AreGoodNames l.names;
}
