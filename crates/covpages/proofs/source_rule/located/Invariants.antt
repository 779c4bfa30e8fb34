use Rattle.std.proofs.Common.{◌≡◌, drop, map}
use Rattle.std.specs.String.{string_bytes}
use Rattle.covpages.specs.Sources.{located_by, rules_of}
use Rattle.covpages.proofs.source_rule.located.Given as goal

abbrev pub invariant-loop-word : goal.invariant-loop-word
invariant-loop-word l = located_by (rules_of (map string_bytes (drop l.word-index l.words))) l.path ≡ located_by (rules_of (map string_bytes l.words)) l.path
