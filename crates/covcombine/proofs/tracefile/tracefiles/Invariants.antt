use Rattle.std.specs.Prelude.{◌≡◌, map, take}
use Rattle.std.specs.List.{AllByRecursion}
use Rattle.std.specs.String.{string_bytes}
use Rattle.covcombine.specs.declared.opened.Stage.TheVariants.{Unopened}
use Rattle.covcombine.proofs.tracefile.tracefiles.Given as goal

-- the files so far are the inputs
abbrev pub invariant-loop-name : goal.invariant-loop-name
invariant-loop-name g l = record {
  names : map (λ i. i.name.now) l.inputs.items ≡ map string_bytes (take l.name-index l.names);
  own : AllByRecursion (λ i. (i.folder.now ≡ l.folder) × (i.new_names.now ≡ l.new_names) × (i.strictness ≡ l.strictness) × (i.stage ≡ Unopened)) l.inputs.items;
}
