use Rattle.std.specs.Prelude.{◌≡◌, None, map, take}
use Rattle.std.specs.List.{AllByRecursion}
use Rattle.std.specs.String.{string_bytes}
use Rattle.covrun.proofs.file_input.file_inputs.Given as goal

-- the files so far are the inputs
abbrev pub invariant-loop-name : goal.invariant-loop-name
invariant-loop-name g l = record {
  names : map (λ i. i.name.now) l.inputs.items ≡ map string_bytes (take l.name-index l.files);
  own : AllByRecursion (λ i. (i.folder.now ≡ l.folder) × (i.format.now ≡ l.format) × (i.strictness ≡ l.strictness) × (i.opened ≡ None)) l.inputs.items;
}
