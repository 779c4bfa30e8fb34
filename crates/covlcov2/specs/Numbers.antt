-- Definitions for private steps: what is kept of the branches of an open section, to number the next one.
use Rattle.std.specs.Prelude.{◌≡◌, ℕ, ◌&&◌, ◌||◌, ◌==◌, if◌then◌else◌, max, not, Bool, false, List, [], ◌∷◌, Option, Some, None}
use Rattle.std.specs.BTreeMap.{BTreeMap, Updates, get}
use Rattle.std.specs.Option.{is_some}
use Rattle.std.specs.Ordering.{nat_cmp, ordering_then}
use Rattle.std.specs.declared.cmp.Ordering.{Ordering}
use Rattle.covlcov2.specs.declared.numbers.Block.{Block}
use Rattle.covlcov2.specs.declared.numbers.Run.{Run}
use Rattle.covlcov2.specs.declared.numbers.Runs.{Runs}
use Rattle.covlcov2.specs.declared.numbers.Numbering.{Numbering}
use Rattle.covlcov2.specs.declared.numbers.Numbers.{Numbers}
use Rattle.covlcov2.specs.declared.numbers.Numbers.TheVariants as numbers
use Rattle.covlcov2.specs.Spells.{Lcov2Data}
use Rattle.covlcov2.specs.Reads.{has_expression, next_number, number_from, one_more}

-- the order of blocks, as their `Ord` has it: by line, then by number
abbrev pub block_cmp : Block → Block → Ordering
block_cmp a b = ordering_then (nat_cmp a.line b.line) (nat_cmp a.block b.block)

abbrev pub is_same_block : Block → Block → Bool
is_same_block a b = a.line == b.line && a.block == b.block

-- the run's next number if the run is of this block, otherwise 0
abbrev pub next_in_run : Block → Run → ℕ
next_in_run q run = if is_same_block run.block q then run.next else 0

-- the greatest next number of the runs of this block, or 0 if there are none
abbrev pub next_in_list : Block → List Run → ℕ
next_in_list q [] = 0
next_in_list q (run ∷ runs) = max (next_in_run q run) (next_in_list q runs)

abbrev pub next_in_runs : {A : Type 0} → Block → Runs A → ℕ
next_in_runs q runs = max (next_in_list q runs.ended.items) (next_in_run q runs.current)

-- the numbering of a block that may be missing
abbrev pub numbering_of : Option Numbering → Numbering
numbering_of (Some numbering) = numbering
numbering_of None = record { next = 0; has_expression = false }

-- the numbering after one more branch
abbrev pub numbering_after : Numbering → (given : Option ℕ) → Numbering
numbering_after before given = record {
  next = max before.next (one_more (number_from before.has_expression before.next given));
  has_expression = before.has_expression || not (is_some given);
}

-- the run is added to the numbering of its block
abbrev pub IsPut : Run → BTreeMap Block Numbering → BTreeMap Block Numbering → Type 0
IsPut run before after = Updates block_cmp before after run.block (Some (record {
  next = max (numbering_of (get block_cmp before run.block)).next run.next;
  has_expression = (numbering_of (get block_cmp before run.block)).has_expression;
}))

-- the runs are added to the numberings of their blocks
abbrev pub ArePut : List Run → BTreeMap Block Numbering → BTreeMap Block Numbering → Type 0
ArePut runs before after = (q : Block) → numbering_of (get block_cmp after q) ≡ record {
  next = max (numbering_of (get block_cmp before q)).next (next_in_list q runs);
  has_expression = (numbering_of (get block_cmp before q)).has_expression;
}

-- no block of the map has an expression, and the blocks' next numbers are those of the runs
abbrev pub HasRuns : {A : Type 0} → Runs A → BTreeMap Block Numbering → Type 0
HasRuns runs numberings = (q : Block) → numbering_of (get block_cmp numberings q) ≡ record { next = next_in_runs q runs; has_expression = false }

-- for each block, the numbers have the block's next number below these lines, and whether one of its branches has an expression
abbrev pub HasNumbers : {A : Type 0} → Numbers A → List Lcov2Data → Type 0
HasNumbers (numbers.Given runs) above = (q : Block) → (next_in_runs q runs ≡ next_number q.line q.block above) × (has_expression q.line q.block above ≡ false)
HasNumbers (numbers.Assigned numberings) above =
    (q : Block) → numbering_of (get block_cmp numberings q) ≡ record { next = next_number q.line q.block above; has_expression = has_expression q.line q.block above }
