-- What the reader of gcov's text holds between two lines, and what a line makes of it: for the contracts of its private
-- steps. GcovItems and GcovOutcome say what a text is read as.
use Rattle.std.specs.Prelude.{Bool, true, false, ◌||◌, is_some, is_ok, ◌⊎◌, ◌≡◌, ℕ, ◌+◌, List, [], ◌∷◌, ◌++◌, Option, Some, None, Result, Ok, Err, map, option_map, if◌then◌else◌}
use Rattle.covdata.specs.Row.{ItemData, BranchItem, SectData, SubmissionData}
use Rattle.covline.specs.Lines.{lines_of}
use Rattle.covdata.specs.declared.fault.ReadFault.{ReadFault}
use Rattle.covdata.specs.declared.fault.ReadFault.TheVariants as faults
use Rattle.covread.specs.declared.gcov.reader.Function.{Function}
use Rattle.covread.specs.declared.gcov.reader.BranchAnchor.{BranchAnchor}
use Rattle.covread.specs.declared.gcov.reader.OpenSection.{OpenSection}
use Rattle.covread.specs.declared.gcov.reader.Reader.{Reader}
use Rattle.covread.specs.Gcov.{GcovLine, Path, SourceLine, FuncCount, BranchCount, BlockNumber, Nothing, Says, says_of}
use Rattle.covread.specs.GcovReading.{shape_of}
use Rattle.covread.specs.GcovItems.{begins_keeping, func_item, line_item, is_empty}
use Rattle.covread.specs.GcovOutcome.{own_fault, HasBegun}

-- the section of the last path: its items so far, and its last source line with the block that branches belong to
pub record SectionData : Type 0 where
  pub file : List ℕ
  pub items : List ItemData
  pub anchor : Option BranchAnchor

pub record HeldData : Type 0 where
  pub waiting : List (List ℕ × ℕ)
  pub section : Option SectionData
  pub sects : List SectData

abbrev pub func_data : Function → List ℕ × ℕ
func_data f = (f.name.now, f.count)

abbrev pub section_data : List ItemData → OpenSection → SectionData
section_data items s = record { file = s.file.now; items = items; anchor = s.anchor }

abbrev pub held_data : {A : Type 0} → Reader A → HeldData
held_data r = record { waiting = map func_data r.waiting.items; section = option_map (section_data r.sects.items) r.section; sects = r.sects.sects }

-- before the first line
abbrev pub empty : HeldData
empty = record { waiting = []; section = None; sects = [] }

-- the section that ends, if one is open
abbrev pub closed : List ℕ → Option SectionData → List SectData
closed test None = []
closed test (Some s) = record { test = test; file = s.file; items = s.items } ∷ []

-- what is held after the open section got more items and another anchor; these functions wait
abbrev pub section_with : SectionData → List ItemData → Option BranchAnchor → HeldData → List (List ℕ × ℕ) → HeldData
section_with s more anchor held waiting = record { waiting = waiting; section = Some (record { file = s.file; items = s.items ++ more; anchor = anchor }); sects = held.sects }

abbrev pub Stepped : Type 0
Stepped = Result HeldData ReadFault

abbrev pub begun : List ℕ → List ℕ → HeldData → HeldData
begun test path held = record { waiting = held.waiting; section = Some (record { file = path; items = []; anchor = None }); sects = held.sects ++ closed test held.section }

abbrev pub step_path : List ℕ → ℕ → HeldData → List ℕ → Stepped
step_path test at held [] = Err (faults.NoSource at)
step_path test at held (b ∷ bs) = if is_empty held.waiting then Ok (begun test (b ∷ bs) held) else Err faults.LostFunction

abbrev pub step_source : ℕ → Option SectionData → HeldData → ℕ → Option ℕ → Stepped
step_source at None held line count = Err (faults.NoSource at)
step_source at (Some s) held line count =
    Ok (section_with s (map (func_item line) held.waiting ++ line_item line count) (Some (record { line = line; block = 0 })) held [])

abbrev pub step_func : HeldData → List ℕ → ℕ → HeldData
step_func held name count = record { waiting = held.waiting ++ (name, count) ∷ []; section = held.section; sects = held.sects }

abbrev pub step_branch_in : ℕ → SectionData → Option BranchAnchor → HeldData → ℕ → Option ℕ → Stepped
step_branch_in at s None held branch taken = Err (faults.Misplaced at)
step_branch_in at s (Some p) held branch taken = Ok (section_with s (BranchItem p.line p.block branch taken ∷ []) s.anchor held held.waiting)

abbrev pub step_branch : ℕ → Option SectionData → HeldData → ℕ → Option ℕ → Stepped
step_branch at None held branch taken = Err (faults.Misplaced at)
step_branch at (Some s) held branch taken = step_branch_in at s s.anchor held branch taken

abbrev pub in_block : ℕ → BranchAnchor → BranchAnchor
in_block block p = record { line = p.line; block = block }

abbrev pub section_in_block : ℕ → SectionData → SectionData
section_in_block block s = record { file = s.file; items = s.items; anchor = option_map (in_block block) s.anchor }

abbrev pub step_block : HeldData → ℕ → HeldData
step_block held block = record { waiting = held.waiting; section = option_map (section_in_block block) held.section; sects = held.sects }

-- what a line makes of what is held
abbrev pub step : List ℕ → ℕ → HeldData → GcovLine → Stepped
step test at held (Path path) = step_path test at held path
step test at held (SourceLine line count) = step_source at held.section held line count
step test at held (FuncCount name count) = Ok (step_func held name count)
step test at held (BranchCount branch taken) = step_branch at held.section held branch taken
step test at held (BlockNumber block) = Ok (step_block held block)
step test at held Nothing = Ok held

abbrev pub line_step : List ℕ → ℕ → HeldData → Says → Stepped
line_step test at held (Err why) = Err (own_fault at why)
line_step test at held (Ok says) = step test at held says

-- a line makes the reader's lists grow: keeping begins with it, or a section is open
abbrev pub grows : HeldData → GcovLine → Bool
grows held says = begins_keeping says || is_some held.section

abbrev pub line_grows : HeldData → Says → Bool
line_grows held (Err why) = false
line_grows held (Ok says) = grows held says

-- the code's step gives what the step on plain data gives, or it runs out of memory. It runs out only if the step on plain data
-- has no fault, and the reader's lists grow
abbrev pub StepsTo : {T : Type 0} → Result T ReadFault → HeldData → Bool → Stepped → Type 0
StepsTo (Ok done) after growing stepped = stepped ≡ Ok after
StepsTo (Err fault) after growing stepped = ((fault ≡ faults.Memory) × (is_ok stepped ≡ true) × (growing ≡ true)) ⊎ (stepped ≡ Err fault)

-- the next step, if there was no fault so far
abbrev pub run_on : Stepped → (HeldData → Stepped) → Stepped
run_on (Err fault) next = Err fault
run_on (Ok held) next = next held

-- the steps of all these lines, one after another. `at` lines are above them
abbrev pub run : List ℕ → ℕ → HeldData → List (List ℕ) → Stepped
run test at held [] = Ok held
run test at held (line ∷ lines) = run_on (line_step test (at + 1) held (says_of (shape_of line))) (λ next. run test (at + 1) next lines)

abbrev pub ReadsTo : {A : Type 0} → List ℕ → List ℕ → Result (Reader A) ReadFault → Type 0
ReadsTo test text (Ok reader) = (run test 0 empty (lines_of text) ≡ Ok (held_data reader)) × (reader.test.now ≡ test)
ReadsTo test text (Err fault) = ((fault ≡ faults.Memory) × HasBegun (lines_of text)) ⊎ (run test 0 empty (lines_of text) ≡ Err fault)

-- the submission of what is held after the last line: the open section ends
abbrev pub submission_held : List ℕ → HeldData → SubmissionData
submission_held test held = record { sects = held.sects ++ closed test held.section; odd = 0 }

abbrev pub ends : List ℕ → HeldData → Result SubmissionData ReadFault
ends test held = if is_empty held.waiting then Ok (submission_held test held) else Err faults.LostFunction

-- the answer after the last line is the one of plain data, unless memory ran out. This happens only if a section is open
abbrev pub EndsTo : Result SubmissionData ReadFault → Bool → Result SubmissionData ReadFault → Type 0
EndsTo answer is_open ended = ((answer ≡ Err faults.Memory) × (is_open ≡ true)) ⊎ (answer ≡ ended)
