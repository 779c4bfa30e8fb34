-- What is kept of the branches of a section, after one more line.
use Rattle.std.proofs.Common.{◌≡◌, ◌≢◌, ℕ, ◌<◌, ◌≤◌, max, cond, eqb, Bool, true, false, ◌&&◌, ◌||◌, not, ◌∷◌, [], ◌++◌, List, Option, Some, None, Result, Ok, Err, refl, sym, ap, subst, ◌∙◌, inl, inr, arith}
use Rattle.std.specs.Prelude.{if◌then◌else◌, OnOk}
use Rattle.std.proofs.lemmas.Bool.{cases_lt, cases_eq, eq-eqb, ne_eqb, eqb-true, and_parts}
use Rattle.std.specs.BTreeMap.{BTreeMap, Updates, get}
use Rattle.std.specs.Cmp.{nat_cmp_is}
use Rattle.std.specs.Option.{is_some}
use Rattle.std.specs.Ordering.{nat_cmp, is_eq, ordering_then}
use Rattle.std.specs.declared.cmp.Ordering.{Ordering}
use Rattle.std.specs.declared.cmp.Ordering.TheVariants.{Less, Equal, Greater}
use Rattle.covlcov2.specs.declared.numbers.Block.{Block}
use Rattle.covlcov2.specs.declared.numbers.Run.{Run}
use Rattle.covlcov2.specs.declared.numbers.Runs.{Runs}
use Rattle.covlcov2.specs.declared.numbers.Numbering.{Numbering}
use Rattle.covlcov2.specs.declared.numbers.Numbers.{Numbers}
use Rattle.covlcov2.specs.declared.numbers.Numbers.TheVariants as numbers
use Rattle.covlcov2.specs.Spells.{Lcov2Data, Edge}
use Rattle.covlcov2.specs.Reads.{is_expression, has_expression, next_number, number_from, one_more}
use Rattle.covlcov2.specs.Numbers.{block_cmp, is_same_block, next_in_run, next_in_list, numbering_of, numbering_after, ArePut, IsPut, HasRuns, HasNumbers}

abbrev numbering : ℕ → Bool → Numbering
numbering next has_expression = record { next = next; has_expression = has_expression }

strict : (a b : ℕ) → b ≤ a → a ≢ b → b < a
strict a b le differ =
    elim (cases_lt b a) [
      | inl lt ↦ lt
      | inr ge ↦ absurd (differ (omega (arith, le, ge)))
    ]

eq_test : (a b : ℕ) → is_eq (nat_cmp a b) ≡ eqb a b
eq_test a b =
    elim (cases_eq a b) [
      | inl same ↦ ap is_eq (sym (nat_cmp_is a b Equal same)) ∙ sym (eq-eqb a b same)
      | inr differ ↦ elim (cases_lt a b) [
        | inl lt ↦ ap is_eq (sym (nat_cmp_is a b Less lt)) ∙ sym (ne_eqb a b differ)
        | inr le ↦ ap is_eq (sym (nat_cmp_is a b Greater (strict a b le differ))) ∙ sym (ne_eqb a b differ)
      ]
    ]

both_eq : (o p : Ordering) → is_eq (ordering_then o p) ≡ (is_eq o && is_eq p)
both_eq Less p = refl
both_eq Equal p = refl
both_eq Greater p = refl

block_test : (a b : Block) → is_eq (block_cmp a b) ≡ (eqb a.line b.line && eqb a.block b.block)
block_test a b =
    both_eq (nat_cmp a.line b.line) (nat_cmp a.block b.block)
    ∙ ap (λ (x : Bool). x && is_eq (nat_cmp a.block b.block)) (eq_test a.line b.line)
    ∙ ap (λ (x : Bool). eqb a.line b.line && x) (eq_test a.block b.block)

same_block : (a b : Block) → (eqb a.line b.line && eqb a.block b.block) ≡ true → a ≡ b
same_block a b e =
    let parts = and_parts (eqb a.line b.line) (eqb a.block b.block) e in
    let line : a.line ≡ b.line = eqb-true a.line b.line parts.0 in
    let block : a.block ≡ b.block = eqb-true a.block b.block parts.1 in
    let first : a ≡ record { line = b.line; block = a.block } = ap (λ (x : ℕ). record { line = x; block = a.block }) line in
    first ∙ ap (λ (x : ℕ). record { line = b.line; block = x }) block

-- ---- lines that aren't branches

pub same_numbers : {A : Type 0} (numbers : Numbers A) (above : List Lcov2Data) (line : Lcov2Data) → ((number block : ℕ) → next_number number block (line ∷ above) ≡ next_number number block above)
    → ((number block : ℕ) → has_expression number block (line ∷ above) ≡ has_expression number block above) → HasNumbers numbers above → HasNumbers numbers (line ∷ above)
same_numbers (numbers.Given runs) above line next has are = λ q. ((are q).0 ∙ sym (next q.line q.block), has q.line q.block ∙ (are q).1)
same_numbers (numbers.Assigned numberings) above line next has are = λ q.
    are q ∙ ap (λ (n : ℕ). numbering n (has_expression q.line q.block above)) (sym (next q.line q.block))
    ∙ ap (λ (b : Bool). numbering (next_number q.line q.block (line ∷ above)) b) (sym (has q.line q.block))

-- ---- runs

next_of_none : (test : Bool) (next : ℕ) → next ≡ 0 → (if test then next else 0) ≡ 0
next_of_none true next e = e
next_of_none false next e = refl

-- no runs
pub no_runs : (q : Block) (runs : List Run) (run : Run) → runs ≡ [] → run.next ≡ 0 → max (next_in_list q runs) (next_in_run q run) ≡ 0
no_runs q runs run none zero = let list : next_in_list q runs ≡ 0 = ap (next_in_list q) none in
    let current : next_in_run q run ≡ 0 = next_of_none (is_same_block run.block q) run.next zero in
    omega (arith, list, current)

-- the run of the last branch has one more
pub run_longer : (q : Block) (ended : List Run) (block other : Block) (before after next : ℕ) → block ≡ other → after ≡ max before next
    → max (next_in_list q ended) (next_in_run q (record { block = block; next = after })) ≡ max (max (next_in_list q ended) (next_in_run q (record { block = block; next = before }))) (next_in_run q (record { block = other; next = next }))
run_longer q ended block other before after next same is = by (is_same_block block q) (ap (λ (b : Block). is_same_block b q) (sym same)) is
  where
    by : (test : Bool) → is_same_block other q ≡ test → after ≡ max before next → max (next_in_list q ended) (if test then after else 0) ≡ max (max (next_in_list q ended) (if test then before else 0)) (if is_same_block other q then next else 0)
    by true e is = rw e (omega (arith, is))
    by false e is = rw e (omega arith)

list_push : (q : Block) (ended : List Run) (run : Run) → next_in_list q (ended ++ run ∷ []) ≡ max (next_in_list q ended) (next_in_run q run)
list_push q [] run = omega arith
list_push q (first ∷ ended) run = let later = list_push q ended run in omega (arith, later)

-- the run of the last branch ended, and another one began
pub run_ended : (q : Block) (ended new : List Run) (run next : Run) → new ≡ ended ++ run ∷ [] → max (next_in_list q new) (next_in_run q next) ≡ max (max (next_in_list q ended) (next_in_run q run)) (next_in_run q next)
run_ended q ended new run next is = let k = ap (next_in_list q) is in let p = list_push q ended run in omega (arith, k, p)

-- ---- one more branch

-- runs after one more branch that has a number
pub runs_more : (is_excluded : Bool) (block : Block) (number : ℕ) (taken : Option ℕ) (above : List Lcov2Data) (q : Block) (before after : ℕ) → before ≡ next_number q.line q.block above → has_expression q.line q.block above ≡ false
    → after ≡ max before (next_in_run q (record { block = block; next = one_more number })) → after ≡ next_number q.line q.block (Edge is_excluded block.line block.block (Some number) taken ∷ above)
runs_more is_excluded block number taken above q before after are none is =
    is ∙ ap (λ (n : ℕ). max n (next_in_run q (record { block = block; next = one_more number }))) are ∙ by (is_same_block block q)
    ∙ ap (λ (b : Bool). if is_same_block block q then max (next_number q.line q.block above) (one_more (number_from b (next_number q.line q.block above) (Some number))) else next_number q.line q.block above) (sym none)
  where
    by : (test : Bool) → max (next_number q.line q.block above) (if test then one_more number else 0) ≡ (if test then max (next_number q.line q.block above) (one_more number) else next_number q.line q.block above)
    by true = refl
    by false = omega arith

-- the numberings after one more branch
pub numberings_more : (old new : BTreeMap Block Numbering) (above : List Lcov2Data) (block : Block) (given : Option ℕ) (is_excluded : Bool) (taken : Option ℕ)
    → Updates block_cmp old new block (Some (numbering_after (numbering_of (get block_cmp old block)) given))
    → ((q : Block) → numbering_of (get block_cmp old q) ≡ numbering (next_number q.line q.block above) (has_expression q.line q.block above))
    → (q : Block) → numbering_of (get block_cmp new q) ≡ numbering (next_number q.line q.block (Edge is_excluded block.line block.block given taken ∷ above)) (has_expression q.line q.block (Edge is_excluded block.line block.block given taken ∷ above))
numberings_more old new above block given is_excluded taken u are q =
    ap numbering_of (u.0 q ∙ ap (λ (t : Bool). cond t (Some now) (get block_cmp old q)) (block_test block q))
    ∙ by (is_same_block block q) refl
  where
    now : Numbering
    now = numbering_after (numbering_of (get block_cmp old block)) given

    here : Numbering
    here = numbering (next_number q.line q.block above) (has_expression q.line q.block above)

    expression_of : (test : Bool) (g : Option ℕ) → is_same_block block q ≡ test → is_expression q.line q.block (Edge is_excluded block.line block.block g taken) ≡ (test && not (is_some g))
    expression_of true (Some number) e = refl
    expression_of true None e = e
    expression_of false (Some number) e = refl
    expression_of false None e = e

    or_other : (x y : Bool) → (x || y) ≡ (y || x)
    or_other true true = refl
    or_other true false = refl
    or_other false true = refl
    or_other false false = refl

    by : (test : Bool) → is_same_block block q ≡ test → numbering_of (cond test (Some now) (get block_cmp old q)) ≡ numbering (next_number q.line q.block (Edge is_excluded block.line block.block given taken ∷ above)) (has_expression q.line q.block (Edge is_excluded block.line block.block given taken ∷ above))
    by true e =
        ap (λ (n : Numbering). numbering_after n given) (ap (λ (b : Block). numbering_of (get block_cmp old b)) (same_block block q e) ∙ are q)
        ∙ ap (λ (x : Bool). numbering (max here.next (one_more (number_from here.has_expression here.next given))) x)
        (or_other here.has_expression (not (is_some given)) ∙ ap (λ (x : Bool). x || here.has_expression) (sym (expression_of true given e)))
        ∙ ap (λ (t : Bool). numbering (if t then max here.next (one_more (number_from here.has_expression here.next given)) else here.next) (has_expression q.line q.block (Edge is_excluded block.line block.block given taken ∷ above))) (sym e)
    by false e =
        are q
        ∙ ap (λ (x : Bool). numbering here.next (x || here.has_expression)) (sym (expression_of false given e))
        ∙ ap (λ (t : Bool). numbering (if t then max here.next (one_more (number_from here.has_expression here.next given)) else here.next) (has_expression q.line q.block (Edge is_excluded block.line block.block given taken ∷ above))) (sym e)

-- ---- the numberings of runs

pub put_none : (numberings : BTreeMap Block Numbering) → ArePut [] numberings numberings
put_none numberings = λ q. let k : max (numbering_of (get block_cmp numberings q)).next 0 ≡ (numbering_of (get block_cmp numberings q)).next = omega arith in
    ap (λ (n : ℕ). numbering n (numbering_of (get block_cmp numberings q)).has_expression) (sym k)

-- what a run makes of the numbering of a block
put_one : (old new : BTreeMap Block Numbering) (run : Run) → IsPut run old new → (q : Block)
    → numbering_of (get block_cmp new q) ≡ numbering (max (numbering_of (get block_cmp old q)).next (next_in_run q run)) (numbering_of (get block_cmp old q)).has_expression
put_one old new run u q =
    ap numbering_of (u.0 q ∙ ap (λ (t : Bool). cond t (Some now) (get block_cmp old q)) (block_test run.block q)) ∙ by (is_same_block run.block q) refl
  where
    now : Numbering
    now = numbering (max (numbering_of (get block_cmp old run.block)).next run.next) (numbering_of (get block_cmp old run.block)).has_expression

    max_none : (n : ℕ) → n ≡ max n 0
    max_none n = omega arith

    by : (test : Bool) → is_same_block run.block q ≡ test
        → numbering_of (cond test (Some now) (get block_cmp old q)) ≡ numbering (max (numbering_of (get block_cmp old q)).next (if is_same_block run.block q then run.next else 0)) (numbering_of (get block_cmp old q)).has_expression
    by true e = rw e
        (ap (λ (n : Numbering). numbering (max n.next run.next) n.has_expression) (ap (λ (b : Block). numbering_of (get block_cmp old b)) (same_block run.block q e)))
    by false e = rw e (ap (λ (n : ℕ). numbering n (numbering_of (get block_cmp old q)).has_expression) (max_none (numbering_of (get block_cmp old q)).next))

pub put_more : (runs : List Run) (run : Run) (first old new : BTreeMap Block Numbering) → ArePut runs first old → IsPut run old new → ArePut (runs ++ run ∷ []) first new
put_more runs run first old new are u = λ q.
    let before = numbering_of (get block_cmp first q) in
    let assoc : max (max before.next (next_in_list q runs)) (next_in_run q run) ≡ max before.next (next_in_list q (runs ++ run ∷ [])) = let k = list_push q runs run in omega (arith, k) in
    put_one old new run u q ∙ ap (λ (n : Numbering). numbering (max n.next (next_in_run q run)) n.has_expression) (are q) ∙ ap (λ (n : ℕ). numbering n before.has_expression) assoc

-- the runs that ended, and then the current one, in an empty map
pub put_all : {A : Type 0} (runs : Runs A) (ended : List Run) (first old new : BTreeMap Block Numbering) → ended ≡ runs.ended.items → ((q : Block) → get block_cmp first q ≡ None) → ArePut ended first old → IsPut runs.current old new → HasRuns runs new
put_all runs ended first old new same none are u = λ q.
    put_one old new runs.current u q ∙ ap (λ (n : Numbering). numbering (max n.next (next_in_run q runs.current)) n.has_expression) (are q)
    ∙ ap (λ (o : Option Numbering). numbering (max (max (numbering_of o).next (next_in_list q ended)) (next_in_run q runs.current)) (numbering_of o).has_expression) (none q)
    ∙ ap (λ (list : List Run). numbering (max (max 0 (next_in_list q list)) (next_in_run q runs.current)) false) same
    ∙ ap (λ (n : ℕ). numbering (max n (next_in_run q runs.current)) false) (max_zero (next_in_list q runs.ended.items))
  where
    max_zero : (n : ℕ) → max 0 n ≡ n
    max_zero n = omega arith

-- the same of a result
pub numberings_then : {A E : Type 0} (result : Result ℕ E) (old new : BTreeMap Block Numbering) (block : Block) (given : Option ℕ)
    → OnOk result (Updates block_cmp old new block (Some (numbering_after (numbering_of (get block_cmp old block)) given))) → (before : Numbers A) → before ≡ numbers.Assigned old
    → OnOk result ((above : List Lcov2Data) (is_excluded : Bool) (taken : Option ℕ) → HasNumbers before above
    → (q : Block) → numbering_of (get block_cmp new q) ≡ numbering (next_number q.line q.block (Edge is_excluded block.line block.block given taken ∷ above)) (has_expression q.line q.block (Edge is_excluded block.line block.block given taken ∷ above)))
numberings_then (Err e) old new block given updates before is = tt
numberings_then (Ok n) old new block given updates before is = λ above is_excluded taken are.
    numberings_more old new above block given is_excluded taken updates (subst (λ (x : Numbers _). HasNumbers x above) is are)
