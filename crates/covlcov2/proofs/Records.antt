-- The records that a line stands for can be printed, and are few.
use Rattle.std.proofs.Common.{◌≡◌, ℕ, ◌<◌, ◌≤◌, ◌^◌, Bool, true, false, ◌&&◌, eqb, max, List, [], ◌∷◌, ◌++◌, length, Option, Some, None, refl, ap, subst, arith, inl, inr}
use Rattle.std.specs.Prelude.{codes, IfSome, if◌then◌else◌}
use Rattle.std.specs.List.{list_any, AllByRecursion}
use Rattle.covdata.specs.declared.trace_line.TotalKind.{TotalKind}
use Rattle.covdata.specs.declared.trace_line.TotalKind.TheVariants.{FuncFound, FuncHit, BranchFound, BranchHit, LineFound, LineHit}
use Rattle.covdata.specs.Lawful.{IsGoodTest, IsGoodName}
use Rattle.covline.specs.LineLaws.{GoodRest}
use Rattle.covdata.specs.Printed.{IsReadable}
use Rattle.covdata.specs.Records.{LineData, Test, Path, FuncStart, FuncCount, Branch, Line, Total, End, Skip, key_of, HasSmallNumbers}
use Rattle.covdata.specs.Delimiters.{comma}
use Rattle.covlcov2.specs.Spells.{Lcov2Data, Plain, Leader, Alias, Edge, IsNameIn, IsBelow, HasSmallLcov2Numbers, Lcov2Spells}
use Rattle.covlcov2.specs.Reads.{leader, is_leader, has_expression, one_more, number_from, next_number, branch_number, total_said, plain_said, alias_said, edge_said, said, above_after}

abbrev some_of : List LineData → Option (List LineData)
some_of records = Some records

pub same_some : (x y : List LineData) → some_of x ≡ some_of y → x ≡ y
same_some x y e = cc

pub some_isnt_none : (x : List LineData) → (let none : Option (List LineData) = None in none ≡ some_of x) → ⊥
some_isnt_none x e = cc

-- ---- they can be printed

after_comma : GoodRest → (key number rest line : List ℕ) → line ≡ key ++ number ++ comma ∷ rest → IsGoodTest line → IsGoodTest rest
after_comma good_rest key number rest line e good =
    good_rest (comma ∷ []) rest (good_rest (key ++ number) (comma ∷ rest) (subst (λ (x : List ℕ). IsGoodTest x) e good))

name_in_good : GoodRest → (text name : List ℕ) → IsGoodTest text → IsNameIn text name → IsGoodName name
name_in_good good_rest text name good (inl cut) = record { fits = after_comma good_rest [] cut.0 name text cut.2 good; some = cut.4 }
name_in_good good_rest text name good (inr is) = record { fits = subst (λ (x : List ℕ). IsGoodTest x) is.0 good; some = is.1 }

total_readable : (is_grouped : Bool) (kind : TotalKind) (value : ℕ) → value < 2 ^ 64 → AllByRecursion IsReadable (total_said is_grouped kind value)
total_readable false kind value small = (record { texts = tt; small = small }, tt)
total_readable true FuncFound value small = tt
total_readable true FuncHit value small = tt
total_readable true BranchFound value small = (record { texts = tt; small = small }, tt)
total_readable true BranchHit value small = (record { texts = tt; small = small }, tt)
total_readable true LineFound value small = (record { texts = tt; small = small }, tt)
total_readable true LineHit value small = (record { texts = tt; small = small }, tt)

plain_readable : GoodRest → (line : List ℕ) (is_grouped : Bool) (says : LineData) → IsGoodTest line → Lcov2Spells line (Plain says) → AllByRecursion IsReadable (plain_said is_grouped says)
plain_readable good_rest line is_grouped (Test name) good spells =
    (record { texts = good_rest (codes "TN:") name (subst (λ (x : List ℕ). IsGoodTest x) spells.form good); small = spells.small }, tt)
plain_readable good_rest line is_grouped (Path path) good spells =
    (record { texts = record { fits = good_rest (codes "SF:") path (subst (λ (x : List ℕ). IsGoodTest x) spells.form.0 good); some = spells.form.1 }; small = spells.small }, tt)
plain_readable good_rest line is_grouped (FuncStart number name) good spells =
    (record { texts = name_in_good good_rest spells.form.1 name (after_comma good_rest (codes "FN:") spells.form.0 spells.form.1 line spells.form.2 good) spells.form.4; small = spells.small }, tt)
plain_readable good_rest line is_grouped (FuncCount count name) good spells =
    (record { texts = record { fits = after_comma good_rest (codes "FNDA:") spells.form.0 name line spells.form.1 good; some = spells.form.3 }; small = spells.small }, tt)
plain_readable good_rest line is_grouped (Branch number block branch taken) good spells = absurd spells.form
plain_readable good_rest line is_grouped (Line number count None) good spells = (record { texts = tt; small = spells.small }, tt)
plain_readable good_rest line is_grouped (Line number count (Some checksum)) good spells = (record { texts = spells.form.5; small = spells.small }, tt)
plain_readable good_rest line is_grouped (Total kind value) good spells = total_readable is_grouped kind value spells.small
plain_readable good_rest line is_grouped End good spells = (record { texts = tt; small = tt }, tt)
plain_readable good_rest line is_grouped Skip good spells = tt

small_if : (same : Bool) (line : ℕ) (other : Option ℕ) → line < 2 ^ 64 → IfSome other (λ n. n < 2 ^ 64) → IfSome (if same then Some line else other) (λ n. n < 2 ^ 64)
small_if true line other here there = here
small_if false line other here there = there

leader_small : (index : ℕ) (above : List Lcov2Data) → AllByRecursion HasSmallLcov2Numbers above → IfSome (leader index above) (λ n. n < 2 ^ 64)
leader_small index [] small = tt
leader_small index (Leader other line ∷ above) small = small_if (eqb other index) line (leader index above) small.0.1 (leader_small index above small.1)
leader_small index (Plain says ∷ above) small = leader_small index above small.1
leader_small index (Alias other count name ∷ above) small = leader_small index above small.1
leader_small index (Edge is_excluded line block number taken ∷ above) small = leader_small index above small.1

branch_small : (line block number : ℕ) (taken : Option ℕ) → line < 2 ^ 64 → block < 2 ^ 64 → number < 2 ^ 64 → IsBelow (2 ^ 128) taken → HasSmallNumbers (Branch line block number taken)
branch_small line block number None l k n small = (l, k, n)
branch_small line block number (Some t) l k n small = (l, k, n, small)

one_more_small : (n : ℕ) → one_more n < 2 ^ 64
one_more_small n = omega arith

max_small : (same : Bool) (n m : ℕ) → n < 2 ^ 64 → m < 2 ^ 64 → (if same then max n m else n) < 2 ^ 64
max_small true n m first second = omega (arith, first, second)
max_small false n m first second = first

next_small : (line block : ℕ) (above : List Lcov2Data) → next_number line block above < 2 ^ 64
next_small line block [] = omega arith
next_small line block (Edge is_excluded other that given taken ∷ above) =
    max_small (eqb other line && eqb that block) (next_number line block above) (one_more (branch_number above line block given)) (next_small line block above)
    (one_more_small (branch_number above line block given))
next_small line block (Plain says ∷ above) = next_small line block above
next_small line block (Leader index number ∷ above) = next_small line block above
next_small line block (Alias index count name ∷ above) = next_small line block above

from_small : (below : Bool) (next : ℕ) (given : Option ℕ) → next < 2 ^ 64 → IsBelow (2 ^ 64) given → number_from below next given < 2 ^ 64
from_small false next (Some number) few small = small
from_small true next (Some number) few small = few
from_small false next None few small = few
from_small true next None few small = few

-- the number that a branch gets fits into 64 bits
pub number_fits : (above : List Lcov2Data) (line block : ℕ) (given : Option ℕ) → IsBelow (2 ^ 64) given → branch_number above line block given < 2 ^ 64
number_fits above line block given small = from_small (has_expression line block above) (next_number line block above) given (next_small line block above) small

edge_readable : (above : List Lcov2Data) (is_excluded : Bool) (line block : ℕ) (given taken : Option ℕ)
    → HasSmallLcov2Numbers (Edge is_excluded line block given taken) → AllByRecursion IsReadable (edge_said above is_excluded line block given taken)
edge_readable above true line block given taken small = tt
edge_readable above false line block given taken small =
    (record { texts = tt; small = branch_small line block (branch_number above line block given) taken small.0 small.1 (number_fits above line block given small.2) small.3 }, tt)

alias_readable : (start : Option ℕ) (count : ℕ) (name : List ℕ) (now : List LineData) → IfSome start (λ n. n < 2 ^ 64) → count < 2 ^ 128 → IsGoodName name → alias_said start count name ≡ Some now → AllByRecursion IsReadable now
alias_readable None count name now small count_small good e = absurd (some_isnt_none now e)
alias_readable (Some line) count name now small count_small good e =
    subst (λ (x : List LineData). AllByRecursion IsReadable x) (same_some (FuncStart line name ∷ FuncCount count name ∷ []) now e)
    (record { texts = good; small = small }, (record { texts = good; small = count_small }, tt))

pub readable : GoodRest → (line : List ℕ) (above : List Lcov2Data) (says : Lcov2Data) (now : List LineData) → IsGoodTest line → AllByRecursion HasSmallLcov2Numbers above → Lcov2Spells line says
    → said above says ≡ Some now → AllByRecursion IsReadable now
readable good_rest line above (Plain says) now good small spells e =
    subst (λ (x : List LineData). AllByRecursion IsReadable x) (same_some (plain_said (list_any is_leader above) says) now e) (plain_readable good_rest line (list_any is_leader above) says good spells)
readable good_rest line above (Leader index number) now good small spells e = subst (λ (x : List LineData). AllByRecursion IsReadable x) (same_some [] now e) tt
readable good_rest line above (Alias index count name) now good small spells e =
    let form = spells.form in
    let rest = after_comma good_rest (codes "FNA:") form.0 (form.1 ++ comma ∷ name) line form.2 good in
    alias_readable (leader index above) count name now (leader_small index above small) spells.small.1
    (record { fits = after_comma good_rest [] form.1 name (form.1 ++ comma ∷ name) refl rest; some = form.5 }) e
readable good_rest line above (Edge is_excluded number block branch taken) now good small spells e =
    subst (λ (x : List LineData). AllByRecursion IsReadable x) (same_some (edge_said above is_excluded number block branch taken) now e)
    (edge_readable above is_excluded number block branch taken spells.small)

pub small_after : (above : List Lcov2Data) (says : Lcov2Data) → AllByRecursion HasSmallLcov2Numbers above → HasSmallLcov2Numbers says → AllByRecursion HasSmallLcov2Numbers (above_after above says)
small_after above (Plain (Path path)) small now = tt
small_after above (Plain says) small now = (now, small)
small_after above (Leader index line) small now = (now, small)
small_after above (Alias index count name) small now = (now, small)
small_after above (Edge is_excluded line block number taken) small now = (now, small)

-- ---- they are no more than the bytes of the line

abbrev has_one : List ℕ → Bool
has_one [] = false
has_one (b ∷ bs) = true

abbrev has_two : List ℕ → Bool
has_two [] = false
has_two (b ∷ []) = false
has_two (b ∷ c ∷ bs) = true

one_byte : (line : List ℕ) → has_one line ≡ true → 1 ≤ length line
one_byte [] e = absurd cc
one_byte (b ∷ bs) e = omega arith

two_bytes : (line : List ℕ) → has_two line ≡ true → 2 ≤ length line
two_bytes [] e = absurd cc
two_bytes (b ∷ []) e = absurd cc
two_bytes (b ∷ c ∷ bs) e = omega arith

total_few : (line : List ℕ) (is_grouped : Bool) (kind : TotalKind) (value : ℕ) → 1 ≤ length line → length (total_said is_grouped kind value) ≤ length line
total_few line false kind value some = omega (arith, some)
total_few line true FuncFound value some = omega (arith, some)
total_few line true FuncHit value some = omega (arith, some)
total_few line true BranchFound value some = omega (arith, some)
total_few line true BranchHit value some = omega (arith, some)
total_few line true LineFound value some = omega (arith, some)
total_few line true LineHit value some = omega (arith, some)

total_bytes : (line digits : List ℕ) (kind : TotalKind) → line ≡ key_of kind ++ digits → 1 ≤ length line
total_bytes line digits FuncFound e = one_byte line (ap has_one e)
total_bytes line digits FuncHit e = one_byte line (ap has_one e)
total_bytes line digits BranchFound e = one_byte line (ap has_one e)
total_bytes line digits BranchHit e = one_byte line (ap has_one e)
total_bytes line digits LineFound e = one_byte line (ap has_one e)
total_bytes line digits LineHit e = one_byte line (ap has_one e)

plain_few : (line : List ℕ) (is_grouped : Bool) (says : LineData) → Lcov2Spells line (Plain says) → length (plain_said is_grouped says) ≤ length line
plain_few line is_grouped (Test name) spells = omega (arith, one_byte line (ap has_one spells.form))
plain_few line is_grouped (Path path) spells = omega (arith, one_byte line (ap has_one spells.form.0))
plain_few line is_grouped (FuncStart number name) spells = omega (arith, one_byte line (ap has_one spells.form.2))
plain_few line is_grouped (FuncCount count name) spells = omega (arith, one_byte line (ap has_one spells.form.1))
plain_few line is_grouped (Branch number block branch taken) spells = absurd spells.form
plain_few line is_grouped (Line number count None) spells = omega (arith, one_byte line (ap has_one spells.form.2))
plain_few line is_grouped (Line number count (Some checksum)) spells = omega (arith, one_byte line (ap has_one spells.form.2))
plain_few line is_grouped (Total kind value) spells = total_few line is_grouped kind value (total_bytes line spells.form.0 kind spells.form.1)
plain_few line is_grouped End spells = omega (arith, one_byte line (ap has_one spells.form.1))
plain_few line is_grouped Skip spells = omega arith

alias_few : (start : Option ℕ) (count : ℕ) (name : List ℕ) (now : List LineData) → alias_said start count name ≡ Some now → length now ≤ 2
alias_few None count name now e = absurd (some_isnt_none now e)
alias_few (Some line) count name now e = let k = ap length (same_some (FuncStart line name ∷ FuncCount count name ∷ []) now e) in omega (arith, k)

edge_few : (above : List Lcov2Data) (is_excluded : Bool) (line block : ℕ) (given taken : Option ℕ) → length (edge_said above is_excluded line block given taken) ≤ 1
edge_few above true line block given taken = omega arith
edge_few above false line block given taken = omega arith

pub few : (line : List ℕ) (above : List Lcov2Data) (says : Lcov2Data) (now : List LineData) → Lcov2Spells line says → said above says ≡ Some now → length now ≤ length line
few line above (Plain says) now spells e =
    let k = ap length (same_some (plain_said (list_any is_leader above) says) now e) in
    omega (arith, k, plain_few line (list_any is_leader above) says spells)
few line above (Leader index number) now spells e = let k = ap length (same_some [] now e) in omega (arith, k)
few line above (Alias index count name) now spells e =
    omega (arith, alias_few (leader index above) count name now e, two_bytes line (ap has_two spells.form.2))
few line above (Edge is_excluded number block branch taken) now spells e =
    let k = ap length (same_some (edge_said above is_excluded number block branch taken) now e) in
    omega (arith, k, edge_few above is_excluded number block branch taken, one_byte line (ap has_one spells.form.parts))
