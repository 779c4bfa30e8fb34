-- Each section of a store has fewer than 2^64 points of each kind.
use Rattle.covstore.proofs.Words.{ℕ, ◌*◌, ◌^◌, ◌<◌, ◌≤◌, List, [], ◌∷◌, length, map, sym, subst, arith, AllByRecursion, length-append, Row, Totals, section_of, IsStore, FileData, sections_of, Table, all_rows, Key, keys_of}
use Rattle.covdata.specs.Lawful.{max_items}
use Rattle.covstore.specs.ContentView.{IsFewOf}
use Rattle.covtable.proofs.Contents.{points_few}
use Rattle.covstore.proofs.StateSections.{sections_are}

-- ---- each section has at most as many points of a kind as the store has rows

rows_of_own : (own : Table) → AllByRecursion (λ rows. length rows ≤ max_items) own → length (all_rows own) ≤ length own * 67108864
rows_of_own [] small = omega arith
rows_of_own (rows ∷ own) small =
    let few : length rows ≤ 67108864 = small.0 in
    omega (arith, length-append rows (all_rows own), few, rows_of_own own small.1)

few_sections : (rows : List Row) → length rows < 2 ^ 64 → (keys : List Key) → AllByRecursion IsFewOf (map (section_of rows) keys)
few_sections rows few [] = tt
few_sections rows few (key ∷ keys) =
    let points = points_few rows key in (
      record {
        functions = omega (arith, few, points.0);
        branches = omega (arith, few, points.1);
        lines = omega (arith, few, points.2);
      },
      few_sections rows few keys,
    )

pub few_of_store : (members : ℕ) (committed : Totals) (files : List (List ℕ × FileData)) → IsStore members committed files → AllByRecursion IsFewOf (sections_of files)
few_of_store members committed files is =
    let members_few : length is.own ≤ 1048576 = is.few in
    let few : length (all_rows is.own) < 2 ^ 64 = omega (arith, members_few, rows_of_own is.own is.small) in
    subst (AllByRecursion IsFewOf) (sym (sections_are (all_rows is.own) files is.state is.agree)) (few_sections (all_rows is.own) few (keys_of (all_rows is.own)))
