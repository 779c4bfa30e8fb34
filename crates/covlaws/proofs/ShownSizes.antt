-- A printed section has at least as many bytes as records. So it has at most as many items as bytes, and fewer points than 2^64.
use Rattle.std.proofs.Common.{◌≡◌, ℕ, ◌+◌, ◌<◌, ◌≤◌, ◌^◌, List, [], ◌∷◌, ◌++◌, length, map, refl, sym, ap, subst, ◌∙◌, append_assoc, arith, length-append}
use Rattle.std.specs.List.{flat_map, AllByRecursion}
use Rattle.std.proofs.lemmas.List.{length-map}
use Rattle.std.proofs.lemmas.List.Sums.{sum_by-cons}
use Rattle.covdata.specs.declared.trace_line.TotalKind.TheVariants.{FuncFound, FuncHit, BranchFound, BranchHit}
use Rattle.covdata.specs.Row.{ItemData, SectData, items_in}
use Rattle.covdata.specs.Delimiters.{line_feed}
use Rattle.covdata.specs.Records.{LineData, Test, Path, End}
use Rattle.covdata.specs.Printed.{line_text, printed}
use Rattle.covread.specs.Outcome.{max_bytes}
use Rattle.covtable.specs.Content.{SectionData}
use Rattle.covreport.specs.Report.{by_start, function_cmp, start_record, call_record, branch_record, line_record, section_records, section_text}
use Rattle.covlaws.specs.Printable.{start_item, call_item, branch_item, line_item, items_shown, sect_shown}
use Rattle.covtable.proofs.Members.{All-joined}
use Rattle.covlaws.proofs.Apart.{all_mapped, always, length-sorted}
use Rattle.covlaws.proofs.ShownParts.{inside_of, function_totals, branch_totals, line_totals}
use Rattle.covlaws.proofs.ShownTotals.{all_if_any, all_inside}

-- ---- the records of a section: the test's name, the path, what is inside, and the end

regrouped : (a b c d e f g z : List LineData) → (a ++ (b ++ (c ++ (d ++ (e ++ (f ++ g)))))) ++ z ≡ (a ++ (b ++ c)) ++ ((d ++ e) ++ ((f ++ g) ++ z))
regrouped a b c d e f g z = simp append_assoc

pub records_shown : (s : SectionData) → Test s.key.test ∷ Path s.key.file ∷ (inside_of s ++ End ∷ []) ≡ section_records s
records_shown s =
    ap (λ (l : List LineData). Test s.key.test ∷ Path s.key.file ∷ l)
    (regrouped (map start_record (by_start s.functions)) (map call_record (by_start s.functions)) (function_totals s)
    (map branch_record s.branches) (branch_totals s) (map line_record s.lines) (line_totals s) (End ∷ []))

-- what holds of the test's name, the path, what is inside and the end holds of each record of a section
pub all_records : (P : LineData → Type 0) (s : SectionData) → P (Test s.key.test) → P (Path s.key.file) → AllByRecursion P (inside_of s) → P End → AllByRecursion P (section_records s)
all_records P s test path inside end = subst (AllByRecursion P) (records_shown s) (test, (path, All-joined P (inside_of s) (End ∷ []) inside (end, tt)))

-- ---- each printed record has at least one byte

-- a printed record ends in a line feed
record EndsInFeed (says : LineData) : Type 0 where
  feed : printed says ≡ line_text says ++ line_feed ∷ []

ends : (says : LineData) → printed says ≡ line_text says ++ line_feed ∷ [] → EndsInFeed says
ends says feed = record { feed = feed }

section_ends : (s : SectionData) → AllByRecursion EndsInFeed (section_records s)
section_ends s =
    all_records EndsInFeed s (ends _ refl) (ends _ refl)
    (all_inside EndsInFeed s
    (all_mapped start_record EndsInFeed (by_start s.functions) (always _ (λ f. ends (start_record f) refl) (by_start s.functions)))
    (all_mapped call_record EndsInFeed (by_start s.functions) (always _ (λ f. ends (call_record f) refl) (by_start s.functions)))
    (all_if_any EndsInFeed FuncFound FuncHit _ _ (ends _ refl) (ends _ refl))
    (all_mapped branch_record EndsInFeed s.branches (always _ (λ b. ends (branch_record b) refl) s.branches))
    (all_if_any EndsInFeed BranchFound BranchHit _ _ (ends _ refl) (ends _ refl))
    (all_mapped line_record EndsInFeed s.lines (always _ (λ l. ends (line_record l) refl) s.lines))
    (ends _ refl, (ends _ refl, tt)))
    (ends _ refl)

-- so there are at least as many bytes as records
as_many_bytes : (records : List LineData) → AllByRecursion EndsInFeed records → length records ≤ length (flat_map printed records)
as_many_bytes [] all = omega arith
as_many_bytes (says ∷ records) all =
    omega (arith, ap length all.0.feed, length-append (line_text says) (line_feed ∷ []), as_many_bytes records all.1, length-append (printed says) (flat_map printed records))

-- ---- a section shows at most as many items as it has bytes

-- each item that a section shows has a record: there are at least as many records as items, since records of totals show none
items_in_records : (a b c d e f g : List LineData) (p q r t : List ItemData) → length p ≡ length a → length q ≡ length b → length r ≡ length d → length t ≡ length f
    → length (p ++ (q ++ (r ++ t))) ≤ length (a ++ (b ++ (c ++ (d ++ (e ++ (f ++ g))))))
items_in_records a b c d e f g p q r t x y z w = simp length-append (omega arith)

items_inside : (s : SectionData) → length (items_shown s) ≤ length (inside_of s)
items_inside s =
    items_in_records (map start_record (by_start s.functions)) (map call_record (by_start s.functions)) (function_totals s)
    (map branch_record s.branches) (branch_totals s) (map line_record s.lines) (line_totals s)
    (map start_item (by_start s.functions)) (map call_item (by_start s.functions)) (map branch_item s.branches) (map line_item s.lines)
    (alike start_item start_record (by_start s.functions)) (alike call_item call_record (by_start s.functions)) (alike branch_item branch_record s.branches) (alike line_item line_record s.lines)
  where
    alike : {X Y Z : Type 0} (f : X → Y) (g : X → Z) (xs : List X) → length (map f xs) ≡ length (map g xs)
    alike f g xs = length-map xs f ∙ sym (length-map xs g)

pub items_printed : (s : SectionData) → length (items_shown s) ≤ length (section_text s)
items_printed s =
    let records : length (Test s.key.test ∷ Path s.key.file ∷ (inside_of s ++ End ∷ [])) ≡ length (section_records s) = ap length (records_shown s) in
    omega (arith, items_inside s, records, length-append (inside_of s) (End ∷ []), as_many_bytes (section_records s) (section_ends s))

-- all sections together show at most as many items as they have bytes
pub items_in_text : (sections : List SectionData) → items_in (map sect_shown sections) ≤ length (flat_map section_text sections)
items_in_text [] = omega arith
items_in_text (s ∷ sections) =
    omega (
      arith,
      sum_by-cons (λ (sect : SectData). length sect.items) (sect_shown s) (map sect_shown sections),
      length-append (section_text s) (flat_map section_text sections),
      items_printed s,
      items_in_text sections,
    )

-- ---- the points of a section are few

-- a section has fewer than 2^64 points of each kind, so a reader can read their totals
pub record HasFewPoints (s : SectionData) : Type 0 where
  pub functions : length s.functions < 2 ^ 64
  pub branches : length s.branches < 2 ^ 64
  pub lines : length s.lines < 2 ^ 64

-- a section shows at least as many items as it has points
points_in_items : (starts calls branches lines : List ItemData) → length starts + length branches + length lines ≤ length (starts ++ (calls ++ (branches ++ lines)))
points_in_items starts calls branches lines = simp length-append (omega arith)

points_shown : (s : SectionData) → length s.functions + length s.branches + length s.lines ≤ length (items_shown s)
points_shown s =
    omega (
      arith,
      points_in_items (map start_item (by_start s.functions)) (map call_item (by_start s.functions)) (map branch_item s.branches) (map line_item s.lines),
      length-map (by_start s.functions) start_item,
      length-sorted function_cmp s.functions,
      length-map s.branches branch_item,
      length-map s.lines line_item,
    )

pub few_points : (s : SectionData) → length (section_text s) ≤ max_bytes → HasFewPoints s
few_points s short =
    let most : length s.functions + length s.branches + length s.lines ≤ max_bytes = omega (arith, points_shown s, items_printed s, short) in
    record { functions = omega (arith, most); branches = omega (arith, most); lines = omega (arith, most) }

-- each section's text is at most as long as the whole text
pub all_short : (sections : List SectionData) (n : ℕ) → length (flat_map section_text sections) ≤ n → AllByRecursion (λ s. length (section_text s) ≤ n) sections
all_short [] n short = tt
all_short (s ∷ sections) n short =
    let both = length-append (section_text s) (flat_map section_text sections) in
    (omega (arith, both, short), all_short sections n (omega (arith, both, short)))
