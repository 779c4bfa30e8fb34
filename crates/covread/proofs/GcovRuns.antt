-- What the reader holds between two lines follows from what the lines above say.
use Rattle.std.proofs.Common.{◌≡◌, ℕ, Bool, true, false, List, [], ◌∷◌, ◌++◌, Option, Some, None, Ok, Err, refl, sym, ap, ◌∙◌, inl, inr, ◌⊎◌, map}
use Rattle.std.specs.Prelude.{◌||◌, option_map, is_some}
use Rattle.std.specs.Option.{option_or}
use Rattle.std.specs.List.{flat_map}
use Rattle.std.proofs.lemmas.Bool.{cases_Bool}
use Rattle.std.proofs.lemmas.List.{append-nil}
use Rattle.std.proofs.lemmas.Grind.{flat_map-append}
use Rattle.covdata.specs.Row.{ItemData, BranchItem, SectData}
use Rattle.covdata.specs.declared.fault.ReadFault.{ReadFault}
use Rattle.covdata.specs.declared.fault.ReadFault.TheVariants as faults
use Rattle.covread.specs.declared.gcov.reader.BranchAnchor.{BranchAnchor}
use Rattle.covread.specs.Gcov.{GcovLine, Path, SourceLine, FuncCount, BranchCount, BlockNumber, Nothing}
use Rattle.covread.specs.GcovItems.{is_path, is_source, source_number, block_number, func_said, after_last, last_number, waiting, line_above, or_zero, block_above, func_item, line_item, items_given, sects_from, has_path, has_line, is_empty, place_fault}
use Rattle.covread.specs.GcovSteps.{SectionData, HeldData, empty, closed, section_with, begun, step_func, in_block, section_in_block, step_block, step}
use Rattle.covread.proofs.GcovPlaces.{any-yes, any-no, after_last-yes, after_last-no, last_number-more, extended, extended-last, sects-path, sects-more}

-- this is where a branch below these lines belongs: the last source line and its last block; `None` if no source line comes
-- after the last path
abbrev pub AnchorStands : List GcovLine → Option BranchAnchor → Type 0
AnchorStands above None = has_line above ≡ false
AnchorStands above (Some p) = (has_line above ≡ true) × (line_above above ≡ Some p.line) × (block_above above ≡ p.block)

abbrev pub SectionStands : List GcovLine → Option SectionData → Type 0
SectionStands above None = has_path above ≡ false
SectionStands above (Some s) = (has_path above ≡ true) × AnchorStands above s.anchor

pub record Stands (test : List ℕ) (above : List GcovLine) (held : HeldData) : Type 0 where
  pub waits : held.waiting ≡ waiting above
  pub sects : sects_from test [] above ≡ held.sects ++ closed test held.section
  pub section : SectionStands above held.section

pub stands_at_first : (test : List ℕ) → Stands test [] empty
stands_at_first test = record { waits = refl; sects = refl; section = refl }

-- a head is a source line or a path. The functions that wait are those after the last head
abbrev is_head : GcovLine → Bool
is_head says = is_source says || is_path says

-- ---- what one more line changes of the waiting functions, the path and the source line

waits_same : (above : List GcovLine) (says : GcovLine) → is_head says ≡ false → waiting (above ++ says ∷ []) ≡ waiting above ++ func_said says
waits_same above says fails =
    ap (flat_map func_said) (after_last-no is_head above says fails)
    ∙ flat_map-append func_said (after_last is_head above) (says ∷ [])
    ∙ ap (λ (fs : List (List ℕ × ℕ)). waiting above ++ fs) (append-nil (func_said says))

waits_none : (above : List GcovLine) (says : GcovLine) → is_head says ≡ true → waiting (above ++ says ∷ []) ≡ []
waits_none above says holds = ap (flat_map func_said) (after_last-yes is_head above says holds)

path_same : (above : List GcovLine) (says : GcovLine) → is_path says ≡ false → has_path (above ++ says ∷ []) ≡ has_path above
path_same above says fails = any-no is_path above says fails

line_same : (above : List GcovLine) (says : GcovLine) → is_path says ≡ false → is_source says ≡ false → has_line (above ++ says ∷ []) ≡ has_line above
line_same above says no_path no_source =
    rw (any-no is_path above says no_path, after_last-no is_path above says no_path, any-no is_source (after_last is_path above) says no_source) refl

-- ---- the sections

more_items : (test : List ℕ) (above : List GcovLine) (says : GcovLine) (sects : List SectData) (s : SectionData) (items : List ItemData) → is_path says ≡ false
    → sects_from test [] above ≡ sects ++ closed test (Some s) → items_given above says ≡ items
    → sects_from test [] (above ++ says ∷ []) ≡ sects ++ record { test = test; file = s.file; items = s.items ++ items } ∷ []
more_items test above says sects s items fails before given =
    sects-more test [] above says fails
    ∙ ap (λ (ss : List SectData). extended ss (items_given above says)) before
    ∙ extended-last sects (record { test = test; file = s.file; items = s.items }) (items_given above says)
    ∙ ap (λ (is : List ItemData). sects ++ record { test = test; file = s.file; items = s.items ++ is } ∷ []) given

extended_nothing : (ss : List SectData) → extended ss [] ≡ ss
extended_nothing [] = refl
extended_nothing (s ∷ []) = ap (λ (is : List ItemData). record { test = s.test; file = s.file; items = is } ∷ []) (append-nil s.items)
extended_nothing (s ∷ t ∷ ss) = ap (λ (rest : List SectData). s ∷ rest) (extended_nothing (t ∷ ss))

no_items : (test : List ℕ) (above : List GcovLine) (says : GcovLine) → is_path says ≡ false → items_given above says ≡ [] → sects_from test [] (above ++ says ∷ []) ≡ sects_from test [] above
no_items test above says fails given =
    sects-more test [] above says fails ∙ ap (extended (sects_from test [] above)) given ∙ extended_nothing (sects_from test [] above)

-- ---- each kind of line

-- a line that is no path, no source line and no block line leaves the anchor of branches as it is
anchor_same : (above : List GcovLine) (says : GcovLine) (anchor : Option BranchAnchor) → is_path says ≡ false → source_number says ≡ None → block_number says ≡ None
    → AnchorStands above anchor → AnchorStands (above ++ says ∷ []) anchor
anchor_same above says None no_path no_source no_block stands = line_same above says no_path (ap (λ (o : Option ℕ). is_some o) no_source) ∙ stands
anchor_same above says (Some p) no_path no_source no_block stands = (
  line_same above says no_path (ap (λ (o : Option ℕ). is_some o) no_source) ∙ stands.0,
  last_number-more source_number above says ∙ ap (λ (o : Option ℕ). option_or o (line_above above)) no_source ∙ stands.1,
  ap (λ (ls : List GcovLine). or_zero (last_number block_number ls)) (after_last-no is_source above says (ap (λ (o : Option ℕ). is_some o) no_source))
      ∙ ap or_zero (last_number-more block_number (after_last is_source above) says ∙ ap (λ (o : Option ℕ). option_or o (last_number block_number (after_last is_source above))) no_block)
      ∙ stands.2,
)

-- such a line leaves the section as it is
section_same : (above : List GcovLine) (says : GcovLine) (section : Option SectionData) → is_path says ≡ false → source_number says ≡ None → block_number says ≡ None
    → SectionStands above section → SectionStands (above ++ says ∷ []) section
section_same above says None no_path no_source no_block stands = path_same above says no_path ∙ stands
section_same above says (Some s) no_path no_source no_block stands = (path_same above says no_path ∙ stands.0, anchor_same above says s.anchor no_path no_source no_block stands.1)

-- ---- the steps

-- a step goes on if the line has no fault of its place. Otherwise it returns this fault
abbrev pub Goes : List ℕ → ℕ → List GcovLine → HeldData → GcovLine → Type 0
Goes test at above held says =
    ((next : HeldData) × (step test at held says ≡ Ok next) × (place_fault at above says ≡ None) × Stands test (above ++ says ∷ []) next)
    ⊎ ((fault : ReadFault) × (step test at held says ≡ Err fault) × (place_fault at above says ≡ Some fault))

nothing_left : (w : List (List ℕ × ℕ)) → is_empty w ≡ true → w ≡ []
nothing_left [] none = refl
nothing_left (f ∷ fs) none = absurd cc

goes_path : (test : List ℕ) (at : ℕ) (above : List GcovLine) (held : HeldData) (path : List ℕ) → Stands test above held → Goes test at above held (Path path)
goes_path test at above held [] s = inr (faults.NoSource at, refl, refl)
goes_path test at above held (b ∷ bs) s =
    elim (cases_Bool (is_empty held.waiting)) [
      | inl none ↦
          let gone : is_empty (waiting above) ≡ true = ap (λ (w : List (List ℕ × ℕ)). is_empty w) (sym s.waits) ∙ none in
          inl (
            begun test (b ∷ bs) held,
            rw none refl,
            rw gone refl,
            record {
              waits = nothing_left held.waiting none ∙ sym (waits_none above (Path (b ∷ bs)) refl);
              sects = sects-path test [] above (b ∷ bs) ∙ ap (λ (ss : List SectData). ss ++ record { test = test; file = b ∷ bs; items = [] } ∷ []) s.sects;
              section = (any-yes is_path above (Path (b ∷ bs)) refl, rw (any-yes is_path above (Path (b ∷ bs)) refl, after_last-yes is_path above (Path (b ∷ bs)) refl) refl);
            },
          )
      | inr some ↦
          let left : is_empty (waiting above) ≡ false = ap (λ (w : List (List ℕ × ℕ)). is_empty w) (sym s.waits) ∙ some in
          inr (faults.LostFunction, rw some refl, rw left refl)
    ]

line_anchor : (above : List GcovLine) (line : ℕ) (count : Option ℕ) → has_path above ≡ true → AnchorStands (above ++ SourceLine line count ∷ []) (Some (record { line = line; block = 0 }))
line_anchor above line count some = (
  rw (any-no is_path above (SourceLine line count) refl, some, after_last-no is_path above (SourceLine line count) refl, any-yes is_source (after_last is_path above) (SourceLine line count) refl) refl,
  last_number-more source_number above (SourceLine line count),
  ap (λ (ls : List GcovLine). or_zero (last_number block_number ls)) (after_last-yes is_source above (SourceLine line count) refl),
)

goes_source_in : (test : List ℕ) (at : ℕ) (above : List GcovLine) (held : HeldData) (line : ℕ) (count : Option ℕ) (section : Option SectionData) → held.section ≡ section
    → Stands test above held → SectionStands above section → Goes test at above held (SourceLine line count)
goes_source_in test at above held line count None e s stands = inr (faults.NoSource at, rw e refl, rw stands refl)
goes_source_in test at above held line count (Some o) e s stands =
    let items = map (func_item line) held.waiting ++ line_item line count in
    inl (
      section_with o items (Some (record { line = line; block = 0 })) held [],
      rw e refl,
      rw stands.0 refl,
      record {
        waits = sym (waits_none above (SourceLine line count) refl);
        sects = more_items test above (SourceLine line count) held.sects o items refl (s.sects ∙ ap (λ (x : Option SectionData). held.sects ++ closed test x) e)
            (ap (λ (w : List (List ℕ × ℕ)). map (func_item line) w ++ line_item line count) (sym s.waits));
        section = (path_same above (SourceLine line count) refl ∙ stands.0, line_anchor above line count stands.0);
      },
    )

goes_func : (test : List ℕ) (at : ℕ) (above : List GcovLine) (held : HeldData) (name : List ℕ) (count : ℕ) → Stands test above held → Goes test at above held (FuncCount name count)
goes_func test at above held name count s = inl (
  step_func held name count,
  refl,
  refl,
  record {
    waits = ap (λ (w : List (List ℕ × ℕ)). w ++ (name, count) ∷ []) s.waits ∙ sym (waits_same above (FuncCount name count) refl);
    sects = no_items test above (FuncCount name count) refl refl ∙ s.sects;
    section = section_same above (FuncCount name count) held.section refl refl refl s.section;
  },
)

goes_nothing : (test : List ℕ) (at : ℕ) (above : List GcovLine) (held : HeldData) → Stands test above held → Goes test at above held Nothing
goes_nothing test at above held s = inl (
  held,
  refl,
  refl,
  record {
    waits = s.waits ∙ sym (append-nil (waiting above)) ∙ sym (waits_same above Nothing refl);
    sects = no_items test above Nothing refl refl ∙ s.sects;
    section = section_same above Nothing held.section refl refl refl s.section;
  },
)

goes_branch_at : (test : List ℕ) (at : ℕ) (above : List GcovLine) (held : HeldData) (branch : ℕ) (taken : Option ℕ) (o : SectionData) (anchor : Option BranchAnchor) → held.section ≡ Some o → o.anchor ≡ anchor
    → Stands test above held → SectionStands above (Some o) → AnchorStands above anchor → Goes test at above held (BranchCount branch taken)
goes_branch_at test at above held branch taken o None e f s stands here = inr (faults.Misplaced at, rw (e, f) refl, rw here refl)
goes_branch_at test at above held branch taken o (Some p) e f s stands here =
    let items = BranchItem p.line p.block branch taken ∷ [] in
    inl (
      section_with o items o.anchor held held.waiting,
      rw (e, f) refl,
      rw here.0 refl,
      record {
        waits = s.waits ∙ sym (append-nil (waiting above)) ∙ sym (waits_same above (BranchCount branch taken) refl);
        sects = more_items test above (BranchCount branch taken) held.sects o items refl (s.sects ∙ ap (λ (x : Option SectionData). held.sects ++ closed test x) e)
            (rw (here.1, here.2) refl);
        section = (path_same above (BranchCount branch taken) refl ∙ stands.0, anchor_same above (BranchCount branch taken) o.anchor refl refl refl stands.1);
      },
    )

goes_branch : (test : List ℕ) (at : ℕ) (above : List GcovLine) (held : HeldData) (branch : ℕ) (taken : Option ℕ) (section : Option SectionData) → held.section ≡ section
    → Stands test above held → SectionStands above section → Goes test at above held (BranchCount branch taken)
goes_branch test at above held branch taken None e s stands = inr (faults.Misplaced at, rw e refl, rw stands refl)
goes_branch test at above held branch taken (Some o) e s stands = goes_branch_at test at above held branch taken o o.anchor e refl s stands stands.1

anchor_in_block : (above : List GcovLine) (block : ℕ) (anchor : Option BranchAnchor) → AnchorStands above anchor → AnchorStands (above ++ BlockNumber block ∷ []) (option_map (in_block block) anchor)
anchor_in_block above block None stands = line_same above (BlockNumber block) refl refl ∙ stands
anchor_in_block above block (Some p) stands = (
  line_same above (BlockNumber block) refl refl ∙ stands.0,
  last_number-more source_number above (BlockNumber block) ∙ stands.1,
  ap (λ (ls : List GcovLine). or_zero (last_number block_number ls)) (after_last-no is_source above (BlockNumber block) refl)
      ∙ ap or_zero (last_number-more block_number (after_last is_source above) (BlockNumber block)),
)

section_block : (above : List GcovLine) (block : ℕ) (section : Option SectionData) → SectionStands above section → SectionStands (above ++ BlockNumber block ∷ []) (option_map (section_in_block block) section)
section_block above block None stands = path_same above (BlockNumber block) refl ∙ stands
section_block above block (Some s) stands = (path_same above (BlockNumber block) refl ∙ stands.0, anchor_in_block above block s.anchor stands.1)

closed_block : (test : List ℕ) (block : ℕ) (section : Option SectionData) → closed test (option_map (section_in_block block) section) ≡ closed test section
closed_block test block None = refl
closed_block test block (Some s) = refl

goes_block : (test : List ℕ) (at : ℕ) (above : List GcovLine) (held : HeldData) (block : ℕ) → Stands test above held → Goes test at above held (BlockNumber block)
goes_block test at above held block s = inl (
  step_block held block,
  refl,
  refl,
  record {
    waits = s.waits ∙ sym (append-nil (waiting above)) ∙ sym (waits_same above (BlockNumber block) refl);
    sects = no_items test above (BlockNumber block) refl refl ∙ s.sects ∙ ap (λ (ss : List SectData). held.sects ++ ss) (sym (closed_block test block held.section));
    section = section_block above block held.section s.section;
  },
)

pub goes : (test : List ℕ) (at : ℕ) (above : List GcovLine) (held : HeldData) (says : GcovLine) → Stands test above held → Goes test at above held says
goes test at above held (Path path) s = goes_path test at above held path s
goes test at above held (SourceLine line count) s = goes_source_in test at above held line count held.section refl s s.section
goes test at above held (FuncCount name count) s = goes_func test at above held name count s
goes test at above held (BranchCount branch taken) s = goes_branch test at above held branch taken held.section refl s s.section
goes test at above held (BlockNumber block) s = goes_block test at above held block s
goes test at above held Nothing s = goes_nothing test at above held s
