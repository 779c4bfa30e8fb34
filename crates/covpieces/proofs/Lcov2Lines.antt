-- Lines of LCOV 2 and the records that they stand for: lines one after another, and what lines outside of sections need of those above.
use Rattle.std.proofs.Common.{◌≡◌, ℕ, Bool, true, false, List, [], ◌∷◌, ◌++◌, Option, Some, None, refl, sym, ap, subst, ◌∙◌, append_assoc}
use Rattle.std.specs.Prelude.{codes}
use Rattle.std.specs.List.{list_any}
use Rattle.covdata.specs.declared.trace_line.TotalKind.{TotalKind}
use Rattle.covdata.specs.declared.trace_line.TotalKind.TheVariants.{FuncFound, FuncHit, BranchFound, BranchHit, LineFound, LineHit}
use Rattle.covdata.specs.Records.{LineData, Test, Path, FuncStart, FuncCount, Branch, Line, Total, End, Skip}
use Rattle.covline.specs.Spells.{Begins}
use Rattle.covread.proofs.TraceGrammar.{Between, Accepts}
use Rattle.covlcov2.specs.Spells.{Lcov2Data, Plain, Leader, Alias, Edge, Lcov2Spells}
use Rattle.covlcov2.specs.LineLaws.{Lcov2LineLaw}
use Rattle.covlcov2.specs.Reads.{leader, is_leader, total_said, alias_said, edge_said, said, above_after, StandFor}
use Rattle.covlcov2.proofs.Holds.{Goes}
use Rattle.covlcov2.proofs.Records.{same_some, some_isnt_none}
use Rattle.covpieces.proofs.Parts.{last_of}

-- ---- lines one after another

-- the lines above the next line, after lines that stand for records
pub goes_on : (lines : List (List ℕ)) (above : List Lcov2Data) (records : List LineData) → StandFor lines above records → (last : List Lcov2Data) × Goes lines above records last
goes_on [] above records h = (above, (h, refl))
goes_on (line ∷ lines) above records h =
    let k = goes_on lines (above_after above h.0) h.2 h.6 in
    (k.0, (h.0, h.1, h.2, h.3, h.4, h.5, k.1))

pub stand_then : (lines more : List (List ℕ)) (above last : List Lcov2Data) (records others : List LineData) → Goes lines above records last → StandFor more last others → StandFor (lines ++ more) above (records ++ others)
stand_then [] more above last records others g h =
    subst (λ (a : List Lcov2Data). StandFor more a (records ++ others)) g.1 (subst (λ (r : List LineData). StandFor more last (r ++ others)) (sym g.0) h)
stand_then (line ∷ lines) more above last records others g h = (
  g.0,
  g.1,
  g.2 ++ others,
  g.3,
  g.4,
  ap (λ (r : List LineData). r ++ others) g.5 ∙ append_assoc g.1 g.2 others,
  stand_then lines more (above_after above g.0) last g.2 others g.6 h,
)

-- the records of first lines, and those of the lines after them
pub record Halves (lines more : List (List ℕ)) (above : List Lcov2Data) (records : List LineData) : Type 0 where
  pub front : List LineData
  pub back : List LineData
  pub last : List Lcov2Data
  pub both : records ≡ front ++ back
  pub goes : Goes lines above front last
  pub others : StandFor more last back

pub halves : (lines more : List (List ℕ)) (above : List Lcov2Data) (records : List LineData) → StandFor (lines ++ more) above records → Halves lines more above records
halves [] more above records h = record { front = []; back = records; last = above; both = refl; goes = (refl, refl); others = h }
halves (line ∷ lines) more above records h =
    let k = halves lines more (above_after above h.0) h.2 h.6 in
    record {
      front = h.1 ++ k.front;
      back = k.back;
      last = k.last;
      both = h.5 ∙ ap (λ (r : List LineData). h.1 ++ r) k.both ∙ sym (append_assoc h.1 k.front k.back);
      goes = (h.0, h.1, k.front, h.3, h.4, refl, k.goes);
      others = k.others;
    }

-- ---- a line that ends a section

end_said : (above : List Lcov2Data) (says : Lcov2Data) (now : List LineData) → says ≡ Plain End → said above says ≡ Some now → now ≡ End ∷ []
end_said above says now same e = sym (same_some (End ∷ []) now (sym (ap (said above) same) ∙ e))

pub last_is_end : Lcov2LineLaw → (last : List ℕ) (above : List Lcov2Data) (records : List LineData) → Begins last (codes "end_of_record") → StandFor (last ∷ []) above records
    → (d : LineData) → last_of d records ≡ End
last_is_end law last above records begins h d =
    let says : h.0 ≡ Plain End = law.meaning last h.0 (Plain End) h.3 (record { form = begins; small = tt }) in
    let now : h.1 ≡ End ∷ [] = end_said above h.0 h.1 says h.4 in
    let all : records ≡ End ∷ [] = h.5 ∙ ap (λ (r : List LineData). h.1 ++ r) h.6 ∙ ap (λ (r : List LineData). r ++ []) now in
    ap (last_of d) all

-- ---- lines outside of sections

-- whether totals of functions say nothing below these lines
abbrev pub is_grouped : List Lcov2Data → Bool
is_grouped above = list_any is_leader above

after_total : (grouped : Bool) (kind : TotalKind) (value : ℕ) (later : List LineData) → Accepts Between (total_said grouped kind value ++ later) → Accepts Between later
after_total false kind value later a = absurd a
after_total true FuncFound value later a = a
after_total true FuncHit value later a = a
after_total true BranchFound value later a = absurd a
after_total true BranchHit value later a = absurd a
after_total true LineFound value later a = absurd a
after_total true LineHit value later a = absurd a

no_alias : (start : Option ℕ) (count : ℕ) (name : List ℕ) (now later : List LineData) → alias_said start count name ≡ Some now → Accepts Between (now ++ later) → ⊥
no_alias None count name now later e a = some_isnt_none now e
no_alias (Some line) count name now later e a =
    subst (λ (r : List LineData). Accepts Between (r ++ later)) (sym (same_some (FuncStart line name ∷ FuncCount count name ∷ []) now e)) a

-- lines that are accepted below these lines stand for the same records below others, if the same totals say nothing there
abbrev Same : List (List ℕ) → Type 0
Same lines = (a b : List Lcov2Data) (records : List LineData) → Accepts Between records → is_grouped a ≡ is_grouped b → StandFor lines a records → StandFor lines b records

module _ (line : List ℕ) (lines : List (List ℕ)) (others : Same lines) (a b : List Lcov2Data) (same : is_grouped a ≡ is_grouped b) where
  -- the line says the same below the other lines, and isn't a path
  on : (says : Lcov2Data) (now later : List LineData) → above_after a says ≡ says ∷ a → above_after b says ≡ says ∷ b → is_grouped (says ∷ a) ≡ is_grouped (says ∷ b)
      → Lcov2Spells line says → said b says ≡ Some now → Accepts Between later → StandFor lines (above_after a says) later → StandFor (line ∷ lines) b (now ++ later)
  on says now later ea eb grouped spells e accepts h = (
    says,
    now,
    later,
    spells,
    e,
    refl,
    subst (λ (x : List Lcov2Data). StandFor lines x later) (sym eb) (others (says ∷ a) (says ∷ b) later accepts grouped (subst (λ (x : List Lcov2Data). StandFor lines x later) ea h)),
  )

  -- what is accepted behind the records of a line
  accepted : (records now later : List LineData) → let said_now : Option (List LineData) = Some records in
      said_now ≡ Some now → Accepts Between (now ++ later) → Accepts Between (records ++ later)
  accepted records now later e accepts = subst (λ (r : List LineData). Accepts Between (r ++ later)) (sym (same_some records now e)) accepts

  edge : (is_excluded : Bool) (number block : ℕ) (given taken : Option ℕ) (now later : List LineData) → Lcov2Spells line (Edge is_excluded number block given taken)
      → said a (Edge is_excluded number block given taken) ≡ Some now → Accepts Between (now ++ later) → StandFor lines (Edge is_excluded number block given taken ∷ a) later → StandFor (line ∷ lines) b (now ++ later)
  edge true number block given taken now later spells e accepts h =
      on (Edge true number block given taken) now later refl refl same spells e (accepted [] now later e accepts) h
  edge false number block given taken now later spells e accepts h = absurd (accepted (edge_said a false number block given taken) now later e accepts)

  stands : (says : Lcov2Data) (now later : List LineData) → Lcov2Spells line says → said a says ≡ Some now → Accepts Between (now ++ later) → StandFor lines (above_after a says) later
      → StandFor (line ∷ lines) b (now ++ later)
  stands (Plain (Path path)) now later spells e accepts h = (Plain (Path path), now, later, spells, e, refl, h)
  stands (Plain (Test name)) now later spells e accepts h =
      on (Plain (Test name)) now later refl refl same spells e (accepted (Test name ∷ []) now later e accepts) h
  stands (Plain Skip) now later spells e accepts h = on (Plain Skip) now later refl refl same spells e (accepted [] now later e accepts) h
  stands (Plain (Total kind value)) now later spells e accepts h =
      on (Plain (Total kind value)) now later refl refl same spells (ap (λ (g : Bool). Some (total_said g kind value)) (sym same) ∙ e)
      (after_total (is_grouped a) kind value later (accepted (total_said (is_grouped a) kind value) now later e accepts)) h
  stands (Plain (FuncStart number name)) now later spells e accepts h = absurd (accepted (FuncStart number name ∷ []) now later e accepts)
  stands (Plain (FuncCount count name)) now later spells e accepts h = absurd (accepted (FuncCount count name ∷ []) now later e accepts)
  stands (Plain (Branch number block branch taken)) now later spells e accepts h = absurd (accepted (Branch number block branch taken ∷ []) now later e accepts)
  stands (Plain (Line number count checksum)) now later spells e accepts h = absurd (accepted (Line number count checksum ∷ []) now later e accepts)
  stands (Plain End) now later spells e accepts h = absurd (accepted (End ∷ []) now later e accepts)
  stands (Leader index number) now later spells e accepts h = on (Leader index number) now later refl refl refl spells e (accepted [] now later e accepts) h
  stands (Alias index count name) now later spells e accepts h = absurd (no_alias (leader index a) count name now later e accepts)
  stands (Edge is_excluded number block given taken) now later spells e accepts h = edge is_excluded number block given taken now later spells e accepts h

pub stands_below : (lines : List (List ℕ)) → Same lines
stands_below [] a b records accepts same h = h
stands_below (line ∷ lines) a b records accepts same h =
    subst (λ (r : List LineData). StandFor (line ∷ lines) b r) (sym h.5)
    (stands line lines (stands_below lines) a b same h.0 h.1 h.2 h.3 h.4 (subst (λ (r : List LineData). Accepts Between r) h.5 accepts) h.6)
