-- Chunks of tracefiles have the rows of the whole tracefiles, so they give the same texts.
use Rattle.std.proofs.Common.{◌≡◌, List, [], ◌∷◌, ◌++◌, map, refl, sym, ap, subst, ◌∙◌}
use Rattle.std.proofs.lemmas.List.Concat.{flat_map-append}
use Rattle.covbook.specs.Op.{OpData, SubmitOp}
use Rattle.covbook.specs.Order.{AreAgreeing}
use Rattle.covbook.specs.Step.{answer_of, table_of}
use Rattle.covbook.specs.Texts.{IsText}
use Rattle.covdata.specs.Row.{Row, SubmissionData, rows_of, rows_of_sect}
use Rattle.covdata.specs.declared.version.LcovVersion.{LcovVersion}
use Rattle.covdata.specs.declared.version.LcovVersion.TheVariants.{One, Two}
use Rattle.covline.specs.Lines.{lines_of}
use Rattle.covlcov2.specs.LineLaws.{Lcov2LineLaw}
use Rattle.covlcov2.proofs.OneOutcome as lcov2
use Rattle.covpieces.specs.Pieces.{all_of}
use Rattle.covread.proofs.TraceGrammar.{LineLaw}
use Rattle.covread.proofs.TraceOutcome as version1
use Rattle.covtable.specs.Clash.{Agree, checksums_in}
use Rattle.covtable.specs.Content.{content_of}
use Rattle.covlaws.specs.Chunks.{AreChunksOf, AreAllChunksOf}
use Rattle.covlaws.proofs.MergedParts.{AllAreTaken, all_in, content_taken, rows_in, rows_in_joined, text_told}

-- ---- a tracefile has one reading

module _ (law : LineLaw) (lcov2_law : Lcov2LineLaw) where
  whole_is : (version : LcovVersion) (chunks : List SubmissionData) (whole : SubmissionData) → AreChunksOf version chunks whole → whole ≡ all_of chunks
  whole_is One chunks whole are = version1.one_submission law (lines_of are.text) whole (all_of chunks) are.in_one are.in_chunks.0
  whole_is Two chunks whole are = lcov2.one_submission lcov2_law (lines_of are.text) whole (all_of chunks) are.in_one are.in_chunks.0

  pub wholes_are : (version : LcovVersion) (files : List (List SubmissionData)) (wholes : List SubmissionData) → AreAllChunksOf version files wholes → wholes ≡ map all_of files
  wholes_are version [] [] are = refl
  wholes_are version [] (whole ∷ wholes) are = absurd are
  wholes_are version (chunks ∷ files) [] are = absurd are
  wholes_are version (chunks ∷ files) (whole ∷ wholes) are =
      ap (λ (s : SubmissionData). s ∷ wholes) (whole_is version chunks whole are.0)
      ∙ ap (λ (more : List SubmissionData). all_of chunks ∷ more) (wholes_are version files wholes are.1)

-- ---- its rows are those of its chunks

rows_all : (chunks : List SubmissionData) → rows_of (all_of chunks) ≡ rows_in chunks
rows_all [] = refl
rows_all (s ∷ chunks) = flat_map-append rows_of_sect s.sects (all_of chunks).sects ∙ ap (λ (rows : List Row). rows_of s ++ rows) (rows_all chunks)

rows_wholes : (files : List (List SubmissionData)) → rows_in (all_in files) ≡ rows_in (map all_of files)
rows_wholes [] = refl
rows_wholes (chunks ∷ files) =
    rows_in_joined chunks (all_in files)
    ∙ ap (λ (rows : List Row). rows ++ rows_in (all_in files)) (sym (rows_all chunks))
    ∙ ap (λ (rows : List Row). rows_of (all_of chunks) ++ rows) (rows_wholes files)

pub same_texts : AllAreTaken → (files : List (List SubmissionData)) → AreAgreeing (all_in files) → (op : OpData) → IsText op
    → answer_of (table_of (map SubmitOp (all_in files))) op ≡ answer_of (table_of (map SubmitOp (map all_of files))) op
same_texts taken files agree op asks =
    let wholes_agree : AreAgreeing (map all_of files) = subst (λ (rows : List Row). Agree (checksums_in rows)) (rows_wholes files) agree in
    text_told op asks (table_of (map SubmitOp (all_in files))) (table_of (map SubmitOp (map all_of files)))
    (content_taken taken (all_in files) agree ∙ ap content_of (rows_wholes files) ∙ sym (content_taken taken (map all_of files) wholes_agree))
