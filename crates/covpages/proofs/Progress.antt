-- The files of a folder that are written one after another.
use Rattle.std.proofs.Common.{◌≡◌, ℕ, suc, ◌+◌, Bool, true, false, cond, List, [], ◌∷◌, ◌++◌, length, map, filter, Option, None, Some, refl, sym, ap, ap₂, ◌∙◌, subst, append_assoc, append-nil, arith}
use Rattle.std.proofs.lemmas.Bool.{cond-true, cond-false}
use Rattle.std.proofs.lemmas.List.{map-append}
use Rattle.std.proofs.lemmas.List.Elements.{filter-append}
use Rattle.covhtml.specs.DirectoryPages.{IndexedDirectoryData, directory_page, directory_page_name}
use Rattle.covhtml.specs.IndexPage.{DirectoryData, IndexedFileData}
use Rattle.covhtml.specs.PageName.{page_name}
use Rattle.covlist.specs.Chosen.{chosen_among}
use Rattle.covpages.specs.Pages.{PagesWorkData, AreSources, complaints_of, directory_pages, indexed_after, linked_after, page_of, pages_after, place_of}
use Rattle.covpages.specs.Sources.{SourceData, IsSource, complaint_of}
use Rattle.covpages.specs.Steps.{AreAdded, AreFinished, IsNext, IsSoFar, ProgressData}
use Rattle.covreport.specs.Choice.{is_chosen}
use Rattle.covtable.specs.Content.{SectionData}
use Rattle.covtable.specs.Files.{FileTotalsData}
use Rattle.covworld.specs.OutputFiles.{AddsName, Finishes, OutputFilesData}

abbrev Finished : Type 0
Finished = Option (List (List ℕ × List ℕ))

-- ---- finished files

pub none_finished : (files : Finished) → AreFinished [] files files
none_finished None = tt
none_finished (Some files) = sym (append-nil files)

pub one_finished : (name text : List ℕ) (files after : Finished) → Finishes name text files after → AreFinished ((name, text) ∷ []) files after
one_finished name text None after done = tt
one_finished name text (Some files) None done = done
one_finished name text (Some files) (Some after) done = done

pub finished_on : (front back : List (List ℕ × List ℕ)) (files middle after : Finished) → AreFinished front files middle → AreFinished back middle after → AreFinished (front ++ back) files after
finished_on front back None middle after one other = tt
finished_on front back (Some files) None after one other = absurd one
finished_on front back (Some files) (Some middle) None one other = other
finished_on front back (Some files) (Some middle) (Some after) one other =
    other ∙ ap (λ (l : List (List ℕ × List ℕ)). l ++ back) one ∙ append_assoc files front back

pub none_added : (names : List (List ℕ)) → AreAdded [] names names
none_added names = sym (append-nil names)

pub added_on : (front back : List (List ℕ × List ℕ)) (names middle after : List (List ℕ)) → AreAdded front names middle → AreAdded back middle after → AreAdded (front ++ back) names after
added_on front back names middle after one other =
    other ∙ ap (λ (l : List (List ℕ)). l ++ map (λ f. f.0) back) one ∙ append_assoc names (map (λ f. f.0) front) (map (λ f. f.0) back)
    ∙ ap (λ (l : List (List ℕ)). names ++ l) (sym (map-append (λ (f : List ℕ × List ℕ). f.0) front back))

-- ---- the pages of one more source file

are_sources_on : (work : PagesWorkData) (sections : List SectionData) (shown : List FileTotalsData) (sources : List SourceData) (file : FileTotalsData) (source : SourceData)
    → AreSources work sections shown sources → AreSources work sections (file ∷ []) (source ∷ []) → AreSources work sections (shown ++ file ∷ []) (sources ++ source ∷ [])
are_sources_on work sections [] [] file source are one = one
are_sources_on work sections [] (s ∷ sources) file source are one = absurd are
are_sources_on work sections (f ∷ shown) [] file source are one = absurd are
are_sources_on work sections (f ∷ shown) (s ∷ sources) file source are one =
    (are.0, are_sources_on work sections shown sources file source are.1 one)

complaints_on : (work : PagesWorkData) (sections : List SectionData) (shown : List FileTotalsData) (sources : List SourceData) (file : FileTotalsData) (source : SourceData)
    → AreSources work sections shown sources
    → complaints_of work (shown ++ file ∷ []) (sources ++ source ∷ []) ≡ complaints_of work shown sources ++ complaint_of work.strictness (place_of work file.path) source
complaints_on work sections [] [] file source are = append-nil (complaint_of work.strictness (place_of work file.path) source)
complaints_on work sections [] (s ∷ sources) file source are = absurd are
complaints_on work sections (f ∷ shown) [] file source are = absurd are
complaints_on work sections (f ∷ shown) (s ∷ sources) file source are =
    let here = complaint_of work.strictness (place_of work f.path) s in
    ap (λ (l : List ℕ). here ++ l) (complaints_on work sections shown sources file source are.1)
    ∙ sym (append_assoc here (complaints_of work shown sources) (complaint_of work.strictness (place_of work file.path) source))

pages_on : (work : PagesWorkData) (sections : List SectionData) (number last : ℕ) (shown : List FileTotalsData) (sources : List SourceData) (file : FileTotalsData) (source : SourceData)
    → AreSources work sections shown sources → last ≡ number + length shown
    → pages_after number sections (shown ++ file ∷ []) (sources ++ source ∷ []) ≡ pages_after number sections shown sources ++ (page_name (last + 1) file.path, page_of sections file source) ∷ []
pages_on work sections number last [] [] file source are is =
    let same : number ≡ last = omega arith in
    ap (λ (n : ℕ). (page_name (n + 1) file.path, page_of sections file source) ∷ []) same
pages_on work sections number last [] (s ∷ sources) file source are is = absurd are
pages_on work sections number last (f ∷ shown) [] file source are is = absurd are
pages_on work sections number last (f ∷ shown) (s ∷ sources) file source are is =
    let more : last ≡ number + 1 + length shown = omega arith in
    ap (λ (l : List (List ℕ × List ℕ)). (page_name (number + 1) f.path, page_of sections f s) ∷ l) (pages_on work sections (number + 1) last shown sources file source are.1 more)

indexed_on : (number last : ℕ) (shown : List FileTotalsData) (file : FileTotalsData) → last ≡ number + length shown
    → indexed_after number (shown ++ file ∷ []) ≡ indexed_after number shown ++ indexed_after last (file ∷ [])
indexed_on number last [] file is =
    let same : number ≡ last = omega arith in
    ap (λ (n : ℕ). indexed_after n (file ∷ [])) same
indexed_on number last (f ∷ shown) file is =
    let more : last ≡ number + 1 + length shown = omega arith in
    let here : IndexedFileData = record { page = page_name (number + 1) f.path; path = f.path; totals = f.totals } in
    ap (λ (l : List IndexedFileData). here ∷ l) (indexed_on (number + 1) last shown file more)

pub length-indexed : (number : ℕ) (shown : List FileTotalsData) → length (indexed_after number shown) ≡ length shown
length-indexed number [] = refl
length-indexed number (f ∷ shown) = ap suc (length-indexed (number + 1) shown)

module _ (work : PagesWorkData) (sections : List SectionData) where
  pub none_so_far : (progress : ProgressData) (files : OutputFilesData) → progress.entries ≡ [] → progress.complaints ≡ [] → IsSoFar work sections [] progress files files
  none_so_far progress files entries complaints = record {
    sources = [];
    are = tt;
    entries = entries;
    complaints = complaints;
    finished = none_finished files.finished;
    named = none_added files.names;
  }

  pub one_more : (shown : List FileTotalsData) (file : FileTotalsData) (old new : ProgressData) (files middle after : OutputFilesData)
      → IsSoFar work sections shown old files middle → IsNext work sections file old new middle after → IsSoFar work sections (shown ++ file ∷ []) new files after
  one_more shown file old new files middle after so_far next =
      let count : length old.entries ≡ length shown = ap length so_far.entries ∙ length-indexed 0 shown in
      let number : length old.entries ≡ 0 + length shown = omega (arith, count) in
      let page : List (List ℕ × List ℕ) = (page_name (length old.entries + 1) file.path, page_of sections file next.source) ∷ [] in
      let pages : pages_after 0 sections (shown ++ file ∷ []) (so_far.sources ++ next.source ∷ []) ≡ pages_after 0 sections shown so_far.sources ++ page =
      pages_on work sections 0 (length old.entries) shown so_far.sources file next.source so_far.are number in
      record {
        sources = so_far.sources ++ next.source ∷ [];
        are = are_sources_on work sections shown so_far.sources file next.source so_far.are (next.is, tt);
        entries =
            next.entries ∙ ap (λ (l : List IndexedFileData). l ++ indexed_after (length old.entries) (file ∷ [])) so_far.entries
            ∙ sym (indexed_on 0 (length old.entries) shown file number);
        complaints =
            next.complaints ∙ ap (λ (l : List ℕ). l ++ complaint_of work.strictness (place_of work file.path) next.source) so_far.complaints
            ∙ sym (complaints_on work sections shown so_far.sources file next.source so_far.are);
        finished =
            subst (λ (l : List (List ℕ × List ℕ)). AreFinished l files.finished after.finished) (sym pages)
            (finished_on (pages_after 0 sections shown so_far.sources) page files.finished middle.finished after.finished so_far.finished
            (one_finished (page_name (length old.entries + 1) file.path) (page_of sections file next.source) middle.finished after.finished next.finished));
        named =
            subst (λ (l : List (List ℕ × List ℕ)). AreAdded l files.names after.names) (sym pages)
            (added_on (pages_after 0 sections shown so_far.sources) page files.names middle.names after.names so_far.named next.named);
      }

  -- one more source file is chosen, or passed over
  module _ (front more : List FileTotalsData) (file : FileTotalsData) (is : more ≡ front ++ file ∷ []) where
    pub chosen_more : is_chosen work.choice file.path ≡ true → chosen_among work.choice more ≡ chosen_among work.choice front ++ file ∷ []
    chosen_more takes =
        ap (chosen_among work.choice) is
        ∙ filter-append (λ (f : FileTotalsData). is_chosen work.choice f.path) front (file ∷ [])
        ∙ ap (λ (l : List FileTotalsData). chosen_among work.choice front ++ l) (cond-true (is_chosen work.choice file.path) (file ∷ []) [] takes)

    pub passed_more : is_chosen work.choice file.path ≡ false → chosen_among work.choice more ≡ chosen_among work.choice front
    passed_more passes =
        ap (chosen_among work.choice) is
        ∙ filter-append (λ (f : FileTotalsData). is_chosen work.choice f.path) front (file ∷ [])
        ∙ ap (λ (l : List FileTotalsData). chosen_among work.choice front ++ l) (cond-false (is_chosen work.choice file.path) (file ∷ []) [] passes)
        ∙ append-nil (chosen_among work.choice front)

  module _ (front more : List FileTotalsData) (file : FileTotalsData) (is : more ≡ front ++ file ∷ []) (old : ProgressData) (files middle : OutputFilesData)
      (so_far : IsSoFar work sections (chosen_among work.choice front) old files middle) where
    pub goes_on : (new : ProgressData) (after : OutputFilesData) → is_chosen work.choice file.path ≡ true → IsNext work sections file old new middle after
        → IsSoFar work sections (chosen_among work.choice more) new files after
    goes_on new after takes next =
        subst (λ (l : List FileTotalsData). IsSoFar work sections l new files after) (sym (chosen_more front more file is takes))
        (one_more (chosen_among work.choice front) file old new files middle after so_far next)

    pub passes_on : is_chosen work.choice file.path ≡ false → IsSoFar work sections (chosen_among work.choice more) old files middle
    passes_on passes =
        subst (λ (l : List FileTotalsData). IsSoFar work sections l old files middle) (sym (passed_more front more file is passes)) so_far

-- ---- the pages of one more directory

pub directory_pages_on : (number last : ℕ) (front : List DirectoryData) (d : DirectoryData) → last ≡ number + length front
    → directory_pages number (front ++ d ∷ []) ≡ directory_pages number front ++ (directory_page_name (last + 1) d.path, directory_page d) ∷ []
directory_pages_on number last [] d is =
    let same : number ≡ last = omega arith in
    ap (λ (n : ℕ). (directory_page_name (n + 1) d.path, directory_page d) ∷ []) same
directory_pages_on number last (e ∷ front) d is =
    let more : last ≡ number + 1 + length front = omega arith in
    ap (λ (l : List (List ℕ × List ℕ)). (directory_page_name (number + 1) e.path, directory_page e) ∷ l) (directory_pages_on (number + 1) last front d more)

pub linked_on : (number last : ℕ) (front : List DirectoryData) (d : DirectoryData) → last ≡ number + length front
    → linked_after number (front ++ d ∷ []) ≡ linked_after number front ++ linked_after last (d ∷ [])
linked_on number last [] d is =
    let same : number ≡ last = omega arith in
    ap (λ (n : ℕ). linked_after n (d ∷ [])) same
linked_on number last (e ∷ front) d is =
    let more : last ≡ number + 1 + length front = omega arith in
    let here : IndexedDirectoryData = record { page = directory_page_name (number + 1) e.path; path = e.path; totals = e.totals } in
    ap (λ (l : List IndexedDirectoryData). here ∷ l) (linked_on (number + 1) last front d more)

module _ (number place : ℕ) (front more : List DirectoryData) (d : DirectoryData) (name : List ℕ) (at : length front ≡ place)
    (is : more ≡ front ++ d ∷ []) (called : name ≡ directory_page_name (number + place + 1) d.path) where
  last_is : number + place ≡ number + length front
  last_is = omega (arith, at)

  pages_are : directory_pages number more ≡ directory_pages number front ++ (name, directory_page d) ∷ []
  pages_are =
      ap (directory_pages number) is ∙ directory_pages_on number (number + place) front d last_is
      ∙ ap (λ (n : List ℕ). directory_pages number front ++ (n, directory_page d) ∷ []) (sym called)

  pub page_finished : (files middle after : Finished) → AreFinished (directory_pages number front) files middle → Finishes name (directory_page d) middle after
      → AreFinished (directory_pages number more) files after
  page_finished files middle after so_far done =
      subst (λ (l : List (List ℕ × List ℕ)). AreFinished l files after) (sym pages_are)
      (finished_on (directory_pages number front) ((name, directory_page d) ∷ []) files middle after so_far (one_finished name (directory_page d) middle after done))

  pub page_added : (names middle after : List (List ℕ)) → AreAdded (directory_pages number front) names middle → AddsName name middle after
      → AreAdded (directory_pages number more) names after
  page_added names middle after so_far done =
      subst (λ (l : List (List ℕ × List ℕ)). AreAdded l names after) (sym pages_are)
      (added_on (directory_pages number front) ((name, directory_page d) ∷ []) names middle after so_far done)

  pub page_linked : (old new : List IndexedDirectoryData) → old ≡ linked_after number front
      → (let made : IndexedDirectoryData = record { page = name; path = d.path; totals = d.totals } in new ≡ old ++ made ∷ []) → new ≡ linked_after number more
  page_linked old new so_far pushed =
      pushed
      ∙ ap (λ (l : List IndexedDirectoryData). l ++ (let made : IndexedDirectoryData = record { page = name; path = d.path; totals = d.totals } in made) ∷ []) so_far
      ∙ ap (λ (n : List ℕ). linked_after number front ++ (let made : IndexedDirectoryData = record { page = n; path = d.path; totals = d.totals } in made) ∷ []) called
      ∙ sym (ap (linked_after number) is ∙ linked_on number (number + place) front d last_is)
