-- A run with one more operation, and a history with one more entry.
use Rattle.std.proofs.Common.{◌≡◌, ℕ, ◌+◌, ◌<◌, ◌≤◌, not, List, [], ◌∷◌, ◌++◌, length, filter, None, bytes_eq, refl, sym, ap, ◌∙◌, subst, arith}
use Rattle.std.proofs.lemmas.List.{map_push, length_push}
use Rattle.covtable.specs.declared.totals.Totals.{Totals}
use Rattle.covdata.specs.Row.{SubmissionData, items_in, rows_of}
use Rattle.covtable.specs.Content.{SectionData, content_at}
use Rattle.covtable.specs.Renamed.{renamed}
use Rattle.covtable.specs.Shown.{ShownData, SameContent, StandsFor}
use Rattle.covtable.specs.Table.{Table, clash_at}
use Rattle.covtable.specs.Totals.{totals_of}
use Rattle.covtable.specs.Without.{without_test}
use Rattle.covtable.proofs.WithoutContent.{content_without}
use Rattle.covbook.proofs.Members.{members_kept, members_stay}
use Rattle.covbook.specs.Held.{BookData, IsBook}
use Rattle.covbook.specs.Op.{OpData, AreLawfulOps, IsLawfulOp, SubmitOp, AnswerData, AcceptedAnswer, EntryData}
use Rattle.covbook.specs.Ready.{HasRoom, IsNextOf, IsPlanned, HoldChange, DropChange, RenameChange}
use Rattle.covbook.specs.Texts.{IsText}
use Rattle.covbook.specs.Step.{answer_to_submit, table_after_submit, answer_of, table_after, totals_at, answers_from, totals_from, table_from, answers_to, totals_to, table_of, ops_in, next_entry, totals_in, IsLegal, no_totals, last_totals, max_entries}

pub answers_from-push : (table : Table) (ops : List OpData) (op : OpData) → answers_from table (ops ++ op ∷ []) ≡ answers_from table ops ++ answer_of (table_from table ops) op ∷ []
answers_from-push table [] op = refl
answers_from-push table (first ∷ ops) op = ap (λ (answers : List AnswerData). answer_of table first ∷ answers) (answers_from-push (table_after table first) ops op)

pub totals_from-push : (table : Table) (ops : List OpData) (op : OpData) → totals_from table (ops ++ op ∷ []) ≡ totals_from table ops ++ totals_at (table_after (table_from table ops) op) ∷ []
totals_from-push table [] op = refl
totals_from-push table (first ∷ ops) op = ap (λ (totals : List Totals). totals_at (table_after table first) ∷ totals) (totals_from-push (table_after table first) ops op)

pub table_from-push : (table : Table) (ops : List OpData) (op : OpData) → table_from table (ops ++ op ∷ []) ≡ table_after (table_from table ops) op
table_from-push table [] op = refl
table_from-push table (first ∷ ops) op = table_from-push (table_after table first) ops op

-- a legal history with the next entry is legal
legal-next : (entries : List EntryData) (job : ℕ) (op : OpData) → IsLegal entries → IsLegal (entries ++ next_entry entries job op ∷ [])
legal-next entries job op legal =
    let e = next_entry entries job op in
    let ops = sym (map_push (λ (x : EntryData). x.op) entries e) in
    record {
      answers = map_push (λ (x : EntryData). x.answer) entries e
          ∙ ap (λ (answers : List AnswerData). answers ++ e.answer ∷ []) legal.answers
          ∙ sym (answers_from-push [] (ops_in entries) op)
          ∙ ap answers_to ops;
      totals = map_push (λ (x : EntryData). x.after) entries e
          ∙ ap (λ (totals : List Totals). totals ++ e.after ∷ []) legal.totals
          ∙ sym (totals_from-push [] (ops_in entries) op)
          ∙ ap totals_to ops;
    }

table-next : (entries : List EntryData) (job : ℕ) (op : OpData) → table_of (ops_in (entries ++ next_entry entries job op ∷ [])) ≡ table_after (table_of (ops_in entries)) op
table-next entries job op = ap table_of (map_push (λ (x : EntryData). x.op) entries (next_entry entries job op)) ∙ table_from-push [] (ops_in entries) op

lawful_more : (ops : List OpData) (op : OpData) → AreLawfulOps ops → IsLawfulOp op → AreLawfulOps (ops ++ op ∷ [])
lawful_more [] op all one = (one, tt)
lawful_more (first ∷ ops) op all one = (all.0, lawful_more ops op all.1 one)

-- with one more lawful operation a history's operations are lawful
lawful-next : (entries : List EntryData) (job : ℕ) (op : OpData) → AreLawfulOps (ops_in entries) → IsLawfulOp op → AreLawfulOps (ops_in (entries ++ next_entry entries job op ∷ []))
lawful-next entries job op all one =
    subst AreLawfulOps (sym (map_push (λ (x : EntryData). x.op) entries (next_entry entries job op))) (lawful_more (ops_in entries) op all one)

-- an operation that asks for a text is lawful
pub text_lawful : (op : OpData) → IsText op → IsLawfulOp op
text_lawful (SubmitOp submission) text = absurd text
text_lawful other text = tt

-- ---- a book with the next entry

-- what contracts see of a book
abbrev pub shown : {T : Type 0} → (T → ShownData) → T → ℕ → List EntryData → BookData T
shown shows store room entries = record { entries = entries; room = room; store = shows store; held = store }

-- a history with the next entry, a store that represents the table after the operation, and the number of submissions that are
-- accepted then, make a book
next_book : (store : ShownData) (accepted : ℕ) (entries : List EntryData) (job : ℕ) (op : OpData) → IsLegal entries → AreLawfulOps (ops_in entries) → IsLawfulOp op → length entries < max_entries
    → StandsFor store (table_after (table_of (ops_in entries)) op) → accepted ≡ length (table_after (table_of (ops_in entries)) op) → accepted ≤ length entries + 1
    → IsBook store accepted (entries ++ next_entry entries job op ∷ [])
next_book store accepted entries job op legal all lawful room stands number fewer =
    let longer = length_push entries (next_entry entries job op) in
    let table_is = sym (table-next entries job op) in
    record {
      legal = legal-next entries job op legal;
      lawful = lawful-next entries job op all lawful;
      stands = subst (StandsFor store) table_is stands;
      number = number ∙ ap length table_is;
      few = omega (arith, longer, room);
      fewer = omega (arith, longer, fewer);
    }

-- the book after an operation that leaves the table as it is
book_noted : (store : ShownData) (accepted : ℕ) (entries new : List EntryData) (e : EntryData) → IsBook store accepted entries → IsLawfulOp e.op → length entries < max_entries → new ≡ entries ++ e ∷ []
    → e ≡ next_entry entries e.job e.op → table_after (table_of (ops_in entries)) e.op ≡ table_of (ops_in entries) → IsBook store accepted new
book_noted store accepted entries new e b lawful room is next still =
    let fewer : accepted ≤ length entries + 1 = omega (arith, b.fewer) in
    let made = next_book store accepted entries e.job e.op b.legal b.lawful lawful room (subst (StandsFor store) (sym still) b.stands) (b.number ∙ ap length (sym still)) fewer in
    subst (IsBook store accepted) (ap (λ (x : EntryData). entries ++ x ∷ []) (sym next) ∙ sym is) made

-- the same, from what is known of the book as contracts see it
pub noted_book : {T : Type 0} (shows : T → ShownData) (store : T) (accepted room : ℕ) (entries : List EntryData) (book : BookData T) (new : List EntryData) (e : EntryData) → IsBook (shows store) accepted entries → IsLawfulOp e.op
    → shown shows store room entries ≡ book → HasRoom book → IsNextOf book e → table_after (table_of (ops_in book.entries)) e.op ≡ table_of (ops_in book.entries) → new ≡ entries ++ e ∷ [] → IsBook (shows store) accepted new
noted_book {T} shows store accepted room entries book new e b lawful view has next still is =
    let back = sym view in
    let few = (subst HasRoom back has).few in
    let next_here = subst (λ (x : BookData T). IsNextOf x e) back next in
    let still_here = subst (λ (x : BookData T). table_after (table_of (ops_in x.entries)) e.op ≡ table_of (ops_in x.entries)) back still in
    book_noted (shows store) accepted entries new e b lawful few is next_here still_here

-- ---- a submission

-- the table after an operation that submits what doesn't clash
pub table_with : (store : ShownData) (table : Table) (op : OpData) (given : SubmissionData) → StandsFor store table → ((t : Table) → StandsFor store t → clash_at t given ≡ None) → SubmitOp given ≡ op → table_after table op ≡ table ++ rows_of given ∷ []
table_with store table op given stands agrees is =
    ap (table_after table) (sym is) ∙ ap (table_after_submit table given) (agrees table stands)

-- the answer to it
pub answer_with : (store : ShownData) (table : Table) (op : OpData) (given : SubmissionData) → StandsFor store table → ((t : Table) → StandsFor store t → clash_at t given ≡ None) → SubmitOp given ≡ op
    → AcceptedAnswer (length table + 1) (items_in given.sects) given.odd ≡ answer_of table op
answer_with store table op given stands agrees is =
    ap (answer_to_submit table given) (sym (agrees table stands)) ∙ ap (answer_of table) is

-- a book is still one if its store changes, but not the content of the store
pub kept_book : (store kept : ShownData) (accepted : ℕ) (entries : List EntryData) → IsBook store accepted entries → SameContent store kept → IsBook kept accepted entries
kept_book store kept accepted entries b same = record {
  legal = b.legal;
  lawful = b.lawful;
  stands = record {
    content = same.sections ∙ b.stands.content;
    members = same.members ∙ b.stands.members;
    agree = b.stands.agree;
    few = b.stands.few;
    small = b.stands.small;
  };
  number = b.number;
  few = b.few;
  fewer = b.fewer;
}

-- what is planned is a plan of the store
pub plan_here : {T P R : Type 0} (shows : T → ShownData) (plans : T → SubmissionData → P → Type 0) (renames : T → List ℕ → List ℕ → R → Type 0) (store : T) (room : ℕ) (entries : List EntryData) (book : BookData T) (op : OpData) (plan : P) → shown shows store room entries ≡ book
    → IsPlanned plans renames book.held (table_of (ops_in book.entries)) op (HoldChange plan) → (s : SubmissionData) × plans store s plan
plan_here {T} shows plans renames store room entries book op plan view planned =
    let here = subst (λ (x : BookData T). IsPlanned plans renames x.held (table_of (ops_in x.entries)) op (HoldChange plan)) (sym view) planned in
    (here.0, here.1)

-- the book after a planned submission is added to the store
pub held_book : {T P R : Type 0} (shows : T → ShownData) (plans : T → SubmissionData → P → Type 0) (renames : T → List ℕ → List ℕ → R → Type 0) (store committed : T) (accepted room : ℕ) (entries : List EntryData) (book : BookData T) (new : List EntryData) (e : EntryData) (plan : P) → IsBook (shows store) accepted entries → IsLawfulOp e.op
    → shown shows store room entries ≡ book → HasRoom book → IsNextOf book e → IsPlanned plans renames book.held (table_of (ops_in book.entries)) e.op (HoldChange plan)
    → ((s : SubmissionData) (table : Table) → plans store s plan → StandsFor (shows store) table → StandsFor (shows committed) (table ++ rows_of s ∷ [])) → new ≡ entries ++ e ∷ [] → IsBook (shows committed) (accepted + 1) new
held_book {T} shows plans renames store committed accepted room entries book new e plan b lawful view has next planned commit is =
    let back = sym view in
    let few = (subst HasRoom back has).few in
    let next_here = subst (λ (x : BookData T). IsNextOf x e) back next in
    let planned_here = subst (λ (x : BookData T). IsPlanned plans renames x.held (table_of (ops_in x.entries)) e.op (HoldChange plan)) back planned in
    let table = table_of (ops_in entries) in
    let s = planned_here.0 in
    let leaves : table ++ rows_of s ∷ [] ≡ table_after table e.op = sym planned_here.2 in
    let stands : StandsFor (shows committed) (table_after table e.op) = subst (StandsFor (shows committed)) leaves (commit s table planned_here.1 b.stands) in
    let number : accepted + 1 ≡ length (table_after table e.op) = ap (λ (n : ℕ). n + 1) b.number ∙ sym (length_push table (rows_of s)) ∙ ap length leaves in
    let fewer : accepted + 1 ≤ length entries + 1 = omega (arith, b.fewer) in
    let made = next_book (shows committed) (accepted + 1) entries e.job e.op b.legal b.lawful lawful few stands number fewer in
    subst (IsBook (shows committed) (accepted + 1)) (ap (λ (x : EntryData). entries ++ x ∷ []) (sym next_here) ∙ sym is) made

-- ---- a test that is dropped

-- the totals of the next entry are those without the test, of each table that the store represents
pub drop_here : {T P R : Type 0} (shows : T → ShownData) (plans : T → SubmissionData → P → Type 0) (renames : T → List ℕ → List ℕ → R → Type 0) (store : T) (accepted room : ℕ) (entries : List EntryData) (book : BookData T) (e : EntryData) (test : List ℕ) → IsBook (shows store) accepted entries
    → shown shows store room entries ≡ book → IsNextOf book e → IsPlanned plans renames book.held (table_of (ops_in book.entries)) e.op (DropChange test)
    → (table : Table) → StandsFor (shows store) table → e.after ≡ totals_of (content_at (without_test test table))
drop_here {T} shows plans renames store accepted room entries book e test b view next planned table stands =
    let back = sym view in
    let first = table_of (ops_in entries) in
    let next_here = subst (λ (x : BookData T). IsNextOf x e) back next in
    let leaves : table_after first e.op ≡ without_test test first = subst (λ (x : BookData T). IsPlanned plans renames x.held (table_of (ops_in x.entries)) e.op (DropChange test)) back planned in
    ap (λ (x : EntryData). x.after) next_here
    ∙ ap totals_at leaves
    ∙ ap totals_of (content_without test first
    ∙ ap (λ (sections : List SectionData). filter (λ s. not (bytes_eq s.key.test test)) sections) (sym b.stands.content ∙ stands.content)
    ∙ sym (content_without test table))

-- the book after a test is dropped
pub dropped_book : {T P R : Type 0} (shows : T → ShownData) (plans : T → SubmissionData → P → Type 0) (renames : T → List ℕ → List ℕ → R → Type 0) (store without : T) (accepted room : ℕ) (entries : List EntryData) (book : BookData T) (new : List EntryData) (e : EntryData) (test : List ℕ) → IsBook (shows store) accepted entries → IsLawfulOp e.op
    → shown shows store room entries ≡ book → HasRoom book → IsNextOf book e → IsPlanned plans renames book.held (table_of (ops_in book.entries)) e.op (DropChange test)
    → ((table : Table) → StandsFor (shows store) table → StandsFor (shows without) (without_test test table)) → new ≡ entries ++ e ∷ [] → IsBook (shows without) accepted new
dropped_book {T} shows plans renames store without accepted room entries book new e test b lawful view has next planned drop is =
    let back = sym view in
    let few = (subst HasRoom back has).few in
    let next_here = subst (λ (x : BookData T). IsNextOf x e) back next in
    let table = table_of (ops_in entries) in
    let leaves : without_test test table ≡ table_after table e.op = sym (subst (λ (x : BookData T). IsPlanned plans renames x.held (table_of (ops_in x.entries)) e.op (DropChange test)) back planned) in
    let stands : StandsFor (shows without) (table_after table e.op) = subst (StandsFor (shows without)) leaves (drop table b.stands) in
    let number : accepted ≡ length (table_after table e.op) = b.number ∙ members_stay test table ∙ ap length leaves in
    let fewer : accepted ≤ length entries + 1 = omega (arith, b.fewer) in
    let made = next_book (shows without) accepted entries e.job e.op b.legal b.lawful lawful few stands number fewer in
    subst (IsBook (shows without) accepted) (ap (λ (x : EntryData). entries ++ x ∷ []) (sym next_here) ∙ sym is) made

-- ---- a test that is renamed

-- what is planned is a renaming of the store
pub renaming_here : {T P R : Type 0} (shows : T → ShownData) (plans : T → SubmissionData → P → Type 0) (renames : T → List ℕ → List ℕ → R → Type 0) (store : T) (room : ℕ) (entries : List EntryData) (book : BookData T) (op : OpData) (renaming : R) → shown shows store room entries ≡ book
    → IsPlanned plans renames book.held (table_of (ops_in book.entries)) op (RenameChange renaming) → (old new : List ℕ) × renames store old new renaming
renaming_here {T} shows plans renames store room entries book op renaming view planned =
    let here = subst (λ (x : BookData T). IsPlanned plans renames x.held (table_of (ops_in x.entries)) op (RenameChange renaming)) (sym view) planned in
    (here.0, here.1, here.2)

-- the book after a test is renamed
pub renamed_book : {T P R : Type 0} (shows : T → ShownData) (plans : T → SubmissionData → P → Type 0) (renames : T → List ℕ → List ℕ → R → Type 0) (store committed : T) (accepted room : ℕ) (entries : List EntryData) (book : BookData T) (new : List EntryData) (e : EntryData) (renaming : R) → IsBook (shows store) accepted entries → IsLawfulOp e.op
    → shown shows store room entries ≡ book → HasRoom book → IsNextOf book e → IsPlanned plans renames book.held (table_of (ops_in book.entries)) e.op (RenameChange renaming)
    → ((from to : List ℕ) (table : Table) → renames store from to renaming → StandsFor (shows store) table → StandsFor (shows committed) (renamed from to table)) → new ≡ entries ++ e ∷ [] → IsBook (shows committed) accepted new
renamed_book {T} shows plans renames store committed accepted room entries book new e renaming b lawful view has next planned commit is =
    let back = sym view in
    let few = (subst HasRoom back has).few in
    let next_here = subst (λ (x : BookData T). IsNextOf x e) back next in
    let planned_here = subst (λ (x : BookData T). IsPlanned plans renames x.held (table_of (ops_in x.entries)) e.op (RenameChange renaming)) back planned in
    let table = table_of (ops_in entries) in
    let from = planned_here.0 in
    let to = planned_here.1 in
    let leaves : renamed from to table ≡ table_after table e.op = sym planned_here.3 in
    let stands : StandsFor (shows committed) (table_after table e.op) = subst (StandsFor (shows committed)) leaves (commit from to table planned_here.2 b.stands) in
    let number : accepted ≡ length (table_after table e.op) = b.number ∙ members_kept from to table ∙ ap length leaves in
    let fewer : accepted ≤ length entries + 1 = omega (arith, b.fewer) in
    let made = next_book (shows committed) accepted entries e.job e.op b.legal b.lawful lawful few stands number fewer in
    subst (IsBook (shows committed) accepted) (ap (λ (x : EntryData). entries ++ x ∷ []) (sym next_here) ∙ sym is) made

-- ---- the last totals

abbrev last_of : List Totals → Totals
last_of [] = no_totals
last_of (t ∷ []) = t
last_of (t ∷ next ∷ rest) = last_of (next ∷ rest)

last_in : (entries : List EntryData) → last_totals entries ≡ last_of (totals_in entries)
last_in [] = refl
last_in (e ∷ []) = refl
last_in (e ∷ next ∷ entries) = last_in (next ∷ entries)

last_from : (table : Table) (op : OpData) (ops : List OpData) → last_of (totals_from table (op ∷ ops)) ≡ totals_at (table_from table (op ∷ ops))
last_from table op [] = refl
last_from table op (next ∷ ops) = last_from (table_after table op) next ops

last_to : (ops : List OpData) → last_of (totals_to ops) ≡ totals_at (table_of ops)
last_to [] = refl
last_to (op ∷ ops) = last_from [] op ops

-- the totals of a legal history's table are those after its last entry
pub last_told : (entries : List EntryData) → IsLegal entries → totals_at (table_of (ops_in entries)) ≡ last_totals entries
last_told entries legal = sym (last_in entries ∙ ap last_of legal.totals ∙ last_to (ops_in entries))
