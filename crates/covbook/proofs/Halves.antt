-- What the first half of a step makes ready is what the second half requires.
use Rattle.std.proofs.Common.{◌≡◌, ℕ, Bool, true, List, length, sym, ap, ◌∙◌, subst}
use Rattle.covdata.specs.Row.{SubmissionData}
use Rattle.covtable.specs.declared.totals.Totals.{Totals}
use Rattle.covtable.specs.Renamed.{renamed}
use Rattle.covtable.specs.Shown.{ShownData}
use Rattle.covtable.specs.Table.{Table}
use Rattle.covtable.specs.Totals.{totals_of}
use Rattle.covtable.specs.Without.{sections_of_test, without_test}
use Rattle.covbook.specs.Held.{BookData, SameBook, IsBook}
use Rattle.covbook.specs.Op.{OpData, DropTestOp, RenameOp, AnswerData, DroppedAnswer, RenamedAnswer, EntryData}
use Rattle.covbook.specs.Ready.{ReadyData, ChangeData, RenameChange, HasRoom, IsNextOf, IsPlanned, IsAfter, IsReadyFor}
use Rattle.covbook.specs.Step.{answer_of, answer_to_drop, answer_to_rename, has_test, table_after, table_after_drop, table_after_rename, table_of, totals_at, ops_in, next_entry}
use Rattle.covbook.proofs.Runs.{shown}

-- a step is ready for the book if its entry comes next and its change of the store is planned
pub ready_for : {T P R : Type 0} (plans : T → SubmissionData → P → Type 0) (renames : T → List ℕ → List ℕ → R → Type 0) (book : BookData T) (e : EntryData) (place : ℕ) (done : ChangeData P R) (made : ReadyData P R) → HasRoom book → IsNextOf book e
    → IsPlanned plans renames book.held (table_of (ops_in book.entries)) e.op done → place ≡ length book.entries
    → made.place ≡ place → made.entry ≡ e → made.change ≡ done → made.after ≡ e.after → IsReadyFor plans renames book e.job e.op made
ready_for plans renames book e place done made room next planned at is_place is_entry is_done is_after =
    let table = table_of (ops_in book.entries) in
    let entry_here = sym is_entry in
    let told : e.after ≡ totals_at (table_after table e.op) = ap (λ (x : EntryData). x.after) next in
    record {
      ready = record {
        room = room;
        next = subst (IsNextOf book) entry_here next;
        place = is_place ∙ at;
        planned = subst (λ (x : EntryData). IsPlanned plans renames book.held table x.op made.change) entry_here (subst (IsPlanned plans renames book.held table e.op) (sym is_done) planned);
        after = is_after ∙ told ∙ ap (λ (x : EntryData). totals_at (table_after table x.op)) entry_here;
      };
      job = ap (λ (x : EntryData). x.job) is_entry;
      op = ap (λ (x : EntryData). x.op) is_entry;
    }

-- the totals of a store are those after an operation that leaves the table as it is
pub still_after : {T : Type 0} (shows : T → ShownData) (store : T) (accepted room : ℕ) (entries : List EntryData) (book : BookData T) (op : OpData) (totals : Totals) → IsBook (shows store) accepted entries → shown shows store room entries ≡ book
    → totals ≡ totals_of (shows store).sections → table_after (table_of (ops_in book.entries)) op ≡ table_of (ops_in book.entries) → IsAfter book op totals
still_after {T} shows store accepted room entries book op totals b view is still =
    is ∙ ap totals_of b.stands.content ∙ ap (λ (x : BookData T). totals_at (table_of (ops_in x.entries))) view
    ∙ ap totals_at (sym still)

-- the totals after a step that is made ready are also those after its operation in the book as it was before
pub told_after : {T P R : Type 0} (plans : T → SubmissionData → P → Type 0) (renames : T → List ℕ → List ℕ → R → Type 0) (before book : BookData T) (asker : ℕ) (asked : OpData) (made : ReadyData P R) → SameBook before book → IsReadyFor plans renames book asker asked made → IsAfter before asked made.after
told_after plans renames before book asker asked made same r =
    r.ready.after ∙ ap (λ (es : List EntryData). totals_at (table_after (table_of (ops_in es)) made.entry.op)) same.entries
    ∙ ap (λ (op : OpData). totals_at (table_after (table_of (ops_in before.entries)) op)) r.op

-- an entry with the right answer, and with the right totals after it, is the next one
pub next_with : (entries : List EntryData) (job : ℕ) (op : OpData) (answer : AnswerData) (after : Totals) → answer ≡ answer_of (table_of (ops_in entries)) op
    → after ≡ totals_at (table_after (table_of (ops_in entries)) op) → record { job = job; op = op; answer = answer; after = after } ≡ next_entry entries job op
next_with entries job op answer after said told =
    let entry : AnswerData → Totals → EntryData = λ a t. record { job = job; op = op; answer = a; after = t } in
    ap (λ (a : AnswerData). entry a after) said ∙ ap (entry (answer_of (table_of (ops_in entries)) op)) told

-- the next entry, if a test that has a row is dropped
pub dropped_next : (entries : List EntryData) (job : ℕ) (test : List ℕ) (answer : AnswerData) (after : Totals) → has_test (table_of (ops_in entries)) test ≡ true
    → answer ≡ DroppedAnswer (sections_of_test test (table_of (ops_in entries))) → after ≡ totals_at (without_test test (table_of (ops_in entries)))
    → record { job = job; op = DropTestOp test; answer = answer; after = after } ≡ next_entry entries job (DropTestOp test)
dropped_next entries job test answer after there said told =
    let table = table_of (ops_in entries) in
    next_with entries job (DropTestOp test) answer after
    (said ∙ ap (answer_to_drop table test) (sym there))
    (told ∙ ap (λ (b : Bool). totals_at (table_after_drop table test b)) (sym there))

-- the next entry, if a test that has a row is renamed
pub renamed_next : (entries : List EntryData) (job : ℕ) (old new : List ℕ) (answer : AnswerData) (after : Totals) → has_test (table_of (ops_in entries)) old ≡ true
    → answer ≡ RenamedAnswer (sections_of_test old (table_of (ops_in entries))) → after ≡ totals_at (renamed old new (table_of (ops_in entries)))
    → record { job = job; op = RenameOp old new; answer = answer; after = after } ≡ next_entry entries job (RenameOp old new)
renamed_next entries job old new answer after there said told =
    let table = table_of (ops_in entries) in
    next_with entries job (RenameOp old new) answer after
    (said ∙ ap (answer_to_rename table old) (sym there))
    (told ∙ ap (λ (b : Bool). totals_at (table_after_rename table old new b)) (sym there))

-- the table has a test of the rename's old name, and the rename's own two names equal the given ones. Then the renaming of the
-- store by the given names is the change that is planned for the rename
pub renaming_planned : {T P R : Type 0} (plans : T → SubmissionData → P → Type 0) (renames : T → List ℕ → List ℕ → R → Type 0) (store : T) (table : Table) (old new own_old own_new : List ℕ) (renaming : R) → has_test table own_old ≡ true → own_old ≡ old → own_new ≡ new
    → renames store old new renaming → IsPlanned plans renames store table (RenameOp own_old own_new) (RenameChange renaming)
renaming_planned plans renames store table old new own_old own_new renaming there same_old same_new is = (
  old,
  new,
  is,
  ap (table_after_rename table own_old own_new) there
      ∙ ap (λ (t : List ℕ). renamed t own_new table) same_old
      ∙ ap (λ (t : List ℕ). renamed old t table) same_new,
)

-- if the entries' table has a test of the given name, the book's table has one by the step's own copy of that name
pub row_there : {T : Type 0} (shows : T → ShownData) (store : T) (room : ℕ) (entries : List EntryData) (book : BookData T) (own given : List ℕ) → shown shows store room entries ≡ book → own ≡ given
    → true ≡ has_test (table_of (ops_in entries)) given → has_test (table_of (ops_in book.entries)) own ≡ true
row_there {T} shows store room entries book own given view is found =
    ap (λ (b : BookData T). has_test (table_of (ops_in b.entries)) own) (sym view) ∙ ap (has_test (table_of (ops_in entries))) is ∙ sym found
