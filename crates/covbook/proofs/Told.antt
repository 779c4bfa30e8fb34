-- The texts that a book prints are those of the table that its store represents.
use Rattle.std.proofs.Common.{◌≡◌, ℕ, List, Result, Ok, Err, IfOk, OnErr, sym, ap, subst, ◌∙◌}
use Rattle.covtable.specs.declared.totals.Totals.{Totals}
use Rattle.covtable.specs.Content.{SectionData, content_at}
use Rattle.covtable.specs.Shown.{ShownData, StandsFor}
use Rattle.covtable.specs.Table.{Table}
use Rattle.covtable.specs.Totals.{totals_of}
use Rattle.covreport.specs.Choice.{ChoiceData}
use Rattle.covreport.specs.Report.{report_text}
use Rattle.covreport.specs.Summary.{summary_of}
use Rattle.covbook.specs.Held.{BookData}
use Rattle.covbook.specs.Op.{OpData, TextAnswer, EntryData}
use Rattle.covbook.specs.Step.{answer_of, table_of, ops_in}

pub report_is : (choice : ChoiceData) (store : ShownData) (table : Table) → StandsFor store table → TextAnswer (report_text choice store.sections) ≡ TextAnswer (report_text choice (content_at table))
report_is choice store table stands = ap (λ (sections : List SectionData). TextAnswer (report_text choice sections)) stands.content

pub summary_is : (totals : Totals) (store : ShownData) (table : Table) → totals ≡ totals_of store.sections → StandsFor store table → TextAnswer (summary_of totals) ≡ TextAnswer (summary_of (totals_of (content_at table)))
summary_is totals store table is stands = ap (λ (t : Totals). TextAnswer (summary_of t)) (is ∙ ap totals_of stands.content)

-- a text that is the answer to an operation after some entries is the answer to an equal operation of a book with these entries
pub told : {E T : Type 0} (result : Result (List ℕ) E) (text : List ℕ) (entries : List EntryData) (book : BookData T) (own op : OpData) → entries ≡ book.entries → op ≡ own
    → TextAnswer text ≡ answer_of (table_of (ops_in entries)) own → IfOk result (λ t. t ≡ text) → IfOk result (λ t. TextAnswer t ≡ answer_of (table_of (ops_in book.entries)) op)
told (Ok t) text entries book own op view equal is said =
    ap TextAnswer said ∙ is ∙ ap (λ (es : List EntryData). answer_of (table_of (ops_in es)) own) view ∙ ap (answer_of (table_of (ops_in book.entries))) (sym equal)
told (Err refused) text entries book own op view equal is said = tt

-- a text that is refused for what an operation and a store are is refused for an equal operation of a book with this store
pub refused : {E T V : Type 0} (MayFail : OpData → List SectionData → Type 0) (result : Result V E) (book : BookData T) (store : ShownData) (own op : OpData) → store ≡ book.store → op ≡ own
    → OnErr result (MayFail own store.sections) → OnErr result (MayFail op book.store.sections)
refused MayFail (Ok t) book store own op view equal may = tt
refused MayFail (Err e) book store own op view equal may =
    subst (λ (o : OpData). MayFail o book.store.sections) (sym equal) (subst (λ (s : ShownData). MayFail own s.sections) view may)

-- what may always fail
pub always : {E V : Type 0} (result : Result V E) → OnErr result (Unit {0})
always (Ok t) = tt
always (Err e) = tt
