use Rattle.covstore.proofs.Words.{rules, sym, subst, File, file_committed, IsConsistentFile}
use Rattle.covstore.proofs.DropsMaps.{All-between, IsWritten, written_committed, written_settled}
use Rattle.covstore.proofs.DropsRetain.{AreWritten, all_written}
use Rattle.covstore.proofs.all_files.drop_from_files.Goals as goal

pub retain-requires : goal.retain-requires
retain-requires g c = record {
  at = λ before after f k v is folds p q same value.
      let whole = All-between (λ (pair : g.row.K.Denot × File g.row.A.Denot). IsConsistentFile (file_committed pair.1)) before (k, v) after c.args.files.now.entries c.requires is in
      let here = subst (λ (file : File g.row.A.Denot). IsConsistentFile (file_committed file)) (sym value) whole in
      search (rules, here);
}

written : (g : _) (c : goal.After-retain g) → AreWritten (IsWritten c.args.test.now) c.args.files.now.entries c.retain.new.self.entries
written g c =
    let test = c.args.test.now in
    all_written _ (λ (v : File g.row.A.Denot). IsConsistentFile (file_committed v)) (IsWritten test) _
    (λ k v b w f whole t. (
      search rules,
      subst (λ (x : File g.row.A.Denot). IsWritten test x w) t.shows.1 (subst (λ (y : File g.row.A.Denot). IsWritten test t.value.now y) t.leaves (search rules)),
      search rules,
    ))
    c.args.files.now.entries c.retain.new.self.entries c.requires c.retain.ensures.filtered

pub returns-clause-committed : goal.returns-clause-committed
returns-clause-committed g c = λ name. written_committed name c.args.test.now c.args.files.now.entries c.retain.new.self.entries (written g c)

pub returns-clause-settled : goal.returns-clause-settled
returns-clause-settled g c = λ name touched. written_settled name c.args.test.now touched c.args.files.now.entries c.retain.new.self.entries (written g c)
