use Rattle.covstore.proofs.Words.{refl, subst, File, IsWithoutTest, file_committed, IsSettledBut}
use Rattle.covstore.proofs.all_files.fn.drop_from_files.retain.Goals as goal

pub returns : goal.returns
returns g c = record {
  stays = refl;
  committed = subst (λ (file : File g.row.A.Denot). IsWithoutTest c.captures.test.now (file_committed file) (file_committed c.drop_test.new.self)) c.get_mut.ensures.value c.drop_test.ensures.committed;
  settled = λ tests. subst (λ (file : File g.row.A.Denot). IsSettledBut tests file → IsSettledBut tests c.drop_test.new.self) c.get_mut.ensures.value (c.drop_test.ensures.settled tests);
}
