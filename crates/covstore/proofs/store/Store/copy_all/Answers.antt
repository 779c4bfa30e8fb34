use Rattle.covstore.proofs.Words.{◌+◌, ℕ, List, drop, map, take, sym, ap, subst, drop_all, Copies, HasRoomToCopy}
use Rattle.covstore.proofs.AddsStore.{held_by_both}
use Rattle.covstore.proofs.RenamedTablesLoop.{HasCopied, copy_room, left_at, moving_ready, none_copied, one_file_copied, taken_at}
use Rattle.covstore.proofs.Settled.{file_name}
use Rattle.covstore.proofs.store.Store.copy_all.Goals as goal

pub loop-name-init : goal.loop-name-init
loop-name-init g c =
    let items = c.args.names.now in
    none_copied c.args.old.now c.args.new.now (map file_name items) c.args.self.now c.kept.result c.kept.ensures c.requires.still
    c.requires.names

pub copy_file-requires-clause-room : goal.copy_file-requires-clause-room
copy_file-requires-clause-room g c =
    let l = c.loop-name in
    let items = c.args.names.now in
    subst (λ (file : List ℕ). HasRoomToCopy file c.args.old.now l.self) (sym c.as_slice.ensures.value)
    (copy_room c.args.old.now c.args.new.now c.requires.apart (map file_name (take l.name-index items)) c.args.self.now l.self (file_name c.name-item.result) (map file_name (drop (l.name-index + 1) items))
    (subst (λ (more : List (List ℕ)). HasCopied c.args.old.now c.args.new.now (map file_name (take l.name-index items)) more c.args.self.now l.self)
    (left_at file_name items l.name-index c.name-item.result c.loop-name-test.true c.name-item.is) l.invariant))

pub returns-in_err-copy_file-clause-committed : goal.returns-in_err-copy_file-clause-committed
returns-in_err-copy_file-clause-committed g c = held_by_both c.args.self.now c.loop-name.self c.copy_file.new.self c.loop-name.invariant.committed c.copy_file.ensures.committed

pub loop-name-preserved : goal.loop-name-preserved
loop-name-preserved g c =
    let l = c.loop-name in
    let items = c.args.names.now in
    let rest = map file_name (drop (l.name-index + 1) items) in
    let copies = subst (λ (file : List ℕ). Copies file c.args.old.now c.args.new.now l.self.staged c.copy_file.new.self.staged) c.as_slice.ensures.value c.in_ok-copy_file.ensures.ok in
    subst (λ (some : List (List ℕ)). HasCopied c.args.old.now c.args.new.now some rest c.args.self.now c.copy_file.new.self)
    (sym (taken_at file_name items l.name-index c.name-item.result c.loop-name-test.true c.name-item.is))
    (one_file_copied c.args.old.now c.args.new.now c.requires.apart (map file_name (take l.name-index items)) c.args.self.now l.self (file_name c.name-item.result) rest
    (subst (λ (more : List (List ℕ)). HasCopied c.args.old.now c.args.new.now (map file_name (take l.name-index items)) more c.args.self.now l.self)
    (left_at file_name items l.name-index c.name-item.result c.loop-name-test.true c.name-item.is) l.invariant)
    c.copy_file.new.self c.copy_file.ensures.committed copies)

pub returns-clause-committed : goal.returns-clause-committed
returns-clause-committed g c = c.loop-name.invariant.committed

pub returns-clause-ok : goal.returns-clause-ok
returns-clause-ok g c =
    let l = c.loop-name in
    let items = c.args.names.now in
    moving_ready c.args.old.now c.args.new.now c.requires.apart (map file_name (take l.name-index items)) c.args.self.now l.self
    (subst (λ (more : List (List ℕ)). HasCopied c.args.old.now c.args.new.now (map file_name (take l.name-index items)) more c.args.self.now l.self)
    (ap (map file_name) (drop_all l.name-index items c.loop-name-test.false)) l.invariant)
