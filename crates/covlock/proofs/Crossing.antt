-- Threads may share a book on the heap, and its seats and readers may go to other threads.
use denote.RattleType.{RattleType}
use denote.Param.Send.{IsSend, IsSync, sendable}
use Rattle.std.proofs.Crossing as heap
use Rattle.std.proofs.sync.ledger.Book.TheSendSync as count
use Rattle.std.proofs.sync.ledger.Share.TheSendSync as share
use Rattle.std.specs.contracts.alloc.Global as Heap
use Rattle.std.specs.contracts.impls.GlobalAllocator.TheImpl.{ghosts}
use Rattle.std.specs.declared.sync.ledger.Ledger as Ledger
use Rattle.covbook.proofs.book.Book.TheSendSync as book
use Rattle.covnews.proofs.live.Live.TheSendSync as live
use Rattle.covnews.proofs.news.News.TheSendSync as news
use Rattle.covnews.proofs.publisher.Publisher.TheSendSync as publisher
use Rattle.covnews.specs.contracts.live.Live as Live
use Rattle.covnews.specs.declared.name.Name as Name
use Rattle.covlock.specs.contracts.seat.Seat as Seat
use Rattle.covlock.specs.contracts.shared.Shared as Shared
use Rattle.covlock.specs.contracts.shared_state.SharedState as SharedState

state_send : (L T K Plan Renaming : RattleType) (n : Name.Ghosts L.Denot) (l : Ledger.Ghosts L.Denot) (t : _) (k : _) → IsSend T → IsSend K → IsSend (SharedState.the_row L Heap.the_row T K Plan Renaming n l ghosts t k)
state_send L T K Plan Renaming n l t k st sk = search (sendable, heap.crosses, book.the_send, publisher.the_send, count.the_send, share.the_send) depth 40 fits 20000

pub shared_sync : (L T K Plan Renaming : RattleType) (n : Name.Ghosts L.Denot) (l : Ledger.Ghosts L.Denot) (t : _) (k : _) → IsSend T → IsSend K → IsSync (Shared.the_row L Heap.the_row T K Plan Renaming n l ghosts t k)
shared_sync L T K Plan Renaming n l t k st sk = search (sendable, heap.crosses, state_send) depth 40 fits 20000

pub seat_send : (L : RattleType) (n : Name.Ghosts L.Denot) (l : Ledger.Ghosts L.Denot) → IsSend (Seat.the_row L Heap.the_row n l ghosts)
seat_send L n l = search (sendable, heap.crosses, news.the_send, share.the_send) depth 40 fits 20000

pub live_send : (L : RattleType) (n : Name.Ghosts L.Denot) (l : Ledger.Ghosts L.Denot) → IsSend (Live.the_row L Heap.the_row n l ghosts)
live_send L n l = search (sendable, heap.crosses, live.the_send) depth 40 fits 20000
