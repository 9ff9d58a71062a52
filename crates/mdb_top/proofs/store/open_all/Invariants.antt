use Rattle.std.proofs.Common.{◌≡◌, IsTrue, map}
use Rattle.mdb_top.specs.Opening.{HasOpened, store_seen}
use Rattle.mdb_top.proofs.store.open_all.Given as goal

abbrev pub invariant-loop-number : goal.invariant-loop-number
invariant-loop-number g l =
    let store = g.T.Store in
    HasOpened (store_seen store.tells (store.journals l.fn.store) (store.faults l.fn.store) (store.faults l.store)) (map g.D.Disk.seen l.disks.items) l.number
    × (IsTrue store.tells → store.journals l.store ≡ store.journals l.fn.store)
