-- What contracts see of a store in memory.
use Rattle.std.specs.Prelude.{ℕ, ◌≡◌, List, map}
use Rattle.journal_disk.specs.MemDisk.{mem_image, mem_failing}
use Rattle.file_disks.specs.Stores.{journal_of}
use Rattle.journal_disk.specs.declared.mem_disk.MemDisk.{MemDisk}
use Rattle.file_disks.specs.declared.mem_store.MemStore.{MemStore}

-- the bytes of a disk
abbrev pub bytes_of : MemDisk → List ℕ
bytes_of disk = (mem_image disk).bytes

-- the bytes of its nine journals
abbrev pub store_journals : MemStore → List (List ℕ)
store_journals store = map bytes_of store.disks.items

-- the calls that fail
abbrev pub store_failing : MemStore → List ℕ
store_failing store = store.failing.items

-- how many calls it has had
abbrev pub store_calls : MemStore → ℕ
store_calls store = store.calls

-- how many calls have failed
abbrev pub store_faults : MemStore → ℕ
store_faults store = store.faults

-- the calls of an actor's disk that fail
abbrev pub disk_failing : ℕ → MemStore → List ℕ
disk_failing number store = journal_of number (map mem_failing store.disks.items)

-- a store of these disks that had no call, and fails at these
pub record IsNewStore (store : MemStore) (disks : List MemDisk) (failing : List ℕ) : Type 0 where
  pub journals : store_journals store ≡ map bytes_of disks
  pub disks_failing : map mem_failing store.disks.items ≡ map mem_failing disks
  pub failing_calls : store_failing store ≡ failing
  pub calls : store_calls store ≡ 0
  pub faults : store_faults store ≡ 0
