-- How the opening of the nine disks of a store ends.
use Rattle.std.specs.Prelude.{ℕ, ◌≡◌, ◌<◌, Bool, IsTrue, Some, List, [], ◌∷◌, length, slice_get}
use Rattle.mdb_base.specs.Counts.{HasRisen}
use Rattle.order_laws.specs.Chains.{In}
use Rattle.journal_disk.specs.Disk.{Seen, synced_bytes}
use Rattle.file_disks.specs.Stores.{IsLarge, IsNotLarge, journal_of}
use Rattle.mdb_top.specs.Streams.{Gets, Stream}
use Rattle.outputs.specs.Texts.{disk_failed_text}
use Rattle.mdb_top.specs.Texts.{disk_large_text, no_memory_text}

-- what is seen of a store over a call: whether it tells its journals; these before the call; and its count of
-- faults before the call and behind it
pub record StoreSeen : Type 0 where
  pub tells : Bool
  pub journals : List (List ℕ)
  pub faults_before : ℕ
  pub faults_after : ℕ

abbrev pub store_seen : Bool → (journals : List (List ℕ)) → (faults_before faults_after : ℕ) → StoreSeen
store_seen tells journals faults_before faults_after =
    record { tells = tells; journals = journals; faults_before = faults_before; faults_after = faults_after }

-- a disk that was opened has the bytes of its journal, where these are told; all of them are synced; and it isn't
-- large
pub record IsOpened (tells : Bool) (journals : List (List ℕ)) (number : ℕ) (disk : Seen) : Type 0 where
  pub journal : IsTrue tells → disk.image ≡ synced_bytes (journal_of number journals)
  pub synced : disk.image.synced ≡ length disk.image.bytes
  pub not_large : IsNotLarge disk.size

-- the disks of the first actors were opened, in their order
abbrev pub Opens : Bool → List (List ℕ) → List Seen → Type 0
Opens tells journals opened = (number : ℕ) (disk : Seen) → slice_get opened number ≡ Some disk → IsOpened tells journals number disk

-- the disks of the first actors are opened, as many as the next one's number, and no opening has failed
pub record HasOpened (store : StoreSeen) (opened : List Seen) (next : ℕ) : Type 0 where
  pub count : length opened ≡ next
  pub opens : Opens store.tells store.journals opened
  pub calm : store.faults_after ≡ store.faults_before

-- all nine disks are opened, no opening has failed, and the fact holds of what they hold then. There are nine still,
-- and where nothing is carried out they hold that still
pub record SomeOpened (status : ℕ) (store : StoreSeen) (now : List Seen) (P : List Seen → Type 0) : Type 0 where
  pub opened : List Seen
  pub nine : length opened ≡ 9
  pub opens : Opens store.tells store.journals opened
  pub calm : store.faults_after ≡ store.faults_before
  pub holds : P opened
  pub still_nine : length now ≡ 9
  pub untouched : In status (2 ∷ 3 ∷ 7 ∷ 8 ∷ []) → now ≡ opened

-- the disks before one were opened, and that one wasn't: the status and the text say which, and why. Where the store
-- tells its journals, a large one is named as that, and never as one that failed
pub record StopsAtOne (status : ℕ) (store : StoreSeen) (sink : Stream) (opened : List Seen) : Type 0 where
  pub few : length opened < 9
  pub opens : Opens store.tells store.journals opened
  pub led : In status (5 ∷ 6 ∷ 12 ∷ [])
  pub failed : status ≡ 5 → Gets sink (disk_failed_text (length opened))
  pub rose : status ≡ 5 → HasRisen store.faults_before store.faults_after
  pub not_large : status ≡ 5 → IsTrue store.tells → IsLarge (journal_of (length opened) store.journals) → ⊥
  pub large : status ≡ 12 → Gets sink (disk_large_text (length opened))
  pub calm : status ≡ 12 → store.faults_after ≡ store.faults_before
  pub is_large : status ≡ 12 → IsTrue store.tells → IsLarge (journal_of (length opened) store.journals)
  pub no_memory : status ≡ 6 → Gets sink no_memory_text
