-- A session that goes on from short disks begins with few lines at its sites: the payloads of a journal that is read have no more bytes than its disk.
use Rattle.std.proofs.Common.{◌≡◌, ℕ, ◌+◌, ◌≤◌, ◌^◌, List, [], ◌∷◌, ◌++◌, length, map, reverse, refl, ap, arith}
use Rattle.mdb_base.specs.Words.{Each}
use Rattle.mdb_base.proofs.ForCallers.{length-append, reverse_more}
use Rattle.fed_rules.specs.declared.records.SiteRecord.{SiteRecord}
use Rattle.fed_rules.specs.Disk.{bytes_of}
use Rattle.fed_rules.specs.Found.{Journal}
use Rattle.fed_rules.specs.SiteRecords.{site_payload}
use Rattle.journal_disk.specs.declared.frames.Version.{Version}
use Rattle.journal_disk.specs.declared.frames.Version.TheVariants.{First, Second}
use Rattle.journal_disk.specs.Disk.{Image}
use Rattle.journal_disk.specs.Frames.{frame_in, frame_size, frames}
use Rattle.frame_journal.specs.Journal.{Kept, records}
use Rattle.frame_journal.specs.Records.{Entry, entry_frame, spelled_size, values}
use Rattle.frame_journal.proofs.ForCallers.{length-frames, new_size, old_size}
use Rattle.site_journal.specs.PayloadSizes.{payload_has_size}
use Rattle.site_journal.specs.Spelling as Sites
use Rattle.found_laws.specs.FoundLines.{FoundLinesFit}
use Rattle.found_disks.specs.Finding.{found_in, journal_on, sites_from, unless_empty}
use Rattle.found_disks.specs.FoundLines.{AreShort, FoundSessionsBeginShortly}
use Rattle.found_disks.specs.Reading.{AreReadFrom, IsReadFrom}
use Rattle.found_disks.proofs.UsableFinds.{usable_found}

-- ---- one journal

entry_least : (entry : Entry SiteRecord) → site_payload entry.value ≤ frame_size (entry_frame Sites.spelling entry)
entry_least entry = by_version entry.version
  where
    by_version : (version : Version) → site_payload entry.value ≤ frame_size (frame_in version (Sites.spelling entry.value))
    by_version First = let all = old_size (Sites.spelling entry.value) in let own = payload_has_size entry.value in omega (arith, all, own)
    by_version Second = let all = new_size (Sites.spelling entry.value) in let own = payload_has_size entry.value in omega (arith, all, own)

entries_least : (entries : List (Entry SiteRecord)) → bytes_of site_payload (values entries) ≤ spelled_size (entry_frame Sites.spelling) entries
entries_least [] = omega arith
entries_least (entry ∷ entries) = let own = entry_least entry in let rest = entries_least entries in omega (arith, own, rest)

one_behind : (entries : List SiteRecord) (entry : SiteRecord) → bytes_of site_payload (entries ++ entry ∷ []) ≡ bytes_of site_payload entries + site_payload entry
one_behind [] entry = omega arith
one_behind (first ∷ entries) entry = let rest = one_behind entries entry in omega (arith, rest)

reversed : (entries : List SiteRecord) → bytes_of site_payload (reverse entries) ≡ bytes_of site_payload entries
reversed [] = refl
reversed (entry ∷ entries) =
    let both = ap (bytes_of site_payload) (reverse_more entry entries) in
    let last = one_behind (reverse entries) entry in
    let rest = reversed entries in omega (arith, both, last, rest)

disk_least : (bytes : List ℕ) (kept : Kept SiteRecord) → IsReadFrom Sites.spelling Sites.IsRecord kept bytes → bytes_of site_payload (reverse (records kept)) ≤ length bytes
disk_least bytes kept read =
    let shapes = map (entry_frame Sites.spelling) kept.entries in
    let all = ap length read.whole.parts in
    let both = length-append (frames shapes) read.whole.rest in
    let sizes = length-frames shapes in
    let least = entries_least kept.entries in
    let same = reversed (records kept) in omega (arith, all, both, sizes, least, same)

-- ---- all of them

module _ (images : List Image) (most : ℕ) (short : AreShort most images) where
  listed_short : (entries : List SiteRecord) (journal : Journal SiteRecord) → bytes_of site_payload journal.records ≤ most
      → (more : List (Journal SiteRecord)) → Each (λ (other : Journal SiteRecord). bytes_of site_payload other.records ≤ most) more
      → Each (λ (other : Journal SiteRecord). bytes_of site_payload other.records ≤ most) (unless_empty entries journal ++ more)
  listed_short [] journal own more rest = rest
  listed_short (first ∷ newer) journal own more rest = (own, rest)

  sites_short : (number : ℕ) (kept : List (Kept SiteRecord)) → AreReadFrom number images kept
      → Each (λ (journal : Journal SiteRecord). bytes_of site_payload journal.records ≤ most) (sites_from number images kept)
  sites_short number [] read = tt
  sites_short number (journal ∷ more) read =
      let here = read.0 in
      let least = disk_least here.image.bytes journal here.holds in
      let bound = short number here.image here.own in
      listed_short (records journal) (journal_on Sites.spelling images number journal) (omega (arith, least, bound)) (sites_from (number + 1) images more)
      (sites_short (number + 1) more read.1)

pub found_short : FoundLinesFit → FoundSessionsBeginShortly
found_short fits images journals read named short =
    fits (found_in images journals) (usable_found images journals read named) (sites_short images (2 ^ 26) short 1 journals.sites.items read.sites)
