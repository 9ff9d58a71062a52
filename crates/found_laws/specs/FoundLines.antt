-- With how many lines a session begins at its sites that goes on from usable disks.
use Rattle.std.specs.Prelude.{ℕ, ◌+◌, ◌*◌, ◌≤◌, ◌<◌, ◌^◌, List, [], ◌∷◌, length}
use Rattle.mdb_base.specs.Words.{Each}
use Rattle.fed_rules.specs.declared.records.SiteRecord.{SiteRecord}
use Rattle.fed_rules.specs.Disk.{bytes_of}
use Rattle.fed_rules.specs.Found.{Found, Journal}
use Rattle.fed_rules.specs.SiteRecords.{site_payload}
use Rattle.fed_rules.specs.Story.{found_sites}
use Rattle.found_laws.specs.FoundSessions.{AreUsable}

-- the bytes of the payloads of all records of these journals: a frame of either version has more
abbrev pub all_payloads : List (Journal SiteRecord) → ℕ
all_payloads [] = 0
all_payloads (journal ∷ journals) = bytes_of site_payload journal.records + all_payloads journals

-- a session that goes on begins at its sites with one line for each of at most eight, and one for each attempt that a record names, which takes 5 bytes or
-- more of its payload
abbrev pub FoundLinesAreFew : Type 0
FoundLinesAreFew = (found : Found) → AreUsable found → 5 * length (found_sites found.sites) ≤ 40 + all_payloads found.sites

-- so with fewer than 2^27 lines where the payloads of no journal have more than 67,108,864 bytes
abbrev pub FoundLinesFit : Type 0
FoundLinesFit =
    (found : Found) → AreUsable found → Each (λ (journal : Journal SiteRecord). bytes_of site_payload journal.records ≤ 2 ^ 26) found.sites
    → length (found_sites found.sites) < 2 ^ 27
