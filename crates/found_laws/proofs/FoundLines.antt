-- How many lines a session begins with at its sites that goes on from usable disks: one for each site, and one for each attempt that a record names.
use Rattle.std.proofs.Common.{ℕ, ◌+◌, ◌*◌, ◌≤◌, ◌^◌, Option, Some, None, List, [], ◌∷◌, ◌++◌, length, map, arith}
use Rattle.mdb_base.specs.declared.names.Tid.{Tid}
use Rattle.mdb_base.specs.Words.{Each}
use Rattle.mdb_base.proofs.ForCallers.{length-append, length-map}
use Rattle.fed_rules.specs.declared.records.SiteRecord.{SiteRecord}
use Rattle.fed_rules.specs.declared.records.SiteRecord.TheVariants.{Setup, Start, Prepared, Ended, Local, Checkpoint}
use Rattle.fed_rules.specs.declared.sums.DoubtfulSum.{DoubtfulSum}
use Rattle.fed_rules.specs.Disk.{bytes_of}
use Rattle.fed_rules.specs.Found.{Journal}
use Rattle.fed_rules.specs.Reopened.{all_named, first_of, opened_site, owner_named, site_names, was_global, was_local}
use Rattle.fed_rules.specs.SitePast.{SiteHappening}
use Rattle.fed_rules.specs.SiteRecords.{Held, Home, doubtful_size, owner_size, site_payload}
use Rattle.fed_rules.specs.Story.{AtSite, Story, Told, found_site, found_sites, home_found, untold}
use Rattle.found_laws.specs.FoundLines.{FoundLinesAreFew, FoundLinesFit, all_payloads}
use Rattle.found_laws.specs.FoundSessions.{AreOfDisks}

-- each attempt that a record names takes 5 bytes or more of its payload
doubtful_many : (helds : List DoubtfulSum) → 5 * length helds ≤ doubtful_size helds
doubtful_many [] = omega arith
doubtful_many (held ∷ helds) = let rest = doubtful_many helds in omega (arith, rest)

owner_many : (o : Option Tid) → 5 * length (owner_named o) ≤ owner_size o
owner_many None = omega arith
owner_many (Some tid) = omega arith

names_many : (r : SiteRecord) → 5 * length (site_names r) ≤ site_payload r
names_many (Setup site engine protocol items) = omega arith
names_many (Start epoch) = omega arith
names_many (Prepared tid epoch number ticket writes) = omega arith
names_many (Ended tid decision) = omega arith
names_many (Local tid number writes) = omega arith
names_many (Checkpoint sum) =
    let doubtful : List SiteHappening = map (λ (held : Held). was_global held.tid) sum.doubtful in
    let front = length-append doubtful (owner_named sum.owner) in
    let all = length-append (doubtful ++ owner_named sum.owner) (map was_local sum.locals) in
    let one = length-map (λ (held : Held). was_global held.tid) sum.doubtful in
    let two = length-map was_local sum.locals in
    let held = doubtful_many sum.doubtful in
    let owned = owner_many sum.owner in omega (arith, front, all, one, two, held, owned)

named_many : (rs : List SiteRecord) → 5 * length (all_named rs) ≤ bytes_of site_payload rs
named_many [] = omega arith
named_many (newest ∷ older) =
    let both = length-append (site_names newest) (all_named older) in
    let own = names_many newest in
    let rest = named_many older in omega (arith, both, own, rest)

-- the lines of one journal, and of all
found_many : (o : Option Home) (journal : Journal SiteRecord) (story : Story) → 5 * length (found_site o journal story) ≤ 5 + bytes_of site_payload journal.records + 5 * length story
found_many None journal story = omega arith
found_many (Some home) journal story =
    let lines : List Told = map (λ x. untold (AtSite home.site x)) (opened_site journal) in
    let both = length-append lines story in
    let same = length-map (λ x. untold (AtSite home.site x)) (opened_site journal) in
    let own = named_many journal.records in omega (arith, both, same, own)

all_many : (journals : List (Journal SiteRecord)) → 5 * length (found_sites journals) ≤ 5 * length journals + all_payloads journals
all_many [] = omega arith
all_many (journal ∷ journals) =
    let own = found_many (home_found (first_of journal.records)) journal (found_sites journals) in
    let rest = all_many journals in omega (arith, own, rest)

-- there are at most eight
eight_disks : (least : ℕ) (journals : List (Journal SiteRecord)) → least ≤ 8 → AreOfDisks least journals → least + length journals ≤ 8
eight_disks least [] few d = omega (arith, few)
eight_disks least (journal ∷ journals) few (number, less, most, usable, d) = let rest = eight_disks number journals most d in omega (arith, less, rest)

bytes_few : (journals : List (Journal SiteRecord)) → Each (λ (journal : Journal SiteRecord). bytes_of site_payload journal.records ≤ 2 ^ 26) journals
    → all_payloads journals ≤ 2 ^ 26 * length journals
bytes_few [] h = omega arith
bytes_few (journal ∷ journals) h = let own = h.0 in let rest = bytes_few journals h.1 in omega (arith, own, rest)

pub lines_are_few : FoundLinesAreFew
lines_are_few found usable =
    let all = all_many found.sites in
    let eight = eight_disks 0 found.sites (omega arith) usable.sites in omega (arith, all, eight)

pub lines_fit : FoundLinesFit
lines_fit found usable each =
    let all = all_many found.sites in
    let bytes = bytes_few found.sites each in
    let eight = eight_disks 0 found.sites (omega arith) usable.sites in omega (arith, all, bytes, eight)
