-- The lines of the sites that are found, by the first records of their journals.
use Rattle.std.proofs.Common.{◌≡◌, ◌+◌, ◌<◌, ℕ, Some, None, Option, List, [], ◌∷◌, ◌++◌, get_or, length, map, option_to_list, reverse, take, refl, sym, ◌∙◌, ap, subst}
use Rattle.std.proofs.lemmas.Option.{slice_get_read}
use Rattle.mdb_base.proofs.ForCallers.{found_next}
use Rattle.mdb_base.specs.Words.{map_some, with_some}
use Rattle.fed_rules.specs.declared.records.SiteRecord.{SiteRecord}
use Rattle.fed_rules.specs.declared.scenario.SiteLine.{SiteLine}
use Rattle.fed_rules.specs.Found.{Journal}
use Rattle.fed_rules.specs.Plans.{AreSites}
use Rattle.fed_rules.specs.Reopened.{first_of, home_by}
use Rattle.fed_rules.specs.Resumed.{homes, plan_of, site_line_by}
use Rattle.fed_rules.specs.SiteRecords.{Home}
use Rattle.fed_rules.specs.Story.{home_found}
use Rattle.journal_disk.specs.Disk.{Image}
use Rattle.frame_journal.specs.Journal.{Kept, records}
use Rattle.site_journal.specs.Spelling as Sites
use Rattle.found_laws.specs.FoundSessions.{AreUsable}
use Rattle.found_laws.proofs.ForCallers.{plan_sites}
use Rattle.found_disks.specs.declared.reading.Journals.{Journals}
use Rattle.found_disks.specs.Finding.{found_in, journal_on, sites_from, unless_empty}
use Rattle.found_disks.proofs.ForCallers.{first_reversed}
use Rattle.world_recovery.specs.Reopening.{line_by, lines_by}

-- they are those of the session's scenario
pub lines_are : (number : ℕ) (images : List Image) (journals : List (Kept SiteRecord)) → lines_by journals ≡ map site_line_by (homes (sites_from number images journals))
lines_are number images [] = refl
lines_are number images (kept ∷ more) = by_records (records kept) (journal_on Sites.spelling images number kept) refl (lines_are (number + 1) images more)
  where
    by_records : (rs : List SiteRecord) (journal : Journal SiteRecord) → journal.records ≡ reverse rs → lines_by more ≡ map site_line_by (homes (sites_from (number + 1) images more))
        → with_some (line_by rs) (lines_by more) ≡ map site_line_by (homes (unless_empty rs journal ++ sites_from (number + 1) images more))
    by_records [] journal is rest = rest
    by_records (first ∷ newer) journal is rest =
        by_home (home_by first) (home_found (first_of journal.records)) (ap (λ (rs : List SiteRecord). home_found (first_of rs)) is ∙ ap home_found (first_reversed first newer))
      where
        by_home : (o got : Option Home) → got ≡ o
            → with_some (map_some site_line_by o) (lines_by more) ≡ map site_line_by (with_some got (homes (sites_from (number + 1) images more)))
        by_home None got e = rest ∙ ap (λ (z : Option Home). map site_line_by (with_some z (homes (sites_from (number + 1) images more)))) (sym e)
        by_home (Some home) got e =
            ap (λ (lines : List SiteLine). site_line_by home ∷ lines) rest ∙ ap (λ (z : Option Home). map site_line_by (with_some z (homes (sites_from (number + 1) images more)))) (sym e)

-- the line of one more journal stands behind those before it
pub next_line : (journals : List (Kept SiteRecord)) (n : ℕ) (one : Kept SiteRecord) (line : Option SiteLine) → n < length journals → one ≡ get_or journals n one → line ≡ line_by (records one)
    → lines_by (take (n + 1) journals) ≡ lines_by (take n journals) ++ option_to_list line
next_line journals n one line less is own =
    found_next (λ (journal : Kept SiteRecord). line_by (records journal)) journals n one (slice_get_read journals (length journals) n one refl less is)
    ∙ ap (λ (o : Option SiteLine). lines_by (take n journals) ++ option_to_list o) (sym own)

pub sites_are : (images : List Image) (journals : Journals) (lines : List SiteLine) → lines ≡ lines_by journals.sites.items → lines ≡ (plan_of (found_in images journals)).sites
sites_are images journals lines is = is ∙ lines_are 1 images journals.sites.items

-- where it is usable, each is in its range, and once
pub lines_fit : (images : List Image) (journals : Journals) (lines : List SiteLine) → lines ≡ lines_by journals.sites.items → AreUsable (found_in images journals) → AreSites lines
lines_fit images journals lines is usable = subst (λ (ls : List SiteLine). AreSites ls) (sym (sites_are images journals lines is)) (plan_sites (found_in images journals) usable)
