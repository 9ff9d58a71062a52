-- The journals that are read from the disks that a session left.
use Rattle.std.proofs.Common.{◌≡◌, ◌⊎◌, ℕ, zero, suc, ◌+◌, ◌<◌, ◌≤◌, Option, Some, None, List, [], ◌∷◌, ◌++◌, inl, inr, length, reverse, refl, sym, ◌∙◌, ap, ap₂, subst, arith}
use Rattle.std.specs.Prelude.{slice_get}
use Rattle.mdb_base.specs.declared.names.SiteId.{SiteId}
use Rattle.mdb_base.specs.Words.{Among, with_some}
use Rattle.mdb_base.proofs.ForCallers.{each_map, made_of}
use Rattle.order_laws.proofs.ForCallers.{among_weaker}
use Rattle.presumptions.specs.declared.Participant.{Participant}
use Rattle.fed_rules.specs.declared.commands.Command.{Command}
use Rattle.fed_rules.specs.declared.records.CoordRecord.{CoordRecord}
use Rattle.fed_rules.specs.declared.records.SiteRecord.{SiteRecord}
use Rattle.fed_rules.specs.declared.scenario.Scenario.{Scenario}
use Rattle.fed_rules.specs.CoordPast as Coordinator
use Rattle.fed_rules.specs.CoordRecords.{coord_frame}
use Rattle.fed_rules.specs.Found.{Found, Journal}
use Rattle.fed_rules.specs.Resumed as Rules
use Rattle.fed_rules.specs.Resumed.{left_at, left_by}
use Rattle.fed_rules.specs.Scenarios.{home_of, policy, protocols}
use Rattle.fed_rules.specs.SitePast as Site
use Rattle.fed_rules.specs.SitePast.{SitePast}
use Rattle.fed_rules.specs.SiteRecords.{Home, site_frame}
use Rattle.fed_rules.specs.Story.{Story, coord_past, past_of, story_of}
use Rattle.fed_rules.specs.Usable.{IsUsableSite}
use Rattle.commit_laws.proofs.ForCallers.{home-again, is-declared, its-site, members_rise, story_made}
use Rattle.site_history.proofs.ForCallers.{of_events}
use Rattle.disk_laws.proofs.ForCallers.{usable_sites}
use Rattle.found_laws.proofs.ForCallers.{IsInRange, members_range}
use Rattle.journal_disk.specs.Disk.{Image, Seen}
use Rattle.frame_journal.specs.Journal.{Kept, records}
use Rattle.coord_journal.specs.Exact as coord_exact
use Rattle.coord_journal.specs.Frames as coord_frames
use Rattle.coord_journal.specs.Spelling as Coordinators
use Rattle.site_journal.specs.Exact as site_exact
use Rattle.site_journal.specs.Frames as site_frames
use Rattle.site_journal.specs.Spelling as Sites
use Rattle.found_disks.specs.declared.reading.Journals.{Journals}
use Rattle.found_disks.specs.Finding.{found_in, journal_on, unless_empty}
use Rattle.found_disks.specs.Reading.{AreRead, AreReadFrom, IsReadAt, IsReadFirst, images_of}
use Rattle.held_disks.specs.Holding.{Holds, HoldsAt}
use Rattle.left_disks.specs.Left.{IsLeft}
use Rattle.left_disks.proofs.FoundSites.{AreFoundFrom, IsFoundAt, sites_are}
use Rattle.left_disks.proofs.OneDisk.{IsTrimmedWell, journal_is, none_read}
use Rattle.left_disks.proofs.Trims.{coordinator_trims, sites_trim}

-- a site that is declared by the numbers 1 to 8
pub few_sites : (m : Participant) → IsInRange m → (1 ≤ m.site.0) × (m.site.0 < 9)
few_sites m range = grind (arith, range)

module _ (disks : List Seen) (scenario : Scenario) (commands : List Command) (l : IsLeft disks scenario commands) where
  abbrev story : Story
  story = story_of scenario commands

  abbrev images : List Image
  images = images_of disks

  pub holds : (number : ℕ) (image : Image) → slice_get images number ≡ Some image → Holds image scenario story number
  holds number image at =
      let (disk, own, same) = made_of (λ (disk : Seen). disk.image) disks number image at in
      subst (λ (i : Image). Holds i scenario story number) same (l.holds number disk own)

  -- ---- the coordinator's disk

  pub coordinator_is : (kept : Kept CoordRecord) → IsReadFirst images kept → journal_on Coordinators.spelling images 0 kept ≡ Rules.journal_on coord_frame (Coordinator.disk (coord_past story))
  coordinator_is kept read =
      journal_is Coordinators.spelling Coordinators.reading Coordinators.IsRecord coord_frame coord_frames.frame_has_size coord_exact.spelled_is_read
      read.image (Coordinator.disk (coord_past story)) (holds 0 read.image read.own) kept read.holds
      (coordinator_trims (protocols scenario) (policy scenario) (coord_past story) (story_made scenario commands)) images 0 read.own

  -- ---- a site's disk

  -- of the site of this number a journal is read with a first record where it is declared, and else none
  pub data SiteRead (number : ℕ) (kept : Kept SiteRecord) : Type 0 where
    Undeclared : home_of scenario (record { 0 = number }) ≡ None → records kept ≡ [] → SiteRead number kept
    Declared : (home : Home) → home_of scenario (record { 0 = number }) ≡ Some home → journal_on Sites.spelling images number kept ≡ Rules.journal_on site_frame (Site.disk home (past_of home.site story))
        → IsUsableSite number (reverse (records kept)) → SiteRead number kept

  pub site_read : (number : ℕ) (kept : Kept SiteRecord) → 1 ≤ number → IsReadAt number images kept → SiteRead number kept
  site_read zero kept some read = absurd (omega (arith, some))
  site_read (suc n) kept some read = by_home (home_of scenario (record { 0 = suc n })) refl (holds (suc n) read.image read.own)
    where
      by_home : (o : Option Home) → home_of scenario (record { 0 = suc n }) ≡ o → HoldsAt read.image o story → SiteRead (suc n) kept
      by_home None e none = Undeclared e (none_read Sites.spelling Sites.reading Sites.IsRecord site_frame site_frames.frame_has_size site_exact.spelled_is_read read.image.bytes none kept read.holds)
      by_home (Some home) e held =
          let again = home-again scenario (record { 0 = suc n }) home e in
          let number : home.site.0 ≡ suc n = ap (λ (s : SiteId). s.0) (its-site scenario (record { 0 = suc n }) home e) in
          let is = journal_is Sites.spelling Sites.reading Sites.IsRecord site_frame site_frames.frame_has_size site_exact.spelled_is_read
          read.image (Site.disk home (past_of home.site story)) held kept read.holds
          (of_events (λ home past. IsTrimmedWell site_frame (Site.disk home past)) sites_trim scenario commands home.site home again) images (suc n) read.own in
          Declared home e is
          (subst (λ (rs : List SiteRecord). IsUsableSite (suc n) rs) (sym (ap (λ (j : Journal SiteRecord). j.records) is))
          (subst (λ k. IsUsableSite k (Site.journal home (past_of home.site story))) number (usable_sites scenario l.whole commands l.few home.site home again)))

  -- ---- all of them

  look : SiteId → Option (Journal SiteRecord)
  look site = left_at story (home_of scenario site)

  site_found : (number : ℕ) (kept : Kept SiteRecord) → SiteRead number kept → IsFoundAt look images number kept
  unfolding look
  site_found number kept (Undeclared none empty) others =
      ap (λ (rs : List SiteRecord). unless_empty rs (journal_on Sites.spelling images number kept) ++ others) empty ∙ sym (ap (λ o. with_some (left_at story o) others) none)
  site_found number kept (Declared home declared is usable) others =
      by_records (records kept) usable ∙ ap (λ j. j ∷ others) is ∙ sym (ap (λ o. with_some (left_at story o) others) declared)
    where
      by_records : (rs : List SiteRecord) → IsUsableSite number (reverse rs) → unless_empty rs (journal_on Sites.spelling images number kept) ++ others ≡ journal_on Sites.spelling images number kept ∷ others
      by_records [] u = absurd u.first
      by_records (first ∷ newer) u = refl

  sites_found : (number : ℕ) (journals : List (Kept SiteRecord)) → 1 ≤ number → AreReadFrom number images journals → AreFoundFrom look images number journals
  sites_found number [] some read = tt
  sites_found number (kept ∷ more) some read = (site_found number kept (site_read number kept some read.0), sites_found (number + 1) more (omega (arith, some)) read.1)

  is_among : (site : SiteId) → (look site ≡ None) ⊎ Among (λ (m : Participant). m.site ≡ site) (protocols scenario)
  unfolding look
  is_among site = by_home (home_of scenario site) refl
    where
      by_home : (o : Option Home) → home_of scenario site ≡ o → (left_at story (home_of scenario site) ≡ None) ⊎ Among (λ (m : Participant). m.site ≡ site) (protocols scenario)
      by_home None e = inl (ap (left_at story) e)
      by_home (Some home) e =
          inr (among_weaker (λ (m : Participant). (m.site ≡ site) × (m.protocol ≡ home.protocol)) (λ m. m.site ≡ site) (λ m both. both.0) (protocols scenario) (is-declared scenario site home e).0)

  pub left_is_found : (journals : Journals) → AreRead images journals → found_in images journals ≡ left_by scenario story
  unfolding look
  left_is_found journals read =
      let range = each_map IsInRange (λ m. (1 ≤ m.site.0) × (m.site.0 < 9)) few_sites (protocols scenario) (members_range scenario.sites l.whole.sites.range) in
      let all = read.all in
      ap₂ (λ (c : Journal CoordRecord) (js : List (Journal SiteRecord)). let f : Found = record { coordinator = Some c; sites = js } in f)
      (coordinator_is journals.coordinator read.coordinator)
      (sites_are look images 1 journals.sites.items (protocols scenario) (sites_found 1 journals.sites.items (omega arith) read.sites) (members_rise scenario l.whole)
      (each_map (λ (m : Participant). (1 ≤ m.site.0) × (m.site.0 < 9)) (λ m. 1 ≤ m.site.0) (λ m both. both.0) (protocols scenario) range)
      (each_map (λ (m : Participant). (1 ≤ m.site.0) × (m.site.0 < 9)) (λ m. m.site.0 < 1 + length journals.sites.items) (λ m both. (let most = both.1 in omega (arith, most, all))) (protocols scenario) range)
      (λ site some. is_among site))
