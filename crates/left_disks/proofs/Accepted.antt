-- Of the disks that a session left none is damaged, and each journal is usable.
use Rattle.std.proofs.Common.{◌≡◌, ℕ, zero, suc, ◌+◌, ◌≤◌, Option, Some, None, List, [], ◌∷◌, map, reverse, sym, ◌∙◌, ap, subst, arith}
use Rattle.mdb_base.specs.Words.{Each}
use Rattle.presumptions.specs.declared.Participant.{Participant}
use Rattle.fed_rules.specs.declared.commands.Command.{Command}
use Rattle.fed_rules.specs.declared.records.CoordRecord.{CoordRecord}
use Rattle.fed_rules.specs.declared.records.SiteRecord.{SiteRecord}
use Rattle.fed_rules.specs.declared.scenario.Scenario.{Scenario}
use Rattle.fed_rules.specs.CoordPast as Coordinator
use Rattle.fed_rules.specs.CoordRecords.{coord_frame}
use Rattle.fed_rules.specs.Found.{Found, Journal}
use Rattle.fed_rules.specs.Resumed.{plan_of}
use Rattle.fed_rules.specs.Scenarios.{home_of, protocols}
use Rattle.fed_rules.specs.SitePast as Site
use Rattle.fed_rules.specs.SiteRecords.{Home, site_frame}
use Rattle.fed_rules.specs.Story.{Story, coord_past, past_of, story_of}
use Rattle.fed_rules.specs.Usable.{AreUnnamed, IsUsableCoordinator, IsUsableSite}
use Rattle.commit_laws.proofs.ForCallers.{home-again}
use Rattle.disk_laws.proofs.ForCallers.{locals_not_named, usable_coordinators}
use Rattle.resume_laws.proofs.ForCallers.{disks_readable, same_plan}
use Rattle.journal_disk.specs.Disk.{Image, Seen}
use Rattle.frame_journal.specs.Journal.{Kept, records}
use Rattle.coord_journal.specs.Exact as coord_exact
use Rattle.coord_journal.specs.Frames as coord_frames
use Rattle.coord_journal.specs.Spelling as Coordinators
use Rattle.site_journal.specs.Exact as site_exact
use Rattle.site_journal.specs.Frames as site_frames
use Rattle.site_journal.specs.Spelling as Sites
use Rattle.usable_journals.specs.Disks.{AreUsableFrom, IsUsableDisk, members_from}
use Rattle.found_disks.specs.declared.reading.Journals.{Journals}
use Rattle.found_disks.specs.Finding.{NamesOf}
use Rattle.found_disks.specs.Reading.{AreRead, AreReadFrom, HasBytes, IsDamagedAt, IsFirstDamaged, IsReadFirst, images_of}
use Rattle.found_disks.proofs.ForCallers.{members_are}
use Rattle.held_disks.specs.Holding.{HoldsAt}
use Rattle.left_disks.specs.Left.{IsLeft}
use Rattle.left_disks.proofs.LeftJournals.{Declared, SiteRead, Undeclared, coordinator_is, holds, left_is_found, site_read}
use Rattle.left_disks.proofs.OneDisk.{none_damaged, undamaged}

module _ (disks : List Seen) (scenario : Scenario) (commands : List Command) (l : IsLeft disks scenario commands) where
  abbrev story : Story
  story = story_of scenario commands

  abbrev images : List Image
  images = images_of disks

  -- ---- none is damaged

  site_undamaged : (number at : ℕ) → HasBytes images (suc number) (IsDamagedAt Sites.reading at) → ⊥
  site_undamaged number at damaged = by_home (home_of scenario (record { 0 = suc number })) (holds disks scenario commands l (suc number) damaged.image damaged.own)
    where
      by_home : (o : Option Home) → HoldsAt damaged.image o story → ⊥
      by_home None none = none_damaged Sites.spelling Sites.reading Sites.IsRecord site_frame site_frames.frame_has_size site_exact.spelled_is_read damaged.image.bytes none at damaged.holds
      by_home (Some home) held =
          undamaged Sites.spelling Sites.reading Sites.IsRecord site_frame site_frames.frame_has_size site_exact.spelled_is_read damaged.image (Site.disk home (past_of home.site story)) held at damaged.holds

  pub none_is_damaged : (number at : ℕ) → IsFirstDamaged number at images → ⊥
  none_is_damaged zero at damaged =
      undamaged Coordinators.spelling Coordinators.reading Coordinators.IsRecord coord_frame coord_frames.frame_has_size coord_exact.spelled_is_read
      damaged.image (Coordinator.disk (coord_past story)) (holds disks scenario commands l 0 damaged.image damaged.own) at damaged.holds
  none_is_damaged (suc n) at damaged = site_undamaged n at damaged.1.damaged

  -- ---- each is usable

  one_usable : (number : ℕ) (rs : List SiteRecord) → IsUsableSite number (reverse rs) → IsUsableDisk number rs
  one_usable number [] u = tt
  one_usable number (first ∷ newer) u = u

  none_usable : (number : ℕ) (rs : List SiteRecord) → rs ≡ [] → IsUsableDisk number rs
  none_usable number [] e = tt
  none_usable number (first ∷ newer) e = cc

  disk_usable : (number : ℕ) (kept : Kept SiteRecord) → SiteRead disks scenario commands l number kept → IsUsableDisk number (records kept)
  disk_usable number kept (Undeclared none empty) = none_usable number (records kept) empty
  disk_usable number kept (Declared home declared is usable) = one_usable number (records kept) usable

  pub all_usable : (number : ℕ) (journals : List (Kept SiteRecord)) → 1 ≤ number → AreReadFrom number images journals → AreUsableFrom number (map records journals)
  all_usable number [] some read = tt
  all_usable number (kept ∷ more) some read =
      (disk_usable number kept (site_read disks scenario commands l number kept some read.0), all_usable (number + 1) more (omega (arith, some)) read.1)

  abbrev coordinator : List CoordRecord
  coordinator = Coordinator.journal (coord_past story)

  site_unnamed : (number : ℕ) (kept : Kept SiteRecord) → SiteRead disks scenario commands l number kept → AreUnnamed coordinator (reverse (records kept))
  site_unnamed number kept (Undeclared none empty) = subst (λ (rs : List SiteRecord). AreUnnamed coordinator (reverse rs)) (sym empty) (λ tx m n. absurd m)
  site_unnamed number kept (Declared home declared is usable) =
      subst (λ (rs : List SiteRecord). AreUnnamed coordinator rs) (sym (ap (λ (j : Journal SiteRecord). j.records) is))
      (locals_not_named scenario commands home.site home (home-again scenario (record { 0 = number }) home declared))

  all_unnamed : (number : ℕ) (journals : List (Kept SiteRecord)) → 1 ≤ number → AreReadFrom number images journals
      → Each (λ (rs : List SiteRecord). AreUnnamed coordinator (reverse rs)) (map records journals)
  all_unnamed number [] some read = tt
  all_unnamed number (kept ∷ more) some read =
      (site_unnamed number kept (site_read disks scenario commands l number kept some read.0), all_unnamed (number + 1) more (omega (arith, some)) read.1)

  coordinator_records : (kept : Kept CoordRecord) → IsReadFirst images kept → reverse (records kept) ≡ coordinator
  coordinator_records kept read = ap (λ (j : Journal CoordRecord). j.records) (coordinator_is disks scenario commands l kept read)

  -- the sites whose disks have a record are the declared ones
  members : (journals : Journals) → AreRead images journals → members_from 1 (map records journals.sites.items) ≡ protocols scenario
  members journals read =
      sym (members_are 1 images journals.sites.items (all_usable 1 journals.sites.items (omega arith) read.sites))
      ∙ ap (λ (found : Found). protocols (plan_of found)) (left_is_found disks scenario commands l journals read)
      ∙ same_plan scenario l.whole commands (disks_readable scenario l.whole commands l.few).says

  pub none_is_named : (journals : Journals) → AreRead images journals → NamesOf journals None
  none_is_named journals read =
      let same = sym (coordinator_records journals.coordinator read.coordinator) in (
        record {
          journal = subst (λ (ms : List Participant). IsUsableCoordinator ms (reverse (records journals.coordinator))) (sym (members journals read))
              (subst (λ (rs : List CoordRecord). IsUsableCoordinator (protocols scenario) rs) same (usable_coordinators scenario l.whole commands l.few));
          unnamed = subst (λ (rs : List CoordRecord). Each (λ (s : List SiteRecord). AreUnnamed rs (reverse s)) (map records journals.sites.items)) same
              (all_unnamed 1 journals.sites.items (omega arith) read.sites);
        },
        all_usable 1 journals.sites.items (omega arith) read.sites,
      )
