-- A world whose actors went on from the journals on nine disks stands for the session that goes on from them.
use Rattle.std.proofs.Common.{◌≡◌, ◌≤◌, ℕ, Bool, inl, inr, Some, None, Option, List, [], ◌∷◌, ◌++◌, length, map, reverse, slice_get, refl, sym, ◌∙◌, ap, subst, arith}
use Rattle.std.specs.Global.{Vec}
use Rattle.std.specs.List.{AllByRecursion}
use Rattle.std.proofs.lemmas.List.{append-nil, length-map}
use Rattle.std.proofs.lemmas.Option.{slice_get_within}
use Rattle.mdb_base.specs.declared.names.SiteId.{SiteId}
use Rattle.mdb_base.specs.declared.names.Tid.{Tid}
use Rattle.mdb_base.specs.Words.{Each}
use Rattle.mdb_base.proofs.ForCallers.{slice_get-one}
use Rattle.order_laws.specs.Chains.{In}
use Rattle.order_laws.proofs.ForCallers.{each_from, slice_get-in}
use Rattle.fed_rules.specs.declared.commands.Line.{Line}
use Rattle.fed_rules.specs.declared.events.SiteEvent.{SiteEvent}
use Rattle.fed_rules.specs.declared.records.CoordRecord.{CoordRecord}
use Rattle.fed_rules.specs.declared.records.SiteRecord.{SiteRecord}
use Rattle.fed_rules.specs.declared.scenario.Scenario.{Scenario}
use Rattle.fed_rules.specs.CoordPast.{CoordPast}
use Rattle.fed_rules.specs.Found.{Found, Journal}
use Rattle.fed_rules.specs.Reopened.{first_of, opened_site}
use Rattle.fed_rules.specs.Resumed.{going_on, plan_of}
use Rattle.fed_rules.specs.Scenarios.{global_program, home_of, protocols, sites}
use Rattle.fed_rules.specs.Sessions.{Session}
use Rattle.fed_rules.specs.Site.{site_past_on}
use Rattle.fed_rules.specs.SitePast.{SitePast}
use Rattle.fed_rules.specs.SiteRecords.{Home}
use Rattle.fed_rules.specs.Story.{coord_past, first_story, past_of}
use Rattle.fed_rules.specs.Usable.{IsOfSite, IsUsableCoordinator, IsUsableSite, home_of_first}
use Rattle.fed_rules.proofs.ForCallers.{home-again, its-site}
use Rattle.journal_disk.specs.Disk.{Image, Seen}
use Rattle.journal_disk.specs.Frames.{AreWhole}
use Rattle.frame_journal.specs.Journal.{Kept, records}
use Rattle.any_engine.specs.declared.engine.AnyEngine.{AnyEngine}
use Rattle.any_engine.specs.Stands as Engines
use Rattle.conservative_take.specs.AnyPolicies.{policy_is}
use Rattle.coord_core.specs.Found as Coordinator
use Rattle.coord_journal.specs.Spelling as Coordinators
use Rattle.global_manager.specs.Stands as Manager
use Rattle.local_dbms.specs.declared.dbms.LocalDbms.{LocalDbms}
use Rattle.local_dbms.specs.Found.{found_programs}
use Rattle.local_dbms.specs.Stands as Dbms
use Rattle.local_dbms.specs.Stands.{OwnPrograms}
use Rattle.found_laws.specs.FoundSessions.{AreUsable, IsOfFormat}
use Rattle.found_laws.proofs.ForCallers.{IsResumedPast, resumes, session_begins}
use Rattle.session_report.specs.declared.marks.Marks.{Marks}
use Rattle.session_report.specs.Marks.{kept_marks}
use Rattle.session_routes.specs.declared.traffic.Traffic.{Traffic}
use Rattle.site_core.specs.Found as Site
use Rattle.site_journal.specs.Spelling as Sites
use Rattle.found_disks.proofs.ForCallers.{bytes_there, found_range}
use Rattle.found_disks.specs.declared.reading.Journals.{Journals}
use Rattle.found_disks.specs.Finding.{NamesOf, found_in, journal_on}
use Rattle.found_disks.specs.Reading.{AreRead, HasBytes, IsReadFrom, images_of}
use Rattle.world_recovery.specs.declared.reopening.Plan.{Plan}
use Rattle.fed_world.specs.declared.world.World.{World}
use Rattle.fed_world.specs.Asks.{terms_of}
use Rattle.fed_world.specs.Beginnings.{GoesOn, Remembers, first_marks, programs_at, with_found}
use Rattle.fed_world.specs.Lines.{IsRightIn}
use Rattle.world_recovery.specs.Reopening.{AreOnDisks, AreSynced, HasActors, IsOnDisk, IsOnFirst, IsPlanOf, of_sites}
use Rattle.fed_world.specs.Seats.{SiteAt}
use Rattle.fed_world.specs.SettingUp.{IsNewWorld}
use Rattle.fed_world.specs.Worlds.{DbmsStands, ManagerStands, OnDisk, Stands}
use Rattle.fed_world.proofs.ForCallers.{its_journal, mapped_at, site_home}
use Rattle.world_recovery.proofs.FoundDisks.{all_written, either_at, found_at, its_site, of_format}
use Rattle.world_recovery.proofs.FoundJournals.{coordinator_found, site_found}

module _ (images : List Image) (journals : Journals) (nine : length images ≡ 9) (read : AreRead images journals) (named : NamesOf journals None) (u : AreUsable (found_in images journals))
    (synced : AreSynced images) where
  abbrev found : Found
  found = found_in images journals

  abbrev plan : Scenario
  plan = plan_of found

  abbrev session : Session
  session = going_on found

  records_written : Each (λ (journal : Journal SiteRecord). AllByRecursion Sites.IsRecord journal.records) found.sites
  records_written = all_written images journals.sites.items read.all read.sites named.1

  format : Each IsOfFormat found.sites
  format =
      each_from IsOfFormat found.sites (λ journal i.
      of_format journal (written_at found.sites journal records_written i))
    where
      written_at : (js : List (Journal SiteRecord)) (j : Journal SiteRecord) → Each (λ (journal : Journal SiteRecord). AllByRecursion Sites.IsRecord journal.records) js → In j js
          → AllByRecursion Sites.IsRecord j.records
      written_at [] j each i = absurd i
      written_at (k ∷ js) j each (inl same) = subst (λ (z : Journal SiteRecord). AllByRecursion Sites.IsRecord z.records) same each.0
      written_at (k ∷ js) j each (inr i) = written_at js j each.1 i

  goes : GoesOn session
  goes = record { is = refl; usable = u; range = found_range images journals read; format = format; records = records_written }

  -- ---- the coordinator

  abbrev first_journal : Journal CoordRecord
  first_journal = journal_on Coordinators.spelling images 0 journals.coordinator

  usable_first : IsUsableCoordinator (protocols plan) (reverse (records journals.coordinator))
  usable_first = by_is u.coordinator u.is u.usable
    where
      by_is : (j : Journal CoordRecord) → found.coordinator ≡ Some j → IsUsableCoordinator (protocols plan) j.records → IsUsableCoordinator (protocols plan) (reverse (records journals.coordinator))
      by_is j is usable =
          let same : j ≡ first_journal = cc in
          subst (λ (k : Journal CoordRecord). IsUsableCoordinator (protocols plan) k.records) same usable

  -- its journal stands on disk 0
  first_stands : Coordinator.IsFoundOn read.coordinator.image (protocols plan) first_journal
  first_stands =
      let has = read.coordinator in
      coordinator_found images 0 has.image has.own (synced 0 has.image has.own) journals.coordinator has.holds (protocols plan) usable_first

  pub on_first : (scenario : Scenario) → scenario.sites ≡ plan.sites → IsOnFirst found scenario images
  on_first scenario same = record {
    sites_are = same;
    image = read.coordinator.image;
    own = read.coordinator.own;
    journal = first_journal;
    is = refl;
    stands = first_stands;
  }

  -- ---- the sites

  module _ (home : Home) (declared : home_of plan home.site ≡ Some home) where
    resumed : IsResumedPast found.sites home 0 (past_of home.site (first_story session))
    resumed = resumes found u format [] home.site home declared

    -- the journal that its past is made of was read from its disk
    record IsItsDisk : Type 0 where
      number : ℕ
      kept : Kept SiteRecord
      is : resumed.journal ≡ journal_on Sites.spelling images number kept
      here : home.site.0 ≡ number
      was_read : HasBytes images number (IsReadFrom Sites.spelling Sites.IsRecord kept)
      usable : IsUsableSite number (reverse (records kept))
      is_home : home_of_first (first_of (reverse (records kept))) ≡ Some home

    its_disk : IsItsDisk
    its_disk =
        let f = found_at 1 images journals.sites.items resumed.journal (let all = read.all in omega (arith, all)) read.sites named.1 resumed.among in
        let is_home : home_of_first (first_of (reverse (records f.kept))) ≡ Some home = subst (λ (j : Journal SiteRecord). home_of_first (first_of j.records) ≡ Some home) f.is resumed.found.is_home in
        record { number = f.number; kept = f.kept; is = f.is; here = subst (IsOfSite f.number) is_home f.usable.first; was_read = f.read; usable = f.usable; is_home = is_home }

    -- and stands there
    there : (image : Image) → slice_get images home.site.0 ≡ Some image → Site.IsFoundOn image home resumed.journal
    there image at =
        let d = its_disk in
        let own : slice_get images d.number ≡ Some image = subst (λ k. slice_get images k ≡ Some image) d.here at in
        subst (λ (j : Journal SiteRecord). Site.IsFoundOn image home j) (sym d.is)
        (site_found images d.number image own (synced d.number image own) d.kept (bytes_there images d.number (IsReadFrom Sites.spelling Sites.IsRecord d.kept) d.was_read image own) d.usable home d.is_home)

    on_its_disk : IsOnDisk images home
    on_its_disk =
        let d = its_disk in
        let own : slice_get images home.site.0 ≡ Some d.was_read.image = subst (λ k. slice_get images k ≡ Some d.was_read.image) (sym d.here) d.was_read.own in
        record { image = d.was_read.image; own = own; journal = resumed.journal; stands = there d.was_read.image own }

    -- it begins with this past
    past_is : past_of home.site (first_story session) ≡ opened_site resumed.journal
    past_is = by_events resumed.events resumed.few resumed.is
      where
        by_events : (events : List SiteEvent) → length events ≤ 0 → past_of home.site (first_story session) ≡ site_past_on home (opened_site resumed.journal) events
            → past_of home.site (first_story session) ≡ opened_site resumed.journal
        by_events [] few is = is
        by_events (event ∷ events) few is = absurd (omega (arith, few))

    programs_are : programs_at session home.site ≡ found_programs resumed.journal.records
    programs_are = ap (λ o. with_found o (λ tx. None)) (its_journal 0 found.sites resumed.journal home u.sites resumed.among resumed.found.is_home)

    -- and stands for it, where it went back
    stands_there : (tells : Bool) (disks : List Seen) (dbms : LocalDbms AnyEngine) → images_of disks ≡ images
        → OnDisk disks home.site.0 (λ disk. (h : Home) (journal : Journal SiteRecord) → home_of plan home.site ≡ Some h → Site.IsFoundOn disk.image h journal
        → Dbms.Stands Engines.Stands tells dbms disk h (found_programs journal.records) (opened_site journal))
        → DbmsStands tells disks dbms home (programs_at session home.site) (past_of home.site (first_story session))
    stands_there tells disks dbms same o =
        let at : slice_get images home.site.0 ≡ Some o.disk.image =
        sym (ap (λ (is : List Image). slice_get is home.site.0) same) ∙ mapped_at (λ (disk : Seen). disk.image) disks home.site.0 o.disk o.own in
        let stood = o.holds home resumed.journal declared (there o.disk.image at) in
        record {
          disk = o.disk;
          own = o.own;
          holds = subst (λ (programs : OwnPrograms). Dbms.Stands Engines.Stands tells dbms o.disk home programs (past_of home.site (first_story session))) (sym programs_are)
              (subst (λ (past : SitePast). Dbms.Stands Engines.Stands tells dbms o.disk home (found_programs resumed.journal.records) past) (sym past_is) stood);
        }

  pub on_disks : (scenario : Scenario) → scenario.sites ≡ plan.sites → AreOnDisks found scenario images
  on_disks scenario same = record { sites_are = same; each = λ home declared. on_its_disk home declared }

  -- ---- the world

  -- a site in its seat
  seat : (tells : Bool) (disks : List Seen) (dbms : LocalDbms AnyEngine) (own : Marks) (traffic : Traffic) (site : SiteId) → In site (sites plan) → images_of disks ≡ images
      → OnDisk disks site.0 (λ disk. (h : Home) (journal : Journal SiteRecord) → home_of plan site ≡ Some h → Site.IsFoundOn disk.image h journal
      → Dbms.Stands Engines.Stands tells dbms disk h (found_programs journal.records) (opened_site journal))
      → (own.site ≡ site) × (own.kept.items ≡ []) → (traffic.site ≡ site) × (traffic.to.items ≡ []) × (traffic.from.items ≡ [])
      → SiteAt (DbmsStands tells disks) dbms own traffic session site (first_story session)
  seat tells disks dbms own traffic site i same o marks channel =
      let (home, declared) = site_home plan site i in
      let here : home.site ≡ site = its-site plan site home declared in
      let begins = session_begins session u.coordinator u.is site in
      record {
        home = home;
        is = here;
        declared = declared;
        part = record {
          dbms = subst (λ (z : SiteId). DbmsStands tells disks dbms home (programs_at session z) (past_of z (first_story session))) here
              (stands_there home (home-again plan site home declared) tells disks dbms same
              (subst (λ (z : SiteId). OnDisk disks z.0 (λ disk. (h : Home) (journal : Journal SiteRecord) → home_of plan z ≡ Some h → Site.IsFoundOn disk.image h journal
              → Dbms.Stands Engines.Stands tells dbms disk h (found_programs journal.records) (opened_site journal))) (sym here) o));
          marked = marks.0 ∙ sym here;
          site = channel.0 ∙ sym here;
          marks = ap (λ kept. first_marks session home ++ kept) marks.1 ∙ append-nil (first_marks session home)
              ∙ ap (λ (z : SiteId). kept_marks home (past_of z (first_story session))) here;
          to = channel.1 ∙ sym begins.to;
          from = channel.2 ∙ sym begins.from;
        };
      }

  -- a disk of an undeclared site has no whole frame
  blank : (disks : List Seen) → images_of disks ≡ images → (site : SiteId) (disk : Seen) → 1 ≤ site.0 → home_of plan site ≡ None → slice_get disks site.0 ≡ Some disk → AreWhole disk.image.bytes []
  blank disks same site disk least none at =
      let image_at : slice_get images site.0 ≡ Some disk.image =
      sym (ap (λ (is : List Image). slice_get is site.0) same) ∙ mapped_at (λ (disk : Seen). disk.image) disks site.0 disk at in
      let within = slice_get_within images site.0 disk.image image_at in
      elim (either_at 1 site.0 images journals.sites.items least (let all = read.all in omega (arith, within, nine, all)) read.sites named.1) [
        | inl empty ↦ bytes_there images site.0 (λ bytes. AreWhole bytes []) empty disk.image image_at
        | inr there ↦ absurd (by_home (home_of_first (first_of there.0.records)) refl there.2 there.0 there.1 refl)
      ]
    where
      by_home : (o : Option Home) (is : o ≡ o) → IsOfSite site.0 o → (journal : Journal SiteRecord) → In journal found.sites → home_of_first (first_of journal.records) ≡ o → ⊥
      by_home None is of journal i e = absurd of
      by_home (Some home) is of journal i e =
          let here : home.site ≡ site = ap (λ (k : ℕ). let s : SiteId = record { 0 = k } in s) of in
          its_site found.sites plan.items journal home i e (ap (home_of plan) here ∙ none)

  pub reopened_stands : (tells : Bool) (world : World) (disks : List Seen) (parts : Plan) → images_of disks ≡ images → IsPlanOf parts found → HasActors tells world parts disks found
      → Stands tells world disks session []
  reopened_stands tells world disks parts same p h = record {
    has = record {
      begins = inr goes;
      scenario_is = made.scenario_is;
      remembers = subst (λ (tids : Option (Vec Tid)). Remembers tids found) (sym made.begun) (first_journal, refl, p.begun);
      commands_are = ap (λ (ls : List Line). map (λ (line : Line). line.command) (reverse ls)) made.lines;
      right = subst (λ (ls : List Line). IsRightIn session (reverse ls)) (sym made.lines) tt;
    };
    whole = made.whole;
    routed = record { homes = made.routed.homes; places = made.routed.places };
    stand = record {
      actors = record {
        coordinator = manager_stands;
        sites = record {
          all_cores = h.sites.count;
          all_marks = made.all_marks;
          all_channels = made.all_channels;
          each = λ place site dbms own traffic at got kept sent.
              seat tells disks dbms own traffic site (slice_get-in (sites plan) place site at) same (h.sites.each place site dbms at got)
              (made.marks place site own at kept) (made.channels place site traffic at sent);
        };
      };
      few = record {
        to = λ site. (let begins = ap (λ (xs : List _). length xs) (session_begins session u.coordinator u.is site).to in omega (arith, begins));
        from = λ site. (let begins = ap (λ (xs : List _). length xs) (session_begins session u.coordinator u.is site).from in omega (arith, begins));
      };
      others = record {
        nine = sym (length-map disks (λ (disk : Seen). disk.image)) ∙ ap (λ (is : List Image). length is) same ∙ nine;
        others = λ site disk least undeclared at. blank disks same site disk least undeclared at;
      };
    };
  }
    where
      made : IsNewWorld world (of_sites plan.sites) world.cores.coordinator world.cores.sites.items.items (Some parts.begun)
      made = subst (λ (s : Scenario). IsNewWorld world s world.cores.coordinator world.cores.sites.items.items (Some parts.begun)) p.scenario h.made

      manager_stands : ManagerStands tells disks world.cores.coordinator (terms_of plan) (global_program plan) (coord_past (first_story session))
      manager_stands =
          let at : slice_get images 0 ≡ Some h.coordinator.disk.image =
          sym (ap (λ (is : List Image). slice_get is 0) same) ∙ mapped_at (λ (disk : Seen). disk.image) disks 0 h.coordinator.disk h.coordinator.own in
          let one : read.coordinator.image ≡ h.coordinator.disk.image = slice_get-one images 0 read.coordinator.image h.coordinator.disk.image read.coordinator.own at in
          let on : Coordinator.IsFoundOn h.coordinator.disk.image (protocols plan) first_journal =
          subst (λ (image : Image). Coordinator.IsFoundOn image (protocols plan) first_journal) one first_stands in
          record {
            disk = h.coordinator.disk;
            own = h.coordinator.own;
            holds = subst (λ (past : CoordPast). Manager.Stands policy_is tells world.cores.coordinator h.coordinator.disk (terms_of plan) (global_program plan) past)
                (sym (session_begins session first_journal refl (record { 0 = 0 })).coordinator) (h.coordinator.holds first_journal refl on);
          }
