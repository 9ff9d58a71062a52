-- Which records are on the nine disks of a world whose session goes on: those that its actors keep, and behind a failed call what some stop leaves.
use Rattle.std.proofs.Common.{◌≡◌, ℕ, zero, suc, Bool, not, IsTrue, Option, Some, None, List, length, reverse, slice_get, refl, sym, ◌∙◌, subst, arith}
use Rattle.std.proofs.lemmas.Bool.{not-false}
use Rattle.std.specs.List.{AllByRecursion}
use Rattle.fed_rules.proofs.ForCallers.{home-again}
use Rattle.fed_rules.specs.declared.commands.Command.{Command}
use Rattle.fed_rules.specs.CoordPast as Coordinator
use Rattle.fed_rules.specs.CoordPast.{CoordPast}
use Rattle.fed_rules.specs.CoordRecords.{coord_frame}
use Rattle.fed_rules.specs.Disk.{Disk, journal}
use Rattle.fed_rules.specs.declared.events.SiteEvent.{SiteEvent}
use Rattle.fed_rules.specs.Happenings.{Trip, is_down}
use Rattle.fed_rules.specs.Requests.{Request, Submits, Declines}
use Rattle.fed_rules.specs.Scenarios.{home_of}
use Rattle.fed_rules.specs.Sessions.{Session}
use Rattle.fed_rules.specs.SitePast as Site
use Rattle.fed_rules.specs.SitePast.{SitePast}
use Rattle.fed_rules.specs.SiteRecords.{Home, site_frame}
use Rattle.fed_rules.specs.Story.{Story, past_of, story_in}
use Rattle.journal_disk.specs.Disk.{Seen}
use Rattle.actor_store.specs.declared.errors.StepErr.TheVariants as Step_err
use Rattle.actor_store.specs.Store.{KeepsFrom, Stored, is_up, stored}
use Rattle.any_engine.specs.declared.engine.AnyEngine.{AnyEngine}
use Rattle.conservative_take.specs.declared.any_policy.AnyPolicy.{AnyPolicy}
use Rattle.coord_core.specs.Found as Coord_found
use Rattle.coord_journal.specs.Spelling as of_coordinator
use Rattle.coord_tables.specs.Terms.{Terms}
use Rattle.global_manager.specs.declared.manager.GlobalManager.{GlobalManager}
use Rattle.local_dbms.specs.declared.dbms.LocalDbms.{LocalDbms}
use Rattle.local_dbms.specs.Stands as Dbms
use Rattle.local_dbms.specs.Stands.{OwnPrograms}
use Rattle.session_report.specs.declared.marks.Marks.{Marks}
use Rattle.session_routes.specs.declared.traffic.Traffic.{Traffic}
use Rattle.site_core.specs.Made.{was_found}
use Rattle.site_journal.specs.Spelling as of_site
use Rattle.fed_world.specs.declared.world.World.{World}
use Rattle.fed_world.specs.Beginnings.{GoesOn, IsBlank, programs_at}
use Rattle.fed_world.specs.Seats.{OfDbms, SitesAt}
use Rattle.fed_world.specs.Worlds.{ActorBroke, AreDisks, CoordinatorBroke, DbmsStands, ManagerStands, SiteBroke, Stands, StandsBut}
use Rattle.outputs.specs.Stops.{ActorStops}
use Rattle.outputs.specs.Kept.{CoordKeeps, KeepAll, KeepOthers, KeepsAt, KeepsRecords, SiteKeeps}
use Rattle.outputs.proofs.Sized.{AreSized, numbered, one_at, there_at}
use Rattle.outputs.proofs.Stops.{coord_stops, site_stops}
use Rattle.outputs.proofs.Recalled.{site_held}
use Rattle.outputs.proofs.Stores.{nothing_behind}

-- the disk of an actor's store has the records of its journal
keeps_records : {R : Type 0} (spelling : R → List ℕ) (is_record : R → Type 0) (frame_bytes : R → ℕ) (tells : Bool) (seen : Seen) (store : Stored R) (rules : Disk R) (trip : Option Trip) (found down : Bool) → IsTrue tells
    → length seen.image.bytes ≡ seen.size → not (is_up store.standing) ≡ down → KeepsFrom spelling is_record frame_bytes found tells seen store rules trip
    → KeepsRecords spelling is_record down seen.image.bytes (reverse (journal frame_bytes rules))
keeps_records spelling is_record frame_bytes tells seen store rules trip found down told sized standing k = record {
  entries = store.journal.entries;
  are = k.behind.are;
  frames = k.behind.kept_on.records told;
  alone = λ up. nothing_behind spelling tells seen store rules told sized (not-false (is_up store.standing) (standing ∙ up)) k.behind.in_order k.behind.kept_on;
  format = subst (λ rs. AllByRecursion is_record rs) k.behind.are k.behind.are_records;
}

-- ---- of each actor

module _ (tells : Bool) (disks : List Seen) (told : IsTrue tells) (sized : AreSized disks) where
  -- the coordinator's has those that it keeps
  coord_keeps : (manager : GlobalManager AnyPolicy) (terms : Terms) (programs : OwnPrograms) (past : CoordPast) (seen : Seen) → slice_get disks 0 ≡ Some seen → ManagerStands tells disks manager terms programs past
      → CoordKeeps seen.image past
  coord_keeps manager terms programs past seen at m =
      subst (λ (s : Seen). CoordKeeps s.image past) (one_at disks 0 m.disk seen m.own at)
      (keeps_records of_coordinator.spelling of_coordinator.IsRecord coord_frame tells m.disk (stored manager.core.store) (Coordinator.disk past) _ (Coord_found.was_found past) (is_down past) told (sized 0 m.disk m.own)
      (sym m.holds.core.holds.standing) m.holds.core.stored)

  -- and a site's
  site_keeps : (dbms : LocalDbms AnyEngine) (home : Home) (programs : OwnPrograms) (past : SitePast) (seen : Seen) → slice_get disks home.site.0 ≡ Some seen → DbmsStands tells disks dbms home programs past → SiteKeeps seen.image home past
  site_keeps dbms home programs past seen at d =
      subst (λ (s : Seen). SiteKeeps s.image home past) (one_at disks home.site.0 d.disk seen d.own at)
      (keeps_records of_site.spelling of_site.IsRecord site_frame tells d.disk (stored dbms.core.store) (Site.disk home past) _ (was_found past) (is_down past) told (sized home.site.0 d.disk d.own)
      (sym d.holds.core.holds.memory.standing) d.holds.core.stored)

  -- a disk behind that of the coordinator, where each site stands for its past, or each of which something is said
  disk_keeps : (K : OfDbms) (session : Session) (story : Story) (n : ℕ) (seen : Seen) (cores : List (LocalDbms AnyEngine)) (marks : List Marks) (channels : List Traffic) → GoesOn session → AreDisks disks session
      → ((dbms : LocalDbms AnyEngine) (home : Home) (programs : OwnPrograms) (past : SitePast) → home.site.0 ≡ suc n → K dbms home programs past → DbmsStands tells disks dbms home programs past)
      → SitesAt K cores marks channels session story → slice_get disks (suc n) ≡ Some seen → KeepsAt seen.image (home_of session.plan (record { 0 = suc n })) story
  disk_keeps K session story n seen cores marks channels goes are stand sites at = by_home (home_of session.plan (record { 0 = suc n })) refl
    where
      by_home : (o : Option Home) → home_of session.plan (record { 0 = suc n }) ≡ o → KeepsAt seen.image o story
      by_home None e = subst (λ c. IsBlank c seen) goes.usable.is (are.others (record { 0 = suc n }) seen (omega arith) e at)
      by_home (Some home) e =
          let own : home.site.0 ≡ suc n = numbered session.plan (suc n) home e in
          let held = site_held K cores marks channels session story home (home-again session.plan (record { 0 = suc n }) home e) sites in
          site_keeps held.dbms home (programs_at session home.site) (past_of home.site story) seen (subst (λ k. slice_get disks k ≡ Some seen) (sym own) at) (stand held.dbms home _ _ own held.holds)

-- ---- of all of them

-- the disks of a world that stands for its session
pub stands_keeps : (tells : Bool) (world : World) (disks : List Seen) (session : Session) (commands : List Command) → IsTrue tells → AreSized disks → GoesOn session → Stands tells world disks session commands
    → KeepAll disks session.plan (story_in session commands)
stands_keeps tells world disks session commands told sized goes s zero seen at = coord_keeps tells disks told sized world.cores.coordinator _ _ _ seen at s.stand.actors.coordinator
stands_keeps tells world disks session commands told sized goes s (suc n) seen at =
    disk_keeps tells disks told sized (DbmsStands tells disks) session (story_in session commands) n seen world.cores.sites.items.items world.cores.marks.items world.traffic.items goes s.stand.others
    (λ dbms home programs past own d. d) s.stand.actors.sites at

-- ---- a call of a disk failed

-- the coordinator's
module _ (tells : Bool) (world : World) (disks : List Seen) (told : IsTrue tells) (sized : AreSized disks) (session : Session) (goes : GoesOn session) (are : AreDisks disks session) (command : Command) (story : Story) where
  coord_stopped : (seen : Seen) → slice_get disks 0 ≡ Some seen → CoordinatorBroke tells world disks command session story
      → ActorStops (CoordKeeps seen.image) (SiteKeeps seen.image) 0 command session.plan story
  coord_stopped seen at b =
      coord_stops (ManagerStands tells disks world.cores.coordinator) (CoordKeeps seen.image) session.plan story command b.asked
      (λ cut m. coord_keeps tells disks told sized world.cores.coordinator _ _ _ seen at m) (λ event calls cut m. coord_keeps tells disks told sized world.cores.coordinator _ _ _ seen at m) b.happens b.coordinator

  beside_coord : CoordinatorBroke tells world disks command session story → KeepOthers 0 disks session.plan story
  beside_coord b zero seen at apart = absurd (apart refl)
  beside_coord b (suc n) seen at apart =
      disk_keeps tells disks told sized (DbmsStands tells disks) session story n seen world.cores.sites.items.items world.cores.marks.items world.traffic.items goes are (λ dbms home programs past own d. d) b.sites at

  -- a site's
  site_stopped : (n : ℕ) (seen : Seen) → slice_get disks (suc n) ≡ Some seen → SiteBroke (suc n) tells world disks command session story
      → ActorStops (CoordKeeps seen.image) (SiteKeeps seen.image) (suc n) command session.plan story
  site_stopped n seen at b =
      site_stops (DbmsStands tells disks b.dbms) (SiteKeeps seen.image) session.plan story b.home (programs_at session b.home.site) command b.asked (suc n)
      (λ event stop d. site_keeps tells disks told sized b.dbms b.home _ _ seen (subst (λ k. slice_get disks k ≡ Some seen) b.number_is at) d) b.number_is b.declared b.happens b.broken

  beside_site : (n : ℕ) → SiteBroke (suc n) tells world disks command session story → KeepOthers (suc n) disks session.plan story
  beside_site n b zero seen at apart = coord_keeps tells disks told sized world.cores.coordinator _ _ _ seen at b.coordinator
  beside_site n b (suc k) seen at apart =
      disk_keeps tells disks told sized (StandsBut (suc n) tells disks) session story k seen world.cores.sites.items.items world.cores.marks.items world.traffic.items goes are
      (λ dbms home programs past own d. d (λ same. apart (sym own ∙ same))) b.sites at

  -- its disk is there
  own_disk : (n : ℕ) → SiteBroke (suc n) tells world disks command session story → (seen : Seen) × (slice_get disks (suc n) ≡ Some seen)
  own_disk n b = by_asked b.asked b.broken
    where
      by_asked : (asked : Request SiteEvent) → Dbms.Fails (DbmsStands tells disks b.dbms) Step_err.Disk b.home (programs_at session b.home.site) (past_of b.home.site story) asked
          → (seen : Seen) × (slice_get disks (suc n) ≡ Some seen)
      by_asked (Submits event) f = (f.1.disk, subst (λ k. slice_get disks k ≡ Some f.1.disk) (sym b.number_is) f.1.own)
      by_asked (Declines answer) f = absurd f

  -- what its failed call leaves on its disk and on the others
  pub actor_breaks : (number : ℕ) → ActorBroke number tells world disks command session story
      → (seen : Seen) × (slice_get disks number ≡ Some seen) × ActorStops (CoordKeeps seen.image) (SiteKeeps seen.image) number command session.plan story × KeepOthers number disks session.plan story
  actor_breaks zero b = let (seen, at) = there_at disks 0 (omega (arith, are.nine)) in (seen, at, coord_stopped seen at b, beside_coord b)
  actor_breaks (suc n) b = let (seen, at) = own_disk n b in (seen, at, site_stopped n seen at b, beside_site n b)
