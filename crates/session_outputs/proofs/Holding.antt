-- What is on the nine disks of a world: behind some commands, where it is at rest, and where a call of a disk failed.
use Rattle.std.proofs.Common.{◌≡◌, ℕ, zero, suc, Bool, true, false, IsTrue, Option, Some, None, List, [], ◌∷◌, ◌++◌, length, slice_get, inl, inr, refl, sym, ◌∙◌, subst, arith}
use Rattle.std.proofs.lemmas.Bool.{not-false}
use Rattle.mdb_base.specs.declared.names.SiteId.{SiteId}
use Rattle.mdb_base.specs.Words.{Each}
use Rattle.mdb_base.proofs.ForCallers.{nothing_left}
use Rattle.order_laws.specs.Chains.{In}
use Rattle.fed_rules.proofs.ForCallers.{home-again, its-site}
use Rattle.fed_rules.specs.declared.commands.Command.{Command}
use Rattle.fed_rules.specs.declared.events.SiteEvent.{SiteEvent}
use Rattle.fed_rules.specs.declared.scenario.Scenario.{Scenario}
use Rattle.fed_rules.specs.Requests.{Request, Submits, Declines}
use Rattle.fed_rules.specs.Scenarios.{global_program, home_of}
use Rattle.fed_rules.specs.SitePast.{SitePast, disk}
use Rattle.fed_rules.specs.SiteRecords.{Home}
use Rattle.fed_rules.specs.Sessions.{fresh}
use Rattle.fed_rules.specs.Story.{Story, coord_past, happens, past_of, requested, story_of}
use Rattle.journal_disk.specs.Disk.{Seen}
use Rattle.actor_store.specs.declared.errors.StepErr.TheVariants as Step_err
use Rattle.actor_store.specs.Store.{is_up, stored}
use Rattle.actor_store.proofs.ForCallers.{all_written}
use Rattle.closing_laws.specs.AtRest.{IsAtRest}
use Rattle.fed_rules.specs.CoordPast.{CoordPast}
use Rattle.fed_rules.specs.CoordPast as Coordinator
use Rattle.global_manager.specs.declared.manager.GlobalManager.{GlobalManager}
use Rattle.conservative_take.specs.declared.any_policy.AnyPolicy.{AnyPolicy}
use Rattle.conservative_take.specs.AnyPolicies.{policy_is}
use Rattle.any_engine.specs.declared.engine.AnyEngine.{AnyEngine}
use Rattle.any_engine.specs.Stands as Engines
use Rattle.local_dbms.specs.declared.dbms.LocalDbms.{LocalDbms}
use Rattle.local_dbms.specs.Stands as Dbms
use Rattle.local_dbms.specs.Stands.{own_programs}
use Rattle.site_core.specs.Made.{was_found}
use Rattle.coord_core.specs.Found as Coord_found
use Rattle.fed_world.specs.declared.world.World.{World}
use Rattle.fed_world.specs.Asks.{terms_of}
use Rattle.fed_world.specs.Faults.{RisesAt, faults_of}
use Rattle.fed_world.specs.FreshWorlds.{AreDisks, CoordinatorBroke, IsBroken, SiteBroke, Stands}
use Rattle.fed_world.specs.Worlds.{DbmsStands, ManagerStands, StandsBut}
use Rattle.fed_world.specs.SettingUp.{EmptyBut, IsSetUp, StopsForDisk, StopsForMemory}
use Rattle.closing.specs.Between.{WereCalm}
use Rattle.closing.specs.FreshTowards.{BreaksAt}
use Rattle.closing.proofs.ForCallers.{calm_since}
use Rattle.session_outputs.specs.Breaks.{BreaksAtNext, BreaksSetUp}
use Rattle.held_disks.specs.Holding.{CoordHolds, HoldAll, HoldOthers, HoldsAt, SiteHolds}
use Rattle.held_disks.proofs.ForCallers.{before_not_found, coord_holds, coord_not_found, site_holds, site_not_found, stopped_not_found, within_not_found}
use Rattle.session_outputs.specs.Disks.{AreSetUp, HoldFrames, NothingBut, frames_at, site_frames}
use Rattle.session_outputs.specs.Outcomes.{StartsShort}
use Rattle.outputs.proofs.ForCallers.{AreSized, all_sized, coord_stops, numbered, one_at, site_held, site_stops, there_at}
use Rattle.session_outputs.proofs.Stores.{coord_whole, site_whole}

-- ---- each disk holds what the rules say

-- that of an actor that stands for its past
manager_holds : (tells : Bool) (disks : List Seen) (manager : GlobalManager AnyPolicy) (scenario : Scenario) (past : CoordPast) (seen : Seen)
    → Coord_found.was_found past ≡ false → ManagerStands tells disks manager (terms_of scenario) (global_program scenario) past → slice_get disks 0 ≡ Some seen → CoordHolds seen.image past
manager_holds tells disks manager scenario past seen new m at =
    subst (λ (s : Seen). CoordHolds s.image past) (one_at disks 0 m.disk seen m.own at) (coord_holds policy_is tells manager.core m.disk (terms_of scenario) past new m.holds.core)

dbms_holds : (tells : Bool) (disks : List Seen) (dbms : LocalDbms AnyEngine) (scenario : Scenario) (home : Home) (past : SitePast) (seen : Seen)
    → was_found past ≡ false → DbmsStands tells disks dbms home (own_programs home.site scenario.transactions) past → slice_get disks home.site.0 ≡ Some seen → SiteHolds seen.image home past
dbms_holds tells disks dbms scenario home past seen new d at =
    subst (λ (s : Seen). SiteHolds s.image home past) (one_at disks home.site.0 d.disk seen d.own at) (site_holds Engines.Stands tells dbms.core d.disk home past new d.holds.core)

-- a disk of no size has no byte
no_byte : (disks : List Seen) (place : ℕ) (seen : Seen) → AreSized disks → slice_get disks place ≡ Some seen → seen.size ≡ 0 → seen.image.bytes ≡ []
no_byte disks place seen sized at none = nothing_left seen.image.bytes (sized place seen at ∙ none)

pub stands_hold_all : (tells : Bool) (world : World) (disks : List Seen) (scenario : Scenario) (commands : List Command) → AreSized disks → Stands tells world disks scenario commands
    → HoldAll disks scenario (story_of scenario commands)
stands_hold_all tells world disks scenario commands sized s zero seen at =
    manager_holds tells disks world.cores.coordinator scenario (coord_past (story_of scenario commands)) seen (coord_not_found scenario commands) s.stand.actors.coordinator at
stands_hold_all tells world disks scenario commands sized s (suc n) seen at = by_home (home_of scenario (record { 0 = suc n })) refl
  where
    by_home : (o : Option Home) → home_of scenario (record { 0 = suc n }) ≡ o → HoldsAt seen.image o (story_of scenario commands)
    by_home None e = no_byte disks (suc n) seen sized at (s.stand.others.others (record { 0 = suc n }) seen (omega arith) e at)
    by_home (Some home) e =
        let held = site_held (DbmsStands tells disks) world.cores.sites.items.items world.cores.marks.items world.traffic.items (fresh scenario) (story_of scenario commands) home
        (home-again scenario (record { 0 = suc n }) home e) s.stand.actors.sites in
        dbms_holds tells disks held.dbms scenario home (past_of home.site (story_of scenario commands)) seen (site_not_found scenario commands home (home-again scenario (record { 0 = suc n }) home e)) held.holds
        (subst (λ k. slice_get disks k ≡ Some seen) (sym (numbered scenario (suc n) home e)) at)

-- at rest each holds the frames of its actor's records alone
pub stands_hold_frames : (tells : Bool) (world : World) (disks : List Seen) (scenario : Scenario) (commands : List Command) → IsTrue tells → AreSized disks → IsAtRest scenario (story_of scenario commands)
    → Stands tells world disks scenario commands → HoldFrames disks scenario (story_of scenario commands)
stands_hold_frames tells world disks scenario commands told sized rest s zero seen at =
    let m = s.stand.actors.coordinator in
    let store = world.cores.coordinator.core.store in
    let up : is_up store.standing ≡ true = not-false (is_up store.standing) (sym m.holds.core.holds.standing ∙ rest.coordinator_up) in
    subst (λ (x : Seen). x.image.bytes ≡ frames_at scenario (story_of scenario commands) 0) (one_at disks 0 m.disk seen m.own at)
    (coord_whole tells m.disk (stored store) (Coordinator.disk (coord_past (story_of scenario commands))) _ told (sized 0 m.disk m.own) up (all_written (coord_not_found scenario commands) m.holds.core.stored))
stands_hold_frames tells world disks scenario commands told sized rest s (suc n) seen at = by_home (home_of scenario (record { 0 = suc n })) refl
  where
    by_home : (o : Option Home) → home_of scenario (record { 0 = suc n }) ≡ o → seen.image.bytes ≡ site_frames o (story_of scenario commands)
    by_home None e = no_byte disks (suc n) seen sized at (s.stand.others.others (record { 0 = suc n }) seen (omega arith) e at)
    by_home (Some home) e =
        let held = site_held (DbmsStands tells disks) world.cores.sites.items.items world.cores.marks.items world.traffic.items (fresh scenario) (story_of scenario commands) home
        (home-again scenario (record { 0 = suc n }) home e) s.stand.actors.sites in
        let d = held.holds in
        let store = held.dbms.core.store in
        let up : is_up store.standing ≡ true = not-false (is_up store.standing) (sym d.holds.core.holds.memory.standing ∙ rest.sites_up home.site) in
        let there : slice_get disks home.site.0 ≡ Some seen = subst (λ k. slice_get disks k ≡ Some seen) (sym (numbered scenario (suc n) home e)) at in
        subst (λ (x : Seen). x.image.bytes ≡ site_frames (Some home) (story_of scenario commands)) (one_at disks home.site.0 d.disk seen d.own there)
        (site_whole tells d.disk (stored store) (disk home (past_of home.site (story_of scenario commands))) _ told (sized home.site.0 d.disk d.own) up (all_written (site_not_found scenario commands home (home-again scenario (record { 0 = suc n }) home e)) d.holds.core.stored))

-- ---- a call of a disk failed at a command

-- the disks as they were behind the commands before the one at which a call failed
pub record WereBefore {D : Type 0} (see : D → Seen) (number : ℕ) (old new : List Seen) (scenario : Scenario) (story : Story) : Type 0 where
  pub before : List Seen
  pub were : WereCalm see old before
  pub held : HoldAll before scenario story
  pub rose : RisesAt number before new

-- the world stood for these commands with them
pub were_before : {D : Type 0} (see : D → Seen) → ((one : D) → length (see one).image.bytes ≡ (see one).size) → (number : ℕ) (tells : Bool) (world : World) (old mid disks : List Seen) (scenario : Scenario) (whole commands : List Command)
    → faults_of mid ≡ faults_of old → (b : BreaksAt see number tells mid world disks whole scenario commands) → WereBefore see number old disks scenario (story_of scenario (b.done ++ commands))
were_before see sized number tells world old mid disks scenario whole commands same b = record {
  before = b.before;
  were = calm_since see old mid b.before same b.were;
  held = stands_hold_all tells b.was b.before scenario (b.done ++ commands) (subst AreSized b.were.are (all_sized see sized b.were.disks)) b.stood;
  rose = b.rose;
}

-- the coordinator's
coord_breaks : {D : Type 0} (see : D → Seen) (tells : Bool) (world : World) (old disks : List Seen) (command : Command) (scenario : Scenario) (commands : List Command) → AreSized disks → AreDisks disks scenario
    → WereBefore see 0 old disks scenario (story_of scenario commands)
    → CoordinatorBroke tells world disks command scenario (story_of scenario commands) → BreaksAtNext see 0 old disks command scenario (story_of scenario commands)
coord_breaks see tells world old disks command scenario commands sized are w b = by_disk (there_at disks 0 (omega (arith, are.nine)))
  where
    story : Story
    story = story_of scenario commands

    new : Coord_found.was_found (coord_past story) ≡ false
    new = coord_not_found scenario commands

    others : HoldOthers 0 disks scenario story
    others zero seen at apart = absurd (apart refl)
    others (suc n) seen at apart = by_home (home_of scenario (record { 0 = suc n })) refl
      where
        by_home : (o : Option Home) → home_of scenario (record { 0 = suc n }) ≡ o → HoldsAt seen.image o story
        by_home None e = no_byte disks (suc n) seen sized at (are.others (record { 0 = suc n }) seen (omega arith) e at)
        by_home (Some home) e =
            let held = site_held (DbmsStands tells disks) world.cores.sites.items.items world.cores.marks.items world.traffic.items (fresh scenario) story home
            (home-again scenario (record { 0 = suc n }) home e) b.sites in
            dbms_holds tells disks held.dbms scenario home (past_of home.site story) seen (site_not_found scenario commands home (home-again scenario (record { 0 = suc n }) home e)) held.holds
            (subst (λ k. slice_get disks k ≡ Some seen) (sym (numbered scenario (suc n) home e)) at)

    by_disk : (seen : Seen) × (slice_get disks 0 ≡ Some seen) → BreaksAtNext see 0 old disks command scenario story
    by_disk (seen, at) = record {
      before = w.before;
      were = w.were;
      held = w.held;
      rose = w.rose;
      disk = seen;
      own = at;
      stop = coord_stops (ManagerStands tells disks world.cores.coordinator) (CoordHolds seen.image) scenario story command b.asked
          (λ cut m. manager_holds tells disks world.cores.coordinator scenario _ seen (before_not_found (terms_of scenario) (coord_past story) cut new) m at)
          (λ event calls cut m. manager_holds tells disks world.cores.coordinator scenario _ seen (within_not_found (terms_of scenario) (coord_past story) event calls cut new) m at)
          b.happens b.coordinator;
      others = others;
    }

-- a site's
site_breaks : {D : Type 0} (see : D → Seen) (n : ℕ) (tells : Bool) (world : World) (old disks : List Seen) (command : Command) (scenario : Scenario) (commands : List Command) → AreSized disks → AreDisks disks scenario
    → WereBefore see (suc n) old disks scenario (story_of scenario commands)
    → SiteBroke (suc n) tells world disks command scenario (story_of scenario commands) → BreaksAtNext see (suc n) old disks command scenario (story_of scenario commands)
site_breaks see n tells world old disks command scenario commands sized are w b = by_asked b.asked b.happens b.broken
  where
    story : Story
    story = story_of scenario commands

    others : HoldOthers (suc n) disks scenario story
    others zero seen at apart = manager_holds tells disks world.cores.coordinator scenario (coord_past story) seen (coord_not_found scenario commands) b.coordinator at
    others (suc k) seen at apart = by_home (home_of scenario (record { 0 = suc k })) refl
      where
        by_home : (o : Option Home) → home_of scenario (record { 0 = suc k }) ≡ o → HoldsAt seen.image o story
        by_home None e = no_byte disks (suc k) seen sized at (are.others (record { 0 = suc k }) seen (omega arith) e at)
        by_home (Some home) e =
            let held = site_held (StandsBut (suc n) tells disks) world.cores.sites.items.items world.cores.marks.items world.traffic.items (fresh scenario) story home
            (home-again scenario (record { 0 = suc k }) home e) b.sites in
            let own : home.site.0 ≡ suc k = numbered scenario (suc k) home e in
            dbms_holds tells disks held.dbms scenario home (past_of home.site story) seen (site_not_found scenario commands home (home-again scenario (record { 0 = suc k }) home e)) (held.holds (λ same. apart (sym own ∙ same)))
            (subst (λ m. slice_get disks m ≡ Some seen) (sym own) at)

    by_asked : (asked : Request SiteEvent) → happens scenario story command ≡ requested b.home story asked
        → Dbms.Fails (DbmsStands tells disks b.dbms) Step_err.Disk b.home (own_programs b.home.site scenario.transactions) (past_of b.home.site story) asked → BreaksAtNext see (suc n) old disks command scenario story
    by_asked (Declines answer) e f = absurd f
    by_asked (Submits event) e f =
        let d = f.1 in
        record {
          before = w.before;
          were = w.were;
          held = w.held;
          rose = w.rose;
          disk = d.disk;
          own = subst (λ k. slice_get disks k ≡ Some d.disk) (sym b.number_is) d.own;
          stop = site_stops (DbmsStands tells disks b.dbms) (SiteHolds d.disk.image) scenario story b.home (own_programs b.home.site scenario.transactions) command (Submits event) (suc n)
              (λ event at d'. dbms_holds tells disks b.dbms scenario b.home _ d.disk (stopped_not_found b.home (past_of b.home.site story) event at (site_not_found scenario commands b.home b.declared)) d' d.own)
              b.number_is b.declared e f;
          others = others;
        }

pub world_breaks : {D : Type 0} (see : D → Seen) (number : ℕ) (tells : Bool) (world : World) (old disks : List Seen) (command : Command) (scenario : Scenario) (commands : List Command) → AreSized disks
    → WereBefore see number old disks scenario (story_of scenario commands) → IsBroken number tells world disks command scenario commands → BreaksAtNext see number old disks command scenario (story_of scenario commands)
world_breaks see zero tells world old disks command scenario commands sized w b = coord_breaks see tells world old disks command scenario commands sized b.others w b.actor
world_breaks see (suc n) tells world old disks command scenario commands sized w b = site_breaks see n tells world old disks command scenario commands sized b.others w b.actor

-- ---- while the sites are set up

each_in : (P : SiteId → Type 0) (xs : List SiteId) (site : SiteId) → Each P xs → In site xs → P site
each_in P [] site each i = absurd i
each_in P (x ∷ xs) site each (inl e) = subst P e each.0
each_in P (x ∷ xs) site each (inr i) = each_in P xs site each.1 i

set_up_hold : (tells : Bool) (disks : List Seen) (scenario : Scenario) (done : List SiteId) → Each (IsSetUp tells disks scenario) done → AreSetUp done disks scenario
set_up_hold tells disks scenario done each site seen i at =
    let s = each_in (IsSetUp tells disks scenario) done site each i in
    let same : s.home.site ≡ site = its-site scenario site s.home s.declared in
    let stood : DbmsStands tells disks s.dbms s.home (own_programs s.home.site scenario.transactions) [] = subst (λ (x : SiteId). DbmsStands tells disks s.dbms s.home (own_programs x scenario.transactions) []) (sym same) s.stood in
    subst (λ (o : Option Home). HoldsAt seen.image o []) (sym s.declared)
    (dbms_holds tells disks s.dbms scenario s.home [] seen refl stood (subst (λ (x : SiteId). slice_get disks x.0 ≡ Some seen) (sym same) at))

empty_nothing : (disks : List Seen) (done : List SiteId) → AreSized disks → EmptyBut done disks → NothingBut done disks
empty_nothing disks done sized empty number seen at apart = no_byte disks number seen sized at (empty number seen at apart)

pub starts_short : (tells : Bool) (old disks : List Seen) (scenario : Scenario) → AreSized disks → faults_of disks ≡ faults_of old → StopsForMemory tells disks scenario → StartsShort old disks scenario
starts_short tells old disks scenario sized calm s =
    record { done = s.done; left = s.left; all = s.all; set_up = set_up_hold tells disks scenario s.done s.set_up; empty = empty_nothing disks s.done sized s.empty; calm = calm }

pub starts_broken : (number : ℕ) (tells : Bool) (old disks : List Seen) (scenario : Scenario) → AreSized disks → RisesAt number old disks → StopsForDisk number tells disks scenario → BreaksSetUp number old disks scenario
starts_broken number tells old disks scenario sized rose s = record {
  done = s.done;
  left = s.left;
  home = s.home;
  number_is = s.number_is;
  declared = s.declared;
  all = s.all;
  rose = rose;
  disk = s.disk;
  own = s.own;
  stop = s.stop;
  set_up = set_up_hold tells disks scenario s.done s.set_up;
  empty = empty_nothing disks (s.home.site ∷ s.done) sized s.empty;
}
