-- One more site is set up on the disk of its number, or isn't.
use Rattle.std.proofs.Common.{◌≡◌, ℕ, ◌+◌, ◌<◌, Bool, Some, List, ◌∷◌, [], ◌++◌, length, take, get_or, map, Result, Ok, Err, slice_get, slice_set, refl, sym, ◌∙◌, subst, arith}
use Rattle.std.proofs.lemmas.List.{map-set}
use Rattle.std.proofs.lemmas.Option.{slice_get_read}
use Rattle.mdb_base.specs.Counts.{HasCauseOf}
use Rattle.mdb_base.specs.declared.names.SiteId.{SiteId}
use Rattle.order_laws.specs.Chains.{In}
use Rattle.order_laws.proofs.ForCallers.{each_at, slice_get-in}
use Rattle.record_fields.specs.Named.{IsSite}
use Rattle.fed_rules.specs.declared.scenario.Scenario.{Scenario}
use Rattle.fed_rules.specs.Disk.{empty_disk}
use Rattle.fed_rules.specs.Plans.{IsScenario}
use Rattle.fed_rules.specs.Scenarios.{home_of, sites}
use Rattle.fed_rules.specs.SitePast.{set_up_calls}
use Rattle.fed_rules.specs.SiteRecords.{Home}
use Rattle.journal_disk.specs.Disk.{Seen}
use Rattle.actor_store.specs.declared.errors.StepErr.{StepErr}
use Rattle.actor_store.specs.declared.errors.StepErr.TheVariants as Step_err
use Rattle.any_engine.specs.declared.engine.AnyEngine.{AnyEngine}
use Rattle.any_engine.specs.Stands as Engines
use Rattle.local_dbms.specs.declared.dbms.LocalDbms.{LocalDbms}
use Rattle.local_dbms.specs.Stands as Dbms
use Rattle.local_dbms.specs.Stands.{own_programs}
use Rattle.site_core.specs.Store.{SomeStop}
use Rattle.fed_world.proofs.SeatLines.{one_place}
use Rattle.fed_world.specs.SettingUp.{StopsForDisk, StopsForMemory}
use Rattle.fed_world.specs.Faults.{FailedAs, faults_of}
use Rattle.fed_world.specs.Worlds.{error_of}
use Rattle.fed_world.proofs.DeclaredSites.{declared_ranged, declared_rise}
use Rattle.fed_world.proofs.Faults.{failed_later, failure_told, line_told}
use Rattle.fed_world.proofs.Pairs.{front_place}
use Rattle.fed_world.proofs.SeenDisks.{mapped_at}
use Rattle.fed_world.proofs.SetUps.{IsUpTo, one_more_up, stops_for_disk, stops_for_memory}

-- a declared site has one of nine disks
pub disk_within : (scenario : Scenario) → IsScenario scenario → (n : ℕ) (site : SiteId) → slice_get (sites scenario) n ≡ Some site → site.0 < 9
disk_within scenario whole n site own =
    let range = each_at IsSite site (sites scenario) (declared_ranged scenario whole) (slice_get-in (sites scenario) n site own) in
    let most = range.greatest in omega (arith, most)

-- none of the sites before it is the same
not_before : (scenario : Scenario) → IsScenario scenario → (n : ℕ) (site : SiteId) → slice_get (sites scenario) n ≡ Some site → In site (take n (sites scenario)) → ⊥
not_before scenario whole n site own i =
    let (place, less, at) = front_place n (sites scenario) site i in
    let same = one_place (sites scenario) place n site site (declared_rise scenario whole) at own refl in omega (arith, less, same)

module _ {D : Type 0} (seen : D → Seen) (tells : Bool) (scenario : Scenario) (whole : IsScenario scenario) (cores : List (LocalDbms AnyEngine)) (first disks : List D) (n : ℕ) (site : SiteId) (old new : D)
    (nine : length disks ≡ 9) (own : slice_get (sites scenario) n ≡ Some site) (read : old ≡ get_or disks site.0 old) where
  there : slice_get disks site.0 ≡ Some old
  there = let few = disk_within scenario whole n site own in slice_get_read disks (length disks) site.0 old refl (omega (arith, few, nine)) read

  seen_there : slice_get (map seen disks) site.0 ≡ Some (seen old)
  seen_there = mapped_at seen disks site.0 old there

  abbrev changed : List Seen
  changed = map seen (slice_set disks site.0 new)

  set_is : changed ≡ slice_set (map seen disks) site.0 (seen new)
  set_is = map-set seen disks site.0 new

  module _ (up : IsUpTo tells cores (map seen disks) scenario n) where
    -- its disk is empty
    pub disk_empty : (seen old).size ≡ 0
    disk_empty = up.empty site.0 (seen old) seen_there (not_before scenario whole n site own)

    -- it is set up
    pub step_up : (dbms : LocalDbms AnyEngine) → ((home : Home) → home_of scenario site ≡ Some home → Dbms.Stands Engines.Stands tells dbms (seen new) home (own_programs site scenario.transactions) [])
        → IsUpTo tells (cores ++ dbms ∷ []) changed scenario (n + 1)
    step_up dbms stood =
        subst (λ (ds : List Seen). IsUpTo tells (cores ++ dbms ∷ []) ds scenario (n + 1)) (sym set_is)
        (one_more_up tells scenario whole cores (map seen disks) n site (seen old) (seen new) dbms up own seen_there stood)

    -- there is no memory
    pub step_without_memory : (seen new).size ≡ 0 → StopsForMemory tells changed scenario
    step_without_memory none =
        subst (λ (ds : List Seen). StopsForMemory tells ds scenario) (sym set_is) (stops_for_memory tells scenario whole cores (map seen disks) n site (seen old) (seen new) up own seen_there none)

    -- a disk call fails
    pub step_with_fault : ((home : Home) → home_of scenario site ≡ Some home → SomeStop (seen new).image empty_disk (set_up_calls home)) → StopsForDisk site.0 tells changed scenario
    step_with_fault stop =
        subst (λ (ds : List Seen). StopsForDisk site.0 tells ds scenario) (sym set_is) (stops_for_disk tells scenario whole cores (map seen disks) n site (seen old) (seen new) up own seen_there stop)

  module _ (calm : faults_of (map seen disks) ≡ faults_of (map seen first)) where
    -- where it is set up no count moved
    pub step_calm : {T : Type 0} (outcome : Result T StepErr) (done : T) → outcome ≡ Ok done → HasCauseOf Step_err.Disk (seen old).faults (seen new).faults outcome → faults_of changed ≡ faults_of (map seen first)
    step_calm outcome done e cause = line_told (map seen disks) changed site.0 (seen old) (seen new) seen_there set_is outcome done e cause ∙ calm

    -- and where it isn't the counts tell why
    pub step_failed : {T : Type 0} (outcome : Result T StepErr) (why : StepErr) → outcome ≡ Err why → HasCauseOf Step_err.Disk (seen old).faults (seen new).faults outcome → FailedAs (error_of site.0 why) (map seen first) changed
    step_failed outcome why e cause =
        failed_later (error_of site.0 why) (map seen first) (map seen disks) changed calm (failure_told (map seen disks) changed site.0 (seen old) (seen new) seen_there set_is outcome why e cause)
