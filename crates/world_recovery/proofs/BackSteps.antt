-- One more site goes on from the journal on the disk of its number, or doesn't; so does the coordinator from that on disk 0.
use Rattle.std.proofs.Common.{◌≡◌, ℕ, ◌+◌, ◌<◌, Bool, None, Some, List, ◌∷◌, [], ◌++◌, length, get_or, map, Result, Ok, Err, slice_get, slice_set, refl, sym, ◌∙◌, ap, subst, arith}
use Rattle.std.proofs.lemmas.List.{length-map, map-set}
use Rattle.std.proofs.lemmas.Option.{slice_get_read}
use Rattle.mdb_base.specs.Counts.{HasCauseOf}
use Rattle.mdb_base.specs.declared.names.Engine.{Engine}
use Rattle.mdb_base.specs.declared.names.SiteId.{SiteId}
use Rattle.mdb_base.specs.declared.rows.Put.{Put}
use Rattle.mdb_base.specs.Words.{first_where}
use Rattle.mdb_base.proofs.ForCallers.{slice_get-one}
use Rattle.order_laws.proofs.ForCallers.{each_at, slice_get-in}
use Rattle.record_fields.specs.Named.{IsSite}
use Rattle.presumptions.specs.declared.Participant.{Participant}
use Rattle.fed_rules.specs.declared.records.CoordRecord.{CoordRecord}
use Rattle.fed_rules.specs.declared.records.SiteRecord.{SiteRecord}
use Rattle.fed_rules.specs.declared.scenario.Scenario.{Scenario}
use Rattle.fed_rules.specs.declared.scenario.SiteLine.{SiteLine}
use Rattle.fed_rules.specs.Found.{Found, Journal}
use Rattle.fed_rules.specs.Plans.{IsScenario, declares}
use Rattle.fed_rules.specs.Policies.{Policy}
use Rattle.fed_rules.specs.Reopened.{opened_coordinator, opened_site}
use Rattle.fed_rules.specs.Resumed.{plan_of}
use Rattle.fed_rules.specs.Scenarios.{policy, protocols, sites}
use Rattle.fed_rules.specs.SiteRecords.{Home}
use Rattle.fed_rules.proofs.ForCallers.{home-again, its-site}
use Rattle.journal_disk.specs.Disk.{Image, Seen}
use Rattle.actor_store.specs.declared.errors.StepErr.{StepErr}
use Rattle.actor_store.specs.declared.errors.StepErr.TheVariants as Step_err
use Rattle.any_engine.specs.declared.engine.AnyEngine.{AnyEngine}
use Rattle.any_engine.specs.Stands as Engines
use Rattle.conservative_take.specs.AnyPolicies.{policy_is}
use Rattle.conservative_take.specs.declared.any_policy.AnyPolicy.{AnyPolicy}
use Rattle.coord_core.specs.Found as Coordinator
use Rattle.global_manager.specs.declared.manager.GlobalManager.{GlobalManager}
use Rattle.global_manager.specs.Stands as Manager
use Rattle.local_dbms.specs.declared.dbms.LocalDbms.{LocalDbms}
use Rattle.local_dbms.specs.Found.{found_programs}
use Rattle.local_dbms.specs.Stands as Dbms
use Rattle.site_core.specs.Found as Site
use Rattle.site_core.specs.Stands.{IsOfKind}
use Rattle.session_routes.proofs.ForCallers.{get_other, get_put}
use Rattle.found_disks.specs.declared.errors.ReopenErr.{ReopenErr}
use Rattle.found_disks.specs.declared.errors.ReopenErr.TheVariants as Err_is
use Rattle.found_disks.specs.Faults.{faults_of}
use Rattle.found_disks.specs.Finding.{FindsAs}
use Rattle.found_disks.specs.Reading.{FailsAs, images_of}
use Rattle.found_disks.proofs.ForCallers.{put_calm, put_rose, told_later}
use Rattle.world_recovery.specs.Reopening.{AreOnDisks, CoordinatorBack, IsDiskOrMemory}
use Rattle.fed_world.proofs.ForCallers.{declared_ranged, disk_within, mapped_at, site_home}
use Rattle.world_recovery.proofs.GoingBack.{AreBackTo, one_more_back, same_rule, sites_same}

-- why the actor of this number doesn't go on
abbrev pub reopen_err : ℕ → StepErr → ReopenErr
reopen_err number Step_err.Disk = Err_is.Disk number
reopen_err number Step_err.Memory = Err_is.Memory

-- an engine that begins with no lines is of its rule
pub of_rule : (engine : AnyEngine) (rule : Engine) (rows : List Put) → Engines.Stands engine (record { kind = rule; rows = rows; doubtful = []; counter = 0; published = 0; owner = None }) []
    → (kind : Engine) → kind ≡ rule → IsOfKind Engines.Stands engine kind
of_rule engine rule rows stood kind same =
    record { start = record { kind = rule; rows = rows; doubtful = []; counter = 0; published = 0; owner = None }; lines = []; stood = stood; of_kind = sym same }

-- nine disks have nine images
pub nine_images : {D : Type 0} (seen : D → Seen) (disks : List D) → length disks ≡ 9 → length (images_of (map seen disks)) ≡ 9
nine_images seen disks nine = length-map (map seen disks) (λ (disk : Seen). disk.image) ∙ length-map disks seen ∙ nine

-- what a failed call tells where it isn't of the journals
pub disk_or_memory : (why : ReopenErr) (images : List Image) → IsDiskOrMemory why → FindsAs (Err why) images
disk_or_memory (Err_is.Disk number) images told = tt
disk_or_memory Err_is.Memory images told = tt
disk_or_memory (Err_is.Damaged number at) images told = absurd told
disk_or_memory (Err_is.Foreign number) images told = absurd told

-- a call of one disk behind others that moved no count
module _ {D : Type 0} (seen : D → Seen) (first disks : List D) (n : ℕ) (old new : D) (within : n < length disks) (read : old ≡ get_or disks n old)
    (calm : faults_of (map seen disks) ≡ faults_of (map seen first)) where
  pub calm_step : {T : Type 0} (outcome : Result T StepErr) (done : T) → outcome ≡ Ok done → HasCauseOf Step_err.Disk (seen old).faults (seen new).faults outcome
      → faults_of (map seen (slice_set disks n new)) ≡ faults_of (map seen first)
  calm_step outcome done e cause = put_calm seen disks n old new within read (cause.clean (λ failed. (let never = sym e ∙ failed in cc))) ∙ calm

  pub failed_step : {T : Type 0} (outcome : Result T StepErr) (why : StepErr) → outcome ≡ Err why → HasCauseOf Step_err.Disk (seen old).faults (seen new).faults outcome
      → FailsAs (reopen_err n why) (map seen first) (map seen (slice_set disks n new))
  failed_step outcome why e cause = told_later (reopen_err n why) (map seen first) (map seen disks) (map seen (slice_set disks n new)) calm (by_why why e)
    where
      by_why : (w : StepErr) → outcome ≡ Err w → FailsAs (reopen_err n w) (map seen disks) (map seen (slice_set disks n new))
      by_why Step_err.Disk e = put_rose seen disks n old new within read cause.later (cause.failed e)
      by_why Step_err.Memory e = put_calm seen disks n old new within read (cause.clean (λ failed. (let never = sym e ∙ failed in cc)))

-- a site
module _ {D : Type 0} (seen : D → Seen) (tells : Bool) (scenario : Scenario) (whole : IsScenario scenario) (first disks : List D) (n : ℕ) (site : SiteId) (old new : D)
    (nine : length disks ≡ 9) (own : slice_get (sites scenario) n ≡ Some site) (read : old ≡ get_or disks site.0 old) where
  pub has_disk : site.0 < length disks
  has_disk = let few = disk_within scenario whole n site own in omega (arith, few, nine)

  seen_there : slice_get (map seen disks) site.0 ≡ Some (seen old)
  seen_there = mapped_at seen disks site.0 old (slice_get_read disks (length disks) site.0 old refl has_disk read)

  -- disk 0 stays
  pub first_stays : slice_get (map seen (slice_set disks site.0 new)) 0 ≡ slice_get (map seen disks) 0
  first_stays =
      let range = each_at IsSite site (sites scenario) (declared_ranged scenario whole) (slice_get-in (sites scenario) n site own) in
      let least = range.least in
      ap (λ (ds : List Seen). slice_get ds 0) (map-set seen disks site.0 new) ∙ get_other (map seen disks) site.0 0 (seen new) (λ same. omega (arith, least, same))

  module _ (same_images : images_of (map seen disks) ≡ images_of (map seen first)) (found : Found) (on : AreOnDisks found scenario (images_of (map seen first))) where
    -- the journal of its home stands on its disk
    pub record IsHere (line : SiteLine) : Type 0 where
      pub home : Home
      pub journal : Journal SiteRecord
      pub stands : Site.IsFoundOn (seen old).image home journal
      pub rule : home.engine ≡ line.engine

    pub is_here : (line : SiteLine) → first_where (declares site) scenario.sites ≡ Some line → IsHere line
    is_here line is =
        let there : slice_get (sites (plan_of found)) n ≡ Some site = sym (ap (λ (zs : List SiteId). slice_get zs n) (sites_same scenario whole found on.sites_are)) ∙ own in
        let (home, declared) = site_home (plan_of found) site (slice_get-in (sites (plan_of found)) n site there) in
        let here : home.site ≡ site = its-site (plan_of found) site home declared in
        let o = on.each home (home-again (plan_of found) site home declared) in
        let at : slice_get (images_of (map seen first)) site.0 ≡ Some (seen old).image =
        sym (ap (λ (images : List Image). slice_get images site.0) same_images) ∙ mapped_at (λ (disk : Seen). disk.image) (map seen disks) site.0 (seen old) seen_there in
        let got : slice_get (images_of (map seen first)) site.0 ≡ Some o.image = subst (λ (z : SiteId). slice_get (images_of (map seen first)) z.0 ≡ Some o.image) here o.own in
        let one : o.image ≡ (seen old).image = slice_get-one (images_of (map seen first)) site.0 o.image (seen old).image got at in
        record {
          home = home;
          journal = o.journal;
          stands = subst (λ (image : Image). Site.IsFoundOn image home o.journal) one o.stands;
          rule = same_rule scenario whole found on.sites_are site line home is declared;
        }

  -- it goes on
  pub step_back : (found : Found) → scenario.sites ≡ (plan_of found).sites → (cores : List (LocalDbms AnyEngine)) → AreBackTo tells cores (map seen disks) found n → (line : SiteLine)
      → first_where (declares site) scenario.sites ≡ Some line → (dbms : LocalDbms AnyEngine) → (seen new).image ≡ (seen old).image
      → ((home : Home) (journal : Journal SiteRecord) → Site.IsFoundOn (seen old).image home journal → home.engine ≡ line.engine
      → Dbms.Stands Engines.Stands tells dbms (seen new) home (found_programs journal.records) (opened_site journal))
      → AreBackTo tells (cores ++ dbms ∷ []) (map seen (slice_set disks site.0 new)) found (n + 1)
  step_back found same cores back line is dbms image stood =
      let there : slice_get (sites (plan_of found)) n ≡ Some site = sym (ap (λ (zs : List SiteId). slice_get zs n) (sites_same scenario whole found same)) ∙ own in
      subst (λ (ds : List Seen). AreBackTo tells (cores ++ dbms ∷ []) ds found (n + 1)) (sym (map-set seen disks site.0 new))
      (one_more_back scenario whole found same tells cores (map seen disks) n site (seen old) (seen new) there seen_there back dbms image
      (λ home journal declared on. stood home journal on (same_rule scenario whole found same site line home is declared)))

-- the coordinator stands on where disk 0 stays
pub coordinator_stays : (tells : Bool) (manager : GlobalManager AnyPolicy) (disks now : List Seen) (found : Found) → slice_get now 0 ≡ slice_get disks 0 → CoordinatorBack tells manager disks found
    → CoordinatorBack tells manager now found
coordinator_stays tells manager disks now found same back = record { disk = back.disk; own = same ∙ back.own; holds = back.holds }

-- the coordinator
pub first_image : {D : Type 0} (seen : D → Seen) (disks : List D) (old : D) → 0 < length disks → old ≡ get_or disks 0 old → (image : Image) → slice_get (images_of (map seen disks)) 0 ≡ Some image → image ≡ (seen old).image
first_image seen disks old some read image at =
    let there : slice_get disks 0 ≡ Some old = slice_get_read disks (length disks) 0 old refl some read in
    slice_get-one (images_of (map seen disks)) 0 image (seen old).image at (mapped_at (λ (disk : Seen). disk.image) (map seen disks) 0 (seen old) (mapped_at seen disks 0 old there))

pub coordinator_back : {D : Type 0} (seen : D → Seen) (tells : Bool) (disks : List D) (old new : D) → 0 < length disks → (manager : GlobalManager AnyPolicy) (members : List Participant) (rule : Policy) (found : Found)
    → members ≡ protocols (plan_of found) → rule ≡ policy (plan_of found) → (seen new).image ≡ (seen old).image
    → ((journal : Journal CoordRecord) → Coordinator.IsFoundOn (seen old).image members journal
    → Manager.Stands policy_is tells manager (seen new) (record { protocols = members; policy = rule }) (Manager.own_programs []) (opened_coordinator members journal))
    → CoordinatorBack tells manager (map seen (slice_set disks 0 new)) found
coordinator_back seen tells disks old new some manager members rule found same policy_same image stood = record {
  disk = seen new;
  own = mapped_at seen (slice_set disks 0 new) 0 new (get_put disks 0 new some);
  holds = λ journal is on.
      subst (λ (ps : List Participant). Manager.Stands policy_is tells manager (seen new) (record { protocols = ps; policy = policy (plan_of found) }) (Manager.own_programs []) (opened_coordinator ps journal)) same
      (subst (λ (r : Policy). Manager.Stands policy_is tells manager (seen new) (record { protocols = members; policy = r }) (Manager.own_programs []) (opened_coordinator members journal)) policy_same
      (stood journal
      (subst (λ (i : Image). Coordinator.IsFoundOn i members journal) image (subst (λ (ps : List Participant). Coordinator.IsFoundOn (seen new).image ps journal) (sym same) on))));
}
