-- What is answered where a world goes on from the journals that were found, by what its actors answer.
use Rattle.std.proofs.Common.{◌≡◌, Bool, Some, List, Result, Ok, Err, IfOk, IfErr, sym, ◌∙◌, subst}
use Rattle.fed_rules.specs.Found.{Found}
use Rattle.journal_disk.specs.Disk.{Seen}
use Rattle.any_engine.specs.declared.engine.AnyEngine.{AnyEngine}
use Rattle.conservative_take.specs.declared.any_policy.AnyPolicy.{AnyPolicy}
use Rattle.global_manager.specs.declared.manager.GlobalManager.{GlobalManager}
use Rattle.local_dbms.specs.declared.dbms.LocalDbms.{LocalDbms}
use Rattle.found_disks.specs.declared.errors.ReopenErr.{ReopenErr}
use Rattle.found_disks.specs.Faults.{faults_of}
use Rattle.found_disks.specs.Reading.{FaultsTell, images_of}
use Rattle.found_disks.proofs.ForCallers.{told_later}
use Rattle.fed_world.specs.declared.world.World.{World}
use Rattle.fed_world.specs.SettingUp.{IsNewWorld}
use Rattle.world_recovery.specs.declared.reopening.Actors.{Actors}
use Rattle.world_recovery.specs.declared.reopening.Plan.{Plan}
use Rattle.world_recovery.specs.Reopening.{AreActorsBack, AreBack, CoordinatorBack, GoesOnFrom, HasActors, IsDiskOrMemory, ReopensAs}
use Rattle.world_recovery.proofs.BackSteps.{disk_or_memory}

pub reopens_as : (tells : Bool) (outcome : Result World ReopenErr) (old new : List Seen) → IfOk outcome (λ world. GoesOnFrom tells world old new) → IfErr outcome IsDiskOrMemory
    → ReopensAs tells outcome old new
reopens_as tells (Ok world) old new goes failed = goes
reopens_as tells (Err why) old new goes failed = disk_or_memory why (images_of old) failed

-- the counts tell so over a call before that moved none
pub told_on : {T : Type 0} (outcome : Result T ReopenErr) (old mid new : List Seen) → faults_of mid ≡ faults_of old → FaultsTell outcome mid new → FaultsTell outcome old new
told_on (Ok done) old mid new same told = told ∙ same
told_on (Err why) old mid new same told = told_later why old mid new same told

-- the world that is made of actors that go on from the journals
pub made_back : (tells : Bool) (world : World) (plan : Plan) (actors : Actors) (disks : List Seen) (found : Found)
    → IsNewWorld world plan.scenario actors.coordinator actors.sites.items (Some plan.begun) → AreActorsBack tells actors disks found → HasActors tells world plan disks found
made_back tells world plan actors disks found made back = record {
  coordinator = subst (λ (m : GlobalManager AnyPolicy). CoordinatorBack tells m disks found) (sym made.coordinator_is) back.coordinator;
  sites = subst (λ (ds : List (LocalDbms AnyEngine)). AreBack tells ds disks found) (sym made.cores_are) back.sites;
  made = subst (λ (m : GlobalManager AnyPolicy). IsNewWorld world plan.scenario m world.cores.sites.items.items (Some plan.begun)) (sym made.coordinator_is)
      (subst (λ (ds : List (LocalDbms AnyEngine)). IsNewWorld world plan.scenario actors.coordinator ds (Some plan.begun)) (sym made.cores_are) made);
}
