use Rattle.federation_run.proofs.doors.SiteLockSiteDoor.fate.Goals as goal

-- the door told nothing before
pub returns : goal.returns
returns g c = λ before none. none
