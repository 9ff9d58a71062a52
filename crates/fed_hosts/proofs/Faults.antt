-- What a call leaves of the count of a host's disk.
use Rattle.std.proofs.Common.{Err, Ok, ◌≡◌, ℕ, refl}
use Rattle.mdb_base.specs.Counts.{HasCauseOf}
use Rattle.actor_store.specs.declared.errors.StepErr.{StepErr}
use Rattle.actor_store.specs.declared.errors.StepErr.TheVariants as Err_is
use Rattle.fed_hosts.specs.Keeps.{IsCounting}
use Rattle.fed_hosts.specs.Serving.{has_failed}

-- a call that wasn't answered
pub counting : {T : Type 0} (before now : ℕ) (why : StepErr) → HasCauseOf {T = T} Err_is.Disk before now (Err why) → IsCounting (has_failed why) before now
counting before now Err_is.Memory cause = cause.clean (λ e. cc)
counting before now Err_is.Disk cause = cause.failed refl

-- and one that was
pub clean : {T : Type 0} (before now : ℕ) (answer : T) → HasCauseOf Err_is.Disk before now (Ok answer) → now ≡ before
clean before now answer cause = cause.clean (λ e. cc)
