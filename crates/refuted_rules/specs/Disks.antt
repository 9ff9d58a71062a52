-- A rule of disks that looks right and isn't: that every record survives that was appended.
use Rattle.std.specs.Prelude.{List}
use Rattle.order_laws.specs.Chains.{In}
use Rattle.fed_rules.specs.declared.records.SiteRecord.{SiteRecord}
use Rattle.fed_rules.specs.Disk.{Call, Disk, after_calls}
use Rattle.fed_rules.specs.SiteRecords.{site_frame}
use Rattle.fed_rules.specs.Durable.{IsSound}

-- a record that was appended to a sound disk is gone behind these calls
pub record LosesARecord : Type 0 where
  pub disk : Disk SiteRecord
  pub sound : IsSound site_frame disk
  pub calls : List (Call SiteRecord)
  pub kept : SiteRecord
  pub was_kept : In kept disk.records
  pub gone : In kept (after_calls site_frame disk calls).records → ⊥
