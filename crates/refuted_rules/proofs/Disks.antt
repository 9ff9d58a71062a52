-- A record whose frame isn't synced is lost by a stop.
use Rattle.std.proofs.Common.{[], ◌∷◌, inl, refl, arith}
use Rattle.fed_rules.specs.declared.records.SiteRecord.TheVariants as Rec
use Rattle.fed_rules.specs.Disk.{Append, Stops, after_call, empty_disk}
use Rattle.fed_rules.specs.SiteRecords.{site_frame}
use Rattle.refuted_rules.specs.Disks.{LosesARecord}

pub unsynced_lost : LosesARecord
unsynced_lost =
    record {
      disk = after_call site_frame empty_disk (Append (Rec.Start 1));
      sound = record { frames = omega arith; synced = omega arith };
      calls = Stops 0 ∷ [];
      kept = Rec.Start 1;
      was_kept = inl refl;
      gone = λ i. i;
    }
