-- The first records of a site fit their frames.
use Rattle.std.proofs.Common.{ℕ, ◌<◌, ◌≤◌, ◌^◌, List, length, arith}
use Rattle.mdb_base.specs.declared.names.Engine.{Engine}
use Rattle.mdb_base.specs.declared.names.SiteId.{SiteId}
use Rattle.mdb_base.specs.declared.rows.Put.{Put}
use Rattle.presumptions.specs.declared.Protocol.{Protocol}
use Rattle.fed_rules.specs.declared.records.SiteRecord.{SiteRecord}
use Rattle.fed_rules.specs.declared.records.SiteRecord.TheVariants as Rec
use Rattle.fed_rules.specs.SiteRecords.{site_payload}
use Rattle.journal_disk.specs.Frames.{IsPayload}
use Rattle.site_journal.specs.PayloadSizes.{payload_has_size}
use Rattle.site_journal.specs.Spelling.{spelling}

pub payload_of : (entry : SiteRecord) → site_payload entry < 2 ^ 16 → IsPayload (spelling entry)
payload_of entry few = let e = payload_has_size entry in omega arith

-- the first two records fit their frames
pub setup_fits : (site : SiteId) (engine : Engine) (protocol : Protocol) (items : List Put) → length items ≤ 4096 → IsPayload (spelling (Rec.Setup site engine protocol items))
setup_fits site engine protocol items few = payload_of (Rec.Setup site engine protocol items) (omega arith)

pub start_fits : (epoch : ℕ) → IsPayload (spelling (Rec.Start epoch))
start_fits epoch = payload_of (Rec.Start epoch) (omega arith)
