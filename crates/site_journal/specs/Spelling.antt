-- The payloads of a site's records: a tag and then the fields, in the order in which they stand. Numbers are big-endian.
use Rattle.std.specs.Prelude.{ℕ, ◌==◌, List, ◌++◌, Option, Some, None, All, if◌then◌else◌}
use Rattle.mdb_base.specs.declared.names.Engine.{Engine}
use Rattle.mdb_base.specs.declared.names.SiteId.{SiteId}
use Rattle.mdb_base.specs.declared.names.Tid.{Tid}
use Rattle.mdb_base.specs.declared.rows.Put.{Put}
use Rattle.presumptions.specs.declared.Protocol.{Protocol}
use Rattle.presumptions.specs.declared.Decision.{Decision}
use Rattle.fed_rules.specs.declared.records.SiteRecord.{SiteRecord}
use Rattle.fed_rules.specs.declared.records.SiteRecord.TheVariants.{Setup, Start, Prepared, Ended, Local, Checkpoint}
use Rattle.fed_rules.specs.declared.sums.SiteSum.{SiteSum}
use Rattle.byte_numbers.specs.Numbers.{number, number_at, ◌>>=◌}
use Rattle.field_bytes.specs.Fields.{IsTid}
use Rattle.record_fields.specs.Field.{Field, a_number, both, made, whole_of}
use Rattle.record_fields.specs.Named.{IsSite, a_site, an_engine, a_protocol, a_tid, a_decision, writes}
use Rattle.record_fields.specs.Sums.{tid_number, tids, maybe, MaybeFits, prepared, doubtful}
use Rattle.mdb_base.specs.Rising.{IsRising}

abbrev pub setup : Field (SiteId × (Engine × (Protocol × List Put)))
setup = both a_site (both an_engine (both a_protocol writes))

abbrev pub start : Field ℕ
start = a_number 4

abbrev pub ended : Field (Tid × Decision)
ended = both a_tid a_decision

-- the attempt, its serial number, and its writes
abbrev pub local : Field (Tid × (ℕ × List Put))
local = both a_tid (both (a_number 8) writes)

-- the site, its engine and protocol; the last epoch, the greatest serial number and ticket, and what may be the ticket's owner; the rows, the local
-- attempts that committed, rising, and those in doubt, by rising attempt
abbrev pub checkpoint : Field SiteSum
checkpoint =
    made (λ p. record {
      site = p.0;
      engine = p.1.0;
      protocol = p.1.1.0;
      epoch = p.1.1.1.0;
      counter = p.1.1.1.1.0;
      published = p.1.1.1.1.1.0;
      owner = p.1.1.1.1.1.1.0;
      rows = p.1.1.1.1.1.1.1.0;
      locals = p.1.1.1.1.1.1.1.1.0;
      doubtful = p.1.1.1.1.1.1.1.1.1;
    }) (λ sum. (sum.site, (sum.engine, (sum.protocol, (sum.epoch, (sum.counter, (sum.published, (sum.owner, (sum.rows, (sum.locals, sum.doubtful)))))))))) (both a_site (both an_engine (both a_protocol (both (a_number 4) (both (a_number 8) (both (a_number 8) (both (maybe a_tid) (both writes (both tids doubtful)))))))))

-- the payload
abbrev pub spelling : SiteRecord → List ℕ
spelling (Setup site engine protocol items) = number 1 1 ++ setup.spelling (site, (engine, (protocol, items)))
spelling (Start epoch) = number 1 2 ++ start.spelling epoch
spelling (Prepared tid epoch serial ticket rows) = number 1 3 ++ prepared.spelling (tid, (epoch, (serial, (ticket, rows))))
spelling (Ended tid decision) = number 1 4 ++ ended.spelling (tid, decision)
spelling (Local tid serial rows) = number 1 5 ++ local.spelling (tid, (serial, rows))
spelling (Checkpoint sum) = number 1 6 ++ checkpoint.spelling sum

-- what can be written: each part in its range, and rows that rise
abbrev pub IsRecord : SiteRecord → Type 0
IsRecord (Setup site engine protocol items) = setup.Fits (site, (engine, (protocol, items)))
IsRecord (Start epoch) = start.Fits epoch
IsRecord (Prepared tid epoch serial ticket rows) = prepared.Fits (tid, (epoch, (serial, (ticket, rows))))
IsRecord (Ended tid decision) = ended.Fits (tid, decision)
IsRecord (Local tid serial rows) = local.Fits (tid, (serial, rows))
IsRecord (Checkpoint sum) = checkpoint.Fits sum

-- the names in a Checkpoint lie in their ranges, and its attempts rise
pub record IsSumInRange (sum : SiteSum) : Type 0 where
  pub site : IsSite sum.site
  pub owner : MaybeFits IsTid sum.owner
  pub locals : All IsTid sum.locals
  pub locals_rise : IsRising tid_number sum.locals
  pub doubtful : All (λ held. IsTid held.tid) sum.doubtful
  pub doubtful_rise : IsRising (λ held. tid_number held.tid) sum.doubtful

-- its names lie in their ranges
abbrev pub InRange : SiteRecord → Type 0
InRange (Setup site engine protocol items) = IsSite site
InRange (Start epoch) = Unit {0}
InRange (Prepared tid epoch serial ticket rows) = IsTid tid
InRange (Ended tid decision) = IsTid tid
InRange (Local tid serial rows) = IsTid tid
InRange (Checkpoint sum) = IsSumInRange sum

unfoldable pub setup_at : List ℕ → Option (SiteRecord × List ℕ)
setup_at bytes = setup.reading bytes >>= λ f. Some (Setup f.0.0 f.0.1.0 f.0.1.1.0 f.0.1.1.1, f.1)

unfoldable pub start_at : List ℕ → Option (SiteRecord × List ℕ)
start_at bytes = start.reading bytes >>= λ f. Some (Start f.0, f.1)

unfoldable pub prepared_at : List ℕ → Option (SiteRecord × List ℕ)
prepared_at bytes = prepared.reading bytes >>= λ f. Some (Prepared f.0.0 f.0.1.0 f.0.1.1.0 f.0.1.1.1.0 f.0.1.1.1.1, f.1)

unfoldable pub ended_at : List ℕ → Option (SiteRecord × List ℕ)
ended_at bytes = ended.reading bytes >>= λ f. Some (Ended f.0.0 f.0.1, f.1)

unfoldable pub local_at : List ℕ → Option (SiteRecord × List ℕ)
local_at bytes = local.reading bytes >>= λ f. Some (Local f.0.0 f.0.1.0 f.0.1.1, f.1)

unfoldable pub checkpoint_at : List ℕ → Option (SiteRecord × List ℕ)
checkpoint_at bytes = checkpoint.reading bytes >>= λ f. Some (Checkpoint f.0, f.1)

-- the record behind this tag
abbrev pub tagged_at : ℕ → List ℕ → Option (SiteRecord × List ℕ)
tagged_at tag bytes =
    if tag == 1 then setup_at bytes
    else (if tag == 2 then start_at bytes
    else (if tag == 3 then prepared_at bytes else (if tag == 4 then ended_at bytes else (if tag == 5 then local_at bytes else (if tag == 6 then checkpoint_at bytes else None)))))

-- the record that a payload spells, all of it
unfoldable pub reading : List ℕ → Option SiteRecord
reading payload = whole_of (number_at 1 payload >>= λ tag. tagged_at tag.0 tag.1)
