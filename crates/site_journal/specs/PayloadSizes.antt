-- A record's payload has as many bytes as the rules count for it.
use Rattle.std.proofs.Common.{◌≡◌, ◌+◌, ◌*◌, List, [], ◌∷◌, ◌++◌, length, Option, Some, None, refl, arith}
use Rattle.std.proofs.lemmas.List.{length-append}
use Rattle.mdb_base.specs.declared.names.Tid.{Tid}
use Rattle.presumptions.specs.declared.Decision.TheVariants as Decided
use Rattle.fed_rules.specs.declared.records.SiteRecord.{SiteRecord}
use Rattle.fed_rules.specs.declared.records.SiteRecord.TheVariants.{Setup, Start, Prepared, Ended, Local, Checkpoint}
use Rattle.fed_rules.specs.declared.sums.DoubtfulSum.{DoubtfulSum}
use Rattle.fed_rules.specs.declared.sums.SiteSum.{SiteSum}
use Rattle.fed_rules.specs.SiteRecords.{site_payload, doubtful_size, owner_size}
use Rattle.record_fields.specs.Items.{joined}
use Rattle.record_fields.specs.Named.{a_tid, writes}
use Rattle.record_fields.specs.Sums.{maybe, a_doubtful, tids, doubtful}
use Rattle.record_fields.proofs.ForCallers.{length-joined}
use Rattle.record_fields.proofs.ForCallers as sizes
use Rattle.site_journal.specs.Spelling.{checkpoint, spelling}

pub tids_size : (locals : List Tid) → length (joined a_tid.spelling locals) ≡ 5 * length locals
tids_size = length-joined a_tid.spelling 5 (λ tid. refl)

pub doubtful_sizes : (helds : List DoubtfulSum) → length (joined a_doubtful.spelling helds) ≡ doubtful_size helds
doubtful_sizes [] = refl
doubtful_sizes (held ∷ more) = omega (arith, length-append (a_doubtful.spelling held) (joined a_doubtful.spelling more), sizes.doubtful_size held, doubtful_sizes more)

pub owner_sizes : (owner : Option Tid) → length ((maybe a_tid).spelling owner) ≡ owner_size owner
owner_sizes None = refl
owner_sizes (Some tid) = refl

-- the bytes of a Checkpoint behind its first one
pub parts_size : (sum : SiteSum) → length (checkpoint.spelling sum) ≡ 23 + owner_size sum.owner + (2 + 10 * length sum.rows) + (2 + 5 * length sum.locals) + (2 + doubtful_size sum.doubtful)
parts_size sum =
    let lists = tids.spelling sum.locals ++ doubtful.spelling sum.doubtful in
    let tables = writes.spelling sum.rows ++ lists in
    omega (
      arith,
      length-append ((maybe a_tid).spelling sum.owner) tables,
      length-append (writes.spelling sum.rows) lists,
      length-append (tids.spelling sum.locals) (doubtful.spelling sum.doubtful),
      owner_sizes sum.owner,
      sizes.rows_size sum.rows,
      tids_size sum.locals,
      doubtful_sizes sum.doubtful,
    )

-- a record's payload has as many bytes as the rules count for it
pub payload_has_size : (entry : SiteRecord) → length (spelling entry) ≡ site_payload entry
payload_has_size (Setup site engine protocol items) = omega (arith, sizes.rows_size items)
payload_has_size (Start epoch) = refl
payload_has_size (Prepared tid epoch serial ticket rows) = omega (arith, sizes.rows_size rows)
payload_has_size (Ended tid Decided.Commit) = refl
payload_has_size (Ended tid Decided.Abort) = refl
payload_has_size (Local tid serial rows) = omega (arith, sizes.rows_size rows)
payload_has_size (Checkpoint sum) = omega (arith, parts_size sum)
