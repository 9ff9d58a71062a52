-- How many bytes a Checkpoint has, and that its lists are short enough for their lengths.
use Rattle.std.proofs.Common.{◌≡◌, ◌+◌, ◌*◌, ◌≤◌, List, [], ◌∷◌, length, arith}
use Rattle.fed_rules.specs.declared.sums.DoubtfulSum.{DoubtfulSum}
use Rattle.fed_rules.specs.declared.sums.SiteSum.{SiteSum}
use Rattle.fed_rules.specs.SiteRecords.{doubtful_size}
use Rattle.record_fields.specs.Items.{joined}
use Rattle.record_fields.specs.Named.{a_tid}
use Rattle.record_fields.specs.Sums.{maybe, a_doubtful}
use Rattle.site_journal.specs.Spelling.{checkpoint}
use Rattle.site_journal.specs.PayloadSizes.{parts_size, doubtful_sizes, owner_sizes, tids_size}

pub checkpoint_size : (sum : SiteSum)
    → length (checkpoint.spelling sum) ≡ 29 + length ((maybe a_tid).spelling sum.owner) + 10 * length sum.rows + length (joined a_tid.spelling sum.locals) + length (joined a_doubtful.spelling sum.doubtful)
checkpoint_size sum = omega (arith, parts_size sum, owner_sizes sum.owner, tids_size sum.locals, doubtful_sizes sum.doubtful)

few : (doubtful : List DoubtfulSum) → length doubtful ≤ doubtful_size doubtful
few [] = omega arith
few (held ∷ more) = omega (arith, few more)

pub few_doubtful : (sum : SiteSum) → length sum.doubtful ≤ length (checkpoint.spelling sum)
few_doubtful sum = omega (arith, few sum.doubtful, parts_size sum)

pub few_locals : (sum : SiteSum) → length sum.locals ≤ length (checkpoint.spelling sum)
few_locals sum = omega (arith, parts_size sum)
