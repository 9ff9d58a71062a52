-- What the records of a site say together: the content of a Checkpoint, and what a journal says in which a Checkpoint stands for all before it.
use Rattle.std.specs.Prelude.{ℕ, max, nat_lt, cond, Option, Some, None, List, [], ◌∷◌, ◌++◌, map}
use Rattle.mdb_base.specs.declared.names.Tid.{Tid}
use Rattle.mdb_base.specs.Names.{tid_before}
use Rattle.mdb_base.specs.Words.{inserted}
use Rattle.fed_rules.specs.declared.records.SiteRecord.{SiteRecord}
use Rattle.fed_rules.specs.declared.records.SiteRecord.TheVariants.{Start, Prepared, Local, Checkpoint}
use Rattle.fed_rules.specs.declared.sums.SiteSum.{SiteSum}
use Rattle.fed_rules.specs.Runs as Runs
use Rattle.fed_rules.specs.SiteRecords.{Home, Held, kept_held, doubts, last_number, last_ticket, ticket_owner, installs, rows_after, site_rows}

-- the epoch of the last Start, or this one where there is none
abbrev pub epoch_with : ℕ → List SiteRecord → ℕ
epoch_with epoch [] = epoch
epoch_with epoch (Start newer ∷ records) = newer
epoch_with epoch (newest ∷ records) = epoch_with epoch records

-- the attempts of the Local records and these ones, rising
abbrev pub locals_with : List Tid → List SiteRecord → List Tid
locals_with tids [] = tids
locals_with tids (Local tid number writes ∷ records) = inserted tid_before tid (locals_with tids records)
locals_with tids (newest ∷ records) = locals_with tids records

-- what the records of a site say together
abbrev pub site_sum : Home → List SiteRecord → SiteSum
site_sum home records =
    record {
      site = home.site;
      engine = home.engine;
      protocol = home.protocol;
      epoch = epoch_with 0 records;
      counter = last_number records;
      published = last_ticket records;
      owner = ticket_owner records;
      rows = site_rows home records;
      locals = locals_with [] records;
      doubtful = doubts records;
    }

-- a Checkpoint has the Prepared records of those in doubt
abbrev pub carried : List Held → List SiteRecord
carried doubtful = map (λ held. Prepared held.tid held.epoch held.number held.ticket held.writes) doubtful

-- what a Checkpoint with this content and the records behind it say together
abbrev pub sum_with : SiteSum → List SiteRecord → SiteSum
sum_with sum newer =
    record {
      site = sum.site;
      engine = sum.engine;
      protocol = sum.protocol;
      epoch = epoch_with sum.epoch newer;
      counter = max (last_number newer) sum.counter;
      published = max (last_ticket newer) sum.published;
      owner = cond (nat_lt sum.published (last_ticket newer)) (ticket_owner newer) sum.owner;
      rows = rows_after sum.rows (installs (newer ++ carried sum.doubtful));
      locals = locals_with sum.locals newer;
      doubtful = doubts (newer ++ carried sum.doubtful);
    }

-- the content of the last Checkpoint
abbrev pub last_sum : List SiteRecord → Option SiteSum
last_sum [] = None
last_sum (Checkpoint sum ∷ records) = Some sum
last_sum (newest ∷ records) = last_sum records

-- the records behind the last Checkpoint
abbrev pub behind_sum : List SiteRecord → List SiteRecord
behind_sum [] = []
behind_sum (Checkpoint sum ∷ records) = []
behind_sum (newest ∷ records) = newest ∷ behind_sum records

abbrev pub sum_behind : Home → List SiteRecord → Option SiteSum → SiteSum
sum_behind home journal None = site_sum home journal
sum_behind home journal (Some sum) = sum_with sum (behind_sum journal)

-- what a journal says, in which a Checkpoint stands for all before it
abbrev pub journal_sum : Home → List SiteRecord → SiteSum
journal_sum home journal = sum_behind home journal (last_sum journal)

-- what an engine starts from
abbrev pub start_from : SiteSum → Runs.Start
start_from sum =
    record {
      kind = sum.engine;
      rows = sum.rows;
      doubtful = map kept_held sum.doubtful;
      counter = sum.counter;
      published = sum.published;
      owner = sum.owner;
    }
