-- The granted accesses of an attempt at a site: those of its run when its record was appended. Accesses stand newest first.
use Rattle.std.specs.Prelude.{Bool, false, cond, Option, Some, None, List, [], ◌∷◌}
use Rattle.mdb_base.specs.declared.names.Tid.{Tid}
use Rattle.mdb_base.specs.Names.{same_tid}
use Rattle.mdb_base.specs.Words.{some_of}
use Rattle.fed_rules.specs.declared.records.SiteRecord.{SiteRecord}
use Rattle.fed_rules.specs.declared.records.SiteRecord.TheVariants.{Prepared, Local}
use Rattle.fed_rules.specs.Disk.{Call, Append}
use Rattle.fed_rules.specs.Runs.{Access, Run}
use Rattle.fed_rules.specs.SitePast.{SitePast, live}
use Rattle.fed_rules.specs.SiteRecords.{Home}

-- whether the call appends a record by which the attempt commits, or is prepared to
abbrev pub seals : Tid → Call SiteRecord → Bool
seals tid (Append (Prepared prepared epoch number ticket writes)) = same_tid prepared tid
seals tid (Append (Local done number writes)) = same_tid done tid
seals tid call = false

abbrev pub acts_of : Option Run → List Access
acts_of None = []
acts_of (Some run) = run.acts

-- the granted accesses of an attempt at a site: those of its live run at the line that appended its record, the last such line
abbrev pub acts_at : Home → SitePast → Tid → List Access
acts_at home [] tid = []
acts_at home (x ∷ past) tid = cond (some_of (seals tid) x.calls) (acts_of (live home past tid)) (acts_at home past tid)
