-- The local attempts that committed.
use Rattle.std.specs.Prelude.{List, [], ◌∷◌}
use Rattle.mdb_base.specs.declared.names.Tid.{Tid}
use Rattle.fed_rules.specs.declared.records.SiteRecord.{SiteRecord}
use Rattle.fed_rules.specs.declared.records.SiteRecord.TheVariants.{Local}

-- the attempts of the Local records, the newest first
abbrev pub local_tids : List SiteRecord → List Tid
local_tids [] = []
local_tids (Local tid number writes ∷ records) = tid ∷ local_tids records
local_tids (newest ∷ records) = local_tids records
