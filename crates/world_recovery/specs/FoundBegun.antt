-- The global attempts that records name, as they stand there.
use Rattle.std.specs.Prelude.{List, [], ◌∷◌, ◌++◌, map}
use Rattle.std.specs.List.{flat_map}
use Rattle.mdb_base.specs.declared.names.Tid.{Tid}
use Rattle.fed_rules.specs.declared.records.CoordRecord.{CoordRecord}
use Rattle.fed_rules.specs.declared.records.CoordRecord.TheVariants.{Abort, Checkpoint, Commit, End, Initiation}
use Rattle.fed_rules.specs.declared.records.SiteRecord.{SiteRecord}
use Rattle.fed_rules.specs.declared.sums.CommittedAttempt.{CommittedAttempt}
use Rattle.fed_rules.specs.declared.sums.OpenAttempt.{OpenAttempt}
use Rattle.fed_rules.specs.Resumed.{names}
use Rattle.frame_journal.specs.Journal.{Kept, records}

-- that of a record of the coordinator; a Checkpoint behind others has none that isn't named before it
abbrev pub coord_names : CoordRecord → List Tid
coord_names (Initiation tid participants) = tid ∷ []
coord_names (Commit tid tickets) = tid ∷ []
coord_names (Abort tid participants) = tid ∷ []
coord_names (End tid) = tid ∷ []
coord_names (Checkpoint sum) = []

-- those of committed attempts, and of open ones
abbrev pub committed_names : List CommittedAttempt → List Tid
committed_names committed = map (λ attempt. attempt.tid) committed

abbrev pub open_names : List OpenAttempt → List Tid
open_names open_attempts = map (λ attempt. attempt.tid) open_attempts

-- those of the first one, which may be a Checkpoint
abbrev pub first_names : CoordRecord → List Tid
first_names (Checkpoint sum) = committed_names sum.committed ++ open_names sum.open_attempts
first_names (Initiation tid participants) = tid ∷ []
first_names (Commit tid tickets) = tid ∷ []
first_names (Abort tid participants) = tid ∷ []
first_names (End tid) = tid ∷ []

-- those of a coordinator's records, the oldest first
abbrev pub coordinator_tids : List CoordRecord → List Tid
coordinator_tids [] = []
coordinator_tids (first ∷ newer) = first_names first ++ flat_map coord_names newer

-- those of a site's
abbrev pub site_tids : List SiteRecord → List Tid
site_tids entries = flat_map names entries

-- and of several sites'
abbrev pub sites_tids : List (Kept SiteRecord) → List Tid
sites_tids journals = flat_map (λ journal. site_tids (records journal)) journals
