-- The attempts of a table of known attempts: all, or only the undecided ones.
use Rattle.std.specs.Prelude.{Bool, not, ◌||◌, is_none, List, map}
use Rattle.mdb_base.specs.declared.names.Tid.{Tid}
use Rattle.mdb_base.specs.Words.{those}
use Rattle.protocol_table.specs.declared.known.Known.{Known}

-- whether the attempt is listed, where all are or only the undecided ones
abbrev pub is_listed : Bool → Known → Bool
is_listed undecided known = not undecided || is_none known.decision

-- the listed attempts, in the order of the table
abbrev pub listed_tids : Bool → List Known → List Tid
listed_tids undecided table = map (λ known. known.tid) (those (is_listed undecided) table)
