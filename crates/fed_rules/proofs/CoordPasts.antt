-- What the past of the coordinator says.
use Rattle.std.proofs.Common.{◌≡◌, ℕ, true}
use Rattle.std.proofs.lemmas.Bool.{and_parts}
use Rattle.mdb_base.specs.declared.names.SiteId.{SiteId}
use Rattle.mdb_base.specs.declared.names.Tid.{Tid}
use Rattle.mdb_base.specs.declared.replies.Reply.{Reply}
use Rattle.fed_rules.specs.Coord.{did_counts}
use Rattle.fed_rules.specs.CoordPast.{CoordPast, is_open}
use Rattle.fed_rules.specs.declared.events.CoordEvent.{CoordEvent}
use Rattle.fed_rules.specs.declared.events.CoordEvent.TheVariants as Ev

-- what may count: the attempt is undecided, the reply fits, and its epoch is the known one
pub counts_open : (past : CoordPast) (site : SiteId) (g : Tid) (epoch n : ℕ) (reply : Reply) → did_counts past site g epoch n reply ≡ true → is_open past g ≡ true
counts_open past site g epoch n reply e = (and_parts _ _ (and_parts _ _ e).0).0

abbrev pub BeginsNothing : CoordEvent → Type 0
BeginsNothing (Ev.Go tid steps) = ⊥
BeginsNothing event = Unit {0}

-- so is each plain line that is no `go`
abbrev pub IsNoGo : CoordEvent → Type 0
IsNoGo (Ev.Go tid steps) = ⊥
IsNoGo event = Unit {0}
