-- When what a coordinator keeps of its attempts is what its past says.
use Rattle.std.specs.Prelude.{ℕ, Bool, true, false, Option, Some, None, List, reverse}
use Rattle.mdb_base.specs.declared.names.Tid.{Tid}
use Rattle.mdb_base.specs.declared.names.Tx.{Tx}
use Rattle.mdb_base.specs.Names.{same_tx}
use Rattle.mdb_base.specs.Words.{first_where, those}
use Rattle.presumptions.specs.declared.Participant.{Participant}
use Rattle.fed_rules.specs.CoordPast.{CoordPast, begun_tids, is_open}
use Rattle.global_exec.specs.Agreement.{IsOfPast}
use Rattle.global_exec.specs.Live.{Live}

-- a list, and for how many further items there is room
pub record Listing (A : Type 0) : Type 0 where
  pub listed : List A
  pub spare : ℕ

-- just the undecided attempts are carried out, each as far as the past says
abbrev pub IsLiveAs : List Participant → CoordPast → Tid → Bool → Option Live → Type 0
IsLiveAs protocols past tid true (Some live) = IsOfPast protocols past tid live
IsLiveAs protocols past tid true None = ⊥
IsLiveAs protocols past tid false (Some live) = ⊥
IsLiveAs protocols past tid false None = Unit {0}

-- the undecided attempts, the last one first
abbrev pub open_tids : CoordPast → List Tid
open_tids past = those (is_open past) (begun_tids past)

-- the last one of these attempts that is of the transaction
abbrev pub last_of : Tx → List Tid → Option Tid
last_of tx tids = first_where (λ tid. same_tx tid.tx tx) (reverse tids)
