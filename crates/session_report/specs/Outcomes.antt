-- The outcomes of the global attempts that were begun, as what tells of commits gives them.
use Rattle.std.specs.Prelude.{◌≡◌, ◌<◌, ◌^◌, ◌&&◌, Bool, true, false, cond, Option, List, map}
use Rattle.mdb_base.specs.declared.names.Tid.{Tid}
use Rattle.mdb_base.specs.declared.names.Tx.{Tx}
use Rattle.mdb_base.specs.Names.{same_tid}
use Rattle.mdb_base.specs.Words.{holds_of, some_of}
use Rattle.presumptions.specs.declared.Decision.{Decision}
use Rattle.presumptions.specs.declared.Decision.TheVariants as Decided
use Rattle.fed_rules.specs.declared.report.Outcome.{Outcome}

-- of each transaction this attempt is given: the one that committed globally
abbrev pub Gives : (Tx → Option Tid) → (Tx → Option Tid → Type 0) → Type 0
Gives committed gives = (tx : Tx) (found : Option Tid) → tx.0 < 2 ^ 32 → gives tx found → found ≡ committed tx

-- how an attempt ended: by commit where it is the one of its transaction that committed
abbrev pub decision_by : (Tx → Option Tid) → Tid → Decision
decision_by committed tid = cond (holds_of (λ found. same_tid found tid) (committed tid.tx)) Decided.Commit Decided.Abort

-- how these attempts ended
abbrev pub outcomes_by : (Tx → Option Tid) → List Tid → List Outcome
outcomes_by committed tids = map (λ tid. record { tid = tid; decision = decision_by committed tid }) tids

abbrev pub is_abort : Decision → Bool
is_abort Decided.Commit = false
is_abort Decided.Abort = true

-- whether this says that the attempt ended by abort
abbrev pub refuses : Tid → Outcome → Bool
refuses tid outcome = same_tid outcome.tid tid && is_abort outcome.decision

-- whether the attempt is a global one that ended by abort
abbrev pub is_refused : List Outcome → Tid → Bool
is_refused outcomes tid = some_of (refuses tid) outcomes
