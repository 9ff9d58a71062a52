-- Lines for which the tables stand already, and whose disk calls are to be made yet.
use Rattle.std.specs.Prelude.{◌≡◌, Bool, false, None, List, ◌∷◌}
use Rattle.mdb_base.specs.declared.names.Tx.{Tx}
use Rattle.mdb_base.specs.Words.{Each}
use Rattle.field_bytes.specs.Fields.{IsTid}
use Rattle.fed_rules.specs.declared.events.CoordEvent.{CoordEvent}
use Rattle.fed_rules.specs.declared.events.CoordStep.{CoordStep}
use Rattle.fed_rules.specs.declared.records.CoordRecord.{CoordRecord}
use Rattle.fed_rules.specs.Disk.{Call}
use Rattle.fed_rules.specs.Happenings.{comes_up, is_down, stops}
use Rattle.fed_rules.specs.CoordPast.{CoordHappening, CoordPast, attempts_of, begun_by, begun_tids}
use Rattle.fed_rules.specs.CoordPast as Past
use Rattle.fed_rules.specs.Policies.{Policy}
use Rattle.fed_rules.specs.Right.{MayPrint}
use Rattle.coord_laws.specs.Pasts.{IsNumbered}
use Rattle.journal_disk.specs.Disk.{Seen}
use Rattle.coord_core.specs.declared.coord.CoordCore.{CoordCore}
use Rattle.coord_tables.specs.Trees.{noted}
use Rattle.coord_core.specs.Found.{was_found}
use Rattle.coord_core.specs.Store.{Keeps}
use Rattle.coord_tables.specs.Tables.{IsServing}
use Rattle.coord_tables.specs.Terms.{Terms, IsSound, IsUsual, answer_of}

-- the line is the answer to the event, and the step what it says and sends, but that another cycle may be printed
pub record IsAnswered (step : CoordStep) (terms : Terms) (past : CoordPast) (event : CoordEvent) (x : CoordHappening) : Type 0 where
  pub usual : IsUsual event
  pub line : answer_of terms past event ≡ x
  pub heard : x.event ≡ event
  pub numbered : IsNumbered past event
  pub goes : stops x.answer ≡ false
  pub stays : comes_up x.answer ≡ false
  pub answer : MayPrint terms.protocols past x x.event step.answer
  pub sends : step.sends ≡ x.sends

-- the core's tables stand for the line, and its store for the lines before it
pub record IsReady {P : Type 0} (test : P → Policy) (tells : Bool) (core : CoordCore P) (seen : Seen) (terms : Terms) (past : CoordPast) (x : CoordHappening) : Type 0 where
  pub stored : Keeps (was_found past) tells seen core.store (Past.disk past) (Past.trip past)
  pub up : is_down past ≡ false
  pub protocols : core.protocols ≡ terms.protocols
  pub policy : test core.policy ≡ terms.policy
  pub sound : IsSound terms past
  pub in_range : Each IsTid (begun_tids (x ∷ past))
  pub serving : IsServing core.tables terms (x ∷ past)
  pub begun : (tx : Tx) → noted core.begun.listed tx ≡ attempts_of (x ∷ past) tx

-- so it is of a line that begins no attempt, and makes these disk calls
pub record IsPending {P : Type 0} (test : P → Policy) (tells : Bool) (calls : List (Call CoordRecord)) (step : CoordStep) (core : CoordCore P) (seen : Seen) (terms : Terms) (past : CoordPast) (event : CoordEvent) (x : CoordHappening) : Type 0 where
  pub answered : IsAnswered step terms past event x
  pub ready : IsReady test tells core seen terms past x
  pub none_begun : begun_by x.answer ≡ None
  pub makes : x.calls ≡ calls

-- for every line that it stands for the fact holds
abbrev pub EachLine : (Terms → CoordPast → CoordEvent → CoordHappening → Type 0) → (Terms → CoordPast → CoordEvent → CoordHappening → Type 0) → Type 0
EachLine K P = (terms : Terms) (past : CoordPast) (event : CoordEvent) (x : CoordHappening) → K terms past event x → P terms past event x
