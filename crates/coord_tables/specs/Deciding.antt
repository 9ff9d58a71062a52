-- What a line that decides an attempt abort comes to.
use Rattle.std.specs.Prelude.{◌≡◌, Bool, true, cond, ◌&&◌, Option, Some, None, List}
use Rattle.mdb_base.specs.declared.names.Tid.{Tid}
use Rattle.mdb_base.specs.Names.{same_tid}
use Rattle.presumptions.specs.declared.Decision.TheVariants as Decided
use Rattle.presumptions.specs.declared.Participant.{Participant}
use Rattle.fed_rules.specs.declared.answers.Answer.TheVariants as Say
use Rattle.fed_rules.specs.declared.answers.Cause.{Cause}
use Rattle.fed_rules.specs.declared.events.CoordEvent.{CoordEvent}
use Rattle.fed_rules.specs.declared.records.CoordRecord.{CoordRecord}
use Rattle.fed_rules.specs.declared.records.CoordRecord.TheVariants as Rec
use Rattle.fed_rules.specs.Coord.{aborts}
use Rattle.fed_rules.specs.CoordRecords.{class_of, has_abort}
use Rattle.fed_rules.specs.CoordPast.{CoordHappening, CoordPast, has_sent, is_about, is_open, is_prepare_of, participants}
use Rattle.fed_rules.specs.Right.{MayPrint}
use Rattle.coord_laws.specs.Pasts.{IsNumbered}
use Rattle.protocol_table.specs.declared.known.Known.{Known}
use Rattle.protocol_table.specs.Attempts.{changed}
use Rattle.protocol_table.specs.Ends.{initiate}
use Rattle.coord_tables.specs.Terms.{IsUsual, Terms, answer_of}

-- the Abort record of an attempt, where it has one: all participants presume nothing, and a Prepare was sent
abbrev pub abort_of : List Participant → CoordPast → Tid → Option CoordRecord
abort_of protocols past tid =
    cond (has_abort (class_of (participants protocols past tid)) && has_sent (is_prepare_of tid) past) (Some (Rec.Abort tid (participants protocols past tid))) None

-- the table once the decision's record was written, where it is the attempt's first one or not
abbrev pub recorded : Bool → Tid → List Known → List Known
recorded first tid table = cond first (changed tid initiate table) table

-- by the rules the event decides the undecided attempt abort, and with this cause it may be printed
pub record IsAborting (terms : Terms) (past : CoordPast) (event : CoordEvent) (tid : Tid) (printed : Cause) : Type 0 where
  pub usual : IsUsual event
  pub numbered : IsNumbered past event
  pub undecided : is_open past tid ≡ true
  pub cause : Cause
  pub line : answer_of terms past event ≡ aborts terms.protocols past event tid cause
  pub about : (t : Tid) → is_about t event ≡ same_tid tid t
  pub prints : (x : CoordHappening) (forgets : Bool) → x.event ≡ event → x.answer ≡ Say.Decides Decided.Abort (Some cause) forgets
      → MayPrint terms.protocols past x event (Say.Decides Decided.Abort (Some printed) forgets)
