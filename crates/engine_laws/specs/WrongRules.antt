-- Rules that look right and aren't: by each of them a list of lines is right, from a good start, that isn't serial.
use Rattle.std.specs.Prelude.{◌≡◌, ◌≤◌, not, ◌&&◌, map, Option, Some, None, List, ◌++◌}
use Rattle.mdb_base.specs.declared.acts.PlainAct.{PlainAct}
use Rattle.mdb_base.specs.declared.acts.PlainAct.TheVariants.{Read, Write}
use Rattle.mdb_base.specs.declared.names.Engine.{Engine}
use Rattle.mdb_base.specs.declared.names.Key.{Key}
use Rattle.mdb_base.specs.declared.replies.Reply.{Reply}
use Rattle.mdb_base.specs.declared.replies.Why.{Why}
use Rattle.mdb_base.specs.Rows.{look_up}
use Rattle.mdb_base.specs.Words.{Each, those, least, greatest, is_empty}
use Rattle.fed_rules.specs.Runs.{Start, EngineLine, Run, unended, committed, committed_since, published, is_sealed, number, table}
use Rattle.fed_rules.specs.Replies.{is_in_the_way, has_written, has_read, is_other, is_younger, key_of, access_key, age_of, wait_die, late_or_wait, older_writers, younger_in_the_way, or_why, invalid_by, moved, Rule, locking, timestamp, validation, multiversion}
use Rattle.fed_rules.specs.EngineLines.{IsRight, IsRightBy, IsStart}
use Rattle.fed_rules.specs.SerialRuns.{IsSerial}
use Rattle.engine_laws.specs.Laws.{IsLeft, EachOnce}

-- by this rule a list of lines is right, from a good start, that isn't serial
pub record IsRefuted (by : Rule) : Type 0 where
  pub start : Start
  pub good : IsStart start
  pub lines : List EngineLine
  pub right : IsRightBy by start lines
  pub not_serial : IsSerial (look_up start.rows) (committed start lines) → ⊥

-- the holders that aren't sealed
abbrev pub unsealed_holders : Start → List EngineLine → Run → PlainAct → List Run
unsealed_holders start lines me act =
    those (λ run. is_other me run && not (is_sealed run) && is_in_the_way act run) (unended start lines)

-- locking that frees the keys of a run when it is sealed
abbrev pub locking_until_sealed : Rule
locking_until_sealed =
    record locking {
      access = λ start lines me act. wait_die me (least age_of (unsealed_holders start lines me act));
    }

-- the younger runs in the way, without the reads of committed ones
abbrev pub younger_without_reads : Start → List EngineLine → Run → PlainAct → List Run
younger_without_reads start lines me act =
    those (λ run. is_younger me run && is_in_the_way act run) (unended start lines)
    ++ those (λ run. is_younger me run && has_written (key_of act) run) (committed start lines)

-- timestamp order that forgets what committed runs have read
abbrev pub timestamps_without_committed_reads : Rule
timestamps_without_committed_reads =
    record timestamp {
      access = λ start lines me act.
          late_or_wait (greatest age_of (younger_without_reads start lines me act)) (greatest age_of (older_writers start lines me act));
    }

-- timestamp order in which nobody waits for an older run that has written the key
abbrev pub timestamps_without_waits : Rule
timestamps_without_waits =
    record timestamp {
      access = λ start lines me act. late_or_wait (greatest age_of (younger_in_the_way start lines me act)) None;
    }

-- multiversion whose reads are answered the newest version
abbrev pub versions_newest : Rule
versions_newest = record multiversion { reads_from = λ start lines me. table start lines }

-- only writes are stopped
abbrev pub access_for : PlainAct → Option Reply → Option Reply
access_for (Read key) stop = None
access_for (Write key value) stop = stop

-- multiversion in which no read waits for an older writer
abbrev pub versions_without_waits : Rule
versions_without_waits =
    record multiversion {
      access = λ start lines me act. access_for act (late_or_wait (greatest age_of (younger_in_the_way start lines me act)) (greatest age_of (older_writers start lines me act)));
    }

abbrev pub worst_of : (Key → List Run) → Option Key → Option Why
worst_of spoilers None = None
worst_of spoilers (Some key) = invalid_by key (greatest number (spoilers key))

-- what refuses a sealing where these are the runs that make a key bad
abbrev pub invalid_with : (Key → List Run) → Run → Option Why
invalid_with spoilers me =
    worst_of spoilers (least (λ key. key.0) (those (λ key. not (is_empty (spoilers key))) (map access_key me.acts)))

-- of the runs that make a key bad those that committed
abbrev pub committed_spoilers : Start → List EngineLine → Run → Key → List Run
committed_spoilers start lines me key =
    those (λ run. has_read key me && has_written key run) (committed_since start lines me.tid)

-- of the runs that make a key bad those that are sealed
abbrev pub sealed_spoilers : Start → List EngineLine → Run → Key → List Run
sealed_spoilers start lines me key =
    those (λ run. is_other me run && is_sealed run && has_written key run) (unended start lines)

-- validation without the writes of prepared runs
abbrev pub validation_without_prepared : Rule
validation_without_prepared =
    record validation {
      seal = λ start lines me. or_why (invalid_with (committed_spoilers start lines me) me) (moved start lines me.ticket);
    }

-- validation without the runs that committed since this one began
abbrev pub validation_without_committed : Rule
validation_without_committed =
    record validation {
      seal = λ start lines me. or_why (invalid_with (sealed_spoilers start lines me) me) (moved start lines me.ticket);
    }

-- a restart whose numbers start again at 1
pub record StartsAgainAtOne (start : Start) (lines : List EngineLine) (next : Start) : Type 0 where
  pub kind : next.kind ≡ start.kind
  pub rows : (key : Key) → look_up next.rows key ≡ table start lines key
  pub left : Each (IsLeft start lines) next.doubtful
  pub once : EachOnce next.doubtful
  pub published : published start lines ≤ next.published
  pub counter : next.counter ≡ 0

-- after such a restart a list of lines is right that isn't serial
pub record IsRestartRefuted (kind : Engine) : Type 0 where
  pub start : Start
  pub is_kind : start.kind ≡ kind
  pub good : IsStart start
  pub lines : List EngineLine
  pub right : IsRight start lines
  pub next : Start
  pub restart : StartsAgainAtOne start lines next
  pub later : List EngineLine
  pub right_later : IsRight next later
  pub not_serial : IsSerial (look_up next.rows) (committed next later) → ⊥
