-- What stops an operation or a sealing, by each of the rules: a wait for a run or a refusal by one. So what holds of each of these holds of what is said.
use Rattle.std.proofs.Common.{◌≡◌, ℕ, ◌+◌, ◌==◌, nat_lt, Bool, true, false, cond, Option, Some, None, List, ◌++◌, refl}
use Rattle.mdb_base.specs.declared.acts.PlainAct.{PlainAct}
use Rattle.mdb_base.specs.declared.acts.PlainAct.TheVariants.{Read, Write}
use Rattle.mdb_base.specs.declared.names.Engine.{Engine}
use Rattle.mdb_base.specs.declared.names.Engine.TheVariants.{Locking, Timestamp, Validation, Multiversion}
use Rattle.mdb_base.specs.declared.names.Key.{Key}
use Rattle.mdb_base.specs.declared.names.Tid.{Tid}
use Rattle.mdb_base.specs.declared.replies.Reply.{Reply}
use Rattle.mdb_base.specs.declared.replies.Reply.TheVariants as Reply_is
use Rattle.mdb_base.specs.declared.replies.Why.{Why}
use Rattle.mdb_base.specs.declared.replies.Why.TheVariants as Because
use Rattle.mdb_base.specs.Words.{Each, greatest, least}
use Rattle.mdb_base.proofs.ForCallers.{append_each, each_filtered, greatest_among, least_among}
use Rattle.fed_rules.specs.Replies.{age_of, age_stop, age_ticket_stop, has_written, holders, invalid, invalid_at, invalid_by, late_or_wait, moved, moved_by, older_takers, older_writers, or_why, rule, seal_stop, ticket_holders, version_stop, wait_die, wait_for_writer, younger_in_the_way, younger_takers}
use Rattle.fed_rules.specs.Runs.{EngineLine, Run, Start, aborted, committed, owner, published, unended}

-- the fact holds of what is there, if anything is
abbrev pub IfSome : {A : Type 0} → (A → Type 0) → Option A → Type 0
IfSome P None = Unit {0}
IfSome P (Some x) = P x

-- the fact holds of every run
pub record OfRuns (Q : Run → Type 0) (start : Start) (lines : List EngineLine) : Type 0 where
  pub live : Each Q (unended start lines)
  pub done : Each Q (committed start lines)
  pub gone : Each Q (aborted start lines)

-- what is said of a run of which the one fact holds has the other one
pub record SaysOf (Q : Run → Type 0) (P : Reply → Type 0) : Type 0 where
  pub waits : (run : Run) → Q run → P (Reply_is.Wait run.tid)
  pub dies : (run : Run) → Q run → P (Reply_is.Refused (Because.Die run.tid))
  pub late : (run : Run) → Q run → P (Reply_is.Refused (Because.Late run.tid))

module _ (Q : Run → Type 0) (P : Reply → Type 0) (says : SaysOf Q P) (start : Start) (lines : List EngineLine) (of : OfRuns Q start lines) (me : Run) where
  oldest : (runs : List Run) → Each Q runs → IfSome Q (least age_of runs)
  oldest runs h = by_value (least age_of runs) refl
    where
      by_value : (o : Option Run) → least age_of runs ≡ o → IfSome Q o
      by_value None e = tt
      by_value (Some run) e = least_among Q age_of runs run h e

  youngest : (runs : List Run) → Each Q runs → IfSome Q (greatest age_of runs)
  youngest runs h = by_value (greatest age_of runs) refl
    where
      by_value : (o : Option Run) → greatest age_of runs ≡ o → IfSome Q o
      by_value None e = tt
      by_value (Some run) e = greatest_among Q age_of runs run h e

  die_says : (o : Option Run) → IfSome Q o → IfSome P (wait_die me o)
  die_says None h = tt
  die_says (Some run) h = by_test (nat_lt me.age run.age)
    where
      by_test : (b : Bool) → P (cond b (Reply_is.Wait run.tid) (Reply_is.Refused (Because.Die run.tid)))
      by_test true = says.waits run h
      by_test false = says.dies run h

  late_says : (younger older : Option Run) → IfSome Q younger → IfSome Q older → IfSome P (late_or_wait younger older)
  late_says (Some run) older y o = says.late run y
  late_says None (Some run) y o = says.waits run o
  late_says None None y o = tt

  both : Each Q (unended start lines ++ committed start lines)
  both = append_each Q (unended start lines) (committed start lines) of.live of.done

  older_says : (act : PlainAct) → IfSome Q (greatest age_of (older_writers start lines me act))
  older_says act = youngest (older_writers start lines me act) (each_filtered Q _ (unended start lines) of.live)

  age_says : (act : PlainAct) → IfSome P (age_stop start lines me act)
  age_says act =
      late_says (greatest age_of (younger_in_the_way start lines me act)) (greatest age_of (older_writers start lines me act))
      (youngest (younger_in_the_way start lines me act) (append_each Q _ _ (each_filtered Q _ (unended start lines ++ committed start lines) both) (each_filtered Q _ (aborted start lines) of.gone)))
      (older_says act)

  writer_says : (b : Bool) (o : Option Run) → IfSome Q o → IfSome P (wait_for_writer b o)
  writer_says true o h = tt
  writer_says false o h = late_says None o tt h

  version_says : (act : PlainAct) → IfSome P (version_stop start lines me act)
  version_says (Read key) = writer_says (has_written key me) (greatest age_of (older_writers start lines me (Read key))) (older_says (Read key))
  version_says (Write key value) = age_says (Write key value)

  takers_say : IfSome P (age_ticket_stop start lines me)
  takers_say =
      late_says (greatest age_of (younger_takers start lines me)) (greatest age_of (older_takers start lines me))
      (youngest (younger_takers start lines me) (each_filtered Q _ (unended start lines ++ committed start lines) both))
      (youngest (older_takers start lines me) (each_filtered Q _ (unended start lines) of.live))

  -- what stops an access
  pub access_says : (kind : Engine) (act : PlainAct) → IfSome P ((rule kind).access start lines me act)
  access_says Locking act = die_says (least age_of (holders start lines me act)) (oldest (holders start lines me act) (each_filtered Q _ (unended start lines) of.live))
  access_says Timestamp act = age_says act
  access_says Validation act = tt
  access_says Multiversion act = version_says act

  -- what stops the taking of a ticket
  pub ticket_says : (kind : Engine) → IfSome P ((rule kind).ticket start lines me)
  ticket_says Locking = die_says (least age_of (ticket_holders start lines me)) (oldest (ticket_holders start lines me) (each_filtered Q _ (unended start lines) of.live))
  ticket_says Timestamp = takers_say
  ticket_says Validation = tt
  ticket_says Multiversion = takers_say

-- what stops a sealing
module _ (P : Option Why → Type 0) (none : P None) (bad : (tid : Tid) (key : Key) → P (Some (Because.Invalid tid key)))
    (late : (tid : Tid) → P (Some (Because.TicketMoved tid))) (start : Start) (lines : List EngineLine) (me : Run) where
  bad_says : (key : Key) (o : Option Run) → P (invalid_by key o)
  bad_says key None = none
  bad_says key (Some run) = bad run.tid key

  key_says : (o : Option Key) → P (invalid_at start lines me o)
  key_says None = none
  key_says (Some key) = bad_says key _

  moved_says : (o : Option ℕ) → P (moved start lines o)
  moved_says None = none
  moved_says (Some ticket) = by_test (ticket == published start lines + 1) (moved_by (owner start lines)) (owned (owner start lines))
    where
      owned : (o : Option Tid) → P (moved_by o)
      owned None = none
      owned (Some tid) = late tid

      by_test : (b : Bool) (o : Option Why) → P o → P (cond b None o)
      by_test true o h = none
      by_test false o h = h

  either_says : (a b : Option Why) → P a → P b → P (or_why a b)
  either_says None b p q = q
  either_says (Some why) b p q = p

  pub seal_says : (kind : Engine) → P (seal_stop kind start lines me)
  seal_says Locking = none
  seal_says Timestamp = none
  seal_says Multiversion = none
  seal_says Validation = either_says (invalid start lines me) (moved start lines me.ticket) (key_says _) (moved_says me.ticket)
