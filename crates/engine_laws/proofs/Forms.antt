-- What each rule may answer: an access or the taking of the ticket is stopped by a wait, or by the refusal of who was in the way.
use Rattle.std.proofs.Common.{◌≡◌, Bool, true, false, cond, Option, Some, None, List, refl, ap}
use Rattle.mdb_base.specs.declared.acts.PlainAct.{PlainAct}
use Rattle.mdb_base.specs.declared.acts.PlainAct.TheVariants.{Read, Write}
use Rattle.mdb_base.specs.declared.names.Engine.{Engine}
use Rattle.mdb_base.specs.declared.names.Engine.TheVariants.{Locking, Timestamp, Validation, Multiversion}
use Rattle.mdb_base.specs.declared.replies.Reply.{Reply}
use Rattle.mdb_base.specs.declared.replies.Reply.TheVariants.{Done, Value, Ticket, Wait, Refused, Unknown}
use Rattle.mdb_base.specs.declared.replies.Why.TheVariants.{Die, Late}
use Rattle.mdb_base.specs.Words.{least, greatest}
use Rattle.fed_rules.specs.Runs.{Start, EngineLine, Run}
use Rattle.fed_rules.specs.Replies.{Rule, rule, wait_die, late_or_wait, wait_for_writer, is_younger, age_of, holders, ticket_holders, younger_in_the_way, older_writers, younger_takers, older_takers, has_written, version_stop, or_reply}
use Rattle.engine_laws.proofs.Granted.{is_grant}

-- nothing, a wait, or a refusal that names who was in the way
abbrev pub IsStop : Option Reply → Type 0
IsStop None = Unit {0}
IsStop (Some (Wait by)) = Unit {0}
IsStop (Some (Refused (Die by))) = Unit {0}
IsStop (Some (Refused (Late by))) = Unit {0}
IsStop (Some reply) = ⊥

-- a rule that stops in no other way
pub record HasForm (by : Rule) : Type 0 where
  pub access : (start : Start) (lines : List EngineLine) (me : Run) (act : PlainAct) → IsStop (by.access start lines me act)
  pub ticket : (start : Start) (lines : List EngineLine) (me : Run) → IsStop (by.ticket start lines me)

wait_die_stops : (me : Run) (o : Option Run) → IsStop (wait_die me o)
wait_die_stops me None = tt
wait_die_stops me (Some oldest) = by_test (is_younger me oldest)
  where
    by_test : (b : Bool) → IsStop (Some (cond b (Wait oldest.tid) (Refused (Die oldest.tid))))
    by_test true = tt
    by_test false = tt

late_or_wait_stops : (youngest older : Option Run) → IsStop (late_or_wait youngest older)
late_or_wait_stops (Some youngest) older = tt
late_or_wait_stops None (Some older) = tt
late_or_wait_stops None None = tt

wait_for_writer_stops : (own : Bool) (older : Option Run) → IsStop (wait_for_writer own older)
wait_for_writer_stops true older = tt
wait_for_writer_stops false older = late_or_wait_stops None older

version_stops : (start : Start) (lines : List EngineLine) (me : Run) (act : PlainAct) → IsStop (version_stop start lines me act)
version_stops start lines me (Read key) =
    wait_for_writer_stops (has_written key me) (greatest age_of (older_writers start lines me (Read key)))
version_stops start lines me (Write key value) =
    late_or_wait_stops (greatest age_of (younger_in_the_way start lines me (Write key value)))
    (greatest age_of (older_writers start lines me (Write key value)))

age_takes : (start : Start) (lines : List EngineLine) (me : Run)
    → IsStop (late_or_wait (greatest age_of (younger_takers start lines me)) (greatest age_of (older_takers start lines me)))
age_takes start lines me =
    late_or_wait_stops (greatest age_of (younger_takers start lines me)) (greatest age_of (older_takers start lines me))

pub forms : (kind : Engine) → HasForm (rule kind)
forms Locking = record {
  access = λ start lines me act. wait_die_stops me (least age_of (holders start lines me act));
  ticket = λ start lines me. wait_die_stops me (least age_of (ticket_holders start lines me));
}
forms Timestamp = record {
  access = λ start lines me act. late_or_wait_stops (greatest age_of (younger_in_the_way start lines me act))
      (greatest age_of (older_writers start lines me act));
  ticket = age_takes;
}
forms Validation = record { access = λ start lines me act. tt; ticket = λ start lines me. tt }
forms Multiversion = record { access = version_stops; ticket = age_takes }

-- what is granted isn't stopped
pub form_grants : (stop : Option Reply) (grant reply : Reply) → IsStop stop → is_grant reply ≡ true → reply ≡ or_reply stop grant
    → (stop ≡ None) × (reply ≡ grant)
form_grants None grant reply form granted is = (refl, is)
form_grants (Some (Wait by)) grant reply form granted is = let none : is_grant reply ≡ false = ap is_grant is in cc
form_grants (Some (Refused why)) grant reply form granted is = let none : is_grant reply ≡ false = ap is_grant is in cc
form_grants (Some (Value value)) grant reply form granted is = absurd form
form_grants (Some Done) grant reply form granted is = absurd form
form_grants (Some (Ticket n)) grant reply form granted is = absurd form
form_grants (Some Unknown) grant reply form granted is = absurd form
