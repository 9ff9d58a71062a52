-- The replies of a locking site, in the words of the field.
use Rattle.std.proofs.Common.{◌≡◌, ℕ, true, not, ◌&&◌, Option, Some, None, is_some, List, refl, sym, ap, subst}
use Rattle.std.proofs.lemmas.Bool.{and_parts, and_from, not-true, not_from_false}
use Rattle.mdb_base.specs.declared.names.Engine.TheVariants.{Locking}
use Rattle.mdb_base.specs.declared.acts.PlainAct.{PlainAct}
use Rattle.mdb_base.specs.declared.acts.PlainAct.TheVariants.{Read, Write}
use Rattle.mdb_base.specs.Names.{same_tid}
use Rattle.mdb_base.proofs.ForCallers.{among_some, some_among}
use Rattle.fed_rules.specs.Runs.{Start, EngineLine, Run, unended, has_ticket, is_sealed}
use Rattle.fed_rules.specs.Replies.{conflicts, granted, access_stop, ticket_stop, holders, ticket_holders, is_other, is_in_the_way, or_reply, seal_stop}
use Rattle.fed_rules.specs.EngineLines.{IsRight, IsStart}
use Rattle.engine_laws.specs.Laws.{AlwaysBy}
use Rattle.engine_laws.specs.ReplyLaws.{IsUnended, IsHolder, IsTicketHolder, HasTaken, IsWaitDie, AnswersByLocks, TakesByLocks, AlwaysSeals, next_ticket}
use Rattle.engine_laws.proofs.Drawers.{all_drew, same_age}
use Rattle.engine_laws.proofs.Granted.{is_grant}
use Rattle.engine_laws.proofs.Relations.{Lists, lists_unended, lists_those, lists_as, wait_die_is}

-- an answer of the table or of the run is a grant
pub granted_is : (start : Start) (lines : List EngineLine) (me : Run) (act : PlainAct)
    → is_grant (granted start lines me act) ≡ true
granted_is start lines me (Read key) = refl
granted_is start lines me (Write key value) = refl

-- who has taken the ticket
pub taken_from : (run : Run) → has_ticket run ≡ true → HasTaken run
taken_from run e = by_ticket run.ticket refl e
  where
    by_ticket : (o : Option ℕ) → run.ticket ≡ o → is_some o ≡ true → HasTaken run
    by_ticket None is e = cc
    by_ticket (Some t) is e = (t, is)

-- who isn't sealed
pub open_from : (run : Run) → not (is_sealed run) ≡ true → run.sealed ≡ None
open_from run e = by_number run.sealed refl e
  where
    by_number : (o : Option ℕ) → run.sealed ≡ o → not (is_some o) ≡ true → run.sealed ≡ None
    by_number None is e = is
    by_number (Some n) is e = cc

lists_holders : (start : Start) (lines : List EngineLine) (me : Run) (act : PlainAct) → IsRight start lines
    → Lists (holders start lines me act) (IsHolder start lines me act)
lists_holders start lines me act right =
    lists_as (holders start lines me act) (λ run. IsUnended start lines run × ((is_other me run && is_in_the_way act run) ≡ true))
    (IsHolder start lines me act)
    (λ run (at, passed).
    let parts = and_parts (is_other me run) (is_in_the_way act run) passed in
    record {
      unended = at;
      other = not-true (same_tid run.tid me.tid) parts.0;
      conflict =
          some_among (conflicts act) run.acts parts.1;
    })
    (λ run h. (
      h.unended,
      and_from (is_other me run) (is_in_the_way act run) (not_from_false (same_tid run.tid me.tid) h.other)
          (among_some (conflicts act) run.acts h.conflict),
    ))
    (lists_those (unended start lines) (IsUnended start lines) (λ run. is_other me run && is_in_the_way act run)
    (lists_unended start lines right))

lists_ticket_holders : (start : Start) (lines : List EngineLine) (me : Run) → IsRight start lines
    → Lists (ticket_holders start lines me) (IsTicketHolder start lines me)
lists_ticket_holders start lines me right =
    lists_as (ticket_holders start lines me) (λ run. IsUnended start lines run
    × ((is_other me run && has_ticket run && not (is_sealed run)) ≡ true)) (IsTicketHolder start lines me)
    (λ run (at, passed).
    let parts = and_parts (is_other me run && has_ticket run) (not (is_sealed run)) passed in
    let both = and_parts (is_other me run) (has_ticket run) parts.0 in
    record {
      unended = at;
      other = not-true (same_tid run.tid me.tid) both.0;
      taken = taken_from run both.1;
      open_run =
          open_from run parts.1;
    })
    (λ run h. (
      h.unended,
      and_from (is_other me run && has_ticket run) (not (is_sealed run))
          (and_from (is_other me run) (has_ticket run) (not_from_false (same_tid run.tid me.tid) h.other) (ap is_some h.taken.1))
          (ap (λ o. not (is_some o)) h.open_run),
    ))
    (lists_those (unended start lines) (IsUnended start lines) (λ run. is_other me run && has_ticket run && not (is_sealed run))
    (lists_unended start lines right))

-- unended runs of one age are of one attempt
pub unended_one_age : (start : Start) (lines : List EngineLine) → IsStart start → IsRight start lines → (a b : Run)
    → IsUnended start lines a → IsUnended start lines b → a.age ≡ b.age → a.tid ≡ b.tid
unended_one_age start lines begun right a b at_a at_b =
    let drew = (all_drew start lines begun right).unended in same_age start lines a b (drew a.tid a at_a) (drew b.tid b at_b)

pub locking_answers : AlwaysBy Locking AnswersByLocks
locking_answers start lines kind begun right me act =
    let by_rule = ap (λ k. or_reply (access_stop k start lines me act) (granted start lines me act)) kind in
    subst (IsWaitDie (IsHolder start lines me act) me (granted start lines me act)) (sym by_rule)
    (wait_die_is (IsHolder start lines me act) me (granted start lines me act) (holders start lines me act)
    (lists_holders start lines me act right)
    (λ a b h g. unended_one_age start lines begun right a b h.unended g.unended) (granted_is start lines me act))

pub locking_takes : AlwaysBy Locking TakesByLocks
locking_takes start lines kind begun right me =
    let grant = next_ticket start lines in
    let by_rule = ap (λ k. or_reply (ticket_stop k start lines me) grant) kind in
    subst (IsWaitDie (IsTicketHolder start lines me) me grant) (sym by_rule)
    (wait_die_is (IsTicketHolder start lines me) me grant (ticket_holders start lines me)
    (lists_ticket_holders start lines me right)
    (λ a b h g. unended_one_age start lines begun right a b h.unended g.unended) refl)

pub locking_seals : AlwaysBy Locking AlwaysSeals
locking_seals start lines kind begun right me = ap (λ k. seal_stop k start lines me) kind
