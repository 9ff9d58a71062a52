-- Notes that agree with a list of engine lines agree with the next line, and with a start.
use Rattle.std.proofs.Common.{◌≡◌, ℕ, Bool, true, false, cond, Option, Some, None, List, [], ◌∷◌, map, refl, sym, ap, ◌∙◌, subst, max, arith}
use Rattle.mdb_base.specs.Words.{or_else}
use Rattle.mdb_base.specs.Names.{same_tid}
use Rattle.mdb_base.proofs.ForCallers.{same_tid-equal}
use Rattle.mdb_base.specs.declared.names.Tid.{Tid}
use Rattle.mdb_base.specs.declared.acts.PlainAct.{PlainAct}
use Rattle.mdb_base.specs.declared.acts.PlainAct.TheVariants.{Read, Write}
use Rattle.mdb_base.specs.declared.replies.Reply.{Reply}
use Rattle.mdb_base.specs.declared.replies.Reply.TheVariants as Reply_is
use Rattle.fed_rules.specs.declared.runs.Kept.{Kept}
use Rattle.fed_rules.specs.declared.runs.Sealed.{Sealed as Handed}
use Rattle.fed_rules.specs.Runs.{Start, EngineLine, Acts, Seals, Run, tid_of, changed, run_at, ticket_of, restored, restored_at}
use Rattle.fed_rules.specs.Runs.{acted as run_acted}
use Rattle.engine_contract.specs.Calls.{SealsRun}
use Rattle.engine_tests.specs.declared.stage.Stage.{Stage}
use Rattle.engine_tests.specs.declared.stage.Stage.TheVariants.{Sealed}
use Rattle.engine_tests.specs.declared.stage.Note.{Note}
use Rattle.engine_tests.specs.Stages.{Agrees, noted, stage_of, live, acted}

-- a note of what a line leaves of its attempt agrees with the lines behind it
next : (notes : List Note) (start : Start) (older : List EngineLine) (line : EngineLine) (stage : Stage) →
    ((u : Tid) → stage_of (run_at start older u) ≡ noted notes u) →
    stage_of (changed line (run_at start older (tid_of line))) ≡ stage →
    (u : Tid) → stage_of (run_at start (line ∷ older) u) ≡ noted (record { tid = tid_of line; stage = stage } ∷ notes) u
next notes start older line stage agree own u = by_name (same_tid (tid_of line) u) refl
  where
    by_name : (b : Bool) → same_tid (tid_of line) u ≡ b →
        stage_of (cond b (changed line (run_at start older u)) (run_at start older u)) ≡ cond b stage (noted notes u)
    by_name true same = subst (λ t. stage_of (changed line (run_at start older t)) ≡ stage) (same_tid-equal _ _ same) own
    by_name false other = agree u

-- what an answered access leaves of a run's stage
acted_stage : (reply : Reply) (act : PlainAct) (run : Run) → stage_of (run_acted reply act run) ≡ acted reply (stage_of (Some run))
acted_stage (Reply_is.Refused why) act run = refl
acted_stage (Reply_is.Wait by) act run = refl
acted_stage (Reply_is.Ticket n) act run = refl
acted_stage Reply_is.Unknown act run = refl
acted_stage (Reply_is.Value value) (Read key) run = refl
acted_stage (Reply_is.Value value) (Write key v) run = refl
acted_stage Reply_is.Done (Read key) run = refl
acted_stage Reply_is.Done (Write key value) run = refl

acted_line : (tid : Tid) (act : PlainAct) (reply : Reply) (o : Option Run) → live (stage_of o) ≡ true →
    stage_of (changed (Acts tid act reply) o) ≡ acted reply (stage_of o)
acted_line tid act reply None h = let clash : false ≡ true = h in cc
acted_line tid act reply (Some run) h = acted_stage reply act run

-- notes agree with an access of a live run
pub acts_agree : {notes : List Note} {most last : ℕ} {start : Start} {older : List EngineLine} → Agrees notes most last start older →
    (tid : Tid) (act : PlainAct) (reply : Reply) → live (noted notes tid) ≡ true →
    Agrees (record { tid = tid; stage = acted reply (noted notes tid) } ∷ notes) most last start (Acts tid act reply ∷ older)
acts_agree {notes} {most} {last} {start} {older} agrees tid act reply h =
    let now = agrees.stages tid in
    record {
      stages = next notes start older (Acts tid act reply) _ agrees.stages (acted_line tid act reply _ (ap live now ∙ h) ∙ ap (acted reply) now);
      counter = agrees.counter;
      published = agrees.published;
    }

sealed_line : (tid : Tid) (n : ℕ) (o : Option Run) → live (stage_of o) ≡ true → stage_of (changed (Seals tid n) o) ≡ Sealed
sealed_line tid n None h = let clash : false ≡ true = h in cc
sealed_line tid n (Some run) h = refl

-- the ticket that a sealing hands out is its run's
handed_ticket : (tid : Tid) (start : Start) (older : List EngineLine) (handed : Handed) (o : Option Run) → run_at start older tid ≡ o →
    live (stage_of o) ≡ true → SealsRun tid handed start older → ticket_of o ≡ or_else handed.ticket 0
handed_ticket tid start older handed None e h given = let clash : false ≡ true = h in cc
handed_ticket tid start older handed (Some run) e h given = ap (λ t. or_else t 0) (sym (given run e).ticket)

-- and with a sealing
pub seals_agree : {notes : List Note} {most last : ℕ} {start : Start} {older : List EngineLine} → Agrees notes most last start older →
    (tid : Tid) (handed : Handed) → live (noted notes tid) ≡ true → SealsRun tid handed start older →
    Agrees (record { tid = tid; stage = Sealed } ∷ notes) (max most handed.number) (max last (or_else handed.ticket 0)) start (Seals tid handed.number ∷ older)
seals_agree {notes} {most} {last} {start} {older} agrees tid handed h given =
    let lives : live (stage_of (run_at start older tid)) ≡ true = ap live (agrees.stages tid) ∙ h in
    let below = agrees.counter in
    let beneath = agrees.published in
    let same = handed_ticket tid start older handed _ refl lives given in
    record {
      stages = next notes start older (Seals tid handed.number) Sealed agrees.stages (sealed_line tid handed.number _ lives);
      counter = omega arith;
      published = omega arith;
    }
