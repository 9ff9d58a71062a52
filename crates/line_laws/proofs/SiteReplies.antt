-- What a site replies to an operation is a reply, and what refuses a sealing a refusal.
use Rattle.std.proofs.Common.{◌≡◌, ℕ, ◌+◌, true, Option, Some, None, List, [], ◌∷◌, refl}
use Rattle.mdb_base.specs.declared.acts.PlainAct.{PlainAct}
use Rattle.mdb_base.specs.declared.acts.PlainAct.TheVariants.{Read, Write}
use Rattle.mdb_base.specs.declared.names.Engine.{Engine}
use Rattle.mdb_base.specs.declared.replies.Reply.{Reply}
use Rattle.mdb_base.specs.declared.replies.Reply.TheVariants as Reply_is
use Rattle.mdb_base.specs.declared.replies.Why.{Why}
use Rattle.mdb_base.proofs.ForCallers.{each_all}
use Rattle.fed_rules.specs.Replies.{Rule, access_reply, granted_by, or_reply, rule, seal_stop, ticket_reply}
use Rattle.fed_rules.specs.Runs.{Access, Got, Wrote, EngineLine, Run, Start, aborted, committed, published, unended}
use Rattle.fed_rules.specs.Site.{kept_reply_of}
use Rattle.engine_laws.proofs.ForCallers.{IfSome, OfRuns, SaysOf, access_says, seal_says, ticket_says}
use Rattle.line_text.specs.Fits.{is_no, is_reply}

abbrev pub IsOperation : Reply → Type 0
IsOperation reply = is_reply reply ≡ true

-- what stops an operation
stops_so : SaysOf (λ run. Unit {0}) IsOperation
stops_so = record { waits = λ run h. refl; dies = λ run h. refl; late = λ run h. refl }

of_runs : (start : Start) (lines : List EngineLine) → OfRuns (λ run. Unit {0}) start lines
of_runs start lines = record {
  live = each_all (λ run. Unit {0}) (λ run. tt) (unended start lines);
  done = each_all (λ run. Unit {0}) (λ run. tt) (committed start lines);
  gone = each_all (λ run. Unit {0}) (λ run. tt) (aborted start lines);
}

or_operation : (o : Option Reply) (reply : Reply) → IfSome IsOperation o → IsOperation reply → IsOperation (or_reply o reply)
or_operation None reply s g = g
or_operation (Some stop) reply s g = s

granted_operation : (by : Rule) (start : Start) (lines : List EngineLine) (me : Run) (act : PlainAct) → IsOperation (granted_by by start lines me act)
granted_operation by start lines me (Read key) = refl
granted_operation by start lines me (Write key value) = refl

pub access_operation : (start : Start) (lines : List EngineLine) (me : Run) (act : PlainAct) → IsOperation (access_reply start lines me act)
access_operation start lines me act =
    or_operation ((rule start.kind).access start lines me act) (granted_by (rule start.kind) start lines me act) (access_says (λ run. Unit {0}) IsOperation stops_so start lines (of_runs start lines) me start.kind act) (granted_operation (rule start.kind) start lines me act)

pub ticket_operation : (start : Start) (lines : List EngineLine) (me : Run) → IsOperation (ticket_reply start lines me)
ticket_operation start lines me =
    or_operation ((rule start.kind).ticket start lines me) (Reply_is.Ticket (published start lines + 1)) (ticket_says (λ run. Unit {0}) IsOperation stops_so start lines (of_runs start lines) me start.kind) refl

pub kept_operation : (ticket : Option ℕ) (acts : List Access) → IsOperation (kept_reply_of ticket acts)
kept_operation (Some n) acts = refl
kept_operation None [] = refl
kept_operation None (Got key value ∷ acts) = refl
kept_operation None (Wrote key value ∷ acts) = refl

-- what refuses a sealing
abbrev pub SealsSo : Option Why → Type 0
SealsSo why = is_no why ≡ true

pub seal_refuses : (kind : Engine) (start : Start) (lines : List EngineLine) (me : Run) → SealsSo (seal_stop kind start lines me)
seal_refuses kind start lines me = seal_says SealsSo refl (λ tid key. refl) (λ tid. refl) start lines me kind
