-- Sealed runs that are taken as committed: the lines stay right, and their writes are the last ones of their keys.
use Rattle.std.proofs.Common.{◌≡◌, ℕ, false, cond, Some, None, List, [], ◌∷◌, refl, sym, ap, ◌∙◌, arith}
use Rattle.mdb_base.specs.declared.names.Tid.{Tid}
use Rattle.mdb_base.specs.declared.names.Key.{Key}
use Rattle.mdb_base.specs.declared.names.Engine.{Engine}
use Rattle.mdb_base.specs.Names.{same_tid}
use Rattle.mdb_base.specs.Rows.{look_up}
use Rattle.mdb_base.specs.Words.{Each}
use Rattle.mdb_base.proofs.ForCallers.{same_tid-sym}
use Rattle.fed_rules.specs.Runs.{Start, EngineLine, Commits, Run, run_at, number, committed, table_of, table, after}
use Rattle.fed_rules.specs.Replies.{Drawn}
use Rattle.fed_rules.specs.EngineLines.{IsRight}
use Rattle.engine_laws.specs.Laws.{AlwaysBy, IsSerialSite, HasTicketsInOrder, with_commits, AreSealed, WithAnyCommits}
use Rattle.engine_laws.proofs.ByNumber.{table_inserted_last}
use Rattle.engine_laws.proofs.Runs.{committed_is, number_is}
use Rattle.engine_laws.proofs.Sound.{place, IsSound}
use Rattle.engine_laws.proofs.Tickets.{IsInOrder, tickets_fall}

-- commits of other attempts leave the run
pub run_beside : (start : Start) (lines : List EngineLine) (t : Tid) (tids : List Tid)
    → Each (λ other. same_tid t other ≡ false) tids
    → run_at start (with_commits tids lines) t ≡ run_at start lines t
run_beside start lines t [] apart = refl
run_beside start lines t (tid ∷ tids) apart =
    ap (λ b. cond b None (run_at start (with_commits tids lines) t)) (same_tid-sym tid t ∙ apart.0)
    ∙ run_beside start lines t tids apart.1

-- commits of sealed runs are right
pub commits_right : (start : Start) (lines : List EngineLine) (tids : List Tid) → IsRight start lines → AreSealed start lines tids
    → IsRight start (with_commits tids lines)
commits_right start lines [] right sealed = right
commits_right start lines (tid ∷ tids) right (run, n, sealed, apart, more) =
    ((run, n, (run_beside start lines tid tids apart ∙ sealed.0, sealed.1)), commits_right start lines tids right more)

-- so what always holds holds as well where any of the sealed runs are taken as committed
pub any_commits : (kind : Engine) (P : Start → List EngineLine → Type 0) → AlwaysBy kind P → AlwaysBy kind (WithAnyCommits P)
any_commits kind P always start lines by begun right tids sealed =
    always start (with_commits tids lines) by begun (commits_right start lines tids right sealed)

-- a commit leaves the writes of its run as the last ones of their keys
pub writes_last : (drawn : Drawn) (start : Start) (lines : List EngineLine) (tid : Tid) (run : Run) (n : ℕ) (key : Key)
    → IsSound drawn start lines
    → run_at start lines tid ≡ Some run → run.sealed ≡ Some n → place drawn run ≡ Some n
    → table start (Commits tid ∷ lines) key ≡ after run.acts (table start lines) key
writes_last drawn start lines tid run n key sound at sealed placed =
    ap (λ runs. table_of (look_up start.rows) runs key) (committed_is start lines tid run at)
    ∙ table_inserted_last (look_up start.rows) run (committed start lines) key
    (sound.clear tid run at (number run) (placed ∙ ap Some (sym (number_is run n sealed))))

pub serial_site : (drawn : Drawn) (start : Start) (lines : List EngineLine) → IsSound drawn start lines → IsSerialSite start lines
serial_site drawn start lines sound = record { numbers = sound.falls; alone = sound.serial }

pub tickets_in_order : (drawn : Drawn) (start : Start) (lines : List EngineLine) → IsSound drawn start lines
    → IsInOrder start lines → HasTicketsInOrder start lines
tickets_in_order drawn start lines sound order = record {
  among_committed = tickets_fall (committed start lines) sound.falls order.agree;
  among_sealed = λ t u a b apart ea eb m n sealed_a sealed_b less.
      order.apart t u a b apart ea eb m n sealed_a sealed_b
      (let x = number_is a m sealed_a in let y = number_is b n sealed_b in omega arith);
  of_committed = order.committed;
  of_sealed = order.unended;
}
