-- What one more engine line of the newest epoch does to the sealed runs and to the committed ones.
use Rattle.std.proofs.Common.{◌≡◌, ◌⊎◌, Bool, true, false, cond, Option, Some, None, List, [], ◌∷◌, refl, sym, ap, ◌∙◌, subst, inl, inr}
use Rattle.std.specs.Prelude.{nat_lt}
use Rattle.mdb_base.specs.declared.names.Tid.{Tid}
use Rattle.order_laws.specs.Chains.{In}
use Rattle.fed_rules.specs.EngineLines.{IsRight}
use Rattle.fed_rules.specs.Runs.{Start, EngineLine, Commits, Run, committed, number, run_at}
use Rattle.engine_laws.specs.Epochs.{Epoch}
use Rattle.engine_laws.proofs.ForCallers.{tid_is}
use Rattle.site_history.proofs.AsSealed.{as_sealed, as_was, by_number_in, in_by_number, WasCommitted}

abbrev pub epoch_of_lines : Start → List EngineLine → Epoch
epoch_of_lines start lines = record { start = start; lines = lines }

-- an attempt whose run stays
pub sealed_stays : (start : Start) (older newer : List EngineLine) (earlier : List Epoch) (tid : Tid)
    → run_at start newer tid ≡ run_at start older tid
    → as_sealed (epoch_of_lines start newer) earlier tid ≡ as_sealed (epoch_of_lines start older) earlier tid
sealed_stays start older newer [] tid e = e
sealed_stays start older newer (before ∷ more) tid e = ap (λ o. as_was start o (as_sealed before more tid)) e

-- lines that commit none
pub committed_stays : (start : Start) (older newer : List EngineLine) (earlier : List Epoch) (run : Run)
    → committed start newer ≡ committed start older
    → WasCommitted (epoch_of_lines start newer) earlier run → WasCommitted (epoch_of_lines start older) earlier run
committed_stays start older newer [] run e w = subst (In run) e w
committed_stays start older newer (before ∷ more) run e (inl (is, i)) = inl (is, subst (In run) e i)
committed_stays start older newer (before ∷ more) run e (inr (inl r)) =
    inr (inl (record { now = r.now; among = subst (In r.now) e r.among; old = r.old; was = r.was }))
committed_stays start older newer (before ∷ more) run e (inr (inr w)) = inr (inr w)

-- a commit commits the run as it was sealed
pub commit_adds : (start : Start) (lines : List EngineLine) (earlier : List Epoch) (tid : Tid) (run : Run) → IsRight start lines
    → WasCommitted (epoch_of_lines start (Commits tid ∷ lines)) earlier run
    → WasCommitted (epoch_of_lines start lines) earlier run ⊎ (as_sealed (epoch_of_lines start lines) earlier tid ≡ Some run)
commit_adds start lines [] tid run right w = elim (in_by_number (run_at start lines tid) run (committed start lines) w) [
  | inl e ↦ inr e
  | inr i ↦ inl i
]
commit_adds start lines (before ∷ more) tid run right (inl (is, w)) =
    elim (in_by_number (run_at start lines tid) run (committed start lines) w) [
      | inl e ↦ inr (ap (λ o. as_was start o (as_sealed before more tid)) e ∙ ap (λ b. cond b (Some run) (as_sealed before more tid)) is)
      | inr i ↦ inl (inl (is, i))
    ]
commit_adds start lines (before ∷ more) tid run right (inr (inl r)) =
    elim (in_by_number (run_at start lines tid) r.now (committed start lines) r.among) [
      | inl e ↦ inr (ap (λ o. as_was start o (as_sealed before more tid)) e
          ∙ ap (λ b. cond b (Some r.now) (as_sealed before more tid)) r.old
          ∙ ap (as_sealed before more) (sym (tid_is start lines right tid r.now e)) ∙ r.was)
      | inr i ↦ inl (inr (inl (record { now = r.now; among = i; old = r.old; was = r.was })))
    ]
commit_adds start lines (before ∷ more) tid run right (inr (inr w)) = inl (inr (inr w))

-- and keeps those that were committed before
pub commit_keeps : (start : Start) (lines : List EngineLine) (earlier : List Epoch) (tid : Tid) (run : Run)
    → WasCommitted (epoch_of_lines start lines) earlier run → WasCommitted (epoch_of_lines start (Commits tid ∷ lines)) earlier run
commit_keeps start lines [] tid run w = by_number_in (run_at start lines tid) run (committed start lines) (inr w)
commit_keeps start lines (before ∷ more) tid run (inl (is, i)) =
    inl (is, by_number_in (run_at start lines tid) run (committed start lines) (inr i))
commit_keeps start lines (before ∷ more) tid run (inr (inl r)) = inr (inl (record {
  now = r.now;
  among = by_number_in (run_at start lines tid) r.now (committed start lines) (inr r.among);
  old = r.old;
  was = r.was;
}))
commit_keeps start lines (before ∷ more) tid run (inr (inr w)) = inr (inr w)

pub commit_commits : (start : Start) (lines : List EngineLine) (earlier : List Epoch) (tid : Tid) (run : Run) → IsRight start lines
    → as_sealed (epoch_of_lines start lines) earlier tid ≡ Some run → WasCommitted (epoch_of_lines start (Commits tid ∷ lines)) earlier run
commit_commits start lines [] tid run right e = by_number_in (run_at start lines tid) run (committed start lines) (inl e)
commit_commits start lines (before ∷ more) tid run right e = by_run (run_at start lines tid) refl e
  where
    by_run : (o : Option Run) → run_at start lines tid ≡ o → as_was start o (as_sealed before more tid) ≡ Some run
        → WasCommitted (epoch_of_lines start (Commits tid ∷ lines)) (before ∷ more) run
    by_run None at e = cc
    by_run (Some now) at e = by_test (nat_lt start.counter (number now)) refl e
      where
        among : In now (committed start (Commits tid ∷ lines))
        among = by_number_in (run_at start lines tid) now (committed start lines) (inl at)

        by_test : (b : Bool) → nat_lt start.counter (number now) ≡ b → cond b (Some now) (as_sealed before more tid) ≡ Some run
            → WasCommitted (epoch_of_lines start (Commits tid ∷ lines)) (before ∷ more) run
        by_test true is e =
            let same : now ≡ run = cc in
            inl (subst (λ r. (nat_lt start.counter (number r) ≡ true) × In r (committed start (Commits tid ∷ lines))) same (is, among))
        by_test false is e = inr (inl (record {
          now = now;
          among = among;
          old = is;
          was = ap (as_sealed before more) (tid_is start lines right tid now at) ∙ e;
        }))
