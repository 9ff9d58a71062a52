-- A live run is the live one of its transaction.
use Rattle.std.proofs.Common.{◌≡◌, Bool, true, false, not, ◌&&◌, is_some, Option, Some, None, List, [], ◌∷◌, inl, inr, refl, sym, ap, ap₂, ◌∙◌}
use Rattle.mdb_base.specs.declared.names.Tid.{Tid}
use Rattle.mdb_base.specs.Names.{same_tx}
use Rattle.mdb_base.specs.Words.{found, map_some, with_some}
use Rattle.mdb_base.proofs.ForCallers.{same_tx-refl, some_parts}
use Rattle.order_laws.specs.Chains.{In}
use Rattle.order_laws.proofs.ForCallers.{first_where_none}
use Rattle.fed_rules.specs.EngineLines.{IsRight}
use Rattle.fed_rules.specs.Runs.{Run, attempts, run_at, unended}
use Rattle.fed_rules.specs.SitePast.{SitePast, epoch_start, engine_lines, live, live_of_tx}
use Rattle.fed_rules.specs.SiteRecords.{Home}
use Rattle.engine_laws.proofs.ForCallers.{attempts_have, is_live_of, tid_is}
use Rattle.site_history.proofs.Agreement.{live_is}

-- a run that is found
pub found_in : {A B : Type 0} (look : A → Option B) (xs : List A) (x : A) (y : B) → In x xs → look x ≡ Some y → In y (found look xs)
found_in look [] x y i e = absurd i
found_in look (z ∷ xs) x y (inl same) e = here (look z) (ap look same ∙ e)
  where
    here : (o : Option _) → o ≡ Some y → In y (with_some o (found look xs))
    here None f = cc
    here (Some w) f = inl (some_parts f)
found_in look (z ∷ xs) x y (inr i) e = there (look z) (found_in look xs x y i e)
  where
    there : (o : Option _) → In y (found look xs) → In y (with_some o (found look xs))
    there None j = j
    there (Some w) j = inr j

-- who is live is found
pub none_live : (home : Home) (past : SitePast) (tid : Tid) (run : Run) → IsRight (epoch_start home past) (engine_lines past) → live home past tid ≡ Some run → live_of_tx home past tid.tx ≡ None → ⊥
none_live home past tid run right e none =
    let at = live_is (run_at (epoch_start home past) (engine_lines past) tid) run e in
    let own : run.tid ≡ tid = tid_is (epoch_start home past) (engine_lines past) right tid run at.0 in
    let i : In run (unended (epoch_start home past) (engine_lines past)) =
    found_in (run_at (epoch_start home past) (engine_lines past)) (attempts (epoch_start home past) (engine_lines past)) tid run (attempts_have (epoch_start home past) (engine_lines past) right tid run at.0) at.0 in
    let fails : is_live_of tid.tx run ≡ false = first_where_none (is_live_of tid.tx) (unended (epoch_start home past) (engine_lines past)) run (no_first _ none) i in
    let passes : is_live_of tid.tx run ≡ true = ap₂ (λ (a b : Bool). a && not b) (ap (λ (t : Tid). same_tx t.tx tid.tx) own ∙ same_tx-refl tid.tx) (ap is_some at.1) in
    (let clash = sym fails ∙ passes in cc)
  where
    no_first : (o : Option Run) → map_some (λ (r : Run). r.tid) o ≡ None → o ≡ None
    no_first None e = refl
    no_first (Some r) e = cc
