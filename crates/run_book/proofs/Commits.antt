-- The book of a commit.
use Rattle.std.proofs.Common.{◌≡◌, ℕ, ◌<◌, false, Option, Some, None, List, ◌∷◌, inl, inr, sym, ap, ◌∙◌, subst}
use Rattle.std.proofs.lemmas.Bool.{cases_Bool}
use Rattle.std.specs.FinMap.{get}
use Rattle.mdb_base.specs.declared.names.Engine.{Engine}
use Rattle.mdb_base.specs.declared.names.Tid.{Tid}
use Rattle.mdb_base.specs.Names.{same_tid}
use Rattle.mdb_base.specs.Words.{or_else, map_some}
use Rattle.fed_rules.specs.Runs.{Start, EngineLine, Commits, Run, changed, run_at, number, by_number, committed}
use Rattle.fed_rules.specs.EngineLines.{IsRightLine}
use Rattle.fed_rules.specs.SerialRuns.{NumbersFall}
use Rattle.engine_laws.proofs.ForCallers.{always_serial, counted as all_counted, number_is}
use Rattle.mdb_base.proofs.ForCallers.{same_tid-equal}
use Rattle.site_tables.specs.Tables.{written}
use Rattle.run_book.specs.Held.{Held, held_in, without, own_write}
use Rattle.run_book.specs.Book.{Book, commits}
use Rattle.run_book.specs.Tables.{kept_after, with_writes}
use Rattle.run_book.specs.Keeps.{Keeps}
use Rattle.run_book.proofs.RunMaps.{held_in-without_own, held_in-without_other}
use Rattle.run_book.proofs.Kept.{get-with_writes, kept-by_number}
use Rattle.run_book.proofs.Steps.{runs-step}
use Rattle.run_book.proofs.Calls.{is_held}

-- a run commits
pub keeps_commits : (kind : Engine) (book : Book) (start : Start) (older : List EngineLine) (tid : Tid) → Keeps kind book start older →
    IsRightLine start older (Commits tid) → Keeps kind (commits tid book) start (Commits tid ∷ older)
keeps_commits kind book start older tid k right =
    let line = Commits tid in
    let run = right.0 in
    let at : run_at start older tid ≡ Some run = right.2.0 in
    let here = is_held kind book start older tid run k at in
    let gone = held_in-without_own book.runs tid in
    let others = λ (u : Tid) (e : same_tid tid u ≡ false). held_in-without_other book.runs tid u e in
    record {
      of_kind = k.of_kind;
      starts = k.starts;
      right = (right, k.right);
      rising = k.rising;
      versions = λ key.
          let site = always_serial start (line ∷ older) k.starts (right, k.right) in
          let falls = subst (λ (o : Option Run). NumbersFall (by_number o (committed start older))) at site.numbers in
          let drawn = (all_counted start older k.starts k.right).unended tid run at in
          let some : 0 < number run = subst (λ (n : ℕ). 0 < n) (sym (number_is run right.1 right.2.1)) (drawn.sealed right.1 right.2.1).0 in
          ap (λ (o : Option Held). get (or_else (map_some (λ h. with_writes (number h.run) h.run.acts book.versions) o) book.versions) key.0) here.found
          ∙ (ap (λ (r : Run). get (with_writes (number r) r.acts book.versions) key.0) here.run_is
          ∙ (get-with_writes (number run) run.acts book.versions key
          ∙ (ap (written (number run) (own_write key run.acts)) (k.versions key)
          ∙ (sym (kept-by_number start.rows run (committed start older) key some falls)
          ∙ ap (λ (o : Option Run). kept_after start.rows (by_number o (committed start older)) key) (sym at)))));
      runs = runs-step start older line book.runs (without tid book.runs) k.runs
          (ap (λ (o : Option Held). map_some (λ h. h.run) o) gone ∙ sym (ap (λ (o : Option Run). changed line o) (k.runs tid ∙ at))) others;
      counters = k.counters;
      before = λ u h m counters is sealed noted_at. elim (cases_Bool (same_tid tid u)) [
        | inl e ↦ let bad : None ≡ Some h = sym gone ∙ (ap (λ (t : Tid). held_in (without tid book.runs) t) (same_tid-equal tid u e) ∙ is) in cc
        | inr e ↦ k.before u h m counters (sym (others u e) ∙ is) sealed noted_at
      ];
    }
