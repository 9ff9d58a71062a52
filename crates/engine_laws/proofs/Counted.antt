-- Every number that a run has was drawn: it is at least 1 and at most the counter.
use Rattle.std.proofs.Common.{◌≡◌, ℕ, ◌<◌, ◌≤◌, max, Some, List, [], ◌∷◌, sym, ap, ◌∙◌, subst, arith}
use Rattle.mdb_base.specs.Words.{Each}
use Rattle.mdb_base.proofs.ForCallers.{each_map}
use Rattle.fed_rules.specs.declared.runs.Kept.{Kept}
use Rattle.fed_rules.specs.Runs.{Start, EngineLine, Begins, Acts, Takes, Seals, Refuses, Commits, Aborts, Run, restored, counter, number, committed}
use Rattle.fed_rules.specs.Replies.{Drawn, AtBegin, AtSealing, rule, number_drawn}
use Rattle.fed_rules.specs.EngineLines.{IsRight, IsStart, IsNumbered}
use Rattle.engine_laws.specs.Unended.{EachRun}
use Rattle.engine_laws.proofs.Runs.{Own, begins, stays, got, wrote, takes, seals, own, each_run, each_restored, each_committed, number_is}

-- the numbers of a run are 1 to this counter
pub record HasDrawn (counter : ℕ) (run : Run) : Type 0 where
  pub age_some : 0 < run.age
  pub age_kept : run.age ≤ counter
  pub sealed : (n : ℕ) → run.sealed ≡ Some n → (0 < n) × (n ≤ counter)

-- a committed run has its number from its sealing, and it is at most this counter
pub record WasDrawn (counter : ℕ) (run : Run) : Type 0 where
  pub sealed : run.sealed ≡ Some (number run)
  pub kept : number run ≤ counter

-- the numbers of all unended and committed runs were drawn
pub record IsCounted (start : Start) (lines : List EngineLine) : Type 0 where
  pub unended : EachRun start lines (HasDrawn (counter start lines))
  pub committed : Each (WasDrawn (counter start lines)) (committed start lines)

-- the counter never falls
pub counter_grows : (start : Start) (older : List EngineLine) (line : EngineLine)
    → counter start older ≤ counter start (line ∷ older)
counter_grows start older (Begins tid n) = omega arith
counter_grows start older (Acts tid act reply) = omega arith
counter_grows start older (Takes tid reply) = omega arith
counter_grows start older (Seals tid n) = omega arith
counter_grows start older (Refuses tid why) = omega arith
counter_grows start older (Commits tid) = omega arith
counter_grows start older (Aborts tid) = omega arith

has_drawn_grows : (c d : ℕ) (run : Run) → c ≤ d → HasDrawn c run → HasDrawn d run
has_drawn_grows c d run le h = record {
  age_some = h.age_some;
  age_kept = omega arith;
  sealed = λ n e. let old = h.sealed n e in (old.0, omega arith);
}

-- a number drawn at sealing is at most the counter after it
seal_number_drawn : (drawn : Drawn) (start : Start) (older : List EngineLine) (run : Run) (n : ℕ)
    → HasDrawn (counter start older) run
    → n ≡ number_drawn drawn start older run → (0 < n) × (n ≤ max n (counter start older))
seal_number_drawn AtBegin start older run n h e = let some = h.age_some in (omega arith, omega arith)
seal_number_drawn AtSealing start older run n h e = (omega arith, omega arith)

own_drawn : (start : Start) (older : List EngineLine) (line : EngineLine) (r : Run)
    → EachRun start older (HasDrawn (counter start older))
    → Own start older line r → HasDrawn (counter start (line ∷ older)) r
own_drawn start older line r h (begins free next) = record { age_some = omega arith; age_kept = omega arith; sealed = λ n e. cc }
own_drawn start older line r h (stays waits at) = has_drawn_grows _ _ r (counter_grows start older line) (h _ r at)
own_drawn start older line r h (got run live is) =
    let old = h _ run live.0 in record { age_some = old.age_some; age_kept = old.age_kept; sealed = old.sealed }
own_drawn start older line r h (wrote run live is) =
    let old = h _ run live.0 in record { age_some = old.age_some; age_kept = old.age_kept; sealed = old.sealed }
own_drawn start older line r h (takes run live is) =
    let old = h _ run live.0 in record { age_some = old.age_some; age_kept = old.age_kept; sealed = old.sealed }
own_drawn start older (Seals tid n) r h (seals run live stop next) =
    let old = h _ run live.0 in
    let drawn = seal_number_drawn (rule start.kind).drawn start older run n old next in
    record {
      age_some = old.age_some;
      age_kept = let kept = old.age_kept in omega arith;
      sealed = λ m e. let same : n ≡ m = cc in subst (λ x. (0 < x) × (x ≤ max n (counter start older))) same drawn;
    }

was_drawn_grows : (c d : ℕ) (run : Run) → c ≤ d → WasDrawn c run → WasDrawn d run
was_drawn_grows c d run le h = record { sealed = h.sealed; kept = let kept = h.kept in omega arith }

sealed_drawn : (c : ℕ) (run : Run) (n : ℕ) → run.sealed ≡ Some n → HasDrawn c run → WasDrawn c run
sealed_drawn c run n e h =
    let is : number run ≡ n = number_is run n e in
    let drawn = h.sealed n e in
    record { sealed = e ∙ ap Some (sym is); kept = omega (arith, drawn.1) }

pub counted : (start : Start) (lines : List EngineLine) → IsStart start → IsRight start lines → IsCounted start lines
counted start [] begun right = record {
  unended = each_restored (HasDrawn start.counter) start.doubtful
      (each_map _ (λ kept. HasDrawn start.counter (restored kept)) restored_drawn start.doubtful begun.numbered);
  committed = tt;
}
  where
    restored_drawn : (kept : Kept) → IsNumbered start kept → HasDrawn start.counter (restored kept)
    restored_drawn kept h = record {
      age_some = h.number_some;
      age_kept = h.number_kept;
      sealed = λ n e. let same : kept.number ≡ n =
          cc in subst (λ x. (0 < x) × (x ≤ start.counter)) same (h.number_some, h.number_kept);
    }
counted start (line ∷ older) begun right =
    let h = counted start older begun right.1 in
    record {
      unended = each_run start older line (HasDrawn (counter start (line ∷ older)))
          (λ t r other was. has_drawn_grows _ _ r (counter_grows start older line) (h.unended t r was))
          (λ r now. own_drawn start older line r h.unended (own start older line r right.0 now));
      committed =
          let grows = counter_grows start older line in
          each_committed start older line (WasDrawn (counter start (line ∷ older))) right.0
          (λ run n is sealed. was_drawn_grows _ _ run grows (sealed_drawn _ run n sealed.1 (h.unended _ run sealed.0)))
          (each_map _ (WasDrawn (counter start (line ∷ older))) (λ run. was_drawn_grows _ _ run grows) (committed start older)
          h.committed);
    }
