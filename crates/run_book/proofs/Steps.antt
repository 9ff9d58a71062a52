-- A book that holds what the lines say holds it with one more line, where that line leaves all numbers alone and commits nothing.
use Rattle.std.proofs.Common.{◌≡◌, ℕ, false, Option, Some, List, ◌∷◌, inl, inr, refl, sym, ap, ◌∙◌, subst}
use Rattle.std.proofs.lemmas.Bool.{cond-true, cond-false, cases_Bool}
use Rattle.mdb_base.specs.declared.names.Engine.{Engine}
use Rattle.mdb_base.specs.declared.names.Tid.{Tid}
use Rattle.mdb_base.specs.declared.acts.PlainAct.{PlainAct}
use Rattle.mdb_base.specs.declared.replies.Reply.{Reply}
use Rattle.mdb_base.specs.declared.replies.Why.{Why}
use Rattle.mdb_base.specs.Names.{same_tid}
use Rattle.mdb_base.specs.Words.{map_some}
use Rattle.fed_rules.specs.Runs.{Start, EngineLine, Acts, Takes, Refuses, Aborts, Run, tid_of, changed, run_at, committed}
use Rattle.fed_rules.specs.EngineLines.{IsRightLine}
use Rattle.mdb_base.proofs.ForCallers.{same_tid-equal}
use Rattle.run_book.specs.declared.counters.Counters.{Counters}
use Rattle.run_book.specs.Held.{Held, Runs, held_in}
use Rattle.run_book.specs.Book.{Book}
use Rattle.run_book.specs.Keeps.{Keeps, run_in, counters_after, counters_before}
use Rattle.run_book.specs.Tables.{kept_after}

-- the line draws no number, publishes no ticket and commits nothing
pub record IsQuiet (start : Start) (older : List EngineLine) (line : EngineLine) : Type 0 where
  pub ended : committed start (line ∷ older) ≡ committed start older
  pub counters : counters_after start (line ∷ older) ≡ counters_after start older
  pub before : (u : Tid) → counters_before start (line ∷ older) u ≡ counters_before start older u

pub quiet_acts : (start : Start) (older : List EngineLine) (tid : Tid) (act : PlainAct) (reply : Reply) → IsQuiet start older (Acts tid act reply)
quiet_acts start older tid act reply =
    record { ended = refl; counters = refl; before = λ u. refl }

pub quiet_takes : (start : Start) (older : List EngineLine) (tid : Tid) (reply : Reply) → IsQuiet start older (Takes tid reply)
quiet_takes start older tid reply =
    record { ended = refl; counters = refl; before = λ u. refl }

pub quiet_refuses : (start : Start) (older : List EngineLine) (tid : Tid) (why : Why) → IsQuiet start older (Refuses tid why)
quiet_refuses start older tid why =
    record { ended = refl; counters = refl; before = λ u. refl }

pub quiet_aborts : (start : Start) (older : List EngineLine) (tid : Tid) → IsQuiet start older (Aborts tid)
quiet_aborts start older tid =
    record { ended = refl; counters = refl; before = λ u. refl }

-- one run changes as the line says, and the others stay
pub runs-step : (start : Start) (older : List EngineLine) (line : EngineLine) (hs new : Runs) → ((u : Tid) → run_in hs u ≡ run_at start older u) →
    run_in new (tid_of line) ≡ changed line (run_in hs (tid_of line)) → ((u : Tid) → same_tid (tid_of line) u ≡ false → held_in new u ≡ held_in hs u) →
    (u : Tid) → run_in new u ≡ run_at start (line ∷ older) u
runs-step start older line hs new runs own others u =
    elim (cases_Bool (same_tid (tid_of line) u)) [
      | inl e ↦
          let t = tid_of line in
          let at : run_in new t ≡ changed line (run_at start older t) = own ∙ ap (λ (o : Option Run). changed line o) (runs t) in
          subst (λ (x : Tid). run_in new x ≡ changed line (run_at start older x)) (same_tid-equal t u e) at ∙ sym (cond-true _ _ _ e)
      | inr e ↦ ap (λ (o : Option Held). map_some (λ h. h.run) o) (others u e) ∙ (runs u ∙ sym (cond-false _ _ _ e))
    ]

-- the counters noted at sealed runs stay, where the line's own run isn't sealed
pub before-step : (start : Start) (older : List EngineLine) (line : EngineLine) (hs new : Runs) →
    ((u : Tid) (held : Held) (n : ℕ) (counters : Counters) → held_in hs u ≡ Some held → held.run.sealed ≡ Some n → counters_before start older u ≡ Some counters → held.counters ≡ counters) →
    ((u : Tid) → counters_before start (line ∷ older) u ≡ counters_before start older u) →
    ((held : Held) (n : ℕ) → held_in new (tid_of line) ≡ Some held → held.run.sealed ≡ Some n → ⊥) →
    ((u : Tid) → same_tid (tid_of line) u ≡ false → held_in new u ≡ held_in hs u) →
    (u : Tid) (held : Held) (n : ℕ) (counters : Counters) → held_in new u ≡ Some held → held.run.sealed ≡ Some n → counters_before start (line ∷ older) u ≡ Some counters → held.counters ≡ counters
before-step start older line hs new before same live others u held n counters found sealed noted =
    elim (cases_Bool (same_tid (tid_of line) u)) [
      | inl e ↦ absurd (live held n (ap (λ (x : Tid). held_in new x) (same_tid-equal (tid_of line) u e) ∙ found) sealed)
      | inr e ↦ before u held n counters (sym (others u e) ∙ found) sealed (sym (same u) ∙ noted)
    ]

-- the book with these runs
abbrev pub with_runs : Runs → Book → Book
with_runs hs book = record book { runs = hs }

pub keeps_quiet : (kind : Engine) (book : Book) (start : Start) (older : List EngineLine) (line : EngineLine) (hs : Runs) →
    IsQuiet start older line → Keeps kind book start older → IsRightLine start older line →
    run_in hs (tid_of line) ≡ changed line (run_in book.runs (tid_of line)) →
    ((u : Tid) → same_tid (tid_of line) u ≡ false → held_in hs u ≡ held_in book.runs u) →
    ((held : Held) (n : ℕ) → held_in hs (tid_of line) ≡ Some held → held.run.sealed ≡ Some n → ⊥) →
    Keeps kind (with_runs hs book) start (line ∷ older)
keeps_quiet kind book start older line hs quiet k right own others live = record {
  of_kind = k.of_kind;
  starts = k.starts;
  right = (right, k.right);
  rising = k.rising;
  versions = λ key. k.versions key ∙ ap (λ (runs : List Run). kept_after start.rows runs key) (sym quiet.ended);
  runs = runs-step start older line book.runs hs k.runs own others;
  counters = k.counters ∙ sym quiet.counters;
  before = before-step start older line book.runs hs k.before quiet.before live others;
}
