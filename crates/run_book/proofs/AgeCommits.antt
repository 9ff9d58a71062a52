-- The committed runs through each line, and the youngest of them that passes a test.
use Rattle.std.proofs.Common.{◌≡◌, ℕ, Bool, true, false, cond, Option, Some, None, List, [], ◌∷◌, inl, inr, refl, sym, ap, subst, arith}
use Rattle.mdb_base.specs.declared.names.Tid.{Tid}
use Rattle.mdb_base.specs.Words.{Each}
use Rattle.mdb_base.proofs.ForCallers.{among_inserted, each_map}
use Rattle.fed_rules.specs.Runs.{Start, EngineLine, Commits, Run, tid_of, run_at, committed}
use Rattle.fed_rules.specs.Replies.{age_of}
use Rattle.fed_rules.specs.EngineLines.{IsRightLine, IsRight}
use Rattle.engine_laws.specs.ReplyLaws.{IsAmong}
use Rattle.engine_laws.proofs.ForCallers.{committed_is, each_committed, is_later}
use Rattle.run_book.specs.declared.rival.Rival.{Rival}
use Rattle.run_book.specs.Rivals.{rival_by}
use Rattle.run_book.specs.Ages.{younger_of}
use Rattle.run_book.specs.AgeLines.{committed_by, youngest_committed}
use Rattle.run_book.proofs.Youngest.{IsUpTo, up_left, up_right, one_of}

-- a committed run stays one, and the one that a line commits is one
pub among_committed : (start : Start) (older : List EngineLine) (line : EngineLine) (run : Run) → IsRightLine start older line → IsAmong run (committed start older) → IsAmong run (committed start (line ∷ older))
among_committed start older (Commits tid) run (was, n, sealed) among =
    subst (λ (runs : List Run). IsAmong run runs) (sym (committed_is start older tid was sealed.0)) (among_inserted (λ r. r ≡ run) is_later was (committed start older) (inr among))
among_committed start older line run right among = among

pub committed_own : (start : Start) (older : List EngineLine) (tid : Tid) (run : Run) → run_at start older tid ≡ Some run → IsAmong run (committed start (Commits tid ∷ older))
committed_own start older tid run at =
    subst (λ (runs : List Run). IsAmong run runs) (sym (committed_is start older tid run at)) (among_inserted (λ r. r ≡ run) is_later run (committed start older) (inl refl))

committed_by-up : (age : ℕ) (test : Run → Bool) (run : Option Run) (o : Option Rival) → IsUpTo age o → IsUpTo age (committed_by test run o)
committed_by-up age test None o h = h
committed_by-up age test (Some run) o h = by_test (test run)
  where
    by_test : (b : Bool) → IsUpTo age (cond b (younger_of o (Some (rival_by age_of run))) o)
    by_test true = up_left age o (Some (rival_by age_of run)) h
    by_test false = h

grows : (age : ℕ) (test : Run → Bool) (start : Start) (older : List EngineLine) (line : EngineLine) → IsUpTo age (youngest_committed test start older) → IsUpTo age (youngest_committed test start (line ∷ older))
grows age test start older (Commits tid) h = committed_by-up age test (run_at start older tid) (youngest_committed test start older) h
grows age test start older line h = h

-- the committed run of a line
committed_line : (test : Run → Bool) (start : Start) (older : List EngineLine) (line : EngineLine) (run : Run) → line ≡ Commits (tid_of line) → run_at start older (tid_of line) ≡ Some run → test run ≡ true →
    IsUpTo run.age (youngest_committed test start (line ∷ older))
committed_line test start older line run commits at passes =
    let old = youngest_committed test start older in
    subst (λ (l : EngineLine). IsUpTo run.age (youngest_committed test start (l ∷ older))) (sym commits)
    (subst (λ (o : Option Run). IsUpTo run.age (committed_by test o old)) (sym at)
    (subst (λ (b : Bool). IsUpTo run.age (cond b (younger_of old (Some (rival_by age_of run))) old)) (sym passes) (up_right run.age old (Some (rival_by age_of run)) (omega arith))))

-- no committed run that passes the test is younger
pub committed_up_to : (test : Run → Bool) (start : Start) (lines : List EngineLine) → IsRight start lines → Each (λ run. test run ≡ true → IsUpTo run.age (youngest_committed test start lines)) (committed start lines)
committed_up_to test start [] right = tt
committed_up_to test start (line ∷ older) right =
    let P : Run → Type 0 = λ run. test run ≡ true → IsUpTo run.age (youngest_committed test start (line ∷ older)) in
    each_committed start older line P right.0 (λ run n commits sealed passes. committed_line test start older line run commits sealed.0 passes)
    (each_map _ P (λ run was passes. grows run.age test start older line (was passes)) (committed start older) (committed_up_to test start older right.1))

-- the rival is a committed run that passes the test
pub record IsCommitted (test : Run → Bool) (start : Start) (lines : List EngineLine) (rival : Rival) : Type 0 where
  pub run : Run
  pub among : IsAmong run (committed start lines)
  pub passes : test run ≡ true
  pub tid : run.tid ≡ rival.tid
  pub age : run.age ≡ rival.rank

committed_on : (test : Run → Bool) (start : Start) (older : List EngineLine) (line : EngineLine) (rival : Rival) → IsRightLine start older line → IsCommitted test start older rival → IsCommitted test start (line ∷ older) rival
committed_on test start older line rival right h =
    record { run = h.run; among = among_committed start older line h.run right h.among; passes = h.passes; tid = h.tid; age = h.age }

pub committed_is_one : (test : Run → Bool) (start : Start) (lines : List EngineLine) (rival : Rival) → IsRight start lines → youngest_committed test start lines ≡ Some rival → IsCommitted test start lines rival
committed_is_one test start [] rival right is = cc
committed_is_one test start (Commits tid ∷ older) rival right is = by_run (run_at start older tid) refl is (committed_is_one test start older rival right.1)
  where
    old : Option Rival
    old = youngest_committed test start older

    by_test : (run : Run) → run_at start older tid ≡ Some run → (b : Bool) → test run ≡ b → cond b (younger_of old (Some (rival_by age_of run))) old ≡ Some rival → (old ≡ Some rival → IsCommitted test start older rival) → IsCommitted test start (Commits tid ∷ older) rival
    by_test run at true passes is rest = elim (one_of old (Some (rival_by age_of run)) rival is) [
      | inl was ↦ committed_on test start older (Commits tid) rival right.0 (rest was)
      | inr new ↦
          let mine : rival_by age_of run ≡ rival = cc in
          record { run = run; among = committed_own start older tid run at; passes = passes; tid = ap (λ (r : Rival). r.tid) mine; age = ap (λ (r : Rival). r.rank) mine }
    ]
    by_test run at false fails is rest = committed_on test start older (Commits tid) rival right.0 (rest is)

    by_run : (o : Option Run) → run_at start older tid ≡ o → committed_by test o old ≡ Some rival → (old ≡ Some rival → IsCommitted test start older rival) → IsCommitted test start (Commits tid ∷ older) rival
    by_run None at is rest = committed_on test start older (Commits tid) rival right.0 (rest is)
    by_run (Some run) at is rest = by_test run at (test run) refl is rest
committed_is_one test start (line ∷ older) rival right is = committed_on test start older line rival right.0 (committed_is_one test start older rival right.1 is)
