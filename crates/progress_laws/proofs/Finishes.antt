-- Wherever a session stands, closing it and then finishing each transaction alone leaves each with a commit.
use Rattle.std.proofs.Common.{◌≡◌, ℕ, ◌+◌, ◌≤◌, ◌<◌, Bool, true, false, List, ◌++◌, length, refl, sym, ap, subst, ◌∙◌, arith, append_assoc, length-append}
use Rattle.mdb_base.proofs.ForCallers.{each_map}
use Rattle.fed_rules.specs.declared.commands.Command.{Command}
use Rattle.fed_rules.specs.Closing.{closed, finished_alone, is_done}
use Rattle.fed_rules.specs.Story.{most_attempts, story_of}
use Rattle.fed_rules.proofs.ForCallers.{begins_nothing}
use Rattle.closing_laws.specs.AtRest.{ClosedSessionsRest}
use Rattle.closing_laws.specs.Bound.{ClosingIsShort, FinishingIsShort, most_closing}
use Rattle.closing_laws.specs.Finished.{AllFinished, FinishedSessionsCommit, HaveAttemptsLeft, begun}
use Rattle.progress_laws.specs.Added.{ClosingAddsItsOwn, FinishingAddsItsOwn, is_of_closing}
use Rattle.progress_laws.specs.Progress.{EverySessionCanFinish, most_further}
use Rattle.progress_laws.proofs.BegunNone.{closing_begins_nothing, keeps_all}

pub can_finish : ClosedSessionsRest → ClosingIsShort → FinishedSessionsCommit → FinishingIsShort → ClosingAddsItsOwn → FinishingAddsItsOwn
    → EverySessionCanFinish
can_finish rests closing_short finishes finishing_short closing_adds finishing_adds scenario whole commands left = record { more = more; few = few; finished = finished }
  where
    behind : List Command
    behind = closed scenario commands

    more : List Command
    more = (finishing_adds scenario (closed scenario commands)).front ++ (closing_adds scenario commands).front

    all : finished_alone scenario (closed scenario commands) ≡ more ++ commands
    all =
        (finishing_adds scenario (closed scenario commands)).is
        ∙ (ap (λ cs. (finishing_adds scenario (closed scenario commands)).front ++ cs) (closing_adds scenario commands).is
        ∙ sym (append_assoc (finishing_adds scenario (closed scenario commands)).front (closing_adds scenario commands).front commands))

    few : length more ≤ most_further
    few =
        let a = closing_short scenario whole commands in
        let b = finishing_short scenario whole (closed scenario commands) in
        let c : length (finished_alone scenario (closed scenario commands)) ≡ length more + length commands = ap length all ∙ length-append more commands in
        bounded (length more) (length commands) (length (closed scenario commands)) (length (finished_alone scenario (closed scenario commands))) most_closing a b c
      where
        bounded : (m n k f c : ℕ) → k ≤ c + n → f ≤ 263168 + k → f ≡ m + n → m ≤ c + 263168
        bounded m n k f c p q r = omega (arith, p, q, r)

    still_left : HaveAttemptsLeft scenario (story_of scenario (closed scenario commands))
    still_left line i undone =
        let adds = closing_adds scenario commands in
        let keeps = keeps_all scenario line.tx adds.front commands (each_map (λ command. is_of_closing command ≡ true) (λ command. begins_nothing command ≡ true) closing_begins_nothing adds.front adds.each) in
        let before : is_done scenario (story_of scenario commands) line.tx ≡ false = by_done (is_done scenario (story_of scenario commands) line.tx) refl undone in
        subst (λ n. n < most_attempts) (sym (ap (λ cs. begun scenario (story_of scenario cs) line.tx) adds.is ∙ keeps.attempts)) (left line i before)
      where
        by_done : (b : Bool) → is_done scenario (story_of scenario commands) line.tx ≡ b → is_done scenario (story_of scenario (closed scenario commands)) line.tx ≡ false → b ≡ false
        by_done false e u = refl
        by_done true e u =
            let adds = closing_adds scenario commands in
            let keeps = keeps_all scenario line.tx adds.front commands (each_map (λ command. is_of_closing command ≡ true) (λ command. begins_nothing command ≡ true) closing_begins_nothing adds.front adds.each) in
            let now : is_done scenario (story_of scenario (closed scenario commands)) line.tx ≡ true = ap (λ cs. is_done scenario (story_of scenario cs) line.tx) adds.is ∙ keeps.done e in
            (let clash = sym u ∙ now in cc)

    finished : AllFinished scenario (story_of scenario (more ++ commands))
    finished = subst (λ cs. AllFinished scenario (story_of scenario cs)) all (finishes scenario (closed scenario commands) whole (rests scenario commands whole) still_left)
