-- The ages of the unended runs of right lines: at most the counter, and no two alike.
use Rattle.std.proofs.Common.{◌≡◌, ℕ, ◌+◌, ◌<◌, ◌≤◌, ◌⊎◌, true, false, Option, Some, None, List, [], ◌∷◌, inl, inr, refl, sym, ap, ◌∙◌, subst, arith}
use Rattle.std.proofs.lemmas.Bool.{cond-true, cond-false, cases_Bool}
use Rattle.std.proofs.lemmas.Option.{same_Some}
use Rattle.mdb_base.specs.declared.names.Tid.{Tid}
use Rattle.mdb_base.specs.declared.acts.PlainAct.{PlainAct}
use Rattle.mdb_base.specs.declared.acts.PlainAct.TheVariants.{Read, Write}
use Rattle.mdb_base.specs.declared.replies.Reply.{Reply}
use Rattle.mdb_base.specs.declared.replies.Reply.TheVariants as Reply_is
use Rattle.mdb_base.specs.Names.{same_tid}
use Rattle.mdb_base.specs.Words.{Each}
use Rattle.fed_rules.specs.declared.runs.Kept.{Kept}
use Rattle.fed_rules.specs.Runs.{Start, EngineLine, Begins, Acts, Takes, Seals, Refuses, Commits, Aborts, Run, tid_of, restored, restored_at, begun, acted, took, changed, run_at, counter}
use Rattle.fed_rules.specs.EngineLines.{IsRightLine, IsRight, IsStart, AreApart, AllApart}
use Rattle.engine_laws.proofs.ForCallers.{counted}
use Rattle.mdb_base.proofs.ForCallers.{same_tid-equal}

-- a run goes on as the one that it was
pub record GoesOn (old : Option Run) (now : Run) : Type 0 where
  pub run : Run
  pub was : old ≡ Some run
  pub age : now.age ≡ run.age
  pub tid : now.tid ≡ run.tid

-- a run begins at this line
pub record BeginsAt (line : EngineLine) (now : Run) : Type 0 where
  pub tid : Tid
  pub number : ℕ
  pub line_is : line ≡ Begins tid number
  pub run_is : now ≡ begun tid number

goes_on_same : (run now : Run) → Some run ≡ Some now → GoesOn (Some run) now
goes_on_same run now h =
    let e = same_Some run now h in
    record { run = run; was = refl; age = ap (λ (r : Run). r.age) (sym e); tid = ap (λ (r : Run). r.tid) (sym e) }

goes_on_as : (run then now : Run) → then.age ≡ run.age → then.tid ≡ run.tid → Some then ≡ Some now → GoesOn (Some run) now
goes_on_as run then now age tid h =
    let e = same_Some then now h in
    record { run = run; was = refl; age = ap (λ (r : Run). r.age) (sym e) ∙ age; tid = ap (λ (r : Run). r.tid) (sym e) ∙ tid }

acted_on : (reply : Reply) (act : PlainAct) (run now : Run) → acted reply act run ≡ Some now → GoesOn (Some run) now
acted_on (Reply_is.Refused why) act run now h = cc
acted_on (Reply_is.Wait by) act run now h = goes_on_same run now h
acted_on (Reply_is.Ticket n) act run now h = goes_on_same run now h
acted_on Reply_is.Unknown act run now h = goes_on_same run now h
acted_on (Reply_is.Value value) (Read key) run now h = goes_on_as run _ now refl refl h
acted_on (Reply_is.Value value) (Write key v) run now h = goes_on_same run now h
acted_on Reply_is.Done (Read key) run now h = goes_on_same run now h
acted_on Reply_is.Done (Write key value) run now h = goes_on_as run _ now refl refl h

took_on : (reply : Reply) (run now : Run) → took reply run ≡ Some now → GoesOn (Some run) now
took_on (Reply_is.Refused why) run now h = cc
took_on (Reply_is.Wait by) run now h = goes_on_same run now h
took_on (Reply_is.Ticket n) run now h = goes_on_as run _ now refl refl h
took_on Reply_is.Unknown run now h = goes_on_same run now h
took_on (Reply_is.Value value) run now h = goes_on_same run now h
took_on Reply_is.Done run now h = goes_on_same run now h

-- an unended run begins at the line, or goes on through it
pub through_line : (line : EngineLine) (old : Option Run) (now : Run) → changed line old ≡ Some now → BeginsAt line now ⊎ GoesOn old now
through_line (Begins tid n) old now h = inl (record { tid = tid; number = n; line_is = refl; run_is = sym (same_Some _ now h) })
through_line (Acts tid act reply) None now h = cc
through_line (Acts tid act reply) (Some run) now h = inr (acted_on reply act run now h)
through_line (Takes tid reply) None now h = cc
through_line (Takes tid reply) (Some run) now h = inr (took_on reply run now h)
through_line (Seals tid n) None now h = cc
through_line (Seals tid n) (Some run) now h = inr (goes_on_as run _ now refl refl h)
through_line (Refuses tid why) None now h = cc
through_line (Refuses tid why) (Some run) now h = cc
through_line (Commits tid) None now h = cc
through_line (Commits tid) (Some run) now h = cc
through_line (Aborts tid) None now h = cc
through_line (Aborts tid) (Some run) now h = cc

-- the line's attempt is this one, or the line leaves its run alone
pub own_or_other : (start : Start) (line : EngineLine) (older : List EngineLine) (u : Tid) (now : Run) → run_at start (line ∷ older) u ≡ Some now →
    ((tid_of line ≡ u) × (changed line (run_at start older u) ≡ Some now)) ⊎ ((same_tid (tid_of line) u ≡ false) × (run_at start older u ≡ Some now))
own_or_other start line older u now h =
    elim (cases_Bool (same_tid (tid_of line) u)) [
      | inl e ↦ inl (same_tid-equal (tid_of line) u e, sym (cond-true _ _ _ e) ∙ h)
      | inr e ↦ inr (e, sym (cond-false _ _ _ e) ∙ h)
    ]

-- an unended run's age was drawn
pub age-le : (start : Start) (lines : List EngineLine) (u : Tid) (run : Run) → IsStart start → IsRight start lines → run_at start lines u ≡ Some run → run.age ≤ counter start lines
age-le start lines u run starts right h = ((counted start lines starts right).unended u run h).age_kept

-- a run that begins is younger than all
pub begins-above : (start : Start) (line : EngineLine) (older : List EngineLine) (now : Run) → BeginsAt line now → IsRightLine start older line → counter start older < now.age
begins-above start line older now begins right =
    let r = subst (λ (l : EngineLine). IsRightLine start older l) begins.line_is right in
    let number : begins.number ≡ counter start older + 1 = r.1 in
    let age : now.age ≡ begins.number = ap (λ (x : Run). x.age) begins.run_is in
    omega arith

restored-apart : (kept : Kept) (more : List Kept) (v : Tid) (b : Run) → Each (AreApart kept) more → restored_at more v ≡ Some b → kept.number ≡ b.age → ⊥
restored-apart kept [] v b apart h same = cc
restored-apart kept (other ∷ more) v b apart h same =
    elim (cases_Bool (same_tid other.tid v)) [
      | inl e ↦ let is = same_Some _ b (sym (cond-true _ _ _ e) ∙ h) in
          let age : other.number ≡ b.age = ap (λ (r : Run). r.age) is in
          elim apart.0.order [ inl lt ↦ let l = lt.0 in omega arith | inr gt ↦ let l = gt.0 in omega arith ]
      | inr e ↦ restored-apart kept more v b apart.1 (sym (cond-false _ _ _ e) ∙ h) same
    ]

restored-differ : (doubtful : List Kept) (u v : Tid) (a b : Run) → AllApart doubtful → restored_at doubtful u ≡ Some a → restored_at doubtful v ≡ Some b → a.age ≡ b.age → u ≡ v
restored-differ [] u v a b apart h k same = cc
restored-differ (kept ∷ more) u v a b apart h k same =
    let first : (w : Tid) (r : Run) → same_tid kept.tid w ≡ true → restored_at (kept ∷ more) w ≡ Some r → kept.number ≡ r.age =
    λ w r e found. ap (λ (x : Run). x.age) (same_Some (restored kept) r (sym (cond-true _ _ _ e) ∙ found)) in
    elim (cases_Bool (same_tid kept.tid u)) [
      | inl e ↦ elim (cases_Bool (same_tid kept.tid v)) [
        | inl f ↦ sym (same_tid-equal kept.tid u e) ∙ same_tid-equal kept.tid v f
        | inr f ↦ absurd (restored-apart kept more v b apart.0 (sym (cond-false _ _ _ f) ∙ k) (first u a e h ∙ same))
      ]
      | inr e ↦ elim (cases_Bool (same_tid kept.tid v)) [
        | inl f ↦ absurd (restored-apart kept more u a apart.0 (sym (cond-false _ _ _ e) ∙ h) (first v b f k ∙ sym same))
        | inr f ↦ restored-differ more u v a b apart.1 (sym (cond-false _ _ _ e) ∙ h) (sym (cond-false _ _ _ f) ∙ k) same
      ]
    ]

-- unended runs of one age are one
pub ages-differ : (start : Start) (lines : List EngineLine) (u v : Tid) (a b : Run) → IsStart start → IsRight start lines → run_at start lines u ≡ Some a → run_at start lines v ≡ Some b → a.age ≡ b.age → u ≡ v
ages-differ start [] u v a b starts right h k same = restored-differ start.doubtful u v a b starts.apart h k same
ages-differ start (line ∷ older) u v a b starts right h k same =
    elim (own_or_other start line older u a h) [
      | inl own ↦ elim (own_or_other start line older v b k) [
        | inl also ↦ sym own.0 ∙ also.0
        | inr other ↦ elim (through_line line (run_at start older u) a own.1) [
          | inl begins ↦
              let above = begins-above start line older a begins right.0 in
              let below = age-le start older v b starts right.1 other.1 in
              absurd (omega arith)
          | inr on ↦ ages-differ start older u v on.run b starts right.1 on.was other.1 (sym on.age ∙ same)
        ]
      ]
      | inr other ↦ elim (own_or_other start line older v b k) [
        | inl own ↦ elim (through_line line (run_at start older v) b own.1) [
          | inl begins ↦
              let above = begins-above start line older b begins right.0 in
              let below = age-le start older u a starts right.1 other.1 in
              absurd (omega arith)
          | inr on ↦ ages-differ start older u v a on.run starts right.1 other.1 on.was (same ∙ on.age)
        ]
        | inr also ↦ ages-differ start older u v a b starts right.1 other.1 also.1 same
      ]
    ]
