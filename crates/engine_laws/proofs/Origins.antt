-- Where a run comes from: it was restored and is as it was then, or its numbers and its ticket are greater than those of the start.
use Rattle.std.proofs.Common.{◌≡◌, ℕ, ◌+◌, ◌<◌, ◌≤◌, ◌⊎◌, Some, None, List, [], ◌∷◌, refl, ap, ◌∙◌, inl, inr, arith}
use Rattle.mdb_base.specs.declared.replies.Reply.TheVariants.{Ticket}
use Rattle.mdb_base.specs.Words.{Each}
use Rattle.mdb_base.proofs.ForCallers.{each_all}
use Rattle.fed_rules.specs.declared.runs.Kept.{Kept}
use Rattle.fed_rules.specs.Runs.{Start, EngineLine, Takes, Seals, Run, tid_of, restored, restored_at, counter, committed, published}
use Rattle.fed_rules.specs.Replies.{Drawn, AtBegin, AtSealing, rule, ticket_reply, number_drawn}
use Rattle.fed_rules.specs.EngineLines.{IsRight}
use Rattle.engine_laws.specs.Unended.{EachRun}
use Rattle.engine_laws.proofs.Runs.{Own, begins, stays, got, wrote, takes, seals, own, at_line, each_committed, each_restored, tid_is}
use Rattle.engine_laws.proofs.Counted.{counter_grows}
use Rattle.engine_laws.proofs.Tickets.{published_grows}
use Rattle.engine_laws.proofs.Forms.{forms, form_grants}

-- the numbers and the ticket of the run are greater than those of the start
pub record IsNew (start : Start) (run : Run) : Type 0 where
  pub age : start.counter < run.age
  pub sealed : (n : ℕ) → run.sealed ≡ Some n → start.counter < n
  pub ticket : (t : ℕ) → run.ticket ≡ Some t → start.published < t

-- the run is as it was restored
abbrev pub IsRestored : Start → Run → Type 0
IsRestored start run = (restored_at start.doubtful run.tid ≡ Some run) × ((kept : Kept) × (restored kept ≡ run))

abbrev pub IsFrom : Start → Run → Type 0
IsFrom start run = IsRestored start run ⊎ IsNew start run

counter_from : (start : Start) (lines : List EngineLine) → start.counter ≤ counter start lines
counter_from start [] = omega arith
counter_from start (line ∷ older) = let rest = counter_from start older in let grows =
    counter_grows start older line in omega arith

pub published_from : (start : Start) (lines : List EngineLine) → start.published ≤ published start lines
published_from start [] = omega arith
published_from start (line ∷ older) = let rest = published_from start older in let grows =
    published_grows start older line in omega arith

-- a ticket that is given is the one behind the published one
pub ticket_next : (start : Start) (older : List EngineLine) (run : Run) (n : ℕ)
    → Ticket n ≡ ticket_reply start older run → n ≡ published start older + 1
ticket_next start older run n e =
    let same = (form_grants ((rule start.kind).ticket start older run) (Ticket (published start older + 1)) (Ticket n)
    ((forms start.kind).ticket start older run) refl e).1 in cc

sealed_new : (drawn : Drawn) (start : Start) (older : List EngineLine) (run : Run) (n : ℕ) → IsNew start run
    → n ≡ number_drawn drawn start older run → start.counter < n
sealed_new AtBegin start older run n new e = let age = new.age in omega arith
sealed_new AtSealing start older run n new e = let from = counter_from start older in omega arith

-- a live run was begun here
live_new : (start : Start) (run : Run) → run.sealed ≡ None → IsFrom start run → IsNew start run
live_new start run open_run (inl (at, (kept, is))) =
    let sealed : Some kept.number ≡ run.sealed = ap (λ r. r.sealed) is in cc
live_new start run open_run (inr new) = new

own_from : (start : Start) (older : List EngineLine) (line : EngineLine) (r : Run) → EachRun start older (IsFrom start)
    → Own start older line r → IsFrom start r
own_from start older line r h (begins free next) =
    let from = counter_from start older in
    inr (record { age = omega arith; sealed = λ n e. cc; ticket = λ t e. cc })
own_from start older line r h (stays waits at) = h _ r at
own_from start older line r h (got run live is) =
    let new = live_new start run live.1 (h _ run live.0) in inr
    (record { age = new.age; sealed = new.sealed; ticket = new.ticket })
own_from start older line r h (wrote run live is) =
    let new = live_new start run live.1 (h _ run live.0) in inr
    (record { age = new.age; sealed = new.sealed; ticket = new.ticket })
own_from start older (Takes tid (Ticket n)) r h (takes run live is) =
    let new = live_new start run live.1 (h _ run live.0) in
    inr (record {
      age = new.age;
      sealed = new.sealed;
      ticket = λ t e.
          let same : n ≡ t = cc in
          let next = ticket_next start older run n is in
          let from = published_from start older in omega arith;
    })
own_from start older (Seals tid n) r h (seals run live stop next) =
    let new = live_new start run live.1 (h _ run live.0) in
    inr (record {
      age = new.age;
      sealed = λ m e. let same : n ≡ m = cc in let greater = sealed_new (rule start.kind).drawn start older run n new next in omega arith;
      ticket = new.ticket;
    })

restored_from : (start : Start) → EachRun start [] (IsFrom start)
restored_from start tid run at =
    inl (
      ap (restored_at start.doubtful) (tid_is start [] tt tid run at) ∙ at,
      each_restored (λ r. (kept : Kept) × (restored kept ≡ r)) start.doubtful
          (each_all (λ kept. (k : Kept) × (restored k ≡ restored kept)) (λ kept. (kept, refl)) start.doubtful) tid run at,
    )

-- each unended run was restored or is new
pub origins : (start : Start) (lines : List EngineLine) → IsRight start lines → EachRun start lines (IsFrom start)
origins start [] right tid run at = restored_from start tid run at
origins start (line ∷ older) right tid run at = elim (at_line start older line tid run at) [
  | inl (other, was) ↦ origins start older right.1 tid run was
  | inr (same, now) ↦ own_from start older line run (origins start older right.1) (own start older line run right.0 now)
]

-- and so was each committed one
pub committed_origins : (start : Start) (lines : List EngineLine) → IsRight start lines
    → Each (IsFrom start) (committed start lines)
committed_origins start [] right = tt
committed_origins start (line ∷ older) right =
    each_committed start older line (IsFrom start) right.0
    (λ run n is sealed. origins start older right.1 (tid_of line) run sealed.0) (committed_origins start older right.1)
