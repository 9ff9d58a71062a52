-- Locking and timestamp order: of the runs that aren't sealed yet at most one has the ticket, and that is the next one to be published.
use Rattle.std.proofs.Common.{◌≡◌, ℕ, ◌+◌, max, true, false, Option, Some, None, List, [], ◌∷◌, refl, sym, ap, ◌∙◌, arith}
use Rattle.mdb_base.specs.declared.names.Tid.{Tid}
use Rattle.mdb_base.specs.declared.replies.Reply.TheVariants as Reply_is
use Rattle.mdb_base.specs.Names.{same_tid}
use Rattle.mdb_base.specs.Words.{or_else}
use Rattle.mdb_base.proofs.ForCallers.{each_all}
use Rattle.fed_rules.specs.Runs.{Start, EngineLine, Begins, Acts, Takes, Seals, Refuses, Commits, Aborts, Run, tid_of, restored, run_at, published}
use Rattle.fed_rules.specs.Replies.{ticket_reply}
use Rattle.fed_rules.specs.EngineLines.{IsRightLine, IsTicketless}
use Rattle.engine_laws.specs.Unended.{EachRun, EachPair}
use Rattle.engine_laws.proofs.Runs.{may_wait, Own, begins, stays, got, wrote, takes, seals, own, each_run, each_pair, each_restored}
use Rattle.engine_laws.proofs.Tickets.{published_at}

-- the run isn't sealed and has a ticket
pub record IsTaker (run : Run) : Type 0 where
  pub open_run : run.sealed ≡ None
  pub ticket : ℕ
  pub taken : run.ticket ≡ Some ticket

-- a taker has the ticket behind the published one, and there is no second taker
pub record HasOneTaker (start : Start) (lines : List EngineLine) : Type 0 where
  pub next : EachRun start lines (λ r. r.sealed ≡ None → (t : ℕ) → r.ticket ≡ Some t → t ≡ published start lines + 1)
  pub one : EachPair start lines (λ a b. IsTaker a → IsTaker b → ⊥)

-- the ticket is given where there is no taker, and it is the one behind the published one
abbrev pub TakesFree : Start → List EngineLine → EngineLine → Type 0
TakesFree start older line =
    (tid : Tid) (n : ℕ) (run : Run) → line ≡ Takes tid (Reply_is.Ticket n) → IsTicketless start older tid run
    → Reply_is.Ticket n ≡ ticket_reply start older run
    → (n ≡ published start older + 1) × ((u : Tid) (b : Run) → same_tid tid u ≡ false → run_at start older u ≡ Some b → IsTaker b
    → ⊥)

-- an access or a taking publishes nothing
published_still : (start : Start) (older : List EngineLine) (line : EngineLine) → may_wait line ≡ true
    → published start (line ∷ older) ≡ published start older
published_still start older (Begins tid n) waits = cc
published_still start older (Acts tid act reply) waits = refl
published_still start older (Takes tid reply) waits = refl
published_still start older (Seals tid n) waits = cc
published_still start older (Refuses tid why) waits = cc
published_still start older (Commits tid) waits = cc
published_still start older (Aborts tid) waits = cc

-- what a line publishes leaves the ticket of another taker the next one
published_beside : (start : Start) (older : List EngineLine) (line : EngineLine) → IsRightLine start older line
    → HasOneTaker start older
    → (t : Tid) (r : Run) → same_tid (tid_of line) t ≡ false → run_at start older t ≡ Some r → IsTaker r
    → published start (line ∷ older) ≡ published start older
published_beside start older (Seals tid n) (run, (live, stop, next)) h t r other was taker = by_ticket run.ticket refl
  where
    by_ticket : (o : Option ℕ) → run.ticket ≡ o → published start (Seals tid n ∷ older) ≡ published start older
    by_ticket None none =
        let is : published start (Seals tid n ∷ older) ≡ max 0 (published start older) =
        published_at start older tid n run live.0 ∙ ap (λ o. max (or_else o 0) (published start older)) none in
        omega arith
    by_ticket (Some s) taken = absurd (h.one tid t run r other live.0 was
        (record { open_run = live.1; ticket = s; taken = taken }) taker)
published_beside start older line right h t r other was taker = refl

own_next : (start : Start) (older : List EngineLine) (line : EngineLine) (r : Run) → TakesFree start older line
    → HasOneTaker start older → Own start older line r
    → r.sealed ≡ None → (t : ℕ) → r.ticket ≡ Some t → t ≡ published start (line ∷ older) + 1
own_next start older line r free h (begins new next) open_run t taken = cc
own_next start older line r free h (stays waits at) open_run t taken =
    h.next _ r at open_run t taken ∙ ap (λ p. p + 1) (sym (published_still start older line waits))
own_next start older line r free h (got run live is) open_run t taken = h.next _ run live.0 open_run t taken
own_next start older line r free h (wrote run live is) open_run t taken = h.next _ run live.0 open_run t taken
own_next start older line r free h (takes {tid = tid} {n = n} run live is) open_run t taken = let same : n ≡ t =
    cc in sym same ∙ (free tid n run refl live is).0
own_next start older line r free h (seals run live stop next) open_run t taken = cc

own_one : (start : Start) (older : List EngineLine) (line : EngineLine) (r : Run) → TakesFree start older line
    → HasOneTaker start older → Own start older line r
    → (u : Tid) (b : Run) → same_tid (tid_of line) u ≡ false → run_at start older u ≡ Some b → IsTaker r → IsTaker b → ⊥
own_one start older line r free h (begins new next) u b other was mine its = let taken = mine.taken in cc
own_one start older line r free h (stays waits at) u b other was mine its = h.one _ u r b other at was mine its
own_one start older line r free h (got run live is) u b other was mine its =
    h.one _ u run b other live.0 was (record { open_run = mine.open_run; ticket = mine.ticket; taken = mine.taken }) its
own_one start older line r free h (wrote run live is) u b other was mine its =
    h.one _ u run b other live.0 was (record { open_run = mine.open_run; ticket = mine.ticket; taken = mine.taken }) its
own_one start older line r free h (takes {tid = tid} {n = n} run live is) u b other was mine its =
    (free tid n run refl live is).1 u b other was its
own_one start older line r free h (seals run live stop next) u b other was mine its = let open_run = mine.open_run in cc

pub one_taker_next : (start : Start) (older : List EngineLine) (line : EngineLine) → IsRightLine start older line
    → TakesFree start older line → HasOneTaker start older
    → HasOneTaker start (line ∷ older)
one_taker_next start older line right free h = record {
  next = each_run start older line (λ r. r.sealed ≡ None → (t : ℕ) → r.ticket ≡ Some t → t ≡ published start (line ∷ older) + 1)
      (λ t r other was open_run n taken.
      h.next t r was open_run n taken
      ∙ ap (λ p. p + 1) (sym (published_beside start older line right h t r other was
      (record { open_run = open_run; ticket = n; taken = taken }))))
      (λ r now. own_next start older line r free h (own start older line r right now));
  one = each_pair start older line (λ a b. IsTaker a → IsTaker b → ⊥) h.one
      (λ u r b other now was.
      let mine = own_one start older line r free h (own start older line r right now) u b other was in
      (mine, λ its taker. mine taker its));
}

pub one_taker_start : (start : Start) → HasOneTaker start []
one_taker_start start = record {
  next = each_restored (λ r. r.sealed ≡ None → (t : ℕ) → r.ticket ≡ Some t → t ≡ start.published + 1) start.doubtful
      (each_all (λ kept. (restored kept).sealed ≡ None → (t : ℕ) → (restored kept).ticket ≡ Some t → t ≡ start.published + 1)
      (λ kept open_run t taken. cc) start.doubtful);
  one = λ t u a b apart ea eb taker other. sealed_start t a ea taker;
}
  where
    sealed_start : (t : Tid) (a : Run) → run_at start [] t ≡ Some a → IsTaker a → ⊥
    sealed_start = each_restored (λ r. IsTaker r → ⊥) start.doubtful
        (each_all (λ kept. IsTaker (restored kept) → ⊥) (λ kept taker. let open_run = taker.open_run in cc) start.doubtful)
