-- Backward validation gives every taker the next ticket and seals only who still has it, so tickets come in the order of the numbers.
use Rattle.std.proofs.Common.{◌≡◌, ℕ, ◌+◌, ◌⊎◌, max, Bool, true, false, cond, ◌==◌, Option, Some, None, is_some, List, [], ◌∷◌, refl, sym, ap, ◌∙◌, inl, inr, arith, eqb-true, ltb-false}
use Rattle.std.specs.Prelude.{nat_lt}
use Rattle.mdb_base.specs.declared.names.Tid.{Tid}
use Rattle.mdb_base.specs.declared.names.Engine.TheVariants.{Validation}
use Rattle.mdb_base.specs.declared.replies.Reply.TheVariants as Reply_is
use Rattle.mdb_base.proofs.ForCallers.{each_all}
use Rattle.fed_rules.specs.Runs.{Start, EngineLine, Seals, Run, restored, run_at, published, owner, ticket_of}
use Rattle.fed_rules.specs.Replies.{ticket_stop, or_reply, invalid, moved, moved_by, seal_stop, seal_number}
use Rattle.fed_rules.specs.EngineLines.{IsRight, IsStart}
use Rattle.engine_laws.specs.Unended.{EachRun}
use Rattle.engine_laws.proofs.Runs.{Own, begins, stays, got, wrote, takes, seals, own, each_run, each_restored}
use Rattle.engine_laws.proofs.Counted.{counted}
use Rattle.engine_laws.proofs.LockingTickets.{drawn_last}
use Rattle.engine_laws.proofs.Tickets.{IsInOrder, order_next, order_start}
use Rattle.engine_laws.proofs.ValidationRuns.{or_why_none}

-- the ticket is the next one, or the published one has an owner by now
abbrev HasNextOrOwner : ℕ → Option Tid → Run → Type 0
HasNextOrOwner published owner run = run.sealed ≡ None → (t : ℕ) → run.ticket ≡ Some t
    → (t ≡ published + 1) ⊎ (is_some owner ≡ true)

abbrev IsOwned : Start → List EngineLine → Type 0
IsOwned start lines = EachRun start lines (HasNextOrOwner (published start lines) (owner start lines))

-- over a line
owned_beside : (start : Start) (older : List EngineLine) (line : EngineLine) (r : Run)
    → HasNextOrOwner (published start older) (owner start older) r
    → HasNextOrOwner (published start (line ∷ older)) (owner start (line ∷ older)) r
owned_beside start older (Seals tid n) r h open_run t taken = by_test (nat_lt p s) refl (h open_run t taken)
  where
    p : ℕ
    p = published start older

    s : ℕ
    s = ticket_of (run_at start older tid)

    by_test : (b : Bool) → nat_lt p s ≡ b → (t ≡ p + 1) ⊎ (is_some (owner start older) ≡ true)
        → (t ≡ max s p + 1) ⊎ (is_some (cond b (Some tid) (owner start older)) ≡ true)
    by_test true is old = inr refl
    by_test false is (inl next) = let most = ltb-false p s is in inl (omega arith)
    by_test false is (inr owned) = inr owned
owned_beside start older line r h open_run t taken = h open_run t taken

own_owned : (start : Start) (older : List EngineLine) (line : EngineLine) (r : Run) → start.kind ≡ Validation
    → IsOwned start older → Own start older line r
    → HasNextOrOwner (published start (line ∷ older)) (owner start (line ∷ older)) r
own_owned start older line r kind h (begins free next) = λ open_run t taken. cc
own_owned start older line r kind h (stays waits at) = owned_beside start older line r (h _ r at)
own_owned start older line r kind h (got run live is) = λ open_run t taken. h _ run live.0 open_run t taken
own_owned start older line r kind h (wrote run live is) = λ open_run t taken. h _ run live.0 open_run t taken
own_owned start older line r kind h (takes {n = n} run live is) = λ open_run t taken.
    let grant = Reply_is.Ticket (published start older + 1) in
    let by_rule : Reply_is.Ticket n ≡ grant = is ∙ ap (λ k. or_reply (ticket_stop k start older run) grant) kind in
    let next : n ≡ published start older + 1 = cc in
    let same : n ≡ t = cc in
    inl (sym same ∙ next)
own_owned start older line r kind h (seals run live stop next) = λ open_run t taken. cc

pub owned : (start : Start) (lines : List EngineLine) → start.kind ≡ Validation → IsRight start lines → IsOwned start lines
owned start [] kind right =
    each_restored (HasNextOrOwner start.published start.owner) start.doubtful
    (each_all (λ kept. HasNextOrOwner start.published start.owner (restored kept)) (λ kept open_run t taken. cc) start.doubtful)
owned start (line ∷ older) kind right =
    let h = owned start older kind right.1 in
    each_run start older line (HasNextOrOwner (published start (line ∷ older)) (owner start (line ∷ older)))
    (λ t r other was. owned_beside start older line r (h t r was))
    (λ r now. own_owned start older line r kind h (own start older line r right.0 now))

-- who is sealed with a ticket has the next one
pub unmoved : (start : Start) (lines : List EngineLine) (t : ℕ)
    → (t ≡ published start lines + 1) ⊎ (is_some (owner start lines) ≡ true)
    → moved start lines (Some t) ≡ None → t ≡ published start lines + 1
unmoved start lines t (inl next) e = next
unmoved start lines t (inr owned) e = by_test (t == published start lines + 1) refl e
  where
    no_owner : (o : Option Tid) → is_some o ≡ true → moved_by o ≡ None → ⊥
    no_owner None owned e = cc
    no_owner (Some tid) owned e = cc

    by_test : (b : Bool) → (t == published start lines + 1) ≡ b → cond b None (moved_by (owner start lines)) ≡ None
        → t ≡ published start lines + 1
    by_test true is e = eqb-true t (published start lines + 1) is
    by_test false is e = absurd (no_owner (owner start lines) owned e)

pub validation_in_order : (start : Start) (lines : List EngineLine) → start.kind ≡ Validation → IsStart start
    → IsRight start lines → IsInOrder start lines
validation_in_order start [] kind begun right = order_start start begun
validation_in_order start (line ∷ older) kind begun right =
    order_next start older line right.0
    (λ tid n run is_line live stop next t taken.
    let passed = (or_why_none (invalid start older run) (moved start older run.ticket)
    (sym (ap (λ k. seal_stop k start older run) kind) ∙ stop)).1 in
    let is : t ≡ published start older + 1 =
    unmoved start older t (owned start older kind right.1 tid run live.0 live.1 t taken)
    (ap (moved start older) (sym taken) ∙ passed) in
    drawn_last start older tid n t (counted start older begun right.1) (next ∙ ap (λ k. seal_number k start older run) kind)
    (omega arith))
    (validation_in_order start older kind begun right.1)
