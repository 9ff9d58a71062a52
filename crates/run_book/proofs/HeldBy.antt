-- What the condition of a call says of the book.
use Rattle.std.proofs.Common.{◌≡◌, ℕ, Option, Some, None, List, IsSome, refl, ap, subst, ◌∙◌}
use Rattle.mdb_base.specs.declared.names.Engine.{Engine}
use Rattle.mdb_base.specs.declared.names.Tid.{Tid}
use Rattle.fed_rules.specs.Runs.{Start, EngineLine, Begins, Seals, Run, begun, run_at}
use Rattle.fed_rules.specs.EngineLines.{IsRight}
use Rattle.engine_contract.specs.Calls.{CanAct, CanTake, CanSeal, CanCommit, CanAbort, HasJustBegun, HasJustSealed}
use Rattle.fed_rules.proofs.ForCallers.{run_at_own}
use Rattle.run_book.specs.Held.{Held, held_in}
use Rattle.run_book.specs.Book.{Book}
use Rattle.run_book.specs.Keeps.{Keeps}
use Rattle.run_book.proofs.Calls.{is_held}

-- the book has a live run of the attempt
pub record IsLiveHeld (book : Book) (tid : Tid) : Type 0 where
  pub held : Held
  pub found : held_in book.runs tid ≡ Some held
  pub live : held.run.sealed ≡ None

-- it has one without a ticket
pub record IsTicketlessHeld (book : Book) (tid : Tid) : Type 0 where
  pub held : Held
  pub found : held_in book.runs tid ≡ Some held
  pub live : held.run.sealed ≡ None
  pub ticketless : held.run.ticket ≡ None

-- it has a sealed one
pub record IsSealedHeld (book : Book) (tid : Tid) : Type 0 where
  pub held : Held
  pub number : ℕ
  pub found : held_in book.runs tid ≡ Some held
  pub sealed : held.run.sealed ≡ Some number

-- what is found is there
pub some-found : {A : Type 0} (o : Option A) (x : A) → o ≡ Some x → IsSome o
some-found None x e = cc
some-found (Some y) x e = refl

pub live_held : (kind : Engine) (book : Book) (start : Start) (lines : List EngineLine) (tid : Tid) → Keeps kind book start lines → CanAct tid start lines → IsLiveHeld book tid
live_held kind book start lines tid k can =
    let here = is_held kind book start lines tid can.run k can.live.0 in
    record { held = here.held; found = here.found; live = ap (λ (r : Run). r.sealed) here.run_is ∙ can.live.1 }

pub ticketless_held : (kind : Engine) (book : Book) (start : Start) (lines : List EngineLine) (tid : Tid) → Keeps kind book start lines → CanTake tid start lines → IsTicketlessHeld book tid
ticketless_held kind book start lines tid k can =
    let here = is_held kind book start lines tid can.run k can.ticketless.0 in
    record { held = here.held; found = here.found; live = ap (λ (r : Run). r.sealed) here.run_is ∙ can.ticketless.1; ticketless = ap (λ (r : Run). r.ticket) here.run_is ∙ can.ticketless.2 }

pub sealable_held : (kind : Engine) (book : Book) (start : Start) (lines : List EngineLine) (tid : Tid) → Keeps kind book start lines → CanSeal tid start lines → IsLiveHeld book tid
sealable_held kind book start lines tid k can = live_held kind book start lines tid k (record { run = can.run; live = can.live })

pub sealed_held : (kind : Engine) (book : Book) (start : Start) (lines : List EngineLine) (tid : Tid) → Keeps kind book start lines → CanCommit tid start lines → IsSealedHeld book tid
sealed_held kind book start lines tid k can =
    let here = is_held kind book start lines tid can.run k can.sealed.0 in
    record { held = here.held; number = can.number; found = here.found; sealed = ap (λ (r : Run). r.sealed) here.run_is ∙ can.sealed.1 }

pub unended_held : (kind : Engine) (book : Book) (start : Start) (lines : List EngineLine) (tid : Tid) → Keeps kind book start lines → CanAbort tid start lines → IsSome (held_in book.runs tid)
unended_held kind book start lines tid k can =
    let here = is_held kind book start lines tid can.run k can.unended in some-found _ here.held here.found

pub begun_held : (kind : Engine) (book : Book) (start : Start) (lines : List EngineLine) (tid : Tid) → Keeps kind book start lines → HasJustBegun tid start lines → IsSome (held_in book.runs tid)
begun_held kind book start lines tid k can =
    let line = Begins tid can.number in
    let at : run_at start lines tid ≡ Some (begun tid can.number) =
    ap (λ (ls : List EngineLine). run_at start ls tid) can.newest ∙ run_at_own start can.older line (run_at start can.older tid) refl in
    let here = is_held kind book start lines tid _ k at in some-found _ here.held here.found

pub just_sealed_held : (kind : Engine) (book : Book) (start : Start) (lines : List EngineLine) (tid : Tid) → Keeps kind book start lines → HasJustSealed tid start lines → IsSome (held_in book.runs tid)
just_sealed_held kind book start lines tid k can =
    let line = Seals tid can.number in
    let right = (subst (λ (ls : List EngineLine). IsRight start ls) can.newest k.right).0 in
    let sealed_run : Run = record right.0 { sealed = Some can.number } in
    let at : run_at start lines tid ≡ Some sealed_run =
    ap (λ (ls : List EngineLine). run_at start ls tid) can.newest ∙ run_at_own start can.older line (Some right.0) right.1.0.0 in
    let here = is_held kind book start lines tid _ k at in some-found _ here.held here.found
