-- The book of each call that leaves all numbers alone and commits nothing: an access, the taking of a ticket, a refusal, an abort.
use Rattle.std.proofs.Common.{◌≡◌, ℕ, Option, Some, None, List, ◌∷◌, refl, sym, ap, ◌∙◌}
use Rattle.std.proofs.lemmas.Option.{same_Some}
use Rattle.mdb_base.specs.declared.names.Engine.{Engine}
use Rattle.mdb_base.specs.declared.names.Key.{Key}
use Rattle.mdb_base.specs.declared.names.Tid.{Tid}
use Rattle.mdb_base.specs.declared.acts.PlainAct.{PlainAct}
use Rattle.mdb_base.specs.declared.acts.PlainAct.TheVariants.{Read, Write}
use Rattle.mdb_base.specs.declared.replies.Reply.TheVariants.{Done, Value, Ticket, Wait, Refused}
use Rattle.mdb_base.specs.declared.replies.Why.{Why}
use Rattle.mdb_base.specs.Words.{map_some}
use Rattle.fed_rules.specs.Runs.{Start, EngineLine, Acts, Takes, Refuses, Aborts, Got, Wrote, Run, tid_of, changed, run_at}
use Rattle.fed_rules.specs.EngineLines.{IsFree, IsRightLine}
use Rattle.run_book.specs.Held.{Held, Runs, held_in, changed_in, without}
use Rattle.run_book.specs.Book.{Book, granted_to, with_ticket, grants, tickets, drops}
use Rattle.run_book.specs.Keeps.{Keeps, run_in}
use Rattle.run_book.proofs.RunMaps.{held_in-changed_own, held_in-changed_other, held_in-without_own, held_in-without_other}
use Rattle.run_book.proofs.Steps.{IsQuiet, quiet_acts, quiet_takes, quiet_refuses, quiet_aborts, keeps_quiet, with_runs}

-- an unended run in the book
pub record IsHeld (book : Book) (u : Tid) (run : Run) : Type 0 where
  pub held : Held
  pub found : held_in book.runs u ≡ Some held
  pub run_is : held.run ≡ run

held_from : (helds : Runs) (u : Tid) (run : Run) (o : Option Held) → held_in helds u ≡ o → map_some (λ (h : Held). h.run) o ≡ Some run → (held : Held) × (held_in helds u ≡ Some held) × (held.run ≡ run)
held_from helds u run None e f = cc
held_from helds u run (Some held) e f = (held, e, same_Some held.run run f)

-- a run after the lines is held
pub is_held : (kind : Engine) (book : Book) (start : Start) (lines : List EngineLine) (u : Tid) (run : Run) → Keeps kind book start lines → run_at start lines u ≡ Some run → IsHeld book u run
is_held kind book start lines u run k h =
    let r = held_from book.runs u run (held_in book.runs u) refl (k.runs u ∙ h) in
    record { held = r.0; found = r.1; run_is = r.2 }

-- and what is held is a run after the lines
pub run_at-held : (kind : Engine) (book : Book) (start : Start) (lines : List EngineLine) (u : Tid) (held : Held) → Keeps kind book start lines → held_in book.runs u ≡ Some held → run_at start lines u ≡ Some held.run
run_at-held kind book start lines u held k found = sym (k.runs u) ∙ ap (λ (o : Option Held). map_some (λ h. h.run) o) found

not_sealed_twice : (run : Run) (held : Held) (n : ℕ) → held.run ≡ run → run.sealed ≡ None → held.run.sealed ≡ Some n → ⊥
not_sealed_twice run held n is live sealed =
    let bad : None ≡ Some n = sym live ∙ (ap (λ (r : Run). r.sealed) (sym is) ∙ sealed) in cc

-- a line that leaves its live run as it is
pub keeps_same : (kind : Engine) (book : Book) (start : Start) (older : List EngineLine) (line : EngineLine) (run : Run) →
    IsQuiet start older line → Keeps kind book start older → IsRightLine start older line →
    run_at start older (tid_of line) ≡ Some run → run.sealed ≡ None → changed line (Some run) ≡ Some run → Keeps kind book start (line ∷ older)
keeps_same kind book start older line run quiet k right at live same =
    let t = tid_of line in
    let here : run_in book.runs t ≡ Some run = k.runs t ∙ at in
    keeps_quiet kind book start older line book.runs quiet k right (here ∙ (sym same ∙ ap (λ (o : Option Run). changed line o) (sym here))) (λ u e. refl)
    (λ held n found sealed. not_sealed_twice run held n (same_Some held.run run (sym (ap (λ (o : Option Held). map_some (λ h. h.run) o) found) ∙ here)) live sealed)

-- a line that changes its live run
pub keeps_changes : (kind : Engine) (book : Book) (start : Start) (older : List EngineLine) (line : EngineLine) (run : Run) (change : Held → Held) →
    IsQuiet start older line → Keeps kind book start older → IsRightLine start older line →
    run_at start older (tid_of line) ≡ Some run → run.sealed ≡ None → ((h : Held) → (change h).run.sealed ≡ h.run.sealed) →
    ((h : Held) → changed line (Some h.run) ≡ Some (change h).run) → Keeps kind (with_runs (changed_in (tid_of line) change book.runs) book) start (line ∷ older)
keeps_changes kind book start older line run change quiet k right at live seal does =
    let t = tid_of line in
    let here = is_held kind book start older t run k at in
    let found = held_in-changed_own book.runs t change ∙ ap (λ (o : Option Held). map_some change o) here.found in
    let mapped = λ (o : Option Held). map_some (λ (h : Held). h.run) o in
    keeps_quiet kind book start older line (changed_in t change book.runs) quiet k right
    (ap mapped found ∙ (sym (does here.held) ∙ ap (λ (o : Option Run). changed line o) (sym (ap mapped here.found))))
    (λ u e. held_in-changed_other book.runs t u change e)
    (λ held n is sealed.
    let same : change here.held ≡ held = same_Some (change here.held) held (sym found ∙ is) in
    not_sealed_twice run here.held n here.run_is live (sym (seal here.held) ∙ (ap (λ (h : Held). h.run.sealed) same ∙ sealed)))

-- a line that ends its run otherwise than by commit
pub keeps_drops : (kind : Engine) (book : Book) (start : Start) (older : List EngineLine) (line : EngineLine) (run : Run) →
    IsQuiet start older line → Keeps kind book start older → IsRightLine start older line →
    run_at start older (tid_of line) ≡ Some run → changed line (Some run) ≡ None → Keeps kind (drops (tid_of line) book) start (line ∷ older)
keeps_drops kind book start older line run quiet k right at ends =
    let t = tid_of line in
    let gone = held_in-without_own book.runs t in
    keeps_quiet kind book start older line (without t book.runs) quiet k right
    (ap (λ (o : Option Held). map_some (λ h. h.run) o) gone ∙ (sym ends ∙ ap (λ (o : Option Run). changed line o) (sym (k.runs t ∙ at))))
    (λ u e. held_in-without_other book.runs t u e)
    (λ held n found sealed. let bad : None ≡ Some held = sym gone ∙ found in cc)

-- a granted read
pub keeps_read : (kind : Engine) (book : Book) (start : Start) (older : List EngineLine) (tid : Tid) (key : Key) (value : ℕ) →
    Keeps kind book start older → IsRightLine start older (Acts tid (Read key) (Value value)) → Keeps kind (grants tid (Got key value) book) start (Acts tid (Read key) (Value value) ∷ older)
keeps_read kind book start older tid key value k right =
    keeps_changes kind book start older (Acts tid (Read key) (Value value)) right.0 (granted_to (Got key value)) (quiet_acts start older tid (Read key) (Value value)) k right right.1.0.0 right.1.0.1
    (λ h. refl) (λ h. refl)

-- a granted write
pub keeps_wrote : (kind : Engine) (book : Book) (start : Start) (older : List EngineLine) (tid : Tid) (key : Key) (value : ℕ) →
    Keeps kind book start older → IsRightLine start older (Acts tid (Write key value) Done) → Keeps kind (grants tid (Wrote key value) book) start (Acts tid (Write key value) Done ∷ older)
keeps_wrote kind book start older tid key value k right =
    keeps_changes kind book start older (Acts tid (Write key value) Done) right.0 (granted_to (Wrote key value)) (quiet_acts start older tid (Write key value) Done) k right right.1.0.0 right.1.0.1
    (λ h. refl) (λ h. refl)

-- an access that waits
pub keeps_waits : (kind : Engine) (book : Book) (start : Start) (older : List EngineLine) (tid : Tid) (act : PlainAct) (by : Tid) →
    Keeps kind book start older → IsRightLine start older (Acts tid act (Wait by)) → Keeps kind book start (Acts tid act (Wait by) ∷ older)
keeps_waits kind book start older tid act by k right =
    keeps_same kind book start older (Acts tid act (Wait by)) right.0 (quiet_acts start older tid act (Wait by)) k right right.1.0.0 right.1.0.1 refl

-- an access that is refused
pub keeps_refused : (kind : Engine) (book : Book) (start : Start) (older : List EngineLine) (tid : Tid) (act : PlainAct) (why : Why) →
    Keeps kind book start older → IsRightLine start older (Acts tid act (Refused why)) → Keeps kind (drops tid book) start (Acts tid act (Refused why) ∷ older)
keeps_refused kind book start older tid act why k right =
    keeps_drops kind book start older (Acts tid act (Refused why)) right.0 (quiet_acts start older tid act (Refused why)) k right right.1.0.0 refl

-- a ticket that is taken
pub keeps_took : (kind : Engine) (book : Book) (start : Start) (older : List EngineLine) (tid : Tid) (ticket : ℕ) →
    Keeps kind book start older → IsRightLine start older (Takes tid (Ticket ticket)) → Keeps kind (tickets tid ticket book) start (Takes tid (Ticket ticket) ∷ older)
keeps_took kind book start older tid ticket k right =
    keeps_changes kind book start older (Takes tid (Ticket ticket)) right.0 (with_ticket ticket) (quiet_takes start older tid (Ticket ticket)) k right right.1.0.0 right.1.0.1
    (λ h. refl) (λ h. refl)

-- one that is waited for
pub keeps_waits_for_ticket : (kind : Engine) (book : Book) (start : Start) (older : List EngineLine) (tid by : Tid) →
    Keeps kind book start older → IsRightLine start older (Takes tid (Wait by)) → Keeps kind book start (Takes tid (Wait by) ∷ older)
keeps_waits_for_ticket kind book start older tid by k right =
    keeps_same kind book start older (Takes tid (Wait by)) right.0 (quiet_takes start older tid (Wait by)) k right right.1.0.0 right.1.0.1 refl

-- one that is refused
pub keeps_ticket_refused : (kind : Engine) (book : Book) (start : Start) (older : List EngineLine) (tid : Tid) (why : Why) →
    Keeps kind book start older → IsRightLine start older (Takes tid (Refused why)) → Keeps kind (drops tid book) start (Takes tid (Refused why) ∷ older)
keeps_ticket_refused kind book start older tid why k right =
    keeps_drops kind book start older (Takes tid (Refused why)) right.0 (quiet_takes start older tid (Refused why)) k right right.1.0.0 refl

-- a sealing that is refused
pub keeps_seal_refused : (kind : Engine) (book : Book) (start : Start) (older : List EngineLine) (tid : Tid) (why : Why) →
    Keeps kind book start older → IsRightLine start older (Refuses tid why) → Keeps kind (drops tid book) start (Refuses tid why ∷ older)
keeps_seal_refused kind book start older tid why k right =
    keeps_drops kind book start older (Refuses tid why) right.0 (quiet_refuses start older tid why) k right right.1.0.0 refl

-- an abort
pub keeps_aborts : (kind : Engine) (book : Book) (start : Start) (older : List EngineLine) (tid : Tid) →
    Keeps kind book start older → IsRightLine start older (Aborts tid) → Keeps kind (drops tid book) start (Aborts tid ∷ older)
keeps_aborts kind book start older tid k right =
    keeps_drops kind book start older (Aborts tid) right.0 (quiet_aborts start older tid) k right right.1 refl

-- an attempt that is free after some lines that the book holds is free after all of them
pub free_after : (kind : Engine) (book : Book) (start : Start) (lines : List EngineLine) (other : Start) (others : List EngineLine) (u : Tid) → Keeps kind book start lines → Keeps kind book other others → IsFree other others u → IsFree start lines u
free_after kind book start lines other others u k j free = sym (k.runs u) ∙ (j.runs u ∙ free)
