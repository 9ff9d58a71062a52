-- The book of each call holds what the lines say with that call's line.
use Rattle.std.proofs.Common.{◌≡◌, ℕ, ◌+◌, ◌≤◌, cond, Option, Some, List, [], ◌∷◌, sym, ap, ◌∙◌, subst, arith}
use Rattle.mdb_base.specs.declared.names.Engine.{Engine}
use Rattle.mdb_base.specs.declared.names.Tid.{Tid}
use Rattle.mdb_base.specs.declared.acts.PlainAct.TheVariants.{Read, Write}
use Rattle.mdb_base.specs.declared.replies.Reply.TheVariants.{Done, Value, Ticket, Wait, Refused, Unknown}
use Rattle.mdb_base.specs.Words.{map_some, or_else}
use Rattle.fed_rules.specs.Runs.{Start, EngineLine, Begins, Acts, Takes, Seals, Refuses, Commits, Aborts, Run, run_at, has_ticket}
use Rattle.fed_rules.proofs.ForCallers.{run_at_own}
use Rattle.run_book.specs.declared.counters.Counters.{Counters}
use Rattle.run_book.specs.Held.{Held, held_in}
use Rattle.run_book.specs.Book.{Book, RoomyBook, begins, taken_by}
use Rattle.run_book.specs.Keeps.{Keeps, KeepsRoomy, taken_back}
use Rattle.run_book.specs.Laws.{StartsWell, CallsWell, UnbeginsWell, UnsealsWell}
use Rattle.run_book.proofs.Calls.{is_held, keeps_read, keeps_wrote, keeps_waits, keeps_refused, keeps_took, keeps_waits_for_ticket, keeps_ticket_refused, keeps_seal_refused, keeps_aborts}
use Rattle.run_book.proofs.Commits.{keeps_commits}
use Rattle.run_book.proofs.Numbers.{keeps_begins, keeps_unbegins, keeps_seals, keeps_unseals}
use Rattle.run_book.proofs.Starts.{keeps_starts}

-- a book that is made so
made : (kind : Engine) (new : RoomyBook) (start : Start) (lines : List EngineLine) (book : Book) → new.book ≡ book → Keeps kind book start lines → taken_back start lines ≤ new.room → KeepsRoomy kind new start lines
made kind new start lines book is k room = record { keeps = subst (λ (b : Book). Keeps kind b start lines) (sym is) k; room = room }

pub starts_well : (kind : Engine) → StartsWell kind
starts_well kind new rows doubtful c p o rising starts is =
    made kind new _ [] _ is (keeps_starts kind rows doubtful c p o rising starts) (omega arith)

-- what a run in the book has taken
taken_here : (kind : Engine) (book : Book) (start : Start) (lines : List EngineLine) (tid : Tid) (run : Run) → Keeps kind book start lines → run_at start lines tid ≡ Some run →
    taken_by (held_in book.runs tid) ≡ cond (has_ticket run) 1 0
taken_here kind book start lines tid run k at =
    let here = is_held kind book start lines tid run k at in
    ap (λ (o : Option Held). taken_by o) here.found ∙ ap (λ (r : Run). cond (has_ticket r) 1 0) here.run_is

taken_there : (start : Start) (older : List EngineLine) (tid : Tid) (n : ℕ) (run : Run) → run_at start older tid ≡ Some run → taken_back start (Seals tid n ∷ older) ≡ taken_back start older + cond (has_ticket run) 1 0
taken_there start older tid n run at = ap (λ (o : Option Run). taken_back start older + or_else (map_some (λ (r : Run). cond (has_ticket r) 1 0) o) 0) at

pub calls_well : (kind : Engine) → CallsWell kind
calls_well kind old new start older (Begins tid n) k right called =
    let number : n ≡ old.book.counters.counter + 1 = right.1 ∙ sym (ap (λ (m : Counters). m.counter + 1) k.keeps.counters) in
    let room = k.room in
    made kind new start (Begins tid n ∷ older) _ called.0
    (subst (λ (m : ℕ). Keeps kind (begins tid old.book) start (Begins tid m ∷ older)) (sym number) (keeps_begins kind old.book start older tid k.keeps right.0)) (omega (arith, called.1))
calls_well kind old new start older (Acts tid act (Wait by)) k right called = made kind new _ _ _ called (keeps_waits kind old.book start older tid act by k.keeps right) (omega arith)
calls_well kind old new start older (Acts tid act (Refused why)) k right called = made kind new _ _ _ called (keeps_refused kind old.book start older tid act why k.keeps right) (omega arith)
calls_well kind old new start older (Acts tid (Read key) (Value value)) k right called = made kind new _ _ _ called (keeps_read kind old.book start older tid key value k.keeps right) (omega arith)
calls_well kind old new start older (Acts tid (Write key value) Done) k right called = made kind new _ _ _ called (keeps_wrote kind old.book start older tid key value k.keeps right) (omega arith)
calls_well kind old new start older (Acts tid (Read key) (Ticket n)) k right called = absurd called
calls_well kind old new start older (Acts tid (Read key) Unknown) k right called = absurd called
calls_well kind old new start older (Acts tid (Read key) Done) k right called = absurd called
calls_well kind old new start older (Acts tid (Write key v) (Ticket n)) k right called = absurd called
calls_well kind old new start older (Acts tid (Write key v) Unknown) k right called = absurd called
calls_well kind old new start older (Acts tid (Write key v) (Value value)) k right called = absurd called
calls_well kind old new start older (Takes tid (Wait by)) k right called = made kind new _ _ _ called (keeps_waits_for_ticket kind old.book start older tid by k.keeps right) (omega arith)
calls_well kind old new start older (Takes tid (Refused why)) k right called = made kind new _ _ _ called (keeps_ticket_refused kind old.book start older tid why k.keeps right) (omega arith)
calls_well kind old new start older (Takes tid (Ticket n)) k right called = made kind new _ _ _ called (keeps_took kind old.book start older tid n k.keeps right) (omega arith)
calls_well kind old new start older (Takes tid Unknown) k right called = absurd called
calls_well kind old new start older (Takes tid Done) k right called = absurd called
calls_well kind old new start older (Takes tid (Value value)) k right called = absurd called
calls_well kind old new start older (Seals tid n) k right called =
    let here = taken_here kind old.book start older tid right.0 k.keeps right.1.0.0 in
    let there = taken_there start older tid n right.0 right.1.0.0 in
    let room = k.room in
    made kind new start (Seals tid n ∷ older) _ called.0 (keeps_seals kind old.book start older tid n k.keeps right) (omega (arith, called.1, here, there))
calls_well kind old new start older (Refuses tid why) k right called = made kind new _ _ _ called (keeps_seal_refused kind old.book start older tid why k.keeps right) (omega arith)
calls_well kind old new start older (Commits tid) k right called = made kind new _ _ _ called (keeps_commits kind old.book start older tid k.keeps right) (omega arith)
calls_well kind old new start older (Aborts tid) k right called = made kind new _ _ _ called (keeps_aborts kind old.book start older tid k.keeps right) (omega arith)

pub unbegins_well : (kind : Engine) → UnbeginsWell kind
unbegins_well kind old new start older tid n k is room =
    let had = k.room in made kind new start older _ is (keeps_unbegins kind old.book start older tid n k.keeps) (omega (arith, room))

pub unseals_well : (kind : Engine) → UnsealsWell kind
unseals_well kind old new start older tid n k is room =
    let right = k.keeps.right.0 in
    let sealed : Run = record right.0 { sealed = Some n } in
    let at = run_at_own start older (Seals tid n) (Some right.0) right.1.0.0 in
    let here = taken_here kind old.book start (Seals tid n ∷ older) tid sealed k.keeps at in
    let there = taken_there start older tid n right.0 right.1.0.0 in
    let had = k.room in
    made kind new start older _ is (keeps_unseals kind old.book start older tid n k.keeps) (omega (arith, room, here, there))
