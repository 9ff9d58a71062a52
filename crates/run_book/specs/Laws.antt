-- The book of each call holds what the lines say with that call's line.
use Rattle.std.specs.Prelude.{ℕ, ◌≡◌, ◌+◌, ◌≤◌, Option, List, [], ◌∷◌}
use Rattle.mdb_base.specs.declared.names.Engine.{Engine}
use Rattle.mdb_base.specs.declared.names.Tid.{Tid}
use Rattle.mdb_base.specs.declared.rows.Put.{Put}
use Rattle.mdb_base.specs.declared.acts.PlainAct.TheVariants.{Read, Write}
use Rattle.mdb_base.specs.declared.replies.Reply.TheVariants.{Done, Value, Ticket, Wait, Refused}
use Rattle.mdb_base.specs.Rising.{IsRising}
use Rattle.fed_rules.specs.declared.runs.Kept.{Kept}
use Rattle.fed_rules.specs.Runs.{Start, EngineLine, Begins, Acts, Takes, Seals, Refuses, Commits, Aborts, Got, Wrote}
use Rattle.fed_rules.specs.EngineLines.{IsStart, IsRightLine}
use Rattle.engine_contract.specs.Calls.{start_from}
use Rattle.run_book.specs.Held.{held_in}
use Rattle.run_book.specs.Book.{RoomyBook, started, begins, unbegins, grants, tickets, seals, unseals, drops, commits, taken_by}
use Rattle.run_book.specs.Keeps.{KeepsRoomy}

-- an epoch starts
abbrev pub StartsWell : Engine → Type 0
StartsWell kind =
    (new : RoomyBook) (rows : List Put) (doubtful : List Kept) (counter published : ℕ) (owner : Option Tid) → IsRising (λ row. row.key.0) rows
    → IsStart (start_from kind rows doubtful counter published owner)
    → new.book ≡ started rows doubtful (record { counter = counter; published = published; owner = owner })
    → KeepsRoomy kind new (start_from kind rows doubtful counter published owner) []

-- how a call leaves the book, by its line: an access that isn't granted, a ticket that isn't given, or a sealing that is refused ends the run or leaves it as it is
abbrev pub IsCalled : RoomyBook → EngineLine → RoomyBook → Type 0
IsCalled old (Begins tid n) new = (new.book ≡ begins tid old.book) × (old.room ≤ new.room)
IsCalled old (Acts tid act (Wait by)) new = new.book ≡ old.book
IsCalled old (Acts tid act (Refused why)) new = new.book ≡ drops tid old.book
IsCalled old (Acts tid (Read key) (Value value)) new = new.book ≡ grants tid (Got key value) old.book
IsCalled old (Acts tid (Write key value) Done) new = new.book ≡ grants tid (Wrote key value) old.book
IsCalled old (Takes tid (Wait by)) new = new.book ≡ old.book
IsCalled old (Takes tid (Refused why)) new = new.book ≡ drops tid old.book
IsCalled old (Takes tid (Ticket n)) new = new.book ≡ tickets tid n old.book
IsCalled old (Seals tid n) new = (new.book ≡ seals tid n old.book) × (old.room + taken_by (held_in old.book.runs tid) ≤ new.room)
IsCalled old (Refuses tid why) new = new.book ≡ drops tid old.book
IsCalled old (Commits tid) new = new.book ≡ commits tid old.book
IsCalled old (Aborts tid) new = new.book ≡ drops tid old.book
IsCalled old line new = ⊥

-- a begin is taken back
abbrev pub UnbeginsWell : Engine → Type 0
UnbeginsWell kind =
    (old new : RoomyBook) (start : Start) (older : List EngineLine) (tid : Tid) (n : ℕ) → KeepsRoomy kind old start (Begins tid n ∷ older)
    → new.book ≡ unbegins tid old.book → old.room ≤ new.room → KeepsRoomy kind new start older

-- a sealing is taken back
abbrev pub UnsealsWell : Engine → Type 0
UnsealsWell kind =
    (old new : RoomyBook) (start : Start) (older : List EngineLine) (tid : Tid) (n : ℕ) → KeepsRoomy kind old start (Seals tid n ∷ older)
    → new.book ≡ unseals tid old.book → old.room ≤ new.room + taken_by (held_in old.book.runs tid) → KeepsRoomy kind new start older

-- a right line behind which the book is left so
abbrev pub CallsWell : Engine → Type 0
CallsWell kind =
    (old new : RoomyBook) (start : Start) (older : List EngineLine) (line : EngineLine) → KeepsRoomy kind old start older → IsRightLine start older line → IsCalled old line new
    → KeepsRoomy kind new start (line ∷ older)
