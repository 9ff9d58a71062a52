-- The lines that end a run otherwise than by commit, whatever they are the answer to.
use Rattle.std.proofs.Common.{◌≡◌, true}
use Rattle.mdb_base.specs.declared.replies.Reply.TheVariants.{Done, Value, Ticket, Wait, Refused, Unknown}
use Rattle.fed_rules.specs.Runs.{EngineLine, Begins, Acts, Takes, Seals, Refuses, Commits, Aborts, tid_of, gives_up}
use Rattle.run_book.specs.Book.{RoomyBook, drops}
use Rattle.run_book.specs.Laws.{IsCalled}

-- a book from which the run was dropped is the one behind such a line
pub called_ends : (old new : RoomyBook) (line : EngineLine) → gives_up line ≡ true → new.book ≡ drops (tid_of line) old.book → IsCalled old line new
called_ends old new (Begins tid n) h is = cc
called_ends old new (Acts tid act (Refused why)) h is = is
called_ends old new (Acts tid act (Wait by)) h is = cc
called_ends old new (Acts tid act (Ticket n)) h is = cc
called_ends old new (Acts tid act (Value v)) h is = cc
called_ends old new (Acts tid act Done) h is = cc
called_ends old new (Acts tid act Unknown) h is = cc
called_ends old new (Takes tid (Refused why)) h is = is
called_ends old new (Takes tid (Wait by)) h is = cc
called_ends old new (Takes tid (Ticket n)) h is = cc
called_ends old new (Takes tid (Value v)) h is = cc
called_ends old new (Takes tid Done) h is = cc
called_ends old new (Takes tid Unknown) h is = cc
called_ends old new (Seals tid n) h is = cc
called_ends old new (Refuses tid why) h is = is
called_ends old new (Commits tid) h is = cc
called_ends old new (Aborts tid) h is = is
