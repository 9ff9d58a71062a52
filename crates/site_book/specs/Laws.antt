-- The book of each call follows the lines with that call's line.
use Rattle.std.specs.Prelude.{ℕ, ◌≡◌, ◌&&◌, ◌||◌, Bool, true, false, not, IsSome, is_some, Option, None, List, [], ◌∷◌, map}
use Rattle.mdb_base.specs.declared.names.Tid.{Tid}
use Rattle.fed_rules.specs.declared.runs.Kept.{Kept}
use Rattle.fed_rules.specs.Runs.{Start, EngineLine, Begins, Acts, Takes, Seals, Refuses, Commits, Aborts, Run, run_at, is_sealed}
use Rattle.fed_rules.specs.Site.{done, kept_reply}
use Rattle.fed_rules.specs.SitePast.{ends, live_one}
use Rattle.fed_rules.specs.SiteCommands.{run_reads}
use Rattle.mdb_base.specs.Words.{holds_of, map_some}
use Rattle.site_book.specs.Noted.{noted_of, done_in, reply_in}
use Rattle.site_book.specs.declared.progress.Progress.{Progress}
use Rattle.site_book.specs.declared.progress.Progress.TheVariants as Is
use Rattle.site_book.specs.Book.{Book, progress_of, live_in, is_sealed_in, is_closed_in, running_in, committed_in, begins_global, begins_local, unbegins_local, forgets, enters, closes, commits_local, notes_reply, notes_take, seals, restarted}
use Rattle.site_book.specs.Follows.{Follows}

-- what is noted of a run says how many of its operations are finished, the reply to the last one, and what it read
abbrev pub NotesWell : Type 0
NotesWell = (run : Run) → (done_in (noted_of run) ≡ done run) × (reply_in (noted_of run) ≡ kept_reply run) × ((noted_of run).reads ≡ run_reads run)

-- what a book that follows the lines answers of an attempt
pub record AnswersBy (book : Book) (u : Tid) (run : Option Run) (closed : Bool) : Type 0 where
  pub live : live_in book u ≡ map_some noted_of (live_one run)
  pub sealed : is_sealed_in book u ≡ holds_of is_sealed run
  pub closed_is : is_closed_in book u ≡ (not (is_some run) && closed)
  pub entered : is_some (progress_of book u) ≡ (is_some run || closed)

-- an attempt is live, sealed or closed in the book where the lines say so
abbrev pub AnswersWell : Type 0
AnswersWell =
    (book : Book) (start : Start) (lines : List EngineLine) (closed : Tid → Bool) → Follows book start lines closed
    → (u : Tid) → AnswersBy book u (run_at start lines u) (closed u)

-- which attempts are closed behind a line
abbrev pub ClosesBy : EngineLine → (Tid → Bool) → (Tid → Bool) → Type 0
ClosesBy line old new = (u : Tid) → new u ≡ (ends u line || old u)

-- how a call leaves the book, by its line
abbrev pub IsCalled : Book → EngineLine → Book → Type 0
IsCalled old (Begins tid n) new = new.attempts ≡ (begins_global tid old).attempts
IsCalled old (Acts tid act reply) new = IsSome (live_in old tid) × (new ≡ notes_reply tid act reply old)
IsCalled old (Takes tid reply) new = IsSome (live_in old tid) × (new ≡ notes_take tid reply old)
IsCalled old (Seals tid n) new = IsSome (live_in old tid) × (new ≡ seals tid old)
IsCalled old (Refuses tid why) new = new.attempts ≡ (closes tid old).attempts
IsCalled old (Commits tid) new = new.attempts ≡ (closes tid old).attempts
IsCalled old (Aborts tid) new = new.attempts ≡ (closes tid old).attempts

-- a line behind which the book is left so
abbrev pub CallsWell : Type 0
CallsWell =
    (old new : Book) (start : Start) (older : List EngineLine) (line : EngineLine) (before behind : Tid → Bool) → Follows old start older before
    → ClosesBy line before behind → IsCalled old line new → Follows new start (line ∷ older) behind

-- the commit of a local attempt seals it and commits it
abbrev pub CommitsWell : Type 0
CommitsWell =
    (old new : Book) (start : Start) (older : List EngineLine) (tid : Tid) (n : ℕ) (before behind : Tid → Bool) → Follows old start older before
    → IsSome (live_in old tid) → ClosesBy (Commits tid) before behind → new.attempts ≡ (commits_local tid old).attempts
    → Follows new start (Commits tid ∷ Seals tid n ∷ older) behind

-- a decision on an attempt that has no unended run closes it, with no line
abbrev pub DecidesWell : Type 0
DecidesWell =
    (old new : Book) (start : Start) (lines : List EngineLine) (tid : Tid) (before behind : Tid → Bool) → Follows old start lines before
    → run_at start lines tid ≡ None → ClosesBy (Aborts tid) before behind → new.attempts ≡ (enters tid Is.Closed old).attempts
    → Follows new start lines behind

-- and one on an attempt that is closed changes nothing
abbrev pub StaysClosed : Type 0
StaysClosed =
    (book : Book) (start : Start) (lines : List EngineLine) (tid : Tid) (before behind : Tid → Bool) → Follows book start lines before
    → is_closed_in book tid ≡ true → ClosesBy (Aborts tid) before behind → Follows book start lines behind

-- a begin that is taken back leaves the book as it was, and so does an entry
abbrev pub UndoesWell : Type 0
UndoesWell =
    (book : Book) (tid : Tid) → progress_of book tid ≡ None
    → ((progress : Progress) → forgets tid (enters tid progress book) ≡ book) × (running_in book tid.tx ≡ None → committed_in book tid.tx ≡ None → unbegins_local tid (begins_local tid book) ≡ book)

-- an epoch starts with those that are in doubt, each attempt once
abbrev pub StartsWell : Type 0
StartsWell =
    (old new : Book) (start : Start) (committed doubtful : List Tid) → new ≡ restarted committed doubtful old → doubtful ≡ map (λ (kept : Kept). kept.tid) start.doubtful
    → Follows new start [] (λ u. false)
