-- What a site's book holds, and what each of its calls makes of it.
use Rattle.std.specs.Prelude.{ℕ, zero, suc, Bool, true, false, cond, Option, Some, None, List, [], ◌∷◌}
use Rattle.std.specs.FinMap.{FinMap, empty, get, insert, remove}
use Rattle.mdb_base.specs.declared.acts.PlainAct.{PlainAct}
use Rattle.mdb_base.specs.declared.acts.PlainAct.TheVariants.{Read, Write}
use Rattle.mdb_base.specs.declared.names.Tid.{Tid}
use Rattle.mdb_base.specs.declared.names.Tx.{Tx}
use Rattle.mdb_base.specs.declared.replies.Reply.{Reply}
use Rattle.mdb_base.specs.declared.replies.Reply.TheVariants as Reply_is
use Rattle.mdb_base.specs.Names.{same_tid, tid_cmp, tx_cmp}
use Rattle.mdb_base.specs.Words.{or_else, map_some}
use Rattle.site_book.specs.declared.progress.Progress.{Progress}
use Rattle.site_book.specs.declared.progress.Progress.TheVariants as Is
use Rattle.site_book.specs.declared.progress.Standing.{Standing}
use Rattle.site_book.specs.declared.progress.Standing.TheVariants as Has
use Rattle.site_book.specs.Noted.{Noted, fresh, with_read, with_write, with_ticket}

abbrev pub Attempts : Type 0
Attempts = FinMap tid_cmp Progress

abbrev pub Standings : Type 0
Standings = FinMap tx_cmp Standing

abbrev pub Counts : Type 0
Counts = FinMap tx_cmp ℕ

-- how far each attempt of this epoch is, how each local transaction stands, and of each one that was begun, how many attempts were begun behind the first
pub record Book : Type 0 where
  pub attempts : Attempts
  pub locals : Standings
  pub again : Counts

-- nothing was begun
abbrev pub blank : Book
blank = record { attempts = empty; locals = empty; again = empty }

-- how far the attempt is
abbrev pub progress_of : Book → Tid → Option Progress
progress_of book tid = get book.attempts tid

abbrev pub live_part : Option Progress → Option Noted
live_part None = None
live_part (Some (Is.Live noted)) = Some noted
live_part (Some Is.Sealed) = None
live_part (Some Is.Closed) = None

-- what is noted of the attempt, where it is live
abbrev pub live_in : Book → Tid → Option Noted
live_in book tid = live_part (progress_of book tid)

abbrev pub sealed_part : Option Progress → Bool
sealed_part None = false
sealed_part (Some (Is.Live noted)) = false
sealed_part (Some Is.Sealed) = true
sealed_part (Some Is.Closed) = false

-- whether the attempt is sealed
abbrev pub is_sealed_in : Book → Tid → Bool
is_sealed_in book tid = sealed_part (progress_of book tid)

abbrev pub closed_part : Option Progress → Bool
closed_part None = false
closed_part (Some (Is.Live noted)) = false
closed_part (Some Is.Sealed) = false
closed_part (Some Is.Closed) = true

-- whether the attempt is closed
abbrev pub is_closed_in : Book → Tid → Bool
is_closed_in book tid = closed_part (progress_of book tid)

-- how the local transaction stands: whether an attempt of it is running, or is committed
abbrev pub standing_of : Book → Tx → Option Standing
standing_of book tx = get book.locals tx

abbrev pub running_part : Option Standing → Option Tid
running_part None = None
running_part (Some (Has.Running tid)) = Some tid
running_part (Some (Has.Committed tid)) = None

-- the running attempt of the local transaction
abbrev pub running_in : Book → Tx → Option Tid
running_in book tx = running_part (standing_of book tx)

abbrev pub committed_part : Option Standing → Option Tid
committed_part None = None
committed_part (Some (Has.Running tid)) = None
committed_part (Some (Has.Committed tid)) = Some tid

-- the committed attempt of the local transaction
abbrev pub committed_in : Book → Tx → Option Tid
committed_in book tx = committed_part (standing_of book tx)

abbrev pub count_of : Option ℕ → ℕ
count_of None = 0
count_of (Some again) = suc again

-- how many attempts of the local transaction were begun
abbrev pub begun_in : Book → Tx → ℕ
begun_in book tx = count_of (get book.again tx)

-- this is done to how far the attempt is
abbrev pub changed_in : Tid → (Progress → Progress) → Attempts → Attempts
changed_in tid change attempts = or_else (map_some (λ progress. insert attempts tid (change progress)) (get attempts tid)) attempts

-- this is done to what is noted of a live attempt
abbrev pub on_live : (Noted → Noted) → Progress → Progress
on_live change (Is.Live noted) = Is.Live (change noted)
on_live change Is.Sealed = Is.Sealed
on_live change Is.Closed = Is.Closed

-- what the reply to an access makes of what is noted: a granted access is finished, and else nothing changes
abbrev pub replied : Reply → PlainAct → Noted → Noted
replied (Reply_is.Refused why) act noted = noted
replied (Reply_is.Wait by) act noted = noted
replied (Reply_is.Ticket n) act noted = noted
replied Reply_is.Unknown act noted = noted
replied (Reply_is.Value value) (Read key) noted = with_read value noted
replied (Reply_is.Value value) (Write key v) noted = noted
replied Reply_is.Done (Read key) noted = noted
replied Reply_is.Done (Write key value) noted = with_write noted

-- and what the reply to the taking of the ticket makes of it
abbrev pub taken : Reply → Noted → Noted
taken (Reply_is.Ticket n) noted = with_ticket n noted
taken (Reply_is.Refused why) noted = noted
taken (Reply_is.Wait by) noted = noted
taken (Reply_is.Value value) noted = noted
taken Reply_is.Done noted = noted
taken Reply_is.Unknown noted = noted

-- whether the reply refuses
abbrev pub refuses : Reply → Bool
refuses (Reply_is.Refused why) = true
refuses (Reply_is.Wait by) = false
refuses (Reply_is.Ticket n) = false
refuses (Reply_is.Value value) = false
refuses Reply_is.Done = false
refuses Reply_is.Unknown = false

-- whether the local transaction of the attempt stands as running in it
abbrev pub runs : Tid → Option Standing → Bool
runs tid None = false
runs tid (Some (Has.Running other)) = same_tid other tid
runs tid (Some (Has.Committed other)) = false

-- the local transaction of the attempt doesn't run in it
abbrev pub not_running : Tid → Standings → Standings
not_running tid locals = cond (runs tid (get locals tid.tx)) (remove locals tid.tx) locals

-- one further attempt is counted
abbrev pub counted : Tx → Counts → Counts
counted tx again = insert again tx (count_of (get again tx))

abbrev pub uncounted_from : Option ℕ → Tx → Counts → Counts
uncounted_from None tx again = again
uncounted_from (Some zero) tx again = remove again tx
uncounted_from (Some (suc n)) tx again = insert again tx n

-- the last attempt isn't counted
abbrev pub uncounted : Tx → Counts → Counts
uncounted tx again = uncounted_from (get again tx) tx again

-- the attempt has this entry
abbrev pub enters : Tid → Progress → Book → Book
enters tid progress book = record book { attempts = insert book.attempts tid progress }

-- the attempt has no entry
abbrev pub forgets : Tid → Book → Book
forgets tid book = record book { attempts = remove book.attempts tid }

-- an attempt of a global transaction begins
abbrev pub begins_global : Tid → Book → Book
begins_global tid book = enters tid (Is.Live fresh) book

-- the local transaction of the attempt runs in it, and the attempt is counted
abbrev pub runs_local : Tid → Book → Book
runs_local tid book = record book { locals = insert book.locals tid.tx (Has.Running tid); again = counted tid.tx book.again }

-- an attempt of a local transaction begins
abbrev pub begins_local : Tid → Book → Book
begins_local tid book = runs_local tid (begins_global tid book)

-- that begin is taken back
abbrev pub unbegins_local : Tid → Book → Book
unbegins_local tid book =
    record {
      attempts = remove book.attempts tid;
      locals = remove book.locals tid.tx;
      again = uncounted tid.tx book.again;
    }

-- the attempt is closed
abbrev pub closes : Tid → Book → Book
closes tid book = record book { attempts = insert book.attempts tid Is.Closed; locals = not_running tid book.locals }

-- this is done to what is noted of a live attempt
abbrev pub changes_live : Tid → (Noted → Noted) → Book → Book
changes_live tid change book = record book { attempts = changed_in tid (on_live change) book.attempts }

-- the reply to an access of a live attempt is noted: a refused one closes it
abbrev pub notes_reply : Tid → PlainAct → Reply → Book → Book
notes_reply tid act reply book = cond (refuses reply) (closes tid book) (changes_live tid (replied reply act) book)

-- the reply to the taking of its ticket is noted
abbrev pub notes_take : Tid → Reply → Book → Book
notes_take tid reply book = cond (refuses reply) (closes tid book) (changes_live tid (taken reply) book)

-- the attempt is sealed
abbrev pub seals : Tid → Book → Book
seals tid book = enters tid Is.Sealed book

-- a running attempt of a local transaction is committed
abbrev pub commits_local : Tid → Book → Book
commits_local tid book = record book { attempts = insert book.attempts tid Is.Closed; locals = insert book.locals tid.tx (Has.Committed tid) }

-- the site stops: what was begun stays counted
abbrev pub stopped : Book → Book
stopped book = record book { attempts = empty; locals = empty }

-- these attempts are sealed too
abbrev pub with_doubtful : List Tid → Attempts → Attempts
with_doubtful [] attempts = attempts
with_doubtful (tid ∷ more) attempts = with_doubtful more (insert attempts tid Is.Sealed)

-- these attempts are committed too, of several of one transaction the last one
abbrev pub with_committed : List Tid → Standings → Standings
with_committed [] locals = locals
with_committed (tid ∷ more) locals = with_committed more (insert locals tid.tx (Has.Committed tid))

-- the site starts again
abbrev pub restarted : List Tid → List Tid → Book → Book
restarted committed doubtful book = record book { attempts = with_doubtful doubtful empty; locals = with_committed committed empty }
