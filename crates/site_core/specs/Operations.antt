-- Which operation of a live attempt is the next one, and what another one is answered.
use Rattle.std.specs.Prelude.{ℕ, ◌+◌, ◌==◌, Bool, cond, not, ◌&&◌, ◌||◌, nat_lt, is_some, Option, Some, None}
use Rattle.mdb_base.specs.declared.replies.Reply.{Reply}
use Rattle.mdb_base.specs.declared.replies.Reply.TheVariants as Reply_is
use Rattle.site_book.specs.Noted.{Noted, done_in, reply_in}

-- an operation speaks of this epoch of the site, or it is the first one
abbrev pub speaks_of : ℕ → ℕ → ℕ → Bool
speaks_of here epoch n = (epoch == here) || ((epoch == 0) && (n == 0))

-- the last finished operation gets its reply again, and any other one that isn't the next is unknown
abbrev pub replied_again : ℕ → Noted → Reply
replied_again n noted = cond (n + 1 == done_in noted) (reply_in noted) Reply_is.Unknown

-- the reply to a taking of the ticket that isn't the next operation of a live attempt
abbrev pub taken_again : Option Noted → ℕ → ℕ → ℕ → Option Reply
taken_again None here epoch n = Some Reply_is.Unknown
taken_again (Some noted) here epoch n =
    cond (not (speaks_of here epoch n) || (is_some noted.ticket && (n == done_in noted))) (Some Reply_is.Unknown)
    (cond (n == done_in noted) None (Some (replied_again n noted)))

-- the reply to an act that isn't the next operation of a live attempt
abbrev pub worked_again : Option Noted → ℕ → ℕ → ℕ → Option Reply
worked_again None here epoch n = Some Reply_is.Unknown
worked_again (Some noted) here epoch n =
    cond (not (speaks_of here epoch n) || is_some noted.ticket || nat_lt 31 n) (Some Reply_is.Unknown)
    (cond (n == done_in noted) None (Some (replied_again n noted)))

-- the ticket of a live attempt that has finished so many operations in this epoch of the site
abbrev pub finished_ticket : Option Noted → ℕ → ℕ → ℕ → Option ℕ
finished_ticket None here epoch n = None
finished_ticket (Some noted) here epoch n = cond ((epoch == here) && (n == done_in noted)) noted.ticket None
