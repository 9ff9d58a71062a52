-- What a site's book notes of a live attempt, and what the answers to its operations make of it.
use Rattle.std.specs.Prelude.{ℕ, ◌+◌, cond, is_some, Option, Some, None, List, [], ◌∷◌, ◌++◌, length}
use Rattle.mdb_base.specs.declared.replies.Reply.{Reply}
use Rattle.mdb_base.specs.declared.replies.Reply.TheVariants as Reply_is
use Rattle.mdb_base.specs.Words.{or_else, map_some}
use Rattle.fed_rules.specs.Runs.{Run}
use Rattle.fed_rules.specs.Site.{reply_of_access}
use Rattle.fed_rules.specs.SiteCommands.{run_reads}

-- its granted accesses, counted, its ticket, once it has taken one, the reply to its last granted access, and the values that it read, in program order
pub record Noted : Type 0 where
  pub accesses : ℕ
  pub ticket : Option ℕ
  pub last : Reply
  pub reads : List ℕ

-- what is noted of a run
abbrev pub noted_of : Run → Noted
noted_of run = record { accesses = length run.acts; ticket = run.ticket; last = reply_of_access run.acts; reads = run_reads run }

-- an attempt that begins
abbrev pub fresh : Noted
fresh = record { accesses = 0; ticket = None; last = Reply_is.Unknown; reads = [] }

-- its finished operations: the granted accesses, and the taking of the ticket
abbrev pub done_in : Noted → ℕ
done_in noted = noted.accesses + cond (is_some noted.ticket) 1 0

-- the reply to its last finished operation; nothing is done behind the taking of the ticket
abbrev pub reply_in : Noted → Reply
reply_in noted = or_else (map_some (λ ticket. Reply_is.Ticket ticket) noted.ticket) noted.last

-- a read of this value is granted
abbrev pub with_read : ℕ → Noted → Noted
with_read value noted = record noted { accesses = noted.accesses + 1; last = Reply_is.Value value; reads = noted.reads ++ value ∷ [] }

-- a write is granted
abbrev pub with_write : Noted → Noted
with_write noted = record noted { accesses = noted.accesses + 1; last = Reply_is.Done }

-- the ticket is taken
abbrev pub with_ticket : ℕ → Noted → Noted
with_ticket ticket noted = record noted { ticket = Some ticket }
