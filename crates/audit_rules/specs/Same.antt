-- Answers told apart by their numbers: each answer is a list of numbers, which no other answer has.
use Rattle.std.specs.Prelude.{ℕ, Bool, true, false, ◌&&◌, ◌==◌, Option, Some, None, List, [], ◌∷◌}
use Rattle.mdb_base.specs.declared.names.Tid.{Tid}
use Rattle.mdb_base.specs.declared.replies.Edge.{Edge}
use Rattle.mdb_base.specs.declared.replies.Reply.{Reply}
use Rattle.mdb_base.specs.declared.replies.Reply.TheVariants as Reply_is
use Rattle.mdb_base.specs.declared.replies.Why.{Why}
use Rattle.mdb_base.specs.declared.replies.Why.TheVariants as Because
use Rattle.presumptions.specs.declared.Decision.{Decision}
use Rattle.presumptions.specs.declared.Decision.TheVariants as Decided
use Rattle.fed_rules.specs.declared.answers.Answer.{Answer}
use Rattle.fed_rules.specs.declared.answers.Answer.TheVariants as Say
use Rattle.fed_rules.specs.declared.answers.Cause.{Cause}
use Rattle.fed_rules.specs.declared.answers.Cause.TheVariants as For
use Rattle.fed_rules.specs.declared.commands.Place.{Place}

-- whether two lists of numbers are the same
abbrev pub same_numbers : List ℕ → List ℕ → Bool
same_numbers [] [] = true
same_numbers [] (n ∷ ns) = false
same_numbers (m ∷ ms) [] = false
same_numbers (m ∷ ms) (n ∷ ns) = (m == n) && same_numbers ms ns

abbrev pub tid_numbers : Tid → List ℕ
tid_numbers tid = tid.tx.0 ∷ tid.attempt ∷ []

abbrev pub why_numbers : Why → List ℕ
why_numbers (Because.Die by) = 0 ∷ tid_numbers by
why_numbers (Because.Late by) = 1 ∷ tid_numbers by
why_numbers (Because.Invalid by key) = 2 ∷ by.tx.0 ∷ by.attempt ∷ key.0 ∷ []
why_numbers (Because.TicketMoved by) = 3 ∷ tid_numbers by

abbrev pub reply_numbers : Reply → List ℕ
reply_numbers Reply_is.Done = 0 ∷ []
reply_numbers (Reply_is.Value value) = 1 ∷ value ∷ []
reply_numbers (Reply_is.Ticket ticket) = 2 ∷ ticket ∷ []
reply_numbers (Reply_is.Wait by) = 3 ∷ tid_numbers by
reply_numbers Reply_is.Unknown = 4 ∷ []
reply_numbers (Reply_is.Refused why) = 5 ∷ why_numbers why

abbrev pub no_numbers : Option Why → List ℕ
no_numbers None = 0 ∷ []
no_numbers (Some why) = 1 ∷ why_numbers why

abbrev pub decision_number : Decision → ℕ
decision_number Decided.Commit = 0
decision_number Decided.Abort = 1

abbrev pub flag_number : Bool → ℕ
flag_number false = 0
flag_number true = 1

abbrev pub edges_numbers : List Edge → List ℕ
edges_numbers [] = []
edges_numbers (edge ∷ edges) = edge.from.tx.0 ∷ edge.from.attempt ∷ edge.to.tx.0 ∷ edge.to.attempt ∷ edge.site.0 ∷ edges_numbers edges

abbrev pub cause_numbers : Option Cause → List ℕ
cause_numbers None = 0 ∷ []
cause_numbers (Some For.Late) = 1 ∷ []
cause_numbers (Some (For.Dies site by)) = 2 ∷ site.0 ∷ tid_numbers by
cause_numbers (Some (For.TooLate site by)) = 3 ∷ site.0 ∷ tid_numbers by
cause_numbers (Some (For.Unknown site)) = 4 ∷ site.0 ∷ []
cause_numbers (Some (For.No site)) = 5 ∷ site.0 ∷ []
cause_numbers (Some (For.Cycle edges)) = 6 ∷ edges_numbers edges

-- the numbers of an answer: which one it is, and its fields
abbrev pub numbers : Answer → List ℕ
numbers Say.None = 0 ∷ []
numbers Say.Down = 1 ∷ []
numbers Say.Idle = 2 ∷ []
numbers Say.Spent = 3 ∷ []
numbers Say.End = 4 ∷ []
numbers Say.Unfinished = 5 ∷ []
numbers Say.Unbegun = 6 ∷ []
numbers Say.Ended = 7 ∷ []
numbers Say.Set = 8 ∷ []
numbers Say.Awake = 9 ∷ []
numbers Say.Only = 10 ∷ []
numbers Say.Defers = 11 ∷ []
numbers Say.Ignored = 12 ∷ []
numbers Say.TookWaits = 13 ∷ []
numbers Say.Voted = 14 ∷ []
numbers Say.Acked = 15 ∷ []
numbers Say.Forgets = 16 ∷ []
numbers Say.Undecided = 17 ∷ []
numbers Say.Initiates = 18 ∷ []
numbers Say.Large = 19 ∷ []
numbers Say.Checked = 20 ∷ []
numbers (Say.Committed tid) = 21 ∷ tid_numbers tid
numbers (Say.Running tid) = 22 ∷ tid_numbers tid
numbers (Say.Begun tid) = 23 ∷ tid_numbers tid
numbers (Say.Aborted tid) = 24 ∷ tid_numbers tid
numbers (Say.Unheld tid) = 25 ∷ tid_numbers tid
numbers (Say.Asks tid) = 26 ∷ tid_numbers tid
numbers (Say.Dropped tid) = 27 ∷ tid_numbers tid
numbers (Say.Read key value) = 28 ∷ key.0 ∷ value ∷ []
numbers (Say.Wrote key value) = 29 ∷ key.0 ∷ value ∷ []
numbers (Say.Waits by) = 30 ∷ tid_numbers by
numbers (Say.Dies by) = 31 ∷ tid_numbers by
numbers (Say.Late by) = 32 ∷ tid_numbers by
numbers (Say.Invalid by key) = 33 ∷ by.tx.0 ∷ by.attempt ∷ key.0 ∷ []
numbers (Say.Sealed tid number) = 34 ∷ tid.tx.0 ∷ tid.attempt ∷ number ∷ []
numbers (Say.Stopped kept) = 35 ∷ kept ∷ []
numbers (Say.Did tid reply) = 36 ∷ tid.tx.0 ∷ tid.attempt ∷ reply_numbers reply
numbers (Say.VotesYes tid ticket) = 37 ∷ tid.tx.0 ∷ tid.attempt ∷ ticket ∷ []
numbers (Say.VotesNo tid why) = 38 ∷ tid.tx.0 ∷ tid.attempt ∷ no_numbers why
numbers (Say.Settles tid decision) = 39 ∷ tid.tx.0 ∷ tid.attempt ∷ decision_number decision ∷ []
numbers (Say.Answers decision) = 40 ∷ decision_number decision ∷ []
numbers (Say.Presumes decision) = 41 ∷ decision_number decision ∷ []
numbers (Say.Decides decision cause forgets) = 42 ∷ decision_number decision ∷ flag_number forgets ∷ cause_numbers cause
numbers (Say.UpSite epoch doubtful) = 43 ∷ epoch ∷ doubtful ∷ []
numbers (Say.UpCoord known) = 44 ∷ known ∷ []

-- whether two answers are the same
abbrev pub same_answer : Answer → Answer → Bool
same_answer a b = same_numbers (numbers a) (numbers b)

-- an answer without the edges of its cycle
abbrev pub without_edges : Answer → Answer
without_edges (Say.Decides decision (Some (For.Cycle edges)) forgets) = Say.Decides decision (Some (For.Cycle [])) forgets
without_edges answer = answer

-- whether two lists of places are the same
abbrev pub same_places : List Place → List Place → Bool
same_places [] [] = true
same_places [] (q ∷ qs) = false
same_places (p ∷ ps) [] = false
same_places (p ∷ ps) (q ∷ qs) = (p.site.0 == q.site.0) && (p.place == q.place) && same_places ps qs
