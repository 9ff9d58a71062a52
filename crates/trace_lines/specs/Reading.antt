-- Reading a line from its words, part by part.
use Rattle.std.specs.Prelude.{ℕ, ◌≡◌, ◌^◌, List, [], ◌∷◌, Option, Some, None, Result, Ok, Err, option_and_then, Bool, true, false, cond, ◌&&◌, nat_le, nat_lt}
use Rattle.mdb_base.specs.Words.{map_some}
use Rattle.mdb_base.specs.declared.names.Key.{Key}
use Rattle.mdb_base.specs.declared.names.SiteId.{SiteId}
use Rattle.mdb_base.specs.declared.names.Tid.{Tid}
use Rattle.mdb_base.specs.declared.names.Tx.{Tx}
use Rattle.mdb_base.specs.declared.replies.Edge.{Edge}
use Rattle.mdb_base.specs.declared.replies.Reply.{Reply}
use Rattle.mdb_base.specs.declared.replies.Reply.TheVariants.{Done, Value, Ticket, Wait, Refused, Unknown}
use Rattle.mdb_base.specs.declared.replies.Why.{Why}
use Rattle.mdb_base.specs.declared.replies.Why.TheVariants as Refusal
use Rattle.presumptions.specs.declared.Decision.{Decision}
use Rattle.presumptions.specs.declared.Decision.TheVariants as Final
use Rattle.fed_rules.specs.declared.commands.Command.{Command}
use Rattle.fed_rules.specs.declared.commands.Command.TheVariants as Ask
use Rattle.fed_rules.specs.declared.commands.Line.{Line}
use Rattle.fed_rules.specs.declared.commands.Place.{Place}
use Rattle.fed_rules.specs.declared.answers.Answer.{Answer}
use Rattle.fed_rules.specs.declared.answers.Answer.TheVariants as Say
use Rattle.fed_rules.specs.declared.answers.Cause.{Cause}
use Rattle.fed_rules.specs.declared.answers.Cause.TheVariants as Because
use Rattle.trace_lines.specs.declared.error.LineErr.{LineErr}
use Rattle.trace_lines.specs.declared.error.LineErr.TheVariants as errors
use Rattle.line_text.specs.declared.word.Keyword.{Keyword}
use Rattle.line_text.specs.declared.word.Keyword.TheVariants as Key
use Rattle.trace_lines.specs.declared.marks.Mark.{Mark}
use Rattle.line_text.specs.declared.word.Word.{Word}
use Rattle.line_text.specs.declared.word.Word.TheVariants.{Plain, Number, Attempt, Sent, Joined}
use Rattle.line_text.specs.Fits.{line_fits}

-- what a function returned is what reading gives, unless memory ran out
abbrev pub Fails : {X : Type 0} → LineErr → Option X → Type 0
Fails errors.NoLine read = read ≡ None
Fails errors.Memory read = Unit {0}

abbrev pub Gives : {X : Type 0} → Result X LineErr → Option X → Type 0
Gives (Ok x) read = read ≡ Some x
Gives (Err e) read = Fails e read

-- the same of what it returned, seen by view
abbrev pub Reads : {X Y : Type 0} → (X → Y) → Result X LineErr → Option Y → Type 0
Reads view (Ok x) read = read ≡ Some (view x)
Reads view (Err e) read = Fails e read

-- what a function found, seen by view, is what reading finds
abbrev pub Finds : {X Y : Type 0} → (X → Y) → Option X → Option Y → Type 0
Finds view None read = read ≡ None
Finds view (Some x) read = read ≡ Some (view x)

-- numbers within their ranges
abbrev pub tx_of : ℕ → Option Tx
tx_of n = cond (nat_le 1 n && nat_le n 1024) (Some (record { 0 = n })) None

abbrev pub site_of : ℕ → Option SiteId
site_of n = cond (nat_le 1 n && nat_le n 8) (Some (record { 0 = n })) None

abbrev pub key_of : ℕ → Option Key
key_of n = cond (nat_lt n (2 ^ 16)) (Some (record { 0 = n })) None

abbrev pub small_of : ℕ → Option ℕ
small_of n = cond (nat_lt n (2 ^ 32)) (Some n) None

abbrev pub at_most : ℕ → ℕ → Option ℕ
at_most most n = cond (nat_le n most) (Some n) None

-- a command with one number
abbrev pub number_command : Keyword → ℕ → Option Command
number_command Key.Begin n = map_some Ask.Begin (tx_of n)
number_command Key.Step n = map_some Ask.Step (tx_of n)
number_command Key.Commit n = map_some Ask.Commit (tx_of n)
number_command Key.Abort n = map_some Ask.Abort (tx_of n)
number_command Key.Fate n = map_some Ask.Fate (tx_of n)
number_command Key.Go n = map_some Ask.Go (tx_of n)
number_command Key.Back n = map_some Ask.Back (at_most 8 n)
number_command Key.Check n = map_some Ask.Check (at_most 8 n)
number_command keyword n = None

-- a command with one attempt
abbrev pub attempt_command : Keyword → Tid → Option Command
attempt_command Key.Again tid = Some (Ask.Again tid)
attempt_command Key.Late tid = Some (Ask.Late tid)
attempt_command keyword tid = None

-- a command with two numbers
abbrev pub pair_command : Keyword → ℕ → ℕ → Option Command
pair_command Key.Give s n = option_and_then (λ site. map_some (Ask.Give site) (small_of n)) (site_of s)
pair_command Key.Take s n = option_and_then (λ site. map_some (Ask.Take site) (small_of n)) (site_of s)
pair_command Key.Halt a n = option_and_then (λ actor. map_some (Ask.Halt actor) (at_most 65535 n)) (at_most 8 a)
pair_command keyword a n = None

-- a command with a site and an attempt
abbrev pub site_command : Keyword → ℕ → Tid → Option Command
site_command Key.Ask s tid = map_some (λ site. Ask.Ask site tid) (site_of s)
site_command Key.Drop s tid = map_some (λ site. Ask.Drop site tid) (site_of s)
site_command keyword s tid = None

-- a command with three numbers
abbrev pub triple_command : Keyword → ℕ → ℕ → ℕ → Option Command
triple_command Key.Trip a c n =
    option_and_then (λ actor. option_and_then (λ calls. map_some (Ask.Trip actor calls) (at_most 65535 n)) (at_most 1000 c)) (at_most 8 a)
triple_command keyword a c n = None

-- the command of these words
abbrev pub command_of : List Word → Option Command
command_of (Plain keyword ∷ Number n ∷ []) = number_command keyword n
command_of (Plain keyword ∷ Attempt tid ∷ []) = attempt_command keyword tid
command_of (Plain keyword ∷ Number a ∷ Number n ∷ []) = pair_command keyword a n
command_of (Plain keyword ∷ Number s ∷ Attempt tid ∷ []) = site_command keyword s tid
command_of (Plain keyword ∷ Number a ∷ Number c ∷ Number n ∷ []) = triple_command keyword a c n
command_of words = None

-- the refusal of these words
abbrev pub refusal_of : List Word → Option Why
refusal_of (Plain Key.Dies ∷ Attempt by ∷ []) = Some (Refusal.Die by)
refusal_of (Plain Key.Late ∷ Attempt by ∷ []) = Some (Refusal.Late by)
refusal_of (Plain Key.Invalid ∷ Attempt by ∷ Number n ∷ []) = map_some (Refusal.Invalid by) (key_of n)
refusal_of (Plain Key.Moved ∷ Attempt by ∷ []) = Some (Refusal.TicketMoved by)
refusal_of words = None

-- the reply of these words
abbrev pub reply_of : List Word → Option Reply
reply_of (Plain Key.Done ∷ []) = Some Done
reply_of (Plain Key.Value ∷ Number value ∷ []) = Some (Value value)
reply_of (Plain Key.Ticket ∷ Number ticket ∷ []) = Some (Ticket ticket)
reply_of (Plain Key.Waits ∷ Attempt by ∷ []) = Some (Wait by)
reply_of (Plain Key.Unknown ∷ []) = Some Unknown
reply_of words = map_some Refused (refusal_of words)

-- the reason of a no vote of these words
abbrev pub no_of : List Word → Option (Option Why)
no_of (Plain Key.Unknown ∷ []) = Some None
no_of words = map_some Some (refusal_of words)

-- the decision of a keyword
abbrev pub decision_of : Keyword → Option Decision
decision_of Key.Commit = Some Final.Commit
decision_of Key.Abort = Some Final.Abort
decision_of keyword = None

-- an answer of one word
abbrev pub bare_answer : Keyword → Option Answer
bare_answer Key.None = Some Say.None
bare_answer Key.Down = Some Say.Down
bare_answer Key.Idle = Some Say.Idle
bare_answer Key.Spent = Some Say.Spent
bare_answer Key.End = Some Say.End
bare_answer Key.Unfinished = Some Say.Unfinished
bare_answer Key.Unbegun = Some Say.Unbegun
bare_answer Key.Aborted = Some Say.Ended
bare_answer Key.Set = Some Say.Set
bare_answer Key.Awake = Some Say.Awake
bare_answer Key.Defers = Some Say.Defers
bare_answer Key.Ignored = Some Say.Ignored
bare_answer Key.Waits = Some Say.TookWaits
bare_answer Key.Voted = Some Say.Voted
bare_answer Key.Acked = Some Say.Acked
bare_answer Key.Forgets = Some Say.Forgets
bare_answer Key.Undecided = Some Say.Undecided
bare_answer Key.Initiates = Some Say.Initiates
bare_answer Key.Large = Some Say.Large
bare_answer Key.Checked = Some Say.Checked
bare_answer keyword = None

-- an answer of a word and an attempt
abbrev pub short_answer : Keyword → Tid → Option Answer
short_answer Key.Committed tid = Some (Say.Committed tid)
short_answer Key.Running tid = Some (Say.Running tid)
short_answer Key.Begun tid = Some (Say.Begun tid)
short_answer Key.Aborted tid = Some (Say.Aborted tid)
short_answer Key.Unheld tid = Some (Say.Unheld tid)
short_answer Key.Asks tid = Some (Say.Asks tid)
short_answer Key.Dropped tid = Some (Say.Dropped tid)
short_answer Key.Waits by = Some (Say.Waits by)
short_answer Key.Dies by = Some (Say.Dies by)
short_answer Key.Late by = Some (Say.Late by)
short_answer keyword tid = None

-- a vote
abbrev pub vote_answer : Tid → List Word → Option Answer
vote_answer tid (Plain Key.Yes ∷ Number ticket ∷ []) = Some (Say.VotesYes tid ticket)
vote_answer tid (Plain Key.No ∷ words) = map_some (Say.VotesNo tid) (no_of words)
vote_answer tid words = None

-- an answer of a word, an attempt and more
abbrev pub attempt_answer : Keyword → Tid → List Word → Option Answer
attempt_answer keyword tid [] = short_answer keyword tid
attempt_answer Key.Invalid by (Number n ∷ []) = map_some (Say.Invalid by) (key_of n)
attempt_answer Key.Committed tid (Plain Key.Number ∷ Number number ∷ []) = Some (Say.Sealed tid number)
attempt_answer Key.Did tid words = map_some (Say.Did tid) (reply_of words)
attempt_answer Key.Votes tid words = vote_answer tid words
attempt_answer Key.Settles tid (Plain keyword ∷ []) = map_some (Say.Settles tid) (decision_of keyword)
attempt_answer keyword tid words = None

-- an answer of a word, a key and a value
abbrev pub row_answer : Keyword → ℕ → List Word → Option Answer
row_answer Key.Read n (Number value ∷ []) = map_some (λ key. Say.Read key value) (key_of n)
row_answer Key.Wrote n (Number value ∷ []) = map_some (λ key. Say.Wrote key value) (key_of n)
row_answer keyword n words = None

-- an answer of two keywords and more, other than a decision
abbrev pub plain_answer : Keyword → Keyword → List Word → Option Answer
plain_answer Key.Stopped Key.Kept (Number kept ∷ []) = Some (Say.Stopped kept)
plain_answer Key.Answers keyword [] = map_some Say.Answers (decision_of keyword)
plain_answer Key.Presumes keyword [] = map_some Say.Presumes (decision_of keyword)
plain_answer Key.Up Key.Known (Number n ∷ []) = map_some Say.UpCoord (small_of n)
plain_answer Key.Up Key.Epoch (Number e ∷ Plain Key.Doubtful ∷ Number d ∷ []) =
    option_and_then (λ epoch. map_some (Say.UpSite epoch) (small_of d)) (small_of e)
plain_answer first second words = None

-- whether the word is this mark
abbrev pub is_mark : Mark → Word → Bool
is_mark Mark.Arrow (Plain Key.Arrow) = true
is_mark Mark.Sends (Plain Key.Sends) = true
is_mark Mark.Forgets (Plain Key.Forgets) = true
is_mark mark word = false

-- what stands before the first such mark, and what stands behind it
abbrev pub cut_at : Mark → List Word → Option (List Word × List Word)
cut_at mark [] = None
cut_at mark (word ∷ words) =
    cond (is_mark mark word) (Some ([], words)) (map_some (λ parts. (word ∷ parts.0, parts.1)) (cut_at mark words))

-- the edges of these words
abbrev pub edges_of : List Word → Option (List Edge)
edges_of [] = Some []
edges_of (Joined edge ∷ words) = map_some (λ edges. edge ∷ edges) (edges_of words)
edges_of words = None

-- what a site did, as a cause
abbrev pub site_cause : SiteId → List Word → Option Cause
site_cause site (Plain Key.Dies ∷ Attempt by ∷ []) = Some (Because.Dies site by)
site_cause site (Plain Key.Late ∷ Attempt by ∷ []) = Some (Because.TooLate site by)
site_cause site (Plain Key.Unknown ∷ []) = Some (Because.Unknown site)
site_cause site (Plain Key.No ∷ []) = Some (Because.No site)
site_cause site words = None

-- the cause of these words
abbrev pub cause_of : List Word → Option Cause
cause_of (Plain Key.Late ∷ []) = Some Because.Late
cause_of (Plain Key.Site ∷ Number n ∷ words) = option_and_then (λ site. site_cause site words) (site_of n)
cause_of (Plain Key.Cycle ∷ words) = map_some Because.Cycle (edges_of words)
cause_of words = None

-- whether the attempt is forgotten, by the words behind a decision: none, or `forgets` alone
abbrev pub forgets_of : Option (List Word × List Word) → List Word → Option (List Word × Bool)
forgets_of None words = Some (words, false)
forgets_of (Some (front, [])) words = Some (front, true)
forgets_of (Some (front, word ∷ more)) words = None

-- whether it is forgotten, for the words behind a decision
abbrev pub ending_of : List Word → Option (List Word × Bool)
ending_of words = forgets_of (cut_at Mark.Forgets words) words

-- a decision, its cause and whether the attempt is forgotten
abbrev pub decides : Decision → (List Word × Bool) → Option Answer
decides Final.Commit ([], forgets) = Some (Say.Decides Final.Commit None forgets)
decides Final.Commit (word ∷ words, forgets) = None
decides Final.Abort (words, forgets) = map_some (λ cause. Say.Decides Final.Abort (Some cause) forgets) (cause_of words)

-- the answer of the words behind `decides`
abbrev pub decided_answer : Keyword → List Word → Option Answer
decided_answer keyword words =
    option_and_then (λ decision. option_and_then (decides decision) (ending_of words)) (decision_of keyword)

-- an answer of two words and more, by its first two
abbrev pub double_answer : Keyword → Keyword → List Word → Option Answer
double_answer Key.Decides second words = decided_answer second words
double_answer first second words = plain_answer first second words

-- the answer that begins with this keyword, by the words behind it
abbrev pub answer_behind : Keyword → List Word → Option Answer
answer_behind keyword [] = bare_answer keyword
answer_behind keyword (Attempt tid ∷ words) = attempt_answer keyword tid words
answer_behind keyword (Number n ∷ words) = row_answer keyword n words
answer_behind keyword (Plain second ∷ words) = double_answer keyword second words
answer_behind keyword words = None

-- the answer of these words
abbrev pub answer_of : List Word → Option Answer
answer_of [] = Some Say.Only
answer_of (Plain keyword ∷ words) = answer_behind keyword words
answer_of words = None

-- the places of a coordinator's line
abbrev pub sent_of : List Word → Option (List Place)
sent_of [] = Some []
sent_of (Sent sent ∷ words) = map_some (λ places. sent ∷ places) (sent_of words)
sent_of words = None

-- the attempts of words, each of which is one
abbrev pub tids_of : List Word → Option (List Tid)
tids_of [] = Some []
tids_of (Attempt tid ∷ words) = map_some (λ tids. tid ∷ tids) (tids_of words)
tids_of (word ∷ words) = None

-- the place of a site's line
abbrev pub site_sent : SiteId → List Word → Option (List Place)
site_sent site (Number n ∷ []) = map_some (λ place. record { site = site; place = place } ∷ []) (small_of n)
site_sent site words = None

-- the places of these words, of which there is one at least
abbrev pub places_of : Command → List Word → Option (List Place)
places_of command [] = None
places_of (Ask.Give site place) words = site_sent site words
places_of (Ask.Ask site tid) words = site_sent site words
places_of command words = sent_of words

-- the words of the answer, and the places behind `sends`, none where it doesn't stand
abbrev pub sends_of : Command → Option (List Word × List Word) → List Word → Option (List Word × List Place)
sends_of command None words = Some (words, [])
sends_of command (Some (front, sent)) words = map_some (λ places. (front, places)) (places_of command sent)

-- the line of a command and the words behind the arrow
abbrev pub line_behind : Command → List Word → Option Line
line_behind command words =
    option_and_then (λ parts. map_some (λ answer. record { command = command; answer = answer; sends = parts.1 }) (answer_of parts.0))
    (sends_of command (cut_at Mark.Sends words) words)

-- the line of these words, if its answer and its places are some that its command can have
abbrev pub line_of : List Word → Option Line
line_of words =
    option_and_then (λ line. cond (line_fits line) (Some line) None)
    (option_and_then (λ parts. option_and_then (λ command. line_behind command parts.1) (command_of parts.0)) (cut_at Mark.Arrow words))
