-- The words of a line, and how each is spelled.
use Rattle.std.specs.Prelude.{ℕ, List, ◌++◌, codes, decimal}
use Rattle.mdb_base.specs.declared.replies.Edge.{Edge}
use Rattle.mdb_base.specs.Texts.{tid_text}
use Rattle.fed_rules.specs.declared.commands.Place.{Place}
use Rattle.line_text.specs.declared.word.Keyword.{Keyword}
use Rattle.line_text.specs.declared.word.Keyword.TheVariants as Key
use Rattle.line_text.specs.declared.word.Word.{Word}
use Rattle.line_text.specs.declared.word.Word.TheVariants.{Plain, Number, Attempt, Sent, Joined}

-- a keyword is spelled as it is named
abbrev pub keyword_text : Keyword → List ℕ
keyword_text Key.Arrow = codes "=>"
keyword_text Key.Sends = codes "sends"
keyword_text Key.Begin = codes "begin"
keyword_text Key.Step = codes "step"
keyword_text Key.Commit = codes "commit"
keyword_text Key.Abort = codes "abort"
keyword_text Key.Fate = codes "fate"
keyword_text Key.Go = codes "go"
keyword_text Key.Again = codes "again"
keyword_text Key.Late = codes "late"
keyword_text Key.Give = codes "give"
keyword_text Key.Take = codes "take"
keyword_text Key.Ask = codes "ask"
keyword_text Key.Drop = codes "drop"
keyword_text Key.Halt = codes "halt"
keyword_text Key.Trip = codes "trip"
keyword_text Key.Back = codes "back"
keyword_text Key.Check = codes "check"
keyword_text Key.None = codes "none"
keyword_text Key.Down = codes "down"
keyword_text Key.Idle = codes "idle"
keyword_text Key.Spent = codes "spent"
keyword_text Key.End = codes "end"
keyword_text Key.Unfinished = codes "unfinished"
keyword_text Key.Unbegun = codes "unbegun"
keyword_text Key.Aborted = codes "aborted"
keyword_text Key.Set = codes "set"
keyword_text Key.Awake = codes "awake"
keyword_text Key.Defers = codes "defers"
keyword_text Key.Ignored = codes "ignored"
keyword_text Key.Waits = codes "waits"
keyword_text Key.Voted = codes "voted"
keyword_text Key.Acked = codes "acked"
keyword_text Key.Forgets = codes "forgets"
keyword_text Key.Undecided = codes "undecided"
keyword_text Key.Initiates = codes "initiates"
keyword_text Key.Large = codes "large"
keyword_text Key.Checked = codes "checked"
keyword_text Key.Committed = codes "committed"
keyword_text Key.Running = codes "running"
keyword_text Key.Begun = codes "begun"
keyword_text Key.Unheld = codes "unheld"
keyword_text Key.Asks = codes "asks"
keyword_text Key.Dropped = codes "dropped"
keyword_text Key.Read = codes "read"
keyword_text Key.Wrote = codes "wrote"
keyword_text Key.Dies = codes "dies"
keyword_text Key.Invalid = codes "invalid"
keyword_text Key.Number = codes "number"
keyword_text Key.Stopped = codes "stopped"
keyword_text Key.Kept = codes "kept"
keyword_text Key.Did = codes "did"
keyword_text Key.Done = codes "done"
keyword_text Key.Value = codes "value"
keyword_text Key.Ticket = codes "ticket"
keyword_text Key.Unknown = codes "unknown"
keyword_text Key.Votes = codes "votes"
keyword_text Key.Yes = codes "yes"
keyword_text Key.No = codes "no"
keyword_text Key.Moved = codes "moved"
keyword_text Key.Settles = codes "settles"
keyword_text Key.Answers = codes "answers"
keyword_text Key.Presumes = codes "presumes"
keyword_text Key.Decides = codes "decides"
keyword_text Key.Site = codes "site"
keyword_text Key.Cycle = codes "cycle"
keyword_text Key.Up = codes "up"
keyword_text Key.Epoch = codes "epoch"
keyword_text Key.Doubtful = codes "doubtful"
keyword_text Key.Known = codes "known"

-- the place of a message to a site, as `S/I`
abbrev pub place_text : Place → List ℕ
place_text sent = decimal sent.site.0 ++ codes "/" ++ decimal sent.place

-- an edge of the ticket graph, as `F>T@S`
abbrev pub edge_text : Edge → List ℕ
edge_text edge = tid_text edge.from ++ codes ">" ++ tid_text edge.to ++ codes "@" ++ decimal edge.site.0

-- the bytes of a word
abbrev pub word_text : Word → List ℕ
word_text (Plain keyword) = keyword_text keyword
word_text (Number number) = decimal number
word_text (Attempt tid) = tid_text tid
word_text (Sent sent) = place_text sent
word_text (Joined edge) = edge_text edge
