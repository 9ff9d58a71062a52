-- When a list of engine lines is right: each call may come there, and each answer is the rule's on the lines before it.
use Rattle.std.specs.Prelude.{ℕ, ◌≡◌, ◌+◌, ◌<◌, ◌≤◌, ◌⊎◌, Bool, false, Some, None, List, [], ◌∷◌}
use Rattle.mdb_base.specs.declared.names.Tid.{Tid}
use Rattle.mdb_base.specs.declared.names.Key.{Key}
use Rattle.mdb_base.specs.declared.rows.Put.{Put}
use Rattle.mdb_base.specs.Names.{same_tid, same_key}
use Rattle.mdb_base.specs.Words.{Each, some_of}
use Rattle.fed_rules.specs.declared.runs.Kept.{Kept}
use Rattle.fed_rules.specs.Runs.{Start, EngineLine, Begins, Acts, Takes, Seals, Refuses, Commits, Aborts, Run, run_at, counter}
use Rattle.fed_rules.specs.Replies.{Rule, rule, access_reply_by, ticket_reply_by, number_drawn}

-- the attempt has no unended run
abbrev pub IsFree : Start → List EngineLine → Tid → Type 0
IsFree start lines tid = run_at start lines tid ≡ None

-- the attempt has this live run, which is neither sealed nor ended
abbrev pub IsLive : Start → List EngineLine → Tid → Run → Type 0
IsLive start lines tid run = (run_at start lines tid ≡ Some run) × (run.sealed ≡ None)

-- the attempt has this live run, which has not taken its ticket
abbrev pub IsTicketless : Start → List EngineLine → Tid → Run → Type 0
IsTicketless start lines tid run = (run_at start lines tid ≡ Some run) × (run.sealed ≡ None) × (run.ticket ≡ None)

-- the attempt has a sealed run with this serial number
abbrev pub IsSealed : Start → List EngineLine → Tid → Run → ℕ → Type 0
IsSealed start lines tid run n = (run_at start lines tid ≡ Some run) × (run.sealed ≡ Some n)

-- the line may come there, and its answer is this rule's
abbrev pub IsRightLineBy : Rule → Start → List EngineLine → EngineLine → Type 0
IsRightLineBy by start older (Begins tid n) = IsFree start older tid × (n ≡ counter start older + 1)
IsRightLineBy by start older (Acts tid act reply) =
    (run : Run) × (IsLive start older tid run × (reply ≡ access_reply_by by start older run act))
IsRightLineBy by start older (Takes tid reply) =
    (run : Run) × (IsTicketless start older tid run × (reply ≡ ticket_reply_by by start older run))
IsRightLineBy by start older (Seals tid n) =
    (run : Run) × (IsLive start older tid run × (by.seal start older run ≡ None) × (n ≡ number_drawn by.drawn start older run))
IsRightLineBy by start older (Refuses tid why) = (run : Run) × (IsLive start older tid run × (by.seal start older run ≡ Some why))
IsRightLineBy by start older (Commits tid) = (run : Run) × (n : ℕ) × IsSealed start older tid run n
IsRightLineBy by start older (Aborts tid) = (run : Run) × (run_at start older tid ≡ Some run)

-- each line is right by this rule on the lines before it
abbrev pub IsRightBy : Rule → Start → List EngineLine → Type 0
IsRightBy by start [] = Unit {0}
IsRightBy by start (line ∷ older) = IsRightLineBy by start older line × IsRightBy by start older

-- the line may come there, and its answer is that of the start's rule
abbrev pub IsRightLine : Start → List EngineLine → EngineLine → Type 0
IsRightLine start older line = IsRightLineBy (rule start.kind) start older line

-- each line is right on the lines before it
abbrev pub IsRight : Start → List EngineLine → Type 0
IsRight start lines = IsRightBy (rule start.kind) start lines

-- one of the rows has this key
abbrev pub has_row : Key → List Put → Bool
has_row key puts = some_of (λ put. same_key put.key key) puts

-- two in doubt are apart: other attempts, no key that both write, and their tickets in the order of their numbers
pub record AreApart (a b : Kept) : Type 0 where
  pub tids : same_tid a.tid b.tid ≡ false
  pub keys : Each (λ put. has_row put.key b.writes ≡ false) a.writes
  pub order : ((a.number < b.number) × (a.ticket < b.ticket)) ⊎ ((b.number < a.number) × (b.ticket < a.ticket))

-- any two of a list are apart
abbrev pub AllApart : List Kept → Type 0
AllApart [] = Unit {0}
AllApart (kept ∷ more) = Each (AreApart kept) more × AllApart more

-- its number is 1 to the counter, and its ticket 1 to the published one
pub record IsNumbered (start : Start) (kept : Kept) : Type 0 where
  pub number_some : 0 < kept.number
  pub number_kept : kept.number ≤ start.counter
  pub ticket_some : 0 < kept.ticket
  pub ticket_kept : kept.ticket ≤ start.published

-- what an epoch may start from
pub record IsStart (start : Start) : Type 0 where
  pub numbered : Each (IsNumbered start) start.doubtful
  pub apart : AllApart start.doubtful
