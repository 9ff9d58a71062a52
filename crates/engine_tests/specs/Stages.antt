-- When notes agree with what the lines of an engine say of its runs.
use Rattle.std.specs.Prelude.{ℕ, ◌≡◌, ◌≤◌, Bool, true, false, cond, Option, Some, None, List, [], ◌∷◌}
use Rattle.mdb_base.specs.declared.names.Tid.{Tid}
use Rattle.mdb_base.specs.declared.replies.Reply.{Reply}
use Rattle.mdb_base.specs.declared.replies.Reply.TheVariants as Reply_is
use Rattle.mdb_base.specs.Names.{same_tid}
use Rattle.fed_rules.specs.Runs.{Start, EngineLine, Run, run_at, is_sealed, has_ticket, counter, published}
use Rattle.engine_tests.specs.declared.stage.Stage.{Stage}
use Rattle.engine_tests.specs.declared.stage.Stage.TheVariants.{Free, Live, Ticketed, Sealed}
use Rattle.engine_tests.specs.declared.stage.Note.{Note}

abbrev pub free : Stage → Bool
free Free = true
free Live = false
free Ticketed = false
free Sealed = false

abbrev pub live : Stage → Bool
live Free = false
live Live = true
live Ticketed = true
live Sealed = false

abbrev pub ticketless : Stage → Bool
ticketless Free = false
ticketless Live = true
ticketless Ticketed = false
ticketless Sealed = false

abbrev pub sealed : Stage → Bool
sealed Free = false
sealed Live = false
sealed Ticketed = false
sealed Sealed = true

-- how far a run has come
abbrev pub stage_of : Option Run → Stage
stage_of None = Free
stage_of (Some run) = cond (is_sealed run) Sealed (cond (has_ticket run) Ticketed Live)

-- the newest note of the attempt
abbrev pub noted : List Note → Tid → Stage
noted [] tid = Free
noted (note ∷ older) tid = cond (same_tid note.tid tid) note.stage (noted older tid)

-- what an answered access leaves of a stage
abbrev pub acted : Reply → Stage → Stage
acted (Reply_is.Refused why) stage = Free
acted (Reply_is.Wait by) stage = stage
acted (Reply_is.Ticket n) stage = stage
acted (Reply_is.Value value) stage = stage
acted Reply_is.Done stage = stage
acted Reply_is.Unknown stage = stage

-- and what an answered taking of the ticket does
abbrev pub took : Reply → Stage → Stage
took (Reply_is.Refused why) stage = Free
took (Reply_is.Wait by) stage = stage
took (Reply_is.Ticket n) stage = Ticketed
took (Reply_is.Value value) stage = stage
took Reply_is.Done stage = stage
took Reply_is.Unknown stage = stage

-- the notes tell how far each attempt has come, and no number or published ticket is above these
pub record Agrees (notes : List Note) (most last : ℕ) (start : Start) (lines : List EngineLine) : Type 0 where
  pub stages : (u : Tid) → stage_of (run_at start lines u) ≡ noted notes u
  pub counter : counter start lines ≤ most
  pub published : published start lines ≤ last

-- an engine that stands for a start alone, with nobody in doubt and no number drawn
pub record IsFresh (start : Start) (lines : List EngineLine) : Type 0 where
  pub none : lines ≡ []
  pub nobody : start.doubtful ≡ []
  pub counter : start.counter ≡ 0
  pub published : start.published ≡ 0
