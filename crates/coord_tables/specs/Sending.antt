-- What goes out of a line that sends what is outstanding for an attempt.
use Rattle.std.specs.Prelude.{◌≡◌, Bool, true, false, cond, not, ◌&&◌, Option, Some, None, List, ◌∷◌, map}
use Rattle.mdb_base.specs.declared.names.SiteId.{SiteId}
use Rattle.mdb_base.specs.declared.names.Tid.{Tid}
use Rattle.mdb_base.specs.Names.{same_tid}
use Rattle.mdb_base.specs.Words.{some_of, those}
use Rattle.presumptions.specs.declared.Participant.{Participant}
use Rattle.fed_rules.specs.declared.answers.Answer.{Answer}
use Rattle.fed_rules.specs.declared.answers.Answer.TheVariants as Say
use Rattle.fed_rules.specs.declared.events.CoordEvent.{CoordEvent}
use Rattle.fed_rules.specs.declared.messages.Due.{Due}
use Rattle.fed_rules.specs.declared.records.CoordRecord.{CoordRecord}
use Rattle.fed_rules.specs.declared.records.CoordRecord.TheVariants as Rec
use Rattle.fed_rules.specs.Coord.{is_prepare, is_take, lacks_initiation, sends_dues}
use Rattle.fed_rules.specs.CoordPast.{CoordHappening, CoordPast, Counted, begins, counts, did_in, is_about, is_open, participants, vote_in}
use Rattle.coord_laws.specs.Pasts.{IsNumbered}
use Rattle.global_exec.specs.Counted.{after_did}
use Rattle.global_exec.specs.Firsts.{replaced}
use Rattle.global_exec.specs.Live.{Live, is_of, live_of}
use Rattle.coord_tables.specs.declared.replies.Taken.{Taken}
use Rattle.coord_tables.specs.declared.stages.Stage.{Stage}
use Rattle.coord_tables.specs.Attempts.{IsLiveAs}
use Rattle.coord_tables.specs.Stages.{after_reply}
use Rattle.coord_tables.specs.Terms.{IsUsual, Terms, answer_of}

-- whether the policy, if it doesn't let Takes pass, holds this back
abbrev pub is_held : Bool → Due → Bool
is_held may due = is_take due && not may

-- what it lets pass
abbrev pub passed : Bool → List Due → List Due
passed may dues = those (λ due. not (is_held may due)) dues

-- with both answers of the policy the same is let pass of these, and something is held back or not alike
pub record HoldsTheSame (may other : Bool) (dues : List Due) : Type 0 where
  pub passes : passed may dues ≡ passed other dues
  pub held : some_of (is_held may) dues ≡ some_of (is_held other) dues

-- the Initiation that has to stand on the disk before these are sent
abbrev pub initiation_of : List Participant → CoordPast → Tid → List Due → Option CoordRecord
initiation_of protocols past tid dues =
    cond (some_of is_prepare dues && lacks_initiation protocols past tid) (Some (Rec.Initiation tid (participants protocols past tid))) None

-- the attempts that are carried out, once the reply is taken
abbrev pub after_taken : Tid → Option Taken → List Live → List Live
after_taken tid None exec = exec
after_taken tid (Some taken) exec = replaced (is_of tid) (after_did taken.site taken.epoch taken.n taken.reply) exec

-- the stages, once the reply is taken
abbrev pub stages_taken : Tid → Option Taken → List Stage → List Stage
stages_taken tid None stages = stages
stages_taken tid (Some taken) stages = map (after_reply tid taken.site taken.reply) stages

-- the reply as one that counts
abbrev pub reply_in : Option Taken → Option Counted
reply_in None = None
reply_in (Some taken) = Some (record { site = taken.site; epoch = taken.epoch; reply = taken.reply })

-- such a line forces an Initiation, or it holds something back, or it says nothing beside what it sends
abbrev pub says_sent : (initiates defers : Bool) → Answer
says_sent true defers = Say.Initiates
says_sent false true = Say.Defers
says_sent false false = Say.Only

-- by the rules the event, which takes this reply or none, sends these dues of the undecided attempt, which is carried out so far then
pub record IsSending (terms : Terms) (past : CoordPast) (event : CoordEvent) (tid : Tid) (taken : Option Taken) (defers : Bool) (dues : List Due) (exec now : List Live) : Type 0 where
  pub usual : IsUsual event
  pub numbered : IsNumbered past event
  pub undecided : is_open past tid ≡ true
  pub line : answer_of terms past event ≡ sends_dues terms.protocols past event tid (says_sent false defers) dues
  pub about : (t : Tid) → is_about t event ≡ same_tid tid t
  pub did : did_in tid event ≡ reply_in taken
  pub no_vote : (t : Tid) (site : SiteId) → vote_in t site event ≡ None
  pub own : (x : CoordHappening) → x.event ≡ event → begins tid x.answer ≡ false → counts x.answer ≡ true → IsLiveAs terms.protocols (x ∷ past) tid true (live_of tid now)
  pub others : (t : Tid) → same_tid tid t ≡ false → live_of t now ≡ live_of t exec
