-- What a line makes of an attempt that is carried out.
use Rattle.std.specs.Prelude.{ℕ, ◌≡◌, ◌==◌, ◌&&◌, ◌||◌, Bool, true, false, Some, List, [], ◌∷◌}
use Rattle.mdb_base.specs.declared.names.SiteId.{SiteId}
use Rattle.mdb_base.specs.declared.names.Tid.{Tid}
use Rattle.mdb_base.specs.declared.replies.Reply.{Reply}
use Rattle.mdb_base.specs.declared.replies.Reply.TheVariants.{Wait}
use Rattle.mdb_base.specs.Names.{same_site}
use Rattle.mdb_base.specs.Words.{Each}
use Rattle.presumptions.specs.declared.Participant.{Participant}
use Rattle.fed_rules.specs.declared.messages.FromSite.{FromSite}
use Rattle.fed_rules.specs.declared.messages.FromSite.TheVariants as From
use Rattle.fed_rules.specs.declared.events.CoordEvent.TheVariants as Ev
use Rattle.fed_rules.specs.CoordPast.{CoordHappening, CoordPast, begins, counts, epoch_at, outstanding, participants_of}
use Rattle.fed_rules.specs.Coord.{fits, is_due_vote, news as past_news}
pub use Rattle.fed_rules.specs.Terms.{IsAmong}
use Rattle.global_exec.specs.Agreement.{IsOfPast, progress_in}
use Rattle.global_exec.specs.Counted.{advanced, counts as counts_in, is_answer, news, waited}
use Rattle.global_exec.specs.Live.{Live, awaits_vote, voted}

-- at most one item passes the test
abbrev pub IsOnly : {A : Type 0} → (A → Bool) → List A → Type 0
IsOnly test [] = Unit {0}
IsOnly test (x ∷ xs) = (test x ≡ true → Each (λ y. test y ≡ false) xs) × IsOnly test xs

-- the line counts this message of the site
pub record Takes (site : SiteId) (tid : Tid) (message : FromSite) (x : CoordHappening) : Type 0 where
  pub event : x.event ≡ Ev.Take site message
  pub old : begins tid x.answer ≡ false
  pub counts : counts x.answer ≡ true

-- the attempt's participants differ
abbrev pub HasEachOnce : List Participant → SiteId → Live → Type 0
HasEachOnce protocols site live = IsOnly (λ p. same_site p.site site) (participants_of protocols live.program)

abbrev pub WaitsGo : Type 0
WaitsGo = (protocols : List Participant) (past : CoordPast) (tid : Tid) (live : Live) → IsOfPast protocols past tid live
    → (site : SiteId) (epoch n : ℕ) (by : Tid) (x : CoordHappening) → Takes site tid (From.Did tid epoch n (Wait by)) x → HasEachOnce protocols site live
    → IsOfPast protocols (x ∷ past) tid (waited site epoch live)

abbrev pub AnswersGo : Type 0
AnswersGo = (protocols : List Participant) (past : CoordPast) (tid : Tid) (live : Live) → IsOfPast protocols past tid live
    → (site : SiteId) (epoch n : ℕ) (reply : Reply) (x : CoordHappening) → Takes site tid (From.Did tid epoch n reply) x → HasEachOnce protocols site live
    → is_answer reply ≡ true → IsOfPast protocols (x ∷ past) tid (advanced site epoch reply live)

abbrev pub VotesGo : Type 0
VotesGo = (protocols : List Participant) (past : CoordPast) (tid : Tid) (live : Live) → IsOfPast protocols past tid live
    → (site : SiteId) (ticket : ℕ) (x : CoordHappening) → Takes site tid (From.Vote tid (Some ticket)) x → HasEachOnce protocols site live
    → IsOfPast protocols (x ∷ past) tid (voted site live)

-- a reply counts in the table where it counts by the past
abbrev pub RepliesAgree : Type 0
RepliesAgree = (protocols : List Participant) (past : CoordPast) (tid : Tid) (live : Live) → IsOfPast protocols past tid live
    → (site : SiteId) → IsAmong site protocols → (epoch n : ℕ) (reply : Reply)
    → counts_in site epoch n reply live ≡ (fits (outstanding past tid site) n reply && ((epoch_at past tid site == 0) || (epoch == epoch_at past tid site)))

-- a vote is awaited in the table where a Prepare is outstanding by the past
abbrev pub VotesAgree : Type 0
VotesAgree = (protocols : List Participant) (past : CoordPast) (tid : Tid) (live : Live) → IsOfPast protocols past tid live
    → (site : SiteId) → IsAmong site protocols → awaits_vote site live ≡ is_due_vote (outstanding past tid site)

-- what became outstanding in the table by an answer is what did by the past
abbrev pub NewsAgree : Type 0
NewsAgree = (protocols : List Participant) (past now : CoordPast) (tid : Tid) (before after : Live) → IsOfPast protocols past tid before → IsOfPast protocols now tid after
    → (site : SiteId) → after.program ≡ before.program → ((p : Participant) → same_site p.site site ≡ false → progress_in now tid p ≡ progress_in past tid p)
    → news site before.done after ≡ past_news protocols past now tid site
