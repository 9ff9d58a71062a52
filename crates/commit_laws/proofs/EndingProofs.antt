-- How global attempts end, at every line of a story and by the outcome at its end.
use Rattle.std.proofs.Common.{◌≡◌, ◌↔◌, inl, inr, Bool, true, false, cond, ◌||◌, Option, Some, None, List, [], ◌∷◌, refl, sym, ap, subst, ◌∙◌}
use Rattle.mdb_base.specs.declared.names.SiteId.{SiteId}
use Rattle.mdb_base.specs.declared.names.Tid.{Tid}
use Rattle.mdb_base.proofs.ForCallers.{same_tid-refl}
use Rattle.presumptions.specs.declared.Decision.{Decision}
use Rattle.presumptions.specs.declared.Participant.{Participant}
use Rattle.fed_rules.specs.declared.answers.Answer.TheVariants as Say
use Rattle.fed_rules.specs.declared.commands.Command.{Command}
use Rattle.fed_rules.specs.declared.scenario.Scenario.{Scenario}
use Rattle.fed_rules.specs.Coord.{tells}
use Rattle.fed_rules.specs.CoordPast as Coordinator
use Rattle.fed_rules.specs.CoordPast.{CoordHappening, CoordPast, Standing, Undecided, Decided, Gone, standing, standing_of, is_known, is_open, known_decision, kept_decision, is_about, opened, decided}
use Rattle.fed_rules.specs.CoordRecords.{is_kept, outcome}
use Rattle.fed_rules.specs.Endings.{AtEach, AnswersInDoubt, KnownFromItsBeginning, KnownFromRecords, KnownWhileMissing, ForgottenWhenNoneIsMissing, RestartsCountAnew, ForgottenAreAcknowledged, Settles, outcome_in}
use Rattle.fed_rules.specs.Happenings.{stops, comes_up}
use Rattle.fed_rules.specs.Scenarios.{home_of, protocols}
use Rattle.fed_rules.specs.SitePast.{records}
use Rattle.fed_rules.specs.SiteRecords.{Home, Held, doubt_of}
use Rattle.fed_rules.specs.Story.{Story, Told, Happened, AtSite, AtCoordinator, Nowhere, coord_past, past_of, with_coordinator, tell, happens, story_of}
use Rattle.commit_laws.specs.Endings.{StoriesEndAlike, StoriesForgetExactly, StoriesAnswerInDoubt}
use Rattle.commit_laws.specs.Forgetting.{IsNextOfCoordinator}
use Rattle.commit_laws.proofs.Agreed.{agreed}
use Rattle.commit_laws.proofs.Links.{member_of, home-again, its-site}
use Rattle.coord_laws.proofs.ForCallers.{Decides, Forgets, IsBegun, IsOpen, Restarts, Same, Starts, Stood, Stopped, Through, begun_answer, fresh, is_undecided, same_outcome, still_open}
use Rattle.commit_laws.proofs.ForgettingProofs.{next-turn, known-while-missing, forgotten-when-none-is-missing, restarts-count-anew, forgotten-are-acknowledged, inquiries-are-answered-the-outcome}
use Rattle.commit_laws.proofs.OutcomeLaws.{settles-say-the-outcome}
use Rattle.commit_laws.proofs.PreparedLaws.{nowhere}
use Rattle.commit_laws.proofs.SiteWork.{held-prepared}
use Rattle.commit_laws.proofs.Walks.{at-both, at-each, coord-each, past-behind, story-each, undeclared}

-- every line that settles says the outcome; at a site that isn't declared there is none
pub stories-end-alike : StoriesEndAlike
stories-end-alike scenario commands site tid decision settles = by_home (home_of scenario site) refl where
  by_home : (o : Option Home) → home_of scenario site ≡ o → decision ≡ outcome_in (story_of scenario commands) tid
  by_home (Some home) e = settles-say-the-outcome scenario commands site home e tid decision settles
  by_home None e = absurd (subst (λ past. Settles past tid decision) (undeclared scenario site commands e) settles)

open-known : (s : Standing) → is_undecided s ≡ true → is_known s ≡ false → ⊥
open-known Undecided o gone = cc
open-known (Decided d) o gone = cc
open-known Gone o gone = cc

-- an attempt is known from the line that begins it
known-from : (protocols : List Participant) (past : CoordPast) (x : CoordHappening) (tid : Tid) → Stood protocols tid past x
    → (stops x.answer || comes_up x.answer) ≡ false → is_known (standing protocols past tid) ≡ false
    → (is_known (standing protocols (x ∷ past) tid) ≡ true) ↔ (x.answer ≡ Say.Begun tid)
known-from protocols past x tid (Stopped b e a stop) on gone = let no : true ≡ false = sym stop ∙ on in cc
known-from protocols past x tid (Through (Restarts b e a stop) r) on gone = let no : true ≡ false = sym stop ∙ on in cc
known-from protocols past x tid (Through (Same e b u a) r) on gone = (
  (λ known. let no : true ≡ false = sym known ∙ (ap is_known e ∙ gone) in cc),
  (λ begun. let no : true ≡ false = sym (begins-own begun) ∙ b in cc),
) where
  begins-own : x.answer ≡ Say.Begun tid → Coordinator.begins tid x.answer ≡ true
  begins-own begun = ap (Coordinator.begins tid) begun ∙ same_tid-refl tid
known-from protocols past x tid (Through (Starts b e n steps v) r) on gone = ((λ known. begun_answer tid x.answer b), (λ begun. ap is_known e))
known-from protocols past x tid (Through (Decides made f o b e n by a) r) on gone = absurd (open-known (standing protocols past tid) o gone)
known-from protocols past x tid (Through (Forgets made k b e n ends a) r) on gone = let no : true ≡ false = sym (ap is_known k) ∙ gone in cc

begun-known : (scenario : Scenario) (commands : List Command) (x : CoordHappening) → IsNextOfCoordinator scenario commands x
    → KnownFromItsBeginning (protocols scenario) x (coord_past (story_of scenario commands))
begun-known scenario commands x next on tid gone =
    known-from (protocols scenario) (coord_past (story_of scenario commands)) x tid (next-turn scenario commands x next tid).1.line.stood on gone

-- behind a stop or a start the records say what is known
records-know : (protocols : List Participant) (x : CoordHappening) (past : CoordPast) → KnownFromRecords protocols x past
records-know protocols x past off tid =
    by_test (stops x.answer || comes_up x.answer) off
    (cond (is_about tid x.event) (opened x.answer (is_open past tid)) (is_open past tid))
    (cond (is_about tid x.event) (decided x.answer (known_decision protocols past tid)) (known_decision protocols past tid))
  where
    kept : (b : Bool) → is_known (standing_of false (cond b (Some (outcome (Coordinator.records (x ∷ past)) tid)) None)) ≡ b
    kept true = refl
    kept false = refl

    by_test : (b : Bool) → b ≡ true → (o : Bool) (d : Option Decision)
        → is_known (standing_of (cond b false o) (cond b (kept_decision protocols (Coordinator.records (x ∷ past)) tid) d))
        ≡ is_kept protocols (Coordinator.records (x ∷ past)) tid
    by_test true e o d = kept (is_kept protocols (Coordinator.records (x ∷ past)) tid)
    by_test false e o d = cc

pub stories-forget-exactly : StoriesForgetExactly
stories-forget-exactly scenario commands =
    record {
      begun = coord-each scenario (KnownFromItsBeginning (protocols scenario)) (begun-known scenario) commands;
      known = coord-each scenario (λ x past. KnownWhileMissing (protocols scenario) (x ∷ past))
          (past-behind scenario (KnownWhileMissing (protocols scenario)) (known-while-missing scenario)) commands;
      forgotten = coord-each scenario (ForgottenWhenNoneIsMissing (protocols scenario)) (forgotten-when-none-is-missing scenario) commands;
      restarted = coord-each scenario (KnownFromRecords (protocols scenario))
          (λ cs x next. records-know (protocols scenario) x (coord_past (story_of scenario cs))) commands;
      counted_anew = coord-each scenario (RestartsCountAnew (protocols scenario)) (restarts-count-anew scenario) commands;
      acknowledged = story-each scenario (λ told before. ForgottenAreAcknowledged scenario (told ∷ before))
          (λ cs c. forgotten-are-acknowledged scenario (c ∷ cs)) commands;
    }

-- the attempt was begun and isn't undecided
IsFixed : Scenario → Story → Tid → Type 0
IsFixed scenario story tid = IsBegun (coord_past story) tid × (IsOpen (protocols scenario) (coord_past story) tid → ⊥)

-- so it stays, and its outcome is the same
record Stays (scenario : Scenario) (before now : Story) (tid : Tid) : Type 0 where
  fixed : IsFixed scenario now tid
  same : outcome_in now tid ≡ outcome_in before tid

line-stays : (scenario : Scenario) (commands : List Command) (command : Command) (tid : Tid) → IsFixed scenario (story_of scenario commands) tid
    → Stays scenario (story_of scenario commands) (story_of scenario (command ∷ commands)) tid
unfolding IsFixed
line-stays scenario commands command tid f =
    let now = more (happens scenario story command) refl in record { fixed = now.0; same = now.1 }
  where
    story : Story
    story = story_of scenario commands

    more : (happened : Happened) → happens scenario story command ≡ happened
        → (IsBegun (with_coordinator happened (coord_past story)) tid × (IsOpen (protocols scenario) (with_coordinator happened (coord_past story)) tid → ⊥))
        × (outcome (Coordinator.records (with_coordinator happened (coord_past story))) tid ≡ outcome_in story tid)
    more (Nowhere answer) e = (f, refl)
    more (AtSite at x) e = (f, refl)
    more (AtCoordinator x) e =
        let (event, t) = next-turn scenario commands x (command, e) tid in
        let new = fresh (protocols scenario) (member_of nowhere) tid (coord_past story) event x t f.0 in (
          (
            inr f.0,
            (λ o. elim (still_open (protocols scenario) tid (coord_past story) x t.line.stood o) [
              | inl begins ↦ (let no : true ≡ false = sym begins ∙ new in cc)
              | inr before ↦ f.1 before
            ]),
          ),
          same_outcome (protocols scenario) (member_of nowhere) tid (coord_past story) event x t f.1,
        )

-- so at each line the outcome of an attempt that is over is the outcome at the end
all-stay : (scenario : Scenario) (commands : List Command)
    → AtEach (λ told before. (tid : Tid) → IsFixed scenario before tid → Stays scenario before (story_of scenario commands) tid) (story_of scenario commands)
all-stay scenario [] = tt
all-stay scenario (command ∷ commands) = (
  line-stays scenario commands command,
  at-each (λ told before stays tid f.
      let first = stays tid f in
      let last = line-stays scenario commands command tid first.fixed in
      record { fixed = last.fixed; same = last.same ∙ first.same }) (story_of scenario commands) (all-stay scenario commands),
)

-- an attempt that a site is in doubt of was begun
doubt-begun : (scenario : Scenario) (commands : List Command) (home : Home) → home_of scenario home.site ≡ Some home → (tid : Tid) (held : Held)
    → doubt_of (records home (past_of home.site (story_of scenario commands))) tid ≡ Some held → IsBegun (coord_past (story_of scenario commands)) tid
doubt-begun scenario commands home declared tid held doubt =
    let a = agreed scenario home tid commands declared in
    let p = a.prepared held.epoch (held-prepared (records home (past_of home.site (story_of scenario commands))) tid held doubt) in
    (a.preparing held.epoch p.0 p.1).begun

-- at each line the inquiry of a site in doubt is answered the outcome at that line, and its attempt was begun
abbrev AnswersThen : Scenario → Told → Story → Type 0
AnswersThen scenario told before =
    AnswersInDoubt scenario (outcome_in before) told before
    × ((site : SiteId) (home : Home) → home_of scenario site ≡ Some home → (tid : Tid) (held : Held)
    → doubt_of (records home (past_of site before)) tid ≡ Some held → IsBegun (coord_past before) tid)

answers-then : (scenario : Scenario) (commands : List Command) (command : Command)
    → AnswersThen scenario (tell scenario (story_of scenario commands) command) (story_of scenario commands)
answers-then scenario commands command = (
  (λ site home declared tid gone held doubt x e. inquiries-are-answered-the-outcome scenario commands site home declared tid gone held doubt x (command, e)),
  (λ site home declared.
      subst (λ s. (tid : Tid) (held : Held) → doubt_of (records home (past_of s (story_of scenario commands))) tid ≡ Some held
      → IsBegun (coord_past (story_of scenario commands)) tid) (its-site scenario site home declared)
      (doubt-begun scenario commands home (home-again scenario site home declared))),
)

-- which is the outcome at the end
pub stories-answer-in-doubt : StoriesAnswerInDoubt
unfolding IsFixed
stories-answer-in-doubt scenario commands =
    at-both (λ told before stays then site home declared tid gone held doubt x e inquiry up on.
    let begun = then.1 site home declared tid held doubt in
    let closed : IsOpen (protocols scenario) (coord_past before) tid → ⊥ = λ o. (let no : is_undecided Gone ≡ true = ap is_undecided (sym gone) ∙ o in cc) in
    then.0 site home declared tid gone held doubt x e inquiry up on
    ∙ ap (λ d. tells site tid (Say.Presumes d) d) (sym (stays tid (begun, closed)).same))
    (story_of scenario commands) (all-stay scenario commands)
    (story-each scenario (AnswersThen scenario) (answers-then scenario) commands)
