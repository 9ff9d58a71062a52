-- A session that goes on from usable disks, in records whose attempts lie in their range, has few attempts that were begun and that a site is in doubt of, and
-- none that is live, whatever the commands.
use Rattle.std.proofs.Common.{◌≡◌, ◌≤◌, Option, Some, None, List, [], ◌∷◌, ◌++◌, length, map, not, refl, sym, ap, subst, ◌∙◌, inl, inr, arith}
use Rattle.mdb_base.specs.declared.names.SiteId.{SiteId}
use Rattle.mdb_base.specs.declared.names.Tid.{Tid}
use Rattle.mdb_base.specs.Words.{Each, found as each_found, those, with_some}
use Rattle.mdb_base.proofs.ForCallers.{append_each, each_filtered, length-map}
use Rattle.order_laws.specs.Chains.{In}
use Rattle.order_laws.proofs.ForCallers.{each_at}
use Rattle.fed_rules.specs.declared.answers.Answer.{Answer}
use Rattle.fed_rules.specs.declared.answers.Answer.TheVariants as Say
use Rattle.fed_rules.specs.declared.commands.Command.{Command}
use Rattle.fed_rules.specs.declared.events.CoordEvent.{CoordEvent}
use Rattle.fed_rules.specs.declared.records.CoordRecord.{CoordRecord}
use Rattle.fed_rules.specs.declared.records.CoordRecord.TheVariants.{Abort, Checkpoint, Commit, End, Initiation}
use Rattle.fed_rules.specs.declared.records.SiteRecord.{SiteRecord}
use Rattle.fed_rules.specs.declared.sums.CommittedAttempt.{CommittedAttempt}
use Rattle.fed_rules.specs.declared.sums.CoordSum.{CoordSum}
use Rattle.fed_rules.specs.Attempts.{each_attempt, with_attempt}
use Rattle.fed_rules.specs.Closing.{in_doubt_at, live, live_at}
use Rattle.fed_rules.specs.Coord.{coord_line}
use Rattle.fed_rules.specs.CoordPast.{begun_by, begun_tids}
use Rattle.fed_rules.specs.CoordRecords.{recorded}
use Rattle.fed_rules.specs.Found.{Found, Journal}
use Rattle.fed_rules.specs.Reopened.{commit_read, coord_sum_read, end_read, initiation_read, is_open_in, opened_coordinator}
use Rattle.fed_rules.specs.Reopened as Reopened
use Rattle.fed_rules.specs.Resumed.{going_on, plan_of}
use Rattle.fed_rules.specs.Scenarios.{home_of, policy, protocols}
use Rattle.fed_rules.specs.Sessions.{Session}
use Rattle.fed_rules.specs.SitePast.{records}
use Rattle.fed_rules.specs.SiteRecords.{Held, Home, doubt_of, doubts, prepared_tids}
use Rattle.fed_rules.specs.Story.{AtCoordinator, AtSite, Happened, Nowhere, Story, coord_past, happens, past_of, story_in, with_coordinator}
use Rattle.fed_rules.specs.Usable.{coord_read}
use Rattle.fed_rules.proofs.ForCallers.{BeginsNothing, each_distinct, with_in}
use Rattle.coord_laws.proofs.ForCallers.{Begins, begin_once, coord_made, names_declared, opened_begun, read_is}
use Rattle.commit_laws.proofs.ForCallers.{IsNext, home-again, linked, protocols_rise, session_goes_on}
use Rattle.found_laws.specs.Ranges.{AreInRange, CoordInRange, IsInRange, SiteInRange}
use Rattle.closing_laws.proofs.ForCallers.{HasFew, at_most_eight, few_found, few_tids, length_rising, length_sorted, none_live_at}
use Rattle.found_laws.specs.FoundSessions.{AreUsable}
use Rattle.resume_laws.proofs.CoordMore.{read_more}
use Rattle.found_laws.proofs.ForCallers.{begins, begins_nothing, fits, idle, plan_sites, resumed_from, rise_all}
use Rattle.resume_laws.proofs.FoundRests.{lives_on}
use Rattle.resume_laws.proofs.SitePrepares.{doubt_has}

-- ---- what the coordinator's records name

-- the attempt of a record, where a Checkpoint has none
abbrev OwnInRange : CoordRecord → Type 0
OwnInRange (Initiation tid participants) = IsInRange tid
OwnInRange (Commit tid tickets) = IsInRange tid
OwnInRange (Abort tid participants) = IsInRange tid
OwnInRange (End tid) = IsInRange tid
OwnInRange (Checkpoint sum) = Unit {0}

own_range : (r : CoordRecord) → CoordInRange r → OwnInRange r
own_range (Initiation tid participants) h = h
own_range (Commit tid tickets) h = h
own_range (Abort tid participants) h = h
own_range (End tid) h = h
own_range (Checkpoint sum) h = tt

mapped_range : {A : Type 0} (make : A → CoordRecord) (xs : List A) → Each (λ x. OwnInRange (make x)) xs → Each OwnInRange (map make xs)
mapped_range make [] h = tt
mapped_range make (x ∷ xs) h = (h.0, mapped_range make xs h.1)

sum_range : (sum : CoordSum) → CoordInRange (Checkpoint sum) → Each OwnInRange (coord_sum_read sum)
sum_range sum h =
    let closed = those (λ (attempt : CommittedAttempt). not (is_open_in sum attempt.tid)) sum.committed in
    append_each OwnInRange (map end_read closed ++ map commit_read sum.committed) (map initiation_read sum.open_attempts)
    (append_each OwnInRange (map end_read closed) (map commit_read sum.committed)
    (mapped_range end_read closed (each_filtered (λ (attempt : CommittedAttempt). IsInRange attempt.tid) (λ (attempt : CommittedAttempt). not (is_open_in sum attempt.tid)) sum.committed h.1))
    (mapped_range commit_read sum.committed h.1))
    (mapped_range initiation_read sum.open_attempts h.0)

read_range : (rs : List CoordRecord) → Each CoordInRange rs → Each OwnInRange (coord_read rs)
read_range [] h = tt
read_range (r ∷ next ∷ older) h = subst (Each OwnInRange) (sym (read_more r next older)) (own_range r h.0, read_range (next ∷ older) h.1)
read_range (Checkpoint sum ∷ []) h = (tt, sum_range sum h.0)
read_range (Initiation tid participants ∷ []) h = (h.0, tt)
read_range (Commit tid tickets ∷ []) h = (h.0, tt)
read_range (Abort tid participants ∷ []) h = (h.0, tt)
read_range (End tid ∷ []) h = (h.0, tt)

one_more : (tid g : Tid) (tids : List Tid) → IsInRange tid → (In g tids → IsInRange g) → In g (with_attempt tid tids) → IsInRange g
one_more tid g tids own rest i = elim (with_in tid g tids i) [ inl same ↦ subst IsInRange same own | inr more ↦ rest more ]

recorded_range : (rs : List CoordRecord) (g : Tid) → Each OwnInRange rs → In g (recorded rs) → IsInRange g
recorded_range [] g h i = absurd i
recorded_range (Initiation tid participants ∷ rs) g h i = one_more tid g (recorded rs) h.0 (recorded_range rs g h.1) i
recorded_range (Commit tid tickets ∷ rs) g h i = one_more tid g (recorded rs) h.0 (recorded_range rs g h.1) i
recorded_range (Abort tid participants ∷ rs) g h i = one_more tid g (recorded rs) h.0 (recorded_range rs g h.1) i
recorded_range (End tid ∷ rs) g h i = one_more tid g (recorded rs) h.0 (recorded_range rs g h.1) i
recorded_range (Checkpoint sum ∷ rs) g h i = recorded_range rs g h.1 i

-- ---- who was begun

none_begun : (event : CoordEvent) (answer : Answer) → Begins event answer → BeginsNothing event → begun_by answer ≡ None
none_begun event (Say.Begun tid) b i = absurd (subst BeginsNothing b.1 i)
none_begun event answer b i = refl

module _ (found : Found) (u : AreUsable found) where
  abbrev session : Session
  session = going_on found

  begun_next : (commands : List Command) (happened : Happened) → IsNext (plan_of found) (story_in session commands) happened
      → begun_tids (with_coordinator happened (coord_past (story_in session commands))) ≡ begun_tids (coord_past (story_in session commands))
  begun_next commands (Nowhere answer) next = refl
  begun_next commands (AtSite site x) next = refl
  begun_next commands (AtCoordinator x) (event, is, came) =
      let past = coord_past (story_in session commands) in
      let line = coord_line (protocols (plan_of found)) (policy (plan_of found)) past event in
      let made = coord_made (protocols (plan_of found)) (policy (plan_of found)) past event in
      ap (λ y. begun_tids (y ∷ past)) is
      ∙ ap (λ o. with_some o (begun_tids past)) (none_begun event line.answer made.begun (begins_nothing (plan_of found) (story_in session commands) event (idle found) came))

  -- no command begins an attempt
  begun_same : (commands : List Command) → begun_tids (coord_past (story_in session commands)) ≡ begun_tids (coord_past (story_in session []))
  begun_same [] = refl
  begun_same (command ∷ commands) =
      begun_next commands (happens (plan_of found) (story_in session commands) command) (linked (plan_of found) (story_in session commands) command).next ∙ begun_same commands

  module _ (range : AreInRange found) where
    first_range : (g : Tid) → In g (recorded (Reopened.coord_read u.coordinator)) → IsInRange g
    first_range g i =
        recorded_range (coord_read u.coordinator.records) g (read_range u.coordinator.records (range.coordinator u.coordinator u.is))
        (subst (λ rs. In g (recorded rs)) (read_is u.coordinator.records u.coordinator.torn) i)

    begun_range : (commands : List Command) (g : Tid) → In g (begun_tids (coord_past (story_in session commands))) → IsInRange g
    begun_range commands g i =
        let members = protocols (plan_of found) in
        let rise = rise_all members (protocols_rise (plan_of found).sites (plan_sites found u).differ) in
        let first = subst (In g) (begun_same commands ∙ ap begun_tids (begins found u).at_coordinator) i in
        let (greater, listed, same, most) = opened_begun members u.coordinator (names_declared members u.coordinator rise u.usable u.members) g first in
        let own = first_range greater listed in
        let tx = ap (λ (t : _). t.0) same in
        let few = own.2 in
        let low = own.0 in
        let high = own.1 in (omega (arith, low, tx), omega (arith, high, tx), omega (arith, few, most))

    begun_few : (commands : List Command) → length (begun_tids (coord_past (story_in session commands))) ≤ 32768
    begun_few commands =
        few_tids (begun_tids (coord_past (story_in session commands)))
        (begin_once (protocols (plan_of found)) (policy (plan_of found)) (coord_past (story_in session commands)) (session_goes_on session (fits found u) commands))
        (begun_range commands)

    -- ---- what a site is in doubt of, and what lives there

    doubt_range : (commands : List Command) (home : Home) → home_of (plan_of found) home.site ≡ Some home → (tid : Tid) (held : Held)
        → doubt_of (records home (past_of home.site (story_in session commands))) tid ≡ Some held → IsInRange tid
    doubt_range commands home declared tid held e =
        let r = resumed_from found u home declared commands in
        doubt_has IsInRange home r.journal (each_at (λ (journal : Journal SiteRecord). Each SiteInRange journal.records) r.journal found.sites range.sites r.among) r.events r.resuming tid held
        (subst (λ past. doubt_of (records home past) tid ≡ Some held) r.is e)

    doubts_few : (commands : List Command) (site : SiteId) → length (in_doubt_at (home_of (plan_of found) site) (story_in session commands)) ≤ 32768
    doubts_few commands site = by_home (home_of (plan_of found) site) refl
      where
        story : Story
        story = story_in session commands

        by_home : (o : Option Home) → home_of (plan_of found) site ≡ o → length (in_doubt_at o story) ≤ 32768
        by_home None e = omega arith
        by_home (Some home) e =
            let rs = records home (past_of home.site story) in
            let sorted = length_rising (map (λ (held : Held). held.tid) (doubts rs)) in
            let named = length-map (λ (held : Held). held.tid) (doubts rs) in
            let listed = length_sorted (each_found (doubt_of rs) (each_attempt (prepared_tids rs))) in
            let few = few_found (doubt_of rs) (each_attempt (prepared_tids rs)) (each_distinct (prepared_tids rs))
            (λ tid held i d. doubt_range commands home (home-again (plan_of found) site home e) tid held d) in
            omega (arith, sorted, named, listed, few)

    lives_few : (commands : List Command) (site : SiteId) → length (live (plan_of found) (story_in session commands) site) ≤ 32768
    lives_few commands site = by_home (home_of (plan_of found) site) refl
      where
        story : Story
        story = story_in session commands

        by_home : (o : Option Home) → home_of (plan_of found) site ≡ o → length (live_at o story) ≤ 32768
        by_home None e = omega arith
        by_home (Some home) e =
            let none = ap length (none_live_at home story (lives_on found u commands home (home-again (plan_of found) site home e))) in omega (arith, none)

    pub found_few : HasFew session
    found_few = record {
      fits = fits found u;
      sites = at_most_eight (plan_of found) (plan_sites found u);
      begun = begun_few;
      lives = lives_few;
      doubts = doubts_few;
    }
