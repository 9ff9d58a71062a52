-- Closing adds nothing to a session at rest, and right lines of the same commands agree.
use Rattle.std.proofs.Common.{◌≡◌, Bool, true, false, not, is_some, Some, List, [], ◌∷◌, map, reverse, refl, sym, ap, subst, ◌∙◌}
use Rattle.mdb_base.specs.declared.names.SiteId.{SiteId}
use Rattle.mdb_base.specs.declared.names.Tid.{Tid}
use Rattle.mdb_base.specs.declared.replies.Edge.{Edge}
use Rattle.mdb_base.specs.Words.{those}
use Rattle.order_laws.specs.Chains.{In}
use Rattle.order_laws.proofs.ForCallers.{in_those, map_reverse, none_pass}
use Rattle.std.proofs.lemmas.List.{reverse-reverse}
use Rattle.fed_rules.proofs.ForCallers.{rising_in}
use Rattle.presumptions.specs.declared.Decision.{Decision}
use Rattle.presumptions.specs.declared.Participant.{Participant}
use Rattle.fed_rules.specs.declared.answers.Answer.{Answer}
use Rattle.fed_rules.specs.declared.answers.Answer.TheVariants as Say
use Rattle.fed_rules.specs.declared.answers.Cause.TheVariants as For
use Rattle.fed_rules.specs.declared.commands.Command.{Command}
use Rattle.fed_rules.specs.declared.commands.Command.TheVariants as Cmd
use Rattle.fed_rules.specs.declared.commands.Line.{Line}
use Rattle.fed_rules.specs.declared.commands.Place.{Place}
use Rattle.fed_rules.specs.declared.events.CoordEvent.{CoordEvent}
use Rattle.fed_rules.specs.declared.events.CoordEvent.TheVariants as Ev
use Rattle.fed_rules.specs.declared.scenario.Scenario.{Scenario}
use Rattle.fed_rules.specs.Closing.{actors, ask_all, ask_site, bring_up, clear, clear_site, closed, disarm, end_known, for_each, give_up, inquire, one, rising, send_again}
use Rattle.fed_rules.specs.CoordPast as Coordinator
use Rattle.fed_rules.specs.CoordPast.{CoordHappening, CoordPast, begun_tids, is_known, is_open, known_decision, standing, standing_of}
use Rattle.fed_rules.specs.Happenings.{is_down}
use Rattle.fed_rules.specs.Reports.{report_of}
use Rattle.fed_rules.specs.Right.{IsAnswer, IsNext, MayPrint, SameButCycle, story_told}
use Rattle.fed_rules.specs.Scenarios.{protocols, sites}
use Rattle.fed_rules.specs.Sessions.{fresh}
use Rattle.fed_rules.specs.SitePast.{SitePast, is_local, trip}
use Rattle.fed_rules.specs.Story.{Happened, AtSite, AtCoordinator, Nowhere, Story, coord_past, past_of, places_of, story_of, tell}
use Rattle.closing_laws.specs.AtRest.{IsAtRest}
use Rattle.federation_laws.specs.Conservative.{RefusesForCycle}
use Rattle.line_laws.specs.Refusals.{RefuseNone}
use Rattle.replay_laws.specs.Replayed.{ClosingAddsNothing, CommandsGiveAgain, RightLinesAgree, RightLinesAreOne, bare, commands_in, without_cycle}

-- ---- closing

-- where no item adds anything, all together add nothing
each_adds_nothing : {A : Type 0} (add : A → List Command → List Command) (xs : List A) (commands : List Command) → ((x : A) → add x commands ≡ commands) → for_each add xs commands ≡ commands
each_adds_nothing add [] commands none = refl
each_adds_nothing add (x ∷ xs) commands none = ap (λ cs. for_each add xs cs) (none x) ∙ each_adds_nothing add xs commands none

nobody : (of_coordinator : CoordPast → Bool) (of_site : SitePast → Bool) (scenario : Scenario) (story : Story) → of_coordinator (coord_past story) ≡ false
    → ((site : SiteId) → of_site (past_of site story) ≡ false) → actors of_coordinator of_site scenario story ≡ []
nobody of_coordinator of_site scenario story none each =
    ap (λ b. one b 0 (map (λ (site : SiteId). site.0) (those (λ site. of_site (past_of site story)) (sites scenario)))) none
    ∙ ap (λ ss. map (λ (site : SiteId). site.0) ss) (none_pass (λ site. of_site (past_of site story)) (sites scenario) (λ site i. each site))

module _ (scenario : Scenario) (commands : List Command) (rest : IsAtRest scenario (story_of scenario commands)) where
  disarms_none : disarm (fresh scenario) commands ≡ commands
  disarms_none = ap (λ xs. for_each (λ actor more. Cmd.Trip actor 0 0 ∷ more) xs commands)
      (nobody (λ past. is_some (Coordinator.trip past)) (λ past. is_some (trip past)) scenario (story_of scenario commands) (ap is_some rest.coordinator_untripped) (λ site. ap is_some (rest.sites_untripped site)))

  brings_none : bring_up (fresh scenario) commands ≡ commands
  brings_none = ap (λ xs. for_each (λ actor more. Cmd.Back actor ∷ more) xs commands)
      (nobody (λ past. is_down past) (λ past. is_down past) scenario (story_of scenario commands) rest.coordinator_up rest.sites_up)

  open_known : (b : Bool) (tid : Tid) → is_open (coord_past (story_of scenario commands)) tid ≡ b → b ≡ true → is_known (standing (protocols scenario) (coord_past (story_of scenario commands)) tid) ≡ true
  open_known b tid e f = ap (λ q. is_known (standing_of q (known_decision (protocols scenario) (coord_past (story_of scenario commands)) tid))) (e ∙ f)

  none_open : (tid : Tid) → In tid (begun_tids (coord_past (story_of scenario commands))) → is_open (coord_past (story_of scenario commands)) tid ≡ false
  none_open tid i = by_open (is_open (coord_past (story_of scenario commands)) tid) refl
    where
      by_open : (b : Bool) → is_open (coord_past (story_of scenario commands)) tid ≡ b → b ≡ false
      by_open false e = refl
      by_open true e =
          absurd (subst (λ ts. In tid ts) rest.none_known
          (rising_in _ tid (in_those (λ t. is_known (standing (protocols scenario) (coord_past (story_of scenario commands)) t)) tid (begun_tids (coord_past (story_of scenario commands))) i (open_known true tid e refl))))

  gives_none_up : give_up (fresh scenario) commands ≡ commands
  gives_none_up = ap (λ xs. for_each (λ tid more. Cmd.Late tid ∷ more) (rising xs) commands) (none_pass (is_open (coord_past (story_of scenario commands))) (begun_tids (coord_past (story_of scenario commands))) none_open)

  clears_none : clear (fresh scenario) commands ≡ commands
  clears_none = each_adds_nothing (clear_site scenario (story_of scenario commands)) (sites scenario) commands
      (λ site. ap (λ tids. for_each (λ (tid : Tid) more. Cmd.Drop site tid ∷ more) (those (λ tid. not (is_local (past_of site (story_of scenario commands)) tid)) tids)
      (for_each (λ (tid : Tid) more. Cmd.Abort tid.tx ∷ more) (those (is_local (past_of site (story_of scenario commands))) tids) commands)) (rest.none_live site))

  ends_none : end_known (fresh scenario) commands ≡ commands
  ends_none = ap (λ tids. for_each (send_again (fresh scenario)) tids commands) rest.none_known

  asks_none : ask_all (fresh scenario) commands ≡ commands
  asks_none = each_adds_nothing (ask_site (fresh scenario) (story_of scenario commands)) (sites scenario) commands
      (λ site. ap (λ tids. for_each (inquire (fresh scenario) site) tids commands) (rest.none_in_doubt site))

  nothing_added : closed scenario commands ≡ commands
  nothing_added =
      ap (λ cs. ask_all (fresh scenario) (end_known (fresh scenario) (clear (fresh scenario) (give_up (fresh scenario) (bring_up (fresh scenario) cs))))) disarms_none
      ∙ (ap (λ cs. ask_all (fresh scenario) (end_known (fresh scenario) (clear (fresh scenario) (give_up (fresh scenario) cs)))) brings_none
      ∙ (ap (λ cs. ask_all (fresh scenario) (end_known (fresh scenario) (clear (fresh scenario) cs))) gives_none_up
      ∙ (ap (λ cs. ask_all (fresh scenario) (end_known (fresh scenario) cs)) clears_none ∙ (ap (λ cs. ask_all (fresh scenario) cs) ends_none ∙ asks_none))))

pub closing_nothing : ClosingAddsNothing
closing_nothing scenario commands rest = nothing_added scenario commands rest

-- ---- lines

-- what may be printed for an answer is that answer but for a cycle
same_bare : (IsOne : List Edge → Type 0) (printed told : Answer) → SameButCycle IsOne printed told → without_cycle printed ≡ without_cycle told
same_bare IsOne (Say.Decides d (Some (For.Cycle edges)) f) (Say.Decides e (Some (For.Cycle others)) g) s = both d e f g s.0 s.1
  where
    both : (d e : Decision) (f g : Bool) → d ≡ e → f ≡ g → Say.Decides d (Some (For.Cycle [])) f ≡ Say.Decides e (Some (For.Cycle [])) g
    both d e f g p q = cc
same_bare IsOne printed told s = ap without_cycle s

may_bare : (protocols : List Participant) (past : CoordPast) (x : CoordHappening) (event : CoordEvent) (answer : Answer) → MayPrint protocols past x event answer → without_cycle answer ≡ without_cycle x.answer
may_bare protocols past x (Ev.Take site message) answer s = same_bare _ answer x.answer s
may_bare protocols past x event answer s = ap without_cycle s

told_answer : Happened → Answer
told_answer (AtSite site x) = x.answer
told_answer (AtCoordinator x) = x.answer
told_answer (Nowhere answer) = answer

is_bare : (protocols : List Participant) (story : Story) (happened : Happened) (answer : Answer) → IsAnswer protocols story happened answer → without_cycle answer ≡ without_cycle (told_answer happened)
unfolding told_answer
is_bare protocols story (AtSite site x) answer s = ap without_cycle s
is_bare protocols story (AtCoordinator x) answer s = may_bare protocols (coord_past story) x x.event answer s
is_bare protocols story (Nowhere told) answer s = ap without_cycle s

-- next lines of one command
next_bare : (scenario : Scenario) (story : Story) (a b : Line) → a.command ≡ b.command → IsNext scenario story a → IsNext scenario story b → bare a ≡ bare b
next_bare scenario story a b same p q =
    let other = subst (λ c. without_cycle b.answer ≡ without_cycle (told_answer (tell scenario story c).happened)) (sym same) (is_bare (protocols scenario) story (tell scenario story b.command).happened b.answer q.answer) in
    let answers : without_cycle a.answer ≡ without_cycle b.answer = is_bare (protocols scenario) story (tell scenario story a.command).happened a.answer p.answer ∙ sym other in
    let sends : a.sends ≡ b.sends = p.sends ∙ (ap (λ c. places_of story (tell scenario story c).happened) same ∙ sym q.sends) in
    parts same answers sends
  where
    parts : a.command ≡ b.command → without_cycle a.answer ≡ without_cycle b.answer → a.sends ≡ b.sends → bare a ≡ bare b
    parts p q r = cc

pub lines_agree : RightLinesAgree
lines_agree scenario [] [] p q e = refl
lines_agree scenario [] (b ∷ ms) p q e = cc
lines_agree scenario (a ∷ ls) [] p q e = cc
lines_agree scenario (a ∷ ls) (b ∷ ms) p q e =
    let first : a.command ≡ b.command = cc in
    let rest : commands_in ls ≡ commands_in ms = cc in
    let one = next_bare scenario (story_told scenario ls) a b first p.1 (subst (λ cs. IsNext scenario (story_of scenario cs) b) (sym rest) q.1) in
    let more = lines_agree scenario ls ms p.0 q.0 rest in
    joined one more
  where
    joined : bare a ≡ bare b → map bare ls ≡ map bare ms → map bare (a ∷ ls) ≡ map bare (b ∷ ms)
    joined p q = cc

-- an answer that refuses nothing for a cycle is told by what it is without one
refused_bare : (a b : Answer) → (RefusesForCycle a → ⊥) → without_cycle a ≡ without_cycle b → a ≡ b
refused_bare (Say.Decides d (Some (For.Cycle edges)) f) b none e = absurd (none tt)
refused_bare a (Say.Decides d (Some (For.Cycle edges)) f) none e =
    absurd (none (subst RefusesForCycle (sym e) tt))
refused_bare a b none e = e

line_one : (a b : Line) → (RefusesForCycle a.answer → ⊥) → bare a ≡ bare b → a ≡ b
line_one a b none e =
    let commands : a.command ≡ b.command = ap (λ (l : Line). l.command) e in
    let answers = refused_bare a.answer b.answer none (ap (λ (l : Line). l.answer) e) in
    let sends : a.sends ≡ b.sends = ap (λ (l : Line). l.sends) e in
    joined a.command b.command a.answer b.answer a.sends b.sends commands answers sends
  where
    made : Command → Answer → List Place → Line
    made c x s = record { command = c; answer = x; sends = s }

    joined : (c d : Command) (x y : Answer) (s t : List Place) → c ≡ d → x ≡ y → s ≡ t → made c x s ≡ made d y t
    joined c d x y s t p q r = cc

bare_one : (ls ms : List Line) → RefuseNone ls → map bare ls ≡ map bare ms → ls ≡ ms
bare_one [] [] none e = refl
bare_one [] (b ∷ ms) none e = cc
bare_one (a ∷ ls) [] none e = cc
bare_one (a ∷ ls) (b ∷ ms) none e =
    let first : bare a ≡ bare b = cc in
    let rest : map bare ls ≡ map bare ms = cc in
    let one = line_one a b none.0 first in
    let more = bare_one ls ms none.1 rest in
    cc

pub lines_one : RightLinesAreOne
lines_one scenario ls ms p q e none = bare_one ls ms none (lines_agree scenario ls ms p q e)

-- ---- lines as they are printed, the first one first

reversed_bare : (ls ms : List Line) → map bare (reverse ls) ≡ map bare (reverse ms) → map bare ls ≡ map bare ms
reversed_bare ls ms e =
    let f = ap reverse (sym (map_reverse bare ls) ∙ (e ∙ map_reverse bare ms)) in
    sym (reverse-reverse (map bare ls)) ∙ (f ∙ reverse-reverse (map bare ms))

pub gives_again : ClosingAddsNothing → RightLinesAgree → CommandsGiveAgain
gives_again closing agree scenario commands lines others rest a b =
    let same = closing scenario commands rest in
    let lines_same =
    reversed_bare lines others (agree scenario (reverse lines) (reverse others) a.right b.right (a.commands_are ∙ (sym same ∙ sym b.commands_are))) in
    record {
      bare_lines = lines_same;
      report = ap (λ cs. report_of scenario (story_of scenario cs)) (sym same);
      whole = λ none. bare_one lines others none lines_same;
    }
