-- Through a session that goes on from the disks that it finds, without transactions, and in which nothing stops.
use Rattle.std.proofs.Common.{◌≡◌, Bool, true, false, cond, Some, List, [], ◌∷◌, ◌++◌, refl, sym, ap, subst, ◌∙◌}
use Rattle.mdb_base.specs.declared.names.Tid.{Tid}
use Rattle.mdb_base.specs.Names.{same_site}
use Rattle.mdb_base.specs.Words.{Each}
use Rattle.mdb_base.proofs.ForCallers.{append_nil, same_site-equal, some_parts}
use Rattle.order_laws.specs.Chains.{In}
use Rattle.presumptions.specs.declared.Decision.{Decision}
use Rattle.order_laws.proofs.ForCallers.{item_at-in}
use Rattle.fed_rules.specs.declared.commands.Command.{Command}
use Rattle.fed_rules.specs.declared.commands.Command.TheVariants as Cmd
use Rattle.fed_rules.specs.declared.events.SiteEvent.{SiteEvent}
use Rattle.fed_rules.specs.declared.events.SiteEvent.TheVariants as Ev
use Rattle.fed_rules.specs.declared.messages.ToSite.{ToSite}
use Rattle.fed_rules.specs.declared.scenario.Scenario.{Scenario}
use Rattle.fed_rules.specs.Scenarios.{home_of, policy, protocols}
use Rattle.fed_rules.specs.Sessions.{Session}
use Rattle.fed_rules.specs.Site.{site_line}
use Rattle.fed_rules.specs.SiteRecords.{Home}
use Rattle.fed_rules.specs.Story.{AtCoordinator, AtSite, Happened, Nowhere, Story, coord_past, happens, past_of, sends_from, sends_to, sent_from, sent_to, story_in, with_coordinator, with_site}
use Rattle.fed_rules.specs.Lines.{IsLine, SiteCause}
use Rattle.fed_rules.proofs.ForCallers.{line_is}
use Rattle.coord_laws.proofs.ForCallers.{CoordSound, coord_lines, coord_made}
use Rattle.commit_laws.proofs.ForCallers.{CoordCame, CoordinatorFits, IsNext, is-declared, linked, member_of, numbered, session_sound}
use Rattle.found_laws.proofs.ForCallers.{IsDecide, IsIdle, begins_nothing, decisions_alone, local_never}
use Rattle.resume_laws.specs.Gentle.{IsGentle}
use Rattle.resume_laws.proofs.Settling.{CoordGoes, Resumes, coord_goes, site_goes}
use Rattle.resume_laws.proofs.SiteGentle.{IsGentleEvent, gentle_line}

-- the invariant in a story
abbrev pub ResumesIn : Scenario → Home → Tid → Decision → Story → Type 0
ResumesIn scenario home g verdict story =
    Resumes (protocols scenario) home g verdict (coord_past story) (past_of home.site story) (sent_to home.site story) (sent_from home.site story)

-- the event of a site
pub record IsQuietly (sent : List ToSite) (event : SiteEvent) : Type 0 where
  pub gentle : IsGentleEvent event
  pub comes : (m : ToSite) → event ≡ Ev.Give m → In m sent

message_in : ToSite → SiteEvent → ToSite
message_in other (Ev.Give message) = message
message_in other event = other

given_quietly : (sent : List ToSite) (message : ToSite) → IsDecide message → In message sent → IsQuietly sent (Ev.Give message)
unfolding message_in
given_quietly sent message decide i = record { gentle = decide; comes = λ m e. subst (λ k. In k sent) (ap (message_in message) e) i }

pub of_cause : (scenario : Scenario) (home : Home) (story : Story) (command : Command) (event : SiteEvent) → IsIdle scenario → IsGentle command
    → ((m : ToSite) → In m (sent_to home.site story) → IsDecide m) → SiteCause scenario home story command event → IsQuietly (sent_to home.site story) event
of_cause scenario home story (Cmd.Begin tx) event idle gentle decides c = local_never scenario tx home idle c.here
of_cause scenario home story (Cmd.Step tx) event idle gentle decides c = local_never scenario tx home idle c.here
of_cause scenario home story (Cmd.Commit tx) event idle gentle decides c = local_never scenario tx home idle c.here
of_cause scenario home story (Cmd.Abort tx) event idle gentle decides c = local_never scenario tx home idle c.here
of_cause scenario home story (Cmd.Fate tx) event idle gentle decides c = local_never scenario tx home idle c.here
of_cause scenario home story (Cmd.Give site place) event idle gentle decides c =
    let i = item_at-in (sent_to home.site story) place c.1.message c.1.at in
    subst (IsQuietly (sent_to home.site story)) (sym c.1.is) (given_quietly (sent_to home.site story) c.1.message (decides c.1.message i) i)
of_cause scenario home story (Cmd.Ask site tid) event idle gentle decides c = subst (IsQuietly (sent_to home.site story)) (sym c.1) (record { gentle = tt; comes = λ m e. cc })
of_cause scenario home story (Cmd.Drop site tid) event idle gentle decides c = subst (IsQuietly (sent_to home.site story)) (sym c.1) (record { gentle = tt; comes = λ m e. cc })
of_cause scenario home story (Cmd.Halt actor cut) event idle gentle decides c = absurd gentle
of_cause scenario home story (Cmd.Trip actor calls cut) event idle gentle decides c = subst (IsQuietly (sent_to home.site story)) (sym c.1) (record { gentle = gentle; comes = λ m e. cc })
of_cause scenario home story (Cmd.Back actor) event idle gentle decides c = subst (IsQuietly (sent_to home.site story)) (sym c.1) (record { gentle = tt; comes = λ m e. cc })
of_cause scenario home story (Cmd.Check actor) event idle gentle decides c = subst (IsQuietly (sent_to home.site story)) (sym c.1) (record { gentle = tt; comes = λ m e. cc })
of_cause scenario home story (Cmd.Go tx) event idle gentle decides c = absurd c
of_cause scenario home story (Cmd.Again tid) event idle gentle decides c = absurd c
of_cause scenario home story (Cmd.Late tid) event idle gentle decides c = absurd c
of_cause scenario home story (Cmd.Take site place) event idle gentle decides c = absurd c

module _ (scenario : Scenario) (idle : IsIdle scenario) (home : Home) (declared : home_of scenario home.site ≡ Some home) (g : Tid) (verdict : Decision) where
  -- whatever happens next at a command that stops nothing
  resumes_next : (story : Story) (command : Command) (happened : Happened) → CoordSound (protocols scenario) (member_of home) g (coord_past story) → IsGentle command
      → IsLine scenario story command happened → IsNext scenario story happened → ResumesIn scenario home g verdict story
      → Resumes (protocols scenario) home g verdict (with_coordinator happened (coord_past story)) (with_site home.site happened (past_of home.site story))
      (sent_to home.site story ++ sends_to home.site happened) (sent_from home.site story ++ sends_from home.site happened)
  resumes_next story command (Nowhere answer) sound gentle line next r =
      subst (λ m. Resumes (protocols scenario) home g verdict (coord_past story) (past_of home.site story) m (sent_from home.site story ++ [])) (sym (append_nil (sent_to home.site story)))
      (subst (λ m. Resumes (protocols scenario) home g verdict (coord_past story) (past_of home.site story) (sent_to home.site story) m) (sym (append_nil (sent_from home.site story))) r)
  resumes_next story command (AtCoordinator x) sound gentle line (event, is, came) r =
      subst (λ m. Resumes (protocols scenario) home g verdict (x ∷ coord_past story) (past_of home.site story) (sent_to home.site story ++ sends_to home.site (AtCoordinator x)) m)
      (sym (append_nil (sent_from home.site story)))
      (coord_goes (protocols scenario) home g verdict (coord_past story) (past_of home.site story) (sent_to home.site story) (sent_from home.site story) event x r
      (subst (CoordGoes (protocols scenario) home g (coord_past story) (sent_from home.site story) event) (sym is) (record {
        turn = record {
          sound = sound;
          line = coord_lines (protocols scenario) (policy scenario) g (coord_past story) event sound.firm;
          numbered = numbered scenario story event came;
        };
        made = coord_made (protocols scenario) (policy scenario) (coord_past story) event;
        quietly = begins_nothing scenario story event idle came;
        sends = decisions_alone (protocols scenario) (policy scenario) (coord_past story) r.nobody event (begins_nothing scenario story event idle came);
        comes = λ m e. subst (CoordCame scenario story) e came;
        protocol = (is-declared scenario home.site home declared).1;
      })))
  resumes_next story command (AtSite at x) sound gentle line next r =
      subst (λ m. Resumes (protocols scenario) home g verdict (coord_past story) (with_site home.site (AtSite at x) (past_of home.site story)) m
      (sent_from home.site story ++ sends_from home.site (AtSite at x))) (sym (append_nil (sent_to home.site story)))
      (by_test (same_site at home.site) refl)
    where
      same_home : same_site at home.site ≡ true → line.home ≡ home
      same_home q = some_parts (sym line.declared ∙ ap (home_of scenario) (sym line.here ∙ same_site-equal at home.site q) ∙ declared)

      here : (own : Home) → own ≡ home → x ≡ site_line own (past_of own.site story) line.event → SiteCause scenario own story command line.event
          → Resumes (protocols scenario) home g verdict (coord_past story) (x ∷ past_of home.site story) (sent_to home.site story) (sent_from home.site story ++ x.sends)
      here own same is cause =
          let q = of_cause scenario home story command line.event idle gentle r.decides (subst (λ h. SiteCause scenario h story command line.event) same cause) in
          let mine : x ≡ site_line home (past_of home.site story) line.event = is ∙ ap (λ (h : Home). site_line h (past_of h.site story) line.event) same in
          subst (λ y. Resumes (protocols scenario) home g verdict (coord_past story) (y ∷ past_of home.site story) (sent_to home.site story) (sent_from home.site story ++ y.sends)) (sym mine)
          (site_goes (protocols scenario) home g verdict (coord_past story) (past_of home.site story) (sent_to home.site story) (sent_from home.site story) line.event
          (site_line home (past_of home.site story) line.event) r (gentle_line home (past_of home.site story) line.event r.untripped q.gentle) q.comes)

      by_test : (b : Bool) → same_site at home.site ≡ b
          → Resumes (protocols scenario) home g verdict (coord_past story) (cond b (x ∷ past_of home.site story) (past_of home.site story)) (sent_to home.site story)
          (sent_from home.site story ++ cond b x.sends [])
      by_test false q =
          subst (λ m. Resumes (protocols scenario) home g verdict (coord_past story) (past_of home.site story) (sent_to home.site story) m) (sym (append_nil (sent_from home.site story))) r
      by_test true q = here line.home (same_home q) line.is_next line.cause

-- so behind all such commands
pub resumes_on : (session : Session) → CoordinatorFits session → IsIdle session.plan → (home : Home) → home_of session.plan home.site ≡ Some home → (g : Tid) (verdict : Decision)
    → ResumesIn session.plan home g verdict (story_in session []) → (commands : List Command) → Each IsGentle commands
    → ResumesIn session.plan home g verdict (story_in session commands)
resumes_on session fits idle home declared g verdict first [] h = first
resumes_on session fits idle home declared g verdict first (command ∷ commands) h =
    resumes_next session.plan idle home declared g verdict (story_in session commands) command (happens session.plan (story_in session commands) command)
    (session_sound session fits (member_of home) g commands) h.0 (line_is session.plan (story_in session commands) command)
    (linked session.plan (story_in session commands) command).next (resumes_on session fits idle home declared g verdict first commands h.1)
