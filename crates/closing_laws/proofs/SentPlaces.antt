-- How many messages a line of closing sends: of a site one, and of the coordinator at most one for each declared site, or one as an answer.
use Rattle.std.proofs.Common.{◌≡◌, ◌⊎◌, ℕ, suc, ◌+◌, ◌≤◌, Bool, true, false, nat_le, Option, Some, None, List, [], ◌∷◌, map, length, inl, inr, refl, sym, ap, subst, ◌∙◌, arith}
use Rattle.mdb_base.specs.declared.names.SiteId.{SiteId}
use Rattle.mdb_base.specs.declared.names.Tid.{Tid}
use Rattle.mdb_base.specs.Words.{given, when}
use Rattle.mdb_base.proofs.ForCallers.{length_those}
use Rattle.presumptions.specs.declared.Participant.{Participant}
use Rattle.fed_rules.specs.declared.answers.Answer.TheVariants as Say
use Rattle.fed_rules.specs.declared.commands.Command.{Command}
use Rattle.fed_rules.specs.declared.commands.Command.TheVariants as Cmd
use Rattle.fed_rules.specs.declared.commands.Place.{Place}
use Rattle.fed_rules.specs.declared.events.CoordEvent.{CoordEvent}
use Rattle.fed_rules.specs.declared.events.CoordEvent.TheVariants as Coord_event
use Rattle.fed_rules.specs.declared.events.SiteEvent.TheVariants as Site_event
use Rattle.fed_rules.specs.declared.messages.FromSite.{FromSite}
use Rattle.fed_rules.specs.declared.messages.FromSite.TheVariants as From
use Rattle.fed_rules.specs.declared.messages.Sent.{Sent}
use Rattle.fed_rules.specs.declared.records.SiteRecord.{SiteRecord}
use Rattle.fed_rules.specs.Closing.{last_sends, take_answers}
use Rattle.fed_rules.specs.Coord.{coord_line}
use Rattle.fed_rules.specs.CoordPast as Coordinator
use Rattle.fed_rules.specs.CoordRecords.{named}
use Rattle.fed_rules.specs.Disk.{Disk}
use Rattle.fed_rules.specs.Happenings.{Trip, is_down, quiet, stopped, tripped}
use Rattle.fed_rules.specs.Scenarios.{policy, protocols}
use Rattle.fed_rules.specs.Sessions.{Session}
use Rattle.fed_rules.specs.Site.{answered, of_ask, site_line}
use Rattle.fed_rules.specs.SitePast.{SiteHappening, SitePast, disk, records, trip}
use Rattle.fed_rules.specs.SiteRecords.{Held, Home, doubt_of, site_frame}
use Rattle.fed_rules.specs.Story.{Story, Happened, AtSite, AtCoordinator, Nowhere, coord_past, happens, past_of, place_from, places_of, sent_from, sent_to, story_in}
use Rattle.fed_rules.specs.Lines.{CoordCause, IsLine}
use Rattle.fed_rules.proofs.ForCallers.{line_is}
use Rattle.commit_laws.proofs.ForCallers.{CoordinatorFits, session_sound}
use Rattle.coord_laws.proofs.ForCallers.{any_member}
use Rattle.closing_laws.proofs.CoordTurns.{takes_there}
use Rattle.closing_laws.proofs.Delivered.{sent_behind}
use Rattle.closing_laws.proofs.FewSends.{SendsFew, agains_few, inquiries_few}

-- what a line of a site sends
place_few : (site : SiteId) (sent : ℕ) (messages : List FromSite) → length (place_from site sent messages) ≤ 1
place_few site sent [] = omega arith
place_few site sent (message ∷ messages) = omega arith

site_places : (session : Session) (commands : List Command) (command : Command)
    → ((x : CoordEvent) → CoordCause session.plan (story_in session commands) command x → ⊥) → length (last_sends session (command ∷ commands)) ≤ 1
site_places session commands command none = by_line (happens session.plan story command) (line_is session.plan story command)
  where
    story : Story
    story = story_in session commands

    by_line : (happened : Happened) → IsLine session.plan story command happened → length (places_of story happened) ≤ 1
    by_line (Nowhere answer) line = omega arith
    by_line (AtSite site x) line = place_few site (length (sent_from site story)) x.sends
    by_line (AtCoordinator x) line = absurd (none line.event line.cause)

pub give_places : (session : Session) (commands : List Command) (place : Place) → length (last_sends session (Cmd.Give place.site place.place ∷ commands)) ≤ 1
give_places session commands place = site_places session commands (Cmd.Give place.site place.place) (λ x c. c)

pub ask_places : (session : Session) (commands : List Command) (site : SiteId) (tid : Tid) → length (last_sends session (Cmd.Ask site tid ∷ commands)) ≤ 1
ask_places session commands site tid = site_places session commands (Cmd.Ask site tid) (λ x c. c)

abbrev place_of : Story → Sent → Place
place_of story sent = record { site = sent.site; place = length (sent_to sent.site story) }

coord_places : (story : Story) (sends : List Sent) → length (map (place_of story) sends) ≡ length sends
coord_places story [] = refl
coord_places story (sent ∷ sends) = ap suc (coord_places story sends)

-- a site that asks sends its inquiry, or nothing
record MayAsk (tid : Tid) (x : SiteHappening) : Type 0 where
  sends : (x.sends ≡ []) ⊎ (x.sends ≡ From.Inquiry tid ∷ [])

asks_when : (tid : Tid) (b : Bool) (x y : SiteHappening) → MayAsk tid x → MayAsk tid y → MayAsk tid (when b x y)
unfolding when
asks_when tid true x y p q = p
asks_when tid false x y p q = q

asks_tripped : (tid : Tid) (d : Disk SiteRecord) (t : Option Trip) (x : SiteHappening) → MayAsk tid x → MayAsk tid (tripped site_frame d t x)
unfolding tripped stopped
asks_tripped tid d None x p = p
asks_tripped tid d (Some t) x p = asks_when tid (nat_le t.calls (length x.calls)) _ _ (record { sends = inl refl }) p

asks_doubt : (home : Home) (past : SitePast) (tid : Tid) → MayAsk tid (of_ask home past tid)
unfolding of_ask given
asks_doubt home past tid = by_doubt (doubt_of (records home past) tid)
  where
    by_doubt : (o : Option Held)
        → MayAsk tid (given o (λ held. record { event = Site_event.Ask tid; answer = Say.Asks tid; sends = From.Inquiry tid ∷ []; calls = []; lines = [] }) (quiet (Site_event.Ask tid) Say.Idle))
    by_doubt None = record { sends = inl refl }
    by_doubt (Some held) = record { sends = inr refl }

asks : (home : Home) (past : SitePast) (tid : Tid) → MayAsk tid (site_line home past (Site_event.Ask tid))
unfolding site_line answered
asks home past tid = asks_when tid (is_down past) _ _ (record { sends = inl refl }) (asks_tripped tid (disk home past) (trip past) (of_ask home past tid) (asks_doubt home past tid))

-- so the line that takes what a site just sent when it asked sends one message at most
pub answer_places : (session : Session) (commands : List Command) (site : SiteId) (tid : Tid) (place : Place)
    → last_sends session (Cmd.Ask site tid ∷ commands) ≡ place ∷ [] → length (last_sends session (Cmd.Take place.site place.place ∷ Cmd.Ask site tid ∷ commands)) ≤ 1
answer_places session commands site tid place only = by_line (happens session.plan story (Cmd.Ask site tid)) refl (line_is session.plan story (Cmd.Ask site tid)) only
  where
    story : Story
    story = story_in session commands

    now : Happened → Story
    now happened = record { command = Cmd.Ask site tid; happened = happened } ∷ story

    taken_at : Happened → Place → List Place
    taken_at happened at = places_of (now happened) (happens session.plan (now happened) (Cmd.Take at.site at.place))

    answered_at : (s : SiteId) (x : SiteHappening) → x.sends ≡ From.Inquiry tid ∷ [] → length (taken_at (AtSite s x) (record { site = s; place = length (sent_from s story) })) ≤ 1
    answered_at s x e =
        let there = sent_behind story (Cmd.Ask site tid) s x (From.Inquiry tid) e in
        let told = takes_there session.plan (now (AtSite s x)) s (length (sent_from s story)) (From.Inquiry tid) there in
        let line = coord_line (protocols session.plan) (policy session.plan) (coord_past (now (AtSite s x))) (Coord_event.Take s (From.Inquiry tid)) in
        let few = (inquiries_few (protocols session.plan) (coord_past (now (AtSite s x))) s tid (policy session.plan)).few in
        let same = coord_places (now (AtSite s x)) line.sends in
        subst (λ h. length (places_of (now (AtSite s x)) h) ≤ 1) (sym told) (omega (arith, few, same))

    by_line : (happened : Happened) → happens session.plan story (Cmd.Ask site tid) ≡ happened → IsLine session.plan story (Cmd.Ask site tid) happened → places_of story happened ≡ place ∷ []
        → length (last_sends session (Cmd.Take place.site place.place ∷ Cmd.Ask site tid ∷ commands)) ≤ 1
    by_line (Nowhere answer) told line at = cc
    by_line (AtCoordinator x) told line at = absurd line.cause
    by_line (AtSite s x) told line at =
        let own = subst (MayAsk tid) (sym (line.is_next ∙ ap (site_line line.home (past_of line.home.site story)) line.cause.1)) (asks line.home (past_of line.home.site story) tid) in
        elim own.sends [
          | inl none ↦ (let clash = sym (ap (place_from s (length (sent_from s story))) none) ∙ at in cc)
          | inr inquiry ↦
              let here : record { site = s; place = length (sent_from s story) } ≡ place = (let same = sym (ap (place_from s (length (sent_from s story))) inquiry) ∙ at in cc) in
              subst (λ h. length (taken_at h place) ≤ 1) (sym told) (subst (λ p. length (taken_at (AtSite s x) p) ≤ 1) here (answered_at s x inquiry))
        ]

pub again_places : (session : Session) → CoordinatorFits session → (commands : List Command) (tid : Tid) → length (last_sends session (Cmd.Again tid ∷ commands)) ≤ length (protocols session.plan)
again_places session fits commands tid = by_line (happens session.plan story (Cmd.Again tid)) (line_is session.plan story (Cmd.Again tid))
  where
    story : Story
    story = story_in session commands

    names : (ms : List Participant) → named (protocols session.plan) (Coordinator.records (coord_past story)) tid ≡ Some ms → length ms ≤ length (protocols session.plan)
    names ms e =
        let s = (session_sound session fits any_member tid commands).names ms e in
        subst (λ ks. length ks ≤ length (protocols session.plan)) (sym s.1) (length_those _ (protocols session.plan))

    by_line : (happened : Happened) → IsLine session.plan story (Cmd.Again tid) happened → length (places_of story happened) ≤ length (protocols session.plan)
    by_line (Nowhere answer) line = omega arith
    by_line (AtSite s x) line = absurd line.cause
    by_line (AtCoordinator x) line =
        let is : x ≡ coord_line (protocols session.plan) (policy session.plan) (coord_past story) (Coord_event.Again tid) =
        line.is_next ∙ ap (coord_line (protocols session.plan) (policy session.plan) (coord_past story)) line.cause in
        let few = (subst (SendsFew (length (protocols session.plan))) (sym is) (agains_few (protocols session.plan) (coord_past story) tid (policy session.plan) names)).few in
        let same = coord_places story x.sends in omega (arith, few, same)

pub taken_many : (places : List Place) (commands : List Command) → length (take_answers places commands) ≡ length places + length commands
taken_many [] commands = omega arith
taken_many (place ∷ places) commands = let rest = taken_many places (Cmd.Take place.site place.place ∷ commands) in omega (arith, rest)
