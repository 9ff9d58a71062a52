-- Where nothing lives at a site, nothing lives there behind a line of a session without transactions, stops included.
use Rattle.std.proofs.Common.{◌≡◌, ◌||◌, ◌++◌, nat_le, Bool, true, false, cond, Option, Some, None, List, [], ◌∷◌, length, take, refl, ap, ◌∙◌}
use Rattle.mdb_base.specs.declared.names.Tid.{Tid}
use Rattle.mdb_base.specs.Words.{Each, when}
use Rattle.fed_rules.specs.declared.answers.Answer.TheVariants as Say
use Rattle.fed_rules.specs.declared.events.SiteEvent.{SiteEvent}
use Rattle.fed_rules.specs.declared.events.SiteEvent.TheVariants as Ev
use Rattle.fed_rules.specs.declared.messages.ToSite.TheVariants as To
use Rattle.fed_rules.specs.declared.records.SiteRecord.{SiteRecord}
use Rattle.fed_rules.specs.Disk.{Append, Stops, Sync, TrimFront}
use Rattle.fed_rules.specs.Found.{Journal}
use Rattle.fed_rules.specs.Happenings.{Trip, comes_up, is_down, quiet, stopped, stops, tripped}
use Rattle.fed_rules.specs.Reopened.{opened_site}
use Rattle.fed_rules.specs.Runs.{run_at}
use Rattle.fed_rules.specs.Site.{answered, checkpoint, of_ask, of_back, of_check, of_decide, of_drop, of_give, site_line, site_past_on}
use Rattle.fed_rules.specs.SitePast.{SiteHappening, SitePast, disk, engine_lines, epoch_start, live, live_one, records, trip}
use Rattle.fed_rules.specs.SiteRecords.{Home, site_frame, start_of}
use Rattle.commit_laws.proofs.ForCallers.{restored-sealed}
use Rattle.federation_laws.proofs.ForCallers.{live-next}
use Rattle.closing_laws.proofs.ForCallers.{ask_mild, decide_mild, drop_mild}
use Rattle.found_laws.specs.Resuming.{IsResuming}

-- nothing lives
abbrev pub NobodyLives : Home → SitePast → Type 0
NobodyLives home here = (tid : Tid) → live home here tid ≡ None

-- a line without engine lines
silent_line : (home : Home) (here : SitePast) (x : SiteHappening) → x.lines ≡ [] → NobodyLives home here → NobodyLives home (x ∷ here)
silent_line home here x none lives tid = by_test (stops x.answer || comes_up x.answer) refl
  where
    by_test : (b : Bool) → (stops x.answer || comes_up x.answer) ≡ b → live home (x ∷ here) tid ≡ None
    by_test false e = live-next home here x tid e ∙ ap (λ ls. live_one (run_at (epoch_start home here) (ls ++ engine_lines here) tid)) none ∙ lives tid
    by_test true e =
        ap (λ t. live_one (run_at (cond t (start_of home (records home (x ∷ here))) (epoch_start home here)) (cond t [] (x.lines ++ engine_lines here)) tid)) e
        ∙ restored-sealed _ tid

lives_when : (home : Home) (here : SitePast) (b : Bool) (x y : SiteHappening) → NobodyLives home (x ∷ here) → NobodyLives home (y ∷ here) → NobodyLives home (when b x y ∷ here)
unfolding when
lives_when home here true x y p q = p
lives_when home here false x y p q = q

lives_tripped : (home : Home) (here : SitePast) (t : Option Trip) (y : SiteHappening) → NobodyLives home here → NobodyLives home (y ∷ here)
    → NobodyLives home (tripped site_frame (disk home here) t y ∷ here)
unfolding tripped stopped
lives_tripped home here None y lives p = p
lives_tripped home here (Some t) y lives p =
    lives_when home here (nat_le t.calls (length y.calls)) _ y
    (silent_line home here (stopped site_frame (disk home here) y.event (take t.calls y.calls ++ Stops t.cut ∷ [])) refl lives) p

while_up : (home : Home) (here : SitePast) (event : SiteEvent) (y : SiteHappening) → NobodyLives home here → NobodyLives home (y ∷ here)
    → NobodyLives home (when (is_down here) (quiet event Say.Down) (tripped site_frame (disk home here) (trip here) y) ∷ here)
while_up home here event y lives p =
    lives_when home here (is_down here) _ _ (silent_line home here (quiet event Say.Down) refl lives) (lives_tripped home here (trip here) y lives p)

pub still_lifeless : (home : Home) (here : SitePast) (event : SiteEvent) → IsResuming event → NobodyLives home here → NobodyLives home (site_line home here event ∷ here)
unfolding site_line answered of_give of_back of_check stopped
still_lifeless home here (Ev.Give (To.Decide tid decision)) i lives =
    while_up home here (Ev.Give (To.Decide tid decision)) (of_decide home here tid decision) lives (λ t. (decide_mild home here tid decision).quiets t (lives t))
still_lifeless home here (Ev.Give (To.Work tid e n act)) i lives = absurd i
still_lifeless home here (Ev.Give (To.Take tid e n)) i lives = absurd i
still_lifeless home here (Ev.Give (To.Prepare tid e n)) i lives = absurd i
still_lifeless home here (Ev.Trip calls cut) i lives = silent_line home here (quiet (Ev.Trip calls cut) Say.Set) refl lives
still_lifeless home here (Ev.Ask tid) i lives = while_up home here (Ev.Ask tid) (of_ask home here tid) lives (λ t. (ask_mild home here tid).quiets t (lives t))
still_lifeless home here (Ev.Drop tid) i lives = while_up home here (Ev.Drop tid) (of_drop home here tid) lives (λ t. (drop_mild home here tid).quiets t (lives t))
still_lifeless home here Ev.Back i lives =
    lives_when home here (is_down here) _ _ (lives_tripped home here (trip here) (of_back home here) lives (silent_line home here (of_back home here) refl lives))
    (silent_line home here (quiet Ev.Back Say.Awake) refl lives)
still_lifeless home here Ev.Check i lives =
    while_up home here Ev.Check (of_check home here) lives
    (lives_when home here _ _ _ (silent_line home here (quiet Ev.Check Say.Large) refl lives)
    (silent_line home here (record { event = Ev.Check; answer = Say.Checked; sends = []; calls = Append (checkpoint home here) ∷ Sync ∷ TrimFront ∷ []; lines = [] }) refl lives))
still_lifeless home here (Ev.Halt cut) i lives =
    lives_when home here (is_down here) _ _ (silent_line home here (quiet (Ev.Halt cut) Say.Down) refl lives)
    (silent_line home here (stopped site_frame (disk home here) (Ev.Halt cut) (Stops cut ∷ [])) refl lives)
still_lifeless home here (Ev.Begin tid) i lives = absurd i
still_lifeless home here (Ev.Act tid act) i lives = absurd i
still_lifeless home here (Ev.Commit tid) i lives = absurd i
still_lifeless home here (Ev.Abort tid) i lives = absurd i
still_lifeless home here (Ev.Fate tx) i lives = absurd i

-- so nothing lives behind such events where a journal was found
pub lifeless_on : (home : Home) (journal : Journal SiteRecord) (events : List SiteEvent) → Each IsResuming events → NobodyLives home (site_past_on home (opened_site journal) events)
lifeless_on home journal [] i = λ tid. restored-sealed _ tid
lifeless_on home journal (event ∷ events) i = still_lifeless home (site_past_on home (opened_site journal) events) event i.0 (lifeless_on home journal events i.1)
