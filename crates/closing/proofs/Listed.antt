-- The lists of a site's core, told by their members and their order, are those that closing names.
use Rattle.std.proofs.Common.{◌≡◌, ◌⊎◌, Bool, true, false, cond, not, is_some, Option, Some, None, List, [], ◌∷◌, map, inl, inr, refl, sym, ◌∙◌, ap, subst}
use Rattle.mdb_base.specs.declared.names.SiteId.{SiteId}
use Rattle.mdb_base.specs.declared.names.Tid.{Tid}
use Rattle.mdb_base.specs.Names.{tid_before}
use Rattle.mdb_base.specs.Words.{Each, found, inserted, those, with_some}
use Rattle.order_laws.specs.Chains.{Distinct, In}
use Rattle.order_laws.proofs.ForCallers.{before_irreflexive, inserted_first}
use Rattle.fed_rules.specs.declared.commands.Command.{Command}
use Rattle.fed_rules.specs.declared.records.SiteRecord.{SiteRecord}
use Rattle.fed_rules.specs.declared.runs.Kept.{Kept}
use Rattle.fed_rules.specs.declared.scenario.Scenario.{Scenario}
use Rattle.fed_rules.specs.Closing.{live_at, rising}
use Rattle.fed_rules.specs.EngineLines.{IsRight}
use Rattle.fed_rules.specs.Runs.{EngineLine, Run, Start, attempts, is_sealed, restored_at, run_at}
use Rattle.fed_rules.specs.Found.{Found}
use Rattle.fed_rules.specs.Resumed.{going_on, plan_of}
use Rattle.fed_rules.specs.Scenarios.{home_of}
use Rattle.fed_rules.specs.Sessions.{Session}
use Rattle.fed_rules.specs.SitePast.{SitePast, engine_lines, epoch_start, live, live_one}
use Rattle.fed_rules.specs.SiteRecords.{Home, Held, doubt_of, doubts, kept_held, start_of}
use Rattle.fed_rules.specs.Story.{past_of, story_in, story_of}
use Rattle.engine_laws.proofs.ForCallers.{attempts_have, once_doubts, tid_is}
use Rattle.fed_rules.proofs.ForCallers.{home-again, rising_one}
use Rattle.site_history.specs.Stories.{StoriesHaveRightLines}
use Rattle.site_history.proofs.ForCallers.{restored_doubt, restored_held}
use Rattle.site_book.specs.Listing.{AreRising, Lists}
use Rattle.closing_laws.specs.Runs.{SitesBeginOnce}
use Rattle.closing_laws.proofs.ForCallers.{none_live_at, once_distinct, restored_some}
use Rattle.found_laws.specs.FoundSessions.{AreUsable}
use Rattle.resume_laws.proofs.ForCallers.{lives_on}
use Rattle.fed_world.specs.Beginnings.{Begins}

-- none of a rising list stands behind itself
not_behind : (t : Tid) (tids : List Tid) → Each (λ later. tid_before t later ≡ true) tids → In t tids → ⊥
not_behind t [] h i = i
not_behind t (u ∷ tids) h (inl e) = before_irreflexive t (subst (λ v. tid_before t v ≡ true) e h.0)
not_behind t (u ∷ tids) h (inr i) = not_behind t tids h.1 i

rises_distinct : (tids : List Tid) → AreRising tids → Distinct tids
rises_distinct [] h = tt
rises_distinct (t ∷ tids) h = (not_behind t tids h.0, rises_distinct tids h.1)

rises_same : (tids : List Tid) → AreRising tids → rising tids ≡ tids
rises_same [] h = refl
rises_same (t ∷ tids) h = ap (inserted tid_before t) (rises_same tids h.1) ∙ inserted_first t tids h.0

-- a list told by its members, which rises, is that of the members by rising attempt
pub listed_is : (test : Tid → Bool) (tids xs : List Tid) → Lists test tids → Distinct xs → ((t : Tid) → In t xs → test t ≡ true) → ((t : Tid) → test t ≡ true → In t xs) → tids ≡ rising xs
listed_is test tids xs l once to back =
    sym (rises_same tids l.rising) ∙ rising_one tids xs (rises_distinct tids l.rising) once (λ t i. back t ((l.members t).0 i)) (λ t i. (l.members t).1 (to t i))

-- the unsealed runs that are found of these attempts
module _ (look : Tid → Option Run) (named : (t : Tid) (run : Run) → look t ≡ Some run → run.tid ≡ t) where
  abbrev unsealed_tids : List Tid → List Tid
  unsealed_tids ts = map (λ (run : Run). run.tid) (those (λ run. not (is_sealed run)) (found look ts))

  abbrev with_live : Option Run → Tid → List Tid → List Tid
  with_live None t rest = rest
  with_live (Some run) t rest = t ∷ rest

  -- of one more attempt
  one_more : (t : Tid) (ts : List Tid) → unsealed_tids (t ∷ ts) ≡ with_live (live_one (look t)) t (unsealed_tids ts)
  one_more t ts = by_run (look t) refl
    where
      by_sealed : (run : Run) → run.tid ≡ t → (b : Bool) → map (λ (run : Run). run.tid) (cond (not b) (run ∷ those (λ run. not (is_sealed run)) (found look ts)) (those (λ run. not (is_sealed run)) (found look ts)))
          ≡ with_live (cond b None (Some run)) t (unsealed_tids ts)
      by_sealed run same true = refl
      by_sealed run same false = ap (λ u. u ∷ unsealed_tids ts) same

      by_run : (o : Option Run) → look t ≡ o → map (λ (run : Run). run.tid) (those (λ run. not (is_sealed run)) (with_some o (found look ts))) ≡ with_live (live_one o) t (unsealed_tids ts)
      by_run None e = refl
      by_run (Some run) e = by_sealed run (named t run e) (is_sealed run)

  -- each has a live run, and is one of them
  unsealed_live : (ts : List Tid) (t : Tid) → In t (unsealed_tids ts) → In t ts × (is_some (live_one (look t)) ≡ true)
  unsealed_live [] t i = absurd i
  unsealed_live (u ∷ ts) t i = by_live (live_one (look u)) refl (subst (In t) (one_more u ts) i) (unsealed_live ts t)
    where
      by_live : (o : Option Run) → live_one (look u) ≡ o → In t (with_live o u (unsealed_tids ts)) → (In t (unsealed_tids ts) → In t ts × (is_some (live_one (look t)) ≡ true)) → In t (u ∷ ts) × (is_some (live_one (look t)) ≡ true)
      by_live None e i rest = (inr (rest i).0, (rest i).1)
      by_live (Some run) e (inl same) rest = (inl same, subst (λ v. is_some (live_one (look v)) ≡ true) same (ap is_some e))
      by_live (Some run) e (inr j) rest = (inr (rest j).0, (rest j).1)

  live_unsealed : (ts : List Tid) (t : Tid) → In t ts → is_some (live_one (look t)) ≡ true → In t (unsealed_tids ts)
  live_unsealed [] t i e = absurd i
  live_unsealed (u ∷ ts) t i e = subst (In t) (sym (one_more u ts)) (by_live (live_one (look u)) refl i (λ j. live_unsealed ts t j e))
    where
      by_live : (o : Option Run) → live_one (look u) ≡ o → (u ≡ t) ⊎ In t ts → (In t ts → In t (unsealed_tids ts)) → In t (with_live o u (unsealed_tids ts))
      by_live None q (inl same) rest = (let none : is_some (live_one (look t)) ≡ false = subst (λ v. is_some (live_one (look v)) ≡ false) same (ap is_some q) in let clash : true ≡ false = sym e ∙ none in cc)
      by_live None q (inr j) rest = rest j
      by_live (Some run) q (inl same) rest = inl same
      by_live (Some run) q (inr j) rest = inr (rest j)

  unsealed_once : (ts : List Tid) → Distinct ts → Distinct (unsealed_tids ts)
  unsealed_once [] d = tt
  unsealed_once (t ∷ ts) d = subst Distinct (sym (one_more t ts)) (by_live (live_one (look t)) (unsealed_once ts d.1))
    where
      by_live : (o : Option Run) → Distinct (unsealed_tids ts) → Distinct (with_live o t (unsealed_tids ts))
      by_live None rest = rest
      by_live (Some run) rest = (λ i. d.0 (unsealed_live ts t i).0, rest)

-- what is live at a declared site
pub live_listed : StoriesHaveRightLines → SitesBeginOnce → (scenario : Scenario) (commands : List Command) (site : SiteId) (home : Home) → home_of scenario site ≡ Some home
    → (tids : List Tid) → Lists (λ tid. is_some (live home (past_of home.site (story_of scenario commands)) tid)) tids → tids ≡ live_at (Some home) (story_of scenario commands)
live_listed rights once scenario commands site home declared tids l =
    listed_is (λ tid. is_some (live home past tid)) tids (unsealed_tids look (tid_is start lines right) begun) l
    (unsealed_once look (tid_is start lines right) begun (once scenario commands site home declared))
    (λ t i. (unsealed_live look (tid_is start lines right) begun t i).1)
    (λ t e. live_unsealed look (tid_is start lines right) begun t (has t e) e)
  where
    past : SitePast
    past = past_of home.site (story_of scenario commands)

    start : Start
    start = epoch_start home past

    lines : List EngineLine
    lines = engine_lines past

    right : IsRight start lines
    right = (rights scenario commands site home declared).right

    look : Tid → Option Run
    look = run_at start lines

    begun : List Tid
    begun = attempts start lines

    has : (t : Tid) → is_some (live_one (look t)) ≡ true → In t begun
    has t e = by_run (look t) refl e
      where
        by_run : (o : Option Run) → look t ≡ o → is_some (live_one o) ≡ true → In t begun
        by_run None q e = cc
        by_run (Some run) q e = attempts_have start lines right t run q

-- where nothing is live none is listed
none_listed : (test : Tid → Bool) (tids : List Tid) → Lists test tids → ((t : Tid) → test t ≡ false) → tids ≡ []
none_listed test [] l none = refl
none_listed test (t ∷ tids) l none = (let yes : test t ≡ true = (l.members t).0 (inl refl) in let no = none t in cc)

-- what is live at a declared site of a session that a world stands for
abbrev ListsLive : Session → Type 0
ListsLive session = (commands : List Command) (site : SiteId) (home : Home) → home_of session.plan site ≡ Some home
    → (tids : List Tid) → Lists (λ tid. is_some (live home (past_of home.site (story_in session commands)) tid)) tids → tids ≡ live_at (Some home) (story_in session commands)

-- where the session goes on from disks, nothing
found_live : (found : Found) → AreUsable found → ListsLive (going_on found)
found_live found usable commands site home declared tids l =
    let none = lives_on found usable commands home (home-again (plan_of found) site home declared) in
    none_listed _ tids l (λ tid. ap is_some (none tid)) ∙ sym (none_live_at home (story_in (going_on found) commands) none)

pub lives_in : StoriesHaveRightLines → SitesBeginOnce → (session : Session) → Begins session → ListsLive session
lives_in rights once session (inl e) = subst ListsLive (sym e) (live_listed rights once session.plan)
lives_in rights once session (inr goes) = subst ListsLive (sym goes.is) (found_live session.found goes.usable)

held_tids : (hs : List Held) → map (λ (k : Kept). k.tid) (map kept_held hs) ≡ map (λ (h : Held). h.tid) hs
held_tids [] = refl
held_tids (h ∷ hs) = ap (λ ts. h.tid ∷ ts) (held_tids hs)

held_some : (o : Option Held) → is_some (restored_held o) ≡ is_some o
held_some None = refl
held_some (Some h) = refl

-- what a site is in doubt of
pub doubts_listed : (home : Home) (rs : List SiteRecord) (tids : List Tid) → Lists (λ tid. is_some (doubt_of rs tid)) tids → tids ≡ rising (map (λ (held : Held). held.tid) (doubts rs))
doubts_listed home rs tids l =
    listed_is (λ tid. is_some (doubt_of rs tid)) tids (map (λ (h : Held). h.tid) (doubts rs)) l
    (subst Distinct (held_tids (doubts rs)) (once_distinct (map kept_held (doubts rs)) (once_doubts rs)))
    (λ t i. in_doubt t ∙ restored_some (map kept_held (doubts rs)) t (subst (In t) (sym (held_tids (doubts rs))) i))
    (λ t e. subst (In t) (held_tids (doubts rs)) (has t (sym (in_doubt t) ∙ e)))
  where
    in_doubt : (t : Tid) → is_some (doubt_of rs t) ≡ is_some (restored_at (map kept_held (doubts rs)) t)
    in_doubt t = sym (ap is_some (restored_doubt rs t) ∙ held_some (doubt_of rs t))

    has : (t : Tid) → is_some (restored_at (map kept_held (doubts rs)) t) ≡ true → In t (map (λ (k : Kept). k.tid) (map kept_held (doubts rs)))
    has t e = by_run (restored_at (map kept_held (doubts rs)) t) refl e
      where
        by_run : (o : Option Run) → restored_at (map kept_held (doubts rs)) t ≡ o → is_some o ≡ true → In t (map (λ (k : Kept). k.tid) (map kept_held (doubts rs)))
        by_run None q e = cc
        by_run (Some run) q e = attempts_have (start_of home rs) [] tt t run q
