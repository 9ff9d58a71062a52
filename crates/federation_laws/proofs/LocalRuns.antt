-- A local attempt follows its program: at each line of its live run, and from its commit on.
use Rattle.std.proofs.Common.{◌≡◌, ℕ, suc, ◌+◌, ◌≤◌, Bool, true, false, cond, ◌||◌, nat_lt, Option, Some, None, List, [], ◌∷◌, ◌++◌, length, map, refl, sym, ap, subst, ◌∙◌, arith, ltb-false}
use Rattle.mdb_base.specs.declared.acts.PlainAct.{PlainAct}
use Rattle.mdb_base.specs.declared.acts.Step.{Step}
use Rattle.mdb_base.specs.declared.names.SiteId.{SiteId}
use Rattle.mdb_base.specs.declared.names.Tid.{Tid}
use Rattle.mdb_base.specs.declared.names.Tx.{Tx}
use Rattle.mdb_base.specs.Names.{same_site}
use Rattle.mdb_base.specs.Programs.{plain_act}
use Rattle.mdb_base.specs.Words.{some_of, with_some, found, item_at}
use Rattle.mdb_base.proofs.ForCallers.{length-map, same_site-refl, some_parts}
use Rattle.fed_rules.specs.declared.events.SiteEvent.{SiteEvent}
use Rattle.fed_rules.specs.declared.events.SiteEvent.TheVariants as Ev
use Rattle.fed_rules.specs.CoordPast.{oldest_first}
use Rattle.fed_rules.specs.Orders.{read_by, local_reads}
use Rattle.fed_rules.specs.Runs.{Access, Run, begun, has_ticket}
use Rattle.fed_rules.specs.Site.{done}
use Rattle.fed_rules.specs.SitePast.{SiteHappening, SitePast, live, begins_tx, attempts_of}
use Rattle.fed_rules.specs.SiteRecords.{Home}
use Rattle.fed_rules.specs.Story.{value_of, run_reads}
use Rattle.site_history.specs.Accesses.{acts_of, acts_at, seals}
use Rattle.federation_laws.specs.Accesses.{SiteAccess, at, reads_in, IsStep, Follows, Ran}
use Rattle.federation_laws.proofs.Agreement.{has_sealed}
use Rattle.federation_laws.proofs.Globals.{follows-below}
use Rattle.federation_laws.proofs.LocalMoves.{Idle, Opens, Grants, Closes, LocalMove, Rests, Gone, Opening, Granting, Closing}

-- the accesses of a site
abbrev pub tagged : SiteId → List Access → List SiteAccess
tagged site acts = map (λ access. record { site = site; access = access }) acts

tagged-values : (site : SiteId) (acts : List Access) → found value_of acts ≡ found (λ x. value_of x.access) (tagged site acts)
tagged-values site [] = refl
tagged-values site (a ∷ acts) = ap (with_some (value_of a)) (tagged-values site acts)

tagged-reads : (site : SiteId) (run : Run) → run_reads run ≡ reads_in (tagged site run.acts)
tagged-reads site run = ap oldest_first (tagged-values site run.acts)

pub tagged-here : (site : SiteId) (acts : List Access) → at site (tagged site acts) ≡ acts
tagged-here site [] = refl
tagged-here site (a ∷ acts) = ap (λ t. cond t (a ∷ at site (tagged site acts)) (at site (tagged site acts))) (same_site-refl site) ∙ ap (λ xs. a ∷ xs) (tagged-here site acts)

pub tagged-elsewhere : (site other : SiteId) (acts : List Access) → same_site site other ≡ false → at other (tagged site acts) ≡ []
tagged-elsewhere site other [] e = refl
tagged-elsewhere site other (a ∷ acts) e = ap (λ t. cond t (a ∷ at other (tagged site acts)) (at other (tagged site acts))) e ∙ tagged-elsewhere site other acts e

-- one value more, or none
oldest-more : (o : Option ℕ) (xs ys : List ℕ) → oldest_first xs ≡ oldest_first ys → oldest_first (with_some o xs) ≡ oldest_first (with_some o ys)
oldest-more None xs ys e = e
oldest-more (Some v) xs ys e = ap (λ zs. zs ++ v ∷ []) e

reads-next : (past : SitePast) (t : Tid) (x : SiteHappening) (o : Option ℕ) → read_by t x.event x.answer ≡ o → local_reads (x ∷ past) t ≡ oldest_first (with_some o (found (λ y. read_by t y.event y.answer) past))
reads-next past t x o e = ap (λ v. oldest_first (with_some v (found (λ y. read_by t y.event y.answer) past))) e

-- the live run follows the program
pub record Running (past : SitePast) (t : Tid) (site : SiteId) (program : List Step) (run : Run) : Type 0 where
  pub unsealed : has_sealed past t ≡ false
  pub ticketless : has_ticket run ≡ false
  pub follows : Follows program (tagged site run.acts)
  pub reads : local_reads past t ≡ reads_in (tagged site run.acts)

-- a sealed one did all of it
pub record Settled (home : Home) (past : SitePast) (t : Tid) (program : List Step) : Type 0 where
  pub gone : live home past t ≡ None
  pub ran : Ran program (tagged home.site (acts_at home past t))
  pub reads : local_reads past t ≡ reads_in (tagged home.site (acts_at home past t))

-- nothing of it happened
pub record Fresh (home : Home) (past : SitePast) (t : Tid) : Type 0 where
  pub none : live home past t ≡ None
  pub unsealed : has_sealed past t ≡ false
  pub reads : local_reads past t ≡ []

pub record LocalHolds (home : Home) (past : SitePast) (t : Tid) (program : List Step) : Type 0 where
  pub unbegun : attempts_of past t.tx ≤ t.attempt → Fresh home past t
  pub running : (run : Run) → live home past t ≡ Some run → Running past t home.site program run
  pub settled : has_sealed past t ≡ true → Settled home past t program

pub local-first : (home : Home) (t : Tid) (program : List Step) → LocalHolds home [] t program
local-first home t program =
    record { unbegun = λ e. record { none = refl; unsealed = refl; reads = refl }; running = λ run e. cc; settled = λ e. cc }

-- why an event of the attempt comes: it is the next one, the access is its next step, all its steps are done
pub record Cause (home : Home) (past : SitePast) (t : Tid) (program : List Step) (event : SiteEvent) : Type 0 where
  pub begins : event ≡ Ev.Begin t → t.attempt ≡ attempts_of past t.tx
  pub acts : (act : PlainAct) (run : Run) → event ≡ Ev.Act t act → live home past t ≡ Some run → (step : Step) × (item_at program (done run) ≡ Some step) × (act ≡ plain_act (run_reads run) step.act) × (step.site ≡ home.site)
  pub commits : (run : Run) → event ≡ Ev.Commit t → live home past t ≡ Some run → nat_lt (done run) (length program) ≡ false

more-attempts : (past : SitePast) (tx : Tx) (x : SiteHappening) → attempts_of past tx ≤ attempts_of (x ∷ past) tx
more-attempts past tx x = by_test (begins_tx tx x.answer)
  where
    by_test : (b : Bool) → attempts_of past tx ≤ cond b (suc (attempts_of past tx)) (attempts_of past tx)
    by_test true = omega arith
    by_test false = omega arith

one-attempt : (past : SitePast) (tx : Tx) (x : SiteHappening) → begins_tx tx x.answer ≡ true → attempts_of (x ∷ past) tx ≡ suc (attempts_of past tx)
one-attempt past tx x e = ap (λ b. cond b (suc (attempts_of past tx)) (attempts_of past tx)) e

sealed-same : (past : SitePast) (t : Tid) (x : SiteHappening) → some_of (seals t) x.calls ≡ false → has_sealed (x ∷ past) t ≡ has_sealed past t
sealed-same past t x e = ap (λ b. b || has_sealed past t) e

acts-same : (home : Home) (past : SitePast) (t : Tid) (x : SiteHappening) → some_of (seals t) x.calls ≡ false → acts_at home (x ∷ past) t ≡ acts_at home past t
acts-same home past t x e = ap (λ b. cond b (acts_of (live home past t)) (acts_at home past t)) e

done-acts : (run : Run) → has_ticket run ≡ false → done run ≡ length run.acts
done-acts run e = ap (λ b. length run.acts + cond b 1 0) e ∙ (let zero_more : length run.acts + 0 ≡ length run.acts = omega arith in zero_more)

-- a settled attempt stays so where a line does nothing about it
settled-stays : (home : Home) (past : SitePast) (t : Tid) (program : List Step) (x : SiteHappening) → Idle t x → live home (x ∷ past) t ≡ None → Settled home past t program → Settled home (x ∷ past) t program
settled-stays home past t program x i none s =
    record {
      gone = none;
      ran = subst (λ acts. Ran program (tagged home.site acts)) (sym (acts-same home past t x i.unsealed)) s.ran;
      reads = reads-next past t x None i.reads ∙ (s.reads ∙ ap (λ acts. reads_in (tagged home.site acts)) (sym (acts-same home past t x i.unsealed)));
    }

running-stays : (past : SitePast) (t : Tid) (site : SiteId) (program : List Step) (x : SiteHappening) (run : Run) → Idle t x → Running past t site program run → Running (x ∷ past) t site program run
running-stays past t site program x run i r =
    record { unsealed = sealed-same past t x i.unsealed ∙ r.unsealed; ticketless = r.ticketless; follows = r.follows; reads = reads-next past t x None i.reads ∙ r.reads }

fresh-stays : (home : Home) (past : SitePast) (t : Tid) (x : SiteHappening) → Idle t x → live home (x ∷ past) t ≡ None → Fresh home past t → Fresh home (x ∷ past) t
fresh-stays home past t x i none f = record { none = none; unsealed = sealed-same past t x i.unsealed ∙ f.unsealed; reads = reads-next past t x None i.reads ∙ f.reads }

-- nothing happens
rests-holds : (home : Home) (past : SitePast) (t : Tid) (program : List Step) (x : SiteHappening) → Idle t x → live home (x ∷ past) t ≡ live home past t → LocalHolds home past t program → LocalHolds home (x ∷ past) t program
rests-holds home past t program x i s h =
    record {
      unbegun = λ few. let more = more-attempts past t.tx x in let f = h.unbegun (omega (arith, few, more)) in fresh-stays home past t x i (s ∙ f.none) f;
      running = λ run e. running-stays past t home.site program x run i (h.running run (sym s ∙ e));
      settled = λ e. let old = h.settled (sym (sealed-same past t x i.unsealed) ∙ e) in settled-stays home past t program x i (s ∙ old.gone) old;
    }

gone-holds : (home : Home) (past : SitePast) (t : Tid) (program : List Step) (x : SiteHappening) → Idle t x → live home (x ∷ past) t ≡ None → LocalHolds home past t program → LocalHolds home (x ∷ past) t program
gone-holds home past t program x i none h =
    record {
      unbegun = λ few. let more = more-attempts past t.tx x in fresh-stays home past t x i none (h.unbegun (omega (arith, few, more)));
      running = λ run e. (let clash = sym none ∙ e in cc);
      settled = λ e. settled-stays home past t program x i none (h.settled (sym (sealed-same past t x i.unsealed) ∙ e));
    }

opens-holds : (home : Home) (past : SitePast) (t : Tid) (program : List Step) (event : SiteEvent) (x : SiteHappening) → Opens home past t event x → Cause home past t program event → LocalHolds home past t program → LocalHolds home (x ∷ past) t program
opens-holds home past t program event x o c h =
    let next = c.begins o.taken in
    let fresh = h.unbegun (omega (arith, next)) in
    record {
      unbegun = λ few. (let one = one-attempt past t.tx x o.begins in absurd (omega (arith, few, one, next)));
      running = λ run e.
          let same : begun t o.number ≡ run = some_parts (sym o.now ∙ e) in
          subst (Running (x ∷ past) t home.site program) same
          (record { unsealed = sealed-same past t x o.idle.unsealed ∙ fresh.unsealed; ticketless = refl; follows = tt; reads = reads-next past t x None o.idle.reads ∙ fresh.reads });
      settled = λ e. (let was = sealed-same past t x o.idle.unsealed ∙ fresh.unsealed in let clash = sym was ∙ e in cc);
    }

grants-holds : (home : Home) (past : SitePast) (t : Tid) (program : List Step) (event : SiteEvent) (x : SiteHappening) → Grants home past t event x → Cause home past t program event → LocalHolds home past t program → LocalHolds home (x ∷ past) t program
grants-holds home past t program event x g c h =
    let was = h.running g.run g.was in
    record {
      unbegun = λ few. (let more = more-attempts past t.tx x in let none = (h.unbegun (omega (arith, few, more))).none in let clash = sym none ∙ g.was in cc);
      running = λ run e.
          let same : record g.run { acts = g.access ∷ g.run.acts } ≡ run = some_parts (sym g.now ∙ e) in
          subst (Running (x ∷ past) t home.site program) same (record { unsealed = sealed-same past t x g.unsealed ∙ was.unsealed; ticketless = was.ticketless; follows = (step was, was.follows); reads = reads was });
      settled = λ e. (let old = sealed-same past t x g.unsealed ∙ was.unsealed in let clash = sym old ∙ e in cc);
    }
  where
    step : Running past t home.site program g.run → IsStep program (tagged home.site g.run.acts) (record { site = home.site; access = g.access })
    step was =
        let (step, place, act, site) = c.acts g.act g.run g.taken g.was in
        record {
          step = step;
          place = subst (λ n. item_at program n ≡ Some step) (done-acts g.run was.ticketless ∙ sym (length-map {B = SiteAccess} (λ access. record { site = home.site; access = access }) g.run.acts)) place;
          site = site;
          act = ap (λ vs. plain_act vs step.act) (sym (tagged-reads home.site g.run)) ∙ (sym act ∙ g.its);
        }

    reads : Running past t home.site program g.run → local_reads (x ∷ past) t ≡ reads_in (tagged home.site (g.access ∷ g.run.acts))
    reads was = reads-next past t x (value_of g.access) g.reads ∙ oldest-more (value_of g.access) (found (λ y. read_by t y.event y.answer) past) (found (λ y. value_of y.access) (tagged home.site g.run.acts)) was.reads

closes-holds : (home : Home) (past : SitePast) (t : Tid) (program : List Step) (event : SiteEvent) (x : SiteHappening) → Closes home past t event x → Cause home past t program event → LocalHolds home past t program → LocalHolds home (x ∷ past) t program
closes-holds home past t program event x k c h =
    record {
      unbegun = λ few. (let more = more-attempts past t.tx x in let none = (h.unbegun (omega (arith, few, more))).none in let clash = sym none ∙ k.was in cc);
      running = λ run e. (let none = k.now in let clash = sym none ∙ e in cc);
      settled = λ e. by_test (some_of (seals t) x.calls) refl e;
    }
  where
    was : Running past t home.site program k.run
    was = h.running k.run k.was

    whole : length (tagged home.site k.run.acts) ≡ length program
    whole =
        let count = length-map {B = SiteAccess} (λ access. record { site = home.site; access = access }) k.run.acts in
        let below = follows-below program (tagged home.site k.run.acts) was.follows in
        let all = done-acts k.run was.ticketless in
        let most : length program ≤ done k.run = ltb-false (done k.run) (length program) (c.commits k.run k.taken k.was) in
        omega (arith, count, below, all, most)

    by_test : (b : Bool) → some_of (seals t) x.calls ≡ b → (b || has_sealed past t) ≡ true → Settled home (x ∷ past) t program
    by_test true q e =
        let acts : acts_at home (x ∷ past) t ≡ k.run.acts = ap (λ b. cond b (acts_of (live home past t)) (acts_at home past t)) q ∙ ap acts_of k.was in
        record {
          gone = k.now;
          ran = subst (λ as_. Ran program (tagged home.site as_)) (sym acts) (record { follows = was.follows; whole = whole });
          reads = reads-next past t x None k.reads ∙ (was.reads ∙ ap (λ as_. reads_in (tagged home.site as_)) (sym acts));
        }
    by_test false q e = (let no_one = was.unsealed in let clash = sym no_one ∙ e in cc)

-- all of it holds after a line
pub local-next : (home : Home) (past : SitePast) (t : Tid) (program : List Step) (event : SiteEvent) (x : SiteHappening) → LocalMove home past t event x → Cause home past t program event → LocalHolds home past t program → LocalHolds home (x ∷ past) t program
local-next home past t program event x (Rests i s) c h = rests-holds home past t program x i s h
local-next home past t program event x (Gone i none) c h = gone-holds home past t program x i none h
local-next home past t program event x (Opening o) c h = opens-holds home past t program event x o c h
local-next home past t program event x (Granting g) c h = grants-holds home past t program event x g c h
local-next home past t program event x (Closing k) c h = closes-holds home past t program event x k c h
