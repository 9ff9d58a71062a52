-- How a session goes on: a site that stands for few lines stands behind a command for at most two more, also where the command fails.
use Rattle.std.proofs.Common.{◌≡◌, true, false, cond, ℕ, ◌+◌, ◌≤◌, ◌<◌, ◌^◌, Some, None, Result, Ok, Err, IfOk, IfErr, List, [], ◌∷◌, length, refl, ap, ◌∙◌, arith}
use Rattle.std.proofs.lemmas.Bool.{ne_eqb}
use Rattle.mdb_base.specs.declared.names.SiteId.{SiteId}
use Rattle.mdb_base.specs.declared.names.Tx.{Tx}
use Rattle.mdb_base.specs.Names.{same_tx}
use Rattle.mdb_base.specs.Words.{Each, first_where}
use Rattle.fed_rules.specs.Site_of.{about}
use Rattle.fed_rules.specs.declared.scenario.TxLine.{TxLine}
use Rattle.fed_rules.specs.declared.events.SiteEvent.{SiteEvent}
use Rattle.fed_rules.specs.declared.events.SiteStep.{SiteStep}
use Rattle.fed_rules.specs.Requests.{Request, Submits, Declines}
use Rattle.fed_rules.specs.SiteCommands.{past_behind}
use Rattle.fed_rules.specs.SitePast.{SitePast}
use Rattle.fed_rules.specs.SiteRecords.{Home}
use Rattle.actor_store.specs.declared.errors.StepErr.{StepErr}
use Rattle.actor_store.specs.declared.errors.StepErr.TheVariants as Err_is
use Rattle.site_core.specs.Stands.{Before, StopAt, Within, stopped_past}
use Rattle.actor_tests.specs.OfLines.{IsOfLines, IsOfThird, IsOwn, IsWithin, third}
use Rattle.journal_disk.specs.declared.mem_disk.MemDisk.{MemDisk}
use Rattle.any_engine.specs.declared.engine.AnyEngine.{AnyEngine}
use Rattle.any_engine.specs.Stands as Engines
use Rattle.site_core.specs.Sessions.{mem_seen}
use Rattle.local_dbms.specs.declared.asks.SiteAsk.{SiteAsk}
use Rattle.local_dbms.specs.declared.asks.SiteAsk.TheVariants as At
use Rattle.local_dbms.specs.declared.dbms.LocalDbms.{LocalDbms}
use Rattle.local_dbms.specs.Asks.{CanAsk, site_request}
use Rattle.local_dbms.specs.Stands.{Each_site, Fails, IsNamed, OwnPrograms, Some_site, Stands, Tells, own_programs, program_at}

-- a request adds at most one line, and a stop within an event two
more_lines : (home : Home) (past : SitePast) (r : Request SiteEvent) (n : ℕ) → length past ≤ n → length (past_behind home past r) ≤ n + 2
more_lines home past (Submits event) n le = omega arith
more_lines home past (Declines answer) n le = omega arith

stop_lines : (home : Home) (past : SitePast) (event : SiteEvent) (at : StopAt) (n : ℕ) → length past ≤ n → length (stopped_past home past event at) ≤ n + 2
stop_lines home past event (Before cut) n le = omega arith
stop_lines home past event (Within calls cut) n le = omega arith

-- the site's own are in their range
pub are_named : (lines : List TxLine) → Each IsOwn lines → Each IsNamed lines
are_named [] own = tt
are_named (line ∷ lines) own = let (least, most) = own.0 in ((least, omega arith), are_named lines own.1)

-- none of them is the third
is_none : (lines : List TxLine) → Each IsOwn lines → first_where (λ (line : TxLine). same_tx line.tx third) lines ≡ None
is_none [] own = refl
is_none (line ∷ lines) own =
    let most = own.0.1 in
    let other : same_tx line.tx third ≡ false = ne_eqb line.tx.0 3 (omega arith) in
    ap (λ test. cond test (Some line) (first_where (λ (line : TxLine). same_tx line.tx third) lines)) other ∙ is_none lines own.1

pub is_foreign : (site : SiteId) (lines : List TxLine) → Each IsOwn lines → own_programs site lines third ≡ None
is_foreign site lines own = ap (λ found. program_at site found) (is_none lines own)

-- a new site
pub set_up_on : (result : Result (LocalDbms AnyEngine) StepErr) (disk : MemDisk) (home : Home) (programs : OwnPrograms) → programs third ≡ None
    → IfOk result (λ dbms. Stands Engines.Stands true dbms (mem_seen disk) home programs []) → IfOk result (λ dbms. IsOfLines 0 dbms disk)
unfolding IsOfLines
set_up_on (Ok dbms) disk home programs foreign stands =
    record { home = home; programs = programs; past = []; stood = stands; holds = record { few = omega arith; foreign = foreign } }
set_up_on (Err why) disk home programs foreign stands = tt

module _ (K L : Home → OwnPrograms → SitePast → Type 0) (n : ℕ) (few : n ≤ 30000) (s : Some_site K (IsWithin n)) where
  is_short : length s.past < 2 ^ 30
  is_short = let le = s.holds.few in omega arith

  -- this may be asked
  may_ask : (ask : SiteAsk) → IsOfThird ask → CanAsk ask s.home s.programs s.past
  may_ask (At.Give message) is =
      let number : (about message).tx.0 ≡ 3 = ap (λ (tx : Tx). tx.0) is.0 in
      record {
        short = is_short;
        foreign = ap (λ (tx : Tx). s.programs tx) is.0 ∙ s.holds.foreign;
        in_range = record { least = omega arith; greatest = omega arith; attempts = is.1 };
      }
  may_ask (At.Begin tx) is = is_short
  may_ask (At.Step tx) is = is_short
  may_ask (At.Commit tx) is = is_short
  may_ask (At.Abort tx) is = is_short
  may_ask (At.Fate tx) is = is_short
  may_ask (At.Ask tid) is = is_short
  may_ask (At.Drop tid) is = is_short
  may_ask (At.Halt cut) is = is_short
  may_ask (At.Trip calls cut) is = is_short
  may_ask At.Back is = is_short
  may_ask At.Check is = is_short

  pub can_ask : (ask : SiteAsk) → IsOfThird ask → Some_site K (CanAsk ask)
  can_ask ask is = record { home = s.home; programs = s.programs; past = s.past; stood = s.stood; holds = may_ask ask is }

  -- it stands for this past, which isn't much longer
  at : (past : SitePast) → length past ≤ n + 2 → L s.home s.programs past → Some_site L (IsWithin (n + 2))
  at past le stood = record { home = s.home; programs = s.programs; past = past; stood = stood; holds = record { few = le; foreign = s.holds.foreign } }

  failed_on : (r : Request SiteEvent) (why : StepErr) → Fails L why s.home s.programs s.past r → Some_site L (IsWithin (n + 2))
  failed_on r Err_is.Memory stood = let le = s.holds.few in at s.past (omega arith) stood
  failed_on (Submits event) Err_is.Disk (stop, stood, down) = at (stopped_past s.home s.past event stop) (stop_lines s.home s.past event stop n s.holds.few) stood
  failed_on (Declines answer) Err_is.Disk none = absurd none

  -- behind an answer to what is asked, or its failure
  pub asked_on : (result : Result SiteStep StepErr) (ask : SiteAsk) → IsOfThird ask
      → IfOk result (λ step. Each_site K (λ home programs past. CanAsk ask home programs past → Tells L step home programs past (site_request ask home programs past)))
      → IfErr result (λ why. Each_site K (λ home programs past. CanAsk ask home programs past → Fails L why home programs past (site_request ask home programs past)))
      → Some_site L (IsWithin (n + 2))
  asked_on (Ok step) ask is served failed =
      let r : Request SiteEvent = site_request ask s.home s.programs s.past in
      at (past_behind s.home s.past r) (more_lines s.home s.past r n s.holds.few) (served s.home s.programs s.past s.stood (may_ask ask is)).next
  asked_on (Err why) ask is served failed = failed_on (site_request ask s.home s.programs s.past) why (failed s.home s.programs s.past s.stood (may_ask ask is))
