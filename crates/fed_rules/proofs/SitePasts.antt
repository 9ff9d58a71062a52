-- What the past of a site says.
use Rattle.std.proofs.Common.{◌≡◌, ◌&&◌, not, Option, Some, None, refl, sym, ap, ◌∙◌, suc, ◌≤◌, Bool, true, false, cond, ◌∷◌, arith}
use Rattle.std.proofs.lemmas.Bool.{and_parts}
use Rattle.mdb_base.specs.declared.names.Tid.{Tid}
use Rattle.mdb_base.specs.declared.names.Tx.{Tx}
use Rattle.mdb_base.specs.Names.{same_tx}
use Rattle.mdb_base.specs.Words.{first_where, map_some}
use Rattle.mdb_base.proofs.ForCallers.{first_passes, same_tx-equal}
use Rattle.fed_rules.specs.Runs.{Run, is_sealed, unended}
use Rattle.fed_rules.specs.SitePast.{SitePast, engine_lines, epoch_start, live_of_tx, SiteHappening, attempts_of, begins_tx}
use Rattle.fed_rules.specs.SiteRecords.{Home}
use Rattle.fed_rules.specs.declared.events.SiteEvent.{SiteEvent}
use Rattle.fed_rules.specs.declared.events.SiteEvent.TheVariants as Ev

pub live_is_of : (home : Home) (past : SitePast) (tx : Tx) (tid : Tid) → live_of_tx home past tx ≡ Some tid → tid.tx ≡ tx
live_is_of home past tx tid e = from (first_where (λ (run : Run). same_tx run.tid.tx tx && not (is_sealed run)) (unended (epoch_start home past) (engine_lines past))) refl e where
  from : (o : Option Run) → first_where (λ (run : Run). same_tx run.tid.tx tx && not (is_sealed run)) (unended (epoch_start home past) (engine_lines past)) ≡ o → map_some (λ (run : Run). run.tid) o ≡ Some tid → tid.tx ≡ tx
  from None is e = cc
  from (Some run) is e =
      let passes = first_passes (λ (run : Run). same_tx run.tid.tx tx && not (is_sealed run)) (unended (epoch_start home past) (engine_lines past)) run is in
      let same : run.tid ≡ tid = cc in
      ap (λ (t : Tid). t.tx) (sym same) ∙ same_tx-equal run.tid.tx tx (and_parts _ _ passes).0

pub attempts_grow : (past : SitePast) (x : SiteHappening) (tx : Tx) → attempts_of past tx ≤ attempts_of (x ∷ past) tx
attempts_grow past x tx = from (begins_tx tx x.answer) where
  from : (b : Bool) → attempts_of past tx ≤ cond b (suc (attempts_of past tx)) (attempts_of past tx)
  from true = omega arith
  from false = omega arith

abbrev pub BeginsNone : SiteEvent → Type 0
BeginsNone (Ev.Begin tid) = ⊥
BeginsNone event = Unit {0}
