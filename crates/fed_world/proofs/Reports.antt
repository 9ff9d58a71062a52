-- What is reported of a session at rest, whether it began with empty disks or goes on from disks.
use Rattle.std.proofs.Common.{◌≡◌, Bool, true, false, not, ◌&&◌, ◌⊎◌, cond, inl, inr, Option, Some, None, List, [], ◌∷◌, refl, sym, ◌∙◌, ap, ap₂, subst}
use Rattle.std.specs.Global.{Vec}
use Rattle.std.proofs.lemmas.Bool.{cond-true}
use Rattle.mdb_base.specs.declared.names.Tid.{Tid}
use Rattle.mdb_base.specs.Names.{same_tid}
use Rattle.mdb_base.specs.Words.{holds_of, those}
use Rattle.order_laws.specs.Chains.{In}
use Rattle.order_laws.proofs.ForCallers.{in_those}
use Rattle.presumptions.specs.declared.Decision.TheVariants as Decided
use Rattle.fed_rules.specs.declared.commands.Command.{Command}
use Rattle.fed_rules.specs.declared.records.CoordRecord.{CoordRecord}
use Rattle.fed_rules.specs.Closing.{known}
use Rattle.fed_rules.specs.CoordPast.{CoordPast, begun_tids, is_known, records, standing}
use Rattle.fed_rules.specs.CoordRecords.{committed_of, outcome}
use Rattle.fed_rules.specs.Found.{Found, Journal}
use Rattle.fed_rules.specs.Reports.{is_forgotten}
use Rattle.fed_rules.specs.Resumed.{begun}
use Rattle.fed_rules.specs.Scenarios.{policy, protocols}
use Rattle.fed_rules.specs.Sessions.{Session, fresh}
use Rattle.fed_rules.specs.Story.{coord_past, story_in}
use Rattle.fed_rules.proofs.ForCallers.{rising_in}
use Rattle.coord_laws.proofs.ForCallers.{known_begun}
use Rattle.coord_tables.specs.Terms.{IsSound, Terms}
use Rattle.session_report.proofs.ForCallers.{decision_is}
use Rattle.fed_world.specs.declared.world.World.{World}
use Rattle.fed_world.specs.Asks.{terms_of}
use Rattle.fed_world.specs.Beginnings.{GoesOn, IsFresh, Remembers}
use Rattle.fed_world.specs.Reporting.{decision_given}
use Rattle.fed_world.specs.Worlds.{HasLines, Rests}

-- ---- how an attempt ended

-- by the committed attempt of its transaction
pub outcome_is : (terms : Terms) (past : CoordPast) → IsSound terms past → (committed : Option Tid) (tid : Tid) → committed ≡ committed_of (records past) tid.tx
    → decision_given committed tid ≡ outcome (records past) tid
outcome_is terms past sound committed tid is =
    ap (λ (o : Option Tid). decision_given o tid) is
    ∙ (by_found (committed_of (records past) tid.tx) ∙ decision_is (records past) (λ a b same p q. sound.alone a b same (inr p) (inr q)) tid)
  where
    by_found : (o : Option Tid) → decision_given o tid ≡ cond (holds_of (λ found. same_tid found tid) o) Decided.Commit Decided.Abort
    by_found None = refl
    by_found (Some found) = refl

-- ---- which are forgotten

module _ (session : Session) (commands : List Command) (sound : IsSound (terms_of session.plan) (coord_past (story_in session commands))) (rests : Rests session commands) where
  abbrev past : CoordPast
  past = coord_past (story_in session commands)

  none_there : (tid : Tid) → is_known (standing (protocols session.plan) past tid) ≡ true → ⊥
  none_there tid e =
      let begun_so : In tid (begun_tids past) = known_begun (protocols session.plan) (policy session.plan) past sound.made tid e in
      let listed : In tid (known session.plan (story_in session commands)) =
      rising_in (those (λ t. is_known (standing (protocols session.plan) past t)) (begun_tids past)) tid
      (in_those (λ t. is_known (standing (protocols session.plan) past t)) tid (begun_tids past) begun_so e) in
      subst (λ (tids : List Tid). In tid tids) rests.none_known listed

  forgotten_there : (tid : Tid) → is_forgotten session.plan (story_in session commands) tid ≡ true
  forgotten_there tid = by_test (is_known (standing (protocols session.plan) past tid)) refl
    where
      by_test : (b : Bool) → is_known (standing (protocols session.plan) past tid) ≡ b → is_forgotten session.plan (story_in session commands) tid ≡ true
      by_test true e = absurd (none_there tid e)
      by_test false e = ap₂ (λ (down here : Bool). not down && not here) rests.coordinator_up e

  -- at rest each is
  pub all_forgotten : (tids : List Tid) → those (is_forgotten session.plan (story_in session commands)) tids ≡ tids
  all_forgotten [] = refl
  all_forgotten (tid ∷ tids) =
      cond-true _ (tid ∷ those (is_forgotten session.plan (story_in session commands)) tids) (those (is_forgotten session.plan (story_in session commands)) tids) (forgotten_there tid)
      ∙ ap (λ (ts : List Tid). tid ∷ ts) (all_forgotten tids)

-- ---- with what it began

-- a world that remembers nothing is of a session that began with empty disks
pub began_fresh : (world : World) (session : Session) (commands : List Command) → HasLines world session commands → world.begun ≡ None → session ≡ fresh session.plan
began_fresh world session commands has none =
    ap (λ (found : Found). let s : Session = record { plan = session.plan; found = found } in s) (subst (λ (tids : Option (Vec Tid)). Remembers tids session.found) none has.remembers)

-- one that remembers attempts goes on from disks, and they are those that a record names
pub record BeganFound (session : Session) (tids : List Tid) : Type 0 where
  pub goes : GoesOn session
  pub journal : Journal CoordRecord
  pub is : session.found.coordinator ≡ Some journal
  pub same : tids ≡ begun session.found

pub began_found : (world : World) (session : Session) (commands : List Command) (tids : Vec Tid) → HasLines world session commands → world.begun ≡ Some tids → BeganFound session tids.items
began_found world session commands tids has some = by_begins has.begins (subst (λ (o : Option (Vec Tid)). Remembers o session.found) some has.remembers)
  where
    by_begins : IsFresh session ⊎ GoesOn session → Remembers (Some tids) session.found → BeganFound session tids.items
    by_begins (inl is) kept = (let clash : Some kept.0 ≡ None = sym kept.1 ∙ ap (λ (s : Session). s.found.coordinator) is in cc)
    by_begins (inr goes) kept = record { goes = goes; journal = kept.0; is = kept.1; same = kept.2 }
