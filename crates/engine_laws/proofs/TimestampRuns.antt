-- Strict timestamp order is a rule by age: a granted read finds no younger write, so the table is the version of its age.
use Rattle.std.proofs.Common.{◌≡◌, ℕ, ◌<◌, ◌⊎◌, false, Some, List, [], ◌∷◌, refl, ap, ◌∙◌, inl, inr, arith}
use Rattle.mdb_base.specs.declared.names.Tid.{Tid}
use Rattle.mdb_base.specs.declared.names.Key.{Key}
use Rattle.mdb_base.specs.declared.names.Engine.TheVariants.{Timestamp}
use Rattle.mdb_base.specs.declared.acts.PlainAct.TheVariants.{Read, Write}
use Rattle.mdb_base.specs.declared.replies.Reply.TheVariants as Reply_is
use Rattle.mdb_base.specs.Rows.{look_up}
use Rattle.mdb_base.specs.Words.{Each}
use Rattle.fed_rules.specs.Runs.{Start, EngineLine, Access, Run, run_at, number, committed, table, after}
use Rattle.fed_rules.specs.Replies.{AtBegin, rule, timestamp, access_reply, access_reply_by, granted_by, is_in_the_way}
use Rattle.fed_rules.specs.EngineLines.{IsRight}
use Rattle.engine_laws.specs.Unended.{has_write}
use Rattle.engine_laws.proofs.Tables.{after_same}
use Rattle.engine_laws.proofs.ByNumber.{StaysClear, table_below}
use Rattle.engine_laws.proofs.Granted.{unwritten}
use Rattle.engine_laws.proofs.Sound.{IsSound}
use Rattle.engine_laws.proofs.AgeRuns.{IsAged, IsVersion, IsByAge, age_grants}

-- a run with a greater number hasn't written the key
unread : (acts : List Access) (age : ℕ) (key : Key) (ds : List Run) → Each (StaysClear acts age) ds → Each (λ d. number d ≡ d.age) ds
    → Each (λ d. age < d.age → is_in_the_way (Read key) d ≡ false) ds
    → Each (λ d. (number d < age) ⊎ (has_write key d.acts ≡ false)) ds
unread acts age key [] clear is_age free = tt
unread acts age key (d ∷ ds) clear is_age free = (here clear.0, unread acts age key ds clear.1 is_age.1 free.1)
  where
    here : StaysClear acts age d → (number d < age) ⊎ (has_write key d.acts ≡ false)
    here (inl less) = inl less
    here (inr (more, also)) = inr (unwritten key d.acts (free.0 (let same = is_age.0 in omega arith)))

timestamp_reads : (start : Start) (lines : List EngineLine) → start.kind ≡ Timestamp → IsRight start lines
    → IsSound AtBegin start lines → IsAged start lines → (tid : Tid) (run : Run) (key : Key) (value : ℕ)
    → run_at start lines tid ≡ Some run → Reply_is.Value value ≡ access_reply start lines run (Read key)
    → IsVersion start lines tid run key value
timestamp_reads start lines kind right sound ages tid run key value at is =
    let by_rule = ap (λ k. access_reply_by (rule k) start lines run (Read key)) kind in
    let free = age_grants start lines right run (Read key) (granted_by timestamp start lines run (Read key)) (Reply_is.Value value)
    refl (is ∙ by_rule) in
    let answer = free.1 in
    let read : value ≡ after run.acts (table start lines) key = cc in
    record {
      older = λ u b other was. free.0.older u b was;
      value_is = read ∙ after_same run.acts _ _ key
          (table_below (look_up start.rows) run.age (committed start lines) key
          (unread run.acts run.age key (committed start lines) (sound.clear tid run at run.age refl) ages.committed
          free.0.committed));
    }

pub timestamp_by_age : IsByAge Timestamp
timestamp_by_age = record {
  drawn = refl;
  ticket = λ start lines me. refl;
  reads = timestamp_reads;
  writes = λ start lines kind right run key value is.
      let by_rule = ap (λ k. access_reply_by (rule k) start lines run (Write key value)) kind in
      (age_grants start lines right run (Write key value) Reply_is.Done Reply_is.Done refl (is ∙ by_rule)).0;
}
