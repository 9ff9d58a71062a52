-- Multiversion timestamp order is a rule by age: a granted read is answered the version of its age.
use Rattle.std.proofs.Common.{◌≡◌, ℕ, ◌<◌, ◌⊎◌, Bool, true, false, Some, List, [], refl, ap, ◌∙◌, inl, inr, arith}
use Rattle.mdb_base.specs.declared.names.Tid.{Tid}
use Rattle.mdb_base.specs.declared.names.Key.{Key}
use Rattle.mdb_base.specs.declared.names.Engine.TheVariants.{Multiversion}
use Rattle.mdb_base.specs.declared.acts.PlainAct.TheVariants.{Read, Write}
use Rattle.mdb_base.specs.declared.replies.Reply.{Reply}
use Rattle.mdb_base.specs.declared.replies.Reply.TheVariants as Reply_is
use Rattle.mdb_base.specs.Names.{same_tid}
use Rattle.mdb_base.specs.Words.{greatest}
use Rattle.fed_rules.specs.Runs.{Start, EngineLine, Run, run_at}
use Rattle.fed_rules.specs.Replies.{AtBegin, rule, multiversion, access_reply, access_reply_by, granted_by, has_written, older_writers, age_of, wait_for_writer, or_reply}
use Rattle.fed_rules.specs.EngineLines.{IsRight}
use Rattle.engine_laws.specs.Unended.{has_write}
use Rattle.engine_laws.proofs.Tables.{clear_unwritten}
use Rattle.engine_laws.proofs.Granted.{is_grant, late_or_wait_grants}
use Rattle.engine_laws.proofs.Sound.{IsSound, IsApart}
use Rattle.engine_laws.proofs.AgeRuns.{IsAged, IsVersion, IsByAge, age_grants, no_older_writer}

-- a read that isn't stopped reads an own write, or finds no older unended writer
writer_grants : (own : Bool) (older : List Run) (grant reply : Reply) → is_grant reply ≡ true
    → reply ≡ or_reply (wait_for_writer own (greatest age_of older)) grant
    → ((own ≡ true) ⊎ (older ≡ [])) × (reply ≡ grant)
writer_grants true older grant reply h is = (inl refl, is)
writer_grants false older grant reply h is =
    let free = late_or_wait_grants [] older grant reply h is in (inr free.1, free.2)

-- who has written the key finds no older unended writer of it
no_rival : (start : Start) (lines : List EngineLine) (tid : Tid) (run : Run) (key : Key) → IsSound AtBegin start lines
    → run_at start lines tid ≡ Some run → has_write key run.acts ≡ true
    → (u : Tid) (b : Run) → same_tid tid u ≡ false → run_at start lines u ≡ Some b → b.age < run.age → has_write key b.acts ≡ false
no_rival start lines tid run key sound at own u b other was less = by_test (has_write key b.acts) refl
  where
    clear : IsApart run.acts run.age b.acts b.age → has_write key b.acts ≡ true → has_write key run.acts ≡ false
    clear (inl (more, also)) wrote = absurd (omega arith)
    clear (inr (less, also)) wrote = clear_unwritten b.acts run.acts key also wrote

    by_test : (t : Bool) → has_write key b.acts ≡ t → has_write key b.acts ≡ false
    by_test false is = is
    by_test true is =
        let none = clear (sound.apart tid u run b other at was run.age b.age refl refl) is in cc

multiversion_reads : (start : Start) (lines : List EngineLine) → start.kind ≡ Multiversion → IsRight start lines
    → IsSound AtBegin start lines → IsAged start lines → (tid : Tid) (run : Run) (key : Key) (value : ℕ)
    → run_at start lines tid ≡ Some run → Reply_is.Value value ≡ access_reply start lines run (Read key)
    → IsVersion start lines tid run key value
multiversion_reads start lines kind right sound ages tid run key value at is =
    let by_rule = ap (λ k. access_reply_by (rule k) start lines run (Read key)) kind in
    let free = writer_grants (has_written key run) (older_writers start lines run (Read key))
    (granted_by multiversion start lines run (Read key)) (Reply_is.Value value) refl (is ∙ by_rule) in
    let answer = free.1 in
    record { older = older free.0; value_is = cc }
  where
    older : ((has_written key run ≡ true) ⊎ (older_writers start lines run (Read key) ≡ [])) → (u : Tid) (b : Run)
        → same_tid tid u ≡ false → run_at start lines u ≡ Some b → b.age < run.age → has_write key b.acts ≡ false
    older (inl own) = no_rival start lines tid run key sound at own
    older (inr none) = λ u b other was. no_older_writer start lines right run (Read key) none u b was

pub multiversion_by_age : IsByAge Multiversion
multiversion_by_age = record {
  drawn = refl;
  ticket = λ start lines me. refl;
  reads = multiversion_reads;
  writes = λ start lines kind right run key value is.
      let by_rule = ap (λ k. access_reply_by (rule k) start lines run (Write key value)) kind in
      (age_grants start lines right run (Write key value) Reply_is.Done Reply_is.Done refl (is ∙ by_rule)).0;
}
