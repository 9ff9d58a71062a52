-- The replies of a multiversion site, in the words of the field: no read comes too late.
use Rattle.std.proofs.Common.{◌≡◌, ℕ, ◌<◌, ◌≤◌, ◌⊎◌, Bool, true, false, cond, Option, Some, None, List, [], ◌∷◌, refl, sym, ap, ◌∙◌, subst, inl, inr, arith, ltb-true, ltb-false, true≢false}
use Rattle.std.specs.Prelude.{nat_lt}
use Rattle.mdb_base.specs.declared.names.Engine.TheVariants.{Multiversion}
use Rattle.mdb_base.specs.declared.names.Key.{Key}
use Rattle.mdb_base.specs.declared.acts.PlainAct.TheVariants.{Read, Write}
use Rattle.mdb_base.specs.declared.replies.Reply.{Reply}
use Rattle.mdb_base.specs.declared.replies.Reply.TheVariants.{Done, Value, Ticket, Wait, Refused, Unknown}
use Rattle.mdb_base.specs.declared.replies.Why.{Why}
use Rattle.mdb_base.specs.Rows.{Table, look_up}
use Rattle.mdb_base.specs.Words.{greatest}
use Rattle.mdb_base.proofs.ForCallers.{among_some, each_among, greatest_among, greatest_none, some_among}
use Rattle.fed_rules.specs.Runs.{EngineLine, Begins, Acts, Takes, Seals, Refuses, Commits, Aborts, Run, tid_of, gives_up, committed, number, after, table_of}
use Rattle.fed_rules.specs.Replies.{AtBegin, access_stop, rule, granted, granted_by, access_reply_by, seal_stop, has_written, writes, older_writers, younger_in_the_way, age_of, wait_for_writer, or_reply}
use Rattle.fed_rules.specs.SerialRuns.{NumbersFall}
use Rattle.fed_rules.specs.EngineLines.{IsRightLine}
use Rattle.engine_laws.specs.Unended.{has_write}
use Rattle.engine_laws.specs.Laws.{AlwaysBy}
use Rattle.engine_laws.specs.ReplyLaws.{IsAmong, HasWritten, IsOlderWriter, IsYoungerInTheWay, IsInTime, IsOfItsAge, IsVersionBelow, ReadsItsVersion, AnswersByVersion, ReadersPass, AlwaysSeals, is_of_reader}
use Rattle.engine_laws.proofs.Tables.{after_unwritten, after_written}
use Rattle.engine_laws.proofs.ByNumber.{below}
use Rattle.engine_laws.proofs.Granted.{is_grant}
use Rattle.engine_laws.proofs.Drawers.{AllDrew, all_drew, same_age}
use Rattle.engine_laws.proofs.LockingReplies.{granted_is}
use Rattle.engine_laws.proofs.Relations.{Lists, lists_none, in_time_is, no_wait, no_refusal}
use Rattle.engine_laws.proofs.Sound.{IsSound}
use Rattle.engine_laws.proofs.TimestampReplies.{lists_younger, lists_older, drew_younger, one_writer}
use Rattle.engine_laws.proofs.AgeRuns.{age_sound}
use Rattle.engine_laws.proofs.MultiversionRuns.{multiversion_by_age}

-- the runs below a number leave the write of the newest of them
version_below : (items : Table) (n : ℕ) (runs : List Run) (key : Key) → NumbersFall runs
    → IsVersionBelow items runs n key (table_of items (below n runs) key)
version_below items n [] key falls = inr (λ run among. absurd among, refl)
version_below items n (x ∷ xs) key falls = by_test (nat_lt (number x) n) refl (version_below items n xs key falls.1)
  where
    older : (run : Run) → IsAmong run xs → number run < number x
    older run among = each_among (λ other. number other < number x) run xs falls.0 among

    unwritten : has_write key x.acts ≡ false → HasWritten key x → ⊥
    unwritten none wrote = absurd (true≢false (sym (among_some (writes key) x.acts wrote) ∙ none))

    skips : {value : ℕ} → (number x < n → HasWritten key x → ⊥) → IsVersionBelow items xs n key value
        → IsVersionBelow items (x ∷ xs) n key value
    skips out (inl (run, newest, is)) = inl (
      run,
      record {
        among = inr newest.among;
        below = newest.below;
        wrote = newest.wrote;
        newest = λ other among less wrote. elim among [
          | inl same ↦ absurd (out (subst (λ r. number r < n) (sym same) less) (subst (HasWritten key) (sym same) wrote))
          | inr rest ↦ newest.newest other rest less wrote
        ];
      },
      is,
    )
    skips out (inr (none, is)) = inr (
      λ other among less wrote. elim among [
        | inl same ↦ out (subst (λ r. number r < n) (sym same) less) (subst (HasWritten key) (sym same) wrote)
        | inr rest ↦ none other rest less wrote
      ],
      is,
    )

    by_write : (b : Bool) → has_write key x.acts ≡ b → number x < n → IsVersionBelow items xs n key (table_of items (below n xs) key)
        → IsVersionBelow items (x ∷ xs) n key (after x.acts (table_of items (below n xs)) key)
    by_write true wrote less rest = inl (
      x,
      record {
        among = inl refl;
        below = less;
        wrote = some_among (writes key) x.acts wrote;
        newest = λ other among under also. elim among [
          | inl same ↦ subst (λ r. number r ≤ number x) same (omega arith)
          | inr more ↦ let earlier = older other more in omega arith
        ];
      },
      after_written x.acts _ _ key wrote,
    )
    by_write false none less rest =
        subst (IsVersionBelow items (x ∷ xs) n key) (sym (after_unwritten x.acts (table_of items (below n xs)) key none))
        (skips (λ under. unwritten none) rest)

    by_test : (b : Bool) → nat_lt (number x) n ≡ b → IsVersionBelow items xs n key (table_of items (below n xs) key)
        → IsVersionBelow items (x ∷ xs) n key (table_of items (cond b (x ∷ below n xs) (below n xs)) key)
    by_test true is rest = by_write (has_write key x.acts) refl (ltb-true (number x) n is) rest
    by_test false is rest = skips (λ less. absurd (omega (arith, ltb-false (number x) n is))) rest

pub multiversion_versions : AlwaysBy Multiversion ReadsItsVersion
multiversion_versions start lines kind begun right me key = by_own (has_written key me) refl
  where
    falls : NumbersFall (committed start lines)
    falls = (age_sound Multiversion start lines multiversion_by_age kind begun right).falls

    T : Table
    T = table_of (look_up start.rows) (below me.age (committed start lines))

    is : granted start lines me (Read key) ≡ Value (after me.acts T key)
    is = ap (λ k. granted_by (rule k) start lines me (Read key)) kind

    by_own : (b : Bool) → has_written key me ≡ b
        → (HasWritten key me × ((U : Table) → granted start lines me (Read key) ≡ Value (after me.acts U key)))
        ⊎ ((value : ℕ) × (granted start lines me (Read key) ≡ Value value)
        × IsVersionBelow (look_up start.rows) (committed start lines) me.age key value)
    by_own true own = inl (
      some_among (writes key) me.acts own,
      λ U. is ∙ ap (λ v. Value v) (after_written me.acts T U key own),
    )
    by_own false none = inr (
      T key,
      is ∙ ap (λ v. Value v) (after_unwritten me.acts T key none),
      version_below (look_up start.rows) me.age (committed start lines) key falls,
    )

-- a right line of a reader ends nothing
pub multiversion_readers : AlwaysBy Multiversion ReadersPass
multiversion_readers start lines kind begun right line is_line reader ends = by_line line is_line reader ends
  where
    refused : (own : Bool) (older : Option Run) (value : ℕ) (why : Why)
        → Refused why ≡ or_reply (wait_for_writer own older) (Value value) → ⊥
    refused true older value why e = cc
    refused false None value why e = cc
    refused false (Some run) value why e = cc

    by_line : (line : EngineLine) → IsRightLine start lines line → is_of_reader line ≡ true → gives_up line ≡ true
        → line ≡ Aborts (tid_of line)
    by_line (Begins tid n) h reader ends = cc
    by_line (Acts tid (Read key) (Refused why)) (run, (live, is)) reader ends =
        let by_rule = ap (λ k. access_reply_by (rule k) start lines run (Read key)) kind in
        absurd (refused (has_written key run) (greatest age_of (older_writers start lines run (Read key))) _ why (is ∙ by_rule))
    by_line (Acts tid (Read key) (Wait by)) h reader ends = cc
    by_line (Acts tid (Read key) (Value value)) h reader ends = cc
    by_line (Acts tid (Read key) Done) h reader ends = cc
    by_line (Acts tid (Read key) (Ticket n)) h reader ends = cc
    by_line (Acts tid (Read key) Unknown) h reader ends = cc
    by_line (Acts tid (Write key value) reply) h reader ends = cc
    by_line (Takes tid reply) h reader ends = cc
    by_line (Seals tid n) h reader ends = cc
    by_line (Refuses tid why) (run, (live, stop)) reader ends =
        let none : None ≡ Some why = sym (ap (λ k. seal_stop k start lines run) kind) ∙ stop in cc
    by_line (Commits tid) h reader ends = cc
    by_line (Aborts tid) h reader ends = refl

pub multiversion_seals : AlwaysBy Multiversion AlwaysSeals
multiversion_seals start lines kind begun right me = ap (λ k. seal_stop k start lines me) kind

-- the answer to a read, from the older writers in a list
reads_by_version : (Own : Type 0) (O : Run → Type 0) (grant : Reply) (own : Bool) (older : List Run) → Lists older O
    → ((a b : Run) → O a → O b → a.tid ≡ b.tid) → is_grant grant ≡ true → (own ≡ true → Own) → (own ≡ false → Own → ⊥)
    → IsOfItsAge Own O grant (or_reply (wait_for_writer own (greatest age_of older)) grant)
reads_by_version Own O grant true older listed one is mine others =
    record {
      granted = (λ e. inl (mine refl), λ way. refl);
      waits = λ by. (λ e. absurd (no_wait grant by is e), λ (none, rest). absurd (none (mine refl)));
      passes = λ why e. no_refusal grant why is e;
    }
reads_by_version Own O grant false older listed one is mine others = by_older (greatest age_of older) refl
  where
    by_older : (o : Option Run) → greatest age_of older ≡ o → IsOfItsAge Own O grant (or_reply (wait_for_writer false o) grant)
    by_older None e =
        let none = lists_none older O listed (greatest_none age_of older e) in
        record {
          granted = (λ e. inr none, λ way. refl);
          waits = λ by. (λ e. absurd (no_wait grant by is e), λ (out, (run, o, is_by)). absurd (none run o));
          passes = λ why e. no_refusal grant why is e;
        }
    by_older (Some m) e =
        let first = greatest_among O age_of older m listed.only e in
        record {
          granted = (
            λ e. absurd (no_wait grant m.tid is (sym e)),
            λ way. elim way [
              | inl own ↦ absurd (others refl own)
              | inr none ↦ absurd (none m first)
            ],
          );
          waits = λ by. (
            λ e. (others refl, (m, first, cc)),
            λ (out, (run, o, is_by)). ap Wait (one m run first o ∙ sym is_by),
          );
          passes = λ why e. cc;
        }

pub multiversion_answers : AlwaysBy Multiversion AnswersByVersion
multiversion_answers start lines kind begun right = record {
  reads = λ me key.
      let Own = HasWritten key me in
      let Older = IsOlderWriter start lines me (Read key) in
      let grant = granted start lines me (Read key) in
      let by_rule = ap (λ k. or_reply (access_stop k start lines me (Read key)) grant) kind in
      subst (IsOfItsAge Own Older grant) (sym by_rule)
      (reads_by_version Own Older grant (has_written key me) (older_writers start lines me (Read key))
      (lists_older start lines me (Read key) right)
      (λ a b h g. one_writer start lines key a b sound h.unended g.unended h.wrote g.wrote)
      (granted_is start lines me (Read key)) (λ e. some_among (writes key) me.acts e)
      (λ e own. absurd (true≢false (sym (among_some (writes key) me.acts own) ∙ e))));
  writes = λ me key value.
      let act = Write key value in
      let Younger = IsYoungerInTheWay start lines me act in
      let Older = IsOlderWriter start lines me act in
      let grant = granted start lines me act in
      let by_rule = ap (λ k. or_reply (access_stop k start lines me act) grant) kind in
      subst (IsInTime Younger Older grant) (sym by_rule)
      (in_time_is Younger Older grant (younger_in_the_way start lines me act) (older_writers start lines me act)
      (lists_younger start lines me act right) (lists_older start lines me act right)
      (λ a b h g. same_age start lines a b (drew_younger start lines me act a drew h) (drew_younger start lines me act b drew g))
      (λ a b h g. one_writer start lines key a b sound h.unended g.unended h.wrote g.wrote)
      (granted_is start lines me act));
}
  where
    sound : IsSound AtBegin start lines
    sound = age_sound Multiversion start lines multiversion_by_age kind begun right

    drew : AllDrew start lines
    drew = all_drew start lines begun right
