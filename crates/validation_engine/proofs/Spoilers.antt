-- Who makes a key bad by the index is who makes it bad by the rule.
use Rattle.std.proofs.Common.{◌≡◌, ℕ, ◌≤◌, nat_lt, Bool, true, false, not, ◌&&◌, cond, is_some, Option, Some, None, List, inl, inr, refl, sym, ap, ◌∙◌, arith}
use Rattle.std.proofs.lemmas.Bool.{and_parts, and_from, ltb-true, ltb-false}
use Rattle.std.proofs.lemmas.Option.{same_Some}
use Rattle.mdb_base.specs.declared.names.Engine.TheVariants.{Validation}
use Rattle.mdb_base.specs.declared.names.Key.{Key}
use Rattle.mdb_base.specs.declared.names.Tid.{Tid}
use Rattle.mdb_base.specs.Names.{same_tid}
use Rattle.mdb_base.specs.Words.{map_some, those, greatest}
use Rattle.mdb_base.proofs.ForCallers.{same_tid-equal}
use Rattle.fed_rules.specs.Runs.{Start, EngineLine, Run, run_at, unended, committed_since, is_sealed, number}
use Rattle.fed_rules.specs.Replies.{has_read, has_written, is_other, spoilers}
use Rattle.fed_rules.specs.EngineLines.{IsRight, IsStart}
use Rattle.engine_laws.proofs.ForCallers.{number_is, tid_is}
use Rattle.run_book.specs.declared.rival.Rival.{Rival}
use Rattle.run_book.specs.Rivals.{rival_by}
use Rattle.run_book.proofs.ForCallers.{Is, greatest-empty, greatest-is, greatest-none, is-append, is-append_left, is-append_right, is-those, is-unended, those-is, unended-is}
use Rattle.validation_engine.specs.declared.index.Ended.{Ended}
use Rattle.validation_engine.specs.Index.{Index, sealed_at, last_at}
use Rattle.validation_engine.specs.Rule.{ended_since, or_rival}
use Rattle.validation_engine.specs.Stands.{AreSealed, last_writer}
use Rattle.validation_engine.proofs.Past.{last_past, last_since}

-- the run of the list with the greatest number, by its attempt
pub record IsHighestRun (runs : List Run) (rival : Rival) : Type 0 where
  pub run : Run
  pub is : Is run runs
  pub named : run.tid ≡ rival.tid
  pub numbered : number run ≡ rival.rank
  pub above : (y : Run) → Is y runs → (number y ≤ rival.rank) × (number y ≡ rival.rank → y.tid ≡ rival.tid)

abbrev pub IsHighest : List Run → Option Rival → Type 0
IsHighest runs None = (y : Run) → Is y runs → ⊥
IsHighest runs (Some rival) = IsHighestRun runs rival

-- it is the one that the rule looks for
pub highest-greatest : (runs : List Run) (o : Option Rival) → IsHighest runs o → o ≡ map_some (rival_by number) (greatest number runs)
highest-greatest runs None none = sym (ap (λ (o : Option Run). map_some (rival_by number) o) (greatest-empty number runs none))
highest-greatest runs (Some rival) h = by_greatest (greatest number runs) refl
  where
    by_greatest : (o : Option Run) → greatest number runs ≡ o → Some rival ≡ map_some (rival_by number) o
    by_greatest None e = absurd (greatest-none number runs e h.run h.is)
    by_greatest (Some y) e =
        let found = greatest-is number runs y e in
        let most = found.above h.run h.is in
        let here = h.above y found.is in
        let le = here.0 in
        let ranked = h.numbered in
        let one : number y ≡ rival.rank = omega arith in
        let found_rival : Rival = rival_by number y in
        ap (λ (r : Rival). Some r)
        (ap (λ (t : Tid). let r : Rival = record rival { tid = t } in r) (sym (here.1 one))
        ∙ ap (λ (n : ℕ). let r : Rival = record found_rival { rank = n } in r) (sym one))

-- who is sealed has its serial number
number-some : (run : Run) (o : Option ℕ) → run.sealed ≡ o → is_some o ≡ true → run.sealed ≡ Some (number run)
number-some run None e f = cc
number-some run (Some n) e f = e ∙ ap (λ (m : ℕ). Some m) (sym (number_is run n e))

-- who makes a key bad for a live run
abbrev pub key_spoiler : Index → Run → Key → Option Rival
key_spoiler index me key = or_rival (sealed_at index key) (cond (has_read key me) (ended_since me.age (last_at index key)) None)

module _ (index : Index) (start : Start) (lines : List EngineLine) (kind : start.kind ≡ Validation) (starts : IsStart start) (right : IsRight start lines)
    (are : AreSealed index (run_at start lines)) (last : (key : Key) → last_at index key ≡ last_writer start lines key)
    (me : Run) (at : run_at start lines me.tid ≡ Some me) (live : me.sealed ≡ None) where
  -- a sealed run is another one
  other_run : (u : Tid) (run : Run) (n : ℕ) → run_at start lines u ≡ Some run → run.sealed ≡ Some n → is_other me run ≡ true
  other_run u run n there sealed = by_test (same_tid run.tid me.tid) refl
    where
      by_test : (b : Bool) → same_tid run.tid me.tid ≡ b → not b ≡ true
      by_test true e =
          let mine : u ≡ me.tid = sym (tid_is start lines right u run there) ∙ same_tid-equal run.tid me.tid e in
          let same = same_Some run me (sym there ∙ (ap (λ (t : Tid). run_at start lines t) mine ∙ at)) in
          let bad : Some n ≡ None = sym sealed ∙ (ap (λ (r : Run). r.sealed) same ∙ live) in cc
      by_test false e = refl

  -- the sealed ones that make the key bad are its sealed writer
  sealed_is : (key : Key) (y : Run) → Is y (those (λ run. is_other me run && is_sealed run && has_written key run) (unended start lines)) → sealed_at index key ≡ Some (record { tid = y.tid; rank = number y })
  sealed_is key y member =
      let found = those-is (λ run. is_other me run && is_sealed run && has_written key run) (unended start lines) y member in
      let here = unended-is start lines y found.0 in
      let parts = and_parts (is_other me y && is_sealed y) (has_written key y) found.1 in
      let sealed = number-some y y.sealed refl (and_parts (is_other me y) (is_sealed y) parts.0).1 in
      let named = tid_is start lines right here.0 y here.1 in
      are.back key y.tid (number y) (record { run = y; at = ap (λ (t : Tid). run_at start lines t) named ∙ here.1; sealed = sealed; wrote = parts.1 })

  -- the ended ones are below every sealed writer
  ended_is : (key : Key) (y : Run) → Is y (those (λ run. has_read key me && has_written key run) (committed_since start lines me.tid)) →
      (has_read key me ≡ true) × (ended : Ended) × (last_at index key ≡ Some ended) × (me.age ≤ ended.moment) × (number y ≤ ended.number) × (number y ≡ ended.number → y.tid ≡ ended.tid)
  ended_is key y member =
      let found = those-is (λ run. has_read key me && has_written key run) (committed_since start lines me.tid) y member in
      let parts = and_parts (has_read key me) (has_written key y) found.1 in
      let b = (last_since start lines kind starts right key me.tid me at).below y found.0 parts.1 in
      (parts.0, b.0, last key ∙ b.1, b.2, b.3, b.4)

  sealed_highest : (key : Key) (tid : Tid) (n : ℕ) → sealed_at index key ≡ Some (record { tid = tid; rank = n }) → IsHighestRun (spoilers start lines me key) (record { tid = tid; rank = n })
  sealed_highest key tid n is =
      let w = are.there key tid n is in
      let numbered = number_is w.run n w.sealed in
      let past = those (λ run. has_read key me && has_written key run) (committed_since start lines me.tid) in
      let prepared = those (λ run. is_other me run && is_sealed run && has_written key run) (unended start lines) in
      record {
        run = w.run;
        is = is-append_right w.run past prepared
            (is-those (λ run. is_other me run && is_sealed run && has_written key run) (unended start lines) w.run (is-unended start lines tid w.run right w.at)
            (and_from (is_other me w.run && is_sealed w.run) (has_written key w.run) (and_from (is_other me w.run) (is_sealed w.run) (other_run tid w.run n w.at w.sealed) (ap (λ (o : Option ℕ). is_some o) w.sealed)) w.wrote));
        named = tid_is start lines right tid w.run w.at;
        numbered = numbered;
        above = λ y member. elim (is-append y past prepared member) [
          | inl ended ↦
              let e = ended_is key y ended in
              let below = (last_past start lines kind starts right key e.1 (sym (last key) ∙ e.2)).above tid n w in
              let le = e.4 in
              (omega arith, λ same. absurd (omega arith))
          | inr sealed ↦
              let one = same_Some _ _ (sym (sealed_is key y sealed) ∙ is) in
              let same : number y ≡ n = ap (λ (r : Rival). r.rank) one in
              (omega arith, λ e. ap (λ (r : Rival). r.tid) one)
        ];
      }

  -- where the key has no sealed writer, those that ended count
  none_sealed : (key : Key) (y : Run) → sealed_at index key ≡ None → Is y (spoilers start lines me key) → Is y (those (λ run. has_read key me && has_written key run) (committed_since start lines me.tid))
  none_sealed key y none member =
      elim (is-append y (those (λ run. has_read key me && has_written key run) (committed_since start lines me.tid)) (those (λ run. is_other me run && is_sealed run && has_written key run) (unended start lines)) member) [
        | inl ended ↦ ended
        | inr sealed ↦ let there = sealed_is key y sealed in cc
      ]

  ended_highest : (key : Key) (o : Option Ended) → sealed_at index key ≡ None → has_read key me ≡ true → last_at index key ≡ o → IsHighest (spoilers start lines me key) (ended_since me.age o)
  ended_highest key None none read is = λ y member. let e = ended_is key y (none_sealed key y none member) in let there = e.2 in cc
  ended_highest key (Some ended) none read is = by_moment (nat_lt ended.moment me.age) refl
    where
      same_ended : (y : Run) → Is y (spoilers start lines me key) → (me.age ≤ ended.moment) × (number y ≤ ended.number) × (number y ≡ ended.number → y.tid ≡ ended.tid)
      same_ended y member =
          let e = ended_is key y (none_sealed key y none member) in
          let one : e.1 ≡ ended = same_Some e.1 ended (sym e.2 ∙ is) in
          let moment = ap (λ (x : Ended). x.moment) one in
          let numbered = ap (λ (x : Ended). x.number) one in
          let old = e.3 in
          let le = e.4 in
          (omega arith, omega arith, λ same. e.5 (same ∙ sym numbered) ∙ ap (λ (x : Ended). x.tid) one)

      by_moment : (b : Bool) → nat_lt ended.moment me.age ≡ b → IsHighest (spoilers start lines me key) (cond b None (Some (record { tid = ended.tid; rank = ended.number })))
      by_moment true e = λ y member. let old = (same_ended y member).0 in let lt = ltb-true ended.moment me.age e in absurd (omega arith)
      by_moment false e =
          let old = ltb-false ended.moment me.age e in
          let t = (last_since start lines kind starts right key me.tid me at).there ended (sym (last key) ∙ is) (omega arith) in
          record {
            run = t.0;
            is = is-append_left t.0 _ (those (λ run. is_other me run && is_sealed run && has_written key run) (unended start lines))
                (is-those (λ run. has_read key me && has_written key run) (committed_since start lines me.tid) t.0 t.1 (and_from (has_read key me) (has_written key t.0) read t.2));
            named = t.3;
            numbered = t.4;
            above = λ y member. let s = same_ended y member in (s.1, s.2);
          }

  pub key_highest : (key : Key) → IsHighest (spoilers start lines me key) (key_spoiler index me key)
  key_highest key = by_sealed (sealed_at index key) refl
    where
      by_sealed : (o : Option Rival) → sealed_at index key ≡ o → IsHighest (spoilers start lines me key) (or_rival o (cond (has_read key me) (ended_since me.age (last_at index key)) None))
      by_sealed (Some writer) is = sealed_highest key writer.tid writer.rank is
      by_sealed None none = by_reading (has_read key me) refl
        where
          by_reading : (b : Bool) → has_read key me ≡ b → IsHighest (spoilers start lines me key) (cond b (ended_since me.age (last_at index key)) None)
          by_reading true read = ended_highest key (last_at index key) none read refl
          by_reading false unread = λ y member. let e = ended_is key y (none_sealed key y none member) in let bad : false ≡ true = sym unread ∙ e.0 in cc

  -- the spoiler by the index is the rule's
  pub key_spoiler-rule : (key : Key) → key_spoiler index me key ≡ map_some (rival_by number) (greatest number (spoilers start lines me key))
  key_spoiler-rule key = highest-greatest (spoilers start lines me key) (key_spoiler index me key) (key_highest key)
