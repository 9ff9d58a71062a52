-- Who stands in the way of a run is who the rule looks for.
use Rattle.std.proofs.Common.{◌≡◌, ℕ, ◌≤◌, Bool, true, false, not, ◌&&◌, ◌||◌, cond, nat_eq, nat_lt, Option, Some, None, List, inl, inr, refl, sym, ap, ◌∙◌, subst, arith}
use Rattle.std.proofs.lemmas.Bool.{eqb-true, eq-eqb, ltb-true, ltb-false, and_from, and_parts, or_cases, or_left, or_right}
use Rattle.mdb_base.specs.declared.names.Engine.{Engine}
use Rattle.mdb_base.specs.declared.names.Engine.TheVariants.{Locking}
use Rattle.mdb_base.specs.declared.names.Key.{Key}
use Rattle.mdb_base.specs.declared.names.Tid.{Tid}
use Rattle.mdb_base.specs.declared.acts.PlainAct.{PlainAct}
use Rattle.mdb_base.specs.declared.acts.PlainAct.TheVariants.{Read, Write}
use Rattle.mdb_base.specs.declared.replies.Reply.{Reply}
use Rattle.mdb_base.specs.Names.{same_tid}
use Rattle.mdb_base.proofs.ForCallers.{same_tid-equal, same_tid-refl}
use Rattle.mdb_base.specs.Words.{map_some, those, least}
use Rattle.fed_rules.specs.Runs.{Start, EngineLine, Run, run_at, unended, has_ticket, is_sealed}
use Rattle.fed_rules.specs.Replies.{age_of, is_in_the_way, has_read, has_written, is_other, wait_die, access_stop, ticket_stop}
use Rattle.fed_rules.specs.EngineLines.{IsStart, IsRight}
use Rattle.engine_laws.proofs.ForCallers.{read_conflicts, tid_is, write_conflicts}
use Rattle.run_book.specs.declared.rival.Rival.{Rival}
use Rattle.run_book.specs.Rivals.{rival_by, IsOldest, IsOldestRun}
use Rattle.run_book.proofs.ForCallers.{ages-differ, oldest-least}
use Rattle.locking_engine.specs.Holders.{Holders, IsOldestOther, IsFirstInTheWay, IsStop}
use Rattle.locking_engine.specs.Rule.{stop_by, older_of_two}
use Rattle.locking_engine.specs.Stands.{AreHolders, takes_ticket}
use Rattle.locking_engine.proofs.Holding.{AgesDiffer, some_is}

pub oldest_test : (runs : Tid → Option Run) (test other : Run → Bool) (o : Option Rival) → ((run : Run) → other run ≡ test run) → IsOldest runs test o → IsOldest runs other o
oldest_test runs test other None same none = λ u run at counts. none u run at (sym (same run) ∙ counts)
oldest_test runs test other (Some r) same h =
    record { run = h.run; at = h.at; counts_here = same h.run ∙ h.counts_here; rank = h.rank; below = λ u run at counts. h.below u run at (sym (same run) ∙ counts) }

-- another run is of another age
module _ (runs : Tid → Option Run) (named : (u : Tid) (r : Run) → runs u ≡ Some r → r.tid ≡ u) (apart : AgesDiffer runs) (t : Tid) (me : Run) (here : runs t ≡ Some me) where
  age_of_other : (u : Tid) (run : Run) → runs u ≡ Some run → is_other me run ≡ true → nat_eq run.age me.age ≡ false
  age_of_other u run at other = by_test (nat_eq run.age me.age) refl
    where
      by_test : (b : Bool) → nat_eq run.age me.age ≡ b → b ≡ false
      by_test true e =
          let one = apart u t run me at here (eqb-true run.age me.age e) in
          let same : same_tid run.tid me.tid ≡ true = ap (λ (x : Tid). same_tid x me.tid) (named u run at ∙ (one ∙ sym (named t me here))) ∙ same_tid-refl me.tid in
          let bad : false ≡ true = sym (ap not same) ∙ other in cc
      by_test false e = refl

  other_by_age : (u : Tid) (run : Run) → runs u ≡ Some run → nat_eq run.age me.age ≡ false → is_other me run ≡ true
  other_by_age u run at differs = by_test (same_tid run.tid me.tid) refl
    where
      by_test : (b : Bool) → same_tid run.tid me.tid ≡ b → not b ≡ true
      by_test true e =
          let one : u ≡ t = sym (named u run at) ∙ (same_tid-equal run.tid me.tid e ∙ named t me here) in
          let run_is = some_is run me (sym at ∙ (ap (λ (x : Tid). runs x) one ∙ here)) in
          let bad : true ≡ false = sym (eq-eqb run.age me.age (ap (λ (r : Run). r.age) run_is)) ∙ differs in cc
      by_test false e = refl

  -- the oldest other holder is the oldest other run that does so
  pub oldest_holder : (does : Key → Run → Bool) (m : Holders) (key : Key) (o : Option Rival) → AreHolders does m runs → IsOldestOther m key me.age o → IsOldest runs (λ run. is_other me run && does key run) o
  oldest_holder does m key None h none = λ u run at counts.
      let both = and_parts (is_other me run) (does key run) counts in
      let bad : None ≡ Some u = sym (none run.age (age_of_other u run at both.0)) ∙ h.back u run key at both.1 in cc
  oldest_holder does m key (Some r) h first =
      let had = h.there key r.rank r.tid first.0 in
      let differs : nat_eq had.run.age me.age ≡ false = ap (λ (n : ℕ). nat_eq n me.age) had.aged ∙ first.1 in
      record {
        run = had.run;
        at = had.at;
        counts_here = and_from (is_other me had.run) (does key had.run) (other_by_age r.tid had.run had.at differs) had.done;
        rank = sym had.aged;
        below = λ u run at counts. not_less u run at (and_parts (is_other me run) (does key run) counts) (nat_lt run.age r.rank) refl;
      }
    where
      not_less : (u : Tid) (run : Run) → runs u ≡ Some run → (is_other me run ≡ true) × (does key run ≡ true) → (b : Bool) → nat_lt run.age r.rank ≡ b → r.rank ≤ run.age
      not_less u run at both true e =
          let bad : None ≡ Some u = sym (first.2 run.age (age_of_other u run at both.0) (ltb-true run.age r.rank e)) ∙ h.back u run key at both.1 in cc
      not_less u run at both false e = let ge = ltb-false run.age r.rank e in omega arith

-- of two tests
pub oldest_of_two : (runs : Tid → Option Run) (p q : Run → Bool) (a b : Option Rival) → IsOldest runs p a → IsOldest runs q b → IsOldest runs (λ run. p run || q run) (older_of_two a b)
oldest_of_two runs p q None None none neither = λ u run at counts. elim (or_cases (p run) (q run) counts) [ inl e ↦ none u run at e | inr e ↦ neither u run at e ]
oldest_of_two runs p q None (Some b) none h = record {
  run = h.run;
  at = h.at;
  counts_here = or_right (p h.run) (q h.run) h.counts_here;
  rank = h.rank;
  below = λ u run at counts. elim (or_cases (p run) (q run) counts) [ inl e ↦ absurd (none u run at e) | inr e ↦ h.below u run at e ];
}
oldest_of_two runs p q (Some a) None h none = record {
  run = h.run;
  at = h.at;
  counts_here = or_left (p h.run) (q h.run) h.counts_here;
  rank = h.rank;
  below = λ u run at counts. elim (or_cases (p run) (q run) counts) [ inl e ↦ h.below u run at e | inr e ↦ absurd (none u run at e) ];
}
oldest_of_two runs p q (Some a) (Some b) h g = by_rank (nat_lt b.rank a.rank) refl
  where
    by_rank : (x : Bool) → nat_lt b.rank a.rank ≡ x → IsOldestRun runs (λ run. p run || q run) (cond x b a)
    by_rank true e =
        let lt = ltb-true b.rank a.rank e in
        record {
          run = g.run;
          at = g.at;
          counts_here = or_right (p g.run) (q g.run) g.counts_here;
          rank = g.rank;
          below = λ u run at counts. elim (or_cases (p run) (q run) counts) [ inl f ↦ let le = h.below u run at f in omega arith | inr f ↦ g.below u run at f ];
        }
    by_rank false e =
        let le = ltb-false b.rank a.rank e in
        record {
          run = h.run;
          at = h.at;
          counts_here = or_left (p h.run) (q h.run) h.counts_here;
          rank = h.rank;
          below = λ u run at counts. elim (or_cases (p run) (q run) counts) [ inl f ↦ h.below u run at f | inr f ↦ let more = g.below u run at f in omega arith ];
        }

spread : (x a b : Bool) → (x && (a || b)) ≡ ((x && a) || (x && b))
spread true a b = refl
spread false a b = refl

-- the first in the way is the oldest holder of a conflicting access
pub oldest_in_the_way : (start : Start) (lines : List EngineLine) (readers writers : Holders) (t : Tid) (me : Run) (act : PlainAct) (o : Option Rival) → IsStart start → IsRight start lines →
    run_at start lines t ≡ Some me → AreHolders has_read readers (run_at start lines) → AreHolders has_written writers (run_at start lines) → IsFirstInTheWay readers writers me.age act o →
    IsOldest (run_at start lines) (λ run. is_other me run && is_in_the_way act run) o
oldest_in_the_way start lines readers writers t me (Read key) o starts right at rs ws first =
    oldest_test (run_at start lines) (λ run. is_other me run && has_written key run) (λ run. is_other me run && is_in_the_way (Read key) run) o
    (λ run. ap (λ (b : Bool). is_other me run && b) (read_conflicts key run.acts))
    (oldest_holder (run_at start lines) (tid_is start lines right) (λ u v a b h k e. ages-differ start lines u v a b starts right h k e) t me at has_written writers key o ws first)
oldest_in_the_way start lines readers writers t me (Write key v) o starts right at rs ws (r, w, first_read, first_write, is) =
    let runs = run_at start lines in
    let apart : AgesDiffer runs = λ u v a b h k e. ages-differ start lines u v a b starts right h k e in
    oldest_test runs (λ run. (is_other me run && has_read key run) || (is_other me run && has_written key run)) (λ run. is_other me run && is_in_the_way (Write key v) run) o
    (λ run. ap (λ (b : Bool). is_other me run && b) (write_conflicts key v run.acts) ∙ spread (is_other me run) (has_read key run) (has_written key run))
    (subst (λ (x : Option Rival). IsOldest runs (λ run. (is_other me run && has_read key run) || (is_other me run && has_written key run)) x) (sym is)
    (oldest_of_two runs (λ run. is_other me run && has_read key run) (λ run. is_other me run && has_written key run) r w
    (oldest_holder runs (tid_is start lines right) apart t me at has_read readers key r rs first_read)
    (oldest_holder runs (tid_is start lines right) apart t me at has_written writers key w ws first_write)))

-- wait-die by the rival is wait-die by the run
stop_by-wait_die : (me : Run) (o : Option Run) → stop_by me.age (map_some (rival_by age_of) o) ≡ wait_die me o
stop_by-wait_die me None = refl
stop_by-wait_die me (Some oldest) = refl

pub stop-oldest : (start : Start) (lines : List EngineLine) (me : Run) (test : Run → Bool) (o : Option Rival) → IsStart start → IsRight start lines → IsOldest (run_at start lines) test o →
    stop_by me.age o ≡ wait_die me (least age_of (those test (unended start lines)))
stop-oldest start lines me test o starts right oldest =
    ap (λ (x : Option Rival). stop_by me.age x) (oldest-least start lines test o starts right oldest) ∙ stop_by-wait_die me (least age_of (those test (unended start lines)))

-- what stops an access by the holders is what stops it by the rule
pub stop_is : (start : Start) (lines : List EngineLine) (readers writers : Holders) (t : Tid) (me : Run) (act : PlainAct) (stop : Option Reply) → start.kind ≡ Locking → IsStart start → IsRight start lines →
    run_at start lines t ≡ Some me → AreHolders has_read readers (run_at start lines) → AreHolders has_written writers (run_at start lines) → IsStop readers writers me.age act stop →
    stop ≡ access_stop start.kind start lines me act
stop_is start lines readers writers t me act stop kind starts right at rs ws (o, first, is) =
    is ∙ (stop-oldest start lines me (λ run. is_other me run && is_in_the_way act run) o starts right (oldest_in_the_way start lines readers writers t me act o starts right at rs ws first)
    ∙ sym (ap (λ (k : Engine). access_stop k start lines me act) kind))

-- the ticket's taker is another one, where the run has none
others_take : (runs : Tid → Option Run) (named : (u : Tid) (r : Run) → runs u ≡ Some r → r.tid ≡ u) (t : Tid) (me : Run) (o : Option Rival) → runs t ≡ Some me → takes_ticket me ≡ false →
    IsOldest runs takes_ticket o → IsOldest runs (λ run. is_other me run && has_ticket run && not (is_sealed run)) o
others_take runs named t me None here idle none = λ u run at counts. none u run at (weaker (is_other me run) (has_ticket run) (not (is_sealed run)) counts)
  where
    weaker : (x y z : Bool) → (x && y && z) ≡ true → (y && z) ≡ true
    weaker true true true e = refl
    weaker true true false e = cc
    weaker true false z e = cc
    weaker false y z e = cc
others_take runs named t me (Some r) here idle h = record {
  run = h.run;
  at = h.at;
  counts_here = stronger (is_other me h.run) (has_ticket h.run) (not (is_sealed h.run)) (by_test (same_tid h.run.tid me.tid) refl) h.counts_here;
  rank = h.rank;
  below = λ u run at counts. h.below u run at (weaker (is_other me run) (has_ticket run) (not (is_sealed run)) counts);
}
  where
    weaker : (x y z : Bool) → (x && y && z) ≡ true → (y && z) ≡ true
    weaker true true true e = refl
    weaker true true false e = cc
    weaker true false z e = cc
    weaker false y z e = cc

    stronger : (x y z : Bool) → x ≡ true → (y && z) ≡ true → (x && y && z) ≡ true
    stronger true true true e f = refl
    stronger true true false e f = cc
    stronger true false z e f = cc
    stronger false y z e f = cc

    by_test : (b : Bool) → same_tid h.run.tid me.tid ≡ b → not b ≡ true
    by_test true e =
        let one : r.tid ≡ t = sym (named r.tid h.run h.at) ∙ (same_tid-equal h.run.tid me.tid e ∙ named t me here) in
        let run_is = some_is h.run me (sym h.at ∙ (ap (λ (x : Tid). runs x) one ∙ here)) in
        let bad : true ≡ false = sym h.counts_here ∙ (ap (λ (x : Run). takes_ticket x) run_is ∙ idle) in cc
    by_test false e = refl

pub ticket_stop_is : (start : Start) (lines : List EngineLine) (t : Tid) (me : Run) (o : Option Rival) → start.kind ≡ Locking → IsStart start → IsRight start lines → run_at start lines t ≡ Some me →
    takes_ticket me ≡ false → IsOldest (run_at start lines) takes_ticket o → stop_by me.age o ≡ ticket_stop start.kind start lines me
ticket_stop_is start lines t me o kind starts right at idle taker =
    stop-oldest start lines me (λ run. is_other me run && has_ticket run && not (is_sealed run)) o starts right (others_take (run_at start lines) (tid_is start lines right) t me o at idle taker)
    ∙ sym (ap (λ (k : Engine). ticket_stop k start lines me) kind)
