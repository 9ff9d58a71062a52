-- The unended runs by their ages, through each line.
use Rattle.std.proofs.Common.{◌≡◌, ℕ, ◌<◌, ◌⊎◌, Bool, true, false, cond, nat_eq, Option, Some, None, List, [], ◌∷◌, inl, inr, refl, sym, ap, ◌∙◌, arith}
use Rattle.std.specs.FinMap.{empty, get, get-empty, insert, remove}
use Rattle.std.specs.Ordering.{nat_cmp}
use Rattle.std.proofs.lemmas.Bool.{cond-true, cond-false, eq-eqb, eqb-true}
use Rattle.std.proofs.lemmas.Option.{same_Some}
use Rattle.mdb_base.specs.declared.names.Tid.{Tid}
use Rattle.mdb_base.specs.Names.{same_tid}
use Rattle.mdb_base.specs.Words.{Each}
use Rattle.mdb_base.proofs.ForCallers.{not_equal, same_tid-equal, same_tid-refl}
use Rattle.fed_rules.specs.declared.runs.Kept.{Kept}
use Rattle.fed_rules.specs.Runs.{Run, restored, restored_at}
use Rattle.fed_rules.specs.EngineLines.{AreApart, AllApart}
use Rattle.run_book.specs.Takers.{ByAge, restored_takers}
use Rattle.multiversion_engine.specs.Unended.{IsOfAge, AreUnended}
use Rattle.run_book.proofs.ForCallers.{get-gone, get-put, restored_back}

-- the runs before and after one of them changes
pub record ChangesOne (runs now : Tid → Option Run) (t : Tid) (was is : Option Run) : Type 0 where
  pub before : runs t ≡ was
  pub after : now t ≡ is
  pub others : (u : Tid) → same_tid t u ≡ false → now u ≡ runs u

module _ (m : ByAge) (runs now : Tid → Option Run) (t : Tid) where
  -- a run goes on with its age
  pub unended_on : (was is : Run) → ChangesOne runs now t (Some was) (Some is) → is.age ≡ was.age → AreUnended m runs → AreUnended m now
  unended_on was is change aged h = record { there = there; back = back }
    where
      there : (age : ℕ) (u : Tid) → get m age ≡ Some u → IsOfAge now u age
      there age u at = by_tid (same_tid t u) refl (h.there age u at)
        where
          by_tid : (b : Bool) → same_tid t u ≡ b → IsOfAge runs u age → IsOfAge now u age
          by_tid true e old =
              let here = same_tid-equal t u e in
              let same : old.run ≡ was = same_Some old.run was (sym old.at ∙ (ap (λ (x : Tid). runs x) (sym here) ∙ change.before)) in
              record {
                run = is;
                at = ap (λ (x : Tid). now x) (sym here) ∙ change.after;
                aged = aged ∙ (ap (λ (r : Run). r.age) (sym same) ∙ old.aged);
              }
          by_tid false e old = record { run = old.run; at = change.others u e ∙ old.at; aged = old.aged }

      back : (u : Tid) (run : Run) → now u ≡ Some run → get m run.age ≡ Some u
      back u run at = by_tid (same_tid t u) refl
        where
          by_tid : (b : Bool) → same_tid t u ≡ b → get m run.age ≡ Some u
          by_tid true e =
              let here = same_tid-equal t u e in
              let same : is ≡ run = same_Some is run (sym change.after ∙ (ap (λ (x : Tid). now x) here ∙ at)) in
              ap (λ (n : ℕ). get m n) (ap (λ (r : Run). r.age) (sym same) ∙ aged) ∙ (h.back t was change.before ∙ ap (λ (x : Tid). Some x) here)
          by_tid false e = h.back u run (sym (change.others u e) ∙ at)

  -- a run begins, younger than all
  pub unended_more : (is : Run) → ChangesOne runs now t None (Some is) → ((u : Tid) (run : Run) → runs u ≡ Some run → run.age < is.age) → AreUnended m runs → AreUnended (insert m is.age t) now
  unended_more is change younger h = record { there = there; back = back }
    where
      there : (age : ℕ) (u : Tid) → get (insert m is.age t) age ≡ Some u → IsOfAge now u age
      there age u at = by_age (nat_eq is.age age) refl (sym (get-put m is.age t age) ∙ at)
        where
          by_tid : (b : Bool) → same_tid t u ≡ b → IsOfAge runs u age → IsOfAge now u age
          by_tid true e old =
              let bad : None ≡ Some old.run = sym change.before ∙ (ap (λ (x : Tid). runs x) (same_tid-equal t u e) ∙ old.at) in cc
          by_tid false e old = record { run = old.run; at = change.others u e ∙ old.at; aged = old.aged }

          by_age : (b : Bool) → nat_eq is.age age ≡ b → cond b (Some t) (get m age) ≡ Some u → IsOfAge now u age
          by_age true e at =
              let here : t ≡ u = cc in
              record { run = is; at = ap (λ (x : Tid). now x) (sym here) ∙ change.after; aged = eqb-true is.age age e }
          by_age false e at = by_tid (same_tid t u) refl (h.there age u at)

      back : (u : Tid) (run : Run) → now u ≡ Some run → get (insert m is.age t) run.age ≡ Some u
      back u run at = by_tid (same_tid t u) refl
        where
          by_tid : (b : Bool) → same_tid t u ≡ b → get (insert m is.age t) run.age ≡ Some u
          by_tid true e =
              let here = same_tid-equal t u e in
              let same : is ≡ run = same_Some is run (sym change.after ∙ (ap (λ (x : Tid). now x) here ∙ at)) in
              get-put m is.age t run.age ∙ (cond-true _ _ _ (eq-eqb is.age run.age (ap (λ (r : Run). r.age) same)) ∙ ap (λ (x : Tid). Some x) here)
          by_tid false e =
              let was = sym (change.others u e) ∙ at in
              get-put m is.age t run.age
              ∙ (cond-false _ _ _ (not_equal is.age run.age (λ same. let less = younger u run was in omega arith)) ∙ h.back u run was)

  -- a run ends
  pub unended_less : (was : Run) → ChangesOne runs now t (Some was) None → ((u : Tid) (run : Run) → runs u ≡ Some run → run.age ≡ was.age → u ≡ t) → AreUnended m runs → AreUnended (remove m was.age) now
  unended_less was change apart h = record { there = there; back = back }
    where
      there : (age : ℕ) (u : Tid) → get (remove m was.age) age ≡ Some u → IsOfAge now u age
      there age u at = by_age (nat_eq was.age age) refl (sym (get-gone m was.age age) ∙ at)
        where
          by_tid : (b : Bool) → same_tid t u ≡ b → nat_eq was.age age ≡ false → IsOfAge runs u age → IsOfAge now u age
          by_tid true e differs old =
              let same : old.run ≡ was = same_Some old.run was (sym old.at ∙ (ap (λ (x : Tid). runs x) (sym (same_tid-equal t u e)) ∙ change.before)) in
              let bad : true ≡ false = sym (eq-eqb was.age age (ap (λ (r : Run). r.age) (sym same) ∙ old.aged)) ∙ differs in cc
          by_tid false e differs old = record { run = old.run; at = change.others u e ∙ old.at; aged = old.aged }

          by_age : (b : Bool) → nat_eq was.age age ≡ b → cond b None (get m age) ≡ Some u → IsOfAge now u age
          by_age true e at = cc
          by_age false e at = by_tid (same_tid t u) refl e (h.there age u at)

      back : (u : Tid) (run : Run) → now u ≡ Some run → get (remove m was.age) run.age ≡ Some u
      back u run at = by_tid (same_tid t u) refl
        where
          by_tid : (b : Bool) → same_tid t u ≡ b → get (remove m was.age) run.age ≡ Some u
          by_tid true e = let bad : None ≡ Some run = sym change.after ∙ (ap (λ (x : Tid). now x) (same_tid-equal t u e) ∙ at) in cc
          by_tid false e =
              let old = sym (change.others u e) ∙ at in
              get-gone m was.age run.age
              ∙ (cond-false _ _ _ (not_equal was.age run.age (λ same.
              let one = apart u run old (sym same) in
              let bad : true ≡ false = sym (same_tid-refl t) ∙ (ap (λ (x : Tid). same_tid t x) (sym one) ∙ e) in cc))
              ∙ h.back u run old)

-- an age at which there is no run
pub no_age : (m : ByAge) (runs : Tid → Option Run) (age : ℕ) → AreUnended m runs → ((u : Tid) (run : Run) → runs u ≡ Some run → run.age < age) → get m age ≡ None
no_age m runs age h younger = by_there (get m age) refl
  where
    by_there : (o : Option Tid) → get m age ≡ o → o ≡ None
    by_there None e = refl
    by_there (Some u) e = let old = h.there age u e in let less = younger u old.run old.at in let is = old.aged in absurd (omega arith)

-- the transactions in doubt
other_tid : (kept : Kept) (more : List Kept) (t : Tid) (run : Run) → Each (AreApart kept) more → restored_at more t ≡ Some run → (same_tid kept.tid t ≡ false) × (nat_eq kept.number run.age ≡ false)
other_tid kept [] t run apart at = cc
other_tid kept (next ∷ more) t run apart at = by_test (same_tid next.tid t) refl at (other_tid kept more t run apart.1)
  where
    differ : (kept.number ≡ next.number) → ⊥
    differ same = elim apart.0.order [ inl less ↦ let l = less.0 in omega arith | inr more ↦ let g = more.0 in omega arith ]

    by_test : (b : Bool) → same_tid next.tid t ≡ b → cond b (Some (restored next)) (restored_at more t) ≡ Some run →
        (restored_at more t ≡ Some run → (same_tid kept.tid t ≡ false) × (nat_eq kept.number run.age ≡ false)) → (same_tid kept.tid t ≡ false) × (nat_eq kept.number run.age ≡ false)
    by_test true e at rest =
        let same = same_Some (restored next) run at in (
          ap (λ (x : Tid). same_tid kept.tid x) (sym (same_tid-equal next.tid t e)) ∙ apart.0.tids,
          ap (λ (n : ℕ). nat_eq kept.number n) (ap (λ (r : Run). r.age) (sym same)) ∙ not_equal kept.number next.number differ,
        )
    by_test false e at rest = rest at

doubtful_there : (doubtful : List Kept) (m : ByAge) (age : ℕ) (t : Tid) → AllApart doubtful → get (restored_takers doubtful m) age ≡ Some t → (get m age ≡ Some t) ⊎ IsOfAge (restored_at doubtful) t age
doubtful_there [] m age t apart at = inl at
doubtful_there (kept ∷ more) m age t apart at = elim (doubtful_there more (insert m kept.number kept.tid) age t apart.1 at) [
  | inl before ↦ by_age (nat_eq kept.number age) refl (sym (get-put m kept.number kept.tid age) ∙ before)
  | inr old ↦
      let other = other_tid kept more t old.run apart.0 old.at in
      inr (record { run = old.run; at = cond-false _ _ _ other.0 ∙ old.at; aged = old.aged })
]
  where
    by_age : (b : Bool) → nat_eq kept.number age ≡ b → cond b (Some kept.tid) (get m age) ≡ Some t → (get m age ≡ Some t) ⊎ IsOfAge (restored_at (kept ∷ more)) t age
    by_age true e at =
        let here : kept.tid ≡ t = cc in
        let same : same_tid kept.tid t ≡ true = ap (λ (x : Tid). same_tid kept.tid x) (sym here) ∙ same_tid-refl kept.tid in
        inr (record { run = restored kept; at = cond-true _ _ _ same; aged = eqb-true kept.number age e })
    by_age false e at = inl at

pub unended_restored : (doubtful : List Kept) → AllApart doubtful → AreUnended (restored_takers doubtful empty) (restored_at doubtful)
unended_restored doubtful apart = record {
  there = λ age t at. elim (doubtful_there doubtful empty age t apart at) [
    | inl none ↦ let bad : None ≡ Some t = sym (get-empty nat_cmp age) ∙ none in cc
    | inr old ↦ old
  ];
  back = λ t run at. restored_back doubtful empty t run apart at;
}
