-- Who holds the keys and the ticket, through each line.
use Rattle.std.proofs.Common.{◌≡◌, ℕ, Bool, true, false, ◌&&◌, ◌||◌, cond, is_some, nat_eq, Option, Some, None, List, ◌∷◌, inl, inr, refl, sym, ap, ◌∙◌, subst}
use Rattle.std.specs.FinMap.{get, insert}
use Rattle.std.proofs.lemmas.Bool.{cond-true, cond-false, cases_Bool, eqb-true, eq-eqb, and_from, or_left, or_right}
use Rattle.mdb_base.specs.declared.names.Key.{Key}
use Rattle.mdb_base.specs.declared.names.Tid.{Tid}
use Rattle.mdb_base.specs.Names.{same_tid, same_key}
use Rattle.mdb_base.proofs.ForCallers.{same_tid-equal, same_tid-refl}
use Rattle.mdb_base.specs.Words.{some_of}
use Rattle.fed_rules.specs.Runs.{Start, EngineLine, Run, tid_of, changed, run_at}
use Rattle.fed_rules.specs.Replies.{access_key}
use Rattle.locking_engine.specs.Places.{Place}
use Rattle.locking_engine.specs.Holders.{Holders, place_of, held_by, is_touched}
use Rattle.locking_engine.specs.Stands.{HasDone, AreHolders}
use Rattle.locking_engine.proofs.Places.{same_place, place-equal, holder-put}

-- no two runs are of one age
abbrev pub AgesDiffer : (Tid → Option Run) → Type 0
AgesDiffer runs = (u v : Tid) (a b : Run) → runs u ≡ Some a → runs v ≡ Some b → a.age ≡ b.age → u ≡ v

-- a run that does so with a key goes on as one that does so
pub record GoesOnDoing (does : Key → Run → Bool) (old new : Option Run) : Type 0 where
  pub on : (key : Key) (run : Run) → old ≡ Some run → does key run ≡ true → (now : Run) × (new ≡ Some now) × (does key now ≡ true) × (now.age ≡ run.age)

-- and the other way round
pub record DoesSame (does : Key → Run → Bool) (old new : Option Run) : Type 0 where
  pub on : GoesOnDoing does old new
  pub back : GoesOnDoing does new old

goes_on_same : (does : Key → Run → Bool) (old new : Option Run) → old ≡ new → GoesOnDoing does old new
goes_on_same does old new is = record { on = λ key run at done. (run, sym is ∙ at, done, refl) }

pub does_same : (does : Key → Run → Bool) (old new : Option Run) → old ≡ new → DoesSame does old new
does_same does old new is = record { on = goes_on_same does old new is; back = goes_on_same does new old (sym is) }

pub some_is : (a b : Run) → Some a ≡ Some b → a ≡ b
some_is a b h = cc

goes_on_as : (does : Key → Run → Bool) (a b : Run) → ((key : Key) → does key b ≡ does key a) → b.age ≡ a.age → GoesOnDoing does (Some a) (Some b)
goes_on_as does a b same age = record {
  on = λ key run at done.
      let is = some_is a run at in
      (b, refl, same key ∙ (ap (λ (r : Run). does key r) is ∙ done), age ∙ ap (λ (r : Run). r.age) is);
}

pub does_as : (does : Key → Run → Bool) (a b : Run) → ((key : Key) → does key b ≡ does key a) → b.age ≡ a.age → DoesSame does (Some a) (Some b)
does_as does a b same age = record { on = goes_on_as does a b same age; back = goes_on_as does b a (λ key. sym (same key)) (sym age) }

-- one that does so with no key comes or goes
pub comes_idle : (does : Key → Run → Bool) (run : Run) → ((key : Key) → does key run ≡ false) → DoesSame does None (Some run)
comes_idle does run idle = record {
  on = record { on = λ key r at done. cc };
  back = record { on = λ key r at done. let bad : false ≡ true = sym (idle key) ∙ (ap (λ (x : Run). does key x) (some_is run r at) ∙ done) in cc };
}

pub turn : {does : Key → Run → Bool} {old new : Option Run} → DoesSame does old new → DoesSame does new old
turn s = record { on = s.back; back = s.on }

-- the holders stay where each run does the same
pub holders_same : (does : Key → Run → Bool) (m : Holders) (runs now : Tid → Option Run) → ((u : Tid) → DoesSame does (runs u) (now u)) → AreHolders does m runs → AreHolders does m now
holders_same does m runs now same h = record {
  there = λ key age t at.
      let was = h.there key age t at in
      let goes = (same t).on.on key was.run was.at was.done in
      record { run = goes.0; at = goes.1; done = goes.2; aged = goes.3 ∙ was.aged };
  back = λ t run key at done.
      let was = (same t).back.on key run at done in
      ap (λ (n : ℕ). get m (place_of key n)) (sym was.3) ∙ h.back t was.0 key was.1 was.2;
}

-- through one line: the line's own run and the others
pub each_same : (does : Key → Run → Bool) (start : Start) (older : List EngineLine) (line : EngineLine) (was now : Option Run) → run_at start older (tid_of line) ≡ was → changed line was ≡ now → DoesSame does was now →
    (u : Tid) → DoesSame does (run_at start older u) (run_at start (line ∷ older) u)
each_same does start older line was now at is same u =
    elim (cases_Bool (same_tid (tid_of line) u)) [
      | inl e ↦
          let here = same_tid-equal (tid_of line) u e in
          let before : run_at start older u ≡ was = ap (λ (t : Tid). run_at start older t) (sym here) ∙ at in
          let after : run_at start (line ∷ older) u ≡ now = cond-true _ _ _ e ∙ (ap (λ (o : Option Run). changed line o) before ∙ is) in
          subst (λ (o : Option Run). DoesSame does o (run_at start (line ∷ older) u)) (sym before) (subst (λ (o : Option Run). DoesSame does was o) (sym after) same)
      | inr e ↦ does_same does _ _ (sym (cond-false _ _ _ e))
    ]

pub self_place : (p : Place) → same_place p p ≡ true
self_place p = and_from (nat_eq p.key p.key) (nat_eq p.age p.age) (eq-eqb p.key p.key refl) (eq-eqb p.age p.age refl)

elsewhere : (m : Holders) (p q : Place) (t : Tid) (b : Bool) → same_place q p ≡ false → get (cond b m (insert m p t)) q ≡ get m q
elsewhere m p q t true e = refl
elsewhere m p q t false e = holder-put m p q t ∙ cond-false _ _ _ e

cond_same : (b : Bool) (t : Tid) (o : Option Tid) → o ≡ Some t → cond b (Some t) o ≡ Some t
cond_same true t o e = refl
cond_same false t o e = e

not_released : (b : Bool) (o : Option Tid) (u : Tid) → cond b None o ≡ Some u → (b ≡ false) × (o ≡ Some u)
not_released true o u h = cc
not_released false o u h = (refl, h)

-- a run holds one key more
pub holders_hold : (does : Key → Run → Bool) (m : Holders) (runs now : Tid → Option Run) (t : Tid) (key : Key) (was is : Run) → AgesDiffer runs → AreHolders does m runs →
    runs t ≡ Some was → now t ≡ Some is → is.age ≡ was.age → ((k : Key) → does k is ≡ (same_key key k || does k was)) → ((u : Tid) → same_tid t u ≡ false → now u ≡ runs u) →
    AreHolders does (held_by (place_of key was.age) t m) now
holders_hold does m runs now t key was is apart h before after age adds others = record {
  there = λ k a u at. by_place k a u (same_place (place_of k a) (place_of key was.age)) refl (sym (put k a) ∙ at);
  back = λ u run k at done. by_tid u run k (same_tid t u) refl at done;
}
  where
    p : Place
    p = place_of key was.age

    -- who stands there already is this run
    stands : (o : Option Tid) → get m p ≡ o → get (cond (is_some o) m (insert m p t)) p ≡ Some t
    stands None none = holder-put m p p t ∙ cond-true _ _ _ (self_place p)
    stands (Some u) there =
        let had = h.there key was.age u there in
        let one = apart u t had.run was had.at before had.aged in
        there ∙ ap (λ (x : Tid). Some x) one

    put : (k : Key) (a : ℕ) → get (held_by p t m) (place_of k a) ≡ cond (same_place (place_of k a) p) (Some t) (get m (place_of k a))
    put k a = by_test (same_place (place_of k a) p) refl
      where
        by_test : (b : Bool) → same_place (place_of k a) p ≡ b → get (held_by p t m) (place_of k a) ≡ cond b (Some t) (get m (place_of k a))
        by_test true e = ap (λ (q : Place). get (held_by p t m) q) (place-equal (place_of k a) p e) ∙ stands (get m p) refl
        by_test false e = elsewhere m p (place_of k a) t (is_some (get m p)) e

    goes : (k : Key) (a : ℕ) (u : Tid) → HasDone does runs u k a → HasDone does now u k a
    goes k a u had = by_own (same_tid t u) refl
      where
        by_own : (b : Bool) → same_tid t u ≡ b → HasDone does now u k a
        by_own true e =
            let here = same_tid-equal t u e in
            let run_is : had.run ≡ was = some_is had.run was (sym had.at ∙ (ap (λ (x : Tid). runs x) (sym here) ∙ before)) in
            record {
              run = is;
              at = ap (λ (x : Tid). now x) (sym here) ∙ after;
              done = adds k ∙ or_right (same_key key k) (does k was) (ap (λ (r : Run). does k r) (sym run_is) ∙ had.done);
              aged = age ∙ (ap (λ (r : Run). r.age) (sym run_is) ∙ had.aged);
            }
        by_own false e = record { run = had.run; at = others u e ∙ had.at; done = had.done; aged = had.aged }

    by_place : (k : Key) (a : ℕ) (u : Tid) (b : Bool) → same_place (place_of k a) p ≡ b → cond b (Some t) (get m (place_of k a)) ≡ Some u → HasDone does now u k a
    by_place k a u true e at =
        let here : t ≡ u = cc in
        let place = place-equal (place_of k a) p e in
        let same : same_key key k ≡ true = eq-eqb key.0 k.0 (sym (ap (λ (q : Place). q.key) place)) in
        record {
          run = is;
          at = ap (λ (x : Tid). now x) (sym here) ∙ after;
          done = adds k ∙ or_left (same_key key k) (does k was) same;
          aged = age ∙ sym (ap (λ (q : Place). q.age) place);
        }
    by_place k a u false e at = goes k a u (h.there k a u at)

    by_key : (k : Key) (x y : Bool) → same_key key k ≡ x → does k was ≡ y → (x || y) ≡ true → get (held_by p t m) (place_of k was.age) ≡ Some t
    by_key k true y e f any =
        let place : place_of k was.age ≡ p = ap (λ (n : ℕ). let q : Place = record { key = n; age = was.age } in q) (sym (eqb-true key.0 k.0 e)) in
        ap (λ (q : Place). get (held_by p t m) q) place ∙ stands (get m p) refl
    by_key k false true e f any = put k was.age ∙ cond_same (same_place (place_of k was.age) p) t (get m (place_of k was.age)) (h.back t was k before f)
    by_key k false false e f any = cc

    by_tid : (u : Tid) (run : Run) (k : Key) (b : Bool) → same_tid t u ≡ b → now u ≡ Some run → does k run ≡ true → get (held_by p t m) (place_of k run.age) ≡ Some u
    by_tid u run k true e at done =
        let here = same_tid-equal t u e in
        let run_is : is ≡ run = some_is is run (sym after ∙ (ap (λ (x : Tid). now x) here ∙ at)) in
        let aged : run.age ≡ was.age = ap (λ (r : Run). r.age) (sym run_is) ∙ age in
        ap (λ (n : ℕ). get (held_by p t m) (place_of k n)) aged
        ∙ (by_key k (same_key key k) (does k was) refl refl (sym (adds k) ∙ (ap (λ (r : Run). does k r) run_is ∙ done)) ∙ ap (λ (x : Tid). Some x) here)
    by_tid u run k false e at done =
        let was_at : runs u ≡ Some run = sym (others u e) ∙ at in
        let stood = h.back u run k was_at done in
        put k run.age ∙ not_there u run k (same_place (place_of k run.age) p) refl was_at e stood
      where
        not_there : (u : Tid) (run : Run) (k : Key) (b : Bool) → same_place (place_of k run.age) p ≡ b → runs u ≡ Some run → same_tid t u ≡ false → get m (place_of k run.age) ≡ Some u →
            cond b (Some t) (get m (place_of k run.age)) ≡ Some u
        not_there u run k true f at apart_tids stood =
            let one = apart u t run was at before (ap (λ (q : Place). q.age) (place-equal (place_of k run.age) p f)) in
            let bad : same_tid t u ≡ true = ap (λ (x : Tid). same_tid t x) one ∙ same_tid-refl t in cc
        not_there u run k false f at apart_tids stood = stood

-- a run that ends holds nothing
pub holders_release : (does : Key → Run → Bool) (m new : Holders) (runs now : Tid → Option Run) (t : Tid) (run : Run) → AgesDiffer runs → AreHolders does m runs →
    runs t ≡ Some run → now t ≡ None → ((u : Tid) → same_tid t u ≡ false → now u ≡ runs u) → ((key : Key) → does key run ≡ true → some_of (λ access. same_key (access_key access) key) run.acts ≡ true) →
    ((q : Place) → get new q ≡ cond (is_touched run q) None (get m q)) → AreHolders does new now
holders_release does m new runs now t run apart h before gone others touched released = record {
  there = λ key age u at.
      let left = sym (released (place_of key age)) ∙ at in
      let kept = not_released (is_touched run (place_of key age)) (get m (place_of key age)) u left in
      let had = h.there key age u kept.1 in
      elim (cases_Bool (same_tid t u)) [
        | inl e ↦
            let here = same_tid-equal t u e in
            let run_is : had.run ≡ run = some_is had.run run (sym had.at ∙ (ap (λ (x : Tid). runs x) (sym here) ∙ before)) in
            let aged : nat_eq age run.age ≡ true = eq-eqb age run.age (sym had.aged ∙ ap (λ (r : Run). r.age) run_is) in
            let some = touched key (ap (λ (r : Run). does key r) (sym run_is) ∙ had.done) in
            let bad : true ≡ false = sym (and_from (nat_eq age run.age) _ aged some) ∙ kept.0 in cc
        | inr e ↦ record { run = had.run; at = others u e ∙ had.at; done = had.done; aged = had.aged }
      ];
  back = λ u other key at done.
      elim (cases_Bool (same_tid t u)) [
        | inl e ↦ let bad : None ≡ Some other = sym gone ∙ (ap (λ (x : Tid). now x) (same_tid-equal t u e) ∙ at) in cc
        | inr e ↦
            let was = sym (others u e) ∙ at in
            let free : is_touched run (place_of key other.age) ≡ false = of_another u other was e (nat_eq other.age run.age) refl _ in
            released (place_of key other.age) ∙ (cond-false _ _ _ free ∙ h.back u other key was done)
      ];
}
  where
    of_another : (u : Tid) (other : Run) → runs u ≡ Some other → same_tid t u ≡ false → (b : Bool) → nat_eq other.age run.age ≡ b → (s : Bool) → (b && s) ≡ false
    of_another u other at e true f s =
        let one = apart u t other run at before (eqb-true other.age run.age f) in
        let bad : same_tid t u ≡ true = ap (λ (x : Tid). same_tid t x) one ∙ same_tid-refl t in cc
    of_another u other at e false f s = refl
