-- The index of writers through a line: who is the sealed writer of each key, and which keys have an entry.
use Rattle.std.proofs.Common.{◌≡◌, ℕ, ◌⊎◌, Bool, true, false, cond, is_some, Option, Some, None, List, inl, inr, refl, sym, ap, ◌∙◌, subst}
use Rattle.std.specs.FinMap.{get, insert}
use Rattle.std.proofs.lemmas.Bool.{cond-true, cond-false, cases_Bool, eqb-true}
use Rattle.std.proofs.lemmas.Option.{same_Some}
use Rattle.mdb_base.specs.declared.names.Key.{Key}
use Rattle.mdb_base.specs.declared.names.Tid.{Tid}
use Rattle.mdb_base.specs.Names.{same_tid, same_key}
use Rattle.mdb_base.specs.Words.{some_of, map_some, or_else}
use Rattle.mdb_base.proofs.ForCallers.{same_key-refl, same_tid-equal, same_tid-refl}
use Rattle.fed_rules.specs.Runs.{Access, Run}
use Rattle.fed_rules.specs.Replies.{writes, has_written}
use Rattle.run_book.specs.declared.rival.Rival.{Rival}
use Rattle.validation_engine.specs.declared.index.Writers.{Writers}
use Rattle.validation_engine.specs.declared.index.Change.{Change}
use Rattle.validation_engine.specs.Index.{Index, nobody, writers_at, sealed_at, last_at, has_entry, with_key, changed_by, IsChanged}
use Rattle.validation_engine.specs.Stands.{IsSealedWriter, AreSealed, HaveEntries}
use Rattle.validation_engine.proofs.Entries.{entry-put}

pub writer_as : (o p : Option Run) (key : Key) (n : ℕ) → o ≡ p → IsSealedWriter o key n → IsSealedWriter p key n
writer_as o p key n same w = subst (λ (x : Option Run). IsSealedWriter x key n) same w

-- a live run is no sealed writer, nor is none at all
abbrev pub IsUnsealed : Option Run → Type 0
IsUnsealed o = (key : Key) (n : ℕ) → IsSealedWriter o key n → ⊥

pub unsealed_live : (o : Option Run) (run : Run) → o ≡ Some run → run.sealed ≡ None → IsUnsealed o
unsealed_live o run at live key n w =
    let same = same_Some w.run run (sym w.at ∙ at) in
    let bad : Some n ≡ None = sym w.sealed ∙ (ap (λ (r : Run). r.sealed) same ∙ live) in cc

pub unsealed_none : (o : Option Run) → o ≡ None → IsUnsealed o
unsealed_none o none key n w = let bad : None ≡ Some w.run = sym none ∙ w.at in cc

-- the index is kept: the same writers, and no entry less
pub record IsKept (old new : Index) : Type 0 where
  pub sealed : (key : Key) → sealed_at new key ≡ sealed_at old key
  pub last : (key : Key) → last_at new key ≡ last_at old key
  pub entries : (key : Key) → has_entry old key ≡ true → has_entry new key ≡ true

pub kept_same : (m : Index) → IsKept m m
kept_same m = record { sealed = λ key. refl; last = λ key. refl; entries = λ key e. e }

-- one entry more without writers
get-added : (m : Index) (key k : Key) → (get (with_key key m) k.0 ≡ get m k.0) ⊎ ((get m k.0 ≡ None) × (get (with_key key m) k.0 ≡ Some nobody))
get-added m key k = by_there (get m key.0) refl
  where
    by_key : (b : Bool) → same_key key k ≡ b → get m key.0 ≡ None → get (insert m key.0 nobody) k.0 ≡ cond b (Some nobody) (get m k.0) →
        (get (insert m key.0 nobody) k.0 ≡ get m k.0) ⊎ ((get m k.0 ≡ None) × (get (insert m key.0 nobody) k.0 ≡ Some nobody))
    by_key true e none put = inr (ap (λ (q : ℕ). get m q) (sym (eqb-true key.0 k.0 e)) ∙ none, put)
    by_key false e none put = inl put

    by_there : (o : Option Writers) → get m key.0 ≡ o → (get (cond (is_some o) m (insert m key.0 nobody)) k.0 ≡ get m k.0) ⊎ ((get m k.0 ≡ None) × (get (cond (is_some o) m (insert m key.0 nobody)) k.0 ≡ Some nobody))
    by_there (Some w) is = inl refl
    by_there None none = by_key (same_key key k) refl none (entry-put m key.0 k.0 nobody)

writers-added : (m : Index) (key k : Key) → writers_at (with_key key m) k ≡ writers_at m k
writers-added m key k =
    elim (get-added m key k) [
      | inl same ↦ ap (λ (o : Option Writers). or_else o nobody) same
      | inr new ↦ ap (λ (o : Option Writers). or_else o nobody) new.1 ∙ sym (ap (λ (o : Option Writers). or_else o nobody) new.0)
    ]

pub kept_added : (m : Index) (key : Key) → IsKept m (with_key key m)
kept_added m key = record {
  sealed = λ k. ap (λ (w : Writers). w.sealed) (writers-added m key k);
  last = λ k. ap (λ (w : Writers). w.last) (writers-added m key k);
  entries = λ k there. elim (get-added m key k) [
    | inl same ↦ ap (λ (o : Option Writers). is_some o) same ∙ there
    | inr new ↦ ap (λ (o : Option Writers). is_some o) new.1
  ];
}

pub added_has : (m : Index) (key : Key) → has_entry (with_key key m) key ≡ true
added_has m key =
    elim (cases_Bool (has_entry m key)) [
      | inl e ↦ ap (λ (i : Index). has_entry i key) (cond-true _ m _ e) ∙ e
      | inr e ↦ ap (λ (i : Index). has_entry i key) (cond-false _ m _ e) ∙ ap (λ (o : Option Writers). is_some o) (entry-put m key.0 key.0 nobody ∙ cond-true _ _ _ (same_key-refl key))
    ]

-- the writers of a key after a change, which has an entry where a run wrote it
writers-changed : (change : Change) (acts : List Access) (old new : Index) (key : Key) → IsChanged change acts old new → (some_of (writes key) acts ≡ true → has_entry old key ≡ true) →
    writers_at new key ≡ cond (some_of (writes key) acts) (changed_by change (writers_at old key)) (writers_at old key)
writers-changed change acts old new key changed has = ap (λ (o : Option Writers). or_else o nobody) (changed key) ∙ by_wrote (some_of (writes key) acts) refl (get old key.0) refl
  where
    by_wrote : (b : Bool) → some_of (writes key) acts ≡ b → (o : Option Writers) → get old key.0 ≡ o → or_else (cond b (map_some (changed_by change) o) o) nobody ≡ cond b (changed_by change (or_else o nobody)) (or_else o nobody)
    by_wrote true done (Some w) is = refl
    by_wrote true done None none = let bad : false ≡ true = sym (ap (λ (o : Option Writers). is_some o) none) ∙ has done in cc
    by_wrote false done o is = refl

cond_sealed : (b : Bool) (x y : Writers) → (cond b x y).sealed ≡ cond b x.sealed y.sealed
cond_sealed true x y = refl
cond_sealed false x y = refl

cond_last : (b : Bool) (x y : Writers) → (cond b x y).last ≡ cond b x.last y.last
cond_last true x y = refl
cond_last false x y = refl

pub sealed-changed : (change : Change) (acts : List Access) (old new : Index) (key : Key) → IsChanged change acts old new → (some_of (writes key) acts ≡ true → has_entry old key ≡ true) →
    sealed_at new key ≡ cond (some_of (writes key) acts) (changed_by change (writers_at old key)).sealed (sealed_at old key)
sealed-changed change acts old new key changed has = ap (λ (w : Writers). w.sealed) (writers-changed change acts old new key changed has) ∙ cond_sealed (some_of (writes key) acts) _ _

pub last-changed : (change : Change) (acts : List Access) (old new : Index) (key : Key) → IsChanged change acts old new → (some_of (writes key) acts ≡ true → has_entry old key ≡ true) →
    last_at new key ≡ cond (some_of (writes key) acts) (changed_by change (writers_at old key)).last (last_at old key)
last-changed change acts old new key changed has = ap (λ (w : Writers). w.last) (writers-changed change acts old new key changed has) ∙ cond_last (some_of (writes key) acts) _ _

-- a change makes and takes no entry
pub entries-changed : (change : Change) (acts : List Access) (old new : Index) (key : Key) → IsChanged change acts old new → has_entry old key ≡ true → has_entry new key ≡ true
entries-changed change acts old new key changed has = ap (λ (o : Option Writers). is_some o) (changed key) ∙ (by_wrote (some_of (writes key) acts) (get old key.0) ∙ has)
  where
    by_wrote : (b : Bool) (o : Option Writers) → is_some (cond b (map_some (changed_by change) o) o) ≡ is_some o
    by_wrote true None = refl
    by_wrote true (Some w) = refl
    by_wrote false o = refl

-- one attempt's run goes on, and the others stay
module _ (runs now : Tid → Option Run) (t : Tid) (others : (u : Tid) → same_tid t u ≡ false → now u ≡ runs u) where
  -- neither before nor after is it a sealed writer
  pub sealed_idle : (m new : Index) → AreSealed m runs → IsUnsealed (runs t) → IsUnsealed (now t) → ((key : Key) → sealed_at new key ≡ sealed_at m key) → AreSealed new now
  sealed_idle m new are before after same = record {
    there = λ key u n at.
        let w = are.there key u n (sym (same key) ∙ at) in
        elim (cases_Bool (same_tid t u)) [
          | inl e ↦ absurd (before key n (writer_as _ _ key n (ap (λ (x : Tid). runs x) (sym (same_tid-equal t u e))) w))
          | inr e ↦ writer_as _ _ key n (sym (others u e)) w
        ];
    back = λ key u n w.
        elim (cases_Bool (same_tid t u)) [
          | inl e ↦ absurd (after key n (writer_as _ _ key n (ap (λ (x : Tid). now x) (sym (same_tid-equal t u e))) w))
          | inr e ↦ same key ∙ are.back key u n (writer_as _ _ key n (others u e) w)
        ];
  }

  -- it is one no longer
  pub sealed_withdrawn : (m new : Index) (run : Run) (n : ℕ) → AreSealed m runs → runs t ≡ Some run → run.sealed ≡ Some n → IsUnsealed (now t) →
      ((key : Key) → sealed_at new key ≡ cond (has_written key run) None (sealed_at m key)) → AreSealed new now
  sealed_withdrawn m new run n are at sealed after left = record {
    there = λ key u k stands.
        let kept = not_gone (has_written key run) (sealed_at m key) (record { tid = u; rank = k }) (sym (left key) ∙ stands) in
        let w = are.there key u k kept.1 in
        elim (cases_Bool (same_tid t u)) [
          | inl e ↦
              let same = same_Some w.run run (sym w.at ∙ (ap (λ (x : Tid). runs x) (sym (same_tid-equal t u e)) ∙ at)) in
              let bad : false ≡ true = sym kept.0 ∙ (ap (λ (r : Run). has_written key r) (sym same) ∙ w.wrote) in cc
          | inr e ↦ writer_as _ _ key k (sym (others u e)) w
        ];
    back = λ key u k w.
        elim (cases_Bool (same_tid t u)) [
          | inl e ↦ absurd (after key k (writer_as _ _ key k (ap (λ (x : Tid). now x) (sym (same_tid-equal t u e))) w))
          | inr e ↦
              let stands = are.back key u k (writer_as _ _ key k (others u e) w) in
              left key ∙ (cond-false _ _ _ (not_both key u k e stands (has_written key run) refl) ∙ stands)
        ];
  }
    where
      not_gone : (b : Bool) (o : Option Rival) (r : Rival) → cond b None o ≡ Some r → (b ≡ false) × (o ≡ Some r)
      not_gone true o r h = cc
      not_gone false o r h = (refl, h)

      not_both : (key : Key) (u : Tid) (k : ℕ) → same_tid t u ≡ false → sealed_at m key ≡ Some (record { tid = u; rank = k }) → (b : Bool) → has_written key run ≡ b → b ≡ false
      not_both key u k e stands true done =
          let mine = are.back key t n (record { run = run; at = at; sealed = sealed; wrote = done }) in
          let one : t ≡ u = ap (λ (r : Rival). r.tid) (same_Some _ _ (sym mine ∙ stands)) in
          let bad : true ≡ false = sym (same_tid-refl t) ∙ (ap (λ (x : Tid). same_tid t x) one ∙ e) in cc
      not_both key u k e stands false done = refl

  -- it becomes one
  pub sealed_on : (m new : Index) (run sealed_run : Run) (n : ℕ) → AreSealed m runs → runs t ≡ Some run → run.sealed ≡ None → now t ≡ Some sealed_run → sealed_run.sealed ≡ Some n →
      ((key : Key) → has_written key sealed_run ≡ has_written key run) → ((key : Key) (u : Tid) (k : ℕ) → IsSealedWriter (now t) key n → IsSealedWriter (now u) key k → t ≡ u) →
      ((key : Key) → sealed_at new key ≡ cond (has_written key run) (Some (record { tid = t; rank = n })) (sealed_at m key)) → AreSealed new now
  sealed_on m new run sealed_run n are at live after sealed same_keys one put = record {
    there = λ key u k stands. by_wrote key u k (has_written key run) refl (sym (put key) ∙ stands);
    back = λ key u k w.
        elim (cases_Bool (same_tid t u)) [
          | inl e ↦
              let here = same_tid-equal t u e in
              let same = same_Some w.run sealed_run (sym w.at ∙ (ap (λ (x : Tid). now x) (sym here) ∙ after)) in
              let number : n ≡ k = same_Some n k (sym sealed ∙ (ap (λ (r : Run). r.sealed) (sym same) ∙ w.sealed)) in
              let done : has_written key run ≡ true = sym (same_keys key) ∙ (ap (λ (r : Run). has_written key r) (sym same) ∙ w.wrote) in
              put key ∙ (cond-true _ _ _ done
              ∙ (ap (λ (x : Tid). Some (record { tid = x; rank = n })) here ∙ ap (λ (x : ℕ). Some (record { tid = u; rank = x })) number))
          | inr e ↦ put key ∙ (cond-false _ _ _ (not_both key u k e w (has_written key run) refl) ∙ are.back key u k (writer_as _ _ key k (others u e) w))
        ];
  }
    where
      mine : (key : Key) → has_written key run ≡ true → IsSealedWriter (now t) key n
      mine key done = record { run = sealed_run; at = after; sealed = sealed; wrote = same_keys key ∙ done }

      not_both : (key : Key) (u : Tid) (k : ℕ) → same_tid t u ≡ false → IsSealedWriter (now u) key k → (b : Bool) → has_written key run ≡ b → b ≡ false
      not_both key u k e w true done =
          let same = one key u k (mine key done) w in
          let bad : true ≡ false = sym (same_tid-refl t) ∙ (ap (λ (x : Tid). same_tid t x) same ∙ e) in cc
      not_both key u k e w false done = refl

      by_wrote : (key : Key) (u : Tid) (k : ℕ) (b : Bool) → has_written key run ≡ b → cond b (Some (record { tid = t; rank = n })) (sealed_at m key) ≡ Some (record { tid = u; rank = k }) → IsSealedWriter (now u) key k
      by_wrote key u k true done stands =
          let r = same_Some _ _ stands in
          let here : t ≡ u = ap (λ (x : Rival). x.tid) r in
          let number : n ≡ k = ap (λ (x : Rival). x.rank) r in
          subst (λ (x : Tid). IsSealedWriter (now x) key k) here (subst (λ (x : ℕ). IsSealedWriter (now t) key x) number (mine key done))
      by_wrote key u k false done stands =
          let w = are.there key u k stands in
          elim (cases_Bool (same_tid t u)) [
            | inl e ↦ absurd (unsealed_live (runs t) run at live key k (writer_as _ _ key k (ap (λ (x : Tid). runs x) (sym (same_tid-equal t u e))) w))
            | inr e ↦ writer_as _ _ key k (sym (others u e)) w
          ]

  -- each key that it wrote has an entry
  pub entries_on : (m new : Index) → HaveEntries m runs → ((key : Key) → has_entry m key ≡ true → has_entry new key ≡ true) →
      ((run : Run) (key : Key) → now t ≡ Some run → has_written key run ≡ true → has_entry new key ≡ true) → HaveEntries new now
  entries_on m new have stays own u run key at done =
      elim (cases_Bool (same_tid t u)) [
        | inl e ↦ own run key (ap (λ (x : Tid). now x) (same_tid-equal t u e) ∙ at) done
        | inr e ↦ stays key (have u run key (sym (others u e) ∙ at) done)
      ]
