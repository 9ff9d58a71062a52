-- The old versions through a commit: each run that isn't ended still finds its own, also once those are dropped that no run reads.
use Rattle.std.proofs.Common.{◌≡◌, ℕ, ◌<◌, ◌≤◌, Bool, true, false, cond, nat_lt, Option, Some, None, IsSome, List, ◌∷◌, inl, inr, refl, sym, ap, ◌∙◌, subst, arith}
use Rattle.std.specs.FinMap.{get}
use Rattle.std.proofs.lemmas.Bool.{cond-true, cond-false, ltb-true, ltb-false, lt-ltb}
use Rattle.mdb_base.specs.declared.names.Engine.TheVariants.{Multiversion}
use Rattle.mdb_base.specs.declared.names.Key.{Key}
use Rattle.mdb_base.specs.declared.names.Tid.{Tid}
use Rattle.mdb_base.specs.Names.{same_tid}
use Rattle.mdb_base.specs.Words.{Each}
use Rattle.fed_rules.specs.Runs.{Start, EngineLine, Commits, Run, run_at, committed, number}
use Rattle.fed_rules.specs.Replies.{AtBegin, has_written}
use Rattle.fed_rules.specs.EngineLines.{IsStart, IsRight}
use Rattle.engine_laws.specs.Unended.{has_write}
use Rattle.engine_laws.proofs.ForCallers.{IsSound, StaysClear, age_sound, aged, at_line, below, clear_unwritten, committed_is, falls_inserted, multiversion_by_age, number_is}
use Rattle.site_tables.specs.declared.versions.Version.{Version}
use Rattle.site_tables.specs.Numbers.{number_of}
use Rattle.site_tables.specs.Tables.{is_newer, written}
use Rattle.run_book.specs.Held.{own_write}
use Rattle.run_book.specs.Tables.{kept_after}
use Rattle.run_book.proofs.ForCallers.{kept-by_number}
use Rattle.multiversion_engine.specs.declared.old_versions.Place.{Place}
use Rattle.multiversion_engine.specs.OldVersions.{Olds, place_of, IsUnread, Prunes, writes_key}
use Rattle.run_book.specs.Takers.{ByAge}
use Rattle.multiversion_engine.specs.Versions.{newest, version_below, IsThere, AreVersions}
use Rattle.multiversion_engine.proofs.KeptBelow.{newest-below, below-less, written-grows, written-least, kept-below, no_own, some_own, newer_clear}
use Rattle.multiversion_engine.proofs.Versions.{age_some}

module _ (olds : Olds) (start : Start) (older : List EngineLine) (tid : Tid) (run : Run) (kind : start.kind ≡ Multiversion) (starts : IsStart start) (right : IsRight start (Commits tid ∷ older))
    (at_run : run_at start older tid ≡ Some run) (h : AreVersions olds start older) where
  sound : IsSound AtBegin start older
  sound = age_sound Multiversion start older multiversion_by_age kind starts right.1

  sealed : (n : ℕ) × (run.sealed ≡ Some n)
  sealed =
      let (other, n, is) = right.0 in
      let same : Some other ≡ Some run = sym is.0 ∙ at_run in
      let one : other ≡ run = cc in (n, subst (λ x. x.sealed ≡ Some n) one is.1)

  age_is : number run ≡ run.age
  age_is = number_is run sealed.0 sealed.1 ∙ (aged Multiversion start older refl kind right.1).unended tid run at_run sealed.0 sealed.1

  some : 0 < number run
  some = let positive = age_some start older tid run starts right.1 at_run in let is = age_is in omega arith

  clear : Each (StaysClear run.acts (number run)) (committed start older)
  clear = subst (λ m. Each (StaysClear run.acts m) (committed start older)) (sym age_is) (sound.clear tid run at_run run.age refl)

  -- the newest version and those that runs read, behind the commit
  newest_after : (key : Key) → newest start (Commits tid ∷ older) key ≡ written (number run) (own_write key run.acts) (newest start older key)
  newest_after key =
      ap (λ runs. kept_after start.rows runs key) (committed_is start older tid run at_run)
      ∙ kept-by_number start.rows run (committed start older) key some (falls_inserted run (committed start older) clear sound.falls)

  below_after : (n : ℕ) (key : Key) → version_below start (Commits tid ∷ older) n key
      ≡ cond (nat_lt (number run) n) (written (number run) (own_write key run.acts) (version_below start older n key)) (version_below start older n key)
  below_after n key =
      ap (λ runs. kept_after start.rows (below n runs) key) (committed_is start older tid run at_run)
      ∙ kept-below start.rows run (committed start older) n key some clear sound.falls

  pub grows : (n : ℕ) (key : Key) → number_of (version_below start older n key) ≤ number_of (version_below start (Commits tid ∷ older) n key)
  grows n key = subst (λ (v : Option Version). number_of (version_below start older n key) ≤ number_of v) (sym (below_after n key)) (by_test (nat_lt (number run) n))
    where
      by_test : (b : Bool) → number_of (version_below start older n key)
          ≤ number_of (cond b (written (number run) (own_write key run.acts) (version_below start older n key)) (version_below start older n key))
      by_test true = written-grows (number run) (own_write key run.acts) (version_below start older n key)
      by_test false = omega arith

  -- who is above the number of the commit reads no earlier version of a key that it wrote
  least : (n : ℕ) (key : Key) → number run < n → has_write key run.acts ≡ true → number run ≤ number_of (version_below start (Commits tid ∷ older) n key)
  least n key above wrote =
      let (value, is) = some_own key run.acts wrote in
      let after : version_below start (Commits tid ∷ older) n key ≡ written (number run) (Some value) (version_below start older n key) =
      below_after n key
      ∙ (cond-true _ _ _ (lt-ltb (number run) n above) ∙ ap (λ (o : Option ℕ). written (number run) o (version_below start older n key)) is) in
      subst (λ (v : Option Version). number run ≤ number_of v) (sym after) (written-least (number run) value (version_below start older n key))

  -- no other unended run has written a key that the run wrote
  alone : (u : Tid) (r : Run) (key : Key) → same_tid tid u ≡ false → run_at start older u ≡ Some r → has_write key run.acts ≡ true → has_write key r.acts ≡ true → ⊥
  alone u r key other at mine its = elim (sound.apart tid u run r other at_run at run.age r.age refl refl) [
    | inl (less, also) ↦ let bad : false ≡ true = sym (clear_unwritten run.acts r.acts key also mine) ∙ its in cc
    | inr (less, also) ↦ let bad : false ≡ true = sym (clear_unwritten r.acts run.acts key also its) ∙ mine in cc
  ]

  -- behind the commit each other run still finds its version
  still_kept : (u : Tid) (r : Run) (key : Key) → run_at start older u ≡ Some r → is_newer r.age (newest start (Commits tid ∷ older) key) ≡ false →
      IsThere olds key (version_below start (Commits tid ∷ older) r.age key)
  still_kept u r key at older_one = by_write (has_write key run.acts) refl
    where
      now : Option Version
      now = newest start older key

      mine : Option Version
      mine = version_below start older r.age key

      positive : 0 < r.age
      positive = age_some start older u r starts right.1 at

      same_below : (o : Option ℕ) (b : Bool) → o ≡ None → cond b (written (number run) o mine) mine ≡ mine
      same_below None true e = refl
      same_below None false e = refl
      same_below (Some value) b e = cc

      by_newer : (b : Bool) → is_newer r.age now ≡ b → has_write key run.acts ≡ true → IsThere olds key mine
      by_newer true e wrote =
          subst (λ (v : Option Version). IsThere olds key v) (sym (newest-below r.age start.rows (committed start older) key e)) (h.noted tid run key at_run wrote)
      by_newer false e wrote = h.kept u r key at e

      by_write : (b : Bool) → has_write key run.acts ≡ b → IsThere olds key (version_below start (Commits tid ∷ older) r.age key)
      by_write false unwritten =
          let none = no_own key run.acts unwritten in
          let same_now : newest start (Commits tid ∷ older) key ≡ now = newest_after key ∙ ap (λ (o : Option ℕ). written (number run) o now) none in
          let same : version_below start (Commits tid ∷ older) r.age key ≡ mine = below_after r.age key ∙ same_below (own_write key run.acts) (nat_lt (number run) r.age) none in
          subst (λ (v : Option Version). IsThere olds key v) (sym same)
          (h.kept u r key at (ap (λ (v : Option Version). is_newer r.age v) (sym same_now) ∙ older_one))
      by_write true wrote =
          let (value, is) = some_own key run.acts wrote in
          let newer : is_newer (number run) now ≡ true = newer_clear start.rows run.acts (number run) (committed start older) key some clear wrote in
          let last : newest start (Commits tid ∷ older) key ≡ Some (record { value = value; number = number run }) =
          newest_after key ∙ (ap (λ (o : Option ℕ). written (number run) o now) is ∙ cond-true _ _ _ newer) in
          let late : nat_lt (number run) r.age ≡ false = ap (λ (v : Option Version). is_newer r.age v) (sym last) ∙ older_one in
          let same : version_below start (Commits tid ∷ older) r.age key ≡ mine = below_after r.age key ∙ cond-false _ _ _ late in
          subst (λ (v : Option Version). IsThere olds key v) (sym same) (by_newer (is_newer r.age now) refl wrote)

  still_noted : (u : Tid) (r : Run) (key : Key) → same_tid tid u ≡ false → run_at start older u ≡ Some r → has_written key r ≡ true → IsThere olds key (newest start (Commits tid ∷ older) key)
  still_noted u r key other at has = by_write (has_write key run.acts) refl
    where
      by_write : (b : Bool) → has_write key run.acts ≡ b → IsThere olds key (newest start (Commits tid ∷ older) key)
      by_write true wrote = absurd (alone u r key other at wrote has)
      by_write false unwritten =
          let same : newest start (Commits tid ∷ older) key ≡ newest start older key =
          newest_after key ∙ ap (λ (o : Option ℕ). written (number run) o (newest start older key)) (no_own key run.acts unwritten) in
          subst (λ (v : Option Version). IsThere olds key v) (sym same) (h.noted u r key at has)

  -- what is left after the dropping
  module _ (new : Olds) (unended : ByAge) (pruned : Prunes unended (writes_key run.acts) (number run) olds new)
      (all : (u : Tid) (r : Run) → run_at start (Commits tid ∷ older) u ≡ Some r → IsSome (get unended r.age)) where
    kept_place : (q : Place) (value : ℕ) → get new q ≡ Some value → get olds q ≡ Some value
    kept_place q value there = elim (pruned q) [ inl same ↦ sym same ∙ there | inr gone ↦ let bad : None ≡ Some value = sym gone.0 ∙ there in cc ]

    -- a version that a run reads isn't unread
    is_read : (u : Tid) (r : Run) (key : Key) → run_at start (Commits tid ∷ older) u ≡ Some r → 0 < r.age → writes_key run.acts key.0 ≡ true →
        IsUnread unended (number run) olds (place_of key (number_of (version_below start (Commits tid ∷ older) r.age key))) → ⊥
    is_read u r key at positive wrote unread = by_less (nat_lt unread.next r.age) refl
      where
        mine : Option Version
        mine = version_below start (Commits tid ∷ older) r.age key

        less : number_of mine < r.age
        less = below-less r.age start.rows (committed start (Commits tid ∷ older)) key positive

        not_there : (o : Option Tid) → IsSome o → o ≡ None → ⊥
        not_there None some none = cc
        not_there (Some t) some none = cc

        by_less : (b : Bool) → nat_lt unread.next r.age ≡ b → ⊥
        by_less false e =
            let upto = ltb-false unread.next r.age e in not_there (get unended r.age) (all u r at) (unread.none r.age less (omega arith))
        by_less true e =
            let above = ltb-true unread.next r.age e in
            let after = unread.after in
            elim unread.is_next [
              | inl is ↦ let more = least r.age key (omega arith) wrote in omega arith
              | inr there ↦ by_there (get olds (place_of key unread.next)) refl there
            ]
          where
            by_there : (o : Option ℕ) → get olds (place_of key unread.next) ≡ o → IsSome o → ⊥
            by_there None is there = cc
            by_there (Some value) is there =
                let above = ltb-true unread.next r.age e in
                let after = unread.after in
                let first = h.ordered key unread.next value r.age is above in
                let more = grows r.age key in
                omega arith

    pub versions_commit : AreVersions new start (Commits tid ∷ older)
    versions_commit = record {
      ordered = λ key n value age there less. let first = h.ordered key n value age (kept_place (place_of key n) value there) less in let more = grows age key in omega arith;
      kept = λ u r key at older_one. elim (at_line start older (Commits tid) u r at) [
        | inl other ↦
            let there = still_kept u r key other.1 older_one in
            elim (pruned (place_of key (number_of (version_below start (Commits tid ∷ older) r.age key)))) [
              | inl same ↦ same ∙ there
              | inr gone ↦ absurd (is_read u r key at (age_some start older u r starts right.1 other.1) gone.1 gone.2)
            ]
        | inr mine ↦ cc
      ];
      noted = λ u r key at has. elim (at_line start older (Commits tid) u r at) [
        | inl other ↦
            let there = still_noted u r key other.0 other.1 has in
            elim (pruned (place_of key (number_of (newest start (Commits tid ∷ older) key)))) [
              | inl same ↦ same ∙ there
              | inr gone ↦ absurd (alone u r key other.0 other.1 gone.1 has)
            ]
        | inr mine ↦ cc
      ];
    }
