-- The old versions through each line of a multiversion site.
use Rattle.std.proofs.Common.{◌≡◌, ℕ, ◌<◌, ◌≤◌, Bool, true, false, ◌||◌, cond, nat_lt, Option, Some, None, List, ◌∷◌, inl, inr, refl, sym, ap, ◌∙◌, subst, arith}
use Rattle.std.specs.FinMap.{get, insert}
use Rattle.std.proofs.lemmas.Bool.{cond-true, cond-false, ltb-true, ltb-false, lt-ltb}
use Rattle.mdb_base.specs.declared.names.Key.{Key}
use Rattle.mdb_base.specs.declared.names.Tid.{Tid}
use Rattle.mdb_base.specs.declared.acts.PlainAct.TheVariants.{Write}
use Rattle.mdb_base.specs.declared.replies.Reply.TheVariants.{Done}
use Rattle.mdb_base.specs.Names.{same_key}
use Rattle.mdb_base.proofs.ForCallers.{each_map, same_key-equal}
use Rattle.fed_rules.specs.Runs.{Start, EngineLine, Acts, Commits, Run, run_at, committed, number}
use Rattle.fed_rules.specs.Replies.{has_written, table_before}
use Rattle.fed_rules.specs.EngineLines.{IsStart, IsRight}
use Rattle.engine_laws.proofs.ForCallers.{Own, at_line, begins, below, counted, got, own, seals, stays, takes, wrote}
use Rattle.site_tables.specs.declared.versions.Version.{Version}
use Rattle.site_tables.specs.Numbers.{number_of}
use Rattle.site_tables.specs.Tables.{is_newer, value_of}
use Rattle.run_book.proofs.ForCallers.{newer-after, value-kept_after}
use Rattle.multiversion_engine.specs.declared.old_versions.Place.{Place}
use Rattle.multiversion_engine.specs.declared.old_versions.OldVersion.{OldVersion}
use Rattle.multiversion_engine.specs.OldVersions.{Olds, place_of, IsLastBelow, value_in}
use Rattle.multiversion_engine.specs.Versions.{newest, version_below, IsThere, AreVersions, IsNewestOr, IsValueAt}
use Rattle.multiversion_engine.proofs.KeptBelow.{newer_number, not_newer, newest-below, below-less}
use Rattle.multiversion_engine.proofs.Places.{same_place, place-equal, self_place, version-put}

-- an age is never 0
pub age_some : (start : Start) (lines : List EngineLine) (tid : Tid) (run : Run) → IsStart start → IsRight start lines → run_at start lines tid ≡ Some run → 0 < run.age
age_some start lines tid run starts right at = ((counted start lines starts right).unended tid run at).age_some

-- who isn't above the newest version finds its own as the last old one below
old_one : (olds : Olds) (key : Key) (age : ℕ) (mine : Option Version) (o : Option OldVersion) → number_of mine < age → IsThere olds key mine →
    ((n value : ℕ) → get olds (place_of key n) ≡ Some value → n < age → n ≤ number_of mine) → IsLastBelow olds key age o → value_in o ≡ value_of mine
old_one olds key age mine None less there ordered last = let none = last (number_of mine) less in let bad : None ≡ Some (value_of mine) = sym none ∙ there in cc
old_one olds key age mine (Some version) less there ordered last = by_less (nat_lt version.number (number_of mine)) refl
  where
    up_to : version.number ≤ number_of mine
    up_to = ordered version.number version.value last.0 last.1

    by_less : (b : Bool) → nat_lt version.number (number_of mine) ≡ b → version.value ≡ value_of mine
    by_less true e =
        let none = last.2 (number_of mine) (ltb-true version.number (number_of mine) e) less in
        let bad : None ≡ Some (value_of mine) = sym none ∙ there in cc
    by_less false e =
        let same : version.number ≡ number_of mine = let le = up_to in let ge = ltb-false version.number (number_of mine) e in omega arith in
        let values : Some version.value ≡ Some (value_of mine) = sym last.0 ∙ (ap (λ (n : ℕ). get olds (place_of key n)) same ∙ there) in
        cc

-- each unended run finds the value that the runs with smaller numbers left
pub gives_table : (olds : Olds) (start : Start) (lines : List EngineLine) (tid : Tid) (run : Run) (key : Key) (value : ℕ) → IsStart start → IsRight start lines → AreVersions olds start lines →
    run_at start lines tid ≡ Some run → IsValueAt (newest start lines key) olds run.age key value → value ≡ table_before start lines run key
gives_table olds start lines tid run key value starts right h at is =
    by_test (nat_lt (number_of now) run.age) refl is ∙ value-kept_after start.rows (below run.age (committed start lines)) key
  where
    now : Option Version
    now = newest start lines key

    some : 0 < run.age
    some = age_some start lines tid run starts right at

    by_test : (b : Bool) → nat_lt (number_of now) run.age ≡ b → IsNewestOr b now olds run.age key value → value ≡ value_of (version_below start lines run.age key)
    by_test true e is = is ∙ ap value_of (sym (newest-below run.age start.rows (committed start lines) key (newer_number run.age now some ∙ e)))
    by_test false e (o, last, is_old) =
        is_old
        ∙ old_one olds key run.age (version_below start lines run.age key) o (below-less run.age start.rows (committed start lines) key some)
        (h.kept tid run key at (newer_number run.age now some ∙ e)) (λ n v there less. h.ordered key n v run.age there less) last

-- a version is noted
pub versions_noted : (olds : Olds) (start : Start) (lines : List EngineLine) (key : Key) → IsStart start → IsRight start lines → AreVersions olds start lines →
    AreVersions (insert olds (place_of key (number_of (newest start lines key))) (value_of (newest start lines key))) start lines
    × IsThere (insert olds (place_of key (number_of (newest start lines key))) (value_of (newest start lines key))) key (newest start lines key)
versions_noted olds start lines key starts right h = (
  record {
    ordered = λ k n value age at less. by_place k n value age (same_place (place_of k n) p) refl (sym (version-put olds p (place_of k n) v) ∙ at) less;
    kept = λ tid run k at older. beside k (version_below start lines run.age k) (apart tid run k at older) (h.kept tid run k at older);
    noted = λ tid run k at has. by_key k (same_place (place_of k (number_of (newest start lines k))) p) refl (h.noted tid run k at has);
  },
  version-put olds p p v ∙ cond-true _ _ _ (self_place p),
)
  where
    p : Place
    p = place_of key (number_of (newest start lines key))

    v : ℕ
    v = value_of (newest start lines key)

    by_place : (k : Key) (n value age : ℕ) (b : Bool) → same_place (place_of k n) p ≡ b → cond b (Some v) (get olds (place_of k n)) ≡ Some value → n < age → n ≤ number_of (version_below start lines age k)
    by_place k n value age true e at less =
        let here = place-equal (place_of k n) p e in
        let k_is : k ≡ key = ap (λ (q : Place). let x : Key = record { 0 = q.key } in x) here in
        let n_is : n ≡ number_of (newest start lines k) = ap (λ (q : Place). q.number) here ∙ ap (λ (x : Key). number_of (newest start lines x)) (sym k_is) in
        let newer : is_newer age (newest start lines k) ≡ true =
        newer_number age (newest start lines k) (omega arith) ∙ lt-ltb (number_of (newest start lines k)) age (omega arith) in
        let same : number_of (version_below start lines age k) ≡ number_of (newest start lines k) = ap number_of (newest-below age start.rows (committed start lines) k newer) in
        omega arith
    by_place k n value age false e at less = h.ordered k n value age at less

    beside : (k : Key) (version : Option Version) → same_place (place_of k (number_of version)) p ≡ false → IsThere olds k version → IsThere (insert olds p v) k version
    beside k version e there = version-put olds p (place_of k (number_of version)) v ∙ (cond-false _ _ _ e ∙ there)

    apart : (tid : Tid) (run : Run) (k : Key) → run_at start lines tid ≡ Some run → is_newer run.age (newest start lines k) ≡ false → same_place (place_of k (number_of (version_below start lines run.age k))) p ≡ false
    apart tid run k at older = by_test (same_place (place_of k (number_of (version_below start lines run.age k))) p) refl
      where
        by_test : (b : Bool) → same_place (place_of k (number_of (version_below start lines run.age k))) p ≡ b → b ≡ false
        by_test false e = refl
        by_test true e =
            let here = place-equal (place_of k (number_of (version_below start lines run.age k))) p e in
            let some = age_some start lines tid run starts right at in
            let k_is : k ≡ key = ap (λ (q : Place). let x : Key = record { 0 = q.key } in x) here in
            let n_is : number_of (version_below start lines run.age k) ≡ number_of (newest start lines k) =
            ap (λ (q : Place). q.number) here ∙ ap (λ (x : Key). number_of (newest start lines x)) (sym k_is) in
            let less = below-less run.age start.rows (committed start lines) k some in
            let more = not_newer run.age (newest start lines k) some older in
            absurd (omega arith)

    by_key : (k : Key) (b : Bool) → same_place (place_of k (number_of (newest start lines k))) p ≡ b → IsThere olds k (newest start lines k) → IsThere (insert olds p v) k (newest start lines k)
    by_key k true e there =
        let here = place-equal (place_of k (number_of (newest start lines k))) p e in
        let k_is : k ≡ key = ap (λ (q : Place). let x : Key = record { 0 = q.key } in x) here in
        version-put olds p (place_of k (number_of (newest start lines k))) v
        ∙ (cond-true _ _ _ e ∙ ap (λ (x : Key). Some (value_of (newest start lines x))) (sym k_is))
    by_key k false e there = beside k (newest start lines k) e there

-- whether the line commits a run
abbrev pub is_commit : EngineLine → Bool
is_commit (Commits tid) = true
is_commit line = false

-- what a line writes has been noted
abbrev pub NotesItsWrite : Olds → Start → List EngineLine → EngineLine → Type 0
NotesItsWrite olds start older line = (tid : Tid) (key : Key) (value : ℕ) → line ≡ Acts tid (Write key value) Done → IsThere olds key (newest start older key)

module _ (olds : Olds) (start : Start) (older : List EngineLine) (starts : IsStart start) (right : IsRight start older) (h : AreVersions olds start older) where
  -- the line's own run finds its versions behind it
  own_kept : (line : EngineLine) (run : Run) (key : Key) → Own start older line run → is_newer run.age (newest start older key) ≡ false → IsThere olds key (version_below start older run.age key)
  own_kept line run key (begins {n = n} free next) older_one =
      let drawn = counted start older starts right in
      let newer = newer-after n start.rows (committed start older) key (omega arith)
      (each_map _ (λ d. number d < n) (λ d was. let kept = was.kept in omega arith) (committed start older) drawn.committed) in
      let bad : true ≡ false = sym newer ∙ older_one in cc
  own_kept line run key (stays may at) older_one = h.kept _ run key at older_one
  own_kept line run key (got was live is) older_one = h.kept _ was key live.0 older_one
  own_kept line run key (wrote was live is) older_one = h.kept _ was key live.0 older_one
  own_kept line run key (takes was live is) older_one = h.kept _ was key live.0 older_one
  own_kept line run key (seals was live stop next) older_one = h.kept _ was key live.0 older_one

  own_noted : (line : EngineLine) (run : Run) (key : Key) → NotesItsWrite olds start older line → Own start older line run → has_written key run ≡ true → IsThere olds key (newest start older key)
  own_noted line run key notes (begins free next) has = cc
  own_noted line run key notes (stays may at) has = h.noted _ run key at has
  own_noted line run key notes (got was live is) has = h.noted _ was key live.0 has
  own_noted line run key notes (wrote {tid = tid} {key = k} {value = value} was live is) has = by_test (same_key k key) refl has
    where
      by_test : (b : Bool) → same_key k key ≡ b → (b || has_written key was) ≡ true → IsThere olds key (newest start older key)
      by_test true e any = subst (λ (x : Key). IsThere olds x (newest start older x)) (same_key-equal k key e) (notes tid k value refl)
      by_test false e any = h.noted tid was key live.0 any
  own_noted line run key notes (takes was live is) has = h.noted _ was key live.0 has
  own_noted line run key notes (seals was live stop next) has = h.noted _ was key live.0 has

-- each line but a commit
pub versions_next : (olds : Olds) (start : Start) (older : List EngineLine) (line : EngineLine) → IsStart start → IsRight start (line ∷ older) → is_commit line ≡ false →
    NotesItsWrite olds start older line → AreVersions olds start older → AreVersions olds start (line ∷ older)
versions_next olds start older (Commits tid) starts right e notes h = cc
versions_next olds start older line starts right e notes h = record {
  ordered = h.ordered;
  kept = λ u run key at older_one. elim (at_line start older line u run at) [
    | inl other ↦ h.kept u run key other.1 older_one
    | inr mine ↦ own_kept olds start older starts right.1 h line run key (own start older line run right.0 mine.1) older_one
  ];
  noted = λ u run key at has. elim (at_line start older line u run at) [
    | inl other ↦ h.noted u run key other.1 has
    | inr mine ↦ own_noted olds start older starts right.1 h line run key notes (own start older line run right.0 mine.1) has
  ];
}
