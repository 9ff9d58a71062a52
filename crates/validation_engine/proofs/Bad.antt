-- What refuses a sealing by the index is what refuses it by the rule.
use Rattle.std.proofs.Common.{◌≡◌, ℕ, ◌+◌, ◌≤◌, nat_lt, Bool, true, false, not, ◌||◌, ◌==◌, cond, is_some, Option, Some, None, IfSome, List, [], ◌∷◌, map, inl, inr, refl, sym, ap, ◌∙◌, subst, arith}
use Rattle.std.proofs.lemmas.Bool.{cond-true, cond-false, or_left, or_right, cases_Bool, eqb-true, ltb-true, ltb-false}
use Rattle.std.proofs.lemmas.Option.{same_Some}
use Rattle.mdb_base.specs.declared.names.Engine.{Engine}
use Rattle.mdb_base.specs.declared.names.Engine.TheVariants.{Validation}
use Rattle.mdb_base.specs.declared.names.Key.{Key}
use Rattle.mdb_base.specs.declared.names.Tid.{Tid}
use Rattle.mdb_base.specs.declared.replies.Why.{Why}
use Rattle.mdb_base.specs.declared.replies.Why.TheVariants.{Invalid}
use Rattle.mdb_base.specs.Names.{same_key}
use Rattle.mdb_base.specs.Words.{map_some, some_of, least, greatest, is_empty}
use Rattle.fed_rules.specs.Runs.{Start, EngineLine, Access, Got, Wrote, Run, run_at, number}
use Rattle.fed_rules.specs.Replies.{access_key, reads, has_read, spoilers, bad_keys, invalid, invalid_at, invalid_by, moved, moved_by, or_why, seal_stop}
use Rattle.fed_rules.specs.EngineLines.{IsRight, IsStart}
use Rattle.engine_laws.proofs.ForCallers.{or_why_none, owned, unmoved}
use Rattle.mdb_base.proofs.ForCallers.{same_key-refl}
use Rattle.run_book.specs.declared.counters.Counters.{Counters}
use Rattle.run_book.specs.declared.rival.Rival.{Rival}
use Rattle.run_book.specs.Keeps.{counters_after}
use Rattle.run_book.specs.Rivals.{rival_by}
use Rattle.run_book.proofs.ForCallers.{Is, TellsApart, is-those, least-empty, least-found, those-is}
use Rattle.validation_engine.specs.declared.rule.Bad.{Bad}
use Rattle.validation_engine.specs.Index.{Index, sealed_at, last_at}
use Rattle.validation_engine.specs.Rule.{ended_since, or_rival, spoiler_of, lower_of, or_lower, least_bad_of, invalid_by_bad, moved_in, seal_stop_by}
use Rattle.validation_engine.specs.Stands.{AreSealed, last_writer}
use Rattle.validation_engine.proofs.Spoilers.{key_spoiler, key_spoiler-rule}

-- the least bad key of these accesses, and who makes it so
pub record IsLeastBad (spoils : Access → Option Rival) (acts : List Access) (bad : Bad) : Type 0 where
  pub access : Access
  pub is : Is access acts
  pub keyed : access_key access ≡ bad.key
  pub rival : Rival
  pub spoiled : spoils access ≡ Some rival
  pub named : rival.tid ≡ bad.by
  pub below : (other : Access) (by : Rival) → Is other acts → spoils other ≡ Some by → bad.key.0 ≤ (access_key other).0

least_bad-none : (spoils : Access → Option Rival) (acts : List Access) → least_bad_of spoils acts ≡ None → (access : Access) → Is access acts → spoils access ≡ None
least_bad-none spoils [] e access member = absurd member
least_bad-none spoils (first ∷ acts) e access member = by_first (spoils first) refl e (least_bad-none spoils acts) member
  where
    by_first : (o : Option Rival) → spoils first ≡ o → or_lower (access_key first) o (least_bad_of spoils acts) ≡ None → (least_bad_of spoils acts ≡ None → (a : Access) → Is a acts → spoils a ≡ None) →
        Is access (first ∷ acts) → spoils access ≡ None
    by_first None is e rest member = elim member [ inl same ↦ ap spoils (sym same) ∙ is | inr more ↦ rest e access more ]
    by_first (Some by) is e rest member = cc

least_bad-some : (spoils : Access → Option Rival) (acts : List Access) (bad : Bad) → least_bad_of spoils acts ≡ Some bad → IsLeastBad spoils acts bad
least_bad-some spoils [] bad e = cc
least_bad-some spoils (first ∷ acts) bad e = by_first (spoils first) refl e (λ least. least_bad-some spoils acts least)
  where
    here : Rival → Bad
    here by = record { key = access_key first; by = by.tid }

    -- the first access is the least one
    is_first : (by : Rival) → spoils first ≡ Some by → ((other : Access) (r : Rival) → Is other acts → spoils other ≡ Some r → (access_key first).0 ≤ (access_key other).0) → here by ≡ bad → IsLeastBad spoils (first ∷ acts) bad
    is_first by is below same = record {
      access = first;
      is = inl refl;
      keyed = ap (λ (b : Bad). b.key) same;
      rival = by;
      spoiled = is;
      named = ap (λ (b : Bad). b.by) same;
      below = λ other r member spoiled.
          let key : (access_key first).0 ≡ bad.key.0 = ap (λ (b : Bad). b.key.0) same in
          elim member [
            | inl one ↦ let k : (access_key first).0 ≡ (access_key other).0 = ap (λ (a : Access). (access_key a).0) one in omega arith
            | inr more ↦ let le = below other r more spoiled in omega arith
          ];
    }

    is_later : (least : Bad) → IsLeastBad spoils acts least → ((by : Rival) → spoils first ≡ Some by → least.key.0 ≤ (access_key first).0) → least ≡ bad → IsLeastBad spoils (first ∷ acts) bad
    is_later least h below same =
        let key : least.key.0 ≡ bad.key.0 = ap (λ (b : Bad). b.key.0) same in
        record {
          access = h.access;
          is = inr h.is;
          keyed = h.keyed ∙ ap (λ (b : Bad). b.key) same;
          rival = h.rival;
          spoiled = h.spoiled;
          named = h.named ∙ ap (λ (b : Bad). b.by) same;
          below = λ other r member spoiled.
              elim member [
                | inl one ↦
                    let k : (access_key first).0 ≡ (access_key other).0 = ap (λ (a : Access). (access_key a).0) one in
                    let le = below r (ap spoils one ∙ spoiled) in omega arith
                | inr more ↦ let le = h.below other r more spoiled in omega arith
              ];
        }

    by_rest : (by : Rival) (o : Option Bad) → spoils first ≡ Some by → least_bad_of spoils acts ≡ o → ((least : Bad) → o ≡ Some least → IsLeastBad spoils acts least) → Some (lower_of (here by) o) ≡ Some bad →
        IsLeastBad spoils (first ∷ acts) bad
    by_rest by None is none rest e = is_first by is (λ other r member spoiled. let nothing = least_bad-none spoils acts none other member in cc) (same_Some (here by) bad e)
    by_rest by (Some least) is some rest e =
        let h = rest least refl in
        elim (cases_Bool (nat_lt least.key.0 (access_key first).0)) [
          | inl lower ↦
              let lt = ltb-true least.key.0 (access_key first).0 lower in
              is_later least h (λ r spoiled. omega arith) (sym (cond-true _ _ _ lower) ∙ same_Some _ bad e)
          | inr higher ↦
              let ge = ltb-false least.key.0 (access_key first).0 higher in
              is_first by is (λ other r member spoiled. let le = h.below other r member spoiled in omega arith) (sym (cond-false _ _ _ higher) ∙ same_Some _ bad e)
        ]

    by_first : (o : Option Rival) → spoils first ≡ o → or_lower (access_key first) o (least_bad_of spoils acts) ≡ Some bad →
        ((least : Bad) → least_bad_of spoils acts ≡ Some least → IsLeastBad spoils acts least) → IsLeastBad spoils (first ∷ acts) bad
    by_first None is e rest = is_later bad (rest bad e) (λ by some. let nothing : None ≡ Some by = sym is ∙ some in cc) refl
    by_first (Some by) is e rest = by_rest by (least_bad_of spoils acts) is refl rest e

-- a read among the accesses
read_there : (key : Key) (value : ℕ) (acts : List Access) → Is (Got key value) acts → some_of (reads key) acts ≡ true
read_there key value [] member = absurd member
read_there key value (access ∷ acts) member =
    elim member [
      | inl same ↦ ap (λ (a : Access). some_of (reads key) (a ∷ acts)) same ∙ or_left (same_key key key) (some_of (reads key) acts) (same_key-refl key)
      | inr more ↦ or_right (reads key access) (some_of (reads key) acts) (read_there key value acts more)
    ]

there_read : (key : Key) (acts : List Access) → some_of (reads key) acts ≡ true → (value : ℕ) × Is (Got key value) acts
there_read key [] h = cc
there_read key (Got k value ∷ acts) h = by_key (same_key k key) refl h (there_read key acts)
  where
    by_key : (b : Bool) → same_key k key ≡ b → (b || some_of (reads key) acts) ≡ true → (some_of (reads key) acts ≡ true → (v : ℕ) × Is (Got key v) acts) → (v : ℕ) × Is (Got key v) (Got k value ∷ acts)
    by_key true e h rest = (value, inl (ap (λ (n : ℕ). Got (record { 0 = n }) value) (eqb-true k.0 key.0 e)))
    by_key false e h rest = let r = rest h in (r.0, inr r.1)
there_read key (Wrote k value ∷ acts) h = let r = there_read key acts h in (r.0, inr r.1)

key_there : (key : Key) (acts : List Access) → Is key (map access_key acts) → (access : Access) × Is access acts × (access_key access ≡ key)
key_there key [] member = absurd member
key_there key (access ∷ acts) member = elim member [ inl same ↦ (access, inl refl, same) | inr more ↦ let r = key_there key acts more in (r.0, inr r.1, r.2) ]

there_key : (access : Access) (acts : List Access) → Is access acts → Is (access_key access) (map access_key acts)
there_key access [] member = absurd member
there_key access (first ∷ acts) member = elim member [ inl same ↦ inl (ap access_key same) | inr more ↦ inr (there_key access acts more) ]

-- who makes the key of an access bad makes that key bad for the run
access_spoils : (index : Index) (me : Run) (access : Access) (by : Rival) → Is access me.acts → spoiler_of index me.age access ≡ Some by → key_spoiler index me (access_key access) ≡ Some by
access_spoils index me (Got key value) by member spoiled =
    ap (λ (b : Bool). or_rival (sealed_at index key) (cond b (ended_since me.age (last_at index key)) None)) (read_there key value me.acts member) ∙ spoiled
access_spoils index me (Wrote key value) by member spoiled =
    ap (λ (o : Option Rival). or_rival o (cond (has_read key me) (ended_since me.age (last_at index key)) None)) spoiled

-- and who makes a key bad makes it so by an access
key_spoils : (index : Index) (me : Run) (key : Key) (by : Rival) → Is key (map access_key me.acts) → key_spoiler index me key ≡ Some by →
    (access : Access) × Is access me.acts × (access_key access ≡ key) × (spoiler_of index me.age access ≡ Some by)
key_spoils index me key by member spoiled = by_sealed (sealed_at index key) refl spoiled
  where
    Found : Type 0
    Found = (access : Access) × Is access me.acts × (access_key access ≡ key) × (spoiler_of index me.age access ≡ Some by)

    any_access : (access : Access) (writer : Rival) → sealed_at index (access_key access) ≡ Some writer → spoiler_of index me.age access ≡ Some writer
    any_access (Got k value) writer is = ap (λ (o : Option Rival). or_rival o (ended_since me.age (last_at index k))) is
    any_access (Wrote k value) writer is = is

    by_reading : (b : Bool) → has_read key me ≡ b → sealed_at index key ≡ None → cond b (ended_since me.age (last_at index key)) None ≡ Some by → Found
    by_reading true read none spoiled =
        let r = there_read key me.acts read in
        (Got key r.0, r.1, refl, ap (λ (o : Option Rival). or_rival o (ended_since me.age (last_at index key))) none ∙ spoiled)
    by_reading false unread none spoiled = cc

    by_sealed : (o : Option Rival) → sealed_at index key ≡ o → or_rival o (cond (has_read key me) (ended_since me.age (last_at index key)) None) ≡ Some by → Found
    by_sealed (Some writer) is spoiled =
        let r = key_there key me.acts member in
        (r.0, r.1, r.2, any_access r.0 writer (ap (λ (k : Key). sealed_at index k) r.2 ∙ is) ∙ spoiled)
    by_sealed None none spoiled = by_reading (has_read key me) refl none spoiled

-- a key is bad where somebody makes it so
bad-some : (runs : List Run) → not (is_empty runs) ≡ is_some (greatest number runs)
bad-some [] = refl
bad-some (run ∷ runs) = refl

keys_apart : (keys : List Key) → TellsApart (λ key. key.0) keys
keys_apart keys a b ha hb same = ap (λ (n : ℕ). let k : Key = record { 0 = n } in k) same

there_is : {A B : Type 0} (f : A → B) (o : Option A) (y : B) → Some y ≡ map_some f o → (x : A) × (o ≡ Some x) × (f x ≡ y)
there_is f None y e = cc
there_is f (Some x) y e = (x, refl, sym (same_Some y (f x) e))

is_there : {A B : Type 0} (f : A → B) (o : Option A) → is_some o ≡ true → (y : B) × (map_some f o ≡ Some y)
is_there f None e = cc
is_there f (Some x) e = (f x, refl)

module _ (index : Index) (start : Start) (lines : List EngineLine) (kind : start.kind ≡ Validation) (starts : IsStart start) (right : IsRight start lines)
    (are : AreSealed index (run_at start lines)) (last : (key : Key) → last_at index key ≡ last_writer start lines key)
    (me : Run) (at : run_at start lines me.tid ≡ Some me) (live : me.sealed ≡ None) where
  spoiler_is : (key : Key) → key_spoiler index me key ≡ map_some (rival_by number) (greatest number (spoilers start lines me key))
  spoiler_is key = key_spoiler-rule index start lines kind starts right are last me at live key

  -- a bad key by the rule has an access that somebody makes bad
  bad_access : (key : Key) → Is key (bad_keys start lines me) → (access : Access) × (by : Rival) × Is access me.acts × (access_key access ≡ key) × (spoiler_of index me.age access ≡ Some by)
  bad_access key member =
      let found = those-is (λ k. not (is_empty (spoilers start lines me k))) (map access_key me.acts) key member in
      let some = is_there (rival_by number) (greatest number (spoilers start lines me key)) (sym (bad-some (spoilers start lines me key)) ∙ found.1) in
      let r = key_spoils index me key some.0 found.0 (spoiler_is key ∙ some.1) in
      (r.0, some.0, r.1, r.2, r.3)

  none_invalid : least_bad_of (spoiler_of index me.age) me.acts ≡ None → invalid start lines me ≡ None
  none_invalid none =
      ap (λ (o : Option Key). invalid_at start lines me o)
      (least-empty (λ key. key.0) (bad_keys start lines me)
      (λ key member. let b = bad_access key member in let nothing = least_bad-none (spoiler_of index me.age) me.acts none b.0 b.2 in let something = b.4 in cc))

  some_invalid : (bad : Bad) → least_bad_of (spoiler_of index me.age) me.acts ≡ Some bad → invalid start lines me ≡ Some (Invalid bad.by bad.key)
  some_invalid bad some =
      let h = least_bad-some (spoiler_of index me.age) me.acts bad some in
      let spoils : key_spoiler index me bad.key ≡ Some h.rival = ap (λ (k : Key). key_spoiler index me k) (sym h.keyed) ∙ access_spoils index me h.access h.rival h.is h.spoiled in
      let y = there_is (rival_by number) (greatest number (spoilers start lines me bad.key)) h.rival (sym spoils ∙ spoiler_is bad.key) in
      let named : y.0.tid ≡ bad.by = ap (λ (r : Rival). r.tid) y.2 ∙ h.named in
      let is_bad : not (is_empty (spoilers start lines me bad.key)) ≡ true = bad-some (spoilers start lines me bad.key) ∙ ap (λ (o : Option Run). is_some o) y.1 in
      let accessed : Is bad.key (map access_key me.acts) = subst (λ (k : Key). Is k (map access_key me.acts)) h.keyed (there_key h.access me.acts h.is) in
      let first : least (λ key. key.0) (bad_keys start lines me) ≡ Some bad.key =
      least-found (λ key. key.0) (bad_keys start lines me) bad.key (keys_apart (bad_keys start lines me))
      (record {
        is = is-those (λ k. not (is_empty (spoilers start lines me k))) (map access_key me.acts) bad.key accessed is_bad;
        below = λ key member.
            let b = bad_access key member in
            let le = h.below b.0 b.1 b.2 b.4 in
            let k : (access_key b.0).0 ≡ key.0 = ap (λ (x : Key). x.0) b.3 in
            omega arith;
      }) in
      ap (λ (o : Option Key). invalid_at start lines me o) first
      ∙ (ap (λ (o : Option Run). invalid_by bad.key o) y.1 ∙ ap (λ (t : Tid). Some (Invalid t bad.key)) named)

  invalid_is : invalid_by_bad (least_bad_of (spoiler_of index me.age) me.acts) ≡ invalid start lines me
  invalid_is = by_bad (least_bad_of (spoiler_of index me.age) me.acts) refl
    where
      by_bad : (o : Option Bad) → least_bad_of (spoiler_of index me.age) me.acts ≡ o → invalid_by_bad o ≡ invalid start lines me
      by_bad None is = sym (none_invalid is)
      by_bad (Some bad) is = sym (some_invalid bad is)

  moved_is : (counters : Counters) (o : Option ℕ) → counters ≡ counters_after start lines → moved_in counters o ≡ moved start lines o
  moved_is counters None is = refl
  moved_is counters (Some ticket) is = ap (λ (m : Counters). cond (ticket == m.published + 1) None (moved_by m.owner)) is

  -- what refuses a sealing by the index refuses it by the rule
  pub seal_stop-rule : (counters : Counters) → counters ≡ counters_after start lines → seal_stop_by index counters me ≡ seal_stop start.kind start lines me
  seal_stop-rule counters is =
      ap (λ (why : Option Why). or_why why (moved_in counters me.ticket)) invalid_is
      ∙ (ap (λ (why : Option Why). or_why (invalid start lines me) why) (moved_is counters me.ticket is)
      ∙ sym (ap (λ (k : Engine). seal_stop k start lines me) kind))

  -- a run that passes has the next ticket, where it has one
  pub passed_ticket : (counters : Counters) → counters ≡ counters_after start lines → seal_stop_by index counters me ≡ None → IfSome me.ticket (λ t. t ≡ counters.published + 1)
  passed_ticket counters is passed = by_ticket me.ticket refl (sym (moved_is counters me.ticket is) ∙ (or_why_none (invalid_by_bad (least_bad_of (spoiler_of index me.age) me.acts)) (moved_in counters me.ticket) passed).1)
    where
      by_ticket : (o : Option ℕ) → me.ticket ≡ o → moved start lines me.ticket ≡ None → IfSome o (λ t. t ≡ counters.published + 1)
      by_ticket None none free = tt
      by_ticket (Some t) taken free =
          unmoved start lines t (owned start lines kind right me.tid me at live t taken) (ap (λ (o : Option ℕ). moved start lines o) (sym taken) ∙ free)
          ∙ sym (ap (λ (m : Counters). m.published + 1) is)
