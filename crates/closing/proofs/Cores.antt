-- What the cores of the actors tell of a story.
use Rattle.std.proofs.Common.{◌≡◌, ℕ, suc, ◌+◌, ◌<◌, ◌||◌, Bool, true, false, cond, not, nat_lt, IfOk, Result, Ok, Err, List, [], ◌∷◌, ◌++◌, map, length, take, get_or, refl, sym, ◌∙◌, ap, ap₂, append_assoc, append-nil, arith}
use Rattle.std.proofs.lemmas.Bool.Decides.{nat_tests}
use Rattle.std.proofs.lemmas.List.{map-append, take_more}
use Rattle.mdb_base.specs.declared.names.SiteId.{SiteId}
use Rattle.mdb_base.specs.declared.names.Tid.{Tid}
use Rattle.mdb_base.specs.Words.{those}
use Rattle.mdb_base.proofs.ForCallers.{those_append}
use Rattle.fed_rules.specs.declared.commands.Command.TheVariants as Cmd
use Rattle.fed_rules.specs.SitePast.{SitePast, attempts_of, begins_tx, is_local}
use Rattle.fed_rules.specs.declared.scenario.Scenario.{Scenario}
use Rattle.fed_rules.specs.Closing.{in_doubt_at, one}
use Rattle.fed_rules.specs.Scenarios.{home_of}
use Rattle.fed_rules.specs.Story.{Story}
use Rattle.closing.specs.declared.actors.SiteTids.{SiteTids}
use Rattle.closing.specs.Steps.{AreDoubtful, clearing_at, clearing_of, end_of, ending_of}

-- what follows of the value
pub on_ok : {A B : Type 0} (P Q : A → Type 0) (r : Result A B) → ((a : A) → P a → Q a) → IfOk r P → IfOk r Q
on_ok P Q (Ok a) f p = f a p
on_ok P Q (Err e) f p = p

some_counted : (n : ℕ) → nat_lt 0 (suc n) ≡ true
some_counted n = grind (arith, nat_tests)

-- a transaction was begun as a local one where some attempt of it was
pub begun_local : (past : SitePast) (tid : Tid) → nat_lt 0 (attempts_of past tid.tx) ≡ is_local past tid
begun_local [] tid = refl
begun_local (x ∷ past) tid = by_test (begins_tx tid.tx x.answer) (begun_local past tid)
  where
    by_test : (b : Bool) → nat_lt 0 (attempts_of past tid.tx) ≡ is_local past tid → nat_lt 0 (cond b (suc (attempts_of past tid.tx)) (attempts_of past tid.tx)) ≡ (b || is_local past tid)
    by_test true rest = some_counted (attempts_of past tid.tx)
    by_test false rest = rest

-- ---- the first items and the next one

module _ {A : Type 0} (xs : List A) (i : ℕ) (d : A) (lt : i < length xs) where
  pub pass_next : (test : A → Bool) → those test (take (i + 1) xs) ≡ those test (take i xs) ++ cond (test (get_or xs i d)) (get_or xs i d ∷ []) []
  pass_next test = ap (those test) (take_more xs i d lt) ∙ those_append test (take i xs) (get_or xs i d ∷ [])

-- the numbers of the sites that pass
abbrev pub numbers : (SiteId → Bool) → List SiteId → List ℕ
numbers test sites = map (λ (site : SiteId). site.0) (those test sites)

module _ (test : SiteId → Bool) (xs : List SiteId) (i : ℕ) (d : SiteId) (lt : i < length xs) where
  next_number : numbers test (take (i + 1) xs) ≡ numbers test (take i xs) ++ map (λ (site : SiteId). site.0) (cond (test (get_or xs i d)) (get_or xs i d ∷ []) [])
  next_number = ap (map (λ (site : SiteId). site.0)) (pass_next xs i d lt test) ∙ map-append (λ (site : SiteId). site.0) (those test (take i xs)) (cond (test (get_or xs i d)) (get_or xs i d ∷ []) [])

  -- one more passes
  pub number_passes : test (get_or xs i d) ≡ true → (front found now : List ℕ) → found ≡ front ++ numbers test (take i xs) → now ≡ found ++ (get_or xs i d).0 ∷ [] → now ≡ front ++ numbers test (take (i + 1) xs)
  number_passes pass front found now e f =
      f ∙ (ap (λ ns. ns ++ (get_or xs i d).0 ∷ []) e ∙ (append_assoc front (numbers test (take i xs)) ((get_or xs i d).0 ∷ [])
      ∙ ap (λ ns. front ++ ns) (sym (next_number ∙ ap (λ b. numbers test (take i xs) ++ map (λ (site : SiteId). site.0) (cond b (get_or xs i d ∷ []) [])) pass))))

  -- or doesn't
  pub number_fails : test (get_or xs i d) ≡ false → (front found : List ℕ) → found ≡ front ++ numbers test (take i xs) → found ≡ front ++ numbers test (take (i + 1) xs)
  number_fails fail front found e =
      e ∙ ap (λ ns. front ++ ns) (sym (next_number ∙ (ap (λ b. numbers test (take i xs) ++ map (λ (site : SiteId). site.0) (cond b (get_or xs i d ∷ []) [])) fail ∙ append-nil (numbers test (take i xs)))))

-- the coordinator stands first
one_first : (b : Bool) (xs : List ℕ) → one b 0 [] ++ xs ≡ one b 0 xs
one_first true xs = refl
one_first false xs = refl

-- the actors that were looked for
pub actors_found : (found : List ℕ) (b c : Bool) (test : SiteId → Bool) (front sites : List SiteId) → found ≡ one b 0 [] ++ numbers test front → b ≡ c → front ≡ sites → found ≡ one c 0 (numbers test sites)
actors_found found b c test front sites e f g = e ∙ (ap₂ (λ d ss. one d 0 [] ++ numbers test ss) f g ∙ one_first c (numbers test sites))

not_same : (b c : Bool) → (b ≡ c → ⊥) → b ≡ not c
not_same true true f = absurd (f refl)
not_same true false f = refl
not_same false true f = refl
not_same false false f = absurd (f refl)

-- the commands that end attempts
module _ (own : Tid → Bool) (site : SiteId) (tids : List Tid) (i : ℕ) (d : Tid) (lt : i < length tids) where
  pub ends_next : (local : Bool) → own (get_or tids i d) ≡ local → ending_of own site local (take (i + 1) tids) ≡ ending_of own site local (take i tids) ++ end_of site local (get_or tids i d) ∷ []
  ends_next true e =
      ap (map (λ (tid : Tid). Cmd.Abort tid.tx)) (pass_next tids i d lt own ∙ ap (λ b. those own (take i tids) ++ cond b (get_or tids i d ∷ []) []) e)
      ∙ map-append (λ (tid : Tid). Cmd.Abort tid.tx) (those own (take i tids)) (get_or tids i d ∷ [])
  ends_next false e =
      ap (map (λ tid. Cmd.Drop site tid)) (pass_next tids i d lt (λ tid. not (own tid)) ∙ ap (λ b. those (λ tid. not (own tid)) (take i tids) ++ cond (not b) (get_or tids i d ∷ []) []) e)
      ∙ map-append (λ tid. Cmd.Drop site tid) (those (λ tid. not (own tid)) (take i tids)) (get_or tids i d ∷ [])

  pub ends_same : (local : Bool) → (own (get_or tids i d) ≡ local → ⊥) → ending_of own site local (take (i + 1) tids) ≡ ending_of own site local (take i tids)
  ends_same true f =
      ap (map (λ (tid : Tid). Cmd.Abort tid.tx))
      (pass_next tids i d lt own ∙ (ap (λ b. those own (take i tids) ++ cond b (get_or tids i d ∷ []) []) (not_same (own (get_or tids i d)) true f) ∙ append-nil (those own (take i tids))))
  ends_same false f =
      ap (map (λ tid. Cmd.Drop site tid))
      (pass_next tids i d lt (λ tid. not (own tid))
      ∙ (ap (λ b. those (λ tid. not (own tid)) (take i tids) ++ cond (not b) (get_or tids i d ∷ []) []) (not_same (own (get_or tids i d)) false f) ∙ append-nil (those (λ tid. not (own tid)) (take i tids))))

-- what the sites do with their live attempts, one site more
module _ (scenario : Scenario) (story : Story) where
  clears_both : (xs ys : List SiteId) → clearing_of scenario story (xs ++ ys) ≡ clearing_of scenario story xs ++ clearing_of scenario story ys
  clears_both [] ys = refl
  clears_both (x ∷ xs) ys = ap (λ cs. clearing_at scenario story x ++ cs) (clears_both xs ys) ∙ sym (append_assoc (clearing_at scenario story x) (clearing_of scenario story xs) (clearing_of scenario story ys))

  pub clears_next : (xs : List SiteId) (i : ℕ) (d : SiteId) → i < length xs → clearing_of scenario story (take (i + 1) xs) ≡ clearing_of scenario story (take i xs) ++ clearing_at scenario story (get_or xs i d)
  clears_next xs i d lt =
      ap (clearing_of scenario story) (take_more xs i d lt)
      ∙ (clears_both (take i xs) (get_or xs i d ∷ []) ∙ ap (λ cs. clearing_of scenario story (take i xs) ++ cs) (append-nil (clearing_at scenario story (get_or xs i d))))

  -- and one site's doubts more
  pub doubts_next : (xs : List SiteId) (i : ℕ) (d : SiteId) → i < length xs → (all now : List SiteTids) (at : SiteTids) → AreDoubtful scenario story (take i xs) all → now ≡ all ++ at ∷ []
      → at.site ≡ get_or xs i d → at.tids.items ≡ in_doubt_at (home_of scenario (get_or xs i d)) story → AreDoubtful scenario story (take (i + 1) xs) now
  doubts_next xs i d lt all now at are e f g =
      let pair : SiteId → List Tid → List (SiteId × List Tid) = λ (s : SiteId) (ts : List Tid). (s, ts) ∷ [] in
      let look : SiteTids → SiteId × List Tid = λ (one : SiteTids). (one.site, one.tids.items) in
      let due : SiteId → SiteId × List Tid = λ (site : SiteId). (site, in_doubt_at (home_of scenario site) story) in
      ap (map look) e ∙ (map-append look all (at ∷ []) ∙ (ap₂ (λ (front last : List (SiteId × List Tid)). front ++ last) are (ap₂ pair f g)
      ∙ (sym (map-append due (take i xs) (get_or xs i d ∷ [])) ∙ ap (map due) (sym (take_more xs i d lt)))))
