-- The attempts that the table lists are those that the past says are known, or undecided.
use Rattle.std.proofs.Common.{◌≡◌, ◌⊎◌, ◌||◌, Bool, true, false, cond, not, is_none, Option, Some, None, List, [], ◌∷◌, map, reverse, inl, inr, refl, sym, ◌∙◌, ap, subst}
use Rattle.std.specs.List.{AllByRecursion, IsDistinct}
use Rattle.std.specs.List.Sorted.{IsPermutation, IsSorted}
use Rattle.std.proofs.lemmas.List.{reverse-reverse}
use Rattle.std.proofs.lemmas.List.Sorted.{IsPermutation-reverse, IsPermutation-sym, IsPermutation-trans}
use Rattle.mdb_base.specs.declared.names.Tid.{Tid}
use Rattle.mdb_base.specs.Names.{same_tid, tid_before, tid_cmp}
use Rattle.mdb_base.specs.Words.{inserted, those}
use Rattle.mdb_base.proofs.ForCallers.{same_tid-equal, same_tid-refl}
use Rattle.order_laws.specs.Chains.{Distinct, In}
use Rattle.order_laws.proofs.ForCallers.{all_put, distinct_those, in_those, those_in}
use Rattle.presumptions.specs.declared.Decision.{Decision}
use Rattle.fed_rules.specs.Closing.{rising}
use Rattle.fed_rules.specs.CoordPast.{CoordPast, Standing, begun_tids, is_known, is_open, known_decision, standing, standing_of}
use Rattle.fed_rules.specs.CoordPast.Standing.{Undecided, Decided, Gone}
use Rattle.fed_rules.proofs.ForCallers.{rising_one}
use Rattle.coord_laws.proofs.ForCallers.{begin_once, known_begun}
use Rattle.order_laws.specs.SortedLists.{also}
use Rattle.protocol_table.specs.declared.known.Known.{Known}
use Rattle.protocol_table.specs.Agreement.{IsKnownAs}
use Rattle.protocol_table.specs.Attempts.{AreApart, is_of, known_of}
use Rattle.coord_tables.specs.Listing.{is_listed, listed_tids}
use Rattle.coord_tables.specs.Tables.{IsServing}
use Rattle.coord_tables.specs.Terms.{Terms, IsSound}
use Rattle.coord_tables.specs.declared.tables.Tables.{Tables}

put_rising : (tids : List Tid) → also [] tids ≡ rising tids
put_rising [] = refl
put_rising (tid ∷ tids) = ap (inserted tid_before tid) (put_rising tids)

-- what a sort leaves of attempts
pub sorted_rising : (tids sorted : List Tid) → IsPermutation tids sorted → IsSorted tid_cmp sorted → sorted ≡ rising tids
sorted_rising tids sorted moves order =
    all_put [] (reverse tids) sorted (IsPermutation-trans (reverse tids) tids sorted (IsPermutation-sym tids (reverse tids) (IsPermutation-reverse tids)) moves) order
    ∙ (ap (also []) (reverse-reverse tids) ∙ put_rising tids)

-- an attempt that is listed once
not_first : (k : Known) (t : Tid) (more : List Known) → AllByRecursion (λ y. same_tid k.tid y ≡ false) (map (λ (known : Known). known.tid) more) → In t (map (λ (known : Known). known.tid) more) → same_tid t k.tid ≡ false
not_first k t [] all i = absurd i
not_first k t (m ∷ more) all (inl e) = by_test (same_tid t k.tid) refl
  where
    by_test : (b : Bool) → same_tid t k.tid ≡ b → b ≡ false
    by_test false q = refl
    by_test true q =
        let same : m.tid ≡ k.tid = e ∙ same_tid-equal t k.tid q in
        let self : same_tid k.tid m.tid ≡ true = subst (λ u. same_tid k.tid u ≡ true) (sym same) (same_tid-refl k.tid) in
        let apart = all.0 in cc
not_first k t (m ∷ more) all (inr i) = not_first k t more all.1 i

in_tids : (undecided : Bool) (t : Tid) (table : List Known) → In t (listed_tids undecided table) → In t (map (λ (known : Known). known.tid) table)
in_tids undecided t [] i = i
in_tids undecided t (k ∷ table) i = by_test (is_listed undecided k) i (in_tids undecided t table)
  where
    by_test : (b : Bool) → In t (map (λ (known : Known). known.tid) (cond b (k ∷ those (is_listed undecided) table) (those (is_listed undecided) table)))
        → (In t (listed_tids undecided table) → In t (map (λ (known : Known). known.tid) table)) → In t (map (λ (known : Known). known.tid) (k ∷ table))
    by_test true (inl e) rest = inl e
    by_test true (inr j) rest = inr (rest j)
    by_test false j rest = inr (rest j)

-- the listed ones differ
pub listed_distinct : (undecided : Bool) (table : List Known) → AreApart (map (λ (known : Known). known.tid) table) → Distinct (listed_tids undecided table)
unfolding IsDistinct
listed_distinct undecided [] apart = tt
listed_distinct undecided (k ∷ table) apart = by_test (is_listed undecided k) (listed_distinct undecided table apart.1)
  where
    new : In k.tid (listed_tids undecided table) → ⊥
    new i = let none = not_first k k.tid table apart.0 (in_tids undecided k.tid table i) in let self = same_tid-refl k.tid in cc

    by_test : (b : Bool) → Distinct (listed_tids undecided table) → Distinct (map (λ (known : Known). known.tid) (cond b (k ∷ those (is_listed undecided) table) (those (is_listed undecided) table)))
    by_test true rest = (new, rest)
    by_test false rest = rest

-- the listed attempt that is found under a name
record IsFound (undecided : Bool) (t : Tid) (o : Option Known) : Type 0 where
  known : Known
  found : o ≡ Some known
  listed : is_listed undecided known ≡ true

found_listed : (undecided : Bool) (t : Tid) (table : List Known) → AreApart (map (λ (known : Known). known.tid) table) → In t (listed_tids undecided table) → IsFound undecided t (known_of t table)
unfolding IsDistinct
found_listed undecided t [] apart i = absurd i
found_listed undecided t (k ∷ table) apart i = by_test (is_listed undecided k) refl i (λ j. behind j (found_listed undecided t table apart.1 j))
  where
    behind : In t (listed_tids undecided table) → IsFound undecided t (known_of t table) → IsFound undecided t (cond (same_tid t k.tid) (Some k) (known_of t table))
    behind j f =
        record { known = f.known; found = ap (λ b. cond b (Some k) (known_of t table)) (not_first k t table apart.0 (in_tids undecided t table j)) ∙ f.found; listed = f.listed }

    by_test : (b : Bool) → is_listed undecided k ≡ b → In t (map (λ (known : Known). known.tid) (cond b (k ∷ those (is_listed undecided) table) (those (is_listed undecided) table)))
        → (In t (listed_tids undecided table) → IsFound undecided t (cond (same_tid t k.tid) (Some k) (known_of t table)))
        → IsFound undecided t (cond (same_tid t k.tid) (Some k) (known_of t table))
    by_test true q (inl e) rest = record { known = k; found = ap (λ b. cond b (Some k) (known_of t table)) (subst (λ u. same_tid t u ≡ true) (sym e) (same_tid-refl t)); listed = q }
    by_test true q (inr j) rest = rest j
    by_test false q j rest = rest j

listed_found : (undecided : Bool) (t : Tid) (table : List Known) (known : Known) → known_of t table ≡ Some known → is_listed undecided known ≡ true → In t (listed_tids undecided table)
listed_found undecided t [] known e l = cc
listed_found undecided t (k ∷ table) known e l = by_name (same_tid t k.tid) refl e (λ f. listed_found undecided t table known f l)
  where
    here : (b : Bool) → b ≡ true → k.tid ≡ t → In t (map (λ (known : Known). known.tid) (cond b (k ∷ those (is_listed undecided) table) (those (is_listed undecided) table)))
    here true q same = inl same
    here false q same = cc

    behind : (b : Bool) → In t (listed_tids undecided table) → In t (map (λ (known : Known). known.tid) (cond b (k ∷ those (is_listed undecided) table) (those (is_listed undecided) table)))
    behind true i = inr i
    behind false i = i

    by_name : (b : Bool) → same_tid t k.tid ≡ b → cond b (Some k) (known_of t table) ≡ Some known → (known_of t table ≡ Some known → In t (listed_tids undecided table)) → In t (listed_tids undecided (k ∷ table))
    by_name true q e rest =
        let same : k ≡ known = cc in
        here (is_listed undecided k) (ap (is_listed undecided) same ∙ l) (sym (same_tid-equal t k.tid q))
    by_name false q e rest = behind (is_listed undecided k) (rest e)

-- whether the past says that the attempt is undecided, or only that it is known
abbrev pub is_kept : Bool → Terms → CoordPast → Tid → Bool
is_kept undecided terms past tid = cond undecided (is_open past tid) (is_known (standing terms.protocols past tid))

known_kept : (undecided : Bool) (terms : Terms) (past : CoordPast) (t : Tid) (known : Known) → IsKnownAs terms.protocols past t (standing terms.protocols past t) (Some known)
    → is_listed undecided known ≡ true → is_kept undecided terms past t ≡ true
known_kept undecided terms past t known k l = by_parts undecided (is_open past t) (known_decision terms.protocols past t) k l
  where
    by_parts : (u open_now : Bool) (d : Option Decision) → IsKnownAs terms.protocols past t (standing_of open_now d) (Some known) → (not u || is_none known.decision) ≡ true
        → cond u open_now (is_known (standing_of open_now d)) ≡ true
    by_parts true true d k l = refl
    by_parts false true d k l = refl
    by_parts false false (Some d) k l = refl
    by_parts true false (Some d) k l = let has = k.decided in let none = subst (λ o. is_none o ≡ true) has l in cc
    by_parts u false None k l = absurd k

kept_known : (undecided : Bool) (terms : Terms) (past : CoordPast) (t : Tid) (o : Option Known) → IsKnownAs terms.protocols past t (standing terms.protocols past t) o
    → is_kept undecided terms past t ≡ true → IsFound undecided t o
kept_known undecided terms past t o k h = by_parts undecided (is_open past t) (known_decision terms.protocols past t) o k h
  where
    either : (u : Bool) (known : Known) → known.decision ≡ None → is_listed u known ≡ true
    either true known e = ap is_none e
    either false known e = refl

    by_parts : (u open_now : Bool) (d : Option Decision) (o : Option Known) → IsKnownAs terms.protocols past t (standing_of open_now d) o
        → cond u open_now (is_known (standing_of open_now d)) ≡ true → IsFound u t o
    by_parts u true d None k h = absurd k
    by_parts u true d (Some known) k h = record { known = known; found = refl; listed = either u known k.undecided }
    by_parts true false d o k h = cc
    by_parts false false (Some d) None k h = absurd k
    by_parts false false (Some d) (Some known) k h = record { known = known; found = refl; listed = refl }
    by_parts false false None o k h = cc

known_open : (undecided : Bool) (terms : Terms) (past : CoordPast) (t : Tid) → is_kept undecided terms past t ≡ true → is_known (standing terms.protocols past t) ≡ true
known_open undecided terms past t h = by_parts undecided (is_open past t) (known_decision terms.protocols past t) h
  where
    by_parts : (u open_now : Bool) (d : Option Decision) → cond u open_now (is_known (standing_of open_now d)) ≡ true → is_known (standing_of open_now d) ≡ true
    by_parts true true d h = refl
    by_parts true false d h = cc
    by_parts false open_now d h = h

-- so in rising order they are those that were begun and that the past says are so
pub rising_listed : (undecided : Bool) (terms : Terms) (past : CoordPast) (tables : Tables) → IsSound terms past → IsServing tables terms past
    → AreApart (map (λ (known : Known). known.tid) tables.known)
    → rising (listed_tids undecided tables.known) ≡ rising (those (is_kept undecided terms past) (begun_tids past))
rising_listed undecided terms past tables sound serving apart =
    rising_one listed (those (is_kept undecided terms past) (begun_tids past))
    (listed_distinct undecided tables.known apart)
    (distinct_those (is_kept undecided terms past) (begun_tids past) (begin_once terms.protocols terms.policy past sound.made))
    to
    back
  where
    listed : List Tid
    listed = listed_tids undecided tables.known

    to : (t : Tid) → In t listed → In t (those (is_kept undecided terms past) (begun_tids past))
    to t i =
        let f = found_listed undecided t tables.known apart i in
        let kept = known_kept undecided terms past t f.known (subst (IsKnownAs terms.protocols past t (standing terms.protocols past t)) f.found (serving.known t)) f.listed in
        in_those (is_kept undecided terms past) t (begun_tids past) (known_begun terms.protocols terms.policy past sound.made t (known_open undecided terms past t kept)) kept

    back : (t : Tid) → In t (those (is_kept undecided terms past) (begun_tids past)) → In t listed
    back t i =
        let f = kept_known undecided terms past t (known_of t tables.known) (serving.known t) (those_in (is_kept undecided terms past) t (begun_tids past) i).1 in
        listed_found undecided t tables.known f.known f.found f.listed
