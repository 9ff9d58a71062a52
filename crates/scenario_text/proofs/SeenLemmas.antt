-- What a draft keeps beside its lists tells whether one more line may stand there, and is kept with that line.
use Rattle.std.proofs.Common.{◌≡◌, ℕ, suc, ◌+◌, ◌<◌, ◌≤◌, Bool, true, false, cond, ◌&&◌, ◌||◌, eqb, leb, List, [], ◌∷◌, ◌++◌, length, set, get_or, Ok, Err, refl, sym, ap, ◌∙◌, add-one, arith, inl, inr, get_or-set_other}
use Rattle.std.specs.Prelude.{◌==◌}
use Rattle.std.specs.Ordering.{nat_cmp, is_eq}
use Rattle.std.specs.declared.cmp.Ordering.{Ordering}
use Rattle.std.specs.BTreeSet.{BTreeSet, contains, Updates}
use Rattle.std.specs.BTreeMap.{is_at}
use Rattle.std.proofs.lemmas.Bool.{le-leb, lt-leb}
use Rattle.std.proofs.lemmas.Bool.Decides.{nat_tests, eqb_tells}
use Rattle.std.proofs.lemmas.Grind.{get_or-set_at}
use Rattle.mdb_base.specs.declared.names.SiteId.{SiteId}
use Rattle.mdb_base.specs.declared.names.Key.{Key}
use Rattle.mdb_base.specs.Names.{same_site}
use Rattle.mdb_base.specs.Words.{some_of, how_many}
use Rattle.mdb_base.proofs.ForCallers.{is_eq-then, or_false, some_of-push}
use Rattle.fed_rules.specs.declared.scenario.ItemLine.{ItemLine}
use Rattle.fed_rules.specs.declared.scenario.LinkLine.{LinkLine}
use Rattle.fed_rules.specs.declared.scenario.StopLine.{StopLine}
use Rattle.fed_rules.specs.Plans.{most_items, has_site, one_message, same_way, stops_actor}
use Rattle.scenario_text.specs.declared.bad.BadWhy.TheVariants.{Repeated, Many}
use Rattle.scenario_text.specs.Drafts.{with_item}
use Rattle.scenario_text.specs.Seen.{row_order, place_order, is_of_row, is_of_message, IsItemDraft, IsLinkDraft, IsStopDraft}
use Rattle.scenario_text.proofs.ListLemmas.{how_many-push}

-- ---- orders that tell two names apart

same_number : (a b : ℕ) → is_eq (nat_cmp a b) ≡ eqb b a
same_number a b = grind (arith, nat_tests)

-- ---- a set that has the names of the lines, with one line and its name more

or_at : (a b : Bool) → cond a true b ≡ (b || a)
or_at true true = refl
or_at true false = refl
or_at false true = refl
or_at false false = refl

pub seen_more : {K A : Type 0} (order : K → K → Ordering) (is_of : K → A → Bool) (old new : BTreeSet K) (k : K) (xs : List A) (y : A)
    → ((q : K) → contains order old q ≡ some_of (is_of q) xs) → Updates order old new k true → ((q : K) → is_at (order k) q ≡ is_of q y)
    → (q : K) → contains order new q ≡ some_of (is_of q) (xs ++ y ∷ [])
seen_more order is_of old new k xs y seen updates fits q =
    updates.0 q ∙ ap (λ b. cond b true (contains order old q)) (fits q) ∙ or_at (is_of q y) (contains order old q) ∙ ap (λ b. b || is_of q y) (seen q) ∙ sym (some_of-push (is_of q) xs y)

-- ---- counts by number, with one line more

pub counted_more : {A : Type 0} (is_of : ℕ → A → Bool) (counts : List ℕ) (m : ℕ) (xs : List A) (y : A)
    → ((n : ℕ) → n ≤ 8 → get_or counts n 0 ≡ how_many (is_of n) xs) → m ≤ 8 → length counts ≡ 9 → ((n : ℕ) → is_of n y ≡ eqb m n)
    → (n : ℕ) → n ≤ 8 → get_or (set counts m (get_or counts m 0 + 1)) n 0 ≡ how_many (is_of n) (xs ++ y ∷ [])
counted_more is_of counts m xs y counted low nine fits n small =
    let more = how_many-push (is_of n) xs y ∙ ap (λ b. cond b (suc (how_many (is_of n) xs)) (how_many (is_of n) xs)) (fits n) in
    elim (eqb_tells m n) [
      | inl same ↦
          let first : get_or (set counts m (get_or counts m 0 + 1)) n 0 ≡ get_or counts m 0 + 1 = get_or-set_at counts m n (get_or counts m 0 + 1) 0 (sym same.1) (omega arith) in
          let here : get_or counts m 0 ≡ how_many (is_of n) xs = ap (λ k. get_or counts k 0) same.1 ∙ counted n small in
          first ∙ ap (λ k. k + 1) here ∙ add-one (how_many (is_of n) xs) ∙ sym (more ∙ ap (λ b. cond b (suc (how_many (is_of n) xs)) (how_many (is_of n) xs)) same.0)
      | inr other ↦
          get_or-set_other counts m n (get_or counts m 0 + 1) 0 (λ e. other.1 (sym e)) ∙ counted n small
          ∙ sym (more ∙ ap (λ b. cond b (suc (how_many (is_of n) xs)) (how_many (is_of n) xs)) other.0)
    ]

-- ---- rows

row_fits : (line : ItemLine) (row : SiteId × Key) → is_at (row_order (line.site, line.put.key)) row ≡ is_of_row row line
row_fits line row =
    is_eq-then (nat_cmp line.site.0 row.0.0) (nat_cmp line.put.key.0 row.1.0)
    ∙ ap (λ b. b && is_eq (nat_cmp line.put.key.0 row.1.0)) (same_number line.site.0 row.0.0) ∙ ap (λ b. eqb row.0.0 line.site.0 && b) (same_number line.put.key.0 row.1.0)

module _ (line : ItemLine) (lines : List ItemLine) (rows : BTreeSet (SiteId × Key)) (counts : List ℕ) (kept : IsItemDraft lines rows counts) where
  pub item_repeated : contains row_order rows (line.site, line.put.key) ≡ true → with_item line lines ≡ Err Repeated
  unfolding with_item
  item_repeated there = rw (sym (kept.rows_seen (line.site, line.put.key)) ∙ there) refl

  pub item_many : line.site.0 ≤ 8 → contains row_order rows (line.site, line.put.key) ≡ false → most_items ≤ get_or counts line.site.0 0 → with_item line lines ≡ Err Many
  unfolding with_item
  item_many low new many =
      let full : leb most_items (how_many (has_site line.site) lines) ≡ true = ap (leb most_items) (sym (kept.counted line.site low)) ∙ le-leb _ _ many in
      rw (sym (kept.rows_seen (line.site, line.put.key)) ∙ new, full) refl

  pub item_added : line.site.0 ≤ 8 → contains row_order rows (line.site, line.put.key) ≡ false → get_or counts line.site.0 0 < most_items → with_item line lines ≡ Ok (lines ++ line ∷ [])
  unfolding with_item
  item_added low new few =
      let room : leb most_items (how_many (has_site line.site) lines) ≡ false = ap (leb most_items) (sym (kept.counted line.site low)) ∙ lt-leb _ _ few in
      rw (sym (kept.rows_seen (line.site, line.put.key)) ∙ new, room) refl

  pub item_kept : (more : BTreeSet (SiteId × Key)) → line.site.0 ≤ 8 → length counts ≡ 9 → Updates row_order rows more (line.site, line.put.key) true
      → IsItemDraft (lines ++ line ∷ []) more (set counts line.site.0 (get_or counts line.site.0 0 + 1))
  item_kept more low nine updates = record {
    rows_seen = seen_more row_order is_of_row rows more (line.site, line.put.key) lines line kept.rows_seen updates (row_fits line);
    counted = λ site small. counted_more (λ n. has_site (record { 0 = n })) counts line.site.0 lines line (λ n few. kept.counted (record { 0 = n }) few) low nine (λ n. refl) site.0 small;
  }

-- ---- messages of links

same_way-same : (to : Bool) → same_way to to ≡ true
same_way-same true = refl
same_way-same false = refl

place_fits : (to : Bool) (line : LinkLine) → line.to ≡ to → (place : SiteId × ℕ) → is_at (place_order (line.site, line.place)) place ≡ is_of_message to place line
place_fits to line way place =
    is_eq-then (nat_cmp line.site.0 place.0.0) (nat_cmp line.place place.1)
    ∙ ap (λ b. b && is_eq (nat_cmp line.place place.1)) (same_number line.site.0 place.0.0) ∙ ap (λ b. eqb place.0.0 line.site.0 && b) (same_number line.place place.1)
    ∙ sym (ap (λ b. b && eqb place.0.0 line.site.0 && eqb place.1 line.place) (ap (same_way to) way ∙ same_way-same to))

-- the other way's messages stay
other_way : (to from : Bool) (line : LinkLine) (lines : List LinkLine) (place : SiteId × ℕ) → line.to ≡ to → same_way from to ≡ false
    → some_of (is_of_message from place) (lines ++ line ∷ []) ≡ some_of (is_of_message from place) lines
other_way to from line lines place way other =
    some_of-push (is_of_message from place) lines line
    ∙ ap (λ b. some_of (is_of_message from place) lines || (b && same_site place.0 line.site && (place.1 == line.place))) (ap (same_way from) way ∙ other)
    ∙ or_false (some_of (is_of_message from place) lines)

module _ (line : LinkLine) (lines : List LinkLine) (to from : BTreeSet (SiteId × ℕ)) (kept : IsLinkDraft lines to from) where
  pub link_to_seen : line.to ≡ true → contains place_order to (line.site, line.place) ≡ some_of (one_message line) lines
  link_to_seen way = kept.to_seen (line.site, line.place) ∙ ap (λ b. some_of (is_of_message b (line.site, line.place)) lines) (sym way)

  pub link_from_seen : line.to ≡ false → contains place_order from (line.site, line.place) ≡ some_of (one_message line) lines
  link_from_seen way = kept.from_seen (line.site, line.place) ∙ ap (λ b. some_of (is_of_message b (line.site, line.place)) lines) (sym way)

  pub link_to_kept : (more : BTreeSet (SiteId × ℕ)) → line.to ≡ true → Updates place_order to more (line.site, line.place) true → IsLinkDraft (lines ++ line ∷ []) more from
  link_to_kept more way updates = record {
    to_seen = seen_more place_order (is_of_message true) to more (line.site, line.place) lines line kept.to_seen updates (place_fits true line way);
    from_seen = λ place. kept.from_seen place ∙ sym (other_way true false line lines place way refl);
  }

  pub link_from_kept : (more : BTreeSet (SiteId × ℕ)) → line.to ≡ false → Updates place_order from more (line.site, line.place) true → IsLinkDraft (lines ++ line ∷ []) to more
  link_from_kept more way updates = record {
    to_seen = λ place. kept.to_seen place ∙ sym (other_way false true line lines place way refl);
    from_seen = seen_more place_order (is_of_message false) from more (line.site, line.place) lines line kept.from_seen updates (place_fits false line way);
  }

-- ---- stops

pub stop_kept : (line : StopLine) (lines : List StopLine) (counts : List ℕ) → IsStopDraft lines counts → line.actor ≤ 8 → length counts ≡ 9
    → IsStopDraft (lines ++ line ∷ []) (set counts line.actor (get_or counts line.actor 0 + 1))
stop_kept line lines counts kept low nine = record {
  counted = counted_more stops_actor counts line.actor lines line kept.counted low nine (λ n. refl);
}
