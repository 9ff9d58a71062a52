-- The last version of a key below a number.
use Rattle.std.proofs.Common.{◌≡◌, ℕ, ◌<◌, true, false, Option, Some, None, IsSome, List, [], ◌∷◌, ◌++◌, inl, inr, refl, sym, ap, ◌∙◌, arith}
use Rattle.std.specs.declared.ops.Bound.TheVariants.{Included, Excluded}
use Rattle.std.specs.Ordering.{is_lt}
use Rattle.std.specs.BTreeMap.{BTreeMap}
use Rattle.std.specs.BTreeMap.Range.{IsRangeOf, IsInRange}
use Rattle.std.specs.FinMap.{from_entries}
use Rattle.mdb_base.specs.declared.names.Key.{Key}
use Rattle.multiversion_engine.specs.declared.old_versions.Place.{Place}
use Rattle.multiversion_engine.specs.OldVersions.{place_cmp, place_of, IsLastBelow}
use Rattle.multiversion_engine.proofs.Places.{look, get_version, below_of, up_to_of, below_here, up_to_here, less_here}

none_unless : (o : Option ℕ) → (IsSome o → ⊥) → o ≡ None
none_unless None h = refl
none_unless (Some t) h = absurd (h refl)

in_below : (key : Key) (below : ℕ) (q : Place) → IsInRange place_cmp (Included (place_of key 0)) (Excluded (place_of key below)) q → (q.key ≡ key.0) × (q.number < below)
in_below key below q h =
    elim (up_to_of (place_of key 0) q h.0) [
      | inl lt ↦ elim (below_of q (place_of key below) h.1) [ inl gt ↦ absurd (omega arith) | inr is ↦ is ]
      | inr same ↦ elim (below_of q (place_of key below) h.1) [ inl gt ↦ let e = same.0 in absurd (omega arith) | inr is ↦ is ]
    ]

below_in : (key : Key) (below n : ℕ) → n < below → IsInRange place_cmp (Included (place_of key 0)) (Excluded (place_of key below)) (place_of key n)
below_in key below n lt = (up_to_here key.0 0 n (omega arith), below_here key.0 n below lt)

pub last_below : (key : Key) (below : ℕ) (m : BTreeMap Place ℕ) (r before : List (Place × ℕ)) (e : Place) (v : ℕ) →
    IsRangeOf place_cmp (Included (place_of key 0)) (Excluded (place_of key below)) m r → r ≡ before ++ (e, v) ∷ [] →
    IsLastBelow (from_entries m.entries) key below (Some (record { number = e.number; value = v }))
last_below key below m r before e v h is =
    let last = h.3 (e, v) before is in
    let place = in_below key below e last.0 in (
      get_version m.entries (place_of key e.number) ∙ (ap (λ (k : ℕ). look m.entries (record { key = k; number = e.number })) (sym place.0) ∙ last.1),
      place.1,
      λ n more lt.
          get_version m.entries (place_of key n)
          ∙ none_unless _ (λ there.
          let late = h.4 (e, v) before is (place_of key n) (below_in key below n lt) there in
          let here = ap (λ (k : ℕ). is_lt (place_cmp (record { key = k; number = e.number }) (place_of key n))) place.0 ∙ less_here key.0 e.number n more in
          let bad : false ≡ true = sym late ∙ here in cc),
    )

pub none_below : (key : Key) (below : ℕ) (m : BTreeMap Place ℕ) (r : List (Place × ℕ)) →
    IsRangeOf place_cmp (Included (place_of key 0)) (Excluded (place_of key below)) m r → r ≡ [] → IsLastBelow (from_entries m.entries) key below None
none_below key below m r h is n lt = get_version m.entries (place_of key n) ∙ h.5 is (place_of key n) (below_in key below n lt)
