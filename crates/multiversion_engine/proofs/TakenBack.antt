-- The old versions of a site whose newest begin or sealing is taken back.
use Rattle.std.proofs.Common.{◌≡◌, ℕ, Bool, true, false, cond, Some, None, List, ◌∷◌, refl, sym, ap, ◌∙◌}
use Rattle.mdb_base.specs.declared.names.Key.{Key}
use Rattle.mdb_base.specs.declared.names.Tid.{Tid}
use Rattle.mdb_base.specs.Names.{same_tid}
use Rattle.mdb_base.proofs.ForCallers.{same_tid-equal}
use Rattle.fed_rules.specs.Runs.{Start, EngineLine, Begins, Seals, Run, changed, run_at}
use Rattle.fed_rules.specs.Replies.{has_written}
use Rattle.fed_rules.specs.EngineLines.{IsRight}
use Rattle.site_tables.specs.Tables.{is_newer}
use Rattle.multiversion_engine.specs.OldVersions.{Olds}
use Rattle.multiversion_engine.specs.Versions.{newest, version_below, IsThere, AreVersions}

pub versions_unseal : (olds : Olds) (start : Start) (older : List EngineLine) (tid : Tid) (n : ℕ) → AreVersions olds start (Seals tid n ∷ older) → AreVersions olds start older
versions_unseal olds start older tid n h = record {
  ordered = h.ordered;
  kept = λ u r key at older_one. by_kept u r key at older_one (same_tid tid u) refl;
  noted = λ u r key at has. by_noted u r key at has (same_tid tid u) refl;
}
  where
    sealed_at : (u : Tid) (r : Run) → run_at start older u ≡ Some r → same_tid tid u ≡ true → run_at start (Seals tid n ∷ older) u ≡ Some (record r { sealed = Some n })
    sealed_at u r at same = ap (λ b. cond b (changed (Seals tid n) (run_at start older u)) (run_at start older u)) same ∙ ap (changed (Seals tid n)) at

    other_at : (u : Tid) (r : Run) → run_at start older u ≡ Some r → same_tid tid u ≡ false → run_at start (Seals tid n ∷ older) u ≡ Some r
    other_at u r at other = ap (λ b. cond b (changed (Seals tid n) (run_at start older u)) (run_at start older u)) other ∙ at

    by_kept : (u : Tid) (r : Run) (key : Key) → run_at start older u ≡ Some r → is_newer r.age (newest start older key) ≡ false → (b : Bool) → same_tid tid u ≡ b →
        IsThere olds key (version_below start older r.age key)
    by_kept u r key at older_one true same = h.kept u (record r { sealed = Some n }) key (sealed_at u r at same) older_one
    by_kept u r key at older_one false other = h.kept u r key (other_at u r at other) older_one

    by_noted : (u : Tid) (r : Run) (key : Key) → run_at start older u ≡ Some r → has_written key r ≡ true → (b : Bool) → same_tid tid u ≡ b → IsThere olds key (newest start older key)
    by_noted u r key at has true same = h.noted u (record r { sealed = Some n }) key (sealed_at u r at same) has
    by_noted u r key at has false other = h.noted u r key (other_at u r at other) has

pub versions_unbegin : (olds : Olds) (start : Start) (older : List EngineLine) (tid : Tid) (n : ℕ) → IsRight start (Begins tid n ∷ older) → AreVersions olds start (Begins tid n ∷ older) → AreVersions olds start older
versions_unbegin olds start older tid n right h = record {
  ordered = h.ordered;
  kept = λ u r key at older_one. h.kept u r key (stays u r at (same_tid tid u) refl) older_one;
  noted = λ u r key at has. h.noted u r key (stays u r at (same_tid tid u) refl) has;
}
  where
    stays : (u : Tid) (r : Run) → run_at start older u ≡ Some r → (b : Bool) → same_tid tid u ≡ b → run_at start (Begins tid n ∷ older) u ≡ Some r
    stays u r at false other = ap (λ b. cond b (changed (Begins tid n) (run_at start older u)) (run_at start older u)) other ∙ at
    stays u r at true same =
        let free : run_at start older tid ≡ None = right.0.0 in
        let none : Some r ≡ None = sym at ∙ (ap (run_at start older) (sym (same_tid-equal tid u same)) ∙ free) in cc
