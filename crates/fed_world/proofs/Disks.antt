-- The disks behind a change of one of them.
use Rattle.std.proofs.Common.{◌≡◌, ℕ, zero, suc, ◌<◌, ◌≤◌, None, Some, List, [], ◌∷◌, length, map, option_map, slice_get, slice_set, refl, sym, ap, ◌∙◌, subst}
use Rattle.std.proofs.lemmas.Option.{same_Some, slice_get-map, slice_get_within}
use Rattle.mdb_base.specs.declared.names.SiteId.{SiteId}
use Rattle.fed_rules.specs.Scenarios.{home_of}
use Rattle.fed_rules.specs.Sessions.{Session}
use Rattle.journal_disk.specs.Disk.{Seen}
use Rattle.session_routes.proofs.ForCallers.{get_other, get_put, length_set}
use Rattle.fed_world.specs.Worlds.{AreDisks, OnDisk}

-- what is seen of a list in which one item was put
pub seen_put : {A B : Type 0} (f : A → B) (xs : List A) (n : ℕ) (x : A) → map f (slice_set xs n x) ≡ slice_set (map f xs) n (f x)
seen_put f [] n x = cc
seen_put f (y ∷ xs) zero x = refl
seen_put {A} {B} f (y ∷ xs) (suc n) x = ap (λ (zs : List B). f y ∷ zs) (seen_put f xs n x)

-- what is seen of one item
pub seen_at : {A B : Type 0} (f : A → B) (xs : List A) (n : ℕ) (x : A) → slice_get xs n ≡ Some x → slice_get (map f xs) n ≡ Some (f x)
seen_at f xs n x e = slice_get-map f xs n ∙ ap (option_map f) e

module _ (disks : List Seen) (n : ℕ) (old new : Seen) (at : slice_get disks n ≡ Some old) where
  within : n < length disks
  within = slice_get_within disks n old at

  put_here : slice_get (slice_set disks n new) n ≡ Some new
  put_here = get_put disks n new within

  -- a fact of the disk that was there
  pub on_own : (K : Seen → Type 0) → OnDisk disks n K → K old
  on_own K o = subst K (same_Some o.disk old (sym o.own ∙ at)) o.holds

  -- a fact of the disk that was put
  pub on_put : (K : Seen → Type 0) → K new → OnDisk (slice_set disks n new) n K
  on_put K k = record { disk = new; own = put_here; holds = k }

  -- every other disk stays
  pub on_other : (k : ℕ) (K : Seen → Type 0) → (k ≡ n → ⊥) → OnDisk disks k K → OnDisk (slice_set disks n new) k K
  on_other k K apart o = record { disk = o.disk; own = get_other disks n k new apart ∙ o.own; holds = o.holds }

  -- nothing is on the disk of a site that isn't declared, where the disk is of none of them
  pub put_disks : (session : Session) → ((site : SiteId) → 1 ≤ site.0 → home_of session.plan site ≡ None → site.0 ≡ n → ⊥) → AreDisks disks session → AreDisks (slice_set disks n new) session
  put_disks session never are = record {
    nine = length_set disks n new ∙ are.nine;
    others = λ site disk least none e. are.others site disk least none (sym (get_other disks n site.0 new (λ same. never site least none same)) ∙ e);
  }
