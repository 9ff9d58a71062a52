-- Reached attempts are kept, and the others are dropped: how far a walk along the attempts has come.
use Rattle.std.proofs.Common.{ℕ, suc, ◌≡◌, ◌+◌, ◌<◌, ◌≤◌, nat_lt, Bool, true, false, cond, List, [], ◌∷◌, ◌++◌, length, take, drop, set, get_or, refl, sym, ap, ◌∙◌, subst, inl, inr, append_assoc, arith}
use Rattle.std.specs.List.{SwappedAt}
use Rattle.std.proofs.Math.Seq.{drop-cons}
use Rattle.std.proofs.lemmas.List.{take_more_set, take-set, take-set-le, drop-set-lt, length-set, drop-drop}
use Rattle.mdb_base.specs.declared.names.SiteId.{SiteId}
use Rattle.mdb_base.specs.declared.names.SiteTicket.{SiteTicket}
use Rattle.mdb_base.proofs.ForCallers.{append_nil}
use Rattle.order_laws.specs.Tickets.{Ticketed}
use Rattle.order_laws.proofs.ForCallers.{bool_is}
use Rattle.ticket_graph.specs.Reach.{are_before, reached, unreached, floor_in, highest, highest_of, IsLowest}

-- ---- an item that is swapped with an earlier one

pub swapped_take : {A : Type 0} (xs ys : List A) (i j : ℕ) (d : A) → i ≤ j → j < length xs → SwappedAt xs ys i j → take (i + 1) ys ≡ take i xs ++ get_or xs j d ∷ []
swapped_take xs ys i j d h k s =
    let y = get_or xs j d in
    let z = get_or xs i d in
    let whole : ys ≡ set (set xs i y) j z = s.3 d in
    elim (bool_is (nat_lt i j)) [
      | inl e ↦
          let near : i + 1 ≤ j = grind arith in
          let within : i < length xs = omega arith in
          ap (take (i + 1)) whole ∙ (take-set-le (i + 1) (set xs i y) j z near ∙ take_more_set xs i y within)
      | inr e ↦
          let same : i ≡ j = grind arith in
          let within : i < length (set xs i y) = rw (length-set xs i y) (omega arith) in
          let last : z ≡ y = ap (λ n. get_or xs n d) same in
          ap (take (i + 1)) (whole ∙ ap (λ n. set (set xs i y) n z) (sym same))
          ∙ (take_more_set (set xs i y) i z within ∙ (ap (λ us. us ++ z ∷ []) (take-set xs i y) ∙ ap (λ u. take i xs ++ u ∷ []) last))
    ]

pub swapped_drop : {A : Type 0} (xs ys : List A) (i j : ℕ) (d : A) → i ≤ j → SwappedAt xs ys i j → drop (j + 1) ys ≡ drop (j + 1) xs
swapped_drop xs ys i j d h s =
    let y = get_or xs j d in
    let z = get_or xs i d in
    let whole : ys ≡ set (set xs i y) j z = s.3 d in
    ap (drop (j + 1)) whole ∙ (drop-set-lt (j + 1) (set xs i y) j z (omega arith) ∙ drop-set-lt (j + 1) xs i y (omega arith))

-- ---- the walk

-- the walk has kept the first of these attempts, and what is left decides
pub record IsKeeping (met : List SiteTicket) (all : List Ticketed) (old : List ℕ) (kept rest : List Ticketed) (floors : List ℕ) (lowest : List ℕ) : Type 0 where
  pub now : List SiteTicket
  pub is_lowest : IsLowest lowest now
  pub is_kept : reached met all ≡ kept ++ reached now rest
  pub is_dropped : (site : SiteId) → highest_of site (floor_in old site) (unreached met all) ≡ highest_of site (floor_in floors site) (unreached now rest)

pub keeping_starts : (met : List SiteTicket) (all : List Ticketed) (old : List ℕ) (lowest : List ℕ) → IsLowest lowest met →
    IsKeeping met all old [] all old lowest
keeping_starts met all old lowest h = record { now = met; is_lowest = h; is_kept = refl; is_dropped = λ site. refl }

-- one more is kept
pub keeping_keeps : (met : List SiteTicket) (all : List Ticketed) (old : List ℕ) (kept : List Ticketed) (x : Ticketed) (rest : List Ticketed) (floors : List ℕ)
    (lowest lower : List ℕ) (leads : Bool) → IsKeeping met all old kept (x ∷ rest) floors lowest →
    ((now : List SiteTicket) → IsLowest lowest now → leads ≡ are_before now x.tickets) → leads ≡ true →
    ((now : List SiteTicket) → IsLowest lowest now → IsLowest lower (now ++ x.tickets)) →
    IsKeeping met all old (kept ++ x ∷ []) rest floors lower
keeping_keeps met all old kept x rest floors lowest lower leads k test is meets =
    let holds : are_before k.now x.tickets ≡ true = sym (test k.now k.is_lowest) ∙ is in
    record {
      now = k.now ++ x.tickets;
      is_lowest = meets k.now k.is_lowest;
      is_kept =
          k.is_kept ∙ (ap (λ b. kept ++ cond b (x ∷ reached (k.now ++ x.tickets) rest) (reached k.now rest)) holds
          ∙ sym (append_assoc kept (x ∷ []) (reached (k.now ++ x.tickets) rest)));
      is_dropped = λ site.
          k.is_dropped site
          ∙ ap (λ b. highest_of site (floor_in floors site) (cond b (unreached (k.now ++ x.tickets) rest) (x ∷ unreached k.now rest))) holds;
    }

-- one more is dropped
pub keeping_drops : (met : List SiteTicket) (all : List Ticketed) (old : List ℕ) (kept : List Ticketed) (x : Ticketed) (rest : List Ticketed) (floors higher : List ℕ)
    (lowest : List ℕ) (leads : Bool) → IsKeeping met all old kept (x ∷ rest) floors lowest →
    ((now : List SiteTicket) → IsLowest lowest now → leads ≡ are_before now x.tickets) → leads ≡ false →
    ((site : SiteId) → floor_in higher site ≡ highest site (floor_in floors site) x.tickets) →
    IsKeeping met all old kept rest higher lowest
keeping_drops met all old kept x rest floors higher lowest leads k test is raises =
    let fails : are_before k.now x.tickets ≡ false = sym (test k.now k.is_lowest) ∙ is in
    record {
      now = k.now;
      is_lowest = k.is_lowest;
      is_kept = k.is_kept ∙ ap (λ b. kept ++ cond b (x ∷ reached (k.now ++ x.tickets) rest) (reached k.now rest)) fails;
      is_dropped = λ site.
          k.is_dropped site
          ∙ (ap (λ b. highest_of site (floor_in floors site) (cond b (unreached (k.now ++ x.tickets) rest) (x ∷ unreached k.now rest))) fails
          ∙ ap (λ n. highest_of site n (unreached k.now rest)) (sym (raises site)));
    }

pub keeping_ends : (met : List SiteTicket) (all : List Ticketed) (old : List ℕ) (kept : List Ticketed) (floors : List ℕ) (lowest : List ℕ) →
    IsKeeping met all old kept [] floors lowest → kept ≡ reached met all
keeping_ends met all old kept floors lowest k = sym (k.is_kept ∙ append_nil kept)

-- ---- the walk that parts them

-- those that were parted so far, and what is left decides
pub record IsParting (met : List SiteTicket) (all front behind front_now behind_now rest : List Ticketed) (lowest : List ℕ) : Type 0 where
  pub now : List SiteTicket
  pub is_lowest : IsLowest lowest now
  pub is_front : front ++ unreached met all ≡ front_now ++ unreached now rest
  pub is_behind : behind ++ reached met all ≡ behind_now ++ reached now rest

pub parting_goes_behind : (met : List SiteTicket) (all front behind front_now behind_now : List Ticketed) (x : Ticketed) (rest : List Ticketed)
    (lowest lower : List ℕ) (leads : Bool) → IsParting met all front behind front_now behind_now (x ∷ rest) lowest →
    ((now : List SiteTicket) → IsLowest lowest now → leads ≡ are_before now x.tickets) → leads ≡ true →
    ((now : List SiteTicket) → IsLowest lowest now → IsLowest lower (now ++ x.tickets)) →
    IsParting met all front behind front_now (behind_now ++ x ∷ []) rest lower
parting_goes_behind met all front behind front_now behind_now x rest lowest lower leads k test is meets =
    let holds : are_before k.now x.tickets ≡ true = sym (test k.now k.is_lowest) ∙ is in
    record {
      now = k.now ++ x.tickets;
      is_lowest = meets k.now k.is_lowest;
      is_front = k.is_front ∙ ap (λ b. front_now ++ cond b (unreached (k.now ++ x.tickets) rest) (x ∷ unreached k.now rest)) holds;
      is_behind =
          k.is_behind ∙ (ap (λ b. behind_now ++ cond b (x ∷ reached (k.now ++ x.tickets) rest) (reached k.now rest)) holds
          ∙ sym (append_assoc behind_now (x ∷ []) (reached (k.now ++ x.tickets) rest)));
    }

pub parting_goes_front : (met : List SiteTicket) (all front behind front_now behind_now : List Ticketed) (x : Ticketed) (rest : List Ticketed)
    (lowest : List ℕ) (leads : Bool) → IsParting met all front behind front_now behind_now (x ∷ rest) lowest →
    ((now : List SiteTicket) → IsLowest lowest now → leads ≡ are_before now x.tickets) → leads ≡ false →
    IsParting met all front behind (front_now ++ x ∷ []) behind_now rest lowest
parting_goes_front met all front behind front_now behind_now x rest lowest leads k test is =
    let fails : are_before k.now x.tickets ≡ false = sym (test k.now k.is_lowest) ∙ is in
    record {
      now = k.now;
      is_lowest = k.is_lowest;
      is_front =
          k.is_front ∙ (ap (λ b. front_now ++ cond b (unreached (k.now ++ x.tickets) rest) (x ∷ unreached k.now rest)) fails
          ∙ sym (append_assoc front_now (x ∷ []) (unreached k.now rest)));
      is_behind = k.is_behind ∙ ap (λ b. behind_now ++ cond b (x ∷ reached (k.now ++ x.tickets) rest) (reached k.now rest)) fails;
    }

pub parting_ends : (met : List SiteTicket) (all front behind front_now behind_now : List Ticketed) (lowest : List ℕ) →
    IsParting met all front behind front_now behind_now [] lowest →
    (front_now ≡ front ++ unreached met all) × (behind_now ≡ behind ++ reached met all)
parting_ends met all front behind front_now behind_now lowest k = (sym (k.is_front ∙ append_nil front_now), sym (k.is_behind ∙ append_nil behind_now))

-- ---- what is left

pub drop_next : {A : Type 0} (xs : List A) (i : ℕ) (x : A) → i < length xs → get_or xs i x ≡ x → drop i xs ≡ x ∷ drop (i + 1) xs
drop_next xs i x h e =
    let next : suc i ≡ i + 1 = omega arith in
    drop-cons xs i x h ∙ (ap (λ y. y ∷ drop (suc i) xs) e ∙ ap (λ n. x ∷ drop n xs) next)

pub drop_on : {A : Type 0} (xs ys : List A) (i : ℕ) → drop i xs ≡ drop i ys → drop (i + 1) xs ≡ drop (i + 1) ys
drop_on xs ys i e =
    sym (drop-drop 1 i xs) ∙ (ap (drop 1) e ∙ drop-drop 1 i ys)

-- what holds of some values holds of the same under other names
pub of_same : (P : ℕ → List Ticketed → List ℕ → List ℕ → Type 0) (n m : ℕ) (xs ys : List Ticketed) (fs gs : List ℕ) (us vs : List ℕ) →
    n ≡ m → xs ≡ ys → fs ≡ gs → us ≡ vs → P m ys gs vs → P n xs fs us
of_same P n m xs ys fs gs us vs e f g h p =
    subst (λ k. P k xs fs us) (sym e) (subst (λ zs. P m zs fs us) (sym f) (subst (λ zs. P m ys zs us) (sym g) (subst (λ zs. P m ys gs zs) (sym h) p)))

pub parting_starts : (met : List SiteTicket) (all front behind : List Ticketed) (lowest : List ℕ) → IsLowest lowest met →
    IsParting met all front behind front behind all lowest
parting_starts met all front behind lowest h = record { now = met; is_lowest = h; is_front = refl; is_behind = refl }
