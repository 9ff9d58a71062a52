-- The actors of a run are seated one after another, and taken out of their seats again.
use Rattle.std.proofs.Common.{◌≡◌, ℕ, zero, suc, ◌+◌, ◌-◌, ◌<◌, ◌≤◌, ◌⊎◌, inl, inr, Bool, Option, Some, List, [], ◌∷◌, ◌++◌, length, map, slice_get, refl, sym, ap, ◌∙◌, subst, append_assoc, arith}
use Rattle.std.specs.Prelude.{nat_le, true, false}
use mathlib.Core.List.{IsPrefix}
use Rattle.std.proofs.lemmas.Bool.{leb-false, leb-true}
use Rattle.std.proofs.lemmas.List.{append-nil, length-append}
use Rattle.std.proofs.lemmas.Option.{slice_get_within}
use Rattle.mdb_base.proofs.ForCallers.{slice_get-front, slice_get-one}
use Rattle.journal_disk.specs.Disk.{Seen}
use Rattle.any_engine.specs.Stands as Engines
use Rattle.scripted_link.specs.Rings.{Wire}
use Rattle.fed_world.proofs.ForCallers.{mapped_at}
use Rattle.host_laws.specs.Plans.{SitePlan}
use Rattle.fed_hosts.specs.Hosts.{CanOpen}
use Rattle.federation_run.specs.declared.wired.WiredSite.{WiredSite}
use Rattle.federation_run.specs.declared.lefts.SiteLeft.{SiteLeft}
use Rattle.federation_run.specs.declared.seats.Seat.{Seat}
use Rattle.federation_run.specs.declared.seats.Seat.TheVariants.{Hosted, Idle}
use Rattle.federation_run.specs.Lefts.{AreBack, AreHeldAt, HasRisenFrom, IsHeldAt, IsTakenOut}
use Rattle.federation_run.specs.Seats.{AreSeats, CanSeat, CanSeatAll, HasWired, IsLastWired, IsSeat}
use Rattle.federation_run.proofs.Places.{at_end, before_or_last, of_prefix}

-- the last item of a beginning of a list
pub last_out : {A : Type 0} (all old new : List A) (x : A) → IsPrefix old all → old ≡ new ++ x ∷ [] → IsPrefix new all × (slice_get all (length new) ≡ Some x)
last_out {A} all old new x front is = ((x ∷ front.0, whole), subst (λ (zs : List A). slice_get zs (length new) ≡ Some x) front.1 (slice_get-front old front.0 (length new) x (subst (λ (zs : List A). slice_get zs (length new) ≡ Some x) (sym is) (at_end new x))))
  where
    whole : new ++ x ∷ front.0 ≡ all
    whole = sym (append_assoc new (x ∷ []) front.0) ∙ (ap (λ (zs : List A). zs ++ front.0) (sym is) ∙ front.1)

-- a beginning that isn't empty begins with the same item
pub same_first : {A : Type 0} (xs ys : List A) → 1 ≤ length xs → IsPrefix xs ys → slice_get xs 0 ≡ slice_get ys 0
same_first [] ys least front = absurd (omega (arith, least))
same_first (x ∷ xs) ys least front = sym (of_prefix (x ∷ xs) ys 0 x front refl)

pub length_out : {A : Type 0} (old new : List A) (x : A) → old ≡ new ++ x ∷ [] → length old ≡ length new + 1
length_out {A} old new x is = ap (λ (zs : List A). length zs) is ∙ length-append new (x ∷ [])

-- it is the one at the last place
pub last_is : {A : Type 0} (old new : List A) (x y : A) → old ≡ new ++ x ∷ [] → slice_get old (length old - 1) ≡ Some y → x ≡ y
last_is {A} old new x y out at =
    let place : length old - 1 ≡ length new = (let e = length_out old new x out in omega (arith, e)) in
    slice_get-one old (length new) x y (subst (λ (zs : List A). slice_get zs (length new) ≡ Some x) (sym out) (at_end new x)) (subst (λ (n : ℕ). slice_get old n ≡ Some y) place at)

-- so many actors are seated
pub record AreSeatedTo {D N : Type 0} (wired_then : List WiredSite) (disks_then : List D) (wired_sites : List WiredSite) (disks : List D) (seats : List (Seat D N)) : Type 0 where
  pub front : IsPrefix disks disks_then
  pub left : IsPrefix wired_sites wired_then
  pub count : length seats + length disks ≡ 9
  pub least : 1 ≤ length disks
  pub each : (index : ℕ) (seat : Seat D N) (disk : D) → slice_get seats index ≡ Some seat → slice_get disks_then (8 - index) ≡ Some disk → IsSeat (8 - index) wired_then disk seat

-- none is seated yet
pub seated_none : {D N : Type 0} (wired_sites : List WiredSite) (disks : List D) (seats : List (Seat D N)) → seats ≡ [] → length disks ≡ 9 → AreSeatedTo wired_sites disks wired_sites disks seats
seated_none {D} {N} wired_sites disks seats none nine = record {
  front = ([], append-nil disks);
  left = ([], append-nil wired_sites);
  count = (let e = ap (λ (zs : List (Seat D N)). length zs) none in omega (arith, e, nine));
  least = omega (arith, nine);
  each = λ index seat disk at there. (let nothing : slice_get [] index ≡ Some seat = subst (λ (zs : List (Seat D N)). slice_get zs index ≡ Some seat) none at in cc);
}

-- a wired site that is there is one that was there
seat_then : {D N : Type 0} (actor : ℕ) (wired_sites wired_then : List WiredSite) (disk : D) (seat : Seat D N) → IsPrefix wired_sites wired_then → IsSeat actor wired_sites disk seat → IsSeat actor wired_then disk seat
seat_then actor wired_sites wired_then disk (Hosted host) front has = record { place = has.place; wired = has.wired; at = of_prefix wired_sites wired_then has.place has.wired front has.at; site = has.site }
seat_then actor wired_sites wired_then disk (Idle other) front is = is

prefix_again : {A : Type 0} (xs ys zs : List A) → IsPrefix xs ys → IsPrefix ys zs → IsPrefix xs zs
prefix_again {A} xs ys zs one two = (one.0 ++ two.0, sym (append_assoc xs one.0 two.0) ∙ (ap (λ (ws : List A). ws ++ two.0) one.1 ∙ two.1))

-- one more
pub seated_next : {D N : Type 0} (wired_then : List WiredSite) (disks_then : List D) (wired_sites wired_now : List WiredSite) (disks disks_now : List D) (seats seats_now : List (Seat D N)) (disk : D) (seat : Seat D N)
    → AreSeatedTo wired_then disks_then wired_sites disks seats → 1 < length disks → disks ≡ disks_now ++ disk ∷ [] → IsSeat (length disks_now) wired_sites disk seat → IsPrefix wired_now wired_sites → seats_now ≡ seats ++ seat ∷ []
    → AreSeatedTo wired_then disks_then wired_now disks_now seats_now
seated_next {D} {N} wired_then disks_then wired_sites wired_now disks disks_now seats seats_now disk seat s more out own left grown = record {
  front = last.0;
  left = prefix_again wired_now wired_sites wired_then left s.left;
  count = (let a = s.count in let b = longer in let c = seats_longer in omega (arith, a, b, c));
  least = (let b = longer in omega (arith, b, more));
  each = λ index one d at at_disk. by_place index one d at_disk (before_or_last seats seat one index (subst (λ (zs : List (Seat D N)). slice_get zs index ≡ Some one) grown at));
}
  where
    last : IsPrefix disks_now disks_then × (slice_get disks_then (length disks_now) ≡ Some disk)
    last = last_out disks_then disks disks_now disk s.front out

    longer : length disks ≡ length disks_now + 1
    longer = length_out disks disks_now disk out

    seats_longer : length seats_now ≡ length seats + 1
    seats_longer = length_out seats_now seats seat grown

    actor : 8 - length seats ≡ length disks_now
    actor = (let a = s.count in let b = longer in omega (arith, a, b))

    by_place : (index : ℕ) (one : Seat D N) (d : D) → slice_get disks_then (8 - index) ≡ Some d → (slice_get seats index ≡ Some one) ⊎ ((index ≡ length seats) × (seat ≡ one)) → IsSeat (8 - index) wired_then d one
    by_place index one d at_disk (inl before) = s.each index one d before at_disk
    by_place index one d at_disk (inr new) =
        let number : 8 - index ≡ length disks_now = ap (λ (n : ℕ). 8 - n) new.0 ∙ actor in
        let same : disk ≡ d = slice_get-one disks_then (length disks_now) disk d last.1 (subst (λ (n : ℕ). slice_get disks_then n ≡ Some d) number at_disk) in
        subst (λ (n : ℕ). IsSeat n wired_then d one) (sym number) (subst (λ (z : Seat D N). IsSeat (length disks_now) wired_then d z) new.1
        (subst (λ (z : D). IsSeat (length disks_now) wired_then z seat) same (seat_then (length disks_now) wired_sites wired_then disk seat s.left own)))

-- with the disk of its number a host of the wired sites that are left may begin
pub can_seat : {D : Type 0} (tells : Bool) (seen : D → Seen) (plans : List SitePlan) (rings : List Wire) (wired_then wired_sites : List WiredSite) (disks : List D) (actor : ℕ) (disk : D)
    → CanSeatAll tells plans rings (map seen disks) wired_then → IsPrefix wired_sites wired_then → slice_get disks actor ≡ Some disk → CanSeat tells plans rings actor (seen disk) wired_sites
can_seat tells seen plans rings wired_then wired_sites disks actor disk all front at place wired bat is =
    all place wired (seen disk) (of_prefix wired_sites wired_then place wired front bat) (subst (λ (n : ℕ). slice_get (map seen disks) n ≡ Some (seen disk)) (sym is) (mapped_at seen disks actor disk at))

-- the host of the last wired site sits in the seat of its actor
pub hosted : (actor : ℕ) (wired_sites : List WiredSite) → IsLastWired actor wired_sites → HasWired actor wired_sites
hosted actor old last = record { place = length old - 1; wired = last.wired; at = last.at; site = last.site }

-- and may begin
pub may_begin : (tells : Bool) (plans : List SitePlan) (rings : List Wire) (actor : ℕ) (disk : Seen) (old new : List WiredSite) (wired : WiredSite) → old ≡ new ++ wired ∷ [] → IsLastWired actor old → CanSeat tells plans rings actor disk old
    → CanOpen Engines.Stands tells plans rings wired.dbms disk wired.stops.items wired.ends
may_begin tells plans rings actor disk old new wired out last can =
    subst (λ (b : WiredSite). CanOpen Engines.Stands tells plans rings b.dbms disk b.stops.items b.ends) (sym (last_is old new wired last.wired out last.at)) (can (length old - 1) last.wired last.at last.site)

-- all of them
pub seated_all : {D N : Type 0} (wired_then : List WiredSite) (disks_then : List D) (wired_sites : List WiredSite) (disks : List D) (seats : List (Seat D N)) → AreSeatedTo wired_then disks_then wired_sites disks seats → length disks ≤ 1 → AreSeats wired_then disks_then seats
seated_all wired_then disks_then wired_sites disks seats s most = record { count = (let a = s.count in let b = s.least in omega (arith, a, b, most)); each = s.each }

-- so many are taken out
pub record AreOutTo {D N : Type 0} (tells : Bool) (seen : D → Seen) (plans : List SitePlan) (rings : List Wire) (seats_then : List (Seat D N)) (first : Option Seen) (seats : List (Seat D N)) (disks : List Seen) (lefts : List SiteLeft) : Type 0 where
  pub front : IsPrefix seats seats_then
  pub count : length seats + length disks ≡ 9
  pub least : 1 ≤ length disks
  pub first_is : slice_get disks 0 ≡ first
  pub held : AreHeldAt tells plans rings disks lefts
  pub few : length lefts + length seats ≤ 8
  pub back : (index : ℕ) (disk : D) → length seats ≤ index → slice_get seats_then index ≡ Some (Idle disk) → slice_get disks (8 - index) ≡ Some (seen disk)

-- one seat has one disk, or none
one_disk : {D N : Type 0} (seats : List (Seat D N)) (place : ℕ) (disk other : D) → slice_get seats place ≡ Some (Idle disk) → slice_get seats place ≡ Some (Idle other) → disk ≡ other
one_disk seats place disk other one two = cc

more_or_same : (index least most : ℕ) → most ≡ least + 1 → least ≤ index → (most ≤ index) ⊎ (index ≡ least)
more_or_same index least most next less = by_test (nat_le most index) refl
  where
    by_test : (b : Bool) → nat_le most index ≡ b → (most ≤ index) ⊎ (index ≡ least)
    by_test true is = inl (leb-true most index is)
    by_test false is = inr (let more = leb-false most index is in omega (arith, more, next, less))

held_more : (tells : Bool) (plans : List SitePlan) (rings : List Wire) (disks behind more : List Seen) (lefts : List SiteLeft) → behind ≡ disks ++ more → AreHeldAt tells plans rings disks lefts → AreHeldAt tells plans rings behind lefts
held_more tells plans rings disks behind more lefts is held place one at =
    let h = held place one at in
    record { disk = h.disk; own = subst (λ (ds : List Seen). slice_get ds one.actor ≡ Some h.disk) (sym is) (slice_get-front disks more one.actor h.disk h.own); held = h.held }

first_kept : (disks more : List Seen) (first : Option Seen) → 1 ≤ length disks → slice_get disks 0 ≡ first → slice_get (disks ++ more) 0 ≡ first
first_kept [] more first least is = absurd (omega (arith, least))
first_kept (d ∷ ds) more first least is = is

module _ {D N : Type 0} (tells : Bool) (seen : D → Seen) (plans : List SitePlan) (rings : List Wire) (seats_then : List (Seat D N)) (first : Option Seen) where
  -- one more
  pub out_next : (seats seats_now : List (Seat D N)) (seat : Seat D N) (disks behind : List Seen) (lefts more : List SiteLeft) → AreOutTo tells seen plans rings seats_then first seats disks lefts
      → seats ≡ seats_now ++ seat ∷ [] → IsTakenOut tells seen plans rings seat disks behind lefts more → AreOutTo tells seen plans rings seats_then first seats_now behind more
  out_next seats seats_now (Idle disk) disks behind lefts more o out is = record {
    front = last.0;
    count = (let a = o.count in let b = length_out seats seats_now (Idle disk) out in let c = length_out behind disks (seen disk) is.0 in omega (arith, a, b, c));
    least = (let a = o.least in let c = length_out behind disks (seen disk) is.0 in omega (arith, a, c));
    first_is = subst (λ (ds : List Seen). slice_get ds 0 ≡ first) (sym is.0) (first_kept disks (seen disk ∷ []) first o.least o.first_is);
    held = subst (λ (ls : List SiteLeft). AreHeldAt tells plans rings behind ls) (sym is.1) (held_more tells plans rings disks behind (seen disk ∷ []) lefts is.0 o.held);
    few = (let a = o.few in let b = length_out seats seats_now (Idle disk) out in let c = ap (λ (ls : List SiteLeft). length ls) is.1 in omega (arith, a, b, c));
    back = λ index d most at. by_index index d at (before_or_there index most);
  }
    where
      last : IsPrefix seats_now seats_then × (slice_get seats_then (length seats_now) ≡ Some (Idle disk))
      last = last_out seats_then seats seats_now (Idle disk) o.front out

      before_or_there : (index : ℕ) → length seats_now ≤ index → (length seats ≤ index) ⊎ (index ≡ length seats_now)
      before_or_there index most = (let b = length_out seats seats_now (Idle disk) out in more_or_same index (length seats_now) (length seats) b most)

      by_index : (index : ℕ) (d : D) → slice_get seats_then index ≡ Some (Idle d) → (length seats ≤ index) ⊎ (index ≡ length seats_now) → slice_get behind (8 - index) ≡ Some (seen d)
      by_index index d at (inl most) = subst (λ (ds : List Seen). slice_get ds (8 - index) ≡ Some (seen d)) (sym is.0) (slice_get-front disks (seen disk ∷ []) (8 - index) (seen d) (o.back index d most at))
      by_index index d at (inr here) =
          let there : slice_get seats_then (length seats_now) ≡ Some (Idle d) = subst (λ (n : ℕ). slice_get seats_then n ≡ Some (Idle d)) here at in
          let same : disk ≡ d = one_disk seats_then (length seats_now) disk d last.1 there in
          let number : 8 - index ≡ length disks = (let a = o.count in let b = length_out seats seats_now (Idle disk) out in omega (arith, a, b, here)) in
          subst (λ (n : ℕ). slice_get behind n ≡ Some (seen d)) (sym number) (subst (λ (ds : List Seen). slice_get ds (length disks) ≡ Some (seen d)) (sym is.0) (subst (λ (z : D). slice_get (disks ++ seen disk ∷ []) (length disks) ≡ Some (seen z)) same (at_end disks (seen disk))))
  out_next seats seats_now (Hosted host) disks behind lefts more o out r = record {
    front = last.0;
    count = (let a = o.count in let b = length_out seats seats_now (Hosted host) out in let c = length_out behind disks r.disk r.disks_are in omega (arith, a, b, c));
    least = (let a = o.least in let c = length_out behind disks r.disk r.disks_are in omega (arith, a, c));
    first_is = subst (λ (ds : List Seen). slice_get ds 0 ≡ first) (sym r.disks_are) (first_kept disks (r.disk ∷ []) first o.least o.first_is);
    held = λ place one at. by_place place one (before_or_last lefts r.left one place (subst (λ (ls : List SiteLeft). slice_get ls place ≡ Some one) r.lefts_are at));
    few = (let a = o.few in let b = length_out seats seats_now (Hosted host) out in let c = length_out more lefts r.left r.lefts_are in omega (arith, a, b, c));
    back = λ index d most at. by_index index d at (before_or_there index most);
  }
    where
      last : IsPrefix seats_now seats_then × (slice_get seats_then (length seats_now) ≡ Some (Hosted host))
      last = last_out seats_then seats seats_now (Hosted host) o.front out

      before_or_there : (index : ℕ) → length seats_now ≤ index → (length seats ≤ index) ⊎ (index ≡ length seats_now)
      before_or_there index most = (let b = length_out seats seats_now (Hosted host) out in more_or_same index (length seats_now) (length seats) b most)

      by_place : (place : ℕ) (one : SiteLeft) → (slice_get lefts place ≡ Some one) ⊎ ((place ≡ length lefts) × (r.left ≡ one)) → IsHeldAt tells plans rings behind one
      by_place place one (inl before) = held_more tells plans rings disks behind (r.disk ∷ []) lefts r.disks_are o.held place one before
      by_place place one (inr new) = subst (λ (z : SiteLeft). IsHeldAt tells plans rings behind z) new.1 (record {
        disk = r.disk;
        own = subst (λ (ds : List Seen). slice_get ds r.left.actor ≡ Some r.disk) (sym r.disks_are) (subst (λ (n : ℕ). slice_get (disks ++ r.disk ∷ []) n ≡ Some r.disk) (sym r.actor) (at_end disks r.disk));
        held = r.held;
      })

      by_index : (index : ℕ) (d : D) → slice_get seats_then index ≡ Some (Idle d) → (length seats ≤ index) ⊎ (index ≡ length seats_now) → slice_get behind (8 - index) ≡ Some (seen d)
      by_index index d at (inl most) = subst (λ (ds : List Seen). slice_get ds (8 - index) ≡ Some (seen d)) (sym r.disks_are) (slice_get-front disks (r.disk ∷ []) (8 - index) (seen d) (o.back index d most at))
      by_index index d at (inr here) =
          let there : slice_get seats_then (length seats_now) ≡ Some (Idle d) = subst (λ (n : ℕ). slice_get seats_then n ≡ Some (Idle d)) here at in
          let both : Some (Hosted host) ≡ Some (Idle d) = sym last.1 ∙ there in
          cc

  -- none is taken out yet
  pub out_none : (disks : List Seen) (lefts : List SiteLeft) → length seats_then ≡ 8 → length disks ≡ 1 → slice_get disks 0 ≡ first → lefts ≡ [] → AreOutTo tells seen plans rings seats_then first seats_then disks lefts
  out_none disks lefts eight one is none = record {
    front = ([], append-nil seats_then);
    count = omega (arith, eight, one);
    least = omega (arith, one);
    first_is = is;
    held = λ place left at. (let nothing : slice_get [] place ≡ Some left = subst (λ (zs : List SiteLeft). slice_get zs place ≡ Some left) none at in cc);
    few = (let e = ap (λ (zs : List SiteLeft). length zs) none in omega (arith, e, eight));
    back = λ index disk most at. (let less = slice_get_within seats_then index (Idle disk) at in absurd (omega (arith, most, less)));
  }
