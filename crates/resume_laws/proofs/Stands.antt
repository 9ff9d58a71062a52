-- What stands on a disk that goes on from a journal that was found: at each call a fact of the journal stays, if it holds behind each record that is
-- appended, of a last record alone behind which all is trimmed, and of every front that keeps the synced base.
use Rattle.std.proofs.Common.{append_assoc, ◌≡◌, ℕ, ◌+◌, ◌≤◌, ◌<◌, min, Bool, true, false, cond, nat_le, None, Some, Option, List, [], ◌∷◌, ◌++◌, take, zero, suc, refl, sym, ap, ◌∙◌, subst, arith}
use Rattle.std.proofs.lemmas.Bool.{leb-true, le-leb}
use Rattle.mdb_base.specs.Words.{when}
use Rattle.std.specs.Prelude.{length}
use Rattle.fed_rules.specs.Disk.{Append, Call, CutBack, TrimFront, Stops, Sync, Disk, after_call, after_calls, before_last, bytes_of, journal, standing, whole}
use Rattle.fed_rules.specs.Happenings.{Happening, Trip, stopped, tripped}
use Rattle.fed_rules.specs.Durable.{IsSound}
use Rattle.fed_rules.proofs.ForCallers.{sound_call, whole_all}

module _ {Record : Type 0} (size : Record → ℕ) (some : (r : Record) → 0 < size r) (Based U : List Record → Type 0) (last : (r : Record) → Based (r ∷ []))
    (front : (x : Record) (newer base : List Record) → Based base → U (x ∷ (newer ++ base)) → U (newer ++ base)) where
  -- the journal stands behind what was trimmed, and its base is synced
  pub record Stands (d : Disk Record) : Type 0 where
    pub newer : List Record
    pub base : List Record
    pub before : List Record
    pub is : d.records ≡ newer ++ (base ++ before)
    pub at : d.trimmed ≡ bytes_of size before
    pub kept : bytes_of size (base ++ before) ≤ d.synced
    pub based : Based base
    pub holds : U (newer ++ base)
    pub sound : IsSound size d

  none_stand : (rs : List Record) → standing size (bytes_of size rs) rs ≡ []
  none_stand [] = refl
  none_stand (x ∷ rs) = by_test (nat_le (bytes_of size (x ∷ rs)) (bytes_of size rs)) refl
    where
      by_test : (b : Bool) → nat_le (bytes_of size (x ∷ rs)) (bytes_of size rs) ≡ b → cond b (x ∷ standing size (bytes_of size (x ∷ rs)) rs) [] ≡ []
      by_test true e = let le = leb-true _ _ e in let more = some x in let never : ⊥ = omega (arith, le, more) in absurd never
      by_test false e = refl

  behind : (newer older : List Record) → bytes_of size older ≤ bytes_of size (newer ++ older)
  behind [] older = omega arith
  behind (y ∷ newer) older = let k = behind newer older in omega (arith, k)

  all_stand : (xs before : List Record) → standing size (bytes_of size before) (xs ++ before) ≡ xs
  all_stand [] before = none_stand before
  all_stand (x ∷ xs) before =
      ap (λ b. cond b (x ∷ standing size (bytes_of size before) (xs ++ before)) []) (le-leb (bytes_of size before) (bytes_of size (xs ++ before)) (behind xs before))
      ∙ ap (λ rs. x ∷ rs) (all_stand xs before)

  pub journal_is : (d : Disk Record) (s : Stands d) → journal size d ≡ s.newer ++ s.base
  journal_is d s =
      ap (λ n. standing size n d.records) s.at
      ∙ ap (λ rs. standing size (bytes_of size s.before) rs) (s.is ∙ sym (append_assoc s.newer s.base s.before))
      ∙ all_stand (s.newer ++ s.base) s.before

  pub holds_of : (d : Disk Record) → Stands d → U (journal size d)
  holds_of d s = subst U (sym (journal_is d s)) s.holds

  -- each appended record keeps the fact, and so does the last one alone behind which all is trimmed
  abbrev pub Goes : Disk Record → List (Call Record) → Type 0
  Goes d [] = Unit {0}
  Goes d (Append r ∷ calls) = U (r ∷ journal size d) × Goes (after_call size d (Append r)) calls
  Goes d (TrimFront ∷ calls) =
      ((r : Record) × (before : List Record) × (d.records ≡ r ∷ before) × (bytes_of size (r ∷ before) ≤ d.synced) × U (r ∷ []))
      × Goes (after_call size d TrimFront) calls
  Goes d (call ∷ calls) = Goes (after_call size d call) calls

  record Cut (place : ℕ) (newer base before : List Record) : Type 0 where
    left : List Record
    is : whole size place (newer ++ (base ++ before)) ≡ left ++ (base ++ before)
    holds : U (left ++ base)

  cut_at : (place : ℕ) (newer base before : List Record) → Based base → bytes_of size (base ++ before) ≤ place → U (newer ++ base) → Cut place newer base before
  cut_at place [] base before b le u = record { left = []; is = whole_all size place (base ++ before) le; holds = u }
  cut_at place (x ∷ newer) base before b le u =
      let rest = cut_at place newer base before b le (front x newer base b u) in
      by_test (nat_le (bytes_of size (x ∷ (newer ++ (base ++ before)))) place) refl rest
    where
      by_test : (t : Bool) → nat_le (bytes_of size (x ∷ (newer ++ (base ++ before)))) place ≡ t → Cut place newer base before → Cut place (x ∷ newer) base before
      by_test true e rest = record { left = x ∷ newer; is = ap (λ t. cond t (x ∷ (newer ++ (base ++ before))) (whole size place (newer ++ (base ++ before)))) e; holds = u }
      by_test false e rest = record {
        left = rest.left;
        is = ap (λ t. cond t (x ∷ (newer ++ (base ++ before))) (whole size place (newer ++ (base ++ before)))) e ∙ rest.is;
        holds = rest.holds;
      }

  goes_call : (d : Disk Record) (call : Call Record) (calls : List (Call Record)) → Goes d (call ∷ calls) → Stands d
      → Stands (after_call size d call) × Goes (after_call size d call) calls
  goes_call d (Append r) calls (u, g) s = (
    record {
      newer = r ∷ s.newer;
      base = s.base;
      before = s.before;
      is = ap (λ rs. r ∷ rs) s.is;
      at = s.at;
      kept = s.kept;
      based = s.based;
      holds = subst (λ rs. U (r ∷ rs)) (journal_is d s) u;
      sound = sound_call size d (Append r) s.sound;
    },
    g,
  )
  goes_call d Sync calls g s = (
    record {
      newer = s.newer;
      base = s.base;
      before = s.before;
      is = s.is;
      at = s.at;
      kept = (let k = s.kept in let more = s.sound.synced in omega (arith, k, more));
      based = s.based;
      holds = s.holds;
      sound = sound_call size d Sync s.sound;
    },
    g,
  )
  goes_call d CutBack calls g s = (
    record {
      newer = s.newer;
      base = s.base;
      before = s.before;
      is = s.is;
      at = s.at;
      kept = subst (λ rs. bytes_of size (s.base ++ s.before) ≤ bytes_of size rs) (sym s.is) (behind s.newer (s.base ++ s.before));
      based = s.based;
      holds = s.holds;
      sound = sound_call size d CutBack s.sound;
    },
    g,
  )
  goes_call d TrimFront calls ((r, before, all, kept, u), g) s = (
    record {
      newer = [];
      base = r ∷ [];
      before = before;
      is = all;
      at = ap (λ rs. bytes_of size (before_last rs)) all;
      kept = kept;
      based = last r;
      holds = u;
      sound = sound_call size d TrimFront s.sound;
    },
    g,
  )
  goes_call d (Stops stop) calls g s =
      let place = min d.length (d.synced + stop) in
      let k = s.kept in
      let more = s.sound.synced in
      let enough : bytes_of size (s.base ++ s.before) ≤ place = omega (arith, k, more) in
      let c = cut_at place s.newer s.base s.before s.based enough s.holds in (
        record {
          newer = c.left;
          base = s.base;
          before = s.before;
          is = ap (whole size place) s.is ∙ c.is;
          at = s.at;
          kept = enough;
          based = s.based;
          holds = c.holds;
          sound = sound_call size d (Stops stop) s.sound;
        },
        g,
      )

  pub goes_calls : (d : Disk Record) (calls : List (Call Record)) → Goes d calls → Stands d → Stands (after_calls size d calls)
  goes_calls d [] g s = s
  goes_calls d (call ∷ calls) g s = let r = goes_call d call calls g s in goes_calls (after_call size d call) calls r.1 r.0

  goes_stopped : (n cut : ℕ) (calls : List (Call Record)) (d : Disk Record) → Goes d calls → Goes d (take n calls ++ Stops cut ∷ [])
  goes_stopped zero cut calls d g = tt
  goes_stopped (suc n) cut [] d g = tt
  goes_stopped (suc n) cut (Append r ∷ calls) d g = (g.0, goes_stopped n cut calls (after_call size d (Append r)) g.1)
  goes_stopped (suc n) cut (TrimFront ∷ calls) d g = (g.0, goes_stopped n cut calls (after_call size d TrimFront) g.1)
  goes_stopped (suc n) cut (Sync ∷ calls) d g = goes_stopped n cut calls (after_call size d Sync) g
  goes_stopped (suc n) cut (CutBack ∷ calls) d g = goes_stopped n cut calls (after_call size d CutBack) g
  goes_stopped (suc n) cut (Stops c ∷ calls) d g = goes_stopped n cut calls (after_call size d (Stops c)) g

  -- so it is at a line, a trip included
  pub goes_when : {Event Message : Type 0} (d : Disk Record) (b : Bool) (x y : Happening Event Message Record) → Goes d x.calls → Goes d y.calls → Goes d (when b x y).calls
  unfolding when
  goes_when d true x y p q = p
  goes_when d false x y p q = q

  pub goes_halted : {Event : Type 0} (Message : Type 0) (d : Disk Record) (event : Event) (cut : ℕ) → Goes d (stopped {Event = Event} {Message = Message} {Record = Record} size d event (Stops cut ∷ [])).calls
  unfolding stopped
  goes_halted Message d event cut = tt

  pub goes_tripped : {Event Message : Type 0} (d : Disk Record) (t : Option Trip) (x : Happening Event Message Record) → Goes d x.calls → Goes d (tripped size d t x).calls
  unfolding tripped stopped
  goes_tripped d None x g = g
  goes_tripped d (Some t) x g =
      goes_when d (nat_le t.calls (length x.calls)) _ x (goes_stopped t.calls t.cut x.calls d g) g
