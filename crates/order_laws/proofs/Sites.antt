use Rattle.std.proofs.Common.{◌≡◌, ◌⊎◌, Option, Some, None, List, [], ◌∷◌, ◌++◌, inl, inr, refl, subst, sym, ◌∙◌}
use Rattle.order_laws.specs.Chains.{Chain, Acyclic, Path}
use Rattle.order_laws.specs.Orders.{Before}
use Rattle.order_laws.specs.Sites.{AreSites, BeforeAtSite}
use Rattle.order_laws.proofs.Chains.{chain_append}
use Rattle.order_laws.proofs.Orders.{before_in, before_through, not_before_itself}
use Rattle.order_laws.proofs.Source.{path_append, path_one}

-- from a, which has no home, edges lead to an item without a home that stands before y at a site
record Reached {S A : Type 0} (order : S → List A) (home : A → Option S) (E : A → A → Type 0) (a y : A) : Type 0 where
  last : A
  roams : home last ≡ None
  way : (a ≡ last) ⊎ Path E a last
  site : S
  before : Before (order site) last y

joined : {A : Type 0} (E : A → A → Type 0) (a last y : A) → (a ≡ last) ⊎ Path E a last → E last y → Path E a y
joined E a last y (inl e) k = path_one E a y (subst (λ z. E z y) (sym e) k)
joined E a last y (inr w) k = path_append E a last y w (path_one E last y k)

moved : {S A : Type 0} (order : S → List A) (s h : S) (a b : A) → h ≡ s → Before (order s) a b → Before (order h) a b
moved order s h a b e k = subst (λ z. Before (order z) a b) (sym e) k

reached_step : {S A : Type 0} (order : S → List A) (home : A → Option S) (E : A → A → Type 0) → AreSites order home E →
    (a y z : A) → Reached order home E a y → BeforeAtSite order y z → (h : Option S) → home y ≡ h → Reached order home E a z
reached_step order home E sites a y z r u None e =
    record {
      last = y;
      roams = e;
      way = inr (joined E a r.last y r.way (sites.agree r.site r.last y r.before r.roams e));
      site = u.site;
      before = u.before;
    }
reached_step order home E sites a y z r u (Some h) e =
    let here : h ≡ r.site = sites.at_home r.site h y (before_in (order r.site) r.last y r.before).1 e in
    let there : h ≡ u.site = sites.at_home u.site h y (before_in (order u.site) y z u.before).0 e in
    record {
      last = r.last;
      roams = r.roams;
      way = r.way;
      site = h;
      before =
          before_through (order h) r.last y z (sites.distinct h)
          (moved order r.site h r.last y here r.before) (moved order u.site h y z there u.before);
    }

reached_along : {S A : Type 0} (order : S → List A) (home : A → Option S) (E : A → A → Type 0) → AreSites order home E →
    (a y : A) → Reached order home E a y → (xs : List A) (b : A) → Chain (BeforeAtSite order) y xs b → Reached order home E a b
reached_along order home E sites a y r [] b u = reached_step order home E sites a y b r u (home y) refl
reached_along order home E sites a y r (x ∷ xs) b u =
    reached_along order home E sites a x (reached_step order home E sites a y x r u.0 (home y) refl) xs b u.1

starts : {S A : Type 0} (order : S → List A) (home : A → Option S) (E : A → A → Type 0) (a y : A) → home a ≡ None →
    BeforeAtSite order a y → Reached order home E a y
starts order home E a y e u = record { last = a; roams = e; way = inl refl; site = u.site; before = u.before }

reached_from : {S A : Type 0} (order : S → List A) (home : A → Option S) (E : A → A → Type 0) → AreSites order home E →
    (a : A) → home a ≡ None → (xs : List A) (b : A) → Chain (BeforeAtSite order) a xs b → Reached order home E a b
reached_from order home E sites a e [] b u = starts order home E a b e u
reached_from order home E sites a e (x ∷ xs) b u = reached_along order home E sites a x (starts order home E a x e u.0) xs b u.1

-- no cycle leads through an item without a home
roaming : {S A : Type 0} (order : S → List A) (home : A → Option S) (E : A → A → Type 0) → AreSites order home E → Acyclic E →
    (a : A) → home a ≡ None → (xs : List A) → Chain (BeforeAtSite order) a xs a → ⊥
roaming order home E sites none a e xs u =
    let r = reached_from order home E sites a e xs a u in
    let w = joined E a r.last a r.way (sites.agree r.site r.last a r.before r.roams e) in
    none a w.middle w.chain

-- from a, whose home is h, a chain has come to y, which stands behind a at h
at_home : {S A : Type 0} (order : S → List A) (home : A → Option S) (E : A → A → Type 0) → AreSites order home E → Acyclic E →
    (a : A) (h : S) → home a ≡ Some h → (y : A) → Before (order h) a y → (pre : List A) → Chain (BeforeAtSite order) a pre y →
    (xs : List A) → Chain (BeforeAtSite order) y xs a → (k : Option S) → home y ≡ k → ⊥
at_home order home E sites none a h e y b pre before xs u None f =
    roaming order home E sites none y f (xs ++ a ∷ pre) (chain_append (BeforeAtSite order) y xs a pre y u before)
at_home order home E sites none a h e y b pre before [] u (Some k) f =
    let here : h ≡ u.site = sites.at_home u.site h a (before_in (order u.site) y a u.before).1 e in
    not_before_itself (order h) a (sites.distinct h)
    (before_through (order h) a y a (sites.distinct h) b (moved order u.site h y a here u.before))
at_home order home E sites none a h e y b pre before (x ∷ xs) u (Some k) f =
    let here : k ≡ h = sites.at_home h k y (before_in (order h) a y b).1 f in
    let there : k ≡ u.0.site = sites.at_home u.0.site k y (before_in (order u.0.site) y x u.0.before).0 f in
    at_home order home E sites none a h e x
    (before_through (order h) a y x (sites.distinct h) b (moved order u.0.site h y x (sym here ∙ there) u.0.before))
    (pre ++ y ∷ []) (chain_append (BeforeAtSite order) a pre y [] x before u.0) xs u.1 (home x) refl

cycle_at : {S A : Type 0} (order : S → List A) (home : A → Option S) (E : A → A → Type 0) → AreSites order home E → Acyclic E →
    (a : A) (xs : List A) → Chain (BeforeAtSite order) a xs a → (k : Option S) → home a ≡ k → ⊥
cycle_at order home E sites none a xs u None e = roaming order home E sites none a e xs u
cycle_at order home E sites none a [] u (Some h) e = not_before_itself (order u.site) a (sites.distinct u.site) u.before
cycle_at order home E sites none a (x ∷ xs) u (Some h) e =
    let here : h ≡ u.0.site = sites.at_home u.0.site h a (before_in (order u.0.site) a x u.0.before).0 e in
    at_home order home E sites none a h e x (moved order u.0.site h a x here u.0.before) [] u.0 xs u.1 (home x) refl

-- where the items without a home have no cycle of edges, the orders of the sites have none together
pub sites_acyclic : {S A : Type 0} (order : S → List A) (home : A → Option S) (E : A → A → Type 0) →
    AreSites order home E → Acyclic E → Acyclic (BeforeAtSite order)
sites_acyclic order home E sites none a xs u = cycle_at order home E sites none a xs u (home a) refl
