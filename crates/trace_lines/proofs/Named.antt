-- What numbers in range stand for: attempts, places and sites.
use Rattle.std.proofs.Common.{◌≡◌, ◌≢◌, ℕ, ◌<◌, ◌^◌, ◌⊎◌, inl, inr, Bool, ◌&&◌, IsTrue, List, ◌++◌, Option, Some, None, option_and_then, option_map, decimal, codes, nat_le, refl, ap, sym, ◌∙◌, subst, arith, append_assoc}
use Rattle.std.proofs.lemmas.Bool.{ltb-true, leb-true, lt-ltb}
use Rattle.std.proofs.lemmas.Option.{none-some, cond_some}
use Rattle.std.proofs.lemmas.Fmt.{decimal_injective}
use Rattle.mdb_base.specs.Texts.{tid_text}
use Rattle.mdb_base.specs.declared.names.SiteId.{SiteId}
use Rattle.mdb_base.specs.declared.names.Tid.{Tid}
use Rattle.mdb_base.specs.declared.replies.Edge.{Edge}
use Rattle.mdb_base.proofs.ForCallers.{all_append, is_true_both, is_true_parts}
use Rattle.fed_rules.specs.declared.commands.Place.{Place}
use Rattle.line_text.specs.Range.{is_large, is_small, is_site, is_tx, is_tid, is_place, is_edge}
use Rattle.line_text.specs.Words.{place_text, edge_text}
use Rattle.trace_lines.specs.Lexing.{Spells, are_large, numbers_text, tid_at, place_at, site_text, is_target, target_text, are_both, pair_text}
use Rattle.trace_lines.specs.Reading.{site_of}
use Rattle.trace_lines.proofs.Bytes.{Lacks, lacks-decimal}
use Rattle.trace_lines.proofs.Pairs.{one_parting}

-- a number has one spelling
pub one_number : (m n : ℕ) → IsTrue (is_large m) → IsTrue (is_large n) → decimal m ≡ decimal n → m ≡ n
one_number m n h k e = decimal_injective m n (ltb-true m (2 ^ 64) h) (ltb-true n (2 ^ 64) k) e

-- two numbers with a mark between them have one spelling
pub one_pair : (mark : ℕ) → mark < 48 → (p q : ℕ × ℕ) → IsTrue (are_large p) → IsTrue (are_large q) → numbers_text mark p ≡ numbers_text mark q → p ≡ q
one_pair mark below p q h k e =
    let hp = is_true_parts (is_large p.0) (is_large p.1) h in
    let hq = is_true_parts (is_large q.0) (is_large q.1) k in
    let parts = one_parting mark (decimal p.0) (decimal q.0) (decimal p.1) (decimal q.1) (lacks-decimal mark p.0 (inl below) (ltb-true p.0 (2 ^ 64) hp.0)) (lacks-decimal mark q.0 (inl below) (ltb-true q.0 (2 ^ 64) hq.0)) e in
    let first : p.0 ≡ q.0 = one_number p.0 q.0 hp.0 hq.0 parts.0 in
    let second : p.1 ≡ q.1 = one_number p.1 q.1 hp.1 hq.1 parts.1 in
    ap (λ x. (x, p.1)) first ∙ ap (λ y. (q.0, y)) second

-- what stands for other things is read through them
module _ {A B : Type 0} (is_a : A → Bool) (text_a : A → List ℕ) (is_b : B → Bool) (text_b : B → List ℕ) (f : A → Option B) (back : B → A) where
  by_case : ((a b : A) → IsTrue (is_a a) → IsTrue (is_a b) → text_a a ≡ text_a b → a ≡ b) → ((b : B) → IsTrue (is_b b) → IsTrue (is_a (back b)) × (f (back b) ≡ Some b)) → ((b : B) → text_b b ≡ text_a (back b))
      → ((a : A) (b : B) → IsTrue (is_a a) → f a ≡ Some b → IsTrue (is_b b) × (back b ≡ a)) → (bs : List ℕ) (a : A) (o : Option B) → f a ≡ o → Spells is_a text_a bs (Some a) → Spells is_b text_b bs o
  by_case one named same gives bs a None e h = λ b is spelled.
      let n = named b is in
      let same_a : a ≡ back b = one a (back b) h.0 n.0 (sym h.1 ∙ spelled ∙ same b) in
      none-some b (sym e ∙ ap f same_a ∙ n.1)
  by_case one named same gives bs a (Some b) e h =
      let g = gives a b h.0 e in
      (g.0, h.1 ∙ ap text_a (sym g.1) ∙ sym (same b))

  pub through : ((a b : A) → IsTrue (is_a a) → IsTrue (is_a b) → text_a a ≡ text_a b → a ≡ b) → ((b : B) → IsTrue (is_b b) → IsTrue (is_a (back b)) × (f (back b) ≡ Some b)) → ((b : B) → text_b b ≡ text_a (back b))
      → ((a : A) (b : B) → IsTrue (is_a a) → f a ≡ Some b → IsTrue (is_b b) × (back b ≡ a)) → (bs : List ℕ) (o : Option A) → Spells is_a text_a bs o → Spells is_b text_b bs (option_and_then f o)
  through one named same gives bs None h = λ b is spelled. h (back b) (named b is).0 (spelled ∙ same b)
  through one named same gives bs (Some a) h = by_case one named same gives bs a (f a) refl h

-- a site's number is large enough to be none
pub site_is_large : (site : SiteId) → IsTrue (is_site site) → IsTrue (is_large site.0)
site_is_large site h = lt-ltb site.0 (2 ^ 64) (let most = leb-true site.0 8 (is_true_parts (nat_le 1 site.0) (nat_le site.0 8) h).1 in omega (arith, most))

pub tid_is_large : (tid : Tid) → IsTrue (is_tid tid) → IsTrue (are_large (tid.tx.0, tid.attempt))
tid_is_large tid h =
    let tests = is_true_parts (is_tx tid.tx) (nat_le tid.attempt 31) h in
    let tx = leb-true tid.tx.0 1024 (is_true_parts (nat_le 1 tid.tx.0) (nat_le tid.tx.0 1024) tests.0).1 in
    let attempt = leb-true tid.attempt 31 tests.1 in
    is_true_both (is_large tid.tx.0) (is_large tid.attempt) (lt-ltb tid.tx.0 (2 ^ 64) (omega (arith, tx))) (lt-ltb tid.attempt (2 ^ 64) (omega (arith, attempt)))

pub place_is_large : (sent : Place) → IsTrue (is_place sent) → IsTrue (are_large (sent.site.0, sent.place))
place_is_large sent h =
    let tests = is_true_parts (is_site sent.site) (is_small sent.place) h in
    let small = ltb-true sent.place (2 ^ 32) tests.1 in
    is_true_both (is_large sent.site.0) (is_large sent.place) (site_is_large sent.site tests.0) (lt-ltb sent.place (2 ^ 64) (omega (arith, small)))

-- the texts of an attempt and of a place, regrouped
pub tid_parts : (tid : Tid) → tid_text tid ≡ numbers_text 46 (tid.tx.0, tid.attempt)
tid_parts tid = append_assoc (decimal tid.tx.0) (codes ".") (decimal tid.attempt)

pub place_parts : (sent : Place) → place_text sent ≡ numbers_text 47 (sent.site.0, sent.place)
place_parts sent = append_assoc (decimal sent.site.0) (codes "/") (decimal sent.place)

-- a site by its number
pub site_read : (bs : List ℕ) (o : Option ℕ) → Spells is_large decimal bs o → Spells is_site site_text bs (option_and_then site_of o)
site_read = through is_large decimal is_site site_text site_of (λ site. site.0) one_number (λ site h. (site_is_large site h, rw h refl)) (λ site. refl)
    (λ n site large e. let parts = cond_some _ _ site e in (subst (λ s. IsTrue (is_site s)) parts.1 parts.0, ap (λ (s : SiteId). s.0) (sym parts.1)))

-- an attempt by its numbers
pub tid_read : (bs : List ℕ) (o : Option (ℕ × ℕ)) → Spells are_large (numbers_text 46) bs o → Spells is_tid tid_text bs (option_and_then tid_at o)
tid_read = through are_large (numbers_text 46) is_tid tid_text tid_at (λ tid. (tid.tx.0, tid.attempt)) (one_pair 46 (omega arith)) (λ tid h. (tid_is_large tid h, rw h refl)) tid_parts
    (λ p tid large e. let parts = cond_some _ _ tid e in (subst (λ t. IsTrue (is_tid t)) parts.1 parts.0, ap (λ (t : Tid). (t.tx.0, t.attempt)) (sym parts.1)))

-- a place by its numbers
pub place_read : (bs : List ℕ) (o : Option (ℕ × ℕ)) → Spells are_large (numbers_text 47) bs o → Spells is_place place_text bs (option_and_then place_at o)
place_read = through are_large (numbers_text 47) is_place place_text place_at (λ sent. (sent.site.0, sent.place)) (one_pair 47 (omega arith)) (λ sent h. (place_is_large sent h, rw h refl)) place_parts
    (λ p sent large e. let parts = cond_some _ _ sent e in (subst (λ t. IsTrue (is_place t)) parts.1 parts.0, ap (λ (t : Place). (t.site.0, t.place)) (sym parts.1)))

-- an attempt lacks what is neither a digit nor a dot
pub lacks_in_tid : (c : ℕ) → (c < 48) ⊎ (57 < c) → 46 ≢ c → (tid : Tid) → IsTrue (is_tid tid) → Lacks c (tid_text tid)
lacks_in_tid c outside dot tid h =
    let large = is_true_parts (is_large tid.tx.0) (is_large tid.attempt) (tid_is_large tid h) in
    all_append (λ b. b ≢ c) (decimal tid.tx.0 ++ codes ".") (decimal tid.attempt)
    (all_append (λ b. b ≢ c) (decimal tid.tx.0) (codes ".") (lacks-decimal c tid.tx.0 outside (ltb-true tid.tx.0 (2 ^ 64) large.0)) (dot, tt))
    (lacks-decimal c tid.attempt outside (ltb-true tid.attempt (2 ^ 64) large.1))

pub lacks-tid : (c : ℕ) → 57 < c → (tid : Tid) → IsTrue (is_tid tid) → Lacks c (tid_text tid)
lacks-tid c above = lacks_in_tid c (inr above) (λ e. omega arith)

-- an edge's text is that of the attempt that it comes from and of its target
pub edge_parts : (edge : Edge) → edge_text edge ≡ pair_text tid_text 62 target_text (edge.from, (edge.to, edge.site))
edge_parts edge = simp append_assoc

-- an edge by the attempt that it comes from and its target
pub edge_read : (bs : List ℕ) (o : Option (Tid × (Tid × SiteId))) → Spells (are_both is_tid is_target) (pair_text tid_text 62 target_text) bs o
    → Spells is_edge edge_text bs (option_map (λ p. record { from = p.0; to = p.1.0; site = p.1.1 }) o)
edge_read bs None h = λ edge is spelled.
    let outer = is_true_parts (is_tid edge.from && is_tid edge.to) (is_site edge.site) is in
    let inner = is_true_parts (is_tid edge.from) (is_tid edge.to) outer.0 in
    h (edge.from, (edge.to, edge.site)) (is_true_both (is_tid edge.from) (is_tid edge.to && is_site edge.site) inner.0 (is_true_both (is_tid edge.to) (is_site edge.site) inner.1 outer.1)) (spelled ∙ edge_parts edge)
edge_read bs (Some p) h =
    let outer = is_true_parts (is_tid p.0) (is_target p.1) h.0 in
    let inner = is_true_parts (is_tid p.1.0) (is_site p.1.1) outer.1 in (
      is_true_both (is_tid p.0 && is_tid p.1.0) (is_site p.1.1) (is_true_both (is_tid p.0) (is_tid p.1.0) outer.0 inner.0) inner.1,
      h.1 ∙ sym (edge_parts (record { from = p.0; to = p.1.0; site = p.1.1 })),
    )
