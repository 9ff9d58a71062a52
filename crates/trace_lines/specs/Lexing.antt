-- Reading a word from its bytes, part by part: numbers with a mark between them, and what stands for an attempt, a place or an edge.
use Rattle.std.specs.Prelude.{ℕ, ◌≡◌, List, ◌∷◌, ◌++◌, Option, Some, None, Bool, IsTrue, cond, ◌&&◌, ◌==◌, nat_le, length, decimal}
use Rattle.std.specs.List.{slice_split}
use Rattle.mdb_base.specs.Texts.{tid_text}
use Rattle.mdb_base.specs.declared.names.SiteId.{SiteId}
use Rattle.mdb_base.specs.declared.names.Tid.{Tid}
use Rattle.fed_rules.specs.declared.commands.Place.{Place}
use Rattle.line_text.specs.declared.word.Keyword.{Keyword}
use Rattle.line_text.specs.Words.{keyword_text}
use Rattle.line_text.specs.Range.{is_large, is_site, is_tid, is_place}

-- what was found is spelled so, and nothing was where no such thing is
abbrev pub Spells : {A : Type 0} → (A → Bool) → (A → List ℕ) → List ℕ → Option A → Type 0
Spells {A} is_one text bytes None = (x : A) → IsTrue (is_one x) → bytes ≡ text x → ⊥
Spells is_one text bytes (Some x) = IsTrue (is_one x) × (bytes ≡ text x)

-- a keyword whose spelling has from low to high bytes
abbrev pub has_length : ℕ → ℕ → Keyword → Bool
has_length low high keyword = nat_le low (length (keyword_text keyword)) && nat_le (length (keyword_text keyword)) high

-- the pieces between the spaces
abbrev pub pieces : List ℕ → List (List ℕ)
pieces = slice_split (λ b. b == 32)

-- two things with a mark between them
abbrev pub are_both : {A B : Type 0} → (A → Bool) → (B → Bool) → A × B → Bool
are_both is_a is_b pair = is_a pair.0 && is_b pair.1

abbrev pub pair_text : {A B : Type 0} → (A → List ℕ) → ℕ → (B → List ℕ) → A × B → List ℕ
pair_text text_a mark text_b pair = text_a pair.0 ++ mark ∷ text_b pair.1

-- two numbers
abbrev pub are_large : ℕ × ℕ → Bool
are_large = are_both is_large is_large

abbrev pub numbers_text : ℕ → ℕ × ℕ → List ℕ
numbers_text mark = pair_text decimal mark decimal

-- the attempt, the place and the site of numbers in range
abbrev pub tid_at : ℕ × ℕ → Option Tid
tid_at pair = cond (is_tid (record { tx = record { 0 = pair.0 }; attempt = pair.1 })) (Some (record { tx = record { 0 = pair.0 }; attempt = pair.1 })) None

abbrev pub place_at : ℕ × ℕ → Option Place
place_at pair = cond (is_place (record { site = record { 0 = pair.0 }; place = pair.1 })) (Some (record { site = record { 0 = pair.0 }; place = pair.1 })) None

-- a site by its number
abbrev pub site_text : SiteId → List ℕ
site_text site = decimal site.0

-- the end of an edge: the attempt that it goes to, and its site
abbrev pub is_target : Tid × SiteId → Bool
is_target = are_both is_tid is_site

abbrev pub target_text : Tid × SiteId → List ℕ
target_text = pair_text tid_text 64 site_text
