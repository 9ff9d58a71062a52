-- What a usual step says, by its bytes up to the space behind it.
use Rattle.std.proofs.Common.{◌≡◌, ℕ, ◌^◌, ◌-◌, ◌<◌, ◌≤◌, Bool, true, cond, not, eqb, IsTrue, List, [], ◌∷◌, ◌++◌, length, Option, Some, None, codes, Result, Ok, refl, sym, ap, ◌∙◌, append_assoc, arith}
use Rattle.std.specs.List.{list_all}
use Rattle.std.proofs.lemmas.List.{length-append}
use Rattle.std.proofs.lemmas.List.Folds.{list_all-append}
use Rattle.mdb_base.specs.declared.names.SiteId.{SiteId}
use Rattle.mdb_base.specs.declared.names.Key.{Key}
use Rattle.mdb_base.specs.declared.acts.Act.{Act}
use Rattle.mdb_base.specs.declared.acts.Act.TheVariants.{Get, Set, Add}
use Rattle.mdb_base.specs.declared.acts.Step.{Step}
use Rattle.mdb_base.proofs.ForCallers.{is_true_both, not_true}
use Rattle.fed_rules.specs.declared.scenario.SiteLine.{SiteLine}
use Rattle.scenario_text.specs.declared.bad.BadWhy.{BadWhy}
use Rattle.scenario_text.specs.FirstLines.{BeginsWith, NamesSite, SaysTo}
use Rattle.scenario_text.specs.Names.{decimal, is_digit, is_number, key_of, number_in, value_of}
use Rattle.scenario_text.specs.Pieces.{colon, cut_at, only_one, only_two, only_three, pieces, slash, space}
use Rattle.scenario_text.specs.Reads.{◌>>=◌, spelled}
use Rattle.scenario_text.specs.Steps.{act_by, act_of, add_of, behind, get_of, global_step, set_of, step_of, steps_of}
use Rattle.scenario_text.proofs.FrontLemmas.{no_mark, number_unmarked, number_within}
use Rattle.scenario_text.proofs.PieceLemmas.{piece_to_end, piece_to_mark}
use Rattle.scenario_text.proofs.StepLemmas.{goes_on}

-- ---- numbers between colons

abbrev Unspaced : List ℕ → Type 0
Unspaced word = IsTrue (list_all (λ b. not (eqb b space)) word)

both_unspaced : (word more : List ℕ) → Unspaced word → Unspaced more → Unspaced (word ++ colon ∷ more)
both_unspaced word more h k = list_all-append (λ b. not (eqb b space)) word (colon ∷ more) ∙ is_true_both _ _ h k

joined : (text word after more rest : List ℕ) → text ≡ word ++ colon ∷ after → after ≡ more ++ space ∷ rest → text ≡ (word ++ colon ∷ more) ++ space ∷ rest
joined text word after more rest e f = e ∙ ap (λ r. word ++ colon ∷ r) f ∙ sym (append_assoc word (colon ∷ more) (space ∷ rest))

parted : (word more : List ℕ) → is_number word ≡ true → pieces colon (word ++ colon ∷ more) ≡ word ∷ pieces colon more
parted word more right = piece_to_mark colon word more (number_unmarked colon refl word right)

alone : (word : List ℕ) → is_number word ≡ true → pieces colon word ≡ word ∷ []
alone word right = piece_to_end colon word (number_unmarked colon refl word right)

abbrev before : List ℕ → List (List ℕ) → List (List ℕ)
before word words = word ∷ words

abbrev as_key : Result ℕ BadWhy → Result Key BadWhy
as_key read = read >>= λ n. Ok (record { 0 = n })

key_read : (n : ℕ) (key : Key) (word : List ℕ) → is_number word ≡ true → decimal 0 word ≡ n → n ≤ 65535 → key ≡ record { 0 = n } → key_of word ≡ Ok key
unfolding key_of
key_read n key word right value few same = ap as_key (number_within 0 65535 n word right value (omega arith) few) ∙ ap (λ (k : Key). Ok k) (sym same)

value_read : (n : ℕ) (word : List ℕ) → is_number word ≡ true → decimal 0 word ≡ n → n < 2 ^ 32 → value_of word ≡ Ok n
unfolding value_of
value_read n word right value small = number_within 0 (2 ^ 64 - 1) n word right value (omega arith) (omega arith)

-- ---- what stands behind an act's word

abbrev get_by : List (List ℕ) → Result Act BadWhy
get_by words = spelled (only_one words) >>= λ word. key_of word >>= λ key. Ok (Get key)

abbrev as_get : Result Key BadWhy → Result Act BadWhy
as_get read = read >>= λ key. Ok (Get key)

pub gets : (n : ℕ) (key : Key) (text rest : List ℕ) → BeginsWith n text (space ∷ rest) → n ≤ 65535 → key ≡ record { 0 = n } → SaysTo get_of space (Get key) text rest
unfolding get_of only_one
gets n key text rest b few same = record {
  word = b.word;
  parts = b.parts;
  unmarked = number_unmarked space refl b.word b.right;
  said = ap get_by (alone b.word b.right) ∙ ap as_get (key_read n key b.word b.right b.value few same);
}

abbrev set_by : List (List ℕ) → Result Act BadWhy
set_by words = spelled (only_two words) >>= λ parts. key_of parts.0 >>= λ key. value_of parts.1 >>= λ value. Ok (Set key value)

abbrev set_at : List ℕ → Result Key BadWhy → Result Act BadWhy
set_at word read = read >>= λ key. value_of word >>= λ value. Ok (Set key value)

abbrev as_set : Key → Result ℕ BadWhy → Result Act BadWhy
as_set key read = read >>= λ value. Ok (Set key value)

pub sets : (n : ℕ) (key : Key) (value : ℕ) (text after rest : List ℕ) → BeginsWith n text (colon ∷ after) → n ≤ 65535 → key ≡ record { 0 = n } → BeginsWith value after (space ∷ rest)
    → SaysTo set_of space (Set key value) text rest
unfolding set_of only_one only_two
sets n key value text after rest b few same v = record {
  word = b.word ++ colon ∷ v.word;
  parts = joined text b.word after v.word rest b.parts v.parts;
  unmarked = both_unspaced b.word v.word (number_unmarked space refl b.word b.right) (number_unmarked space refl v.word v.right);
  said =
      ap set_by (parted b.word v.word b.right ∙ ap (before b.word) (alone v.word v.right))
      ∙ ap (set_at v.word) (key_read n key b.word b.right b.value few same)
      ∙ ap (as_set key) (value_read value v.word v.right v.value v.small);
}

abbrev add_by : List (List ℕ) → Result Act BadWhy
add_by words = spelled (only_three words) >>= λ parts. key_of parts.0 >>= λ key. number_in 0 31 parts.1 >>= λ register. value_of parts.2 >>= λ amount. Ok (Add key register amount)

abbrev add_at : List ℕ → List ℕ → Result Key BadWhy → Result Act BadWhy
add_at first second read = read >>= λ key. number_in 0 31 first >>= λ register. value_of second >>= λ amount. Ok (Add key register amount)

abbrev add_from : Key → List ℕ → Result ℕ BadWhy → Result Act BadWhy
add_from key word read = read >>= λ register. value_of word >>= λ amount. Ok (Add key register amount)

abbrev as_add : Key → ℕ → Result ℕ BadWhy → Result Act BadWhy
as_add key register read = read >>= λ amount. Ok (Add key register amount)

pub adds : (n : ℕ) (key : Key) (register amount : ℕ) (text after more rest : List ℕ) → BeginsWith n text (colon ∷ after) → n ≤ 65535 → key ≡ record { 0 = n }
    → BeginsWith register after (colon ∷ more) → register ≤ 31 → BeginsWith amount more (space ∷ rest) → SaysTo add_of space (Add key register amount) text rest
unfolding add_of only_one only_two only_three
adds n key register amount text after more rest b few same r low a = record {
  word = b.word ++ colon ∷ (r.word ++ colon ∷ a.word);
  parts = joined text b.word after (r.word ++ colon ∷ a.word) rest b.parts (joined after r.word more a.word rest r.parts a.parts);
  unmarked =
      both_unspaced b.word (r.word ++ colon ∷ a.word) (number_unmarked space refl b.word b.right)
      (both_unspaced r.word a.word (number_unmarked space refl r.word r.right) (number_unmarked space refl a.word a.right));
  said =
      ap add_by (parted b.word (r.word ++ colon ∷ a.word) b.right ∙ ap (before b.word) (parted r.word a.word r.right ∙ ap (before r.word) (alone a.word a.right)))
      ∙ ap (add_at r.word a.word) (key_read n key b.word b.right b.value few same)
      ∙ ap (add_from key a.word) (number_within 0 31 register r.word r.right r.value (omega arith) low)
      ∙ ap (as_add key register) (value_read amount a.word a.right a.value a.small);
}

-- ---- acts

pub says_get : (act : Act) (text after rest : List ℕ) → text ≡ codes "get:" ++ after → SaysTo get_of space act after rest → SaysTo act_of space act text rest
unfolding act_of act_by cut_at
says_get act text after rest e s = record { word = codes "get:" ++ s.word; parts = e ∙ ap (λ r. codes "get:" ++ r) s.parts; unmarked = s.unmarked; said = s.said }

pub says_set : (act : Act) (text after rest : List ℕ) → text ≡ codes "set:" ++ after → SaysTo set_of space act after rest → SaysTo act_of space act text rest
unfolding act_of act_by cut_at
says_set act text after rest e s = record { word = codes "set:" ++ s.word; parts = e ∙ ap (λ r. codes "set:" ++ r) s.parts; unmarked = s.unmarked; said = s.said }

pub says_add : (act : Act) (text after rest : List ℕ) → text ≡ codes "add:" ++ after → SaysTo add_of space act after rest → SaysTo act_of space act text rest
unfolding act_of act_by cut_at
says_add act text after rest e s = record { word = codes "add:" ++ s.word; parts = e ∙ ap (λ r. codes "add:" ++ r) s.parts; unmarked = s.unmarked; said = s.said }

-- ---- steps

pub step_at_home : (sites : List SiteLine) (site : SiteId) (act : Act) (text rest : List ℕ) → SaysTo act_of space act text rest
    → SaysTo (step_of sites (Some site)) space (record { site = site; act = act }) text rest
unfolding step_of
step_at_home sites site act text rest s = record {
  word = s.word;
  parts = s.parts;
  unmarked = s.unmarked;
  said = ap (λ (read : Result Act BadWhy). read >>= λ done. Ok (record { site = site; act = done })) s.said;
}

abbrev cut_or : List ℕ → ℕ → Bool → Option (List ℕ × List ℕ)
cut_or rest digit here = cond here (Some ([], slash ∷ rest)) (Some (digit ∷ [], rest))

abbrev there_by : List SiteLine → Option (List ℕ × List ℕ) → Result Step BadWhy
there_by sites cut = spelled cut >>= λ parts. global_step sites parts.0 (act_of parts.1)

abbrev as_step : Act → Result SiteId BadWhy → Result Step BadWhy
as_step act read = read >>= λ site. Ok (record { site = site; act = act })

pub step_there : (sites : List SiteLine) (site : SiteId) (act : Act) (text after rest : List ℕ) → NamesSite sites slash site text after → SaysTo act_of space act after rest
    → SaysTo (step_of sites None) space (record { site = site; act = act }) text rest
unfolding step_of global_step cut_at
step_there sites site act text after rest n s = record {
  word = n.digit ∷ slash ∷ s.word;
  parts = n.parts ∙ ap (λ r. n.digit ∷ slash ∷ r) s.parts;
  unmarked = is_true_both _ _ (no_mark is_digit space refl n.digit n.right) s.unmarked;
  said =
      ap (λ here. there_by sites (cut_or s.word n.digit here)) (not_true (eqb n.digit slash) (no_mark is_digit slash refl n.digit n.right))
      ∙ ap (global_step sites (n.digit ∷ [])) s.said
      ∙ ap (as_step act) n.said;
}

-- one usual step more
module _ (sites : List SiteLine) (home : Option SiteId) (step : Step) (text rest : List ℕ) (s : SaysTo (step_of sites home) space step text rest) where
  pub usual_more : (front : List Step) → behind (front ++ step ∷ []) (steps_of sites home (pieces space rest)) ≡ behind front (steps_of sites home (pieces space text))
  usual_more front =
      sym (ap (λ words. behind front (steps_of sites home words)) (ap (pieces space) s.parts ∙ piece_to_mark space s.word rest s.unmarked)
      ∙ goes_on sites home front s.word (pieces space rest) step s.said)

  pub usual_shorter : length rest < length text
  usual_shorter = omega (arith, ap length s.parts, length-append s.word (space ∷ rest))
