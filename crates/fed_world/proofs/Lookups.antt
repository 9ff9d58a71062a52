-- What a look-up by place finds in a slice.
use Rattle.std.proofs.Common.{◌≡◌, ℕ, Option, Some, None, List, get_or, length, ltb, slice_get, refl, sym}
use Rattle.std.specs.Option.{IfSome, is_some, option_map}
use Rattle.std.proofs.lemmas.Bool.{ltb-false, ltb-true}
use Rattle.std.proofs.lemmas.Option.{slice_get_past, slice_get_read}

pub found_in_slice : {R A : Type 0} (now : R → A) (xs : List A) (n : ℕ) (found : Option R) → is_some found ≡ ltb n (length xs) → IfSome found (λ x. now x ≡ get_or xs n (now x)) → option_map now found ≡ slice_get xs n
found_in_slice now xs n None within is = sym (slice_get_past xs n (ltb-false n (length xs) (sym within)))
found_in_slice now xs n (Some x) within is = sym (slice_get_read xs (length xs) n (now x) refl (ltb-true n (length xs) (sym within)) is)
