-- One more record at the end.
use Rattle.std.proofs.Common.{◌≡◌, ℕ, ◌<◌, length, append_assoc, ◌+◌, List, [], ◌∷◌, ◌++◌, map, refl, sym, ap, ◌∙◌, arith}
use Rattle.std.specs.List.{AllByRecursion}
use Rattle.std.proofs.lemmas.List.{map_push}
use Rattle.journal_disk.specs.Frames.{Frame, AreRight, frame_bytes, frame_size, frames, frames_size}
use Rattle.journal_disk.proofs.ForCallers.{frames_push, frames_size_push}
use Rattle.frame_journal.specs.Records.{spelled, spelled_size, last_alone, before_last}

pub all_last : {A : Type 0} (P : A → Type 0) (xs : List A) (x : A) → AllByRecursion P (xs ++ x ∷ []) → AllByRecursion P xs × P x
all_last P [] x all = (tt, all.0)
all_last P (y ∷ xs) x all = let others = all_last P xs x all.1 in ((all.0, others.0), others.1)

module _ {R : Type 0} (shape : R → Frame) where
  pub spelled_size_push : (records : List R) (entry : R) → spelled_size shape (records ++ entry ∷ []) ≡ spelled_size shape records + frame_size (shape entry)
  spelled_size_push records entry = ap frames_size (map_push shape records entry) ∙ frames_size_push (map shape records) (shape entry)

  pub spelled_push : (records : List R) (entry : R) → spelled shape (records ++ entry ∷ []) ≡ spelled shape records ++ frame_bytes (shape entry)
  spelled_push records entry = ap frames (map_push shape records entry) ∙ frames_push (map shape records) (shape entry)

-- ---- the last one

pub last_alone_push : {A : Type 0} (xs : List A) (x : A) → last_alone (xs ++ x ∷ []) ≡ x ∷ []
last_alone_push [] x = refl
last_alone_push (a ∷ []) x = refl
last_alone_push (a ∷ b ∷ xs) x = last_alone_push (b ∷ xs) x

pub split_last : {A : Type 0} (xs : List A) → xs ≡ before_last xs ++ last_alone xs
split_last [] = refl
split_last (a ∷ []) = refl
split_last {A} (a ∷ b ∷ xs) = ap (λ (l : List A). a ∷ l) (split_last (b ∷ xs))

module _ {A : Type 0} (shape : A → Frame) where
  pub spelled_append : (xs ys : List A) → spelled shape (xs ++ ys) ≡ spelled shape xs ++ spelled shape ys
  spelled_append [] ys = refl
  spelled_append (x ∷ xs) ys = ap (λ (l : List ℕ). frame_bytes (shape x) ++ l) (spelled_append xs ys) ∙ sym (append_assoc (frame_bytes (shape x)) (spelled shape xs) (spelled shape ys))

  spelled_size_append : (xs ys : List A) → spelled_size shape (xs ++ ys) ≡ spelled_size shape xs + spelled_size shape ys
  spelled_size_append [] ys = omega arith
  spelled_size_append (x ∷ xs) ys = omega (arith, spelled_size_append xs ys)

  pub size_split : (xs : List A) → spelled_size shape xs ≡ spelled_size shape (before_last xs) + spelled_size shape (last_alone xs)
  size_split xs = ap (spelled_size shape) (split_last xs) ∙ spelled_size_append (before_last xs) (last_alone xs)

  pub right_last : (xs : List A) → AreRight (map shape xs) → AreRight (map shape (last_alone xs))
  right_last [] right = right
  right_last (a ∷ []) right = right
  right_last (a ∷ b ∷ xs) right = right_last (b ∷ xs) (record { are_frames = right.are_frames.1; are_right = right.are_right.1 })

pub all_of_last : {A : Type 0} (P : A → Type 0) (xs : List A) → AllByRecursion P xs → AllByRecursion P (last_alone xs)
all_of_last P [] all = all
all_of_last P (a ∷ []) all = all
all_of_last P (a ∷ b ∷ xs) all = all_of_last P (b ∷ xs) all.1

pub length-last : {A : Type 0} (xs : List A) → 0 < length xs → length (last_alone xs) ≡ 1
length-last [] some = absurd (omega arith)
length-last (a ∷ []) some = refl
length-last (a ∷ b ∷ xs) some = length-last (b ∷ xs) (omega arith)
