-- Bytes have one reading as whole frames, and a stop leaves the whole frames that it reaches.
use Rattle.std.proofs.Common.{◌≡◌, ℕ, zero, suc, ◌-◌, ◌<◌, ◌≤◌, true, false, leb, List, [], ◌∷◌, ◌++◌, length, take, drop, Some, refl, sym, ap, subst, ◌∙◌, arith, inl, inr, append_assoc}
use Rattle.std.specs.List.{AllByRecursion}
use Rattle.std.proofs.lemmas.Bool.{cases_lt, le-leb, lt-leb}
use Rattle.std.proofs.lemmas.List.{append-nil, length-append, length-drop, take-append-drop, take-append-le, take_at, drop_at}
use Rattle.byte_numbers.specs.Numbers.{number, number_at}
use Rattle.byte_numbers.proofs.ForCallers.{number_again}
use Rattle.sha2.proofs.Facts256.{length-sha256}
use Rattle.journal_disk.specs.Disk.{Image, MayLeave, stopped, kept_bytes}
use Rattle.journal_disk.specs.Frames.{Frame, Old, New, IsPayload, IsFrame, IsRight, digest_of, written, frame, frame_bytes, frame_size, frames, IsPartOfFrame, AreRight, AreWhole, IsDamagedBehind, whole_within}

-- a digest has 32 bytes, so a written frame is one
pub length-digest_of : (payload : List ℕ) → length (digest_of payload) ≡ 32
unfolding digest_of
length-digest_of payload = length-sha256 (number 2 (length payload) ++ payload)

pub written_is_frame : (payload : List ℕ) → IsPayload payload → IsFrame (written payload)
written_is_frame payload fits = (fits, length-digest_of payload)

-- the length and what follows it, read from the front
length_again : (payload rest : List ℕ) → IsPayload payload → number_at 2 (number 2 (length payload) ++ rest) ≡ Some (length payload, rest)
length_again payload rest fits = number_again 2 (length payload) rest fits

found_is : (p q : ℕ × List ℕ) → Some p ≡ Some q → p ≡ q
found_is p q e = cc

-- two lengths with what follows them
one_length : (a b x y : List ℕ) → IsPayload a → IsPayload b → number 2 (length a) ++ x ≡ number 2 (length b) ++ y → (length a ≡ length b) × (x ≡ y)
one_length a b x y fits_a fits_b e =
    let found = found_is (length a, x) (length b, y) (sym (length_again a x fits_a) ∙ ap (number_at 2) e ∙ length_again b y fits_b) in
    (ap (λ (p : ℕ × List ℕ). p.0) found, ap (λ (p : ℕ × List ℕ). p.1) found)

-- two fronts of one length
one_front : (a b x y : List ℕ) → length a ≡ length b → a ++ x ≡ b ++ y → (a ≡ b) × (x ≡ y)
one_front a b x y sizes e =
    (sym (take_at a x (length a) refl) ∙ ap (take (length a)) e ∙ take_at b y (length a) (sym sizes), sym (drop_at a x (length a) refl) ∙ ap (drop (length a)) e ∙ drop_at b y (length a) (sym sizes))

-- what stands behind two bytes of 0
behind_zeros : (x y : List ℕ) → 0 ∷ 0 ∷ x ≡ 0 ∷ 0 ∷ y → x ≡ y
behind_zeros x y e = ap (drop 2) e

-- a length that isn't 0 isn't two bytes of 0
not_zeros : (payload x y : List ℕ) → 0 < length payload → IsPayload payload → number 2 (length payload) ++ x ≡ 0 ∷ 0 ∷ y → ⊥
not_zeros payload x y some fits e =
    let zeros : number_at 2 (0 ∷ 0 ∷ y) ≡ Some (0, y) = number_again 2 0 y (omega arith) in
    let found = found_is (length payload, x) (0, y) (sym (length_again payload x fits) ∙ ap (number_at 2) e ∙ zeros) in
    omega (arith, some, ap (λ (p : ℕ × List ℕ). p.0) found)

-- no spelling of a frame begins another
pub one_frame : (a b : Frame) (x y : List ℕ) → IsFrame a → IsFrame b → frame_bytes a ++ x ≡ frame_bytes b ++ y → (a ≡ b) × (x ≡ y)
one_frame (Old p) (Old q) x y fits_a fits_b e =
    let lengths = one_length p q (p ++ x) (q ++ y) fits_a.1 fits_b.1 (sym (append_assoc (number 2 (length p)) p x) ∙ e ∙ append_assoc (number 2 (length q)) q y) in
    let payloads = one_front p q x y lengths.0 lengths.1 in
    (ap Old payloads.0, payloads.1)
one_frame (Old p) (New q d) x y fits_a fits_b e =
    absurd (not_zeros p (p ++ x) ((number 2 (length q) ++ (q ++ d)) ++ y) fits_a.0 fits_a.1 (sym (append_assoc (number 2 (length p)) p x) ∙ e))
one_frame (New p c) (Old q) x y fits_a fits_b e =
    absurd (not_zeros q (q ++ y) ((number 2 (length p) ++ (p ++ c)) ++ x) fits_b.0 fits_b.1 (sym (append_assoc (number 2 (length q)) q y) ∙ sym e))
one_frame (New p c) (New q d) x y fits_a fits_b e =
    let inner = behind_zeros ((number 2 (length p) ++ (p ++ c)) ++ x) ((number 2 (length q) ++ (q ++ d)) ++ y) e in
    let lengths = one_length p q ((p ++ c) ++ x) ((q ++ d) ++ y) fits_a.0 fits_b.0 (sym (append_assoc (number 2 (length p)) (p ++ c) x) ∙ inner ∙ append_assoc (number 2 (length q)) (q ++ d) y) in
    let both : length (p ++ c) ≡ length (q ++ d) = omega (arith, length-append p c, length-append q d, lengths.0, fits_a.1, fits_b.1) in
    let bodies = one_front (p ++ c) (q ++ d) x y both lengths.1 in
    let parts = one_front p q c d lengths.0 bodies.0 in
    let payloads = parts.0 in
    let digests = parts.1 in
    (cc, bodies.1)

pub payload_is : (p q : List ℕ) → written p ≡ written q → p ≡ q
payload_is p q e = cc

pub one_payload : (a b : List ℕ) → IsPayload a → IsPayload b → frame a ≡ frame b → a ≡ b
one_payload a b fits_a fits_b e =
    payload_is a b (one_frame (written a) (written b) [] [] (written_is_frame a fits_a) (written_is_frame b fits_b) (ap (λ (x : List ℕ). x ++ []) e)).0

-- a proper prefix of a frame doesn't begin with a whole one
part_is_none : (rest : List ℕ) (f : Frame) (behind : List ℕ) → IsPartOfFrame rest → IsFrame f → rest ≡ frame_bytes f ++ behind → ⊥
part_is_none rest f behind part fits e =
    let longer : frame_bytes f ++ (behind ++ part.lacking) ≡ frame_bytes part.whole ++ [] = sym (append_assoc (frame_bytes f) behind part.lacking) ∙ ap (λ (x : List ℕ). x ++ part.lacking) (sym e) ∙ part.parts ∙ sym (append-nil (frame_bytes part.whole)) in
    let nothing = (one_frame f part.whole (behind ++ part.lacking) [] fits part.is_frame longer).1 in
    omega (arith, part.lacks_some, ap length nothing, length-append behind part.lacking)

one_reading_of : (ps qs : List Frame) (x y : List ℕ) → AllByRecursion IsFrame ps → AllByRecursion IsFrame qs → IsPartOfFrame x → IsPartOfFrame y → frames ps ++ x ≡ frames qs ++ y → ps ≡ qs
one_reading_of [] [] x y all_p all_q part_x part_y e = refl
one_reading_of [] (q ∷ qs) x y all_p all_q part_x part_y e = absurd (part_is_none x q (frames qs ++ y) part_x all_q.0 (e ∙ append_assoc (frame_bytes q) (frames qs) y))
one_reading_of (p ∷ ps) [] x y all_p all_q part_x part_y e = absurd (part_is_none y p (frames ps ++ x) part_y all_p.0 (sym e ∙ append_assoc (frame_bytes p) (frames ps) x))
one_reading_of (p ∷ ps) (q ∷ qs) x y all_p all_q part_x part_y e =
    let first = one_frame p q (frames ps ++ x) (frames qs ++ y) all_p.0 all_q.0 (sym (append_assoc (frame_bytes p) (frames ps) x) ∙ e ∙ append_assoc (frame_bytes q) (frames qs) y) in
    let others = one_reading_of ps qs x y all_p.1 all_q.1 part_x part_y first.1 in
    let here = first.0 in
    cc

pub one_reading : (bytes : List ℕ) (ps qs : List Frame) → AreWhole bytes ps → AreWhole bytes qs → ps ≡ qs
one_reading bytes ps qs a b = one_reading_of ps qs a.rest b.rest a.right.are_frames b.right.are_frames a.is_torn b.is_torn (sym a.parts ∙ b.parts)

-- ---- damaged frames

-- a frame that is wrong isn't one that is right
wrong_is_new : (f : Frame) (payload digest : List ℕ) → IsRight f → (digest ≡ digest_of payload → ⊥) → f ≡ New payload digest → ⊥
wrong_is_new f payload digest right wrong e = wrong (subst IsRight e right)

no_other_of : (ps qs : List Frame) (payload digest x y : List ℕ) → AreRight ps → AreRight qs → IsPartOfFrame x → IsFrame (New payload digest) → (digest ≡ digest_of payload → ⊥)
    → frames ps ++ x ≡ frames qs ++ (frame_bytes (New payload digest) ++ y) → ⊥
no_other_of [] [] payload digest x y right_p right_q part fits wrong e = part_is_none x (New payload digest) y part fits e
no_other_of [] (q ∷ qs) payload digest x y right_p right_q part fits wrong e =
    part_is_none x q (frames qs ++ (frame_bytes (New payload digest) ++ y)) part right_q.are_frames.0 (e ∙ append_assoc (frame_bytes q) (frames qs) (frame_bytes (New payload digest) ++ y))
no_other_of (p ∷ ps) [] payload digest x y right_p right_q part fits wrong e =
    let first = one_frame p (New payload digest) (frames ps ++ x) y right_p.are_frames.0 fits (sym (append_assoc (frame_bytes p) (frames ps) x) ∙ e) in
    wrong_is_new p payload digest right_p.are_right.0 wrong first.0
no_other_of (p ∷ ps) (q ∷ qs) payload digest x y right_p right_q part fits wrong e =
    let tail = frame_bytes (New payload digest) ++ y in
    let first = one_frame p q (frames ps ++ x) (frames qs ++ tail) right_p.are_frames.0 right_q.are_frames.0 (sym (append_assoc (frame_bytes p) (frames ps) x) ∙ e ∙ append_assoc (frame_bytes q) (frames qs) tail) in
    no_other_of ps qs payload digest x y (record { are_frames = right_p.are_frames.1; are_right = right_p.are_right.1 }) (record { are_frames = right_q.are_frames.1; are_right = right_q.are_right.1 }) part fits wrong first.1

pub no_other : (bytes : List ℕ) (found before : List Frame) → AreWhole bytes found → IsDamagedBehind bytes before → ⊥
no_other bytes found before whole damaged =
    no_other_of found before damaged.payload damaged.digest whole.rest damaged.rest whole.right damaged.right whole.is_torn damaged.is_frame damaged.is_wrong (sym whole.parts ∙ damaged.parts)

one_place_of : (ps qs : List Frame) (p1 d1 p2 d2 x y : List ℕ) → AreRight ps → AreRight qs → IsFrame (New p1 d1) → IsFrame (New p2 d2) → (d1 ≡ digest_of p1 → ⊥) → (d2 ≡ digest_of p2 → ⊥)
    → frames ps ++ (frame_bytes (New p1 d1) ++ x) ≡ frames qs ++ (frame_bytes (New p2 d2) ++ y) → ps ≡ qs
one_place_of [] [] p1 d1 p2 d2 x y right_p right_q fits1 fits2 wrong1 wrong2 e = refl
one_place_of [] (q ∷ qs) p1 d1 p2 d2 x y right_p right_q fits1 fits2 wrong1 wrong2 e =
    let tail = frame_bytes (New p2 d2) ++ y in
    let first = one_frame (New p1 d1) q x (frames qs ++ tail) fits1 right_q.are_frames.0 (e ∙ append_assoc (frame_bytes q) (frames qs) tail) in
    absurd (wrong_is_new q p1 d1 right_q.are_right.0 wrong1 (sym first.0))
one_place_of (p ∷ ps) [] p1 d1 p2 d2 x y right_p right_q fits1 fits2 wrong1 wrong2 e =
    let tail = frame_bytes (New p1 d1) ++ x in
    let first = one_frame p (New p2 d2) (frames ps ++ tail) y right_p.are_frames.0 fits2 (sym (append_assoc (frame_bytes p) (frames ps) tail) ∙ e) in
    absurd (wrong_is_new p p2 d2 right_p.are_right.0 wrong2 first.0)
one_place_of (p ∷ ps) (q ∷ qs) p1 d1 p2 d2 x y right_p right_q fits1 fits2 wrong1 wrong2 e =
    let tail1 = frame_bytes (New p1 d1) ++ x in
    let tail2 = frame_bytes (New p2 d2) ++ y in
    let first = one_frame p q (frames ps ++ tail1) (frames qs ++ tail2) right_p.are_frames.0 right_q.are_frames.0 (sym (append_assoc (frame_bytes p) (frames ps) tail1) ∙ e ∙ append_assoc (frame_bytes q) (frames qs) tail2) in
    let others = one_place_of ps qs p1 d1 p2 d2 x y (record { are_frames = right_p.are_frames.1; are_right = right_p.are_right.1 }) (record { are_frames = right_q.are_frames.1; are_right = right_q.are_right.1 }) fits1 fits2 wrong1 wrong2 first.1 in
    let here = first.0 in
    cc

pub one_place : (bytes : List ℕ) (a b : List Frame) → IsDamagedBehind bytes a → IsDamagedBehind bytes b → a ≡ b
one_place bytes a b x y =
    one_place_of a b x.payload x.digest y.payload y.digest x.rest y.rest x.right y.right x.is_frame y.is_frame x.is_wrong y.is_wrong (sym x.parts ∙ y.parts)

pub changed : (before : List Frame) (payload altered digest rest : List ℕ) → AreRight before → IsPayload payload → length altered ≡ length payload → length digest ≡ 32
    → (digest ≡ digest_of altered → ⊥) → IsDamagedBehind (frames before ++ (frame_bytes (New altered digest) ++ rest)) before
changed before payload altered digest rest right fits same size wrong = record {
  right = right;
  payload = altered;
  digest = digest;
  is_frame = (omega (arith, fits, same), size);
  is_wrong = wrong;
  rest = rest;
  parts = refl;
}

-- ---- what a stop leaves

part_take : (n : ℕ) (rest : List ℕ) → IsPartOfFrame rest → IsPartOfFrame (take n rest)
part_take n rest part = record {
  whole = part.whole;
  is_frame = part.is_frame;
  lacking = drop n rest ++ part.lacking;
  lacks_some = omega (arith, part.lacks_some, length-append (drop n rest) part.lacking);
  parts = sym (append_assoc (take n rest) (drop n rest) part.lacking) ∙ ap (λ (x : List ℕ). x ++ part.lacking) (take-append-drop n rest) ∙ part.parts;
}

-- a frame that is cut
pub cut_frame : (n : ℕ) (f : Frame) → IsFrame f → n < frame_size f → IsPartOfFrame (take n (frame_bytes f))
cut_frame n f fits short = record {
  whole = f;
  is_frame = fits;
  lacking = drop n (frame_bytes f);
  lacks_some = omega (arith, length-drop n (frame_bytes f));
  parts = take-append-drop n (frame_bytes f);
}

pub take-past : (n : ℕ) (xs ys : List ℕ) → length xs ≤ n → take n (xs ++ ys) ≡ xs ++ take (n - length xs) ys
take-past n [] ys long = let same : n ≡ n - 0 = omega arith in ap (λ (k : ℕ). take k ys) same
take-past zero (x ∷ xs) ys long = absurd (omega arith)
take-past (suc n) (x ∷ xs) ys long =
    let same : n - length xs ≡ suc n - length (x ∷ xs) = omega arith in
    ap (λ (l : List ℕ). x ∷ l) (take-past n xs ys (omega arith) ∙ ap (λ (k : ℕ). xs ++ take k ys) same)

whole_of : (n : ℕ) (ps : List Frame) (rest : List ℕ) → AreRight ps → IsPartOfFrame rest → AreWhole (take n (frames ps ++ rest)) (whole_within n ps)
whole_of n [] rest right part = record { right = record { are_frames = tt; are_right = tt }; rest = take n rest; parts = refl; is_torn = part_take n rest part }
whole_of n (p ∷ ps) rest right part =
    let grouped : take n (frames (p ∷ ps) ++ rest) ≡ take n (frame_bytes p ++ (frames ps ++ rest)) = ap (take n) (append_assoc (frame_bytes p) (frames ps) rest) in
    elim (cases_lt n (frame_size p)) [
      | inl short ↦
          let test : leb (frame_size p) n ≡ false = lt-leb _ _ short in
          rw test (record {
            right = record { are_frames = tt; are_right = tt };
            rest = take n (frame_bytes p);
            parts = grouped ∙ take-append-le n (frame_bytes p) (frames ps ++ rest) (omega arith);
            is_torn = cut_frame n p right.are_frames.0 short;
          })
      | inr fits ↦
          let test : leb (frame_size p) n ≡ true = le-leb _ _ fits in
          let others = whole_of (n - frame_size p) ps rest (record { are_frames = right.are_frames.1; are_right = right.are_right.1 }) part in
          let taken = take-past n (frame_bytes p) (frames ps ++ rest) fits in
          rw test (record {
            right = record { are_frames = (right.are_frames.0, others.right.are_frames); are_right = (right.are_right.0, others.right.are_right) };
            rest = others.rest;
            parts = grouped ∙ taken ∙ ap (λ (x : List ℕ). frame_bytes p ++ x) others.parts ∙ sym (append_assoc (frame_bytes p) (frames (whole_within (n - frame_size p) ps)) others.rest);
            is_torn = others.is_torn;
          })
    ]

pub whole_left : (n : ℕ) (bytes : List ℕ) (ps : List Frame) → AreWhole bytes ps → AreWhole (take n bytes) (whole_within n ps)
whole_left n bytes ps whole = rw whole.parts (whole_of n ps whole.rest whole.right whole.is_torn)

-- the frames that end within n bytes are the first ones
pub whole_front : (n : ℕ) (ps : List Frame) → whole_within n ps ≡ take (length (whole_within n ps)) ps
whole_front n [] = refl
whole_front n (p ∷ ps) =
    elim (cases_lt n (frame_size p)) [
      | inl short ↦
          let test : leb (frame_size p) n ≡ false = lt-leb _ _ short in
          rw test refl
      | inr fits ↦
          let test : leb (frame_size p) n ≡ true = le-leb _ _ fits in
          rw test (ap (λ (l : List Frame). p ∷ l) (whole_front (n - frame_size p) ps))
    ]

-- a prefix that has at least the synced bytes is left by some cut
pub left_by_some : (image : Image) (left : List ℕ) → MayLeave image left → (cut : ℕ) × ((stopped cut image).bytes ≡ left)
left_by_some image left may =
    let kept : kept_bytes (may.0 - image.synced) image ≡ may.0 = omega (arith, may.1, may.2) in
    (may.0 - image.synced, ap (λ (k : ℕ). take k image.bytes) kept ∙ sym may.3)
