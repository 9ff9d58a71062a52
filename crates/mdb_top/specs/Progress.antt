-- How far a text has been written, and how far an input has been read.
use Rattle.std.specs.Prelude.{ℕ, ◌≡◌, ◌+◌, ◌≤◌, Bool, true, IsTrue, List, [], ◌++◌, length, take}

-- so many bytes of the text were written behind the others, and no fault was counted
pub record HasPut (tells : Bool) (before now : List ℕ) (faults_before faults_now : ℕ) (bytes : List ℕ) (place : ℕ) : Type 0 where
  pub within : place ≤ length bytes
  pub written : IsTrue tells → now ≡ before ++ take place bytes
  pub faults : faults_now ≡ faults_before

-- so many bytes came behind the text, at most as many as asked for, and none at the end alone
pub record ReadsOn (tells : Bool) (count most : ℕ) (before now old new : List ℕ) : Type 0 where
  pub longer : length new ≡ length old + count
  pub within : count ≤ most
  pub taken : IsTrue tells → old ++ before ≡ new ++ now
  pub end : IsTrue tells → count ≡ 0 → now ≡ []

-- the text is what the source gave so far, at the end all of it
pub record HasTaken (tells at_end : Bool) (before now text : List ℕ) (most : ℕ) : Type 0 where
  pub within : length text ≤ most
  pub taken : IsTrue tells → before ≡ text ++ now
  pub end : IsTrue tells → at_end ≡ true → now ≡ []
