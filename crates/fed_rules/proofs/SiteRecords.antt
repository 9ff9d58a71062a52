-- What the records of a site say.
use Rattle.std.proofs.Common.{◌≤◌, List, [], ◌∷◌, ◌++◌, arith, ◌≡◌, refl, cond, ap, ◌∙◌}
use Rattle.std.proofs.lemmas.Bool.{le-leb}
use Rattle.fed_rules.specs.declared.records.SiteRecord.{SiteRecord}
use Rattle.fed_rules.specs.Disk.{bytes_of, standing}
use Rattle.fed_rules.specs.SiteRecords.{site_frame, epoch_of}
use Rattle.fed_rules.specs.declared.records.SiteRecord.TheVariants.{Setup, Start, Prepared, Ended, Local, Checkpoint}
use Rattle.fed_rules.specs.SiteSums.{epoch_with}

pub bytes-more : (newer older : List SiteRecord) → bytes_of site_frame older ≤ bytes_of site_frame (newer ++ older)
bytes-more [] older = omega arith
bytes-more (x ∷ newer) older = let h = bytes-more newer older in omega (arith, h)

pub epoch_same : (rs : List SiteRecord) → epoch_with 0 rs ≡ epoch_of rs
epoch_same [] = refl
epoch_same (Start n ∷ rs) = refl
epoch_same (Setup site engine protocol items ∷ rs) = epoch_same rs
epoch_same (Prepared t d n k w ∷ rs) = epoch_same rs
epoch_same (Ended t d ∷ rs) = epoch_same rs
epoch_same (Local t n w ∷ rs) = epoch_same rs
epoch_same (Checkpoint sum ∷ rs) = epoch_same rs

pub standing_all : (rs : List SiteRecord) → standing site_frame 0 rs ≡ rs
standing_all [] = refl
standing_all (x ∷ rs) = ap (λ b. cond b (x ∷ standing site_frame 0 rs) []) (le-leb 0 (bytes_of site_frame rs) (omega arith)) ∙ ap (λ xs. x ∷ xs) (standing_all rs)
