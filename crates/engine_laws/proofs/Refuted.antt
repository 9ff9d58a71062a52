-- A list of lines for each wrong rule, right by it and not serial.
use Rattle.std.proofs.Common.{◌≡◌, ℕ, Some, None, List, [], ◌∷◌, refl, arith}
use Rattle.mdb_base.specs.declared.acts.PlainAct.TheVariants.{Read, Write}
use Rattle.mdb_base.specs.declared.names.Engine.{Engine}
use Rattle.mdb_base.specs.declared.names.Engine.TheVariants.{Locking, Timestamp, Validation, Multiversion}
use Rattle.mdb_base.specs.declared.names.Key.{Key}
use Rattle.mdb_base.specs.declared.names.Tid.{Tid}
use Rattle.mdb_base.specs.declared.replies.Reply.TheVariants.{Done, Value, Ticket}
use Rattle.fed_rules.specs.Runs.{Start, EngineLine, Begins, Acts, Takes, Seals, Commits, Aborts, Access, Got, Wrote, Run}
use Rattle.fed_rules.specs.EngineLines.{IsStart}
use Rattle.engine_laws.specs.WrongRules.{IsRefuted, IsRestartRefuted, locking_until_sealed, timestamps_without_committed_reads, timestamps_without_waits, versions_newest, versions_without_waits, validation_without_prepared, validation_without_committed}

abbrev attempt_of : ℕ → Tid
attempt_of n = record { tx = record { 0 = n }; attempt = 0 }

abbrev first : Tid
first = attempt_of 1

abbrev second : Tid
second = attempt_of 2

abbrev x : Key
x = record { 0 = 1 }

abbrev y : Key
y = record { 0 = 2 }

abbrev empty_start : Engine → Start
empty_start kind = record { kind = kind; rows = []; doubtful = []; counter = 0; published = 0; owner = None }

good_start : (kind : Engine) → IsStart (empty_start kind)
good_start kind = record { numbered = tt; apart = tt }

-- a run with these accesses, the newest first
abbrev live : Tid → ℕ → List Access → Run
live tid age acts = record { tid = tid; age = age; sealed = None; ticket = None; acts = acts }

abbrev sealed : Tid → ℕ → ℕ → List Access → Run
sealed tid age n acts = record { tid = tid; age = age; sealed = Some n; ticket = None; acts = acts }

-- the second reads the old value of what the sealed first one wrote
pub until_sealed_refuted : IsRefuted locking_until_sealed
until_sealed_refuted = record {
  start = empty_start Locking;
  good = good_start Locking;
  lines =
      Commits first ∷ Commits second ∷ Seals second 4 ∷ Acts second (Read x) (Value 0)
      ∷ Seals first 3 ∷ Acts first (Write x 9) Done ∷ Begins second 2 ∷ Begins first 1 ∷ [];
  right = (
    (sealed first 1 3 (Wrote x 9 ∷ []), 3, (refl, refl)),
    (
      (sealed second 2 4 (Got x 0 ∷ []), 4, (refl, refl)),
      (
        (live second 2 (Got x 0 ∷ []), ((refl, refl), refl, refl)),
        (
          (live second 2 [], ((refl, refl), refl)),
          (
            (live first 1 (Wrote x 9 ∷ []), ((refl, refl), refl, refl)),
            (
              (live first 1 [], ((refl, refl), refl)),
              (
                (refl, refl),
                ((refl, refl), tt),
              ),
            ),
          ),
        ),
      ),
    ),
  );
  not_serial = λ serial. let read : 0 ≡ 9 = serial.0.0 in cc;
}

-- the first writes what the younger second one read and committed
pub committed_reads_refuted : IsRefuted timestamps_without_committed_reads
committed_reads_refuted = record {
  start = empty_start Timestamp;
  good = good_start Timestamp;
  lines =
      Commits first ∷ Seals first 1 ∷ Acts first (Write x 9) Done
      ∷ Commits second ∷ Seals second 2 ∷ Acts second (Read x) (Value 0) ∷ Begins second 2 ∷ Begins first 1 ∷ [];
  right = (
    (sealed first 1 1 (Wrote x 9 ∷ []), 1, (refl, refl)),
    (
      (live first 1 (Wrote x 9 ∷ []), ((refl, refl), refl, refl)),
      (
        (live first 1 [], ((refl, refl), refl)),
        (
          (sealed second 2 2 (Got x 0 ∷ []), 2, (refl, refl)),
          (
            (live second 2 (Got x 0 ∷ []), ((refl, refl), refl, refl)),
            (
              (live second 2 [], ((refl, refl), refl)),
              (
                (refl, refl),
                ((refl, refl), tt),
              ),
            ),
          ),
        ),
      ),
    ),
  );
  not_serial = λ serial. let read : 0 ≡ 9 = serial.0.0 in cc;
}

-- the second reads past the older first one, which has written the key and commits later
pub without_waits_refuted : IsRefuted timestamps_without_waits
without_waits_refuted = record {
  start = empty_start Timestamp;
  good = good_start Timestamp;
  lines =
      Commits first ∷ Seals first 1 ∷ Commits second ∷ Seals second 2
      ∷ Acts second (Read x) (Value 0) ∷ Acts first (Write x 9) Done ∷ Begins second 2 ∷ Begins first 1 ∷ [];
  right = (
    (sealed first 1 1 (Wrote x 9 ∷ []), 1, (refl, refl)),
    (
      (live first 1 (Wrote x 9 ∷ []), ((refl, refl), refl, refl)),
      (
        (sealed second 2 2 (Got x 0 ∷ []), 2, (refl, refl)),
        (
          (live second 2 (Got x 0 ∷ []), ((refl, refl), refl, refl)),
          (
            (live second 2 [], ((refl, refl), refl)),
            (
              (live first 1 [], ((refl, refl), refl)),
              (
                (refl, refl),
                ((refl, refl), tt),
              ),
            ),
          ),
        ),
      ),
    ),
  );
  not_serial = λ serial. let read : 0 ≡ 9 = serial.0.0 in cc;
}

-- the second reads the old value of what the prepared first one wrote, and is sealed behind it
pub without_prepared_refuted : IsRefuted validation_without_prepared
without_prepared_refuted = record {
  start = empty_start Validation;
  good = good_start Validation;
  lines =
      Commits first ∷ Commits second ∷ Seals second 4 ∷ Acts second (Read x) (Value 0)
      ∷ Seals first 3 ∷ Acts first (Write x 9) Done ∷ Begins second 2 ∷ Begins first 1 ∷ [];
  right = (
    (sealed first 1 3 (Wrote x 9 ∷ []), 3, (refl, refl)),
    (
      (sealed second 2 4 (Got x 0 ∷ []), 4, (refl, refl)),
      (
        (live second 2 (Got x 0 ∷ []), ((refl, refl), refl, refl)),
        (
          (live second 2 [], ((refl, refl), refl)),
          (
            (live first 1 (Wrote x 9 ∷ []), ((refl, refl), refl, refl)),
            (
              (live first 1 [], ((refl, refl), refl)),
              (
                (refl, refl),
                ((refl, refl), tt),
              ),
            ),
          ),
        ),
      ),
    ),
  );
  not_serial = λ serial. let read : 0 ≡ 9 = serial.0.0 in cc;
}

-- the first is sealed behind the second one, which changed what it read
pub without_committed_refuted : IsRefuted validation_without_committed
without_committed_refuted = record {
  start = empty_start Validation;
  good = good_start Validation;
  lines =
      Commits first ∷ Seals first 4 ∷ Commits second ∷ Seals second 3
      ∷ Acts second (Write x 9) Done ∷ Acts first (Read x) (Value 0) ∷ Begins second 2 ∷ Begins first 1 ∷ [];
  right = (
    (sealed first 1 4 (Got x 0 ∷ []), 4, (refl, refl)),
    (
      (live first 1 (Got x 0 ∷ []), ((refl, refl), refl, refl)),
      (
        (sealed second 2 3 (Wrote x 9 ∷ []), 3, (refl, refl)),
        (
          (live second 2 (Wrote x 9 ∷ []), ((refl, refl), refl, refl)),
          (
            (live second 2 [], ((refl, refl), refl)),
            (
              (live first 1 [], ((refl, refl), refl)),
              (
                (refl, refl),
                ((refl, refl), tt),
              ),
            ),
          ),
        ),
      ),
    ),
  );
  not_serial = λ serial. let read : 0 ≡ 9 = serial.0.0 in cc;
}

-- the first reads what the younger second one wrote and committed
pub newest_version_refuted : IsRefuted versions_newest
newest_version_refuted = record {
  start = empty_start Multiversion;
  good = good_start Multiversion;
  lines =
      Commits first ∷ Seals first 1 ∷ Acts first (Read x) (Value 9)
      ∷ Commits second ∷ Seals second 2 ∷ Acts second (Write x 9) Done ∷ Begins second 2 ∷ Begins first 1 ∷ [];
  right = (
    (sealed first 1 1 (Got x 9 ∷ []), 1, (refl, refl)),
    (
      (live first 1 (Got x 9 ∷ []), ((refl, refl), refl, refl)),
      (
        (live first 1 [], ((refl, refl), refl)),
        (
          (sealed second 2 2 (Wrote x 9 ∷ []), 2, (refl, refl)),
          (
            (live second 2 (Wrote x 9 ∷ []), ((refl, refl), refl, refl)),
            (
              (live second 2 [], ((refl, refl), refl)),
              (
                (refl, refl),
                ((refl, refl), tt),
              ),
            ),
          ),
        ),
      ),
    ),
  );
  not_serial = λ serial. let read : 9 ≡ 0 = serial.1.0.0 in cc;
}

-- the second reads past the older first one, which has written the key and commits later
pub versions_without_waits_refuted : IsRefuted versions_without_waits
versions_without_waits_refuted = record {
  start = empty_start Multiversion;
  good = good_start Multiversion;
  lines =
      Commits first ∷ Seals first 1 ∷ Commits second ∷ Seals second 2
      ∷ Acts second (Read x) (Value 0) ∷ Acts first (Write x 9) Done ∷ Begins second 2 ∷ Begins first 1 ∷ [];
  right = (
    (sealed first 1 1 (Wrote x 9 ∷ []), 1, (refl, refl)),
    (
      (live first 1 (Wrote x 9 ∷ []), ((refl, refl), refl, refl)),
      (
        (sealed second 2 2 (Got x 0 ∷ []), 2, (refl, refl)),
        (
          (live second 2 (Got x 0 ∷ []), ((refl, refl), refl, refl)),
          (
            (live second 2 [], ((refl, refl), refl)),
            (
              (live first 1 [], ((refl, refl), refl)),
              (
                (refl, refl),
                ((refl, refl), tt),
              ),
            ),
          ),
        ),
      ),
    ),
  );
  not_serial = λ serial. let read : 0 ≡ 9 = serial.0.0 in cc;
}

-- the first is in doubt with number 3 and commits; a new one reads what it wrote, and is sealed with number 2
pub starts_again_refuted : IsRestartRefuted Locking
starts_again_refuted = record {
  start = empty_start Locking;
  is_kind = refl;
  good = good_start Locking;
  lines = lines;
  right = (
    (record { tid = first; age = 1; sealed = None; ticket = Some 1; acts = Wrote x 9 ∷ [] }, ((refl, refl), refl, refl)),
    (
      (live first 1 (Wrote x 9 ∷ []), ((refl, refl, refl), refl)),
      (
        (live first 1 [], ((refl, refl), refl)),
        (
          (live second 2 [], refl),
          (
            (refl, refl),
            ((refl, refl), tt),
          ),
        ),
      ),
    ),
  );
  next = next;
  restart = record {
    kind = refl;
    rows = λ key. refl;
    left = (
      record {
        run = record { tid = first; age = 1; sealed = Some 3; ticket = Some 1; acts = Wrote x 9 ∷ [] };
        sealed = (refl, refl);
        ticket = refl;
        writes = refl;
      },
      tt,
    );
    once = (tt, tt);
    published = omega arith;
    counter = refl;
  };
  later = Commits third ∷ Seals third 2 ∷ Acts third (Read x) (Value 9) ∷ Commits first ∷ Begins third 1 ∷ [];
  right_later = (
    (sealed third 1 2 (Got x 9 ∷ []), 2, (refl, refl)),
    (
      (live third 1 (Got x 9 ∷ []), ((refl, refl), refl, refl)),
      (
        (live third 1 [], ((refl, refl), refl)),
        (
          (record { tid = first; age = 3; sealed = Some 3; ticket = Some 1; acts = Wrote x 9 ∷ [] }, 3, (refl, refl)),
          ((refl, refl), tt),
        ),
      ),
    ),
  );
  not_serial = λ serial. let read : 9 ≡ 0 = serial.1.0.0 in cc;
}
  where
    third : Tid
    third = attempt_of 3

    lines : List EngineLine
    lines = Seals first 3 ∷ Takes first (Ticket 1) ∷ Acts first (Write x 9) Done ∷ Aborts second ∷ Begins second 2 ∷ Begins first
        1 ∷ []

    next : Start
    next = record {
      kind = Locking;
      rows = [];
      doubtful = record { tid = first; number = 3; ticket = 1; writes = record { key = x; value = 9 } ∷ [] } ∷ [];
      counter = 0;
      published = 1;
      owner = Some first;
    }
