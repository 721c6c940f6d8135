-- Answers that are Ok.
use Rattle.std.proofs.Common.{◌≡◌, ℕ, List, Result, Ok, Err, length, ap}
use Rattle.disk_model.specs.Judge.{plain_read, read_length}
use Rattle.disk_model.specs.declared.answers.Stat.{Stat}
use Rattle.disk_model.specs.declared.answers.FileRead.{FileRead}
use Rattle.disk_model.specs.declared.answers.DiskError.{DiskError}

-- equal names are equal answers
pub ok_names : (names other : List (List ℕ)) → names ≡ other
    → ◌≡◌ {A = Result (List (List ℕ)) DiskError} (Ok names) (Ok other)
ok_names names other same = cc

pub ok_front : (bytes other : List ℕ) → bytes ≡ other
    → ◌≡◌ {A = Result (List ℕ) DiskError} (Ok bytes) (Ok other)
ok_front bytes other same = cc

ok_second : (a b : Stat × List ℕ) → ◌≡◌ {A = Result (Stat × List ℕ) DiskError} (Ok a) (Ok b)
    → length a.1 ≡ length b.1
ok_second a b same = by_pair (pair_of a b same)
  where
    pair_of : (a b : Stat × List ℕ) → ◌≡◌ {A = Result (Stat × List ℕ) DiskError} (Ok a) (Ok b)
        → ◌≡◌ {A = Stat × List ℕ} a b
    pair_of a b same = cc

    by_pair : ◌≡◌ {A = Stat × List ℕ} a b → length a.1 ≡ length b.1
    by_pair e = ap (λ (p : Stat × List ℕ). length p.1) e

err_no_read : (why : DiskError) (value : Stat × List ℕ)
    → ◌≡◌ {A = Result (Stat × List ℕ) DiskError} (Err why) (Ok value) → ⊥
err_no_read why value same = cc

-- the bytes of a whole read
pub read_length_by : (answer : Result FileRead DiskError) (value : Stat × List ℕ)
    → plain_read answer ≡ Ok value
    → read_length answer ≡ length value.1
read_length_by (Ok read) value same = ok_second (read.stat, read.bytes.items) value same
read_length_by (Err why) value same = absurd (err_no_read why value same)
