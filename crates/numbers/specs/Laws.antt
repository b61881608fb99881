-- What is promised of the numbers of a grid file, as statements. Definitions only.
--
--   Bytes bs      every entry is a byte; a list with the entry 256 could be read, and no file has one
--   Codec         read after write: the bytes of a number below 2^21, wherever they stand, are read as that number; write after read: any
--                 bytes that are accepted are those of the number read, and it is below 2^21
--
-- Assumes nothing.
use Rattle.std.specs.Prelude.{◌≡◌, List, ◌++◌, ℕ, ◌+◌, ◌≤◌, ◌<◌, length, get_or}
use Rattle.std.proofs.Math.Seq.{slice}
use Rattle.paper.specs.Outcome.{accepted}
use Rattle.numbers.specs.Numbers.{highest, bytes_of, found, number_at}

abbrev pub Bytes : List ℕ → Type 0
Bytes bs = (i : ℕ) → i < length bs → get_or bs i 0 < 256

pub record Codec : Type 0 where
  pub read_written : (before after : List ℕ) (v : ℕ) → v ≤ highest
      → number_at (before ++ (bytes_of v ++ after)) (length before) ≡ accepted (found v (length before + length (bytes_of v)))
  pub written_read : (bs : List ℕ) (i v j : ℕ) → Bytes bs → number_at bs i ≡ accepted (found v j)
      → (v ≤ highest) × (j ≤ length bs) × (j ≡ i + length (bytes_of v)) × (slice i j bs ≡ bytes_of v)
