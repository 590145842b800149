-- Bytes copied one by one: none yet, one more, and all of them.
-- Assumes nothing.
use Rattle.std.proofs.Common.{◌≡◌, refl, ap, ℕ, ◌+◌, ◌<◌, ◌≤◌, List, length, get_or, set, take, add-one}
use Rattle.std.proofs.Math.Nat.{zero-add}
use Rattle.std.proofs.lemmas.List.{take_all}
use Rattle.std.proofs.Math.Seq.{sets}
use Rattle.laws.proofs.Widths.{sets_more}

module _ (s bytes : List ℕ) where
  pub none_yet : s ≡ sets s 0 (take 0 bytes)
  none_yet = refl

  pub one_more : (i : ℕ) (now : List ℕ) → now ≡ sets s 0 (take i bytes) → i < length bytes → set now i (get_or bytes i 0) ≡ sets s 0 (take (i + 1) bytes)
  one_more i now e h = rw (e, add-one) (rw zero-add at (sets_more s 0 bytes i 0 h))

  pub all_copied : (i : ℕ) → length bytes ≤ i → sets s 0 (take i bytes) ≡ sets s 0 bytes
  all_copied i h = ap (sets s 0) (take_all i bytes h)
