-- Laws of the parts of a buffer: what is read and written in a part is read and written in the buffer.
use mathlib.Core.Path.{◌≡◌, refl, sym, ◌∙◌, ap}
use mathlib.Core.List.{List, [], ◌++◌, append-nil, append_assoc}
use Prim.Native.Nat.{ℕ, zero, suc, ◌+◌, ◌-◌, ◌*◌, ◌/◌, ◌<◌, ◌≤◌}
use native.Mathlib.Omega.{arith}
use native.Mathlib.Nat.{mul-div_cancel_left, zero-add, le-div_iff_mul-le, mul_comm, mul-suc, add_comm}
use lib.ListN.{length, get_or, set, drop, length-append, length-drop, drop_of_length-le, replicate, replicate-append-replicate}
use lib.Seq.{sets, length-sets, length-take-le, take_all, drop-drop, sets-eq, take_at, drop_at}
use borrow.Rule.Slice.PartMut.{mid_of, put_mid}
use Rattle.rules.specs.Words.{number}
use Rattle.rules.specs.Machine.{written, zeros}
use Rattle.rules.specs.Flat.{chop, parts, join}
use Rattle.laws.proofs.Numbers.{length_zeros}
use Rattle.laws.proofs.Chop.{join_chop, length_chop, length_part, chop_read, chop_stores, chop_put, chop_number}

module _ {A : Type 0} where
  pub length_parts : (size : ℕ) (l : List A) → length (parts size l) ≡ length l / size
  unfolding parts
  length_parts size l = length_chop (length l / size) size l

  -- buffers of one length have as many parts
  pub same_parts : (size : ℕ) (l l' : List A) → length l' ≡ length l → length (parts size l') ≡ length (parts size l)
  same_parts size l l' e = length_parts size l' ∙ ap (λ n. n / size) e ∙ sym (length_parts size l)

  -- the parts of a buffer that has n of them
  pub parts_chop : (n size : ℕ) (l : List A) → 0 < size → length l ≡ size * n → parts size l ≡ chop n size l
  unfolding parts
  parts_chop n size l pos e = rw (e, mul-div_cancel_left n pos)

  -- joined, they are the buffer
  pub join_parts : (n size : ℕ) (l : List A) → 0 < size → length l ≡ size * n → join (parts size l) ≡ l
  join_parts n size l pos e = rw (parts_chop n size l pos e) (join_chop n size l e)

  -- an element of a part
  pub parts_read : (size : ℕ) (l : List A) (p o : ℕ) (d : A) → p < length (parts size l) → o < size
      → get_or (get_or (parts size l) p []) o d ≡ get_or l (size * p + o) d
  unfolding parts
  parts_read size l p o d h b = chop_read (length l / size) size l p o d (rw length_parts at h) b

-- a number in a part
pub parts_number : (size : ℕ) (l : List ℕ) (p o w : ℕ) → p < length (parts size l) → o + w ≤ size
    → number w (get_or (parts size l) p []) o ≡ number w l (size * p + o)
unfolding parts
parts_number size l p o w h b = chop_number (length l / size) size l p o w (rw length_parts at h) b

-- bytes written in a part
pub parts_written : (size : ℕ) (l : List ℕ) (p o : ℕ) (vs : List ℕ) → p < length (parts size l) → o + length vs ≤ size
    → parts size (sets l (size * p + o) vs) ≡ written p o vs (parts size l)
unfolding parts written
parts_written size l p o vs h b = rw length-sets (chop_stores (length l / size) size l p o vs (rw length_parts at h) b)

-- part p ends within the buffer
pub part_within : (size : ℕ) (l : List ℕ) (p : ℕ) → 0 < size → p < length (parts size l) → size * p + size ≤ length l
part_within size l p pos h = omega (arith, (le-div_iff_mul-le pos).0 (rw length_parts at h), mul_comm size p)

-- a part has its size
pub length_row : (size : ℕ) (l : List ℕ) (p : ℕ) → 0 < size → p < length (parts size l) → length (get_or (parts size l) p []) ≡ size
unfolding parts
length_row size l p pos h = length_part (length l / size) size l p (rw length_parts at h) (part_within size l p pos h)

-- a whole part put in its place
pub parts_put : (size : ℕ) (l : List ℕ) (p : ℕ) (new : List ℕ) → 0 < size → p < length (parts size l) → length new ≡ size
    → parts size (put_mid (size * p) size l new) ≡ set (parts size l) p new
unfolding parts
parts_put size l p new pos h f =
    let within : size * p + size ≤ length l = part_within size l p pos h in
    let same : length (put_mid (size * p) size l new) ≡ length l =
    simp (length-append, length-drop) (omega (arith, length-take-le (size * p) l (omega arith))) in
    rw same (chop_put (length l / size) size l p new (rw length_parts at h) within f)

-- bytes stored at the front of what lies from a on are stored at a
pub sets_tail : (a : ℕ) (l vs : List ℕ) → a + length vs ≤ length l
    → put_mid a (length l - a) l (sets (mid_of a (length l - a) l) 0 vs) ≡ sets l a vs
sets_tail a l vs h =
    let tail : mid_of a (length l - a) l ≡ drop a l = take_all (length l - a) (drop a l) (omega (arith, length-drop a l)) in
    let none : drop (length l - a) (drop a l) ≡ [] = drop_of_length-le (drop a l) {i = length l - a} (omega (arith, length-drop a l)) in
    rw (tail, none, append-nil (sets (drop a l) 0 vs), sets-eq vs (drop a l) 0 (omega (arith, length-drop a l)), sets-eq vs l a h)
    (simp (zero-add, drop-drop, append_assoc))

-- the parts of zeros are zeros
pub chop_zeros : (n size : ℕ) → chop n size (zeros (size * n)) ≡ replicate n (zeros size)
unfolding chop zeros
chop_zeros zero size = refl
chop_zeros (suc n) size =
    let split : zeros (size * suc n) ≡ zeros size ++ zeros (size * n) =
    ap zeros (mul-suc size n ∙ add_comm (size * n) size) ∙ sym (replicate-append-replicate size (size * n) 0) in
    rw (
      split,
      take_at (zeros size) (zeros (size * n)) size (length_zeros size),
      drop_at (zeros size) (zeros (size * n)) size (length_zeros size),
      chop_zeros n size,
    )

pub parts_zeros : (n size : ℕ) → 0 < size → parts size (zeros (size * n)) ≡ replicate n (zeros size)
parts_zeros n size pos = parts_chop n size (zeros (size * n)) pos (length_zeros (size * n)) ∙ chop_zeros n size
