-- Laws of chop and join, over the number of parts and their size: the way there and back, what a part is, and what a write into the list
-- does to the parts.
use mathlib.Core.Path.{◌≡◌, refl, sym, ◌∙◌, ap}
use mathlib.Core.List.{List, [], ◌∷◌, ◌++◌, append_assoc, append-nil}
use Prim.Native.Nat.{ℕ, zero, suc, ◌+◌, ◌*◌, ◌<◌, ◌≤◌}
use native.Mathlib.Omega.{arith}
use native.Mathlib.Nat.{zero-add, add-zero, add-suc, add_comm, add_assoc, mul-zero, mul-suc}
use lib.ListN.{length, get_or, take, drop, set, take-append-drop, length-drop, drop_of_length-le}
use lib.Seq.{sets, sets-eq, length-take-le, take_at, drop_at, drop-drop, take-set-lt, take-set-le, drop-set-lt, drop-set-add}
use lib.Seq.{get_or-take, get_or-drop, get_or-set_same, set-get_or, set-set}
use borrow.Rule.Slice.PartMut.{put_mid}
use Rattle.rules.specs.Words.{number}
use Rattle.rules.specs.Flat.{chop, join}
use Rattle.laws.proofs.Numbers.{number_same}

module _ {A : Type 0} where
  empty : (l : List A) → length l ≡ 0 → l ≡ []
  empty [] h = refl
  empty (x ∷ xs) h = absurd (omega arith)

  -- the parts joined are the list again
  pub join_chop : (n size : ℕ) (l : List A) → length l ≡ size * n → join (chop n size l) ≡ l
  unfolding chop join
  join_chop zero size l h = sym (empty l (omega arith))
  join_chop (suc n) size l h =
      ap {B = List A} (λ r. take size l ++ r) (join_chop n size (drop size l) (omega (arith, length-drop size l, mul-suc size n))) ∙ take-append-drop size l

  -- parts of one size, joined, are chopped into the same parts again
  pub chop_join : (size : ℕ) (parts : List (List A)) → ((p : ℕ) → p < length parts → length (get_or parts p []) ≡ size)
      → chop (length parts) size (join parts) ≡ parts
  unfolding chop join
  chop_join size [] h = refl
  chop_join size (part ∷ parts) h =
      let sized : length part ≡ size = h 0 (omega arith) in
      rw (take_at, drop_at part (join parts) size sized)
      (ap {B = List (List A)} (λ r. part ∷ r) (chop_join size parts (λ p b. h (suc p) (omega arith))))

  -- there are n parts
  pub length_chop : (n size : ℕ) (l : List A) → length (chop n size l) ≡ n
  unfolding chop
  length_chop zero size l = refl
  length_chop (suc n) size l = ap suc (length_chop n size (drop size l))

  -- part p is the `size` elements from size * p on
  pub part : (n size : ℕ) (l : List A) (p : ℕ) → p < n → get_or (chop n size l) p [] ≡ take size (drop (size * p) l)
  unfolding chop
  part zero size l p h = absurd (omega arith)
  part (suc n) size l zero h = rw mul-zero
  part (suc n) size l (suc p) h = part n size (drop size l) p (omega arith) ∙ rw (drop-drop, mul-suc, add_comm (size * p) size)

  -- each part has that size
  pub length_part : (n size : ℕ) (l : List A) (p : ℕ) → p < n → size * p + size ≤ length l → length (get_or (chop n size l) p []) ≡ size
  length_part n size l p h e = rw part (length-take-le size (drop (size * p) l) (omega (arith, length-drop (size * p) l)))

  -- element o of part p is element size * p + o of the list
  pub chop_read : (n size : ℕ) (l : List A) (p o : ℕ) (d : A) → p < n → o < size
      → get_or (get_or (chop n size l) p []) o d ≡ get_or l (size * p + o) d
  chop_read n size l p o d h b = rw (part, get_or-take, get_or-drop)

  -- a store at that element of the list is a store into part p
  pub chop_store : (n size : ℕ) (l : List A) (p o : ℕ) (v : A) → p < n → o < size
      → chop n size (set l (size * p + o) v) ≡ set (chop n size l) p (set (get_or (chop n size l) p []) o v)
  unfolding chop
  chop_store zero size l p o v h b = absurd (omega arith)
  chop_store (suc n) size l zero o v h b = rw (mul-zero, zero-add, take-set-lt, drop-set-lt)
  chop_store (suc n) size l (suc p) o v h b =
      let i : size * suc p + o ≡ size + (size * p + o) = omega arith in
      rw (i, take-set-le size l (size + (size * p + o)) v (omega arith), drop-set-add, chop_store n size (drop size l) p o v (omega arith) b)

  -- and a run of stores that stays within part p is a run of stores into it
  pub chop_stores : (n size : ℕ) (l : List A) (p o : ℕ) (vs : List A) → p < n → o + length vs ≤ size
      → chop n size (sets l (size * p + o) vs) ≡ set (chop n size l) p (sets (get_or (chop n size l) p []) o vs)
  chop_stores n size l p o [] h b = sym (set-get_or (chop n size l) p [])
  chop_stores n size l p o (v ∷ vs) h b =
      let c : List (List A) = chop n size l in
      let i : p < length c = omega (arith, length_chop n size l) in
      rw (← add-suc)
      (chop_stores n size (set l (size * p + o) v) p (suc o) vs h (omega arith)
      ∙ rw (chop_store n size l p o v h (omega arith), get_or-set_same c p (set (get_or c p []) o v) [] i, set-set))

  -- a run of stores over all of a list leaves what was stored
  pub sets_whole : (l vs : List A) → length vs ≡ length l → sets l 0 vs ≡ vs
  sets_whole l vs h = sets-eq vs l 0 (omega arith) ∙ rw (drop_of_length-le l {i = 0 + length vs} (omega arith), append-nil vs)

  -- as many other elements in the place of part p are the new part p
  pub chop_replace : (n size : ℕ) (l : List A) (p : ℕ) (new : List A) → p < n → size * p + size ≤ length l → length new ≡ size
      → chop n size (take (size * p) l ++ (new ++ drop (size * p + size) l)) ≡ set (chop n size l) p new
  chop_replace n size l p new h e b =
      let stored = sets-eq new l (size * p) (omega arith) in
      let whole = sets_whole (get_or (chop n size l) p []) new (omega (arith, length_part n size l p h e)) in
      rw (stored, append_assoc, b, whole) at (simp add-zero at (chop_stores n size l p 0 new h (omega arith)))

  -- the same, as a part of a mutable slice comes back
  pub chop_put : (n size : ℕ) (l : List A) (p : ℕ) (new : List A) → p < n → size * p + size ≤ length l → length new ≡ size
      → chop n size (put_mid (size * p) size l new) ≡ set (chop n size l) p new
  chop_put n size l p new h e b = rw drop-drop (chop_replace n size l p new h e b)

-- a number within part p is the number at that place of the list
pub chop_number : (n size : ℕ) (l : List ℕ) (p o w : ℕ) → p < n → o + w ≤ size
    → number w (get_or (chop n size l) p []) o ≡ number w l (size * p + o)
chop_number n size l p o w h b =
    number_same w (get_or (chop n size l) p []) l o (size * p + o) (λ k c. chop_read n size l p (o + k) 0 h (omega arith) ∙ rw add_assoc)
