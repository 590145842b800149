-- Laws for Withdraw: gPAs in a row, one place more, and writes in one page at places apart, which come in either order.
use mathlib.Core.Path.{◌≡◌, refl, ◌∙◌, ap}
use mathlib.Core.Bool.{Bool}
use mathlib.Core.List.{List, [], ◌∷◌, ◌++◌, append_assoc}
use Prim.Native.Nat.{ℕ, suc, ◌+◌, ◌*◌, ◌<◌, ◌≤◌}
use native.Mathlib.Omega.{arith}
use native.Mathlib.Nat.{zero-add}
use lib.ListN.{length, get_or, set, take, length-append}
use lib.Seq.{sets, get_or-set_same, set-get_or, set-set, set_comm, length-take-le, take-suc}
use Rattle.rules.specs.Words.{places}
use Rattle.rules.specs.Machine.{written}
use Rattle.rules.specs.Calls.{gpas}
use Rattle.laws.proofs.Numbers.{length_little}
use Rattle.laws.proofs.Ranges.{places_append}

-- ---- gPAs

pub gpas_append : (ps qs : List ℕ) → gpas (ps ++ qs) ≡ gpas ps ++ gpas qs
unfolding gpas
gpas_append [] qs = refl
gpas_append (p ∷ ps) qs = rw (gpas_append ps qs, append_assoc)

pub length_gpas : (ps : List ℕ) → length (gpas ps) ≡ 8 * length ps
unfolding gpas
length_gpas [] = refl
length_gpas (p ∷ ps) = rw (length-append _ (gpas ps), length_little 8 _, length_gpas ps) (omega arith)

-- ---- places

module _ {A : Type 0} (test : A → Bool) (xs : List A) where
  -- one element more
  pub places_more : (p : ℕ) (d : A) → p < length xs
      → places test 0 (take (suc p) xs) ≡ places test 0 (take p xs) ++ places test p (get_or xs p d ∷ [])
  places_more p d h =
      rw (take-suc xs p d h, places_append test 0 (take p xs) (get_or xs p d ∷ [])) (rw (length-take-le p xs (omega arith), zero-add))

-- ---- writes

module _ {A : Type 0} where
  set_sets : (l : List A) (i j : ℕ) (x : A) (ys : List A) → i < j → set (sets l j ys) i x ≡ sets (set l i x) j ys
  set_sets l i j x [] h = refl
  set_sets l i j x (y ∷ ys) h =
      set_sets (set l j y) i (suc j) x ys (omega arith) ∙ ap (λ l. sets l (suc j) ys) (set_comm l j i y x (λ e. omega arith))

  -- two runs of stores, the first before the second
  pub sets_apart : (l : List A) (i j : ℕ) (xs ys : List A) → i + length xs ≤ j → sets (sets l j ys) i xs ≡ sets (sets l i xs) j ys
  sets_apart l i j [] ys h = refl
  sets_apart l i j (x ∷ xs) ys h =
      ap (λ l. sets l (suc i) xs) (set_sets l i j x ys (omega arith)) ∙ sets_apart (set l i x) (suc i) j xs ys (omega arith)

module _ (rows : List (List ℕ)) (p : ℕ) where
  -- nothing written
  pub written_none : (o : ℕ) → written p o [] rows ≡ rows
  unfolding written
  written_none o = set-get_or rows p []

  -- bytes in one page, and bytes after them
  pub written_apart : (i j : ℕ) (xs ys : List ℕ) → p < length rows → i + length xs ≤ j
      → written p i xs (written p j ys rows) ≡ written p j ys (written p i xs rows)
  unfolding written
  written_apart i j xs ys h k =
      rw (
        get_or-set_same rows p (sets (get_or rows p []) j ys) [] h,
        get_or-set_same rows p (sets (get_or rows p []) i xs) [] h,
        set-set,
        set-set,
        sets_apart (get_or rows p []) i j xs ys k,
      )
