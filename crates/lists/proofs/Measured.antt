-- Document 01's worked numbers again, of the lengths and of what is covered, by computation: one table under the claim `measured`.
-- Assumes nothing.
use mathlib.Core.Path.{◌≡◌, refl}
use mathlib.Core.Bool.{true, false}
use mathlib.Core.List.{List, [], ◌∷◌, map}
use Prim.Native.Nat.{ℕ, ◌+◌, ◌*◌}
use Rattle.model.specs.Lists.{upto, pairs, chunks, misaligned, whole_words, phases, run, along, copy_list}
use Rattle.model.specs.Memory.{over}
use Rattle.model.specs.Tally.{total}
use Rattle.lists.specs.Cover.{within, loads_at, stores_at}
use Rattle.lists.specs.Sizes.{eight_byte, four_byte, ones, word_accesses, run_accesses, accesses, fill_accesses, slack}

-- P3's ranges: the destination is 0 to 15, the source 33 to 48.
abbrev around : List ℕ
around = 0 ∷ 8 ∷ 15 ∷ 16 ∷ 32 ∷ 33 ∷ 34 ∷ 35 ∷ 47 ∷ 48 ∷ 49 ∷ []

pub record Measured : Type 0 where
  pub P1 : accesses true 8 0 32 15 ≡ 30
  pub P2 : accesses true 8 0 32 16 ≡ 4
  pub P3 : accesses true 8 0 33 16 ≡ 7
  pub P4 : accesses true 8 3 40 30 ≡ 21
  pub P5 : accesses true 8 1 40 30 ≡ 35
  pub P7 : accesses false 8 8 8 16 ≡ 4
  pub P8 : accesses false 8 9 8 16 ≡ 21
  pub P10 : fill_accesses 8 1 16 ≡ 9
  -- Both bounds are reached: by P5, and by a copy on the 4-byte core.
  pub P5_bound : 4 * accesses true 8 1 40 30 ≡ 30 + slack eight_byte
  pub narrow_bound : 2 * accesses true 4 1 40 18 ≡ 18 + slack four_byte
  pub P3_loads : map (λ x. total (loads_at x) (copy_list 8 0 33 16)) around
      ≡ 0 ∷ 0 ∷ 0 ∷ 0 ∷ 0 ∷ 1 ∷ 1 ∷ 1 ∷ 1 ∷ 1 ∷ 0 ∷ []
  pub P3_stores : map (λ x. total (stores_at x) (copy_list 8 0 33 16)) around
      ≡ 1 ∷ 1 ∷ 1 ∷ 0 ∷ 0 ∷ 0 ∷ 0 ∷ 0 ∷ 0 ∷ 0 ∷ 0 ∷ []

pub measured : Measured
unfolding upto pairs chunks misaligned whole_words phases run along over total within ones word_accesses run_accesses accesses fill_accesses
measured =
    record {
      P1 = refl;
      P2 = refl;
      P3 = refl;
      P4 = refl;
      P5 = refl;
      P7 = refl;
      P8 = refl;
      P10 = refl;
      P5_bound = refl;
      narrow_bound = refl;
      P3_loads = refl;
      P3_stores = refl;
    }
