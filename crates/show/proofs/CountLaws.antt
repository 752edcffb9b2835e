-- The four counts of the loads, or of the stores, are the first of them and the three behind it, each with a slash before it (`counts_whole`).
-- In the eight of an answer they are the first four (`loads_first`), and the last (`stores_last`).
-- Assumes nothing.
use Rattle.std.proofs.Common.{◌≡◌, refl, List, [], ◌∷◌, ◌++◌, append_assoc, append-nil, ℕ, ◌-◌, arith, length, get_or, take, drop, take_all, length-drop}
use Rattle.std.specs.Prelude.{flat_map}
use Rattle.std.proofs.lemmas.List.{get_or-take, get_or-drop}
use Rattle.show.specs.Numbers.{decimal}
use Rattle.show.specs.AnswerText.{slashed, four_counts}

pub counts_whole : (word ns : List ℕ) (i : ℕ) → length ns ≡ 4 → i ≡ 3
    → (word ++ decimal (get_or ns 0 0)) ++ flat_map slashed (take i (take (length ns - 1) (drop 1 ns))) ≡ word ++ four_counts ns 0
unfolding four_counts
counts_whole word (a ∷ b ∷ c ∷ d ∷ []) i four all = rw all (simp (append_assoc, append-nil))
counts_whole word _ i four all = absurd (omega arith)

pub loads_first : (ns : List ℕ) → four_counts (take 4 ns) 0 ≡ four_counts ns 0
unfolding four_counts
loads_first ns = rw (get_or-take 4 ns 0 0 (omega arith), get_or-take 4 ns 1 0 (omega arith), get_or-take 4 ns 2 0 (omega arith), get_or-take 4 ns 3 0 (omega arith)) refl

pub stores_last : (ns : List ℕ) → length ns ≡ 8 → four_counts (take 4 (drop 4 ns)) 0 ≡ four_counts ns 4
unfolding four_counts
stores_last ns eight = rw (take_all 4 (drop 4 ns) (simp length-drop (omega arith))) (simp get_or-drop)
